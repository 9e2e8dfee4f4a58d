pub mod Results
pub mod QueueSteps
pub mod WaitingSteps
pub mod SmallVectors
pub mod Outcomes
pub mod Holding
pub mod Telling
pub mod Standing
