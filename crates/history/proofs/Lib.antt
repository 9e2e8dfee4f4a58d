pub mod PlaceLemmas
pub mod LegalLemmas
