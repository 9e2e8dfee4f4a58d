mod Changes
mod Puts
mod ReadOnly
