pub mod Meaning
pub mod Calendars
pub mod Weeklies
pub mod Moments
pub mod Due
