pub mod Beginnings
pub mod Fronts
pub mod RoundTrips
pub mod Searches
pub mod Streams
