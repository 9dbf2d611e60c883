pub mod Numbers
pub mod RoundTrips
