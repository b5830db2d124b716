pub mod Bits
pub mod PastEvents
pub mod Bytes
pub mod RoundTrip
