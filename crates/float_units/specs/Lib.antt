-- What is said of the distance between a result in f64 and an exact value.
pub mod Units
