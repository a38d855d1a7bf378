pub mod ListSettled
