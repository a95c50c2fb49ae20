pub mod DeliverySamples
pub mod FitSamples
