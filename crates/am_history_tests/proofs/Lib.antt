pub mod SampleSets
pub mod DeliveryChanges
pub mod FitSets
pub mod ValidSets
