pub mod Views
pub mod Shifts
pub mod RunLaws
pub mod Naming
pub mod Receipts
pub mod ReadLaws
pub mod DeliveryLaws
pub mod Fronts
