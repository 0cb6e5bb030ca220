pub mod Event
pub mod EventLaws
