pub mod Bytes
pub mod BytesLaws
pub mod Event
pub mod EventLaws
pub mod Record
pub mod RecordLaws
