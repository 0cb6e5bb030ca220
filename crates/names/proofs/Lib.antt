pub mod LineLaws
pub mod EventNamesSearch
