-- The specifications of `copy`: bytes copied into a lent string. Assumes nothing.
pub mod Copy
pub mod CopyLaws
