-- The specifications of `reader`: the ground reader, its content test and its answers. Assumes nothing.
pub mod Content
pub mod ContentLaws
pub mod Reader
pub mod ReaderLaws
