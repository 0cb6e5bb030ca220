-- The specifications of `manager`: the log, and what a step, a flush and many steps leave. Assumes nothing.
pub mod Log
pub mod LogLaws
pub mod Manager
pub mod CaseLaws
pub mod ManagerLaws
pub mod Steps
pub mod StepsLaws
