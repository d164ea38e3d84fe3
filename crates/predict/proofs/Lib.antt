pub mod Published
pub mod AllMarks
mod Steps
mod Exact
mod WholeLaws
mod CellularLaws
mod CellularSteps
