pub mod Published
pub mod AllMarks
mod Refusals
mod PhaseLaws
mod BrickLaws
mod MotifLaws
mod ShiftLoop
mod FillLoop
mod MadeLaws
mod CornerLaws
