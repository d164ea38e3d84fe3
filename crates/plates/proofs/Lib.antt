pub mod Published
pub mod AllMarks
mod MaskLaws
mod PlaceLaws
mod BitLaws
mod UnionLaws
mod SoundLaws
mod ColorantLaws
mod PlaneLaws
mod NineLaws
mod Refusals
mod WordLaws
mod HighestLaws
mod PackLoops
mod UnpackLoops
