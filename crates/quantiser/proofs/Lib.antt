pub mod Published
pub mod AllMarks
mod RunningLaws
mod SubscreenLaws
mod ThresholdLaws
mod ThresholdLoop
mod LevelLaws
mod MapLaws
