pub mod Published
pub mod AllMarks
mod RefusalLaws
mod AnswerLaws
mod RowLoop
mod BrickRow
mod WindowLoop
mod FinishedLaws
mod MotifLaws
