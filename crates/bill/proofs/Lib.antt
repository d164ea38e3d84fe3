pub mod Published
pub mod AllMarks
mod ListLaws
mod JobLaws
mod AnswerLaws
mod CostLaws
mod JobLoop
mod ApartLaws
mod MostLaws
mod EvenLaws
