pub mod AllMarks
pub mod Published
mod SplitLaws
mod IndexLaws
mod NumberLaws
mod WroteLaws
mod JoinedLaws
mod LineLoop
mod LineLaws
mod ReadLaws
mod NumbersLoop
mod HeadLaws
mod JudgeLaws
mod FirstLine
mod CountsLoop
mod Fits
mod ProgramLaws
mod OutputLaws
