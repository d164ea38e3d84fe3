-- The laws of specs/Laws.antt and of specs/Motifs.antt, and that of specs/Finished.antt which is about both renderers, proved.
-- Assumes nothing.
use Rattle.render.specs.Laws.{AnswerRefused, TalliesOnSheet, LoneCellRendered}
use Rattle.render.specs.Finished.{Agreement}
use Rattle.render.specs.Motifs.{MotifCounted, MotifWritten}
use Rattle.render.proofs.AnswerLaws as AnswerLaws
use Rattle.render.proofs.FinishedLaws as FinishedLaws
use Rattle.render.proofs.MotifLaws as MotifLaws

pub answer_refused : AnswerRefused
answer_refused = AnswerLaws.answer_refused

pub tallies_on_sheet : TalliesOnSheet
tallies_on_sheet = AnswerLaws.tallies_on_sheet

pub lone_cell_rendered : LoneCellRendered
lone_cell_rendered = AnswerLaws.lone_cell_rendered

pub agreement : Agreement
agreement = FinishedLaws.agreement

pub motif_counted : MotifCounted
motif_counted = MotifLaws.motif_counted

pub motif_written : MotifWritten
motif_written = MotifLaws.motif_written
