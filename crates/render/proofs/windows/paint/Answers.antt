-- `render::windows::paint` meets its contract: no cells, or all of them by the thresholds of the table. Assumes nothing.
use mathlib.Core.Path.{sym, ◌∙◌}
use mathlib.Core.Bool.{false≢true}
use borrow.Author.Tests.{eqb-true, eq-eqb}
use Rattle.screen.proofs.Published.{phase_below}
use Rattle.render.proofs.RefusalLaws.{served, places_free, window_kept}
use Rattle.render.proofs.AnswerLaws.{none_painted, cells_length_lem, cells_are, rows_lent, table_of}
use Rattle.render.proofs.windows.paint.Goals as goal

pub returns-then-is_empty : goal.returns-then-is_empty
returns-then-is_empty g c =
    let empty = eqb-true _ 0 (sym c.is_empty.ensures ∙ c.if-is_empty.true) in
    let none = none_painted (cells_length_lem _ _ _ _ ∙ sym (window_kept _ _ _ _ c.requires.served).4 ∙ empty) empty in
    record { cells = none.0; counts = none.1 }

pub unwrap-requires : goal.unwrap-requires
unwrap-requires g c = served _ (c.thresholds.ensures.refused ∙ places_free _ _ (window_kept _ _ _ _ c.requires.served).0 c.places-table.ensures)

pub invariant_of-painter : goal.invariant_of-painter
invariant_of-painter g c = record { listed = ∣ (_, table_of _ _ _ (window_kept _ _ _ _ c.requires.served).0 c.places-table.ensures c.thresholds.ensures.places) ∣₁ }

pub rows-requires : goal.rows-requires
rows-requires g c =
    record {
      phases_low = λ x y. rw (c.requires.phases x y) (phase_below _ (window_kept _ _ _ _ c.requires.served).0 x y);
      rows_lent = rows_lent _ _ _ _ c.requires.served (λ z. false≢true (sym c.if-is_empty.false ∙ c.is_empty.ensures ∙ eq-eqb _ 0 z));
    }

pub returns : goal.returns
returns g c =
    let kept = window_kept _ _ _ _ c.requires.served in
    let table = table_of _ _ _ kept.0 c.places-table.ensures c.thresholds.ensures.places in
    record {
      cells = cells_are _ _ _ _ _ (λ i. c.requires.phases _ _) _ (c.rows.ensures.cells _ table) kept.4;
      counts = c.rows.ensures.counts;
    }
