-- `render::worked::WorkedSource::row` meets its contract: a row begins at the phase of its first column and is carried by a.
-- Assumes nothing.
use mathlib.Core.Path.{sym, ◌∙◌}
use native.Mathlib.Nat.{le_of_lt, mod-lt}
use Rattle.arith.proofs.RemainderLaws.{remainder_times}
use Rattle.screen.proofs.Published.{admitted_words, phase_below, steps_right}
use Rattle.render.proofs.RefusalLaws.{served, place_free, place_phase}
use Rattle.render.proofs.worked.WorkedSource.row.Goals as goal

pub unwrap-first-requires : goal.unwrap-first-requires
unwrap-first-requires c = served _ (c.phase_at.ensures.refused ∙ place_free _ _ _ c.args.self.now.admitted c.requires.across c.requires.down)

pub invariant_of-result : goal.invariant_of-result
invariant_of-result c =
    let s = c.args.self.now in
    let first = place_phase c.unwrap-first.ensures c.phase_at.ensures.phase in
    record {
      low = rw first (phase_below _ s.admitted _ _);
      short = rw s.right (le_of_lt (mod-lt _ ((admitted_words _).0 s.admitted).cells_above));
    }

pub returns : goal.returns
returns c =
    let s = c.args.self.now in
    let first = place_phase c.unwrap-first.ensures c.phase_at.ensures.phase in
    λ i. rw (first, s.right) (remainder_times _ s.screen.a s.screen.n i ∙ sym (steps_right s.screen s.admitted _ _ i))
