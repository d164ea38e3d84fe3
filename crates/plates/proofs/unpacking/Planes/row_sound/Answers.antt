-- `plates::unpacking::Planes::row_sound` meets its contract, by the laws of a row's places (UnpackLoops).
-- Assumes nothing.
use Prim.Native.Nat.{◌+◌, ◌%◌, ◌^◌}
use mathlib.Core.Path.{◌≡◌}
use mathlib.Core.Bool.{true, and-true}
use native.Mathlib.Omega.{arith}
use borrow.Author.Tests.{tests}
use Rattle.std.specs.Int.{from_bool}
use Rattle.std.specs.List.{range_with_len}
use Rattle.std.proofs.Common.{rules}
use Rattle.std.proofs.lemmas.List.FromFn.{length-range_with_len}
use Rattle.std.proofs.lemmas.Iterator.{YieldsList-from_range, YieldsList-from_map}
use Rattle.std.proofs.lemmas.Iterator.Adapters.{fits_from_length, at_most_from_yields_List}
use Rattle.std.proofs.lemmas.Iterator.Consumers.{sum_by_from_yields_List}
use Rattle.plates.specs.Planes.{row_bytes}
use Rattle.plates.specs.Places.{once_at}
use Rattle.plates.proofs.UnpackLoops.{counted_end, counted_last, one_at_most}
use Rattle.plates.proofs.unpacking.Planes.row_sound.Goals as goal
use Rattle.plates.proofs.unpacking.Planes.row_sound.Goals.{then-whole, else-whole}

pub sum-passed-requires-clause-fits : goal.sum-passed-requires-clause-fits
sum-passed-requires-clause-fits c =
    let n = row_bytes c.args.self.window.columns in
    fits_from_length _ _ 8192 (2 ^ 16) (at_most_from_yields_List (YieldsList-from_range 0 n n (rw c.row_bytes.ensures at c.map.ensures.source) (omega arith)) (rw (length-range_with_len 0 n) (omega (arith, c.args.self.window.wide)))) c.map.ensures.closure (omega arith) (λ x r q k. search (rules, one_at_most))

pub returns : goal.returns
returns c =
    let planes = c.args.self in
    let n = row_bytes planes.window.columns in
    let so_far = sum_by_from_yields_List (λ b. from_bool (once_at planes.plane planes.bytes.now (c.args.start + b) 8)) (range_with_len 0 n) _ _ c.sum-passed.ensures.ran
    (YieldsList-from_map _ _ (YieldsList-from_range 0 n n (rw c.row_bytes.ensures at c.map.ensures.source) (omega arith)) c.map.ensures.closure (λ x r q k. search (rules, tests))) in
    rw c.from.ensures
    (elim c.if-whole.branch [
      | then-whole w ↦
          let passes : c.if-whole.last ≡ true = search (rules, tests) in
          let none : planes.window.columns % 8 ≡ 0 = omega (arith, w.if-whole.true) in
          rw (passes, and-true) (counted_end _ _ _ _ so_far none)
      | else-whole w ↦ rw w.last-is (counted_last _ _ _ _ so_far (λ none. omega (arith, w.if-whole.false, none)) w.once_at-last.ensures)
    ])
