-- `quantiser::cells::raised` meets its contract: the sum so far is a sum of weights, which stays within the scale.
-- Assumes nothing.
use Prim.Native.Nat.{suc, ◌+◌, ◌*◌, ◌<◌}
use mathlib.Core.Path.{◌≡◌, refl}
use native.Mathlib.Omega.{arith}
use Rattle.std.proofs.Common.{rules}
use lib.ListN.{get_or}
use Rattle.arith.specs.Sum.{sum_below}
use Rattle.quantiser.proofs.MapLaws.{served, mapped}
use Rattle.quantiser.proofs.cells.raised.Goals as goal

pub map-requires : goal.map-requires
unfolding sum_below
map-requires c =
    let start = c.args in (
      omega arith,
      (
        omega arith,
        (
          omega arith,
          served {held = λ f. f.0.now} {Kept = λ f. (f.1.now ≡ start.factor) × (f.2.now ≡ start.scale)} {gives = λ u x. start.factor * (u + x) + start.scale} {next = λ u x. u + x}
              (record { call = λ f x y q kept k. search rules })
              start.weights (λ j. sum_below j (λ k. get_or start.weights k 0)) (λ i. refl) _
              (λ i p l h kept.
              let low : i < 8 = omega arith in
              (rw (h, kept.1) (c.requires.0 (suc i) low), rw kept.0 c.requires.1, rw kept.1 c.requires.2))
              _ refl (refl, refl),
        ),
      ),
    )

pub returns : goal.returns
unfolding sum_below
returns c =
    let start = c.args in
    mapped {held = λ f. f.0.now} {Kept = λ f. (f.1.now ≡ start.factor) × (f.2.now ≡ start.scale)} {gives = λ u x. start.factor * (u + x) + start.scale} {next = λ u x. u + x}
    (record { call = λ f x y q kept k. search rules })
    start.weights (λ j. sum_below j (λ k. get_or start.weights k 0)) (λ i. refl) _ _ 8 c.map.ensures.items refl (refl, refl)
