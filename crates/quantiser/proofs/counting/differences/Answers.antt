-- `quantiser::counting::differences` meets its contract: `last` is the quotient before. Assumes nothing.
use Prim.Native.Nat.{ℕ, ◌-◌, ◌*◌, ◌/◌, ◌<◌}
use mathlib.Core.Path.{◌≡◌, refl}
use native.Mathlib.Omega.{arith}
use Rattle.std.proofs.Common.{rules}
use lib.ListN.{get_or}
use Rattle.arith.specs.Rounding.{before}
use Rattle.separation.specs.Weights.{scale_of}
use Rattle.quantiser.proofs.MapLaws.{served, mapped}
use Rattle.quantiser.proofs.counting.differences.Goals as goal

pub map-requires : goal.map-requires
map-requires c =
    let d : ℕ = 2 * scale_of c.args.sep in (
      omega arith,
      (
        omega arith,
        (
          omega arith,
          served {held = λ f. f.1.now} {Kept = λ f. f.0.now ≡ c.args.sep} {gives = λ u x. x / d - u} {next = λ u x. x / d} (record { call = λ f x y q kept k. search rules })
              c.args.levels (before (λ i. get_or c.args.levels i 0 / d)) (λ i. refl) _
              (λ i p l h kept.
              let low : i < 8 = omega arith in
              (rw (h, kept) (c.requires.1 i low), rw kept (c.requires.0 i low)))
              _ refl refl,
        ),
      ),
    )

pub returns : goal.returns
returns c =
    let d : ℕ = 2 * scale_of c.args.sep in
    mapped {held = λ f. f.1.now} {Kept = λ f. f.0.now ≡ c.args.sep} {gives = λ u x. x / d - u} {next = λ u x. x / d} (record { call = λ f x y q kept k. search rules })
    c.args.levels (before (λ i. get_or c.args.levels i 0 / d)) (λ i. refl) _ _ 8 c.map.ensures.items refl refl
