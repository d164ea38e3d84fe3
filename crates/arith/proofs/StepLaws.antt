-- Runs of values that never fall, and the numbers between two neighbours of such a run.
-- The numbers whose first greater value is that at j are those below it and not below the value before it, and these counts add up.
-- Assumes nothing.
use Prim.Native.Nat.{ℕ, zero, suc, ◌+◌, ◌-◌, ◌≤◌, ◌<◌}
use mathlib.Core.Path.{◌≡◌, sym, ap, ap₂, ◌∙◌}
use native.Mathlib.Nat.{le_refl, le_trans, not-le_of_lt, add-zero, add-suc, add-sub_of_le}
use native.Mathlib.Decide.{dec_lt}
use native.Mathlib.Omega.{arith}
use lib.Dec.{eqb, ltb}
use borrow.Author.Tests.{lt-ltb, le-ltb, ltb-true, ltb-false}
use Rattle.arith.specs.First.{first_below}
use Rattle.arith.specs.Rounding.{before}
use Rattle.arith.specs.Sum.{sum_below, indicator}
use Rattle.arith.proofs.FirstLaws.{first_passes, first_is, none_before}
use Rattle.arith.proofs.SumLaws.{indicator_one, indicator_none, sum_same, sum_minus, sum_below_lem}

-- a number below u is below a larger v too
indicator_rises : (q : ℕ) {u v : ℕ} → u ≤ v → indicator (ltb q u) ≤ indicator (ltb q v)
indicator_rises q {u} {v} h = go (dec_lt q u)
  where
    go : Dec (q < u) → indicator (ltb q u) ≤ indicator (ltb q v)
    go (yes l) = rw (lt-ltb q u l, lt-ltb q v (omega arith)) (le_refl 1)
    go (no l) = rw (le-ltb q u (omega arith)) (omega arith)

module _ (U : ℕ → ℕ) (rises : (j : ℕ) → U j ≤ U (suc j)) where
  rises_by : (i k : ℕ) → U i ≤ U (i + k)
  rises_by i zero = rw add-zero (le_refl (U i))
  rises_by i (suc k) = rw add-suc (le_trans (rises_by i k) (rises (i + k)))

  -- a later value is no smaller
  pub rises_to : (i j : ℕ) → i ≤ j → U i ≤ U j
  rises_to i j h = rw (add-sub_of_le h) at (rises_by i (j - i))

  -- what the values rise by, place after place, adds up to the last value
  pub steps_add_up : (n : ℕ) → sum_below (suc n) (λ j. U j - before U j) ≡ U n
  unfolding sum_below
  steps_add_up zero = omega arith
  steps_add_up (suc n) = omega (arith, steps_add_up n, rises n)

  -- the value before place j is no smaller than those still earlier, and no larger than the one at j
  before_least : (i j : ℕ) → i < j → U i ≤ before U j
  before_least i zero l = absurd (omega arith)
  before_least i (suc j) l = rises_to i j (omega arith)

  pub before_most : (j : ℕ) → before U j ≤ U j
  before_most zero = omega arith
  before_most (suc j) = rises j

  -- the first value above q is that at j exactly where q is below U j and not below the value before it
  pub step_indicator : (n j q : ℕ) → j < n → indicator (eqb (first_below n (λ i. ltb q (U i))) j) ≡ indicator (ltb q (U j)) - indicator (ltb q (before U j))
  step_indicator n j q l = go (dec_lt q (U j)) (dec_lt q (before U j))
    where
      -- where it stands at j, q is below the value at j and not below the value before
      reached : first_below n (λ i. ltb q (U i)) ≡ j → q < U j
      reached e = ltb-true q (U j) (ap (λ (i : ℕ). ltb q (U i)) (sym e) ∙ first_passes n (λ i. ltb q (U i)) (omega arith))

      not_sooner : (j : ℕ) → first_below n (λ i. ltb q (U i)) ≡ j → before U j ≤ q
      not_sooner zero e = omega arith
      not_sooner (suc j) e = ltb-false q (U j) (none_before n (λ i. ltb q (U i)) j (omega arith))

      go : Dec (q < U j) → Dec (q < before U j) → indicator (eqb (first_below n (λ i. ltb q (U i))) j) ≡ indicator (ltb q (U j)) - indicator (ltb q (before U j))
      go (no f) b = rw (le-ltb q (U j) (omega arith)) (indicator_none (λ e. f (reached e)) ∙ omega arith)
      go (yes p) (yes b) = rw (lt-ltb q (U j), lt-ltb q (before U j)) (indicator_none (λ e. not-le_of_lt b (not_sooner j e)))
      go (yes p) (no f) =
          rw (lt-ltb q (U j), le-ltb q (before U j) (omega arith))
          (indicator_one (first_is n (λ i. ltb q (U i)) j l (lt-ltb q (U j) p) (λ i k. le-ltb q (U i) (omega (arith, before_least i j k)))))

  -- of the numbers below the last value, as many have their first greater value at j as U rises by there
  pub step_count : (n j : ℕ) → j ≤ n → sum_below (U n) (λ q. indicator (eqb (first_below (suc n) (λ i. ltb q (U i))) j)) ≡ U j - before U j
  step_count n j h =
      sum_same (U n) _ _ (λ q l. step_indicator (suc n) j q (omega arith))
      ∙ sum_minus (U n) (λ q. indicator (ltb q (U j))) (λ q. indicator (ltb q (before U j))) (λ q l. indicator_rises q (before_most j))
      ∙ ap₂ ◌-◌ (sum_below_lem (U n) (U j) (rises_to j n h)) (sum_below_lem (U n) (before U j) (le_trans (before_most j) (rises_to j n h)))
