-- A number written in some base: the sum of its digits, each times the base to the power of its place.
-- Assumes nothing.
use Prim.Native.Nat.{ℕ, zero, suc, ◌+◌, ◌-◌, ◌*◌, ◌/◌, ◌%◌, ◌^◌, ◌<◌}
use mathlib.Core.Path.{◌≡◌, ap, ◌∙◌}
use mathlib.Core.Logic.{◌⊎◌, inl, inr}
use native.Mathlib.Nat.{le_of_suc-le-suc, eq-or-lt_of_le, zero-add, add-mul-div_right, add-mul-mod_self_right, div-eq_of_lt, mod-eq_of_lt, mul-le-mul_right, pow-zero, pow-suc}
use native.Mathlib.Omega.{arith}
use lib.Pow.{pow-add}
use Rattle.arith.specs.Sum.{sum_below}

module _ (base : ℕ) (d : ℕ → ℕ) (digits : (j : ℕ) → d j < base) where
  -- a power of the base is at least 1
  base_pos : (n : ℕ) → 0 < base ^ n
  base_pos zero = rw (pow-zero base) (omega arith)
  base_pos (suc n) = rw (pow-suc base n) (omega (arith, mul-le-mul_right base (base_pos n), digits 0))

  -- so many digits make a number below the base to as many
  pub digits_below : (n : ℕ) → sum_below n (λ j. d j * base ^ j) < base ^ n
  unfolding sum_below
  digits_below zero = base_pos 0
  digits_below (suc n) = omega (arith, digits_below n, mul-le-mul_right (base ^ n) (digits n), pow-suc base n)

  -- A DIGIT IS READ BACK by division
  pub digit_of_lem : (n i : ℕ) → i < n → sum_below n (λ j. d j * base ^ j) / base ^ i % base ≡ d i
  unfolding sum_below
  digit_of_lem zero i l = absurd (omega arith)
  digit_of_lem (suc n) i l = go (sum_below n (λ j. d j * base ^ j)) (digits_below n) (digit_of_lem n i) (eq-or-lt_of_le (le_of_suc-le-suc l))
    where
      go : (s : ℕ) → s < base ^ n → (i < n → s / base ^ i % base ≡ d i) → (i ≡ n) ⊎ (i < n) → (s + d n * base ^ n) / base ^ i % base ≡ d i
      go s h ih (inl e) =
          rw (e, add-mul-div_right s (d n) (base_pos n), div-eq_of_lt h, zero-add) (mod-eq_of_lt (digits n))
      go s h ih (inr m) =
          rw (above (d n) m, add-mul-div_right s (d n * base ^ (n - suc i) * base) (base_pos i), add-mul-mod_self_right (s / base ^ i) (d n * base ^ (n - suc i)) base)
          (ih m)
        where
          above : (c : ℕ) → i < n → c * base ^ n ≡ c * base ^ (n - suc i) * base * base ^ i
          above c m =
              let parts : n ≡ n - suc i + suc i = omega arith in
              ap (λ (k : ℕ). c * base ^ k) parts
              ∙ ap (λ (x : ℕ). c * x) (pow-add base (n - suc i) (suc i))
              ∙ ap (λ (x : ℕ). c * (base ^ (n - suc i) * x)) (pow-suc base i)
              ∙ omega arith
