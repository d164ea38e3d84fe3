-- Division rounded down and up: of a sum, of a larger number, of multiples, of many numbers together and apart, and Hermite's law that the k divisions of m, m + 1, .., m + k - 1 by k add up to m.
-- That law goes from m to m + 1 by a shift of one place, which loses m / k and gains (m + k) / k, one more.
-- Assumes nothing.
use Prim.Native.Nat.{ℕ, zero, suc, ◌+◌, ◌-◌, ◌*◌, ◌/◌, ◌≤◌, ◌<◌}
use mathlib.Core.Path.{◌≡◌, ap, ◌∙◌}
use mathlib.Core.Logic.{◌⊎◌, inl, inr}
use native.Mathlib.Nat.{le_of_suc-le-suc, eq-zero-or-pos, le-div_iff_mul-le, div-lt_iff_lt-mul, div-mul-le_self, lt-div-mul-add, div-zero, div-eq_of_lt, div-eq_of_lt-le, add-div_right, add-zero, zero-add, add-suc, suc-add, mul-le-mul_left, lt_of_mul-lt-mul_right, mul-pos, le_of_eq}
use native.Mathlib.Omega.{arith}
use Rattle.arith.specs.Rounding.{rounded_up}
use Rattle.arith.specs.Sum.{sum_below}
use Rattle.arith.proofs.SumLaws.{sum_same, sum_constant, sum_shift}

-- ---- of a sum

-- rounded down, the parts come to no more than the whole
pub floor_plus : (e m d : ℕ) → 0 < d → e / d + m / d ≤ (e + m) / d
floor_plus e m d pos = (le-div_iff_mul-le pos).1 (omega (arith, div-mul-le_self e d, div-mul-le_self m d))

-- with one part rounded up, they come to no less
pub floor_plus_up : (e m d : ℕ) → 0 < d → (e + m) / d ≤ e / d + rounded_up m d
floor_plus_up e m d pos =
    le_of_suc-le-suc
    ((div-lt_iff_lt-mul pos).1 (omega (arith, lt-div-mul-add {a = e} pos, lt-div-mul-add {a = m + d - 1} pos)))

-- ---- of a larger number, and of multiples

-- a larger number has no smaller quotient
pub floor_mono : (e m d : ℕ) → e ≤ m → e / d ≤ m / d
floor_mono e m d h = go (eq-zero-or-pos d)
  where
    go : (d ≡ zero) ⊎ (zero < d) → e / d ≤ m / d
    go (inl q) = rw (q, div-zero e, div-zero m) (omega arith)
    go (inr pos) = (le-div_iff_mul-le pos).1 (omega (arith, div-mul-le_self e d))

-- rounded up, a number's multiple of d is the first that reaches it
up_least : (m d : ℕ) → 0 < d → m ≤ rounded_up m d * d
up_least m d pos = omega (arith, lt-div-mul-add {a = m + d - 1} pos)

up_most : (m d : ℕ) → 0 < d → rounded_up m d * d + 1 ≤ m + d
up_most m d pos = omega (arith, div-mul-le_self (m + d - 1) d)

-- rounding up is unchanged where both numbers are multiplied by c
pub rounded_scaled : (c m d : ℕ) → 0 < c → 0 < d → rounded_up (c * m) (c * d) ≡ rounded_up m d
rounded_scaled c m d some pos =
    div-eq_of_lt-le (c * d) (omega (arith, mul-le-mul_left c (up_most m d pos))) (omega (arith, mul-le-mul_left c (up_least m d pos), mul-pos some pos))

-- ---- of many numbers, rounded up

-- apart they come to no less than together,
up_together : (m n d : ℕ) → 0 < d → rounded_up (m + n) d ≤ rounded_up m d + rounded_up n d
up_together m n d pos =
    le_of_suc-le-suc ((div-lt_iff_lt-mul pos).1 (omega (arith, up_least m d pos, up_least n d pos)))

-- and to at most 1 more
up_apart : (m n d : ℕ) → 0 < d → rounded_up m d + rounded_up n d ≤ rounded_up (m + n) d + 1
up_apart m n d pos =
    let below : (rounded_up m d + rounded_up n d) * d < (rounded_up (m + n) d + 2) * d = omega (arith, up_most m d pos, up_most n d pos, up_least (m + n) d pos) in
    omega (arith, lt_of_mul-lt-mul_right d below)

module _ (d : ℕ) (pos : 0 < d) (m : ℕ → ℕ) where
  -- so do many,
  pub ups_together : (n : ℕ) → rounded_up (sum_below n m) d ≤ sum_below n (λ i. rounded_up (m i) d)
  unfolding sum_below
  ups_together zero = le_of_eq (div-eq_of_lt (omega arith))
  ups_together (suc n) = omega (arith, up_together (sum_below n m) (m n) d pos, ups_together n)

  -- which come to at most 1 more with each number after the first
  pub ups_apart : (n : ℕ) → sum_below (suc n) (λ i. rounded_up (m i) d) ≤ rounded_up (sum_below (suc n) m) d + n
  unfolding sum_below
  ups_apart zero = omega (arith, ap (λ (v : ℕ). rounded_up v d) (zero-add (m 0)))
  ups_apart (suc n) = omega (arith, up_apart (sum_below (suc n) m) (m (suc n)) d pos, ups_apart n)

-- ---- Hermite's law

-- THE k DIVISIONS of m, m + 1, .., m + k - 1 by k add up to m
pub floors_add_up : (m k : ℕ) → 0 < k → sum_below k (λ i. (m + i) / k) ≡ m
floors_add_up zero k pos = sum_constant k 0 _ (λ i l. rw zero-add (div-eq_of_lt l)) ∙ omega arith
floors_add_up (suc m) k pos =
    sum_same k _ (λ i. (m + suc i) / k) (λ i l. rw (suc-add m i, add-suc m i))
    ∙ omega (
      arith,
      sum_shift k (λ i. (m + i) / k),
      floors_add_up m k pos,
      add-div_right m pos,
      ap (λ (v : ℕ). v / k) (add-zero m),
    )
