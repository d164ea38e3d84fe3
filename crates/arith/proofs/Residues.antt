-- The residue law: n / gcd(m, n) neighbouring multiples of m leave different remainders by n. Where m and n have no common divisor above 1
-- these are n multiples, and they meet each remainder exactly once: n numbers below n of which no two are alike are all of them.
-- Assumes nothing.
use Prim.Native.Nat.{ℕ, ◌+◌, ◌-◌, ◌*◌, ◌/◌, ◌%◌, ◌<◌, ◌∣◌}
use mathlib.Core.Path.{◌≡◌, sym}
use native.Mathlib.Nat.{mul-sub, mod-lt, div-one, mul-div_cancel', dvd-mul_right, dvd_of_mul-dvd-mul_left}
use native.Mathlib.Omega.{arith}
use lib.Dec.{eqb}
use Rattle.arith.specs.Gcd.{gcd_of}
use Rattle.arith.specs.Sum.{sum_below, indicator}
use Rattle.arith.proofs.GcdLaws.{gcd_divides, gcd_scaled, gcd_pos}
use Rattle.arith.proofs.RemainderLaws.{same_remainder, below_divisor}
use Rattle.arith.proofs.SumLaws.{each_once}

-- The c may hold where the neighbours begin: m * (i + i₀) is m * i + m * i₀.
module _ (m n c : ℕ) where
  not_after : 0 < n → (i j : ℕ) → j < n / gcd_of m n → (m * i + c) % n ≡ (m * j + c) % n → j - i ≡ 0
  not_after pos i j l q =
      let h : ℕ = gcd_of m n in
      let d : m * j + c - (m * i + c) ≡ m * (j - i) = rw mul-sub (omega arith) in
      let scaled : n ∣ h * (j - i) = gcd_scaled n (j - i) m n (rw d at (same_remainder n (m * i + c) (m * j + c) q)) (dvd-mul_right n (j - i)) in
      below_divisor (dvd_of_mul-dvd-mul_left (n / h) (gcd_pos m n pos) (rw (mul-div_cancel' h (gcd_divides m n).1) scaled)) (omega arith)

  -- two of the multiples with one remainder are the same
  pub multiple_apart : 0 < n → (i j : ℕ) → i < n / gcd_of m n → j < n / gcd_of m n → (m * i + c) % n ≡ (m * j + c) % n → i ≡ j
  multiple_apart pos i j k l q = omega (arith, not_after pos i j l q, not_after pos j i k (sym q))

  module _ (unit : gcd_of m n ≡ 1) where
    pub residue_apart : (i j : ℕ) → i < n → j < n → (m * i + c) % n ≡ (m * j + c) % n → i ≡ j
    residue_apart i j k l q = multiple_apart (omega arith) i j (rw (unit, div-one) k) (rw (unit, div-one) l) q

    -- EACH REMAINDER EXACTLY ONCE
    pub residue_once : 0 < n → (t : ℕ) → t < n → sum_below n (λ i. indicator (eqb ((m * i + c) % n) t)) ≡ 1
    residue_once pos = each_once n (λ i. (m * i + c) % n) (λ i l. mod-lt (m * i + c) pos) residue_apart
