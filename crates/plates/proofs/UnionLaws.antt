-- Eight bytes at one place: their sum and their union both are the masks of the first pixels exactly where each of these pixels is in one byte, and each other in none.
-- Assumes nothing.
use Prim.Native.Nat.{ℕ, zero, suc, ◌+◌, ◌-◌, ◌*◌, ◌/◌, ◌%◌, ◌^◌, ◌≤◌, ◌<◌}
use mathlib.Core.Path.{◌≡◌, refl, sym, ap, ◌∙◌}
use mathlib.Core.Bool.{Bool, true, false, ◌&&◌, cond}
use native.Mathlib.Nat.{zero-div, mul_comm, mul-le-mul_left, mul-le-mul_right, eq_of_mul-eq-mul_right}
use native.Mathlib.Omega.{arith}
use lib.Bits.{bit_or, or_shr, or_mod, or_lt, or_add_and, and_le_l, and_le_r}
use lib.Dec.{ltb, eqb}
use borrow.Author.Tests.{eqb-true, eq-eqb}
use Rattle.arith.specs.Every.{every}
use Rattle.arith.specs.Sum.{sum_below, indicator}
use Rattle.arith.proofs.EveryLaws.{every_is}
use Rattle.arith.proofs.RefusalLaws.{both_pass}
use Rattle.arith.proofs.SumLaws.{sum_same, sum_scaled, sum_exchange, sum_front, sum_tight}
use Rattle.arith.proofs.TallyLaws.{indicator_le}
use Rattle.plates.specs.Masks.{mask, bit}
use Rattle.plates.specs.Places.{full_mask}
use Rattle.plates.proofs.MaskLaws.{mask_power, mask_pos, bit_of_masks, byte_of_bits}

-- ---- the union

-- the union of the first n of some bytes
unfoldable pub union_below : ℕ → (ℕ → ℕ) → ℕ
union_below zero v = 0
union_below (suc n) v = bit_or (union_below n v) (v n)

-- the union of bytes is a byte
union_below_lem : (n : ℕ) (v : ℕ → ℕ) → ((p : ℕ) → v p < 256) → union_below n v < 256
unfolding union_below
union_below_lem zero v low = omega arith
union_below_lem (suc n) v low = or_lt 8 (union_below n v) (v n) (union_below_lem n v low) (low n)

-- a bit of two bytes' union is the union of their bits
or_bit : (a b t : ℕ) → t < 8 → bit (bit_or a b) t ≡ bit_or (bit a t) (bit b t)
or_bit a b t l = rw (mask_power t l) (ap (λ (x : ℕ). x % 2) (or_shr a b (7 - t)) ∙ or_mod (a / 2 ^ (7 - t)) (b / 2 ^ (7 - t)) 1)

module _ (v : ℕ → ℕ) (t : ℕ) (l : t < 8) where
  -- what is in the union is in a byte,
  union_most : (n : ℕ) → bit (union_below n v) t ≤ sum_below n (λ p. bit (v p) t)
  unfolding union_below sum_below
  union_most zero = rw (zero-div (mask t)) (omega arith)
  union_most (suc n) = rw (or_bit (union_below n v) (v n) t l) (omega (arith, or_add_and (bit (union_below n v) t) (bit (v n) t), union_most n))

  -- and what is in any of the n bytes is in the union
  union_least : (n : ℕ) → sum_below n (λ p. bit (v p) t) ≤ n * bit (union_below n v) t
  unfolding union_below sum_below
  union_least zero = omega arith
  union_least (suc n) = rw (or_bit (union_below n v) (v n) t l) (go (bit (union_below n v) t) (bit (v n) t) (union_least n))
    where
      go : {s : ℕ} (x y : ℕ) → s ≤ n * x → s + y ≤ suc n * bit_or x y
      go x y h = omega (arith, or_add_and x y, and_le_l x y, mul-le-mul_left {m = x} {n = bit_or x y} n (omega (arith, or_add_and x y, and_le_r x y)))

-- ---- the masks of the first pixels

module _ (pixels : ℕ) (few : pixels ≤ 8) where
  -- of eight masks, those of the first pixels are taken once and the others not at all,
  full_out : (f : ℕ → ℕ) → ((t : ℕ) → t < 8 → f t ≡ indicator (ltb t pixels)) → sum_below 8 (λ t. f t * mask t) ≡ full_mask pixels
  unfolding full_mask
  full_out f same = sum_same 8 _ _ (λ t l. rw (same t l) (go (ltb t pixels) (mask t))) ∙ sum_front 8 pixels mask few
    where
      go : (b : Bool) (m : ℕ) → indicator b * m ≡ cond b m 0
      go true m = omega arith
      go false m = omega arith

  -- so that the bits are those of the first pixels
  full_bit : (t : ℕ) → t < 8 → bit (full_mask pixels) t ≡ indicator (ltb t pixels)
  full_bit t l = rw (← full_out (λ i. indicator (ltb i pixels)) (λ i k. refl)) (bit_of_masks (λ i. indicator (ltb i pixels)) (λ i. indicator_le (ltb i pixels)) t l)

-- ---- the sum and the union together

module _ (v : ℕ → ℕ) (low : (p : ℕ) → v p < 256) where
  -- in how many bytes pixel t is
  abbrev count : ℕ → ℕ
  count t = sum_below 8 (λ p. bit (v p) t)

  -- n bytes added up are the masks, each as often as its pixel is in a byte
  pub sum_out : (n : ℕ) → sum_below n v ≡ sum_below 8 (λ t. sum_below n (λ p. bit (v p) t) * mask t)
  sum_out n =
      sum_same n _ _ (λ p l. sym (byte_of_bits (v p) (low p)))
      ∙ sum_exchange n 8 (λ p t. bit (v p) t * mask t)
      ∙ sum_same 8 _ _ (λ t l. sum_same n _ _ (λ p k. mul_comm (bit (v p) t) (mask t)) ∙ sum_scaled n (mask t) _ ∙ mul_comm (mask t) _)

  module _ (pixels : ℕ) (few : pixels ≤ 8) where
    -- the union has each of the first pixels, so that each is in a byte; with one more the sum would be larger
    sums_once : sum_below 8 v ≡ full_mask pixels → union_below 8 v ≡ full_mask pixels → (t : ℕ) → t < 8 → count t ≡ indicator (ltb t pixels)
    sums_once sum union t l =
        eq_of_mul-eq-mul_right (mask t) (mask_pos t) _ _
        (sym
        (sum_tight 8 (λ i. indicator (ltb i pixels) * mask i) (λ i. count i * mask i) (λ i k. mul-le-mul_right (mask i) (least i k))
        (full_out pixels few _ (λ i k. refl) ∙ sym sum ∙ sum_out 8) t l))
      where
        least : (i : ℕ) → i < 8 → indicator (ltb i pixels) ≤ count i
        least i k = omega (arith, union_most v i k 8, ap (λ (u : ℕ). bit u i) union, full_bit pixels few i k)

    -- and where each is in one, the masks are each taken once
    once_sums : ((t : ℕ) → t < 8 → count t ≡ indicator (ltb t pixels)) → (sum_below 8 v ≡ full_mask pixels) × (union_below 8 v ≡ full_mask pixels)
    once_sums once = (
      sum_out 8 ∙ full_out pixels few count once,
      sym (byte_of_bits (union_below 8 v) (union_below_lem 8 v low))
          ∙ full_out pixels few _ (λ t l. omega (arith, union_most v t l 8, union_least v t l 8, once t l, indicator_le (ltb t pixels))),
    )

    -- WHERE THE EIGHT BYTES' SUM AND THEIR UNION BOTH ARE THE MASKS OF THE FIRST PIXELS, each of these pixels is in exactly one byte and each other in none; and only there
    pub once_by_sums : eqb (sum_below 8 v) (full_mask pixels) && eqb (union_below 8 v) (full_mask pixels)
        ≡ every 8 (λ t. eqb (sum_below 8 (λ p. bit (v p) t)) (indicator (ltb t pixels)))
    once_by_sums =
        every_is 8 _ _
        (λ e t l. let both = both_pass _ _ e in eq-eqb _ _ (sums_once (eqb-true _ _ both.0) (eqb-true _ _ both.1) t l))
        (λ h. let both = once_sums (λ t l. eqb-true _ _ (h t l)) in rw (eq-eqb _ _ both.0, eq-eqb _ _ both.1) refl)
