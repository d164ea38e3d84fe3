-- The colorants of a place's pixels: where none is in two planes, three sums of the planes' bytes have the three bits of the numbers of the planes that a pixel is in, added up; where it is in one, these add up to its colorant.
-- Assumes nothing.
use Prim.Native.Nat.{ℕ, ◌+◌, ◌*◌, ◌/◌, ◌%◌, ◌≤◌, ◌<◌}
use mathlib.Core.Path.{◌≡◌, refl, sym, ap, ◌∙◌}
use mathlib.Core.List.{List}
use native.Mathlib.Omega.{arith}
use lib.Dec.{eqb}
use Rattle.arith.specs.Sum.{sum_below, indicator}
use Rattle.arith.proofs.SumLaws.{sum_same}
use Rattle.plates.specs.Masks.{mask, bit}
use Rattle.plates.specs.Planes.{row_bytes, bit_at, planes_with, colorant_of}
use Rattle.plates.specs.Places.{byte_at, planes_at, Apart, colorant_at}
use Rattle.plates.proofs.MaskLaws.{each, masks_below, bit_of_masks}
use Rattle.plates.proofs.BitLaws.{first_below_lem, first_is_it}
use Rattle.plates.proofs.UnionLaws.{sum_out}
use Rattle.plates.proofs.SoundLaws.{bit_at_place}

-- ---- bytes without a bit in common

module _ (n : ℕ) (v : ℕ → ℕ) (low : (p : ℕ) → v p < 256) (apart : (t : ℕ) → sum_below n (λ p. bit (v p) t) ≤ 1) where
  -- they add up to a byte,
  apart_fit : sum_below n v < 256
  apart_fit = rw (sum_out v low n) (masks_below (λ t. sum_below n (λ p. bit (v p) t)) apart 8 (omega arith))

  -- each bit of which is the sum of theirs
  apart_bit : (s : ℕ) → s ≡ sum_below n v → (t : ℕ) → t < 8 → bit s t ≡ sum_below n (λ p. bit (v p) t)
  apart_bit s e t l = ap (λ (z : ℕ). bit z t) (e ∙ sum_out v low n) ∙ bit_of_masks (λ i. sum_below n (λ p. bit (v p) i)) apart t l

-- planes 1, 3, 5, 7 have the 1 in their numbers, 2, 3, 6, 7 the 2, and 4 to 7 the 4
weighed : (f : ℕ → ℕ) {a b c : ℕ} → a ≡ sum_below 4 (λ p. f (2 * p + 1)) → b ≡ sum_below 4 (λ p. f (2 + p + p / 2 * 2)) → c ≡ sum_below 4 (λ p. f (4 + p))
    → a + 2 * b + 4 * c ≡ sum_below 8 (λ p. p * f p)
unfolding sum_below
weighed f i j k = omega arith

-- ---- a place

module _ (plane : ℕ) (planes : List ℕ) (place : ℕ) (low : (p : ℕ) → byte_at plane planes place p < 256) (apart : Apart plane planes) (inside : place < plane) where
  -- its byte of each plane
  abbrev v : ℕ → ℕ
  v p = byte_at plane planes place p

  at_most : (t : ℕ) → sum_below 8 (λ p. bit (v p) t) ≤ 1
  unfolding planes_at
  at_most t = apart place t inside

  -- all eight bytes add up to a byte, and so do some of them
  pub sums_fit : (v 1 + v 3 + v 5 + v 7 < 256) × (v 2 + v 3 + v 6 + v 7 < 256) × (v 4 + v 5 + v 6 + v 7 < 256)
  unfolding sum_below
  sums_fit =
      let all = apart_fit 8 v low at_most in
      (omega (arith, all), omega (arith, all), omega (arith, all))

  -- THE THREE BITS OF A PIXEL'S COLORANT, each read from one of the sums; all of them are 0 where it is in no plane
  pub three_bits : (t : ℕ) → t < 8
      → (v 1 + v 3 + v 5 + v 7) / mask t % 2 + 2 * ((v 2 + v 3 + v 6 + v 7) / mask t % 2) + 4 * ((v 4 + v 5 + v 6 + v 7) / mask t % 2) ≡ colorant_at plane planes place t
  unfolding sum_below colorant_at
  three_bits t k =
      weighed (λ p. bit (v p) t)
      (apart_bit 4 (λ p. v (2 * p + 1)) (λ p. low (2 * p + 1)) (λ i. omega (arith, at_most i)) _ (omega arith) t k)
      (apart_bit 4 (λ p. v (2 + p + p / 2 * 2)) (λ p. low (2 + p + p / 2 * 2)) (λ i. omega (arith, at_most i)) _ (omega arith) t k)
      (apart_bit 4 (λ p. v (4 + p)) (λ p. low (4 + p)) (λ i. omega (arith, at_most i)) _ (omega arith) t k)

-- ---- a pixel that is in one plane

-- the planes' numbers, each counted where it is c, add up to c
numbered : (c : ℕ) → c < 8 → sum_below 8 (λ p. p * indicator (eqb c p)) ≡ c
unfolding sum_below
numbered = each (λ c. sum_below 8 (λ p. p * indicator (eqb c p)) ≡ c) refl refl refl refl refl refl refl refl

-- THE NUMBERS OF THE PLANES THAT IT IS IN ADD UP TO ITS COLORANT, the number of the first
pub colorant_at_place : (columns rows : ℕ) (planes : List ℕ) (y x : ℕ) → planes_with (row_bytes columns) rows planes y x ≡ 1
    → colorant_at (rows * row_bytes columns) planes (y * row_bytes columns + x / 8) (x % 8) ≡ colorant_of (row_bytes columns) rows planes y x
unfolding bit_at colorant_at planes_with colorant_of
colorant_at_place columns rows planes y x once =
    let whole : 8 * (x / 8) + x % 8 ≡ x = omega arith in
    sum_same 8 _ _
    (λ p k.
    ap (λ (b : ℕ). p * b)
    (bit_at_place (row_bytes columns) rows planes p y (x / 8) (x % 8) (omega arith)
    ∙ ap (bit_at (row_bytes columns) planes (p * rows + y)) whole
    ∙ sym (first_is_it f ones 8 once p k)))
    ∙ numbered _ (first_below_lem f ones 8 once)
  where
    -- its bit of each plane
    f : ℕ → ℕ
    f p = bit_at (row_bytes columns) planes (p * rows + y) x

    ones : (p : ℕ) → f p ≤ 1
    ones p = omega arith
