-- Laws of `mask`: the masks of eight neighbouring pixels halve from 128 to 1, so that a byte is the masks of its bits added up, and each bit is read back from such a sum.
-- Only the laws of halving and of the eight masks open the definitions.
-- Assumes nothing.
use Prim.Native.Nat.{ℕ, zero, suc, ◌+◌, ◌-◌, ◌*◌, ◌/◌, ◌%◌, ◌^◌, ◌≤◌, ◌<◌}
use mathlib.Core.Path.{◌≡◌, refl, sym, ap, ap₂, ◌∙◌}
use mathlib.Core.List.{[], ◌∷◌}
use native.Mathlib.Nat.{mul-add-mod_self_left, mul-le-mul_right, mod-eq_of_lt, mod-one, div-one}
use native.Mathlib.Numerals.{add-one}
use native.Mathlib.Omega.{arith}
use lib.ListN.{get_or}
use lib.Arith.{mod-mul}
use lib.Pow.{shr-shr}
use Rattle.arith.specs.Sum.{sum_below}
use Rattle.arith.proofs.SumLaws.{sum_same}
use Rattle.plates.specs.Masks.{halved, mask, bit}
use Rattle.plates.specs.Laws.{MaskValues}

-- ---- halving

-- a shift halves so many times at once
halved_at_once : (n times : ℕ) → n / 2 ^ times ≡ halved n times
unfolding halved
halved_at_once n zero = div-one n
halved_at_once n (suc times) = rw (← halved_at_once n times, ← add-one times) (sym (shr-shr n times 1))

-- so 128 shifted x mod 8 digits to the right is the mask
pub mask_shifted : (x digits : ℕ) → digits ≡ x % 8 → 128 / 2 ^ digits ≡ mask x
unfolding mask
mask_shifted x digits e = rw e (halved_at_once 128 (x % 8))

-- ---- the eight masks

-- what holds of each of the numbers 0 to 7
pub each : (P : ℕ → Type 0) → P 0 → P 1 → P 2 → P 3 → P 4 → P 5 → P 6 → P 7 → (t : ℕ) → t < 8 → P t
each P a b c d e f g h zero l = a
each P a b c d e f g h (suc zero) l = b
each P a b c d e f g h (suc (suc zero)) l = c
each P a b c d e f g h (suc (suc (suc zero))) l = d
each P a b c d e f g h (suc (suc (suc (suc zero)))) l = e
each P a b c d e f g h (suc (suc (suc (suc (suc zero))))) l = f
each P a b c d e f g h (suc (suc (suc (suc (suc (suc zero)))))) l = g
each P a b c d e f g h (suc (suc (suc (suc (suc (suc (suc zero))))))) l = h
each P a b c d e f g h (suc (suc (suc (suc (suc (suc (suc (suc t)))))))) l = absurd (omega arith)

pub mask_values : MaskValues
unfolding mask
mask_values x = each (λ t. halved 128 t ≡ get_or (128 ∷ 64 ∷ 32 ∷ 16 ∷ 8 ∷ 4 ∷ 2 ∷ 1 ∷ []) t 0) refl refl refl refl refl refl refl refl (x % 8) (omega arith)

pub mask_repeats : (b t : ℕ) → mask (8 * b + t) ≡ mask t
unfolding mask
mask_repeats b t = rw (mul-add-mod_self_left 8 b t)

pub mask_small : (x : ℕ) → mask x < 256
unfolding mask
mask_small x = each (λ t. halved 128 t < 256) (omega arith) (omega arith) (omega arith) (omega arith) (omega arith) (omega arith) (omega arith) (omega arith) (x % 8) (omega arith)

-- a mask is a power of 2, so that a bit is read by a shift
pub mask_power : (t : ℕ) → t < 8 → mask t ≡ 2 ^ (7 - t)
unfolding mask
mask_power = each (λ t. mask t ≡ 2 ^ (7 - t)) refl refl refl refl refl refl refl refl

-- the first masks added up leave a halved 256 of 256
pub first_masks : (n : ℕ) → n ≤ 8 → 256 - 256 / 2 ^ n ≡ sum_below n mask
unfolding sum_below mask
first_masks zero l = refl
first_masks (suc t) l = each (λ k. 256 - 256 / 2 ^ suc k ≡ sum_below (suc k) mask) refl refl refl refl refl refl refl refl t l

mask_first : mask 0 ≡ 128
unfolding mask
mask_first = refl

mask_last : mask 7 ≡ 1
unfolding mask
mask_last = refl

mask_halves : (t : ℕ) → t < 7 → mask t ≡ 2 * mask (suc t)
unfolding mask
mask_halves t l =
    each (λ t. t < 7 → mask t ≡ 2 * mask (suc t)) (λ l. refl) (λ l. refl) (λ l. refl) (λ l. refl) (λ l. refl) (λ l. refl) (λ l. refl) (λ l. absurd (omega arith))
    t (omega arith) l

-- the masks of eight pixels, each as often as f says
masks_out : (f : ℕ → ℕ) → sum_below 8 (λ t. f t * mask t) ≡ 0 + f 0 * 128 + f 1 * 64 + f 2 * 32 + f 3 * 16 + f 4 * 8 + f 5 * 4 + f 6 * 2 + f 7 * 1
unfolding sum_below mask
masks_out f = refl

-- the bit of each of eight pixels, by its mask
bits_out : (byte : ℕ) (f : ℕ → ℕ)
    → (byte / 128 % 2 ≡ f 0) × (byte / 64 % 2 ≡ f 1) × (byte / 32 % 2 ≡ f 2) × (byte / 16 % 2 ≡ f 3) × (byte / 8 % 2 ≡ f 4) × (byte / 4 % 2 ≡ f 5) × (byte / 2 % 2 ≡ f 6) × (byte / 1 % 2 ≡ f 7)
    → (t : ℕ) → t < 8 → bit byte t ≡ f t
unfolding mask
bits_out byte f h = each (λ t. bit byte t ≡ f t) h.0 h.1 h.2 h.3 h.4 h.5 h.6 h.7

-- ---- bytes

-- a mask is at least 1, since 1 is the last
mask_left : (k t : ℕ) → t + k ≡ 7 → 0 < mask t
mask_left zero t e =
    let q : t ≡ 7 = omega arith in
    rw (q, mask_last) (omega arith)
mask_left (suc k) t e = omega (arith, mask_left k (suc t) (omega arith), mask_halves t (omega arith))

pub mask_pos : (x : ℕ) → 0 < mask x
mask_pos x =
    let q : x ≡ 8 * (x / 8) + x % 8 = omega arith in
    rw (q, mask_repeats) (mask_left (7 - x % 8) (x % 8) (omega arith))

module _ (f : ℕ → ℕ) (ones : (t : ℕ) → f t ≤ 1) where
  -- the masks so far leave room for all that follow
  masks_room : (t : ℕ) → t < 8 → sum_below t (λ i. f i * mask i) + 2 * mask t ≤ 256
  unfolding sum_below
  masks_room zero l = rw mask_first (omega arith)
  masks_room (suc t) l =
      omega (arith, masks_room t (omega arith), mask_halves t (omega arith), mul-le-mul_right (mask t) (ones t))

  -- so all of them stay within a byte
  pub masks_below : (n : ℕ) → n ≤ 8 → sum_below n (λ i. f i * mask i) < 256
  unfolding sum_below
  masks_below zero l = omega arith
  masks_below (suc t) l =
      omega (arith, masks_room t l, mul-le-mul_right (mask t) (ones t), mask_left (7 - t) t (omega arith))

  -- EACH BIT IS READ BACK from the masks added up
  pub bit_of_masks : (t : ℕ) → t < 8 → bit (sum_below 8 (λ i. f i * mask i)) t ≡ f t
  bit_of_masks = rw (masks_out f) (bits_out _ f (go (f 0) (f 1) (f 2) (f 3) (f 4) (f 5) (f 6) (f 7) (ones 0) (ones 1) (ones 2) (ones 3) (ones 4) (ones 5) (ones 6) (ones 7)))
    where
      go : (a b c d e f g h : ℕ) → a ≤ 1 → b ≤ 1 → c ≤ 1 → d ≤ 1 → e ≤ 1 → f ≤ 1 → g ≤ 1 → h ≤ 1
          → let byte : ℕ = 0 + a * 128 + b * 64 + c * 32 + d * 16 + e * 8 + f * 4 + g * 2 + h * 1 in
          (byte / 128 % 2 ≡ a) × (byte / 64 % 2 ≡ b) × (byte / 32 % 2 ≡ c) × (byte / 16 % 2 ≡ d) × (byte / 8 % 2 ≡ e) × (byte / 4 % 2 ≡ f) × (byte / 2 % 2 ≡ g) × (byte / 1 % 2 ≡ h)
      go a b c d e f g h p q r s t u v w = (omega arith, omega arith, omega arith, omega arith, omega arith, omega arith, omega arith, omega arith)

-- the masks of a byte's first bits, and what they leave
masks_of_bits : (byte t : ℕ) → t < 8 → sum_below (suc t) (λ i. bit byte i * mask i) + byte % mask t ≡ byte % 256
unfolding sum_below
masks_of_bits byte zero l = rw mask_first (omega (arith, mod-mul byte {m = 2} {c = 128} (omega arith) (omega arith)))
masks_of_bits byte (suc t) l =
    omega (
      arith,
      masks_of_bits byte t (omega arith),
      ap (λ (m : ℕ). byte % m) (mask_halves t (omega arith)),
      mod-mul byte {m = 2} {c = mask (suc t)} (omega arith) (mask_left (6 - t) (suc t) (omega arith)),
    )

-- A BYTE is the masks of its bits added up
pub byte_of_bits : (byte : ℕ) → byte < 256 → sum_below 8 (λ t. bit byte t * mask t) ≡ byte
byte_of_bits byte l = omega (arith, masks_of_bits byte 7 (omega arith), ap (λ (m : ℕ). byte % m) mask_last, mod-one byte, mod-eq_of_lt l)

-- ---- byte b of a row: pixels 8 * b to 8 * b + 7

module _ (b : ℕ) where
  -- a bit of the masks added up is the one that added its mask
  pub bit_of_sum : (f : ℕ → ℕ) → ((t : ℕ) → f t ≤ 1) → (t : ℕ) → t < 8 → bit (sum_below 8 (λ i. f i * mask (8 * b + i))) (8 * b + t) ≡ f t
  bit_of_sum f ones t l =
      rw (sum_same 8 _ (λ i. f i * mask i) (λ i k. ap (λ (m : ℕ). f i * m) (mask_repeats b i)), mask_repeats b t) (bit_of_masks f ones t l)

  -- and the byte is the masks of its bits
  pub sum_of_bits : (byte : ℕ) → byte < 256 → sum_below 8 (λ t. bit byte (8 * b + t) * mask (8 * b + t)) ≡ byte
  sum_of_bits byte l =
      sum_same 8 _ _ (λ t k. ap₂ (λ (m n : ℕ). byte / m % 2 * n) (mask_repeats b t) (mask_repeats b t)) ∙ byte_of_bits byte l
