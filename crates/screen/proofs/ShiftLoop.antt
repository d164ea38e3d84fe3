-- The loop of `shift_of` over plain numbers: it goes through those with the remainder of a * S, and has not passed a * S.
-- Assumes nothing.
use Prim.Native.Nat.{ℕ, ◌+◌, ◌-◌, ◌*◌, ◌/◌, ◌%◌, ◌≤◌, ◌<◌}
use mathlib.Core.Path.{◌≡◌, sym, ap, ◌∙◌}
use native.Mathlib.Nat.{pos_of_ne-zero, le_of_dvd, le_of_mul-le-mul_left, add-zero, mod-le, mod-mod, add-mul-mod_self_left, div-add-mod, mul-div_cancel', dvd-mul_right, dvd_of_mod-eq-zero, mod-eq-zero_of_dvd}
use native.Mathlib.Omega.{arith}
use Rattle.arith.proofs.RemainderLaws.{same_remainder, remainder_minus}
use Rattle.arith.proofs.Residues.{multiple_apart}
use Rattle.screen.specs.Sizes.{rows_of, shift_of}
use Rattle.screen.proofs.BrickLaws.{shift_below, shift_words}

pub record ShiftAt (a b n along : ℕ) : Type 0 where
  pub up_to : along ≤ a * shift_of a b n
  pub so_far : along % n ≡ a * shift_of a b n % n

-- the smallest is what b * H lacks to a multiple of n
pub shift_start : (a b n rows lacking : ℕ) → 0 < n → rows ≡ rows_of a n → lacking + b * rows % n ≡ n → ShiftAt a b n (lacking % n)
shift_start a b n rows lacking pos h e =
    let target : ℕ = a * shift_of a b n in
    let round : lacking + b * rows ≡ n * (b * rows / n + 1) = omega (arith, e, div-add-mod (b * rows) n) in
    let level : (lacking + b * rows) % n ≡ (target + b * rows) % n = ap (λ (z : ℕ). z % n) round ∙ mod-eq-zero_of_dvd n (dvd-mul_right n (b * rows / n + 1)) ∙ sym (rw h (shift_words a b n pos)) in
    let same : lacking % n ≡ target % n = remainder_minus n lacking target (b * rows) pos level in
    record { up_to = rw same (mod-le target n); so_far = mod-mod lacking n ∙ same }

module _ {a b n along : ℕ} (s : ShiftAt a b n along) where
  -- where a does not divide it, it is n or more below a * S
  pub shift_ahead : 0 < n → (along % a ≡ 0 → ⊥) → along + n ≤ a * shift_of a b n
  shift_ahead pos on =
      let target : ℕ = a * shift_of a b n in
      let short : 0 < target - along = pos_of_ne-zero (λ z. on (mod-eq-zero_of_dvd a (rw (reached z) (dvd-mul_right a (shift_of a b n))))) in
      omega (arith, s.up_to, le_of_dvd short (same_remainder n along target s.so_far))
    where
      reached : a * shift_of a b n - along ≡ 0 → along ≡ a * shift_of a b n
      reached z = omega (arith, s.up_to, z)

  pub shift_step : along + n ≤ a * shift_of a b n → ShiftAt a b n (along + n)
  shift_step l =
      let q : along + n ≡ along + n * 1 = omega arith in
      record { up_to = l; so_far = ap (λ (z : ℕ). z % n) q ∙ add-mul-mod_self_left along n 1 ∙ s.so_far }

  -- where a divides it, it is a * S, since no other column of the brick leads as far
  pub shift_end : 0 < a → 0 < n → along % a ≡ 0 → along / a ≡ shift_of a b n
  shift_end some pos e =
      let whole : a * (along / a) ≡ along = mul-div_cancel' a (dvd_of_mod-eq-zero a e) in
      let near : along / a ≤ shift_of a b n = le_of_mul-le-mul_left (rw whole s.up_to) some in
      let below : shift_of a b n < _ = shift_below a b n pos in
      multiple_apart a n 0 pos (along / a) (shift_of a b n) (omega (arith, near, below)) below (rw (whole, add-zero, add-zero) s.so_far)
