-- The phase of a place and of those that steps lead to, over plain numbers.
-- Assumes nothing.
use Prim.Native.Nat.{ℕ, ◌+◌, ◌*◌, ◌%◌, ◌<◌}
use mathlib.Core.Path.{◌≡◌, sym, ap, ◌∙◌}
use native.Mathlib.Nat.{mul-zero, mul-one, mul_comm, zero-add, add-zero, mod-lt, mod-add-mod, add-mod-mod, add-mul-mod_self_left}
use native.Mathlib.Omega.{arith}
use Rattle.arith.specs.Remainder.{remainder_of}
use Rattle.arith.proofs.RemainderLaws.{remainder_below, remainder_words, remainder_only, remainder_on}
use Rattle.screen.specs.Phase.{phase_of}

module _ (a b n g : ℕ) (pos : 0 < n) where
  pub phase_below : (x y : ℕ) → phase_of a b n g x y < n
  unfolding phase_of
  phase_below x y = remainder_below (a * x + b * y) g n pos

  pub phase_words : (x y : ℕ) → (phase_of a b n g x y + g) % n ≡ (a * x + b * y) % n
  unfolding phase_of
  phase_words x y = remainder_words (a * x + b * y) g n pos

  pub phase_only : (x y p : ℕ) → p < n → (p + g) % n ≡ (a * x + b * y) % n → p ≡ phase_of a b n g x y
  unfolding phase_of
  phase_only x y p l e = remainder_only (a * x + b * y) g n p l e

  -- instead of taking g off, what it lacks to n may be added, and both parts reduced first
  pub phase_lacking : (x y lacking : ℕ) → lacking + g ≡ n → (a * x + (b * y + lacking)) % n ≡ phase_of a b n g x y
  phase_lacking x y lacking e =
      let s : ℕ = a * x + (b * y + lacking) in
      let q : s + g ≡ a * x + b * y + n * 1 = omega (arith, e) in
      phase_only x y (s % n) (mod-lt s pos)
      (mod-add-mod s n g ∙ ap (λ (z : ℕ). z % n) q ∙ add-mul-mod_self_left (a * x + b * y) n 1)

  pub phase_apart : (x y lacking : ℕ) → lacking + g ≡ n → (a * x % n + (b * y + lacking) % n) % n ≡ phase_of a b n g x y
  phase_apart x y lacking e =
      mod-add-mod (a * x) n ((b * y + lacking) % n) ∙ add-mod-mod (a * x) (b * y + lacking) n ∙ phase_lacking x y lacking e

  -- places of one phase have one remainder of a * x + b * y
  pub phase_same : (x y x' y' : ℕ) → phase_of a b n g x y ≡ phase_of a b n g x' y' → (a * x + b * y) % n ≡ (a * x' + b * y') % n
  phase_same x y x' y' e = sym (phase_words x y) ∙ ap (λ (p : ℕ). (p + g) % n) e ∙ phase_words x' y'

  -- i columns on and j rows down
  pub steps : (x y i j : ℕ) → phase_of a b n g (x + i) (y + j) ≡ (phase_of a b n g x y + (a * i + b * j)) % n
  unfolding phase_of
  steps x y i j =
      let q : a * (x + i) + b * (y + j) ≡ a * x + b * y + (a * i + b * j) = omega arith in
      ap (λ (z : ℕ). remainder_of z g n) q ∙ sym (remainder_on (a * x + b * y) g n (a * i + b * j) pos)

  -- along a row alone, and down a column alone
  pub steps_right : (x y j : ℕ) → phase_of a b n g (x + j) y ≡ (phase_of a b n g x y + a * j) % n
  steps_right x y j = rw (add-zero, mul-zero, add-zero) at (steps x y j 0)

  pub steps_down : (x y j : ℕ) → phase_of a b n g x (y + j) ≡ (phase_of a b n g x y + b * j) % n
  steps_down x y j = rw (add-zero, mul-zero, zero-add) at (steps x y 0 j)

  -- b columns on are as far as a rows down
  pub rising : (x y : ℕ) → phase_of a b n g (x + b) y ≡ phase_of a b n g x (y + a)
  rising x y = rw (steps_right x y b, steps_down x y a, mul_comm a b)

  -- one step, by the remainder of a or of b
  pub step_right : (x y : ℕ) → phase_of a b n g (x + 1) y ≡ (phase_of a b n g x y + a % n) % n
  step_right x y = steps_right x y 1 ∙ rw mul-one (sym (add-mod-mod (phase_of a b n g x y) a n))

  pub step_down : (x y : ℕ) → phase_of a b n g x (y + 1) ≡ (phase_of a b n g x y + b % n) % n
  step_down x y = steps_down x y 1 ∙ rw mul-one (sym (add-mod-mod (phase_of a b n g x y) b n))
