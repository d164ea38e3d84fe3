-- What Euclid's rule computes: a divisor of both numbers that every common divisor divides.
-- All of it is one induction along the rule, 'what divides a * x and b * x divides gcd_of a b * x'; no Bezout numbers are needed.
-- Assumes nothing.
use Prim.Native.Nat.{ℕ, zero, suc, ◌+◌, ◌*◌, ◌/◌, ◌%◌, ◌≤◌, ◌<◌, ◌∣◌}
use mathlib.Core.Path.{◌≡◌, refl, ap, ◌∙◌}
use native.Mathlib.Nat.{le_refl, le_trans, le_of_suc-le-suc, not-suc-le-zero, zero-lt-suc, mod-lt, mod-one, mod-eq_of_lt, dvd_refl, dvd-zero, dvd-mod_iff, dvd-add_iff_right, dvd-mul_left_of_dvd, pos_of_dvd_of_pos, dvd_of_mul-dvd-mul_left, mul-dvd-mul_left, mul-div_cancel', eq-one_of_dvd-one, mul-one, add-mul, mul_assoc, div-add-mod'}
use native.Mathlib.Omega.{arith}
use Rattle.arith.specs.Gcd.{gcd_fuel, gcd_of}

-- ---- the two equations of the rule

mod_le_pred : (a b : ℕ) → a % suc b ≤ b
mod_le_pred a b = le_of_suc-le-suc (mod-lt a (zero-lt-suc b))

-- fuel beyond the second number changes nothing
fuel_same : (k j a b : ℕ) → b ≤ k → b ≤ j → gcd_fuel k a b ≡ gcd_fuel j a b
unfolding gcd_fuel
fuel_same zero zero a b h l = refl
fuel_same zero (suc j) a zero h l = refl
fuel_same zero (suc j) a (suc b) h l = absurd (not-suc-le-zero h)
fuel_same (suc k) zero a zero h l = refl
fuel_same (suc k) zero a (suc b) h l = absurd (not-suc-le-zero l)
fuel_same (suc k) (suc j) a zero h l = refl
fuel_same (suc k) (suc j) a (suc b) h l =
    fuel_same k j (suc b) (a % suc b) (le_trans (mod_le_pred a b) (le_of_suc-le-suc h)) (le_trans (mod_le_pred a b) (le_of_suc-le-suc l))

pub gcd_zero : (a : ℕ) → gcd_of a 0 ≡ a
unfolding gcd_of
gcd_zero a = refl

gcd_suc : (a b : ℕ) → gcd_of a (suc b) ≡ gcd_of (suc b) (a % suc b)
unfolding gcd_of
gcd_suc a b = fuel_same b (a % suc b) (suc b) (a % suc b) (mod_le_pred a b) (le_refl (a % suc b))

pub gcd_step : (a b : ℕ) → 0 < b → gcd_of a b ≡ gcd_of b (a % b)
gcd_step a zero h = absurd (not-suc-le-zero h)
gcd_step a (suc b) h = gcd_suc a b

pub gcd_one : (a : ℕ) → gcd_of a 1 ≡ 1
gcd_one a = gcd_step a 1 (omega arith) ∙ rw (mod-one a) (gcd_zero 1)

-- the larger number may come first
pub gcd_flipped : (a b : ℕ) → a < b → gcd_of a b ≡ gcd_of b a
gcd_flipped a b l = gcd_step a b (omega arith) ∙ ap (gcd_of b) (mod-eq_of_lt l)

-- ---- induction along the rule

along : (P : ℕ → ℕ → Type 0) → ((a : ℕ) → P a 0) → ((a b : ℕ) → P (suc b) (a % suc b) → P a (suc b)) → (a b : ℕ) → P a b
along P base step a b = go b a b (le_refl b)
  where
    go : (k a b : ℕ) → b ≤ k → P a b
    go zero a zero h = base a
    go zero a (suc b) h = absurd (not-suc-le-zero h)
    go (suc k) a zero h = base a
    go (suc k) a (suc b) h = step a b (go k (suc b) (a % suc b) (le_trans (mod_le_pred a b) (le_of_suc-le-suc h)))

-- ---- the laws

-- IT DIVIDES BOTH
pub gcd_divides : (a b : ℕ) → (gcd_of a b ∣ a) × (gcd_of a b ∣ b)
gcd_divides =
    along (λ a b. (gcd_of a b ∣ a) × (gcd_of a b ∣ b))
    (λ a. rw gcd_zero (dvd_refl a, dvd-zero a))
    (λ a b ih. rw gcd_suc ((dvd-mod_iff _ ih.0).0 ih.1, ih.0))

-- what divides a * x and b * x divides gcd_of a b * x
pub gcd_scaled : (d x a b : ℕ) → d ∣ a * x → d ∣ b * x → d ∣ gcd_of a b * x
gcd_scaled d x =
    along (λ a b. d ∣ a * x → d ∣ b * x → d ∣ gcd_of a b * x)
    (λ a p q. rw gcd_zero p)
    (λ a b ih p q. rw gcd_suc (ih q (rest a b p q)))
  where
    split : (a b : ℕ) → a / b * (b * x) + a % b * x ≡ a * x
    split a b = rw (← mul_assoc, ← add-mul, div-add-mod')

    rest : (a b : ℕ) → d ∣ a * x → d ∣ suc b * x → d ∣ a % suc b * x
    rest a b p q = (dvd-add_iff_right d (dvd-mul_left_of_dvd d q (a / suc b))).1 (rw split p)

-- EVERY COMMON DIVISOR DIVIDES IT
pub gcd_greatest : (d a b : ℕ) → d ∣ a → d ∣ b → d ∣ gcd_of a b
gcd_greatest d a b p q = rw mul-one at (gcd_scaled d 1 a b (rw mul-one p) (rw mul-one q))

-- it is above 0 where the second number is
pub gcd_pos : (a n : ℕ) → 0 < n → 0 < gcd_of a n
gcd_pos a n h = pos_of_dvd_of_pos (gcd_divides a n).1 h

-- divided by it, the two numbers have no common divisor above 1
pub gcd_reduced : (a n : ℕ) → 0 < n → gcd_of (a / gcd_of a n) (n / gcd_of a n) ≡ 1
gcd_reduced a n pos =
    let h : ℕ = gcd_of a n in
    let d : ℕ = gcd_of (a / h) (n / h) in
    let less = gcd_divides (a / h) (n / h) in
    let scaled : h * d ∣ h = gcd_greatest (h * d) a n (whole d a (gcd_divides a n).0 less.0) (whole d n (gcd_divides a n).1 less.1) in
    eq-one_of_dvd-one (dvd_of_mul-dvd-mul_left d (gcd_pos a n pos) (rw mul-one scaled))
  where
    whole : (d m : ℕ) → gcd_of a n ∣ m → d ∣ m / gcd_of a n → gcd_of a n * d ∣ m
    whole d m p q = rw (mul-div_cancel' (gcd_of a n) p) at (mul-dvd-mul_left d (gcd_of a n) q)
