-- Remainders: what equal ones say, and `remainder_of` in words.
-- Assumes nothing.
use Prim.Native.Nat.{ℕ, zero, ◌+◌, ◌-◌, ◌*◌, ◌/◌, ◌%◌, ◌≤◌, ◌<◌, ◌∣◌}
use mathlib.Core.Path.{◌≡◌, sym, ap, ◌∙◌}
use mathlib.Core.Logic.{◌⊎◌, inl, inr}
use native.Mathlib.Nat.{not-le_of_lt, le_of_dvd, eq-zero-or-pos, div-add-mod, mul-sub, mul_comm, dvd-mul_right, le-mul_of_pos_right, mod-lt, mod-eq_of_lt, mod-mod, mod-add-mod, add-mod-mod, add-mul-mod_self_left, mul-add-mod_self_left, mod-eq-zero_of_dvd, zero-add, add_comm, mod-eq-sub-mod}
use native.Mathlib.Omega.{arith}
use Rattle.arith.specs.Remainder.{remainder_of}

-- ---- equal remainders

-- n divides the difference, whichever number is the larger: the other way round the difference is 0
pub same_remainder : (n u v : ℕ) → u % n ≡ v % n → n ∣ v - u
same_remainder n u v e =
    let d : v - u ≡ n * (v / n - u / n) = rw mul-sub (omega (arith, div-add-mod v n, div-add-mod u n)) in
    rw d (dvd-mul_right n (v / n - u / n))

-- a number below n that n divides is 0
pub below_divisor : {n d : ℕ} → n ∣ d → d < n → d ≡ 0
below_divisor {n} {d} p l = go (eq-zero-or-pos d)
  where
    go : (d ≡ zero) ⊎ (zero < d) → d ≡ 0
    go (inl e) = e
    go (inr h) = absurd (not-le_of_lt l (le_of_dvd h p))

-- the same number may be added on both sides, and taken off again
remainder_plus : (n u v k : ℕ) → u % n ≡ v % n → (u + k) % n ≡ (v + k) % n
remainder_plus n u v k e = sym (mod-add-mod u n k) ∙ ap (λ (r : ℕ). (r + k) % n) e ∙ mod-add-mod v n k

pub remainder_minus : (n u v k : ℕ) → 0 < n → (u + k) % n ≡ (v + k) % n → u % n ≡ v % n
remainder_minus n u v k pos e =
    sym (whole u) ∙ remainder_plus n (u + k) (v + k) (n * k - k) e ∙ whole v
  where
    whole : (w : ℕ) → (w + k + (n * k - k)) % n ≡ w % n
    whole w =
        let room : k ≤ n * k = rw mul_comm (le-mul_of_pos_right k pos) in
        let q : w + k + (n * k - k) ≡ w + n * k = omega arith in
        rw q (add-mul-mod_self_left w n k)

-- a multiple of n counts for nothing
pub remainder_multiple : (n u v : ℕ) → n ∣ u → (u + v) % n ≡ v % n
remainder_multiple n u v d = sym (mod-add-mod u n v) ∙ rw (mod-eq-zero_of_dvd n d, zero-add)

-- remainders scale with their divisor
pub remainder_scaled : (h n u v : ℕ) → u % n ≡ v % n → h * u % (h * n) ≡ h * v % (h * n)
remainder_scaled h n u v e = scaled u ∙ ap (λ (r : ℕ). h * r % (h * n)) e ∙ sym (scaled v)
  where
    scaled : (w : ℕ) → h * w % (h * n) ≡ h * (w % n) % (h * n)
    scaled w =
        let q : h * w ≡ h * n * (w / n) + h * (w % n) = ap (λ (z : ℕ). h * z) (sym (div-add-mod w n)) ∙ omega arith in
        ap (λ (z : ℕ). z % (h * n)) q ∙ mul-add-mod_self_left (h * n) (w / n) (h * (w % n))

-- one number below n added to another, with n taken off once where it is reached
pub remainder_once : (n p k : ℕ) → p < n → k ≤ n → n ≤ p + k → p + k - n ≡ (p + k) % n
remainder_once n p k l h r = sym (mod-eq-sub-mod r ∙ mod-eq_of_lt (omega arith))

-- a factor may be reduced first
pub remainder_times : (p a n i : ℕ) → (p + a % n * i) % n ≡ (p + a * i) % n
remainder_times p a n i =
    let q : p + a * i ≡ p + a % n * i + n * (a / n * i) = omega (arith, ap (λ (z : ℕ). z * i) (div-add-mod a n)) in
    sym (ap (λ (z : ℕ). z % n) q ∙ add-mul-mod_self_left (p + a % n * i) n (a / n * i))

-- and so may one factor of each of two products
pub remainder_products : (a b n x y : ℕ) → (a * (x % n) + b * (y % n)) % n ≡ (a * x + b * y) % n
remainder_products a b n x y =
    let first : a * (x % n) + b * (y % n) ≡ b * (y % n) + x % n * a = omega arith in
    let second : b * (y % n) + x * a ≡ a * x + y % n * b = omega arith in
    let last : a * x + y * b ≡ a * x + b * y = omega arith in
    ap (λ (z : ℕ). z % n) first ∙ remainder_times (b * (y % n)) x n a
    ∙ ap (λ (z : ℕ). z % n) second ∙ remainder_times (a * x) y n b ∙ ap (λ (z : ℕ). z % n) last

-- ---- the remainder of a difference

module _ (u v n : ℕ) (pos : 0 < n) where
  pub remainder_below : remainder_of u v n < n
  unfolding remainder_of
  remainder_below = mod-lt _ pos

  -- adding v again gives the remainder of u
  pub remainder_words : (remainder_of u v n + v) % n ≡ u % n
  unfolding remainder_of
  remainder_words =
      let room : v ≤ n * v = rw mul_comm (le-mul_of_pos_right v pos) in
      let q : u + n * v - v + v ≡ u + n * v = omega arith in
      mod-add-mod (u + n * v - v) n v ∙ rw q (add-mul-mod_self_left u n v)

-- and it is the only number below n of which this is so
pub remainder_only : (u v n p : ℕ) → p < n → (p + v) % n ≡ u % n → p ≡ remainder_of u v n
remainder_only u v n p l e =
    let pos : 0 < n = omega arith in
    let q : p % n ≡ remainder_of u v n % n = remainder_minus n p (remainder_of u v n) v pos (e ∙ sym (remainder_words u v n pos)) in
    sym (mod-eq_of_lt l) ∙ q ∙ mod-eq_of_lt (remainder_below u v n pos)

-- it may be worked out from the two remainders, with n added before one is taken from the other
pub remainder_apart : (u v n : ℕ) → 0 < n → (u % n + n - v % n) % n ≡ remainder_of u v n
remainder_apart u v n pos =
    let r : v % n < n = mod-lt v pos in
    let q : u % n + n - v % n + v ≡ u % n + n * (v / n + 1) = omega (arith, div-add-mod v n) in
    remainder_only u v n ((u % n + n - v % n) % n) (mod-lt _ pos)
    (mod-add-mod (u % n + n - v % n) n v ∙ ap (λ (z : ℕ). z % n) q ∙ add-mul-mod_self_left (u % n) n (v / n + 1) ∙ mod-mod u n)

-- the remainder moves on with u
pub remainder_on : (u v n i : ℕ) → 0 < n → (remainder_of u v n + i) % n ≡ remainder_of (u + i) v n
remainder_on u v n i pos =
    let r : ℕ = remainder_of u v n in
    let q : r + i + v ≡ r + v + i = omega arith in
    remainder_only (u + i) v n ((r + i) % n) (mod-lt _ pos)
    (mod-add-mod (r + i) n v ∙ ap (λ (z : ℕ). z % n) q ∙ remainder_plus n (r + v) u i (remainder_words u v n pos))

-- a difference taken off: what was taken from it is added
pub remainder_off : (u g v n : ℕ) → 0 < n → remainder_of u (remainder_of g v n) n ≡ remainder_of (v + u) g n
remainder_off u g v n pos =
    let d : ℕ = remainder_of g v n in
    let p : ℕ = remainder_of u d n in
    let q : p + (d + v) ≡ p + d + v = omega arith in
    remainder_only (v + u) g n p (remainder_below u d n pos)
    (sym (add-mod-mod p g n) ∙ ap (λ (z : ℕ). (p + z) % n) (sym (remainder_words g v n pos)) ∙ add-mod-mod p (d + v) n
    ∙ ap (λ (z : ℕ). z % n) q ∙ remainder_plus n (p + d) u v (remainder_words u d n pos) ∙ ap (λ (z : ℕ). z % n) (add_comm u v))

-- and two numbers taken off, one after the other: their sum is
pub remainder_twice : (g v w n : ℕ) → 0 < n → remainder_of (remainder_of g v n) w n ≡ remainder_of g (v + w) n
remainder_twice g v w n pos =
    let d : ℕ = remainder_of g v n in
    let p : ℕ = remainder_of d w n in
    let q : p + (v + w) ≡ p + w + v = omega arith in
    remainder_only g (v + w) n p (remainder_below d w n pos)
    (ap (λ (z : ℕ). z % n) q ∙ remainder_plus n (p + w) d v (remainder_words d w n pos) ∙ remainder_words g v n pos)
