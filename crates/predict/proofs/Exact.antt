-- Where binary64's operations are exact, on whole numbers up to 2 ^ 53. `HasValue x false a 1` says that x is +a; `Num x a` lets x be -0 too
-- where a is 0. Each operation rounds a quotient of whole numbers, and one that is whole rounds to itself.
-- `add_num`, `mul_num`, `mul_cold`, `div_num`: the sum, the product, the product with a count of 0, and the quotient.
-- Assumes nothing.
use Prim.Native.Nat.{ℕ, ◌+◌, ◌-◌, ◌*◌, ◌^◌, ◌≤◌, ◌<◌}
use native.Mathlib.Nat.{zero-lt-suc, lt_irrefl, mul-one, zero-mul, mul_comm, mul-mul-mul_comm, mul-pos}
use native.Mathlib.Omega.{arith}
use mathlib.Core.Path.{◌≡◌, refl, sym, ap, ◌∙◌, subst}
use mathlib.Core.Bool.{Bool, true, false, cond, true≢false}
use lib.Dec.{T, ltb, eqb, eqb→eq}
use lib.IntN.{pos}
use lib.Ieee.{Float, nan, inf, fin, binary64, up, down, round, add, mul, div, of_int}
use lib.Ieee.Fits.{down_pos}
use lib.Ieee.Exact.{HasValue}
use lib.Ieee.Back.{round_whole}
use lib.Ieee.Scale.{round_same, finite}
use lib.Ieee.Positive.{first_pos}
use borrow.Author.Tests.{le-ltb}

abbrev pub Num : Float → ℕ → Type 0
Num nan a = ⊥
Num (inf s) a = ⊥
Num (fin s m e) a = (m * up e * 1 ≡ a * down e) × (T s → a ≡ 0)

val→num : (x : Float) (s : Bool) (a : ℕ) → (T s → a ≡ 0) → HasValue x s a 1 → Num x a
val→num nan s a h v = v
val→num (inf t) s a h v = v
val→num (fin t m e) s a h v = (v.1, λ (u : T t). h (subst T v.0 u))

pub int_val : (a : ℕ) → a ≤ 2 ^ 53 → HasValue (of_int binary64 (pos a)) false a 1
unfolding of_int
int_val a h = round_whole binary64 false a h

-- ---- the product
cross : (a b c d k v : ℕ) → a * 1 ≡ k * c → b * 1 ≡ v * d → a * b * 1 ≡ k * v * (c * d)
cross a b c d k v p q = mul-one (a * b) ∙ ap (λ (z : ℕ). z * b) (sym (mul-one a) ∙ p) ∙ ap (λ (z : ℕ). k * c * z) (sym (mul-one b) ∙ q) ∙ mul-mul-mul_comm k c v d

none : (a b c d : ℕ) → a * 1 ≡ 0 * c → a * b * 1 ≡ 0 * (c * d)
none a b c d p = mul-one (a * b) ∙ ap (λ (z : ℕ). z * b) (sym (mul-one a) ∙ p ∙ zero-mul c) ∙ zero-mul b ∙ sym (zero-mul (c * d))

rounded : (s : Bool) (num den a : ℕ) → 0 < den → a ≤ 2 ^ 53 → num * 1 ≡ a * den → (T s → a ≡ 0) → Num (round binary64 s num den) a
rounded s num den a D h e z =
    subst (λ (x : Float). Num x a) (sym (round_same binary64 s num den a 1 D (zero-lt-suc 0) e)) (val→num (round binary64 s a 1) s a z (round_whole binary64 s a h))

pub mul_num : (x y : Float) (k v : ℕ) → k * v ≤ 2 ^ 53 → HasValue x false k 1 → Num y v → Num (mul binary64 x y) (k * v)
unfolding mul
mul_num nan y k v h p q = absurd p
mul_num (inf s) y k v h p q = absurd p
mul_num (fin true m e) y k v h p q = absurd (true≢false p.0)
mul_num (fin false m e) nan k v h p q = absurd q
mul_num (fin false m e) (inf t) k v h p q = absurd q
mul_num (fin false m e) (fin false n d) k v h p q =
    rounded false (m * up e * (n * up d)) (down e * down d) (k * v) (mul-pos (down_pos e) (down_pos d)) h (cross (m * up e) (n * up d) (down e) (down d) k v p.1 q.0) (λ (u : ⊥). absurd u)
mul_num (fin false m e) (fin true n d) k v h p q =
    rounded true (m * up e * (n * up d)) (down e * down d) (k * v) (mul-pos (down_pos e) (down_pos d)) h (cross (m * up e) (n * up d) (down e) (down d) k v p.1 q.0)
    (λ (u : T true). ap (λ (z : ℕ). k * z) (q.1 tt) ∙ mul_comm k 0 ∙ zero-mul k)

-- 0 times anything finite is +0 or -0
pub mul_cold : (x y : Float) → HasValue x false 0 1 → T (finite y) → Num (mul binary64 x y) 0
unfolding mul
mul_cold nan y p q = absurd p
mul_cold (inf s) y p q = absurd p
mul_cold (fin true m e) y p q = absurd (true≢false p.0)
mul_cold (fin false m e) nan p q = absurd q
mul_cold (fin false m e) (inf t) p q = absurd q
mul_cold (fin false m e) (fin false n d) p q =
    rounded false (m * up e * (n * up d)) (down e * down d) 0 (mul-pos (down_pos e) (down_pos d)) (omega arith) (none (m * up e) (n * up d) (down e) (down d) p.1) (λ (u : ⊥). refl)
mul_cold (fin false m e) (fin true n d) p q =
    rounded true (m * up e * (n * up d)) (down e * down d) 0 (mul-pos (down_pos e) (down_pos d)) (omega arith) (none (m * up e) (n * up d) (down e) (down d) p.1) (λ (u : T true). refl)

-- ---- the sum
joined : (x y c d a b : ℕ) → x * 1 ≡ a * c → y * 1 ≡ b * d → (x * d + y * c) * 1 ≡ (a + b) * (c * d)
joined x y c d a b p q =
    let left : x ≡ a * c = omega arith in
    let right : y ≡ b * d = omega arith in
    rw (left, right) (omega arith)

minus_zero_lem : (A B C : ℕ) → B ≡ 0 → cond (ltb A B) (round binary64 true (B - A) C) (round binary64 false (A - B) C) ≡ round binary64 false (A + B) C
minus_zero_lem A B C h =
    let same : A - B ≡ A + B = omega arith in
    rw (le-ltb A B (omega arith), same)

pub add_num : (x y : Float) (a b : ℕ) → HasValue x false a 1 → Num y b → add binary64 x y ≡ of_int binary64 (pos (a + b))
unfolding add of_int
add_num nan y a b p q = absurd p
add_num (inf s) y a b p q = absurd p
add_num (fin true m e) y a b p q = absurd (true≢false p.0)
add_num (fin false m e) nan a b p q = absurd q
add_num (fin false m e) (inf t) a b p q = absurd q
add_num (fin false m e) (fin false n d) a b p q =
    round_same binary64 false (m * up e * down d + n * up d * down e) (down e * down d) (a + b) 1 (mul-pos (down_pos e) (down_pos d)) (zero-lt-suc 0)
    (joined (m * up e) (n * up d) (down e) (down d) a b p.1 q.0)
add_num (fin false m e) (fin true n d) a b p q =
    minus_zero_lem (m * up e * down d) (n * up d * down e) (down e * down d)
    (ap (λ (z : ℕ). z * down e) (sym (mul-one (n * up d)) ∙ q.0 ∙ ap (λ (z : ℕ). z * down d) (q.1 tt) ∙ zero-mul (down d)) ∙ zero-mul (down e))
    ∙ round_same binary64 false (m * up e * down d + n * up d * down e) (down e * down d) (a + b) 1 (mul-pos (down_pos e) (down_pos d)) (zero-lt-suc 0)
    (joined (m * up e) (n * up d) (down e) (down d) a b p.1 q.0)

-- ---- the quotient
shared : (x y c d n v : ℕ) → x * 1 ≡ n * v * c → y * 1 ≡ n * d → x * d * 1 ≡ v * (y * c)
shared x y c d n v p q =
    let above : x ≡ n * v * c = omega arith in
    let below : y ≡ n * d = omega arith in
    rw (above, below) (omega arith)

pub div_num : (x y : Float) (n v : ℕ) → 0 < n → HasValue x false (n * v) 1 → HasValue y false n 1 → div binary64 x y ≡ of_int binary64 (pos v)
unfolding div of_int
div_num nan y n v N p q = absurd p
div_num (inf s) y n v N p q = absurd p
div_num (fin true m e) y n v N p q = absurd (true≢false p.0)
div_num (fin false m e) nan n v N p q = absurd q
div_num (fin false m e) (inf t) n v N p q = absurd q
div_num (fin false m e) (fin true k d) n v N p q = absurd (true≢false q.0)
div_num (fin false m e) (fin false k d) n v N p q = go (eqb k 0) (eqb→eq k 0)
  where
    above : 0 < k * up d
    above = subst (λ (z : ℕ). 0 < z) (sym q.1 ∙ mul-one (k * up d)) (mul-pos N (down_pos d))

    go : (b : Bool) → (T b → k ≡ 0) → cond b (cond (eqb m 0) nan (inf false)) (round binary64 false (m * up e * down d) (k * up d * down e)) ≡ round binary64 false v 1
    go true z = absurd (lt_irrefl 0 (subst (λ (w : ℕ). 0 < w) (z tt) (first_pos k (up d) above)))
    go false z =
        round_same binary64 false (m * up e * down d) (k * up d * down e) v 1 (mul-pos above (down_pos e)) (zero-lt-suc 0)
        (shared (m * up e) (k * up d) (down e) (down d) n v p.1 q.1)
