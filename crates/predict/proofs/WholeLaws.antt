-- A full tone of whole numbers comes back exactly. Before the colorant that has all N cells every product is +0 or -0 and the sum stays +0;
-- there it becomes N × v, which is exact; after it nothing is added; and N × v by N is v.
-- Assumes nothing.
use Prim.Native.Nat.{ℕ, zero, suc, ◌+◌, ◌*◌, ◌^◌, ◌≤◌, ◌<◌}
use mathlib.Core.Path.{◌≡◌, refl, sym, ap, ◌∙◌, subst}
use mathlib.Core.Logic.{◌⊎◌, inl, inr}
use mathlib.Core.Bool.{Bool, true, false, ◌&&◌, true≢false}
use native.Mathlib.Nat.{le_trans, le_of_eq, le_of_suc-le-suc, eq-or-lt_of_le, mul-one, zero-mul, mul-le-mul, mul_right_comm, zero-add, eq_of_mul-eq-mul_right}
use native.Mathlib.Omega.{arith}
use lib.Dec.{T, eqb, eqb→eq, lit≤}
use lib.IntN.{pos}
use lib.Ieee.{Float, nan, inf, fin, binary64, up, down, le, eq, of_int, mul, fits}
use lib.Ieee.Fits.{and_l, and_r, down_pos, of_int-fits}
use lib.Ieee.Exact.{HasValue}
use lib.Ieee.Scale.{finite}
use lib.Ieee.Back.{whole_unique}
use Rattle.predict.specs.declared.Xyz.{Xyz}
use Rattle.predict.specs.Predicted.{plus_zero, within, admitted, more, total, channel, mean_of}
use Rattle.predict.specs.Laws.{value_of, IsWhole, WholeItself}
use Rattle.predict.proofs.Steps.{channel_is}
use Rattle.predict.proofs.Exact.{Num, int_val, mul_num, mul_cold, add_num, div_num}

-- ---- values

within_finite : (y : Float) → T (within y) → T (finite y)
unfolding le
within_finite nan t = t
within_finite (inf true) t = t
within_finite (inf false) t = t
within_finite (fin s m e) t = tt

-- the three values of an admitted primary
three : (a b c : Bool) → (a && b && c) ≡ true → T a × T b × T c
three true true c e = (tt, tt, subst T (sym e) tt)
three true false c e = absurd (true≢false (sym e))
three false b c e = absurd (true≢false (sym e))

admitted_values : (p : Xyz) → admitted p ≡ true → T (within p.x) × T (within p.y) × T (within p.z)
admitted_values p e = three (within p.x) (within p.y) (within p.z) e

-- a value that equals v is +v, or -0 where v is 0
same : (x y c d v : ℕ) → x * d ≡ y * c → y * 1 ≡ v * d → 0 < d → x * 1 ≡ v * c
same x y c d v p q D = mul-one x ∙ eq_of_mul-eq-mul_right d D x (v * c) (p ∙ ap (λ (z : ℕ). z * c) (sym (mul-one y) ∙ q) ∙ mul_right_comm v d c)

zero_only : (x y c d v : ℕ) → x * d ≡ y * c → x * d ≡ 0 → y * 1 ≡ v * d → 0 < c → 0 < d → v ≡ 0
zero_only x y c d v p z q C D =
    let yc : v * d * c ≡ 0 = ap (λ (k : ℕ). k * c) (sym q ∙ mul-one y) ∙ sym p ∙ z in
    eq_of_mul-eq-mul_right d D v 0 (eq_of_mul-eq-mul_right c C (v * d) (0 * d) (yc ∙ sym (ap (λ (k : ℕ). k * c) (zero-mul d) ∙ zero-mul c)))

eq→num : (x y : Float) (v : ℕ) → HasValue y false v 1 → T (eq x y) → Num x v
unfolding eq
eq→num x nan v q t = absurd q
eq→num x (inf u) v q t = absurd q
eq→num x (fin true n d) v q t = absurd (true≢false q.0)
eq→num nan (fin false n d) v q t = absurd t
eq→num (inf s) (fin false n d) v q t = absurd t
eq→num (fin false m e) (fin false n d) v q t =
    let p = eqb→eq (m * up e * down d) (n * up d * down e) (and_l (eqb (m * up e * down d) (n * up d * down e)) true t) in
    (same (m * up e) (n * up d) (down e) (down d) v p q.1 (down_pos d), λ (u : ⊥). absurd u)
eq→num (fin true m e) (fin false n d) v q t =
    let p = eqb→eq (m * up e * down d) (n * up d * down e) (and_l (eqb (m * up e * down d) (n * up d * down e)) (eqb (m * up e * down d) 0) t) in
    let z = eqb→eq (m * up e * down d) 0 (and_r (eqb (m * up e * down d) (n * up d * down e)) (eqb (m * up e * down d) 0) t) in (
      same (m * up e) (n * up d) (down e) (down d) v p q.1 (down_pos d),
      λ (u : T true). zero_only (m * up e) (n * up d) (down e) (down d) v p z q.1 (down_pos e) (down_pos d),
    )

small : (v : ℕ) → v ≤ 200 → v ≤ 2 ^ 53
small v h = le_trans h (lit≤ tt)

whole_num : (x : Float) (v : ℕ) → IsWhole x v → Num x v
whole_num x v is = eq→num x (value_of v) v (int_val v (small v is.0)) is.1

-- ---- sums

-- a step whose count is 0 changes nothing
cold : (s : Float) (a c : ℕ) (y : Float) → a ≤ 2 ^ 53 → s ≡ value_of a → c ≡ 0 → T (within y) → more s c y ≡ value_of a
cold s a c y h p q w =
    let plus : a + 0 ≡ a = omega arith in
    ap (λ (z : Float). more z c y) p
    ∙ ap (λ (k : ℕ). more (value_of a) k y) q
    ∙ add_num (value_of a) (mul binary64 (value_of 0) y) a 0 (int_val a h) (mul_cold (value_of 0) y (int_val 0 (omega arith)) (within_finite y w))
    ∙ ap value_of plus

start : plus_zero ≡ value_of 0
unfolding of_int
start = refl

room : (n v : ℕ) → n ≤ 4096 → v ≤ 200 → n * v ≤ 2 ^ 53
room n v a b = le_trans (mul-le-mul a b) (lit≤ tt)

-- record h has all n cells, and its value is the whole number w
module _ (n h w : ℕ) (c : ℕ → ℕ) (v : ℕ → Float) (some : 0 < n) (most : n ≤ 4096) (eight : h < 8) (all : c h ≡ n) (none : (k : ℕ) → k < 8 → (k ≡ h → ⊥) → c k ≡ 0) (ok : (k : ℕ) → k < 8 → T (within (v k))) (is : IsWhole (v h) w) where
  before : (k : ℕ) → k ≤ h → total k c v ≡ value_of 0
  unfolding total
  before zero l = start
  before (suc k) l =
      cold (total k c v) 0 (c k) (v k) (omega arith) (before k (omega arith)) (none k (omega arith) (λ e. omega arith)) (ok k (omega arith))

  there : total (suc h) c v ≡ value_of (n * w)
  unfolding total
  there =
      ap (λ (z : Float). more z (c h) (v h)) (before h (le_of_eq refl))
      ∙ ap (λ (k : ℕ). more (value_of 0) k (v h)) all
      ∙ add_num (value_of 0) (mul binary64 (value_of n) (v h)) 0 (n * w) (int_val 0 (omega arith))
      (mul_num (value_of n) (v h) n w (room n w most is.0) (int_val n (le_trans most (lit≤ tt))) (whole_num (v h) w is))
      ∙ ap value_of (zero-add (n * w))

  after : (k : ℕ) → h < k → k ≤ 8 → total k c v ≡ value_of (n * w)
  unfolding total
  after zero l b = absurd (omega arith)
  after (suc k) l b = elim (eq-or-lt_of_le (le_of_suc-le-suc l)) [
    | inl e ↦ subst (λ (x : ℕ). total (suc x) c v ≡ value_of (n * w)) e there
    | inr m ↦ cold (total k c v) (n * w) (c k) (v k) (room n w most is.0) (after k m (omega arith)) (none k b (λ e. omega arith)) (ok k b)
  ]

  channel_whole : channel c n v ≡ value_of w
  channel_whole =
      channel_is c n v
      ∙ rw (after 8 eight (le_of_eq refl))
      (div_num (value_of (n * w)) (value_of n) n w some (int_val (n * w) (room n w most is.0)) (int_val n (le_trans most (lit≤ tt))))

-- the three values of a record that is whole
pub mean_whole : (n h : ℕ) (c : ℕ → ℕ) (p : ℕ → Xyz) → 0 < n → n ≤ 4096 → h < 8 → c h ≡ n → ((k : ℕ) → k < 8 → (k ≡ h → ⊥) → c k ≡ 0) → ((k : ℕ) → k < 8 → admitted (p k) ≡ true)
    → (x y z : ℕ) → IsWhole (p h).x x → IsWhole (p h).y y → IsWhole (p h).z z → mean_of c n p ≡ record { x = value_of x; y = value_of y; z = value_of z }
mean_whole n h c p some most eight all none good x y z wx wy wz =
    rw (
      channel_whole n h x c (λ j. (p j).x) some most eight all none (λ k l. (admitted_values (p k) (good k l)).0) wx,
      channel_whole n h y c (λ j. (p j).y) some most eight all none (λ k l. (admitted_values (p k) (good k l)).1) wy,
      channel_whole n h z c (λ j. (p j).z) some most eight all none (λ k l. (admitted_values (p k) (good k l)).2) wz,
    )

-- ---- the value itself

pub whole_itself : WholeItself
unfolding fits
whole_itself x v f is = go x f (whole_num x v is)
  where
    go : (x : Float) → T (fits binary64 x) → Num x v → (x ≡ value_of v) ⊎ (x ≡ fin true 0 (pos 0))
    go nan f p = absurd p
    go (inf s) f p = absurd p
    go (fin false m e) f p = inl (whole_unique binary64 (fin false m e) (value_of v) false v f (of_int-fits binary64 (pos v)) (refl, p.0) (int_val v (small v is.0)))
    go (fin true m e) f p =
        inr (whole_unique binary64 (fin true m e) (fin true 0 (pos 0)) true 0 f tt (refl, p.0 ∙ ap (λ (k : ℕ). k * down e) (p.1 tt)) (refl, refl))
