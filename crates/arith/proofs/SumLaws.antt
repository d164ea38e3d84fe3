-- Laws of `sum_below`: equal terms, constants, splitting, differences, multiples, shifting, sums of sums, and counting by indicators.
-- Assumes nothing.
use Prim.Native.Nat.{ℕ, zero, suc, ◌+◌, ◌-◌, ◌*◌, ◌/◌, ◌%◌, ◌≤◌, ◌<◌}
use mathlib.Core.Path.{◌≡◌, refl, sym, ap, ap₂, ◌∙◌}
use mathlib.Core.Logic.{◌⊎◌, inl, inr, ◌≢◌}
use mathlib.Core.Bool.{cond}
use native.Mathlib.Nat.{le_refl, le_step, le_of_suc-le-suc, not-suc-le-zero, eq-or-lt_of_le, ne_of_lt, add-zero, add-suc, sub-add_cancel, add-sub_of_le, zero-mul, mul-zero, mul-one, suc-mul, mod-lt, div-add-mod', div-lt_iff_lt-mul}
use native.Mathlib.Numerals.{add-one}
use native.Mathlib.Decide.{ℕ_discrete, dec_lt}
use native.Mathlib.Omega.{arith}
use lib.Dec.{eqb, leb, ltb}
use lib.Arith.{digits_div, digits_mod}
use borrow.Author.Tests.{eq-eqb, ne_eqb, lt-ltb, le-ltb, le-leb, lt-leb}
use Rattle.arith.specs.Sum.{sum_below, indicator}

-- ---- the indicator of an equation

pub indicator_one : {a b : ℕ} → a ≡ b → indicator (eqb a b) ≡ 1
indicator_one {a} {b} e = ap indicator (eq-eqb a b e)

pub indicator_none : {a b : ℕ} → a ≢ b → indicator (eqb a b) ≡ 0
indicator_none {a} {b} f = ap indicator (ne_eqb a b f)

-- ---- one sum

pub sum_same : (n : ℕ) (f g : ℕ → ℕ) → ((i : ℕ) → i < n → f i ≡ g i) → sum_below n f ≡ sum_below n g
unfolding sum_below
sum_same zero f g h = refl
sum_same (suc n) f g h = ap₂ ◌+◌ (sum_same n f g (λ i l. h i (le_step l))) (h n (le_refl (suc n)))

-- a sum with one term more
pub sum_next : (n : ℕ) (f : ℕ → ℕ) → sum_below (n + 1) f ≡ sum_below n f + f n
unfolding sum_below
sum_next n f = ap (λ (k : ℕ). sum_below k f) (add-one n)

-- terms that are no larger add up to no more
pub sum_le : (n : ℕ) (f g : ℕ → ℕ) → ((i : ℕ) → i < n → f i ≤ g i) → sum_below n f ≤ sum_below n g
unfolding sum_below
sum_le zero f g h = le_refl 0
sum_le (suc n) f g h = omega (arith, sum_le n f g (λ i l. h i (le_step l)), h n (le_refl (suc n)))

-- A SUM OF A CONSTANT
pub sum_constant : (n c : ℕ) (f : ℕ → ℕ) → ((i : ℕ) → i < n → f i ≡ c) → sum_below n f ≡ n * c
unfolding sum_below
sum_constant zero c f h = sym (zero-mul c)
sum_constant (suc n) c f h = rw suc-mul (ap₂ ◌+◌ (sum_constant n c f (λ i l. h i (le_step l))) (h n (le_refl (suc n))))

-- A SUM SPLIT in the first m terms and the n after them
pub sum_split : (m n : ℕ) (f : ℕ → ℕ) → sum_below (m + n) f ≡ sum_below m f + sum_below n (λ i. f (m + i))
unfolding sum_below
sum_split m zero f = rw (add-zero m) (sym (add-zero (sum_below m f)))
sum_split m (suc n) f = rw (add-suc m n) (omega (arith, sum_split m n f))

pub sum_plus : (n : ℕ) (f g : ℕ → ℕ) → sum_below n (λ i. f i + g i) ≡ sum_below n f + sum_below n g
unfolding sum_below
sum_plus zero f g = refl
sum_plus (suc n) f g = omega (arith, sum_plus n f g)

-- A SUM OF DIFFERENCES, where none is below 0
pub sum_minus : (n : ℕ) (f g : ℕ → ℕ) → ((i : ℕ) → i < n → g i ≤ f i) → sum_below n (λ i. f i - g i) ≡ sum_below n f - sum_below n g
sum_minus n f g h = omega (arith, sym (sum_plus n (λ i. f i - g i) g) ∙ sum_same n _ f (λ i l. sub-add_cancel (h i l)))

-- A SUM OF MULTIPLES by one number
pub sum_scaled : (n c : ℕ) (f : ℕ → ℕ) → sum_below n (λ i. c * f i) ≡ c * sum_below n f
unfolding sum_below
sum_scaled zero c f = omega arith
sum_scaled (suc n) c f = omega (arith, sum_scaled n c f)

-- A SUM SHIFTED by one place loses its first term and gains the one after its last
pub sum_shift : (n : ℕ) (f : ℕ → ℕ) → sum_below n (λ i. f (suc i)) + f 0 ≡ sum_below n f + f n
unfolding sum_below
sum_shift zero f = refl
sum_shift (suc n) f = omega (arith, sum_shift n f)

-- fewer terms add up to no more
pub sum_fewer : (m n : ℕ) (f : ℕ → ℕ) → m ≤ n → sum_below m f ≤ sum_below n f
sum_fewer m n f h = omega (arith, sum_split m (n - m) f, ap (λ (k : ℕ). sum_below k f) (add-sub_of_le h))

-- one term is no more than all
pub sum_term : (n : ℕ) (f : ℕ → ℕ) (k : ℕ) → k < n → f k ≤ sum_below n f
sum_term n f k h = omega (arith, sum_next k f, sum_fewer (k + 1) n f (omega arith))

-- A SUM WITH ONE TERM that may be above 0
pub sum_single : (n k : ℕ) (f : ℕ → ℕ) → k < n → ((i : ℕ) → i < n → i ≢ k → f i ≡ 0) → sum_below n f ≡ f k
unfolding sum_below
sum_single zero k f l none = absurd (not-suc-le-zero l)
sum_single (suc n) k f l none = go (sum_single n k f) (eq-or-lt_of_le (le_of_suc-le-suc l))
  where
    go : (k < n → ((i : ℕ) → i < n → i ≢ k → f i ≡ 0) → sum_below n f ≡ f k) → (k ≡ n) ⊎ (k < n) → sum_below n f + f n ≡ f k
    go ih (inl e) = omega (arith, sum_constant n 0 f (λ i h. none i (le_step h) (λ q. ne_of_lt h (q ∙ e))), ap f e)
    go ih (inr h) = omega (arith, ih h (λ i m. none i (le_step m)), none n (le_refl (suc n)) (λ q. ne_of_lt h (sym q)))

-- terms of at most 1 add up to at most their number
pub sum_bounded : (n : ℕ) (f : ℕ → ℕ) → ((i : ℕ) → i < n → f i ≤ 1) → sum_below n f ≤ n
unfolding sum_below
sum_bounded zero f h = le_refl 0
sum_bounded (suc n) f h = omega (arith, sum_bounded n f (λ i l. h i (le_step l)), h n (le_refl (suc n)))

-- ---- sums of sums

-- TWO SUMS EXCHANGED
pub sum_exchange : (m n : ℕ) (F : ℕ → ℕ → ℕ) → sum_below m (λ i. sum_below n (λ j. F i j)) ≡ sum_below n (λ j. sum_below m (λ i. F i j))
unfolding sum_below
sum_exchange zero n F = sym (sum_constant n 0 (λ j. 0) (λ j l. refl) ∙ omega arith)
sum_exchange (suc m) n F =
    ap (λ (s : ℕ). s + sum_below n (λ j. F m j)) (sum_exchange m n F) ∙ sym (sum_plus n (λ j. sum_below m (λ i. F i j)) (λ j. F m j))

-- one sum over m * n terms is m sums over blocks of n
pub sum_blocks : (m n : ℕ) (f : ℕ → ℕ) → sum_below (m * n) f ≡ sum_below m (λ i. sum_below n (λ j. f (i * n + j)))
unfolding sum_below
sum_blocks zero n f = rw zero-mul
sum_blocks (suc m) n f = rw (suc-mul, sum_split (m * n) n) (ap (λ (s : ℕ). s + sum_below n (λ j. f (m * n + j))) (sum_blocks m n f))

-- one sum over k runs that follow each other, run i having size i terms
pub sum_runs : (k : ℕ) (size : ℕ → ℕ) (f : ℕ → ℕ) → sum_below (sum_below k size) f ≡ sum_below k (λ i. sum_below (size i) (λ q. f (sum_below i size + q)))
unfolding sum_below
sum_runs zero size f = refl
sum_runs (suc k) size f =
    sum_split (sum_below k size) (size k) f
    ∙ ap (λ (s : ℕ). s + sum_below (size k) (λ q. f (sum_below k size + q))) (sum_runs k size f)

-- a sum over the places (i, j) of m rows of n is one sum over their numbers i * n + j
pub sum_places : (m n : ℕ) (F : ℕ → ℕ → ℕ) → sum_below m (λ i. sum_below n (λ j. F i j)) ≡ sum_below (m * n) (λ k. F (k / n) (k % n))
sum_places m n F =
    sym
    (sum_blocks m n (λ k. F (k / n) (k % n))
    ∙ sum_same m _ _ (λ i l. sum_same n _ _ (λ j r. ap₂ F (digits_div i r) (digits_mod i r))))

-- A WINDOW of u by v blocks, each l columns by h rows, that each add up to c adds up to u * v * c
pub sum_window : (u v l h c : ℕ) (F : ℕ → ℕ → ℕ) → ((i j : ℕ) → sum_below h (λ q. sum_below l (λ p. F (i * l + p) (j * h + q))) ≡ c)
    → sum_below (v * h) (λ q. sum_below (u * l) (λ p. F p q)) ≡ u * v * c
sum_window u v l h c F block =
    sum_blocks v h (λ q. sum_below (u * l) (λ p. F p q))
    ∙ sum_constant v (u * c) _ (λ j k. strip j)
    ∙ omega arith
  where
    strip : (j : ℕ) → sum_below h (λ q. sum_below (u * l) (λ p. F p (j * h + q))) ≡ u * c
    strip j =
        sum_same h _ _ (λ q k. sum_blocks u l (λ p. F p (j * h + q)))
        ∙ sum_exchange h u (λ q i. sum_below l (λ p. F (i * l + p) (j * h + q)))
        ∙ sum_constant u c _ (λ i k. block i j)

-- ---- counting

-- where the first u of n terms are 1 and the others 0, the sum is u
pub sum_ones : (n u : ℕ) (f : ℕ → ℕ) → u ≤ n → ((i : ℕ) → i < u → f i ≡ 1) → ((i : ℕ) → i < n - u → f (u + i) ≡ 0) → sum_below n f ≡ u
sum_ones n u f h ones none =
    let parts : n ≡ u + (n - u) = omega arith in
    ap (λ (m : ℕ). sum_below m f) parts
    ∙ sum_split u (n - u) f
    ∙ omega (arith, sum_constant u 1 f ones, sum_constant (n - u) 0 (λ i. f (u + i)) none)

-- as many numbers below n are below u as u says
pub sum_below_lem : (n u : ℕ) → u ≤ n → sum_below n (λ q. indicator (ltb q u)) ≡ u
sum_below_lem n u h =
    sum_ones n u (λ q. indicator (ltb q u)) h (λ q l. ap indicator (lt-ltb q u l)) (λ q l. ap indicator (le-ltb (u + q) u (omega arith)))

-- the first k terms of a sum, as a sum in which the others are 0
pub sum_front : (n k : ℕ) (f : ℕ → ℕ) → k ≤ n → sum_below n (λ i. cond (ltb i k) (f i) 0) ≡ sum_below k f
sum_front n k f h =
    ap (λ (m : ℕ). sum_below m (λ i. cond (ltb i k) (f i) 0)) (sym (add-sub_of_le h))
    ∙ sum_split k (n - k) (λ i. cond (ltb i k) (f i) 0)
    ∙ omega (
      arith,
      sum_same k (λ i. cond (ltb i k) (f i) 0) f (λ i l. rw (lt-ltb i k l)),
      sum_constant (n - k) 0 (λ i. cond (ltb (k + i) k) (f (k + i)) 0) (λ i l. rw (le-ltb (k + i) k (omega arith))),
    )

-- a number below n is met once among the numbers below n
pub sum_met : (n v : ℕ) → v < n → sum_below n (λ t. indicator (eqb v t)) ≡ 1
unfolding sum_below
sum_met zero v h = absurd (not-suc-le-zero h)
sum_met (suc n) v h = go (sum_met n v) (eq-or-lt_of_le (le_of_suc-le-suc h))
  where
    go : (v < n → sum_below n (λ t. indicator (eqb v t)) ≡ 1) → (v ≡ n) ⊎ (v < n) → sum_below n (λ t. indicator (eqb v t)) + indicator (eqb v n) ≡ 1
    go ih (inl e) =
        omega (arith, sum_constant n 0 (λ t. indicator (eqb v t)) (λ t l. indicator_none {a = v} {b = t} (λ q. omega arith)), indicator_one e)
    go ih (inr l) = omega (arith, ih l, indicator_none (ne_of_lt l))

-- terms that are no larger, and one that is smaller, add up to less
pub sum_less : (n : ℕ) (f g : ℕ → ℕ) (k : ℕ) → k < n → ((i : ℕ) → i < n → f i ≤ g i) → f k < g k → sum_below n f < sum_below n g
sum_less n f g k l least less =
    omega (
      arith,
      sum_plus n f (λ i. indicator (eqb k i)),
      sum_met n k l,
      sum_le n (λ i. f i + indicator (eqb k i)) g (λ i m. go i (least i m) (ℕ_discrete k i)),
    )
  where
    go : (i : ℕ) → f i ≤ g i → Dec (k ≡ i) → f i + indicator (eqb k i) ≤ g i
    go i h (yes e) = omega (arith, indicator_one e, ap f e, ap g e)
    go i h (no e) = omega (arith, indicator_none e)

-- OF TERMS THAT ARE NO LARGER AND ADD UP TO THE SAME each is the same
pub sum_tight : (n : ℕ) (f g : ℕ → ℕ) → ((i : ℕ) → i < n → f i ≤ g i) → sum_below n f ≡ sum_below n g → (k : ℕ) → k < n → f k ≡ g k
sum_tight n f g least same k l = go (dec_lt (f k) (g k))
  where
    go : Dec (f k < g k) → f k ≡ g k
    go (yes less) = absurd (ne_of_lt (sum_less n f g k l least less) same)
    go (no more) = omega (arith, least k l)

-- a map that takes no value twice takes t at most once
sum_once : (n : ℕ) (h : ℕ → ℕ) (t : ℕ) → ((i j : ℕ) → i < n → j < n → h i ≡ h j → i ≡ j) → sum_below n (λ i. indicator (eqb (h i) t)) ≤ 1
unfolding sum_below
sum_once zero h t apart = omega arith
sum_once (suc n) h t apart = go (sum_once n h t (λ i j k l. apart i j (le_step k) (le_step l))) (ℕ_discrete (h n) t)
  where
    go : sum_below n (λ i. indicator (eqb (h i) t)) ≤ 1 → Dec (h n ≡ t) → sum_below n (λ i. indicator (eqb (h i) t)) + indicator (eqb (h n) t) ≤ 1
    go ih (yes e) =
        omega (
          arith,
          indicator_one e,
          sum_constant n 0 (λ i. indicator (eqb (h i) t)) (λ i l. indicator_none (λ q. ne_of_lt l (apart i n (le_step l) (le_refl (suc n)) (q ∙ sym e)))),
        )
    go ih (no f) = omega (arith, ih, indicator_none f)

-- n NUMBERS THAT ARE EACH AT MOST 1 AND ADD UP TO n are each 1
pub sum_full : (n : ℕ) (f : ℕ → ℕ) → ((i : ℕ) → i < n → f i ≤ 1) → sum_below n f ≡ n → (t : ℕ) → t < n → f t ≡ 1
sum_full n f h e = sum_tight n f (λ i. 1) h (e ∙ sym (sum_constant n 1 (λ i. 1) (λ i l. refl) ∙ mul-one n))

-- EACH EXACTLY ONCE: a map of the numbers below n to themselves that takes no value twice takes each value once
pub each_once : (n : ℕ) (h : ℕ → ℕ) → ((i : ℕ) → i < n → h i < n) → ((i j : ℕ) → i < n → j < n → h i ≡ h j → i ≡ j)
    → (t : ℕ) → t < n → sum_below n (λ i. indicator (eqb (h i) t)) ≡ 1
each_once n h low apart =
    sum_full n (λ t. sum_below n (λ i. indicator (eqb (h i) t))) (λ t l. sum_once n h t apart)
    (sum_exchange n n (λ t i. indicator (eqb (h i) t)) ∙ sum_constant n 1 _ (λ i l. sum_met n (h i) (low i l)) ∙ omega arith)

-- EACH EXACTLY ONCE, by rows: a map of the k places (i, j) of m rows of n to the numbers below k that takes no value twice
pub each_placed_once : (m n k : ℕ) (h : ℕ → ℕ → ℕ) → m * n ≡ k → 0 < n → ((i j : ℕ) → h i j < k)
    → ((i j i' j' : ℕ) → i < m → j < n → i' < m → j' < n → h i j ≡ h i' j' → (i ≡ i') × (j ≡ j'))
    → (t : ℕ) → t < k → sum_below m (λ i. sum_below n (λ j. indicator (eqb (h i j) t))) ≡ 1
each_placed_once m n k h size pos low apart t l =
    sum_places m n (λ i j. indicator (eqb (h i j) t))
    ∙ ap (λ (z : ℕ). sum_below z (λ c. indicator (eqb (h (c / n) (c % n)) t))) size
    ∙ each_once k (λ c. h (c / n) (c % n)) (λ c _. low (c / n) (c % n)) same t l
  where
    row : (c : ℕ) → c < k → c / n < m
    row c p = (div-lt_iff_lt-mul pos).1 (rw size p)

    same : (c d : ℕ) → c < k → d < k → h (c / n) (c % n) ≡ h (d / n) (d % n) → c ≡ d
    same c d p q e =
        let both = apart _ _ _ _ (row c p) (mod-lt c pos) (row d q) (mod-lt d pos) e in
        sym (div-add-mod' c n) ∙ ap₂ (λ (r u : ℕ). r * n + u) both.0 both.1 ∙ div-add-mod' d n

-- A SUM ALONG a map that meets each number below k once is the sum over the numbers below k
pub sum_along : (n k : ℕ) (h g : ℕ → ℕ) → ((i : ℕ) → i < n → h i < k) → ((t : ℕ) → t < k → sum_below n (λ i. indicator (eqb (h i) t)) ≡ 1)
    → sum_below n (λ i. g (h i)) ≡ sum_below k g
sum_along n k h g low once =
    sum_same n _ _ (λ i l. sym (spread i l))
    ∙ sum_exchange n k (λ i t. g t * indicator (eqb (h i) t))
    ∙ sum_same k _ g (λ t l. sum_scaled n (g t) (λ i. indicator (eqb (h i) t)) ∙ ap (λ (c : ℕ). g t * c) (once t l) ∙ mul-one (g t))
  where
    spread : (i : ℕ) → i < n → sum_below k (λ t. g t * indicator (eqb (h i) t)) ≡ g (h i)
    spread i m =
        sum_single k (h i) (λ t. g t * indicator (eqb (h i) t)) (low i m)
        (λ t l f. ap (λ (c : ℕ). g t * c) (indicator_none (λ e. f (sym e))) ∙ mul-zero (g t))
        ∙ ap (λ (c : ℕ). g (h i) * c) (indicator_one {a = h i} refl)
        ∙ mul-one (g (h i))

-- and by rows
pub sum_along_places : (m n k : ℕ) (h : ℕ → ℕ → ℕ) (g : ℕ → ℕ) → ((i j : ℕ) → h i j < k)
    → ((t : ℕ) → t < k → sum_below m (λ i. sum_below n (λ j. indicator (eqb (h i j) t))) ≡ 1)
    → sum_below m (λ i. sum_below n (λ j. g (h i j))) ≡ sum_below k g
sum_along_places m n k h g low once =
    sum_places m n (λ i j. g (h i j))
    ∙ sum_along (m * n) k (λ c. h (c / n) (c % n)) g (λ c _. low (c / n) (c % n))
    (λ t l. sym (sum_places m n (λ i j. indicator (eqb (h i j) t))) ∙ once t l)

-- OF NUMBERS THAT ADD UP TO ONE OF THEM the others are 0
pub sum_alone : (n : ℕ) (f : ℕ → ℕ) (h : ℕ) → h < n → sum_below n f ≡ f h → (k : ℕ) → k < n → (k ≡ h → ⊥) → f k ≡ 0
sum_alone n f h l e k m apart = go (dec_lt k h)
  where
    -- two of them are no more than all
    two : (i j : ℕ) → i < n → j < i → f i + f j ≤ sum_below n f
    two i j a b = omega (arith, sum_next j f, sum_next i f, sum_fewer (j + 1) i f (omega arith), sum_fewer (i + 1) n f (omega arith))

    go : Dec (k < h) → f k ≡ 0
    go (yes below) = omega (arith, two h k l below)
    go (no above) = omega (arith, two k h m (omega arith))

-- ---- the steps of values that fall

module _ (F : ℕ → ℕ) (falls : (k : ℕ) → F (suc k) ≤ F k) where
  -- the steps from p on add up to what the values fall from there
  pub steps_from : (p m : ℕ) → p ≤ m → sum_below m (λ k. cond (leb p k) (F k - F (suc k)) 0) + F m ≡ F p
  unfolding sum_below
  steps_from p zero h =
      let first : 0 ≡ p = omega arith in
      omega (arith, ap F first)
  steps_from p (suc m) h = go (eq-or-lt_of_le h) (steps_from p m)
    where
      go : (p ≡ suc m) ⊎ (p < suc m) → (p ≤ m → sum_below m (λ k. cond (leb p k) (F k - F (suc k)) 0) + F m ≡ F p)
          → sum_below m (λ k. cond (leb p k) (F k - F (suc k)) 0) + cond (leb p m) (F m - F (suc m)) 0 + F (suc m) ≡ F p
      go (inl e) ih =
          rw (lt-leb p m (omega arith))
          (omega (arith, sum_constant m 0 (λ k. cond (leb p k) (F k - F (suc k)) 0) (λ k l. rw (lt-leb p k (omega arith))), ap F e))
      go (inr l) ih = rw (le-leb p m (le_of_suc-le-suc l)) (omega (arith, ih (le_of_suc-le-suc l), falls m))

  -- each counted with its place, from 1, they add up to the values
  pub steps_counted : (m : ℕ) → sum_below m (λ k. suc k * (F k - F (suc k))) + m * F m ≡ sum_below m F
  unfolding sum_below
  steps_counted zero = omega arith
  steps_counted (suc m) =
      go (F m) (F (suc m)) (F m - F (suc m)) (sum_below m (λ k. suc k * (F k - F (suc k)))) (sum_below m F) (omega (arith, falls m)) (steps_counted m)
    where
      go : (a b d s t : ℕ) → a ≡ b + d → s + m * a ≡ t → s + suc m * d + suc m * b ≡ t + a
      go a b d s t e h = omega (arith, ap (λ (x : ℕ). m * x) e)
