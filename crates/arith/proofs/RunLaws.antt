-- Laws of `upto`, and of parts of a list that are lent and put back.
-- Assumes nothing.
use mathlib.Core.Path.{◌≡◌, refl, sym, ap, subst, ◌∙◌}
use Prim.Native.Nat.{ℕ, zero, suc, ◌+◌, ◌-◌, ◌≤◌, ◌<◌}
use native.Mathlib.Nat.{add-zero, add-suc, le_refl}
use native.Mathlib.Numerals.{add-one}
use native.Mathlib.Decide.{dec_lt}
use native.Mathlib.Omega.{arith}
use mathlib.Core.List.{List, [], ◌∷◌, ◌++◌, append-nil, append_assoc}
use lib.ListN.{length, get_or, set, take, drop, length-append, length-replicate, length-take, length-drop, drop_of_length-le, get_or-append, get_or-eq_default}
use lib.Seq.{set_at, get_or_at, take_at, drop_at, drop-drop, drop-cons, append_snoc, take_all, length-take-le, get_or-take, get_or-drop, get_or-append-add, ext_get_or}
use borrow.Rule.Slice.PartMut.{put_mid}
use Rattle.arith.specs.Run.{upto, zeros}

pub upto_length : (f : ℕ → ℕ) (n : ℕ) → length (upto f n) ≡ n
unfolding upto
upto_length f zero = refl
upto_length f (suc n) = rw (length-append, upto_length f n) (add-one n)

pub zeros_length : (n : ℕ) → length (zeros n) ≡ n
unfolding zeros
zeros_length n = length-replicate n 0

-- what stands at a place
pub upto_at : (f : ℕ → ℕ) (n k : ℕ) → k < n → get_or (upto f n) k 0 ≡ f k
unfolding upto
upto_at f zero k h = absurd (omega arith)
upto_at f (suc n) k h = go (dec_lt k n) (upto_at f n k)
  where
    go : Dec (k < n) → (k < n → get_or (upto f n) k 0 ≡ f k) → get_or (upto f n ++ f n ∷ []) k 0 ≡ f k
    go (yes p) ih = get_or-append (upto f n) (f n ∷ []) 0 k (omega (arith, upto_length f n)) ∙ ih p
    go (no p) ih =
        let e : k ≡ n = omega arith in
        rw e (get_or_at (upto f n) (f n) [] 0 n (upto_length f n))

-- the elements decide the list
pub upto_same : (f g : ℕ → ℕ) (n : ℕ) → ((i : ℕ) → i < n → f i ≡ g i) → upto f n ≡ upto g n
unfolding upto
upto_same f g zero h = refl
upto_same f g (suc n) h = rw (upto_same f g n (λ i l. h i (omega arith)), h n (omega arith))

-- a list of n numbers, each of which is that of its place
pub upto_is : (f : ℕ → ℕ) (n : ℕ) (l : List ℕ) → length l ≡ n → ((i : ℕ) → i < n → get_or l i 0 ≡ f i) → l ≡ upto f n
upto_is f n l e at =
    ext_get_or 0 l (upto f n) (e ∙ sym (upto_length f n))
    (λ i h.
    let within : i < n = omega arith in
    at i within ∙ sym (upto_at f n i within))

-- a list of the first n elements, and of the m after them
pub upto_add : (f : ℕ → ℕ) (n m : ℕ) → upto f (n + m) ≡ upto f n ++ upto (λ i. f (n + i)) m
unfolding upto
upto_add f n zero = rw (add-zero, append-nil)
upto_add f n (suc m) = rw (add-suc, upto_add f n m, append_assoc)

-- a store at i of a list whose first i places hold the first i elements: one element more
pub upto_store : (f : ℕ → ℕ) (l : List ℕ) (i : ℕ) → i < length l → set (upto f i ++ drop i l) i (f i) ≡ upto f (i + 1) ++ drop (i + 1) l
unfolding upto
upto_store f l i h =
    rw (add-one, drop-cons l i 0 h)
    (set_at (upto f i) (get_or l i 0) (drop (suc i) l) (f i) i (upto_length f i) ∙ sym (append_snoc (upto f i) (f i) (drop (suc i) l)))

-- and the length of such a list
pub upto_over : (f : ℕ → ℕ) (l : List ℕ) (i : ℕ) → i ≤ length l → length (upto f i ++ drop i l) ≡ length l
upto_over f l i h = simp (length-append, upto_length, length-drop) (omega arith)

-- a part of k places has k of them
pub part_length : (i k : ℕ) (l : List ℕ) → i + k ≤ length l → length (take (i + k - i) (drop i l)) ≡ k
part_length i k l h = simp (length-take, length-drop) (omega arith)

-- what stands in a part is what stands further on in the whole
pub part_at : (i end : ℕ) (l : List ℕ) (j : ℕ) → j < end - i → get_or (take (end - i) (drop i l)) j 0 ≡ get_or l (i + j) 0
part_at i end l j h = get_or-take (end - i) (drop i l) j 0 h ∙ get_or-drop i l j 0

-- where a part is put back, what stands before it is as it was, and what stands in it is the part
module _ (i k : ℕ) (l part : List ℕ) (h : i ≤ length l) where
  pub put_before : (j : ℕ) → j < i → get_or (put_mid i k l part) j 0 ≡ get_or l j 0
  put_before j b = get_or-append (take i l) _ 0 j (omega (arith, length-take-le i l h)) ∙ get_or-take i l j 0 b

  pub put_within : (j : ℕ) → j < length part → get_or (put_mid i k l part) (i + j) 0 ≡ get_or part j 0
  put_within j b =
      ap (λ (n : ℕ). get_or (put_mid i k l part) (n + j) 0) (sym (length-take-le i l h))
      ∙ get_or-append-add (take i l) (part ++ drop k (drop i l)) j 0
      ∙ get_or-append part (drop k (drop i l)) 0 j b

-- the part from a place to the end is all that comes after it
pub part_to_end : (l : List ℕ) (i : ℕ) → take (length l - i) (drop i l) ≡ drop i l
part_to_end l i = take_all (length l - i) (drop i l) (rw (length-drop i l) (le_refl (length l - i)))

-- a bound on a run's number at a place holds wherever one reads: beyond its end stands 0
pub upto_most : (f : ℕ → ℕ) (n k most : ℕ) → f k ≤ most → get_or (upto f n) k 0 ≤ most
upto_most f n k most small = go (dec_lt k n)
  where
    go : Dec (k < n) → get_or (upto f n) k 0 ≤ most
    go (yes l) = rw (upto_at f n k l) small
    go (no l) = rw (get_or-eq_default (upto f n) 0 {n = k} (omega (arith, upto_length f n))) (omega arith)

-- ---- a loop that writes a run from its first place on

-- the first i places of l₀ have become the first i elements, and the others are as they were
pub record Filling (f : ℕ → ℕ) (l₀ l : List ℕ) (i : ℕ) : Type 0 where
  pub within : i ≤ length l₀
  pub cells : l ≡ upto f i ++ drop i l₀

pub filling_start : (f : ℕ → ℕ) (l : List ℕ) → Filling f l l 0
unfolding upto
filling_start f l = record { within = omega arith; cells = refl }

module _ {f : ℕ → ℕ} {l₀ l : List ℕ} {i : ℕ} (r : Filling f l₀ l i) where
  -- the same place, otherwise written
  pub filling_at : {j : ℕ} → i ≡ j → Filling f l₀ l j
  filling_at e = subst (Filling f l₀ l) e r

  pub filling_length : length l ≡ length l₀
  filling_length = rw r.cells (upto_over f l₀ i r.within)

  -- the next place is as it was
  pub filling_ahead : i < length l₀ → get_or l i 0 ≡ get_or l₀ i 0
  filling_ahead h = rw (r.cells, drop-cons l₀ i 0 h) (get_or_at (upto f i) (get_or l₀ i 0) (drop (suc i) l₀) 0 i (upto_length f i))

  pub filling_store : (v : ℕ) → i < length l₀ → v ≡ f i → Filling f l₀ (set l i v) (i + 1)
  filling_store v h e = record { within = omega arith; cells = rw (r.cells, e) (upto_store f l₀ i h) }

  -- the next k places are lent and come back as the next k elements
  pub filling_part : (k : ℕ) (part : List ℕ) → i + k ≤ length l₀ → part ≡ upto (λ j. f (i + j)) k → Filling f l₀ (put_mid i (i + k - i) l part) (i + k)
  filling_part k part room e =
      let size : i + k - i ≡ k = omega arith in
      let front : take i l ≡ upto f i = rw r.cells (take_at (upto f i) (drop i l₀) i (upto_length f i)) in
      let back : drop i l ≡ drop i l₀ = rw r.cells (drop_at (upto f i) (drop i l₀) i (upto_length f i)) in
      record { within = room; cells = rw (size, front, back, drop-drop, e, upto_add f i k, append_assoc) }

  -- at the end of the list
  pub filling_whole : (n : ℕ) → length l₀ ≡ n → n ≤ i → l ≡ upto f n
  filling_whole n e h =
      let q : i ≡ n = omega (arith, r.within) in
      r.cells ∙ rw (drop_of_length-le l₀ {i = i} (omega arith), append-nil) (ap (upto f) q)
