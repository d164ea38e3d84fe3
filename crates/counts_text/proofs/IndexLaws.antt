-- The first place of a byte in a text: it is within the text, it is the one before which the byte stands nowhere, and the text's length where
-- there is none. Assumes nothing.
use Prim.Native.Nat.{ℕ, zero, suc, ◌≤◌, ◌<◌}
use mathlib.Core.Path.{◌≡◌, refl, ap, ◌∙◌}
use mathlib.Core.Bool.{Bool, true, false, cond, not}
use mathlib.Core.List.{List, [], ◌∷◌}
use native.Mathlib.Decide.{dec_lt}
use native.Mathlib.Omega.{arith}
use lib.Dec.{eqb}
use lib.ListN.{length, get_or}
use borrow.Author.Tests.{eq-eqb, ne_eqb, eqb-true, eqb-false}
use Rattle.std.specs.List.{position_or_len}
use Rattle.std.proofs.lemmas.List.Sums.{prefix_len-le-length, passes_at_first, fails_before_first}
use Rattle.counts_text.specs.Text.{index_of}

-- the place of a byte, or the text's length
pub index_within : (b : ℕ) (text : List ℕ) → index_of b text ≤ length text
unfolding index_of
index_within b [] = omega arith
index_within b (x ∷ text) = go (eqb x b) (index_within b text)
  where
    go : (t : Bool) → index_of b text ≤ length text → cond t 0 (suc (index_of b text)) ≤ suc (length text)
    go true ih = omega arith
    go false ih = omega arith

-- a place where it stands and before which it doesn't is the first
pub index_found : (b : ℕ) (text : List ℕ) (i : ℕ) → i < length text → get_or text i 0 ≡ b → ((k : ℕ) → k < i → get_or text k 0 ≡ b → ⊥) → i ≡ index_of b text
unfolding index_of
index_found b [] i l e before = absurd (omega arith)
index_found b (x ∷ text) zero l e before = rw (eq-eqb x b e) refl
index_found b (x ∷ text) (suc i) l e before =
    rw (ne_eqb x b (before 0 (omega arith))) (ap suc (index_found b text i (omega arith) e (λ k h. before (suc k) (omega arith))))

-- and where it stands nowhere, that is the text's length
pub index_none : (b : ℕ) (text : List ℕ) → ((k : ℕ) → k < length text → get_or text k 0 ≡ b → ⊥) → length text ≡ index_of b text
unfolding index_of
index_none b [] before = refl
index_none b (x ∷ text) before = rw (ne_eqb x b (before 0 (omega arith))) (ap suc (index_none b text (λ k h. before (suc k) (omega arith))))

-- std's first byte that passes is that place
pub index_is : (b : ℕ) (text : List ℕ) → position_or_len (λ x. eqb x b) text ≡ index_of b text
index_is b text = go (dec_lt (position_or_len (λ x. eqb x b) text) (length text))
  where
    before : (k : ℕ) → k < position_or_len (λ x. eqb x b) text → get_or text k 0 ≡ b → ⊥
    before k h = eqb-false (get_or text k 0) b (fails_before_first (λ x. eqb x b) text k 0 h)

    go : Dec (position_or_len (λ x. eqb x b) text < length text) → position_or_len (λ x. eqb x b) text ≡ index_of b text
    go (yes l) =
        index_found b text (position_or_len (λ x. eqb x b) text) l (eqb-true _ b (passes_at_first (λ x. eqb x b) text 0 l)) before
    go (no n) =
        let e : position_or_len (λ x. eqb x b) text ≡ length text = omega (arith, prefix_len-le-length (λ x. not (eqb x b)) text) in
        e ∙ index_none b text (λ k h. before k (omega (arith, e)))
