-- Laws of `split`: a text is its first piece, the byte, and what the other pieces are of. The pieces are those of std's `slice_split`.
-- Assumes nothing.
use Prim.Native.Nat.{ℕ, ◌+◌, ◌≤◌, ◌<◌}
use mathlib.Core.Path.{◌≡◌, refl, sym, ap, ◌∙◌}
use mathlib.Core.Bool.{Bool, true, false, cond}
use mathlib.Core.List.{List, [], ◌∷◌, ◌++◌}
use native.Mathlib.Decide.{dec_lt}
use native.Mathlib.Nat.{add-zero}
use native.Mathlib.Numerals.{add-one}
use native.Mathlib.Omega.{arith}
use lib.Dec.{eqb}
use lib.ListN.{length, get_or, drop, length-drop}
use lib.Seq.{split_at, get_or-drop, drop-drop}
use borrow.Author.Tests.{eqb-true}
use Rattle.std.specs.List.{slice_split, onto_first, position_or_len, before_first, after_first}
use Rattle.std.proofs.lemmas.List.Splits.{slice_split_first, length-slice_split}
use Rattle.std.proofs.lemmas.List.Sums.{passes_at_first}
use Rattle.counts_text.specs.Text.{split, prepend}
use Rattle.counts_text.specs.Parsers.{Parted}

-- ---- the first piece

same_front : (x : ℕ) (pieces : List (List ℕ)) → prepend x pieces ≡ onto_first x pieces
same_front x [] = refl
same_front x (piece ∷ pieces) = refl

split_is : (b : ℕ) (text : List ℕ) → split b text ≡ slice_split (λ x. eqb x b) text
unfolding split
split_is b [] = refl
split_is b (x ∷ text) = go (eqb x b) (split_is b text)
  where
    go : (t : Bool) → split b text ≡ slice_split (λ x. eqb x b) text
        → cond t ([] ∷ split b text) (prepend x (split b text)) ≡ cond t ([] ∷ slice_split (λ x. eqb x b) text) (onto_first x (slice_split (λ x. eqb x b) text))
    go true ih = rw ih
    go false ih = rw (ih, same_front)

-- a text in which the byte doesn't stand is one piece
pub split_none : (b : ℕ) (text : List ℕ) → length text ≤ position_or_len (λ x. eqb x b) text → split b text ≡ text ∷ []
unfolding split
split_none b [] h = refl
split_none b (x ∷ text) h = go (eqb x b) refl (split_none b text)
  where
    go : (t : Bool) → eqb x b ≡ t → (length text ≤ position_or_len (λ x. eqb x b) text → split b text ≡ text ∷ []) → split b (x ∷ text) ≡ (x ∷ text) ∷ []
    go true q ih = absurd (omega (arith, rw q at h))
    go false q ih = rw (q, ih (omega (arith, rw q at h)))

module _ (b : ℕ) (text : List ℕ) where
  pub some_piece : 1 ≤ length (split b text)
  some_piece = rw (split_is b text, length-slice_split) (omega arith)

  -- else its first place ends the first piece, and the other pieces are those of what follows it
  pub split_some : position_or_len (λ x. eqb x b) text < length text
      → split b text ≡ before_first (λ x. eqb x b) text ∷ split b (after_first (λ x. eqb x b) text)
  split_some l = rw (split_is b text, split_is b (after_first (λ x. eqb x b) text)) (slice_split_first (λ x. eqb x b) text 0 l)

  -- a text of one piece is that piece
  pub only_piece : length (split b text) ≡ 1 → get_or (split b text) 0 [] ≡ text
  only_piece e = go (dec_lt (position_or_len (λ x. eqb x b) text) (length text))
    where
      go : Dec (position_or_len (λ x. eqb x b) text < length text) → get_or (split b text) 0 [] ≡ text
      go (yes l) =
          absurd (omega (arith, e, rw (split_is b (after_first (λ x. eqb x b) text), length-slice_split) at (ap (λ (pieces : List (List ℕ)). length pieces) (split_some l))))
      go (no h) = rw (split_none b text (omega arith)) refl

  -- a text of several pieces is the first of them, the byte, and what the others are of
  pub split_front : 1 < length (split b text)
      → (rest : List ℕ) × (text ≡ get_or (split b text) 0 [] ++ b ∷ rest) × (drop 1 (split b text) ≡ split b rest)
  split_front h = go (dec_lt (position_or_len (λ x. eqb x b) text) (length text))
    where
      go : Dec (position_or_len (λ x. eqb x b) text < length text)
          → (rest : List ℕ) × (text ≡ get_or (split b text) 0 [] ++ b ∷ rest) × (drop 1 (split b text) ≡ split b rest)
      go (yes l) =
          let at = position_or_len (λ x. eqb x b) text in
          let here : get_or text at 0 ≡ b = eqb-true (get_or text at 0) b (passes_at_first (λ x. eqb x b) text 0 l) in
          let cut : text ≡ before_first (λ x. eqb x b) text ++ b ∷ after_first (λ x. eqb x b) text =
          split_at text at 0 l ∙ rw (here, ← add-one at) refl in
          (after_first (λ x. eqb x b) text, cut ∙ rw (split_some l) refl, rw (split_some l) refl)
      go (no n) = absurd (omega (arith, ap (λ (pieces : List (List ℕ)). length pieces) (split_none b text (omega arith))))

-- ---- a walk over a list: element i is the first of what is left

module _ {A : Type 0} (xs : List A) (i : ℕ) {x : A} {rest : List A} (e : drop i xs ≡ x ∷ rest) where
  pub left_some : i < length xs
  left_some = omega (arith, length-drop i xs, ap (λ (l : List A). length l) e)

  pub left_first : (d : A) → get_or xs i d ≡ x
  left_first d = sym (ap (λ (k : ℕ). get_or xs k d) (add-zero i)) ∙ sym (get_or-drop i xs 0 d) ∙ ap (λ (l : List A). get_or l 0 d) e

  pub left_next : drop (i + 1) xs ≡ rest
  left_next = sym (drop-drop 1 i xs) ∙ ap (drop 1) e

-- ---- a walk over the pieces: piece i is the first of those of the rest

pub parted_count : {b : ℕ} {text rest : List ℕ} → Parted b text rest → 1 < length (split b text)
parted_count {b} {text} {rest} p = omega (arith, ap (λ (pieces : List (List ℕ)). length pieces) p.others, length-drop 1 (split b text), some_piece b rest)

pub record Reached (b : ℕ) (text rest : List ℕ) (i : ℕ) : Type 0 where
  pub pieces : drop i (split b text) ≡ split b rest

pub reached_start : (b : ℕ) (text : List ℕ) → Reached b text text 0
reached_start b text = record { pieces = refl }

module _ {b : ℕ} {text rest : List ℕ} {i : ℕ} (here : Reached b text rest i) where
  pub reached_piece : get_or (split b text) i [] ≡ get_or (split b rest) 0 []
  reached_piece =
      sym (ap (λ (k : ℕ). get_or (split b text) k []) (add-zero i)) ∙ sym (get_or-drop i (split b text) 0 []) ∙ ap (λ (pieces : List (List ℕ)). get_or pieces 0 []) here.pieces

  pub reached_count : length (split b text) ≡ i + length (split b rest)
  reached_count =
      omega (arith, length-drop i (split b text), ap (λ (pieces : List (List ℕ)). length pieces) here.pieces, some_piece b rest)

  pub reached_next : {next : List ℕ} → Parted b rest next → Reached b text next (i + 1)
  reached_next p = record { pieces = sym (drop-drop 1 i (split b text)) ∙ ap (drop 1) here.pieces ∙ p.others }
