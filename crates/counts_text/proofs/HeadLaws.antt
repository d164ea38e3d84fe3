-- The words that a line begins with settle its first fields, and leave the numbers: of a screen's line `S` and a tab, of a P line `P`, a
-- separation's name and a tab after each.
-- Assumes nothing.
use Prim.Native.Nat.{ℕ, ◌<◌}
use mathlib.Core.Path.{◌≡◌, refl, sym, ap, ◌∙◌, subst}
use mathlib.Core.Bool.{Bool, true, false, ◌&&◌, ◌||◌}
use mathlib.Core.List.{List, [], ◌∷◌, ◌++◌, append_assoc}
use mathlib.Core.Logic.{◌⊎◌, inl, inr}
use native.Mathlib.Omega.{arith}
use lib.ListN.{length, get_or, drop, length-drop}
use lib.Seq.{get_or-drop}
use Rattle.arith.proofs.RefusalLaws.{both_pass}
use Rattle.separation.specs.declared.Separation.{Separation}
use Rattle.separation.specs.declared.Separation.TheVariants.{Demichel, Kueppers}
use Rattle.counts_text.specs.Text.{split, tab, fields, field_at, same}
use Rattle.counts_text.specs.Lines.{letter_s, letter_p, demichel, kueppers, are_numbers, number_at, is_screen, screen_in, screen_by, is_patch, separation_in, inks_in, inks_by}
use Rattle.counts_text.specs.Parsers.{head_s, name_of, head_p}
use Rattle.counts_text.proofs.LineLaws.{number_count, same_true, first_word}

-- ---- a screen's line

-- the fields after the head are those of the rest of the line
pub record ScreenHeaded (line rest : List ℕ) : Type 0 where
  pub form : is_screen line ≡ are_numbers 5 99999 (fields rest)
  pub values : screen_in line ≡ screen_by (number_at (fields rest))

known_screen : (rest : List ℕ) → ScreenHeaded (head_s ++ rest) rest
unfolding is_screen screen_in split same
known_screen rest = record { form = refl; values = refl }

pub screen_headed : (line rest : List ℕ) → line ≡ head_s ++ rest → ScreenHeaded line rest
screen_headed line rest e = subst (λ (l : List ℕ). ScreenHeaded l rest) (sym e) (known_screen rest)

-- every screen's line has that head
pub screen_head : (line : List ℕ) → is_screen line ≡ true → (rest : List ℕ) × (line ≡ head_s ++ rest)
unfolding is_screen
screen_head line e =
    let parts = both_pass (same (field_at line 0) (letter_s ∷ [])) (are_numbers 5 99999 (drop 1 (fields line))) e in
    let count = number_count 5 99999 (drop 1 (fields line)) parts.1 in
    let front = first_word line (letter_s ∷ []) (omega (arith, count, length-drop 1 (fields line))) (same_true _ _ parts.0) in
    (front.0, front.1)

-- ---- a P line
pub record PatchHeaded (sep : Separation) (line rest : List ℕ) : Type 0 where
  pub form : is_patch line ≡ are_numbers 3 255 (fields rest)
  pub separation : separation_in line ≡ sep
  pub values : inks_in line ≡ inks_by (number_at (fields rest))

known_patch : (sep : Separation) (rest : List ℕ) → PatchHeaded sep (head_p sep ++ rest) rest
unfolding is_patch separation_in inks_in split same
known_patch Demichel rest = record { form = refl; separation = refl; values = refl }
known_patch Kueppers rest = record { form = refl; separation = refl; values = refl }

pub patch_headed : (sep : Separation) (line rest : List ℕ) → line ≡ head_p sep ++ rest → PatchHeaded sep line rest
patch_headed sep line rest e = subst (λ (l : List ℕ). PatchHeaded sep l rest) (sym e) (known_patch sep rest)

-- every P line has one of the two heads
name_head : (sep : Separation) (line : List ℕ) → 2 < length (fields line) → same (field_at line 0) (letter_p ∷ []) ≡ true
    → same (field_at line 1) (name_of sep) ≡ true → (rest : List ℕ) × (line ≡ head_p sep ++ rest)
name_head sep line many p q =
    let first = first_word line (letter_p ∷ []) (omega arith) (same_true _ _ p) in
    let second =
    first_word first.0 (name_of sep)
    (omega (arith, many, length-drop 1 (fields line), ap (λ (l : List (List ℕ)). length l) first.2))
    (ap (λ (l : List (List ℕ)). get_or l 0 []) (sym first.2) ∙ get_or-drop 1 (fields line) 0 [] ∙ same_true _ _ q) in
    (second.0, first.1 ∙ ap (λ (l : List ℕ). letter_p ∷ tab ∷ l) second.1 ∙ sym (ap (λ (l : List ℕ). letter_p ∷ tab ∷ l) (append_assoc (name_of sep) (tab ∷ []) second.0)))

one_passes : (t u : Bool) → (t || u) ≡ true → (t ≡ true) ⊎ (u ≡ true)
one_passes true u e = inl refl
one_passes false u e = inr e

-- the two halves of its form
patch_parts : (line : List ℕ) → is_patch line ≡ true
    → (same (field_at line 0) (letter_p ∷ []) && (same (field_at line 1) demichel || same (field_at line 1) kueppers) ≡ true) × (are_numbers 3 255 (drop 2 (fields line)) ≡ true)
unfolding is_patch
patch_parts line e = both_pass (same (field_at line 0) (letter_p ∷ []) && (same (field_at line 1) demichel || same (field_at line 1) kueppers)) (are_numbers 3 255 (drop 2 (fields line))) e

pub patch_numbers : (line : List ℕ) → is_patch line ≡ true → are_numbers 3 255 (drop 2 (fields line)) ≡ true
patch_numbers line e = (patch_parts line e).1

pub patch_head : (line : List ℕ) → is_patch line ≡ true → (sep : Separation) × (rest : List ℕ) × (line ≡ head_p sep ++ rest)
patch_head line e =
    let words = both_pass (same (field_at line 0) (letter_p ∷ [])) (same (field_at line 1) demichel || same (field_at line 1) kueppers) (patch_parts line e).0 in
    let count = number_count 3 255 (drop 2 (fields line)) (patch_numbers line e) in
    go (omega (arith, count, length-drop 2 (fields line))) words.0 (one_passes _ _ words.1)
  where
    go : 2 < length (fields line) → same (field_at line 0) (letter_p ∷ []) ≡ true
        → (same (field_at line 1) demichel ≡ true) ⊎ (same (field_at line 1) kueppers ≡ true)
        → (sep : Separation) × (rest : List ℕ) × (line ≡ head_p sep ++ rest)
    go many p (inl q) = let named = name_head Demichel line many p q in (Demichel, named.0, named.1)
    go many p (inr q) = let named = name_head Kueppers line many p q in (Kueppers, named.0, named.1)
