-- Rules 10.3 to 10.8: what a line holds, and what refuses it.
-- Assumes nothing: these are definitions.
use Rattle.std.specs.Prelude.{ℕ, Bool, cond, not, ◌&&◌, ◌||◌, List, [], ◌∷◌, ◌++◌, eqb, length, get_or, drop}
use Rattle.arith.specs.Every.{every}
use Rattle.arith.specs.First.{first_below}
use Rattle.arith.specs.Refusal.{unless}
use Rattle.arith.specs.Run.{upto}
use Rattle.screen.specs.declared.Screen.{Screen}
use Rattle.screen.specs.Screens.{screen_of, refusal_of}
use Rattle.separation.specs.declared.Separation.{Separation}
use Rattle.separation.specs.declared.Separation.TheVariants.{Demichel, Kueppers}
use Rattle.separation.specs.declared.Inks.{Inks}
use Rattle.separation.specs.Weights.{inks_of}
use Rattle.quantiser.specs.Running.{count}
use Rattle.counts_text.specs.Text.{newline, tab, fields, field_at, same, joined}
use Rattle.counts_text.specs.Numbers.{greatest, is_number_to, value_of, numeral}

-- the letters S, P, C and E
abbrev pub letter_s : ℕ
letter_s = 83

abbrev pub letter_p : ℕ
letter_p = 80

abbrev pub letter_c : ℕ
letter_c = 67

abbrev pub letter_e : ℕ
letter_e = 69

-- the bytes of `demichel` and of `kueppers`
abbrev pub demichel : List ℕ
demichel = 100 ∷ 101 ∷ 109 ∷ 105 ∷ 99 ∷ 104 ∷ 101 ∷ 108 ∷ []

abbrev pub kueppers : List ℕ
kueppers = 107 ∷ 117 ∷ 101 ∷ 112 ∷ 112 ∷ 101 ∷ 114 ∷ 115 ∷ []

-- whether fields are so many numbers, none above a limit
unfoldable pub are_numbers : ℕ → ℕ → List (List ℕ) → Bool
are_numbers many most numbers = eqb (length numbers) many && every many (λ i. is_number_to most (get_or numbers i []))

-- the i-th of such fields as a number
abbrev pub number_at : List (List ℕ) → ℕ → ℕ
number_at numbers i = value_of (get_or numbers i [])

-- of the first so many fields, how many come before one that is no number or is above the limit
unfoldable pub leading : ℕ → ℕ → List (List ℕ) → ℕ
leading many most numbers = first_below many (λ i. not (is_number_to most (get_or numbers i [])))

-- memory with the numbers of these fields written over its first places
unfoldable pub numbers_over : ℕ → List (List ℕ) → List ℕ → List ℕ
numbers_over most numbers memory =
    let taken = leading (length memory) most numbers in
    upto (number_at numbers) taken ++ drop taken memory

-- rule 10.3: line 1
unfoldable pub is_screen : List ℕ → Bool
is_screen line = same (field_at line 0) (letter_s ∷ []) && are_numbers 5 greatest (drop 1 (fields line))

abbrev pub screen_by : (ℕ → ℕ) → Screen
screen_by number = screen_of (number 0) (number 1) (number 2) (number 3) (number 4)

unfoldable pub screen_in : List ℕ → Screen
screen_in line = screen_by (number_at (drop 1 (fields line)))

-- rules 10.4 and 10.5: a further line
unfoldable pub is_patch : List ℕ → Bool
is_patch line =
    same (field_at line 0) (letter_p ∷ []) && (same (field_at line 1) demichel || same (field_at line 1) kueppers)
    && are_numbers 3 255 (drop 2 (fields line))

unfoldable pub separation_in : List ℕ → Separation
separation_in line = cond (same (field_at line 1) demichel) Demichel Kueppers

abbrev pub inks_by : (ℕ → ℕ) → Inks
inks_by number = inks_of (number 0) (number 1) (number 2)

unfoldable pub inks_in : List ℕ → Inks
inks_in line = inks_by (number_at (drop 2 (fields line)))

-- rules 10.8 and 11.4: 10 comes before 1 to 4; the screen is made, so that 15 does not occur (`MadeWords`, screen/specs/Laws.antt)
unfoldable pub screen_refusal : List ℕ → ℕ
screen_refusal line = unless (is_screen line) 10 (refusal_of (screen_in line))

unfoldable pub patch_refusal : List ℕ → ℕ
patch_refusal line = unless (is_patch line) 10 0

-- a line that is written: a letter, then numbers, each after a tab
unfoldable pub line_of : ℕ → List ℕ → List ℕ
line_of letter numbers = letter ∷ joined (length numbers) (λ i. tab ∷ numeral (get_or numbers i 0)) ++ newline ∷ []

-- rule 10.6: the line for a P line
unfoldable pub counts_line : Screen → List ℕ → List ℕ
counts_line s line = line_of letter_c (upto (count s (separation_in line) (inks_in line)) 8)

-- rule 10.7: the line for a bad line
unfoldable pub error_line : ℕ → ℕ → List ℕ
error_line number refusal = line_of letter_e (number ∷ refusal ∷ [])
