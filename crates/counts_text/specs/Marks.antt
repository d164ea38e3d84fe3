-- Rule 12.8, the program's text and its answer, and small texts and numbers. proofs/AllMarks.antt shows them by computing the definitions.
-- Assumes nothing: these are statements.
use Rattle.std.specs.Prelude.{◌≡◌, true, false, ℕ, suc, ◌*◌, List, [], ◌∷◌, ◌++◌, leb, length}
use Rattle.screen.specs.Screens.{screen_of}
use Rattle.counts_text.specs.Text.{fields}
use Rattle.counts_text.specs.Numbers.{greatest, is_number, numeral}
use Rattle.counts_text.specs.Lines.{numbers_over, counts_line}
use Rattle.counts_text.specs.Program.{counts_text}
use Rattle.counts_text.specs.Laws.{room}

-- S⇥4⇥7⇥105⇥2⇥0, P⇥demichel⇥128⇥128⇥0 and P⇥kueppers⇥128⇥128⇥0
abbrev pub listing : List ℕ
listing =
    (83 ∷ 9 ∷ 52 ∷ 9 ∷ 55 ∷ 9 ∷ 49 ∷ 48 ∷ 53 ∷ 9 ∷ 50 ∷ 9 ∷ 48 ∷ 10 ∷ [])
    ++ (80 ∷ 9 ∷ 100 ∷ 101 ∷ 109 ∷ 105 ∷ 99 ∷ 104 ∷ 101 ∷ 108 ∷ 9 ∷ 49 ∷ 50 ∷ 56 ∷ 9 ∷ 49 ∷ 50 ∷ 56 ∷ 9 ∷ 48 ∷ 10 ∷ [])
    ++ (80 ∷ 9 ∷ 107 ∷ 117 ∷ 101 ∷ 112 ∷ 112 ∷ 101 ∷ 114 ∷ 115 ∷ 9 ∷ 49 ∷ 50 ∷ 56 ∷ 9 ∷ 49 ∷ 50 ∷ 56 ∷ 9 ∷ 48 ∷ 10 ∷ [])

-- C⇥26⇥26⇥0⇥27⇥0⇥0⇥0⇥26 and C⇥0⇥0⇥0⇥53⇥0⇥0⇥0⇥52
abbrev pub answer : List ℕ
answer =
    (67 ∷ 9 ∷ 50 ∷ 54 ∷ 9 ∷ 50 ∷ 54 ∷ 9 ∷ 48 ∷ 9 ∷ 50 ∷ 55 ∷ 9 ∷ 48 ∷ 9 ∷ 48 ∷ 9 ∷ 48 ∷ 9 ∷ 50 ∷ 54 ∷ 10 ∷ [])
    ++ (67 ∷ 9 ∷ 48 ∷ 9 ∷ 48 ∷ 9 ∷ 48 ∷ 9 ∷ 53 ∷ 51 ∷ 9 ∷ 48 ∷ 9 ∷ 48 ∷ 9 ∷ 48 ∷ 9 ∷ 53 ∷ 50 ∷ 10 ∷ [])

-- S⇥1⇥2⇥5⇥1⇥0 and P⇥demichel⇥0⇥0⇥0, and then P, which nothing ends
abbrev pub unended : List ℕ
unended =
    (83 ∷ 9 ∷ 49 ∷ 9 ∷ 50 ∷ 9 ∷ 53 ∷ 9 ∷ 49 ∷ 9 ∷ 48 ∷ 10 ∷ [])
    ++ (80 ∷ 9 ∷ 100 ∷ 101 ∷ 109 ∷ 105 ∷ 99 ∷ 104 ∷ 101 ∷ 108 ∷ 9 ∷ 48 ∷ 9 ∷ 48 ∷ 9 ∷ 48 ∷ 10 ∷ [])
    ++ (80 ∷ [])

-- P⇥demichel⇥28⇥114⇥127
abbrev pub wide : List ℕ
wide = 80 ∷ 9 ∷ 100 ∷ 101 ∷ 109 ∷ 105 ∷ 99 ∷ 104 ∷ 101 ∷ 108 ∷ 9 ∷ 50 ∷ 56 ∷ 9 ∷ 49 ∷ 49 ∷ 52 ∷ 9 ∷ 49 ∷ 50 ∷ 55 ∷ []

pub record Marks : Type 0 where
  -- a number has 5 digits and not 6
  pub five_digits : is_number (numeral greatest) ≡ true
  pub six_digits : is_number (numeral (suc greatest)) ≡ false
  -- 7⇥x read over three numbers: the first is 7 then, and the others are as they were
  pub number_taken : numbers_over 255 (fields (55 ∷ 9 ∷ 120 ∷ [])) (1 ∷ 2 ∷ 3 ∷ []) ≡ 7 ∷ 2 ∷ 3 ∷ []
  -- rule 12.8, no input: E⇥1⇥10
  pub empty : counts_text [] ≡ 69 ∷ 9 ∷ 49 ∷ 9 ∷ 49 ∷ 48 ∷ 10 ∷ []
  -- S alone is E⇥1⇥10 too, as a line of another form, and not a slope of 0
  pub form_first : counts_text (83 ∷ 10 ∷ []) ≡ 69 ∷ 9 ∷ 49 ∷ 9 ∷ 49 ∷ 48 ∷ 10 ∷ []
  -- E⇥3⇥10 and no counts
  pub error_alone : counts_text unended ≡ 69 ∷ 9 ∷ 51 ∷ 9 ∷ 49 ∷ 48 ∷ 10 ∷ []
  pub shown : counts_text listing ≡ answer
  -- C⇥125⇥818⇥1004⇥101⇥124⇥812⇥100⇥1012 has 36 bytes, and 256 such lines fit the lent array
  pub wide_line : length (counts_line (screen_of 1 2 4096 1 0) wide) ≡ 36
  pub wide_lines : leb (256 * 36) room ≡ true
