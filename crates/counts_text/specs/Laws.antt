-- What `counts_text` promises of its definitions beside its contract. Each is a statement; proofs/Published.antt proves it.
-- Assumes nothing.
use Rattle.std.specs.Prelude.{ℕ, suc, ◌≤◌, ◌<◌, ◌≡◌, true, List, length}
use Rattle.screen.specs.declared.Screen.{Screen}
use Rattle.screen.specs.Screens.{Admitted}
use Rattle.quantiser.specs.Running.{counts_of}
use Rattle.counts_text.specs.Text.{lines}
use Rattle.counts_text.specs.Numbers.{greatest, is_number, value_of, numeral}
use Rattle.counts_text.specs.Lines.{letter_c, separation_in, inks_in, line_of, counts_line, error_line}
use Rattle.counts_text.specs.Program.{line_refusal, first_bad, counts_text}

-- writing a number and reading it back gives the number
abbrev pub NumberBack : Type 0
NumberBack = (v : ℕ) → v ≤ greatest → (is_number (numeral v) ≡ true) × (value_of (numeral v) ≡ v)

-- and reading a number and writing it back gives the field
abbrev pub FieldBack : Type 0
FieldBack = (field : List ℕ) → is_number field ≡ true → numeral (value_of field) ≡ field

-- rule 10.6: the counts are those that `quantiser` answers
abbrev pub CountsWritten : Type 0
CountsWritten =
    (s : Screen) → Admitted s → (line : List ℕ) → counts_line s line ≡ line_of letter_c (counts_of s (separation_in line) (inks_in line)).of

-- rule 10.7: the first bad line is answered by one line alone
abbrev pub ErrorAlone : Type 0
ErrorAlone =
    (text : List ℕ) → length text ≤ 65536 → first_bad text < length (lines text)
    → counts_text text ≡ error_line (suc (first_bad text)) (line_refusal text (first_bad text))

-- the bytes of the array that is lent
abbrev pub room : ℕ
room = 16384

-- whatever is read, what is written fits it
abbrev pub OutputFits : Type 0
OutputFits = (text : List ℕ) → length (counts_text text) ≤ room
