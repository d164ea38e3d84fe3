-- What the parsers answer of the text that they are given: the value at its beginning and the rest of the text, or that its
-- beginning is not of the form. Each is a statement of a text and an answer, by the cases of the answer.
-- Assumes nothing.
use Rattle.std.specs.Prelude.{ℕ, suc, ◌+◌, ◌≤◌, ◌<◌, ◌≡◌, Bool, true, List, [], ◌∷◌, ◌++◌, length, get_or, drop, Option, Some, None, Result, Ok, Err}
use denote.Ref.{Bor}
use Rattle.arith.specs.Refusal.{number}
use Rattle.arith.specs.declared.refusals.Refusal.{Refusal}
use Rattle.screen.specs.declared.Screen.{Screen}
use Rattle.screen.specs.Screens.{refusal_of, Admitted}
use Rattle.separation.specs.declared.Separation.{Separation}
use Rattle.separation.specs.declared.Separation.TheVariants.{Demichel, Kueppers}
use Rattle.counts_text.specs.declared.parsers.PatchLine.{PatchLine}
use Rattle.counts_text.specs.declared.judging.Job.{Job}
use Rattle.counts_text.specs.declared.judging.BadLine.{BadLine}
use Rattle.counts_text.specs.Text.{newline, tab, split, lines, fields, line_at, joined}
use Rattle.counts_text.specs.Lines.{letter_s, letter_p, demichel, kueppers, are_numbers, numbers_over, is_patch, screen_by, screen_in, separation_in, inks_in, counts_line}
use Rattle.counts_text.specs.Program.{ended, line_refusal, first_bad}

-- a byte ends a text's first piece, and `rest` is what follows it
pub record Parted (byte : ℕ) (text rest : List ℕ) : Type 0 where
  pub others : drop 1 (split byte text) ≡ split byte rest

-- the fields of what is left of a line: none, where nothing is
abbrev pub fields_left : Option (Bor (List ℕ)) → List (List ℕ)
fields_left (Some rest) = fields rest.now
fields_left None = []

-- the numbers at its beginning, read into memory, and whether they are all of the line and fill the memory
pub record NumbersRead (most : ℕ) (text before after : List ℕ) (r : Bool) : Type 0 where
  pub form : r ≡ are_numbers (length before) most (fields text)
  pub memory : after ≡ numbers_over most (fields text) before

-- what a line begins with: `S` and a tab; `P`, a separation's name and a tab after each
abbrev pub head_s : List ℕ
head_s = letter_s ∷ tab ∷ []

abbrev pub name_of : Separation → List ℕ
name_of Demichel = demichel
name_of Kueppers = kueppers

abbrev pub head_p : Separation → List ℕ
head_p sep = letter_p ∷ tab ∷ name_of sep ++ tab ∷ []

-- ---- the first line of a text
-- the numbers of a line that has a screen's form: what the line is refused for is what refuses their screen
pub record ScreenNumbers (text numbers rest : List ℕ) : Type 0 where
  pub refusal : line_refusal text 0 ≡ refusal_of (screen_by (λ i. get_or numbers i 0))
  pub screen : screen_by (λ i. get_or numbers i 0) ≡ screen_in (line_at text 0)
  pub parted : Parted newline text rest

abbrev pub ScreenSays : List ℕ → Result (Screen × Bor (List ℕ)) Refusal → Type 0
ScreenSays text (Ok read) =
    (line_refusal text 0 ≡ 0) × (read.0 ≡ screen_in (line_at text 0)) × Admitted read.0 × Parted newline text read.1.now
ScreenSays text (Err refusal) = line_refusal text 0 ≡ number refusal

pub record Patch (text : List ℕ) : Type 0 where
  pub ended : ended text 0 ≡ true
  pub form : is_patch (line_at text 0) ≡ true

abbrev pub PatchSays : List ℕ → Option PatchLine → Type 0
PatchSays text (Some read) =
    Patch text × (read.sep ≡ separation_in (line_at text 0)) × (read.inks ≡ inks_in (line_at text 0)) × Parted newline text read.rest.now
PatchSays text None = Patch text → ⊥

-- ---- the whole text: a screen, the text of its P lines and how many there are; or the first bad line's number and what refuses it
pub record Accepted (text : List ℕ) (patches : ℕ) : Type 0 where
  pub few : patches ≤ 256
  pub many : length (lines text) ≡ patches + 2
  pub good : (i : ℕ) → i < length (lines text) → line_refusal text i ≡ 0

pub record Judged (text : List ℕ) (line refusal : ℕ) : Type 0 where
  pub there : first_bad text < length (lines text)
  pub number : line ≡ suc (first_bad text)
  pub why : refusal ≡ line_refusal text (first_bad text)

abbrev pub VerdictSays : List ℕ → Result Job BadLine → Type 0
VerdictSays text (Ok job) =
    Accepted text job.patches × (job.screen ≡ screen_in (line_at text 0)) × Admitted job.screen × Parted newline text job.lines.now
VerdictSays text (Err bad) = Judged text bad.line (number bad.refusal)

-- ---- a text of P lines alone, and the lines that are written for them
pub record ArePatches (text : List ℕ) (patches : ℕ) : Type 0 where
  pub many : length (lines text) ≡ patches + 1
  pub form : (i : ℕ) → i < patches → is_patch (line_at text i) ≡ true

abbrev pub lines_of_counts : Screen → List ℕ → ℕ → List ℕ
lines_of_counts s text patches = joined patches (λ i. counts_line s (line_at text i))
