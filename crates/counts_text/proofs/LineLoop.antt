-- The loop that writes a line: the letter and the first numbers are written, and there is room for the whole line.
-- Assumes nothing.
use Prim.Native.Nat.{ℕ, ◌+◌, ◌≤◌, ◌<◌}
use mathlib.Core.Path.{◌≡◌, sym, ap, ◌∙◌}
use mathlib.Core.List.{List, [], ◌∷◌, ◌++◌, append_assoc}
use native.Mathlib.Omega.{arith}
use lib.ListN.{length, get_or, length-append}
use Rattle.counts_text.specs.Text.{tab, newline, joined}
use Rattle.counts_text.specs.Numbers.{numeral}
use Rattle.counts_text.specs.Lines.{line_of}
use Rattle.counts_text.specs.declared.writing.Output.{Output}
use Rattle.counts_text.specs.Output.{Puts}
use Rattle.counts_text.proofs.JoinedLaws.{joined_next, joined_within}
use Rattle.counts_text.proofs.WroteLaws.{puts_as, puts_then}

-- a number as it stands in a line
abbrev field_of : List ℕ → ℕ → List ℕ
field_of numbers i = tab ∷ numeral (get_or numbers i 0)

-- how long a line is
pub line_length : (letter : ℕ) (numbers : List ℕ) → length (line_of letter numbers) ≡ length (joined (length numbers) (field_of numbers)) + 2
unfolding line_of
line_length letter numbers = rw length-append (omega arith)

pub record LineAt (letter : ℕ) (numbers : List ℕ) (start out : Output) (i : ℕ) : Type 0 where
  pub room : start.done + length (line_of letter numbers) ≤ length start.text.now
  pub within : i ≤ length numbers
  pub puts : Puts (letter ∷ joined i (field_of numbers)) start out

pub line_start : {letter : ℕ} {numbers : List ℕ} {start out : Output} → start.done + length (line_of letter numbers) ≤ length start.text.now
    → Puts (letter ∷ []) start out → LineAt letter numbers start out 0
unfolding joined
line_start room p = record { room = room; within = omega arith; puts = p }

module _ {letter : ℕ} {numbers : List ℕ} {start out : Output} {i : ℕ} (at : LineAt letter numbers start out i) where
  pub line_tab : out.done < length out.text.now
  line_tab = omega (arith, at.room, line_length letter numbers, joined_within (length numbers) i (field_of numbers) at.within, at.puts.done, at.puts.room)

  module _ {tabbed : Output} (l : i < length numbers) (p : Puts (tab ∷ []) out tabbed) where
    -- the next number fits, and then the line's end
    pub line_room : tabbed.done + length (numeral (get_or numbers i 0)) ≤ length tabbed.text.now
    line_room =
        omega (
          arith,
          at.room,
          line_length letter numbers,
          joined_within (length numbers) (i + 1) (field_of numbers) (omega arith),
          ap length (joined_next i (field_of numbers)),
          length-append (joined i (field_of numbers)) (field_of numbers i),
          at.puts.done,
          at.puts.room,
          p.done,
          p.room,
        )

    pub line_step : {next : Output} → Puts (numeral (get_or numbers i 0)) tabbed next → LineAt letter numbers start next (i + 1)
    line_step q =
        record {
          room = at.room;
          within = omega arith;
          puts =
              puts_as (puts_then (puts_then at.puts p) q)
              (ap (λ (run : List ℕ). letter ∷ run) (append_assoc (joined i (field_of numbers)) (tab ∷ []) _ ∙ sym (joined_next i (field_of numbers))));
        }

  pub line_done : {ended : Output} → length numbers ≤ i → Puts (newline ∷ []) out ended → Puts (line_of letter numbers) start ended
  unfolding line_of
  line_done h q =
      let e : i ≡ length numbers = omega (arith, at.within) in
      puts_as (puts_then at.puts q) (ap (λ (k : ℕ). letter ∷ joined k (field_of numbers) ++ newline ∷ []) e)
