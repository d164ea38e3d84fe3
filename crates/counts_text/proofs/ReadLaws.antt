-- Numbers that are read from a line into memory, as far as there is room, and whether they are all of the line.
-- Assumes nothing.
use Prim.Native.Nat.{ℕ, ◌-◌}
use mathlib.Core.Path.{◌≡◌, sym, ap, ◌∙◌}
use mathlib.Core.Bool.{Bool, true, false, not, true≢false}
use mathlib.Core.List.{List, [], append-nil}
use lib.ListN.{length, get_or, take, drop}
use lib.Seq.{drop-length}
use Rattle.arith.proofs.RunLaws.{part_to_end}
use Rattle.arith.specs.Run.{upto}
use Rattle.arith.proofs.RefusalLaws.{failed, passed}
use Rattle.arith.proofs.FirstLaws.{first_none}
use Rattle.counts_text.specs.Text.{fields}
use Rattle.counts_text.specs.Numbers.{is_number_to}
use Rattle.counts_text.specs.Lines.{are_numbers, number_at, leading, numbers_over}
use Rattle.counts_text.specs.Parsers.{NumbersRead}
use Rattle.counts_text.proofs.LineLaws.{number_form}

-- where fields are as many numbers as memory has room for, they take its place
all_over : (most : ℕ) (numbers : List (List ℕ)) (memory : List ℕ) → are_numbers (length memory) most numbers ≡ true
    → numbers_over most numbers memory ≡ upto (number_at numbers) (length memory)
unfolding numbers_over leading
all_over most numbers memory e =
    rw (first_none (length memory) (λ i. not (is_number_to most (get_or numbers i []))) (λ i l. ap not (number_form (length memory) most numbers e i l)), drop-length) (append-nil _)

-- what is read of a line
module _ {most : ℕ} {line before of : List ℕ} {answer : Bool} (read : NumbersRead most line before of answer) where
  pub line_failed : answer ≡ false → are_numbers (length before) most (fields line) ≡ false
  line_failed n = failed read.form n

  pub line_passed : answer ≡ true → (are_numbers (length before) most (fields line) ≡ true) × (of ≡ upto (number_at (fields line)) (length before))
  line_passed n = let form = passed read.form n in (form, read.memory ∙ all_over most (fields line) before form)

-- what is read of a line from a place on
module _ (at : ℕ) (line : List ℕ) {most : ℕ} {before of : List ℕ} {answer : Bool} (part : NumbersRead most (take (length line - at) (drop at line)) before of answer) where
  read : NumbersRead most (drop at line) before of answer
  read = rw (part_to_end line at) at part

  pub rest_failed : answer ≡ false → are_numbers (length before) most (fields (drop at line)) ≡ false
  rest_failed n = line_failed read n

  pub rest_passed : answer ≡ true
      → (are_numbers (length before) most (fields (drop at line)) ≡ true) × (of ≡ upto (number_at (fields (drop at line))) (length before))
  rest_passed n = line_passed read n

-- what a function that compares heads says, of a head that it did not find
module _ {P : Type 0} {answer : Bool} (complete : P → answer ≡ true) where
  pub not_found : answer ≡ false → P → ⊥
  not_found n p = true≢false (sym (complete p) ∙ n)
