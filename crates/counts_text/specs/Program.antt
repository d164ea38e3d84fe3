-- Rules 10.1 and 10.6 to 10.8: the whole text that is written for the whole text that is read.
-- Assumes nothing: these are definitions.
use Rattle.std.specs.Prelude.{ℕ, suc, ◌-◌, Bool, not, cond, ◌&&◌, List, eqb, leb, ltb, length}
use Rattle.arith.specs.First.{first_below}
use Rattle.arith.specs.Refusal.{unless}
use Rattle.counts_text.specs.Text.{lines, line_at, joined}
use Rattle.counts_text.specs.Lines.{screen_in, screen_refusal, patch_refusal, counts_line, error_line}

-- whether byte 10 ends line i (counted from 0)
abbrev pub ended : List ℕ → ℕ → Bool
ended text i = ltb (suc i) (length (lines text))

-- Rule 10.8, what refuses line i, counted from 0. Where byte 10 ends no line i, the text may only be at its end, after at least two
-- lines.
unfoldable pub line_refusal : List ℕ → ℕ → ℕ
line_refusal text i =
    cond (ended text i)
    (cond (eqb i 0) (screen_refusal (line_at text i)) (unless (leb i 256) 10 (patch_refusal (line_at text i))))
    (unless (leb 2 i && eqb (length (line_at text i)) 0) 10 0)

-- rule 10.7: the first bad line, counted from 0, or the number of `lines` where none is bad
unfoldable pub first_bad : List ℕ → ℕ
first_bad text = first_below (length (lines text)) (λ i. not (eqb (line_refusal text i) 0))

-- rule 10.6: the P lines are all that byte 10 ends but the first
unfoldable pub counts_lines : List ℕ → List ℕ
counts_lines text = joined (length (lines text) - 2) (λ i. counts_line (screen_in (line_at text 0)) (line_at text (suc i)))

-- rules 10.6 and 10.7: good text, or the first bad line
unfoldable pub judged : List ℕ → List ℕ
judged text =
    cond (ltb (first_bad text) (length (lines text))) (error_line (suc (first_bad text)) (line_refusal text (first_bad text))) (counts_lines text)

-- rule 10.1: text that is too long, before all else
unfoldable pub counts_text : List ℕ → List ℕ
counts_text text = cond (ltb 65536 (length text)) (error_line 0 10) (judged text)
