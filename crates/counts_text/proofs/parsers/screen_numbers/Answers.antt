-- `counts_text::parsers::screen_numbers` meets its contract: the head of the line and then its numbers are those of a screen. Assumes nothing.
use Rattle.std.specs.Prelude.{Some, None}
use Rattle.std.proofs.lemmas.Bool.Decides.{Decides-eqb}
use Rattle.std.proofs.lemmas.Slice.Eq.{strip_prefix_is}
use Rattle.counts_text.specs.Parsers.{head_s}
use Rattle.counts_text.proofs.FirstLine.{next_line, screen_unended, screen_unheaded, screen_unread, screen_is, screen_judged}
use Rattle.counts_text.proofs.parsers.screen_numbers.Goals as goal

pub returns-in_err-line : goal.returns-in_err-line
returns-in_err-line c = rw c.from_residual.ensures (screen_unended _ c.in_err-line.ensures.pieces)

pub returns-in_err-values : goal.returns-in_err-values
returns-in_err-values c =
    rw c.from_residual-in_err-values.ensures (screen_unheaded _ _ _ c.in_ok-line.ensures.pieces (strip_prefix_is Decides-eqb _ head_s None c.in_err-values.ensures.cases))

pub returns-in_err-numbers : goal.returns-in_err-numbers
returns-in_err-numbers c =
    rw c.from_residual-in_err-numbers.ensures (screen_unread _ _ _ c.in_ok-line.ensures.pieces _ (strip_prefix_is Decides-eqb _ head_s (Some c.in_ok-values.values) c.in_ok-values.ensures.cases) c.in_err-numbers.ensures)

pub returns : goal.returns
returns c =
    let head = strip_prefix_is Decides-eqb _ head_s (Some c.in_ok-values.values) c.in_ok-values.ensures.cases in
    record {
      refusal = screen_judged _ _ _ c.in_ok-line.ensures.pieces _ head _ c.in_ok-numbers.ensures;
      screen = screen_is _ _ _ c.in_ok-line.ensures.pieces _ head _ c.in_ok-numbers.ensures;
      parted = next_line _ _ _ c.in_ok-line.ensures.pieces;
    }
