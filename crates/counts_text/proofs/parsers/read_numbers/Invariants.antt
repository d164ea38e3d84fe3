-- What the loop of `counts_text::parsers::read_numbers` keeps.
use Rattle.counts_text.proofs.NumbersLoop.{NumbersAt}
use Rattle.counts_text.proofs.parsers.read_numbers.Given as goal

abbrev pub invariant-loop-number : goal.invariant-loop-number
invariant-loop-number l = NumbersAt l.most l.line l.initial.of l.of l.left l.number-index
