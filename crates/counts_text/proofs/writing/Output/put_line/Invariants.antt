-- What the loop of `counts_text::writing::Output::put_line` keeps.
use Rattle.counts_text.proofs.LineLoop.{LineAt}
use Rattle.counts_text.proofs.writing.Output.put_line.Given as goal

abbrev pub invariant-loop-number : goal.invariant-loop-number
invariant-loop-number l = LineAt l.letter l.numbers l.fn.self l.self l.number-index
