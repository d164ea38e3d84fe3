-- What the loop of `counts_text::writing::Output::put_counts` keeps.
use Rattle.counts_text.proofs.CountsLoop.{CountsAt}
use Rattle.counts_text.proofs.writing.Output.put_counts.Given as goal

abbrev pub invariant-loop-p : goal.invariant-loop-p
invariant-loop-p l = CountsAt l.job.screen l.job.lines.now l.job.patches l.fn.self l.self l.rest l._p
