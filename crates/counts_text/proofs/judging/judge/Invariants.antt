-- What the loop of `counts_text::judging::judge` keeps.
use Rattle.counts_text.proofs.JudgeLaws.{PatchesAt}
use Rattle.counts_text.proofs.judging.judge.Given as goal

abbrev pub invariant-loop-line : goal.invariant-loop-line
invariant-loop-line l = PatchesAt l.input l.rest l.line
