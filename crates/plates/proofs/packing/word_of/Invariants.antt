-- What the loop of `plates::packing::word_of` keeps.
use lib.ListN.{length, get_or}
use Rattle.plates.proofs.PackLoops.{WordAt}
use Rattle.plates.proofs.packing.word_of.Given as goal

abbrev pub invariant-loop-t : goal.invariant-loop-t
invariant-loop-t l = WordAt (λ i. get_or l.cells i 0) (length l.cells) l.word l.t
