-- What the loop of `plates::packing::put_word` keeps.
use Rattle.plates.proofs.PackLoops.{StoringAt}
use Rattle.plates.proofs.packing.put_word.Given as goal

abbrev pub invariant-loop-p : goal.invariant-loop-p
invariant-loop-p l = StoringAt l.word l.plane l.place l.initial.planes l.planes l.p
