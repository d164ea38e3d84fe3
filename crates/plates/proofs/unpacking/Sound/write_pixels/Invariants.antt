-- What the loop of `plates::unpacking::Sound::write_pixels` keeps.
use Rattle.arith.proofs.RunLaws.{Filling}
use Rattle.plates.specs.Places.{colorant_at}
use Rattle.plates.proofs.unpacking.Sound.write_pixels.Given as goal

abbrev pub invariant-loop-t : goal.invariant-loop-t
invariant-loop-t l = Filling (colorant_at l.self.planes.plane l.self.planes.bytes.now l.place) l.initial.out l.out l.t
