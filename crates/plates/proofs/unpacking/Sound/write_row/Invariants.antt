-- What the loop of `plates::unpacking::Sound::write_row` keeps.
use Prim.Native.Nat.{◌*◌}
use Rattle.arith.proofs.RunLaws.{Filling}
use Rattle.plates.specs.Places.{row_of}
use Rattle.plates.proofs.unpacking.Sound.write_row.Given as goal

abbrev pub invariant-loop-b : goal.invariant-loop-b
invariant-loop-b l = Filling (row_of l.self.planes.plane l.self.planes.bytes.now l.start) l.initial.out l.out (8 * l.b)
