-- What the loop of `plates::unpacking::Sound::write_rows` keeps.
use Prim.Native.Nat.{◌*◌}
use Rattle.plates.specs.Places.{WrittenTo}
use Rattle.plates.proofs.unpacking.Sound.write_rows.Given as goal

abbrev pub invariant-loop-y : goal.invariant-loop-y
invariant-loop-y l = WrittenTo l.self.planes.window.columns l.self.planes.window.rows l.self.planes.bytes.now l.cells (l.y * l.self.planes.window.columns)
