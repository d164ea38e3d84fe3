-- What the loop of `plates::packing::Cells::write_planes` keeps.
use Prim.Native.Nat.{◌*◌, ◌≤◌}
use Rattle.plates.specs.Planes.{row_bytes}
use Rattle.plates.specs.Places.{PackedTo}
use Rattle.plates.proofs.packing.Cells.write_planes.Given as goal

abbrev pub invariant-loop-y : goal.invariant-loop-y
invariant-loop-y l = (l.y ≤ l.self.window.rows) × PackedTo l.self.window.columns l.self.window.rows l.self.bytes.now l.planes (l.y * row_bytes l.self.window.columns)
