-- What the loop of `plates::packing::Cells::write_row` keeps.
use Prim.Native.Nat.{◌+◌, ◌*◌, ◌≤◌}
use Rattle.plates.specs.Planes.{row_bytes}
use Rattle.plates.specs.Places.{PackedTo}
use Rattle.plates.proofs.packing.Cells.write_row.Given as goal

abbrev pub invariant-loop-b : goal.invariant-loop-b
invariant-loop-b l = (l.b ≤ l.full) × PackedTo l.self.window.columns l.self.window.rows l.self.bytes.now l.planes (l.y * row_bytes l.self.window.columns + l.b)
