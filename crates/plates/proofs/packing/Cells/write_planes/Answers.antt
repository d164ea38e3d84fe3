-- `plates::packing::Cells::write_planes` meets its contract: row by row. Assumes nothing.
use Prim.Native.Nat.{ℕ, ◌*◌}
use mathlib.Core.Path.{◌≡◌, sym, ap, ◌∙◌}
use native.Mathlib.Omega.{arith}
use Rattle.plates.specs.Planes.{row_bytes}
use Rattle.plates.proofs.PackLoops.{packed_at, packed_start, packed_end}
use Rattle.plates.proofs.packing.Cells.write_planes.Goals as goal

pub loop-y-init : goal.loop-y-init
loop-y-init c = (omega arith, packed_at (packed_start _ _ _ _ c.requires) (omega arith))

pub write_row-requires : goal.write_row-requires
write_row-requires c = record { row = c.loop-y-test.true; before = c.loop-y.invariant.1 }

pub loop-y-preserved : goal.loop-y-preserved
loop-y-preserved c = (omega arith, packed_at c.write_row.ensures (omega arith))

pub shape_of-planes : goal.shape_of-planes
shape_of-planes c = c.loop-y.invariant.1.size ∙ sym c.requires

pub returns : goal.returns
returns c =
    let whole : c.loop-y.y ≡ c.args.self.window.rows = omega (arith, c.loop-y.invariant.0) in
    packed_end _ _ _ (packed_at c.loop-y.invariant.1 (ap (λ (n : ℕ). n * row_bytes c.args.self.window.columns) whole))
