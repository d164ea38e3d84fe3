-- `plates::unpacking::Sound::write_rows` meets its contract, row by row (UnpackLoops). Assumes nothing.
use mathlib.Core.Path.{◌≡◌, sym, ◌∙◌}
use native.Mathlib.Nat.{mul-le-mul_right}
use native.Mathlib.Omega.{arith}
use Rattle.plates.specs.Planes.{row_bytes}
use Rattle.plates.proofs.PlaceLaws.{row_ends}
use Rattle.plates.proofs.UnpackLoops.{written_fewer, written_part, written_row}
use Rattle.plates.proofs.unpacking.Sound.write_rows.Goals as goal

pub loop-y-init : goal.loop-y-init
loop-y-init c = c.requires.before

pub overflow_mul-first : goal.overflow_mul-first
overflow_mul-first c = omega (arith, c.requires.roomy.room _ c.loop-y-test.true, c.requires.before.size)

pub overflow_add-first : goal.overflow_add-first
overflow_add-first c = omega (arith, c.requires.roomy.room _ c.loop-y-test.true, c.requires.before.size)

pub overflow_mul-y : goal.overflow_mul-y
overflow_mul-y c =
    let planes = c.args.self.planes in
    let row = row_ends planes.window.rows (row_bytes planes.window.columns) c.loop-y.y (omega (arith, c.loop-y-test.true, c.requires.roomy.within)) in
    rw c.row_bytes-bytes.ensures (omega (arith, row, planes.one, planes.eight))

pub slice_bounds-write_row-end : goal.slice_bounds-write_row-end
slice_bounds-write_row-end c = omega (arith, c.requires.roomy.room _ c.loop-y-test.true, c.loop-y.invariant.size)

pub write_row-requires : goal.write_row-requires
write_row-requires c =
    let planes = c.args.self.planes in
    let y = c.loop-y.y in
    let long = written_part c.loop-y.invariant c.requires.roomy y c.loop-y-test.true in
    let same : row_bytes c.args.pixels ≡ row_bytes planes.window.columns = omega (arith, c.requires.roomy.least, c.requires.roomy.most) in
    rw (c.row_bytes-bytes.ensures, long, same, planes.one)
    (row_ends _ _ y (omega (arith, c.loop-y-test.true, c.requires.roomy.within)))

pub loop-y-preserved : goal.loop-y-preserved
loop-y-preserved c =
    let y = c.loop-y.y in
    let so_far = c.loop-y.invariant in
    let row = c.loop-y-test.true in
    written_fewer
    (written_row c.args.self.unpackable c.requires.roomy y _ _ row
    (rw (c.row_bytes-bytes.ensures, c.args.self.planes.one, written_part so_far c.requires.roomy y row) at c.write_row.ensures)
    so_far)
    _ (omega arith)

pub shape_of-cells : goal.shape_of-cells
shape_of-cells c = c.loop-y.invariant.size ∙ sym c.requires.before.size

pub returns : goal.returns
returns c = written_fewer c.loop-y.invariant _ (mul-le-mul_right _ c.loop-y-test.false)
