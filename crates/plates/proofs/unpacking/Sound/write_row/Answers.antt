-- `plates::unpacking::Sound::write_row` meets its contract, by the laws of a row's pixels (UnpackLoops). Assumes nothing.
use Prim.Native.Nat.{◌+◌, ◌*◌, ◌/◌, ◌%◌}
use mathlib.Core.Path.{◌≡◌, refl}
use native.Mathlib.Omega.{arith}
use lib.ListN.{length}
use Rattle.arith.proofs.RunLaws.{filling_start, filling_at, filling_whole}
use Rattle.plates.proofs.UnpackLoops.{row_part}
use Rattle.plates.proofs.unpacking.Sound.write_row.Goals as goal

pub loop-b-init : goal.loop-b-init
loop-b-init c = filling_start _ _

pub loop-b-preserved : goal.loop-b-preserved
loop-b-preserved c =
    filling_at (row_part _ _ _ c.loop-b.b c.loop-b.invariant 8 _ (omega arith) (omega arith) c.write_pixels.ensures) (omega arith)

pub returns-then-count-ne0 : goal.returns-then-count-ne0
returns-then-count-ne0 c =
    let row = c.loop-b.invariant in
    let count = length c.args.out.now in
    let long : length c.loop-b.out ≡ 8 * (count / 8) + count % 8 = omega (arith, c.loop-b.auto.out) in
    let part = rw long at c.write_pixels-then-count-ne0.ensures in
    rw long (filling_whole (row_part _ _ _ (count / 8) (filling_at row (omega arith)) (count % 8) _ (omega arith) (omega arith) part) _ refl (omega arith))
