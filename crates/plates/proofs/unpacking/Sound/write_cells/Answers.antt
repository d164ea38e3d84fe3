-- `plates::unpacking::Sound::write_cells` meets its contract: the rows that have room, and then the others (UnpackLoops). Assumes nothing.
use mathlib.Core.Path.{sym, ◌∙◌}
use native.Mathlib.Omega.{arith}
use Rattle.plates.proofs.UnpackLoops.{roomy_told, roomy_own, written_start, written_fewer, written_end}
use Rattle.plates.proofs.unpacking.Sound.write_cells.Goals as goal

pub overflow_mul-whole : goal.overflow_mul-whole
overflow_mul-whole c = omega (arith, c.row_bytes-whole.ensures, c.args.self.planes.window.wide)

pub write_rows-requires : goal.write_rows-requires
write_rows-requires c =
    rw c.row_bytes-whole.ensures (record {
      roomy = roomy_told _ _ _ (λ some. grind arith) (λ some. grind arith);
      before = written_fewer (written_start _ c.requires) _ (omega arith);
    })

pub write_rows-requires-2 : goal.write_rows-requires-2
write_rows-requires-2 c = record { roomy = roomy_own _ _; before = c.write_rows.ensures }

pub shape_of-cells : goal.shape_of-cells
shape_of-cells c = c.write_rows-2.ensures.size ∙ sym c.requires

pub returns : goal.returns
returns c = written_end c.write_rows-2.ensures (omega arith)
