-- `plates::packing::Cells::write_row` meets its contract: place by place. Assumes nothing.
use mathlib.Core.Path.{refl, sym, ◌∙◌}
use mathlib.Core.Logic.{inl, inr}
use native.Mathlib.Omega.{arith}
use Rattle.plates.proofs.PackLoops.{packed_at}
use Rattle.plates.proofs.packing.Cells.write_row.Goals as goal

pub loop-b-init : goal.loop-b-init
loop-b-init c = (omega arith, packed_at c.requires.before (omega arith))

pub write_place-requires : goal.write_place-requires
write_place-requires c =
    let room = c.loop-b-test.true in
    record { row = c.requires.row; place = omega arith; within = omega arith; few = omega arith; all = inl refl; before = c.loop-b.invariant.1 }

pub loop-b-preserved : goal.loop-b-preserved
loop-b-preserved c = (omega arith, packed_at c.write_place.ensures (omega arith))

pub write_place-requires-then-pixels-ne0 : goal.write_place-requires-then-pixels-ne0
write_place-requires-then-pixels-ne0 c =
    let done = c.loop-b.invariant in
    record { row = c.requires.row; place = omega arith; within = omega arith; few = omega arith; all = inr (omega arith); before = packed_at done.1 (omega arith) }

pub shape_of-planes-then-pixels-ne0 : goal.shape_of-planes-then-pixels-ne0
shape_of-planes-then-pixels-ne0 c = c.write_place-then-pixels-ne0.ensures.size ∙ sym c.requires.before.size

pub returns-then-pixels-ne0 : goal.returns-then-pixels-ne0
returns-then-pixels-ne0 c = packed_at c.write_place-then-pixels-ne0.ensures (omega arith)

pub shape_of-planes-else-pixels-ne0 : goal.shape_of-planes-else-pixels-ne0
shape_of-planes-else-pixels-ne0 c = c.loop-b.invariant.1.size ∙ sym c.requires.before.size

pub returns-else-pixels-ne0 : goal.returns-else-pixels-ne0
returns-else-pixels-ne0 c = packed_at c.loop-b.invariant.1 (omega arith)
