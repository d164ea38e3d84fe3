-- `counts_text::writing::Output::put_counts` meets its contract. Assumes nothing.
use Rattle.counts_text.proofs.CountsLoop.{counts_start, counts_room, counts_step}
use Rattle.counts_text.proofs.writing.Output.put_counts.Goals as goal

pub loop-p-init : goal.loop-p-init
loop-p-init c = counts_start _ _ _ _ c.requires.0 c.requires.1

pub put_line-requires : goal.put_line-requires
put_line-requires c =
    let read = rw c.unwrap-patch.ensures at c.patch_line.ensures in
    counts_room c.loop-p.invariant c.loop-p-test.true _ _ read.1 read.2 _ c.counted-counts.ensures

pub loop-p-preserved : goal.loop-p-preserved
loop-p-preserved c =
    let read = rw c.unwrap-patch.ensures at c.patch_line.ensures in
    counts_step c.loop-p.invariant c.loop-p-test.true _ _ read.1 read.2 _ c.counted-counts.ensures read.3 c.put_line.ensures
