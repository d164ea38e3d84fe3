-- `counts_text::writing::Output::put_line` meets its contract. Assumes nothing.
use native.Mathlib.Omega.{arith}
use Rattle.counts_text.proofs.LineLoop.{line_length, line_start, line_tab, line_room, line_step, line_done}
use Rattle.counts_text.proofs.writing.Output.put_line.Goals as goal

pub put-requires : goal.put-requires
put-requires c = omega (arith, c.requires, line_length c.args.letter c.args.numbers.now)

pub loop-number-init : goal.loop-number-init
loop-number-init c = line_start c.requires c.put.ensures

pub put-requires-in-loop-number : goal.put-requires-in-loop-number
put-requires-in-loop-number c = line_tab c.loop-number.invariant

pub put_number-requires : goal.put_number-requires
put_number-requires c = line_room c.loop-number.invariant c.loop-number-test.true c.put-in-loop-number.ensures

pub loop-number-preserved : goal.loop-number-preserved
loop-number-preserved c =
    line_step c.loop-number.invariant c.loop-number-test.true c.put-in-loop-number.ensures c.put_number.ensures

pub put-requires-2 : goal.put-requires-2
put-requires-2 c = line_tab c.loop-number.invariant

pub returns : goal.returns
returns c = line_done c.loop-number.invariant c.loop-number-test.false c.put-2.ensures
