-- `plates::check_lengths` meets its contract: each return is one law of Refusals. Assumes nothing.
use Rattle.plates.proofs.Refusals.{length_6, length_7, length_0}
use Rattle.plates.proofs.check_lengths.Goals as goal

pub returns-then-input-stated : goal.returns-then-input-stated
returns-then-input-stated c = length_6 _ _ _ _ c.if-input-stated.true

pub returns-then-output-due : goal.returns-then-output-due
returns-then-output-due c = length_7 _ _ _ _ c.if-input-stated.false c.if-output-due.true

pub returns : goal.returns
returns c = length_0 _ _ _ _ c.if-input-stated.false c.if-output-due.false
