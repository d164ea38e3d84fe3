-- `counts_text::writing::Output::put` meets its contract. Assumes nothing.
use mathlib.Core.Path.{refl}
use lib.ListN.{length-set}
use Rattle.counts_text.proofs.WroteLaws.{wrote_byte}
use Rattle.counts_text.proofs.writing.Output.put.Goals as goal

pub returns : goal.returns
returns c = record { lent = refl; room = length-set _ _ _; done = refl; wrote = λ first memory w. wrote_byte w c.args.byte c.requires }
