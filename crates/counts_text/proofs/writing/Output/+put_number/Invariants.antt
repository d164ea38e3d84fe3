-- `counts_text::writing::Output::put_number`: the measure is the number.
use Rattle.counts_text.proofs.writing.Output.+put_number.Given as goal

abbrev pub decreases-put_number : goal.decreases-put_number
decreases-put_number l = l.v
