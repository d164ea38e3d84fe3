-- The laws of specs/Laws.antt, proved. Assumes nothing.
use mathlib.Core.Path.{sym}
use Rattle.quantiser.proofs.Published.{counts_answered}
use Rattle.counts_text.specs.Lines.{separation_in, inks_in, counts_line}
use Rattle.counts_text.specs.Laws.{NumberBack, FieldBack, CountsWritten, ErrorAlone, OutputFits}
use Rattle.counts_text.proofs.NumberLaws.{value_back, number_written, numeral_again}
use Rattle.counts_text.proofs.Fits as Fits
use Rattle.counts_text.proofs.ProgramLaws as ProgramLaws

pub number_back : NumberBack
number_back v h = (number_written v h, value_back v)

pub field_back : FieldBack
field_back = numeral_again

pub counts_written : CountsWritten
unfolding counts_line
counts_written s ok line = rw ((counts_answered s (separation_in line) (inks_in line)).1 ok)

pub error_alone : ErrorAlone
error_alone text short l = sym (ProgramLaws.error_alone text short l)

pub output_fits : OutputFits
output_fits = Fits.output_fits
