-- `counts_text::parsers::numbers` meets its contract: it lends memory of zeros. Assumes nothing.
use Rattle.counts_text.proofs.NumbersLoop.{numbers_none, numbers_some}
use Rattle.counts_text.proofs.parsers.numbers.Goals as goal

pub returns-then-read_numbers : goal.returns-then-read_numbers
returns-then-read_numbers g c = numbers_some g.row.N c.read_numbers.ensures c.if-read_numbers.true

pub returns-else-read_numbers : goal.returns-else-read_numbers
returns-else-read_numbers g c = numbers_none g.row.N c.read_numbers.ensures c.if-read_numbers.false
