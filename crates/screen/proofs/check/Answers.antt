-- `screen::check` meets its contract: what the five numbers have passed are the limits that the stored ones are tested in. Assumes nothing.
use Rattle.screen.proofs.Refusals.{limits_of}
use Rattle.screen.proofs.check.Goals as goal

pub stored_true-requires : goal.stored_true-requires
stored_true-requires c = limits_of _ c.in_ok-check_numbers.ensures
