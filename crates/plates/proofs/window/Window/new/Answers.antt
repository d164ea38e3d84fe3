-- `plates::window::Window::new` meets its contract. Assumes nothing.
use Rattle.plates.proofs.Refusals.{window_off, window_on}
use Rattle.plates.proofs.window.Window.new.Goals as goal

pub returns-then-not-rows-clause-refused : goal.returns-then-not-rows-clause-refused
returns-then-not-rows-clause-refused c = window_off _ _ c.if-not-rows.either

pub returns-clause-refused : goal.returns-clause-refused
returns-clause-refused c = window_on _ _ c.if-not-rows.false
