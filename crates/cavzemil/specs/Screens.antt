-- Rule 14.2, the structs of screens: the library's, and those that C lays out, field by field, either way.
-- Assumes nothing: these are definitions.
use Rattle.screen.specs.declared.Screen as Screens
use Rattle.screen.specs.Phase as Places
use Rattle.screen.specs.Brick as Bricks
use Rattle.screen.specs.Made as Mades
use Rattle.cavzemil.specs.declared.screens.Screen.{Screen}
use Rattle.cavzemil.specs.declared.screens.Place.{Place}
use Rattle.cavzemil.specs.declared.screens.Brick.{Brick}
use Rattle.cavzemil.specs.declared.making.Made.{Made}

abbrev pub screen_of : Screen → Screens.Screen
screen_of s =
    record { a = s.a; b = s.b; n = s.n; k = s.k; g = s.g; columns = s.columns; rows = s.rows; shift = s.shift }

abbrev pub screen_laid : Screens.Screen → Screen
screen_laid s =
    record { a = s.a; b = s.b; n = s.n; k = s.k; g = s.g; columns = s.columns; rows = s.rows; shift = s.shift }

abbrev pub place_laid : Places.Place → Place
place_laid p = record { refusal = p.refusal; phase = p.phase }

abbrev pub brick_laid : Bricks.BrickAnswer → Brick
brick_laid b = record { refusal = b.refusal; columns = b.columns; rows = b.rows; shift = b.shift }

abbrev pub made_laid : Mades.Made → Made
made_laid m = record { refusal = m.refusal; screen = screen_laid m.screen }
