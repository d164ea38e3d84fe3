-- Small calls. proofs/AllMarks.antt shows them by computing the definitions.
-- Assumes nothing: these are statements.
use Rattle.std.specs.Prelude.{◌≡◌, List, [], ◌∷◌, Float}
use Rattle.std.specs.Float.{nan, binary64}
use Rattle.std.specs.Float.Ieee.{of_bits}
use Rattle.arith.specs.Run.{zeros}
use Rattle.screen.specs.Marks as Screens
use Rattle.screen.specs.Screens as Library
use Rattle.screen.specs.Phase.{place_of}
use Rattle.screen.specs.Brick.{brick_of}
use Rattle.screen.specs.Made.{made_of, offset_replaced, cells_replaced}
use Rattle.screen.specs.Corner.{moved_to}
use Rattle.separation.specs.declared.Separation.TheVariants.{Demichel, Kueppers}
use Rattle.separation.specs.Weights.{inks_of}
use Rattle.separation.specs.Marks.{half}
use Rattle.predict.specs.Predicted.{plus_zero, limit}
use Rattle.predict.specs.Marks.{sets, cyan_unset, shorter}
use Rattle.bill.specs.Charges.{charged}
use Rattle.bill.specs.Marks.{flat, tint}
use Rattle.cavzemil.specs.declared.screens.Screen.{Screen}
use Rattle.cavzemil.specs.declared.windows.Window.{Window}
use Rattle.cavzemil.specs.Separations.{separation_of}
use Rattle.cavzemil.specs.Screens.{screen_of, screen_laid, place_laid, brick_laid, made_laid}
use Rattle.cavzemil.specs.Windows.{unrendered, cell_answer, render_answer, render_output, brick_answer, brick_output}
use Rattle.cavzemil.specs.Colours.{counts_answer, colourless, predict_answer}
use Rattle.cavzemil.specs.Cellular.{uncoloured, cellular_answer}
use Rattle.cavzemil.specs.Bills.{charge_laid}

-- rule 12.8's screen, one whose slope is not in lowest terms, and one of a single cell, whose brick is the phase 0
abbrev pub listed : Screen
listed = screen_laid Screens.listed

abbrev pub sloped : Screen
sloped = screen_laid Screens.sloped

abbrev pub single : Screen
single = screen_laid (Library.screen_of 1 2 1 1 0)

-- rule 12.19's screen, whose stored shift is not true
abbrev pub untrue : Screen
untrue = screen_laid (Screens.untrue 2)

-- the place (1, 0), at phase 4
abbrev pub lone : Window
lone = record { x = 1; y = 0; columns = 1; rows = 1 }

-- 24 values of 0, but magenta's Y is not a number
abbrev pub magenta_unset : List Float
magenta_unset =
    let o : Float = plus_zero in
    o ∷ o ∷ o ∷ o ∷ nan ∷ o ∷ o ∷ o ∷ o ∷ o ∷ o ∷ o ∷ o ∷ o ∷ o ∷ o ∷ o ∷ o ∷ o ∷ o ∷ o ∷ o ∷ o ∷ o ∷ []

pub record Marks : Type 0 where
  pub placed : place_laid (place_of (screen_of listed) 3 2) ≡ record { refusal = 0; phase = 26 }
  pub bricked : brick_laid (brick_of (screen_of listed)) ≡ record { refusal = 0; columns = 105; rows = 1; shift = 77 }
  pub sloped_brick : brick_laid (brick_of (screen_of sloped)) ≡ record { refusal = 1; columns = 0; rows = 0; shift = 0 }
  -- rules 17.2 to 17.4: made, replaced, and handed back
  pub made : made_laid (made_of 4 7 105 2 0) ≡ record { refusal = 0; screen = listed }
  pub replaced : made_laid (cells_replaced (screen_of listed) 70) ≡ record { refusal = 0; screen = screen_laid Screens.tworowed }
  pub handed_back_mark : made_laid (offset_replaced (screen_of untrue) 70) ≡ record { refusal = 15; screen = untrue }
  -- rules 19.1 and 19.2: seen from another corner, and handed back
  pub moved : made_laid (moved_to (screen_of listed) 1 2) ≡ record { refusal = 0; screen = screen_laid (Library.screen_of 4 7 105 2 87) }
  pub unmoved : made_laid (moved_to (screen_of untrue) 1 2) ≡ record { refusal = 15; screen = untrue }
  -- rule 11.2: 15 before 5, 6, 8, 11 and 14
  pub untrue_cell : cell_answer untrue 0 65536 0 half ≡ record { refusal = 15; colorant = 0 }
  pub untrue_window : render_answer untrue 0 lone [] (9 ∷ []) ≡ record { refusal = 15; tallies = zeros 8 }
  pub untrue_brick : brick_answer untrue 0 lone (128 ∷ 128 ∷ 0 ∷ []) [] (9 ∷ []) ≡ record { refusal = 15; tallies = zeros 8 }
  pub untrue_length : predict_answer untrue 1 half [] ≡ colourless 15 0
  pub untrue_colour : predict_answer untrue 1 half magenta_unset ≡ colourless 15 0
  pub untrue_cellular : cellular_answer untrue 0 half shorter ≡ uncoloured 15 0
  -- rule 14.3: the two separations
  pub zero_demichel : separation_of 0 ≡ Demichel
  pub one_kueppers : separation_of 1 ≡ Kueppers
  pub counted : counts_answer listed 0 half ≡ record { refusal = 0; of = 26 ∷ 26 ∷ 0 ∷ 27 ∷ 0 ∷ 0 ∷ 0 ∷ 26 ∷ [] }
  pub celled : cell_answer listed 0 1 0 half ≡ record { refusal = 0; colorant = 0 }
  pub rendered : render_answer listed 0 lone (128 ∷ 128 ∷ 0 ∷ []) (9 ∷ []) ≡ record { refusal = 0; tallies = 1 ∷ 0 ∷ 0 ∷ 0 ∷ 0 ∷ 0 ∷ 0 ∷ 0 ∷ [] }
  pub written : render_output listed 0 lone (128 ∷ 128 ∷ 0 ∷ []) (9 ∷ []) ≡ 0 ∷ []
  -- by the second renderer, with a true brick, a short one and a wrong one
  pub brick_rendered_mark : brick_answer single 0 lone (128 ∷ 128 ∷ 0 ∷ []) (0 ∷ []) (9 ∷ []) ≡ record { refusal = 0; tallies = 0 ∷ 0 ∷ 0 ∷ 1 ∷ 0 ∷ 0 ∷ 0 ∷ 0 ∷ [] }
  pub brick_short : brick_answer single 0 lone (128 ∷ 128 ∷ 0 ∷ []) [] (9 ∷ []) ≡ record { refusal = 8; tallies = zeros 8 }
  pub brick_wrong : brick_answer single 0 lone (128 ∷ 128 ∷ 0 ∷ []) (1 ∷ []) (9 ∷ []) ≡ record { refusal = 8; tallies = zeros 8 }
  pub brick_untouched : brick_output single 0 lone (128 ∷ 128 ∷ 0 ∷ []) (1 ∷ []) (9 ∷ []) ≡ 9 ∷ []
  -- rule 14.3: 100, with other refusals beside it
  pub unknown_counts : counts_answer sloped 2 half ≡ record { refusal = 100; of = zeros 8 }
  pub unknown_untrue : counts_answer untrue 2 half ≡ record { refusal = 100; of = zeros 8 }
  pub unknown_cell : cell_answer sloped 2 65536 0 half ≡ record { refusal = 100; colorant = 0 }
  pub unknown_window : render_answer sloped 2 lone [] (9 ∷ []) ≡ record { refusal = 100; tallies = zeros 8 }
  pub untouched : render_output sloped 2 lone [] (9 ∷ []) ≡ 9 ∷ []
  pub unknown_colour : predict_answer sloped 4294967295 half [] ≡ colourless 100 0
  -- rule 14.4: 6 alone, after 1, and before 11, which carries its colorant
  pub short_colour : predict_answer listed 1 half [] ≡ colourless 6 0
  pub sloped_colour : predict_answer sloped 1 half [] ≡ colourless 1 0
  pub bad_colour : predict_answer listed 1 half magenta_unset ≡ colourless 11 1
  -- rule 16.8: 100 and 14 with others beside them, 11 with its set; and rule 12.17's colour
  pub unknown_cellular : cellular_answer sloped 2 half shorter ≡ uncoloured 100 0
  pub short_cellular : cellular_answer listed 0 half shorter ≡ uncoloured 14 0
  pub bad_cellular : cellular_answer listed 0 half cyan_unset ≡ uncoloured 11 1
  pub cellular_colour : cellular_answer listed 0 (inks_of 200 90 140) sets ≡ record { refusal = 0; set = 0; x = of_bits binary64 0x4008c118de5ab279; y = plus_zero; z = limit }
  -- rule 12.15's bill, and no window
  pub billed : charge_laid (charged (flat 1000000) tint) ≡ record { refusal = 0; cents = 105 }
  pub unbilled : charge_laid (charged (flat 1000000) []) ≡ record { refusal = 13; cents = 0 }
  -- rule 15.6, of an answer that is refused as 100
  pub unknown_billed : charge_laid (charged (flat 1000000) unrendered.tallies) ≡ record { refusal = 0; cents = 0 }
