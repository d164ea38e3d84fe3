-- Weights of the ink values of rules 12.3 and 12.5. proofs/AllMarks.antt shows them by computing the definitions.
-- Assumes nothing: these are statements.
use Rattle.std.specs.Prelude.{◌≡◌, [], ◌∷◌}
use Rattle.separation.specs.declared.Separation.TheVariants.{Demichel, Kueppers}
use Rattle.separation.specs.declared.Inks.{Inks}
use Rattle.separation.specs.Weights.{inks_of, weight, weights_of}
use Rattle.separation.specs.Laws.{KueppersWords}

-- the ink values of rule 12.3
abbrev pub half : Inks
half = inks_of 128 128 0

-- those of rule 12.5: cyan the least, yellow the largest
abbrev pub rising : Inks
rising = inks_of 51 102 204

pub record Marks : Type 0 where
  pub demichel : weights_of Demichel half ≡ 4145280 ∷ 4145280 ∷ 0 ∷ 4177920 ∷ 0 ∷ 0 ∷ 0 ∷ 4112895 ∷ []
  pub kueppers : weights_of Kueppers rising ≡ 0 ∷ 0 ∷ 102 ∷ 0 ∷ 0 ∷ 51 ∷ 51 ∷ 51 ∷ []
  -- what the law by the order of the values says of red
  pub words_law : KueppersWords → weight Kueppers rising 5 ≡ 51
