-- Rules 4.1 to 4.5: the weights of the eight colorants.
-- Assumes nothing: these are definitions.
use Rattle.std.specs.Prelude.{ℕ, ◌-◌, ◌*◌, min, max, Bool, true, false, cond, List, [], ◌∷◌, get_or}
use Rattle.arith.specs.Run.{upto}
use Rattle.separation.specs.declared.Separation.{Separation}
use Rattle.separation.specs.declared.Separation.TheVariants.{Demichel, Kueppers}
use Rattle.separation.specs.declared.Inks.{Inks}

-- rule 4.1: the value of a full ink
abbrev pub full : ℕ
full = 255

-- three ink values as one
abbrev pub inks_of : ℕ → ℕ → ℕ → Inks
inks_of c m y = record { c = c; m = m; y = y }

-- rule 4.2: which of the inks c, m and y each colorant holds, by its number
abbrev pub table : List (List Bool)
table =
    (true ∷ false ∷ false ∷ [])
    ∷ (false ∷ true ∷ false ∷ [])
    ∷ (false ∷ false ∷ true ∷ [])
    ∷ (true ∷ true ∷ false ∷ [])
    ∷ (true ∷ false ∷ true ∷ [])
    ∷ (false ∷ true ∷ true ∷ [])
    ∷ (true ∷ true ∷ true ∷ [])
    ∷ (false ∷ false ∷ false ∷ [])
    ∷ []

-- the row of colorant j
abbrev pub row_of : ℕ → List Bool
row_of j = get_or table j []

-- Three numbers, one for each ink, combined by an operation. Each number is made of whether a colorant's row holds the ink, and
-- of the ink's value.
abbrev pub over_inks : (ℕ → ℕ → ℕ) → (Bool → ℕ → ℕ) → List Bool → Inks → ℕ
over_inks op f row inks = op (f (get_or row 0 false) inks.c) (op (f (get_or row 1 false) inks.m) (f (get_or row 2 false) inks.y))

-- rule 4.3: the product of an ink's value where it is held, and of what is left of it to full where it is not
unfoldable pub demichel_weight : List Bool → Inks → ℕ
demichel_weight row inks = over_inks ◌*◌ (λ held v. cond held v (full - v)) row inks

-- Rule 4.4, its last sentence: the least value held (full where none is) less the largest not held (0 where all are), and 0 where that is
-- negative. `KueppersWords` (Laws.antt) says the rule's other sentences of it, by the order of the values.
unfoldable pub kueppers_weight : List Bool → Inks → ℕ
kueppers_weight row inks =
    over_inks min (λ held v. cond held v full) row inks - over_inks max (λ held v. cond held 0 v) row inks

unfoldable pub weight : Separation → Inks → ℕ → ℕ
unfolding demichel_weight kueppers_weight
weight Demichel inks j = demichel_weight (row_of j) inks
weight Kueppers inks j = kueppers_weight (row_of j) inks

-- the eight weights in the order of the colorants' numbers
unfoldable pub weights_of : Separation → Inks → List ℕ
weights_of sep inks = upto (weight sep inks) 8

-- rules 4.3 and 4.4: the scale D
unfoldable pub scale_of : Separation → ℕ
scale_of Demichel = full * full * full
scale_of Kueppers = full
