-- How refusals combine (rule 11.2, in the order of rule 11.4), and what a refused call says and leaves (rule 11.3).
-- Assumes nothing: these are definitions.
use Rattle.std.specs.Prelude.{ℕ, Bool, cond, List, ◌++◌, length, drop, eqb, Result, Ok, Err}
use Rattle.arith.specs.declared.refusals.Refusal.{Refusal}
use Rattle.arith.specs.declared.refusals.Refusal.TheVariants.{Slope, CellCount, Subscreens, Offset, OffSheet, InputLength, OutputLength, Brick, Plates, Form, Primary, Price, Job, PrimariesLength, Stored}

-- a test that a call makes: its number where the test fails, and else what the later tests say
abbrev pub unless : Bool → ℕ → ℕ → ℕ
unless test number later = cond test later number

-- one call's refusal (0: not refused), and else what the later tests say
abbrev pub or_else : ℕ → ℕ → ℕ
or_else refusal later = cond (eqb refusal 0) later refusal

-- rule 11.3, a returned number: as it is where the call is not refused, and 0 where it is
abbrev pub answered : ℕ → ℕ → ℕ
answered refusal number = cond (eqb refusal 0) number 0

-- Rule 11.3, memory that is lent to a call, as the call leaves it: a run from the first place on and what stood after it; all as it
-- was where the call is refused.
abbrev pub written : ℕ → List ℕ → List ℕ → List ℕ
written refusal run memory = cond (eqb refusal 0) (run ++ drop (length run) memory) memory

-- the number of a refusal, by the rules named (11.5 to 11.19)
abbrev pub number : Refusal → ℕ
number Slope = 1
number CellCount = 2
number Subscreens = 3
number Offset = 4
number OffSheet = 5
number InputLength = 6
number OutputLength = 7
number Brick = 8
number Plates = 9
number Form = 10
number Primary = 11
number Price = 12
number Job = 13
number PrimariesLength = 14
number Stored = 15

-- the number of what a call answers: 0 where it is served, and else its refusal's
abbrev pub number_of : {T : Type 0} → Result T Refusal → ℕ
number_of (Ok answer) = 0
number_of (Err refusal) = number refusal
