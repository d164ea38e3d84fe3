-- Rule 10.2: the text's lines and their fields.
-- Assumes nothing: these are definitions.
use Rattle.std.specs.Prelude.{ℕ, zero, suc, ◌≡◌, Bool, true, false, cond, ◌&&◌, List, [], ◌∷◌, ◌++◌, eqb, length, get_or, drop}

-- the bytes that end a line and part two fields
abbrev pub newline : ℕ
newline = 10

abbrev pub tab : ℕ
tab = 9

-- a byte put in front of the first piece
abbrev pub prepend : ℕ → List (List ℕ) → List (List ℕ)
prepend x [] = (x ∷ []) ∷ []
prepend x (piece ∷ pieces) = (x ∷ piece) ∷ pieces

-- The pieces of a text between the places where a byte stands: one more than there are such places, so that the last piece is
-- what follows the last of them.
unfoldable pub split : ℕ → List ℕ → List (List ℕ)
split byte [] = [] ∷ []
split byte (x ∷ text) = let pieces = split byte text in cond (eqb x byte) ([] ∷ pieces) (prepend x pieces)

-- the first place where a byte stands, or the text's length
unfoldable pub index_of : ℕ → List ℕ → ℕ
index_of byte [] = 0
index_of byte (x ∷ text) = cond (eqb x byte) 0 (suc (index_of byte text))

-- The lines of a text: each piece but the last is ended by its byte 10, and the last is what no byte 10 ends.
abbrev pub lines : List ℕ → List (List ℕ)
lines text = split newline text

abbrev pub fields : List ℕ → List (List ℕ)
fields line = split tab line

-- line i of a text, and field i of a line, both counted from 0
abbrev pub line_at : List ℕ → ℕ → List ℕ
line_at text i = get_or (lines text) i []

abbrev pub field_at : List ℕ → ℕ → List ℕ
field_at line i = get_or (fields line) i []

-- whether two runs of bytes are the same
unfoldable pub same : List ℕ → List ℕ → Bool
same [] [] = true
same [] (y ∷ ys) = false
same (x ∷ xs) [] = false
same (x ∷ xs) (y ∷ ys) = eqb x y && same xs ys

-- the runs of the first n numbers one after the other
unfoldable pub joined : ℕ → (ℕ → List ℕ) → List ℕ
joined zero run = []
joined (suc n) run = joined n run ++ run n

-- What a call wrote to lent memory: the run stands at its beginning, what stood after it is as it was, and r is how long it is.
pub record Wrote (run before after : List ℕ) (r : ℕ) : Type 0 where
  pub many : r ≡ length run
  pub memory : after ≡ run ++ drop r before
