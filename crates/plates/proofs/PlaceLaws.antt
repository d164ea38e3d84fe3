-- Where the rows of the planes stand.
-- Assumes nothing.
use Prim.Native.Nat.{ℕ, zero, suc, ◌+◌, ◌*◌, ◌/◌, ◌%◌, ◌≤◌, ◌<◌}
use mathlib.Core.Path.{◌≡◌}
use native.Mathlib.Nat.{mul-le-mul, mod-lt, div-lt_iff_lt-mul}
use native.Mathlib.Omega.{arith}
use lib.Arith.{digits_lt}
use Rattle.plates.specs.Planes.{row_bytes}

-- the bytes of row r end where those of the next begin, within n rows
pub row_ends : (n bytes r : ℕ) → r < n → r * bytes + bytes ≤ n * bytes
row_ends n bytes r k = omega (arith, mul-le-mul {n₁ = r + 1} {m₁ = bytes} {n₂ = n} {m₂ = bytes} (omega arith) (omega arith))

-- byte b of row y stands before the plane's end
pub place_in : (columns rows y b : ℕ) → y < rows → 8 * b < columns → y * row_bytes columns + b < rows * row_bytes columns
place_in columns rows y b row l = digits_lt row (omega arith)

-- a window on the sheet has planes of few enough bytes
pub planes_few : (columns rows : ℕ) → columns ≤ 65536 → rows ≤ 65536 → (bytes : ℕ) → bytes ≡ row_bytes columns → 8 * rows * bytes ≤ 8 * 65536 * 8192
planes_few columns rows h k bytes e = mul-le-mul {n₁ = 8 * rows} {m₁ = bytes} {n₂ = 8 * 65536} {m₂ = 8192} (omega arith) (omega arith)

-- place i of rows of so many columns is in one of the rows, at one of the columns
columns_some : (columns rows i : ℕ) → i < columns * rows → 0 < columns
columns_some zero rows i l = absurd (omega arith)
columns_some (suc columns) rows i l = omega arith

pub place_row : (columns rows i : ℕ) → i < columns * rows → i / columns < rows
place_row columns rows i l = (div-lt_iff_lt-mul {k = columns} (columns_some columns rows i l)).1 (omega arith)

pub place_column : (columns rows i : ℕ) → i < columns * rows → i % columns < columns
place_column columns rows i l = mod-lt i (columns_some columns rows i l)

-- row r of the planes is row r % rows of plane r / rows
pub plane_of : (rows r : ℕ) → r < 8 * rows → r / rows < 8
plane_of rows r l = (div-lt_iff_lt-mul {k = rows} (omega arith)).1 l

pub row_in_plane : (rows r : ℕ) → r < 8 * rows → r % rows < rows
row_in_plane rows r l = mod-lt r (omega arith)
