-- Rule 8.3: the bit mask of a pixel.
-- Assumes nothing: these are definitions.
use Rattle.std.specs.Prelude.{ℕ, zero, suc, ◌/◌, ◌%◌}

-- a number divided by 2 so many times
unfoldable pub halved : ℕ → ℕ → ℕ
halved n zero = n
halved n (suc times) = halved n times / 2

-- 128, halved x mod 8 times
unfoldable pub mask : ℕ → ℕ
unfolding halved
mask x = halved 128 (x % 8)

-- the bit of pixel x in its byte, 0 or 1
abbrev pub bit : ℕ → ℕ → ℕ
bit byte x = byte / mask x % 2
