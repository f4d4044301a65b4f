-- Bytes in general: tests of each one, their sum, and sixteen bits as two of them. (RULES G2, G5-G7, F9, F14.)
--
-- | Name | Meaning |
-- |---|---|
-- | `each_byte` | a test holds of each byte of a list |
-- | `all` | each byte is the one given |
-- | `total` | the sum of a list of bytes |
-- | `pair` | sixteen bits from two bytes, high byte first |
-- | `bytes16` | sixteen bits as two bytes, high byte first |
use Rattle.std.specs.Prelude.{ℕ, ◌+◌, ◌*◌, ◌/◌, ◌%◌, Bool, true, ◌&&◌, List, [], ◌∷◌, eqb}

-- F9, F14: a test holds of each byte
abbrev pub each_byte : (ℕ → Bool) → List ℕ → Bool
each_byte test [] = true
each_byte test (b ∷ bytes) = test b && each_byte test bytes

-- G5, G7: all FFh, and padded with 20h
abbrev pub all : ℕ → List ℕ → Bool
all b bytes = each_byte (λ x. eqb x b) bytes

-- G6: the sum of bytes
abbrev pub total : List ℕ → ℕ
total [] = 0
total (b ∷ bytes) = b + total bytes

-- G2, G6: high byte first
abbrev pub pair : ℕ → ℕ → ℕ
pair high low = high * 0x100 + low

-- G2, G6: high byte first
abbrev pub bytes16 : ℕ → List ℕ
bytes16 u = u / 0x100 ∷ u % 0x100 ∷ []
