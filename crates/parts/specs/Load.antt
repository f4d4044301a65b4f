-- The load: what comes in for a sector. (RULES C9, C10, T13, S7.)
--
-- | Name | Meaning |
-- |---|---|
-- | `no_load` | the empty load |
-- | `whole bytes`, `full_of byte` | a load of these 32 bytes, from the sector's start on; of 32 times the same |
-- | `counted n` | the count after one byte more |
-- | `loaded load at byte` | the load with a byte more, at the place of an address |
use Rattle.std.specs.Prelude.{ℕ, ◌+◌, ◌%◌, true, false, cond, List, ltb, set, replicate}
use Rattle.parts.specs.declared.load.Load.{Load}

-- C10: zeros, no place loaded, count 0 (reading: after a START and a STOP in every case)
abbrev pub no_load : Load
no_load = record { bytes = replicate 32 0; places = replicate 32 false; count = 0 }

-- C9: every place is loaded
abbrev pub whole : List ℕ → Load
whole bytes = record { bytes = bytes; places = replicate 32 true; count = 32 }

-- S7: with the one byte
abbrev pub full_of : ℕ → Load
full_of byte = whole (replicate 32 byte)

-- C9: 33 stands for 33 or more
abbrev pub counted : ℕ → ℕ
counted count = cond (ltb count 33) (count + 1) 33

-- T13: the place is the low five bits of the address
unfoldable pub loaded : Load → ℕ → ℕ → Load
loaded load at byte =
    record { bytes = set load.bytes (at % 32) byte; places = set load.places (at % 32) true; count = counted load.count }
