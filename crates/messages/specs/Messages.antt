-- What a master sends from START to STOP. (RULES W2-W5.)
--
-- | Name | Meaning |
-- |---|---|
-- | `begin`, `end` | the events 3, 1 and 0, 1, 3: a START, and a rightly placed STOP |
-- | `byte_sent`, `bytes_sent` | a byte that the master sends, in nine clocks; a row of them |
-- | `slave_byte` | 1010, the select, read or write |
-- | `message_bytes select address bytes` | slave byte with write, two address bytes, data bytes |
-- | `message select address bytes` | START, these bytes, STOP |
-- | `register_write select byte` | the same with one byte at the register's address |
use Rattle.std.specs.Prelude.{ℕ, ◌+◌, ◌*◌, ◌/◌, ◌%◌, Bool, true, false, List, [], ◌∷◌, ◌++◌}
use Rattle.parts.specs.Phase.{weight}
use Rattle.messages.specs.Wires.{Wires, wires_of, clock, clocks, bits_of}

-- W2: both lines high, then SDA pulled
abbrev pub begin : List Wires
begin = wires_of 3 ∷ wires_of 1 ∷ []

-- W4: the fall ends the acknowledge, the clock must rise before a STOP, SDA let go
abbrev pub end : List Wires
end = wires_of 0 ∷ wires_of 1 ∷ wires_of 3 ∷ []

-- W3: eight bits, then a clock that leaves SDA to the chip
unfoldable pub byte_sent : ℕ → List Wires
byte_sent byte = clocks (bits_of byte) ++ clock true

-- one after the other
abbrev pub bytes_sent : List ℕ → List Wires
bytes_sent [] = []
bytes_sent (byte ∷ bytes) = byte_sent byte ++ bytes_sent bytes

-- T5, T6: bits 3-1 are the select (house), the lowest bit is 1 for reading
abbrev pub slave_byte : ℕ → Bool → ℕ
slave_byte select reads = 0b1010 * 16 + select * 2 + weight reads 1

-- W5: the address high byte first
abbrev pub message_bytes : ℕ → ℕ → List ℕ → List ℕ
message_bytes select address bytes = slave_byte select false ∷ address / 256 ∷ address % 256 ∷ bytes

abbrev pub message : ℕ → ℕ → List ℕ → List Wires
message select address bytes = begin ++ bytes_sent (message_bytes select address bytes) ++ end

-- T10: the address FFFFh is the register's
abbrev pub register_write : ℕ → ℕ → List Wires
register_write select byte = message select 0xffff (byte ∷ [])
