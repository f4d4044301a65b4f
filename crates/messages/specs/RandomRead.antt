-- The random read as the master makes it, and what is heard of it on the line. (RULES W6-W9.)
--
-- | Name | Meaning |
-- |---|---|
-- | `restart` | the events 2, 3, 1 |
-- | `byte_taken`, `bytes_taken n` | the nine clocks of a byte that the master reads; of n bytes |
-- | `random_read select address n` | the random read of n bytes from an address |
-- | `AckAt`, `Acknowledged` | the line is low in the ninth clock of a byte; of the four bytes that the master sends |
-- | `highs`, `bits_in n` | the line in the high half of each clock; in the eight clocks of each of n bytes |
-- | `bits_read n`, `bytes_read n` | the bits of each byte read; the bytes that they make |
-- | `held xs address n` | the n bytes that an array holds from an address on, 3FFFh followed by 0000h |
-- | `Returns` | the read was acknowledged, and the line's bits were those of these bytes |
use Rattle.std.specs.Prelude.{ℕ, zero, suc, ◌+◌, ◌/◌, ◌%◌, Bool, true, false, not, List, [], ◌∷◌, ◌++◌, map, ◌≡◌, get_or, take, drop}
use Rattle.parts.specs.Sector.{next_address}
use Rattle.messages.specs.Messages.{byte_sent, slave_byte}
use Rattle.messages.specs.Wires.{Wires, wires_of, clock, clocks, bits_of, byte_of}

-- W6: the fall ends the last acknowledge, and with the clock high again SDA is pulled: a second START
abbrev pub restart : List Wires
restart = wires_of 2 ∷ wires_of 3 ∷ wires_of 1 ∷ []

-- W7: SDA is the chip's for eight bits; in the ninth the master pulls it to ask for another byte
unfoldable pub byte_taken : Bool → List Wires
byte_taken another = clocks (true ∷ true ∷ true ∷ true ∷ true ∷ true ∷ true ∷ true ∷ []) ++ clock (not another)

-- another is asked for after each but the last
unfoldable pub bytes_taken : ℕ → List Wires
bytes_taken zero = []
bytes_taken (suc zero) = byte_taken false
bytes_taken (suc (suc n)) = byte_taken true ++ bytes_taken (suc n)

-- W8: its START stands before it: the chip is told the address in writing, then addressed again for reading
unfoldable pub random_read : ℕ → ℕ → ℕ → List Wires
random_read select address n =
    byte_sent (slave_byte select false)
    ++ byte_sent (address / 256)
    ++ byte_sent (address % 256)
    ++ restart
    ++ byte_sent (slave_byte select true)
    ++ bytes_taken n

-- W9: the byte's first event is number `first`; the chip holds the line in both halves of its ninth clock
pub record AckAt (first : ℕ) (heard : List Bool) : Type 0 where
  pub low_half : get_or heard (first + 16) true ≡ false
  pub high_half : get_or heard (first + 17) true ≡ false

-- a byte takes 18 events, the restart three
pub record Acknowledged (heard : List Bool) : Type 0 where
  pub slave_write : AckAt 0 heard
  pub address_high : AckAt 18 heard
  pub address_low : AckAt 36 heard
  pub slave_read : AckAt 57 heard

-- the second of each two
unfoldable pub highs : List Bool → List Bool
highs [] = []
highs (low ∷ []) = []
highs (low ∷ high ∷ rest) = high ∷ highs rest

-- eight of every nine clocks
unfoldable pub bits_in : ℕ → List Bool → List (List Bool)
bits_in zero heard = []
bits_in (suc n) heard = highs (take 16 heard) ∷ bits_in n (drop 18 heard)

-- 75 events come first: four bytes sent, and the restart
abbrev pub bits_read : ℕ → List Bool → List (List Bool)
bits_read n heard = bits_in n (drop 75 heard)

-- as numbers
abbrev pub bytes_read : ℕ → List Bool → List ℕ
bytes_read n heard = map (byte_of 0) (bits_read n heard)

-- address after address, as the counter goes
unfoldable pub held : List ℕ → ℕ → ℕ → List ℕ
held xs address zero = []
held xs address (suc n) = get_or xs address 0 ∷ held xs (next_address address) n

-- nothing is asked of the ninth clocks in which the master answers
pub record Returns (n : ℕ) (heard : List Bool) (bytes : List ℕ) : Type 0 where
  pub acknowledged : Acknowledged heard
  pub bits : bits_read n heard ≡ map bits_of bytes
