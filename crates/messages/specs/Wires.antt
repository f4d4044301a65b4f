-- The two wires as a master moves them, and the event bytes of it: every message of the kit is spelt through `spelled`. (RULES W1, W3, W9.)
--
-- | Name | Meaning |
-- |---|---|
-- | `Wires` | SCL and the master's SDA in a sample; the pin is not in it |
-- | `wires_of` | the wires of an event byte |
-- | `spelled pins wires` | the event bytes of wires, `pins k` the pin in the k-th sample |
-- | `played pins wires` | the events of these bytes |
-- | `heard_of pins wires w` | the line after each sample, as a trace of them answers it |
-- | `clock`, `clocks` | one clock: SCL low, then high, with one SDA in both; one for each level of SDA |
-- | `bits_of`, `byte_of` | the bits of a byte, most significant first; the byte that bits make, with what was received before |
use Rattle.std.specs.Prelude.{ℕ, suc, Bool, true, false, List, [], ◌∷◌, ◌++◌, map}
use Rattle.parts.specs.Phase.{received, bit_of}
use Rattle.chip.specs.Run.{World}
use Rattle.chip.specs.declared.wire.Event.{Event}
use Rattle.trace.specs.Bytes.{event_of, sample_byte, answer_line}
use Rattle.trace.specs.Trace.{answers_of}

-- SDA is the master's: true where it lets go
pub record Wires : Type 0 where
  pub scl : Bool
  pub sda : Bool

-- as the trace numbers them, the pin's bit passed over
abbrev pub wires_of : ℕ → Wires
wires_of byte = record { scl = bit_of byte 0; sda = bit_of byte 1 }

-- wires say nothing of the pin, so every level of it is allowed
unfoldable pub spelled : (ℕ → Bool) → List Wires → List ℕ
spelled pins [] = []
spelled pins (w ∷ rest) = sample_byte w.scl w.sda (pins 0) ∷ spelled (λ k. pins (suc k)) rest

-- as a trace of them is run
abbrev pub played : (ℕ → Bool) → List Wires → List Event
played pins wires = map event_of (spelled pins wires)

-- W9: bit 0 of each answer byte
abbrev pub heard_of : (ℕ → Bool) → List Wires → World → List Bool
heard_of pins wires w = map answer_line (answers_of (spelled pins wires) w)

-- W1: the level stands in both samples
abbrev pub clock : Bool → List Wires
clock sda = record { scl = false; sda = sda } ∷ record { scl = true; sda = sda } ∷ []

-- one after the other
unfoldable pub clocks : List Bool → List Wires
clocks [] = []
clocks (sda ∷ rest) = clock sda ++ clocks rest

-- bit 7 goes first
abbrev pub bits_of : ℕ → List Bool
bits_of byte = bit_of byte 7 ∷ bit_of byte 6 ∷ bit_of byte 5 ∷ bit_of byte 4 ∷ bit_of byte 3 ∷ bit_of byte 2 ∷ bit_of byte 1 ∷ bit_of byte 0 ∷ []

-- bit by bit, as a chip receives them
unfoldable pub byte_of : ℕ → List Bool → ℕ
byte_of got [] = got
byte_of got (bit ∷ rest) = byte_of (received got bit) rest
