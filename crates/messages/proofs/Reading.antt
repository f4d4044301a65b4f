-- Bytes that the master reads, clock by clock: the line holds the bits of the array's bytes, one address after the other. Assumes nothing.
use Prim.Native.Nat.{ℕ, zero, suc}
use mathlib.Core.Bool.{Bool, true, false, cond, not, ◌&&◌}
use mathlib.Core.List.{List, [], ◌∷◌, ◌++◌, map}
use mathlib.Core.Path.{◌≡◌, refl, ap}
use lib.ListN.{length, get_or}
use Rattle.parts.specs.Phase.{bit_of, risen, phase_pulls}
use Rattle.parts.specs.Sector.{next_address}
use Rattle.parts.specs.declared.load.Load.{Load}
use Rattle.parts.specs.declared.phase.Phase.{Phase}
use Rattle.parts.specs.declared.phase.Phase.TheVariants.{Standby, AckRead, Sending, Next}
use Rattle.parts.specs.Rows.{stepped}
use Rattle.chip.specs.Chip.{pulls}
use Rattle.chip.specs.Event.{next, next_array, sampled, judged, reacted}
use Rattle.chip.specs.Run.{World, step, note_of, lines, notes}
use Rattle.chip.specs.Transfer.{fall_in, byte_begun, byte_ended}
use Rattle.chip.specs.Wire.{edge_of}
use Rattle.chip.specs.declared.chip.Chip.{Chip}
use Rattle.messages.specs.RandomRead.{byte_taken, bytes_taken, held, highs, bits_in}
use Rattle.messages.specs.Wires.{clock, clocks, bits_of}
use Rattle.messages.proofs.Telling.{pinned, silent, Says, then}
use Rattle.messages.proofs.Sending.{idle, twice}

-- the two phases from which a byte begins: the acknowledge of a slave byte with read, and the master's low bit
data Begins : Type 0 where
  read on : Begins

-- the phase of each
abbrev from : Begins → Phase
from read = AckRead
from on = Next

-- what is heard of a byte: its bits, and the master's SDA in the ninth clock
heard_byte : ℕ → Bool → List Bool
heard_byte byte another = twice (bits_of byte) ++ twice (not another ∷ [])

-- what is heard of a row of bytes
pub heard_bytes : List ℕ → List Bool
heard_bytes [] = []
heard_bytes (byte ∷ []) = heard_byte byte false
heard_bytes (byte ∷ next ∷ rest) = heard_byte byte true ++ heard_bytes (next ∷ rest)

-- the counter after n bytes
risen_by : ℕ → ℕ → ℕ
risen_by zero counter = counter
risen_by (suc n) counter = risen_by n (next_address counter)

module _ (c : Chip) (xs : List ℕ) (load : Load) where
  -- an idle chip without the mark
  abbrev reads : ℕ → Bool → Phase → World
  reads counter line phase = idle c xs counter false load line phase

  -- a clock in which the chip sends a bit
  bit_sent : (u : World) (counter : ℕ) (phase : Phase) (bit : Bool)
      → Says u (clock true) (twice ((not (not bit) && true) ∷ [])) (reads counter (not (not bit) && true) phase)
      → Says u (clock true) (twice (bit ∷ [])) (reads counter bit phase)
  bit_sent u counter phase true s = s
  bit_sent u counter phase false s = s

  -- the first clock brings bit 7 of the byte at the counter
  bit_first : (begins : Begins) (counter : ℕ)
      → Says (reads counter false (from begins)) (clock true) (twice (bit_of (get_or xs counter 0) 7 ∷ [])) (reads counter (bit_of (get_or xs counter 0) 7) (Sending 7 (get_or xs counter 0)))
  unfolding twice stepped lines notes note_of silent step next next_array sampled judged reacted edge_of pulls phase_pulls risen fall_in byte_begun pinned
  bit_first read counter = bit_sent (reads counter false AckRead) counter (Sending 7 (get_or xs counter 0)) (bit_of (get_or xs counter 0) 7) (record { plays = λ pins. record { ends = refl; hears = refl; tells = refl } })
  bit_first on counter = bit_sent (reads counter false Next) counter (Sending 7 (get_or xs counter 0)) (bit_of (get_or xs counter 0) 7) (record { plays = λ pins. record { ends = refl; hears = refl; tells = refl } })

  -- each of the next ones the next bit
  bit_next : (counter : ℕ) (line : Bool) (i byte : ℕ)
      → Says (reads counter line (Sending (suc i) byte)) (clock true) (twice (bit_of byte i ∷ [])) (reads counter (bit_of byte i) (Sending i byte))
  unfolding twice stepped lines notes note_of silent step next next_array sampled judged reacted edge_of pulls phase_pulls risen fall_in pinned
  bit_next counter line i byte = bit_sent (reads counter line (Sending (suc i) byte)) counter (Sending i byte) (bit_of byte i) (record { plays = λ pins. record { ends = refl; hears = refl; tells = refl } })

  -- in the ninth the chip lets go and the counter rises: pulled, the next byte follows; let go, standby
  ninth : (counter : ℕ) (line another : Bool) (byte : ℕ)
      → Says (reads counter line (Sending zero byte)) (clock (not another)) (twice (not another ∷ [])) (reads (next_address counter) (not another) (cond another Next Standby))
  unfolding twice stepped lines notes note_of silent step next next_array sampled judged reacted edge_of pulls phase_pulls risen fall_in byte_ended pinned
  ninth counter line true byte = record { plays = λ pins. record { ends = refl; hears = refl; tells = refl } }
  ninth counter line false byte = record { plays = λ pins. record { ends = refl; hears = refl; tells = refl } }

  -- a byte
  byte_heard : (begins : Begins) (counter : ℕ) (another : Bool)
      → Says (reads counter false (from begins)) (byte_taken another) (heard_byte (get_or xs counter 0) another) (reads (next_address counter) (not another) (cond another Next Standby))
  unfolding twice clocks byte_taken heard_byte
  byte_heard begins counter another =
      let byte : ℕ = get_or xs counter 0 in
      then
      (then (bit_first begins counter)
      (then (bit_next counter (bit_of byte 7) 6 byte)
      (then (bit_next counter (bit_of byte 6) 5 byte)
      (then (bit_next counter (bit_of byte 5) 4 byte)
      (then (bit_next counter (bit_of byte 4) 3 byte)
      (then (bit_next counter (bit_of byte 3) 2 byte)
      (then (bit_next counter (bit_of byte 2) 1 byte)
      (bit_next counter (bit_of byte 1) 0 byte))))))))
      (ninth counter (bit_of byte 0) another byte)

  -- one byte or more, one after the other
  bytes_heard : (n : ℕ) (begins : Begins) (counter : ℕ)
      → Says (reads counter false (from begins)) (bytes_taken (suc n)) (heard_bytes (held xs counter (suc n))) (reads (risen_by (suc n) counter) true Standby)
  unfolding bytes_taken heard_bytes held risen_by
  bytes_heard zero begins counter = byte_heard begins counter false
  bytes_heard (suc n) begins counter = then (byte_heard begins counter true) (bytes_heard n on (next_address counter))

  -- after the acknowledge of a slave byte with read, any number of bytes
  pub bytes_read_law : (n counter : ℕ) (pins : ℕ → Bool) → lines (pinned pins (bytes_taken n)) (reads counter false AckRead) ≡ heard_bytes (held xs counter n)
  unfolding bytes_taken heard_bytes held lines pinned
  bytes_read_law zero counter pins = refl
  bytes_read_law (suc n) counter pins = ((bytes_heard n read counter).plays pins).hears

-- the bits in what is heard are those of the bytes
pub bits_heard : (bytes : List ℕ) → bits_in (length bytes) (heard_bytes bytes) ≡ map bits_of bytes
unfolding bits_in heard_bytes heard_byte twice highs
bits_heard [] = refl
bits_heard (byte ∷ []) = refl
bits_heard (byte ∷ next ∷ rest) = ap (λ (l : List (List Bool)). bits_of byte ∷ l) (bits_heard (next ∷ rest))
