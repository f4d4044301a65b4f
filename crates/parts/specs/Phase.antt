-- Where a chip is in a transfer: what a phase carries, whether the chip pulls there, and what a clock rise makes of it.
-- (RULES C7, C8, L1, L7, T2, T20; the list of phases is a reading: docs/DECISIONS.md.)
--
-- | Name | Meaning |
-- |---|---|
-- | `weight on w` | w where a bit is set, else 0 |
-- | `received got bit` | what was received, with one bit more |
-- | `bit_of byte i` | bit i of a byte |
-- | `phase_fits` | bits received and the bit being sent are in their ranges |
-- | `phase_pulls` | a chip that is not busy pulls here |
-- | `risen phase bit` | the phase after a clock rise with this bit on the line |
use Rattle.std.specs.Prelude.{ℕ, ◌+◌, ◌*◌, ◌/◌, ◌%◌, ◌^◌, Bool, true, false, not, cond, leb, ltb, eqb}
use Rattle.parts.specs.declared.phase.Phase.{Phase}
use Rattle.parts.specs.declared.phase.Phase.TheVariants.{Standby, Slave, First, Second, Data, AckWrite, AckRead, AckFirst, AckByte, Sending, Waiting, Next}

-- what a bit counts in a byte
abbrev pub weight : Bool → ℕ → ℕ
weight on w = cond on w 0

-- T2: the most significant bit comes first; eight bits are kept (reading)
abbrev pub received : ℕ → Bool → ℕ
received got bit = (got * 2 + weight bit 1) % 256

-- bit 0 is the least significant; a bit being sent is 0-7
abbrev pub bit_of : ℕ → ℕ → Bool
bit_of byte bit = eqb (byte / 2 ^ (bit % 8) % 2) 1

-- C8: bits received are 0-8, the bit being sent is 0-7; nothing else in a phase has a range (reading)
unfoldable pub phase_fits : Phase → Bool
phase_fits Standby = true
phase_fits (Slave bits got) = leb bits 8
phase_fits (First bits got) = leb bits 8
phase_fits (Second high bits got) = leb bits 8
phase_fits (Data bits got) = leb bits 8
phase_fits AckWrite = true
phase_fits AckRead = true
phase_fits (AckFirst high) = true
phase_fits AckByte = true
phase_fits (Sending bit byte) = leb bit 7
phase_fits Waiting = true
phase_fits Next = true

-- L1: an acknowledge pulls, and so does a 0 that is being sent
unfoldable pub phase_pulls : Phase → Bool
phase_pulls Standby = false
phase_pulls (Slave bits got) = false
phase_pulls (First bits got) = false
phase_pulls (Second high bits got) = false
phase_pulls (Data bits got) = false
phase_pulls AckWrite = true
phase_pulls AckRead = true
phase_pulls (AckFirst high) = true
phase_pulls AckByte = true
phase_pulls (Sending bit byte) = not (bit_of byte bit)
phase_pulls Waiting = false
phase_pulls Next = false

-- T2, T20, L7: a byte that is coming takes the bit; after a sent byte the master's high bit means standby, its low
-- bit the next byte; a ninth bit and every other phase change nothing (house)
unfoldable pub risen : Phase → Bool → Phase
risen Standby bit = Standby
risen (Slave bits got) bit = cond (ltb bits 8) (Slave (bits + 1) (received got bit)) (Slave bits got)
risen (First bits got) bit = cond (ltb bits 8) (First (bits + 1) (received got bit)) (First bits got)
risen (Second high bits got) bit = cond (ltb bits 8) (Second high (bits + 1) (received got bit)) (Second high bits got)
risen (Data bits got) bit = cond (ltb bits 8) (Data (bits + 1) (received got bit)) (Data bits got)
risen AckWrite bit = AckWrite
risen AckRead bit = AckRead
risen (AckFirst high) bit = AckFirst high
risen AckByte bit = AckByte
risen (Sending i byte) bit = Sending i byte
risen Waiting bit = cond bit Standby Next
risen Next bit = Next
