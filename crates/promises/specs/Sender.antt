-- What the sender's events do to a chip, part by part: the chips that they are for, how such a chip ends, what it answers on the way, and what its
-- array holds then. (RULES A6-A9, A11, D5.)
--
-- | Name | Meaning |
-- |---|---|
-- | `Ready part select w` | a chip that the events are for |
-- | `shut_at gate c` | the gate's sector is locked |
-- | `register_ended c`, `ended gate c` | the register and the chip afterwards |
-- | `notes_with part note` | the notes of the events, this one at the last STOP |
-- | `Ends note` | how the events end: the chip, and the notes and acknowledges in their answers |
-- | `Wrote` | the sector holds the record, and every other byte is kept |
-- | `cut_after n choices` | what is left where the power is lost after n of the events |
-- | `OldOrNew`, `Cut` | a byte is the one that stood there or the one that came; each byte of the sector is, and every other byte is kept |
-- | `read_back pins select gate w` | the 32 bytes that a random read of the sector gives |
use Rattle.std.specs.Prelude.{ℕ, ◌+◌, ◌*◌, ◌<◌, Bool, true, false, cond, List, [], ◌∷◌, ◌++◌, map, ◌≡◌, length, get_or, take, drop, replicate}
use Rattle.parts.specs.Load.{no_load}
use Rattle.parts.specs.Locks.{locked}
use Rattle.parts.specs.Register.{has_register, with_pel, with_rpel}
use Rattle.parts.specs.Sector.{sector_start, sector_of}
use Rattle.parts.specs.Wait.{no_wait}
use Rattle.parts.specs.declared.phase.Phase.TheVariants.{Standby}
use Rattle.parts.specs.declared.register.Register.{Register}
use Rattle.chip.specs.Chip.{with_transfer, with_cycle, with_levels}
use Rattle.chip.specs.Run.{World, step}
use Rattle.chip.specs.declared.chip.Chip.{Chip}
use Rattle.chip.specs.declared.wire.Event.TheVariants.{PowerUp}
use Rattle.trace.specs.Bytes.{answer_line, answer_note}
use Rattle.trace.specs.Trace.{after}
use Rattle.sender.specs.Sending.{lead, sent_events}
use Rattle.messages.specs.Messages.{begin}
use Rattle.messages.specs.RandomRead.{AckAt, random_read, bytes_read}
use Rattle.messages.specs.Wires.{heard_of}

-- A6: a chip of this part, at the same select, idle in standby, as after a power-up, with RPEL 0 where there is a register, over a whole array (reading: with no load).
-- PEL, PPEN, BL, the counter, the mark and the last levels may be any
pub record Ready (part select : ℕ) (w : World) : Type 0 where
  pub fitted : w.chip.part ≡ part
  pub selected : w.chip.select ≡ select
  pub idle : w.chip.busy ≡ false
  pub standby : w.chip.phase ≡ Standby
  pub rpel : has_register w.chip.part ≡ true → w.chip.register.rpel ≡ false
  pub load : w.chip.load ≡ no_load
  pub whole : length w.array ≡ 16384

-- A7, A8: asked with the pin low
abbrev pub shut_at : ℕ → Chip → Bool
shut_at gate c = locked c.part c.register.bl false (gate * 32)

-- A9: PEL is set where there is a register, RPEL is clear
abbrev pub register_ended : Chip → Register
register_ended c = with_rpel (cond (has_register c.part) (with_pel c.register true) c.register) false

-- A9: idle in standby, part, select, PPEN and BL as they were, nothing waiting; the counter stands at the sector's start. Where the sector is locked no cycle begins, and
-- what a caller's chip says that waits stays
abbrev pub ended : ℕ → Chip → Chip
ended gate c =
    with_levels (with_transfer (with_cycle c (register_ended c) false (cond (shut_at gate c) c.wait no_wait)) Standby (gate * 32) false no_load) true true

-- A9: where PEL is set 3 at event 76; this note at the record's STOP, 0 at all others
abbrev pub notes_with : ℕ → ℕ → List ℕ
notes_with part note = cond (has_register part) (replicate 76 0 ++ (3 ∷ [])) [] ++ replicate 634 0 ++ (note ∷ 0 ∷ [])

-- A9: how the chip ends, the notes, and an acknowledge for each of the 4 bytes that set PEL and of the 35 of the record's message, which begins behind them
pub record Ends (note gate : ℕ) (w w' : World) (answers : List ℕ) : Type 0 where
  pub chip : w'.chip ≡ ended gate w.chip
  pub notes : map answer_note answers ≡ notes_with w.chip.part note
  pub setting : has_register w.chip.part ≡ true → (k : ℕ) → k < 4 → AckAt (2 + 18 * k) (map answer_line answers)
  pub writing : (k : ℕ) → k < 35 → AckAt (lead w.chip.part + 2 + 18 * k) (map answer_line answers)

-- A7, G1: the record of gate k lies in sector k; that sector then holds the record and every other byte is kept
pub record Wrote (gate : ℕ) (bytes xs ys : List ℕ) : Type 0 where
  pub sized : length ys ≡ length xs
  pub sector : sector_of gate ys ≡ bytes
  pub others : (a : ℕ) → (sector_start a ≡ gate * 32 → ⊥) → get_or ys a 0 ≡ get_or xs a 0

-- A11: a power-up with any choices after the first n of the events
abbrev pub cut_after : ℕ → ℕ → ℕ → ℕ → ℕ → List ℕ → World → World
cut_after n choices part select gate bytes w = step (PowerUp choices) (after (take n (sent_events part select gate bytes)) w)

-- byte by byte
pub data OldOrNew (old new byte : ℕ) : Type 0 where
  kept : byte ≡ old → OldOrNew old new byte
  taken : byte ≡ new → OldOrNew old new byte

-- A11: what is left of the array
pub record Cut (gate : ℕ) (bytes xs ys : List ℕ) : Type 0 where
  pub sized : length ys ≡ length xs
  pub sector : (k : ℕ) → k < 32 → OldOrNew (get_or xs (gate * 32 + k) 0) (get_or bytes k 0) (get_or ys (gate * 32 + k) 0)
  pub others : (a : ℕ) → (sector_start a ≡ gate * 32 → ⊥) → get_or ys a 0 ≡ get_or xs a 0

-- W8: a START, then the read; what is heard of the START's two events is no part of it
abbrev pub read_back : (ℕ → Bool) → ℕ → ℕ → World → List ℕ
read_back pins select gate w = bytes_read 32 (drop 2 (heard_of pins (begin ++ random_read select (gate * 32) 32) w))
