-- Transfers: what a START, a clock rise and a clock fall do to a chip that is not busy. (RULES T1-T23.)
--
-- | Name | Meaning |
-- |---|---|
-- | `Moved` | the next chip, and the note of what made it |
-- | `moved c note`, `quiet c` | the next chip with its note; with note 0 |
-- | `at_phase`, `empty_at` | the chip in another phase, alone or with its load dropped |
-- | `drop_note` | note 7 where a load of a byte or more is dropped |
-- | `started` | after a START |
-- | `addressed`, `slave_taken` | a slave byte is this chip's; what it leads to |
-- | `address_taken` | what the second address byte leads to |
-- | `array_data`, `register_data` | what a data byte does, without the mark and with it |
-- | `next_byte`, `byte_begun`, `byte_ended` | the byte that a read sends; its first bit; its end |
-- | `fall_in phase`, `fell` | what a clock fall does in a phase; in the chip's own |
use Rattle.std.specs.Prelude.{ℕ, zero, suc, ◌+◌, ◌*◌, ◌/◌, ◌%◌, Bool, true, false, cond, ◌&&◌, List, eqb, get_or}
use Rattle.parts.specs.Load.{no_load, loaded}
use Rattle.parts.specs.Register.{register_byte}
use Rattle.parts.specs.Sector.{next_place, next_address}
use Rattle.parts.specs.declared.phase.Phase.{Phase}
use Rattle.parts.specs.declared.phase.Phase.TheVariants.{Standby, Slave, First, Second, Data, AckWrite, AckRead, AckFirst, AckByte, Sending, Waiting, Next}
use Rattle.chip.specs.Chip.{with_transfer}
use Rattle.chip.specs.Part.{selects, marked, enabled}
use Rattle.chip.specs.declared.chip.Chip.{Chip}

-- E2: the next chip, and the note of what made it
pub record Moved : Type 0 where
  pub chip : Chip
  pub note : ℕ

-- the next chip and its note
abbrev pub moved : Chip → ℕ → Moved
moved c note = record { chip = c; note = note }

abbrev pub quiet : Chip → Moved
quiet c = moved c 0

-- the phase alone
abbrev pub at_phase : Chip → Phase → Chip
at_phase c phase = with_transfer c phase c.counter c.mark c.load

-- the phase, and the load empty
abbrev pub empty_at : Chip → Phase → Chip
empty_at c phase = with_transfer c phase c.counter c.mark no_load

-- N7, C10: it speaks of a load of one byte or more (reading)
abbrev pub drop_note : Chip → ℕ
drop_note c = cond (eqb c.load.count 0) 0 7

-- T1: the load is dropped and a slave byte comes
abbrev pub started : Chip → Moved
started c = moved (empty_at c (Slave 0 0)) (drop_note c)

-- T5: bits 7-4 are 1010 and bits 3-1 the select (house)
abbrev pub addressed : ℕ → ℕ → Bool
addressed select byte = eqb (byte / 16) 0b1010 && eqb (byte / 2 % 8) select

-- T6, T7: bit 0 is R/W; a byte for another chip is not acknowledged and leads to standby; the counter and the mark stay (reading)
unfoldable pub slave_taken : Chip → ℕ → Chip
slave_taken c byte = at_phase c (cond (addressed c.select byte) (cond (eqb (byte % 2) 0) AckWrite AckRead) Standby)

-- T10, T11: the register's address marks the register and leaves the counter (reading); any other address is cut to 14 bits (house) and clears the mark
unfoldable pub address_taken : Chip → ℕ → Chip
address_taken c address =
    cond (selects c.part address)
    (with_transfer c AckByte c.counter true c.load)
    (with_transfer c AckByte (address % 0x4000) false c.load)

-- T12-T14: refused where PEL is asked and clear, any load left as it is (reading); else it joins the load and the counter goes on within its sector
unfoldable pub array_data : Chip → ℕ → Moved
array_data c byte =
    quiet
    (cond (enabled c.part c.register.pel)
    (with_transfer c AckByte (next_place c.counter) c.mark (loaded c.load c.counter byte))
    (at_phase c Standby))

-- T15, T16: one register byte is kept, PEL not asked (reading); a second drops it with note 7 (house)
unfoldable pub register_data : Chip → ℕ → Moved
register_data c byte =
    cond (eqb c.load.count 0)
    (quiet (with_transfer c AckByte c.counter c.mark (loaded c.load 0 byte)))
    (moved (empty_at c Standby) 7)

-- T17: the array's byte at the counter; with the mark, which decides at each byte (reading), the register
abbrev pub next_byte : Chip → List ℕ → ℕ
next_byte c xs = cond (marked c.part c.mark) (register_byte c.register) (get_or xs c.counter 0)

-- its bit 7 is sent first
unfoldable pub byte_begun : Chip → List ℕ → Chip
byte_begun c xs = at_phase c (Sending 7 (next_byte c xs))

-- T19, T22, T23: the chip lets go and the counter rises; the register is sent once, and then counter and mark are cleared
unfoldable pub byte_ended : Chip → Chip
byte_ended c =
    cond (marked c.part c.mark)
    (with_transfer c Standby 0x0000 false c.load)
    (with_transfer c Waiting (next_address c.counter) c.mark c.load)

-- T3-T20: a byte is taken when its eight bits are there; an acknowledge ends; a byte is sent bit by bit; elsewhere nothing (house)
unfoldable pub fall_in : Phase → Chip → List ℕ → Moved
fall_in Standby c xs = quiet c
fall_in (Slave bits got) c xs = quiet (cond (eqb bits 8) (slave_taken c got) c)
fall_in (First bits got) c xs = quiet (cond (eqb bits 8) (at_phase c (AckFirst got)) c)
fall_in (Second high bits got) c xs = quiet (cond (eqb bits 8) (address_taken c (high * 256 + got)) c)
fall_in (Data bits got) c xs = cond (eqb bits 8) (cond (marked c.part c.mark) (register_data c got) (array_data c got)) (quiet c)
fall_in AckWrite c xs = quiet (at_phase c (First 0 0))
fall_in AckRead c xs = quiet (byte_begun c xs)
fall_in (AckFirst high) c xs = quiet (at_phase c (Second high 0 0))
fall_in AckByte c xs = quiet (at_phase c (Data 0 0))
fall_in (Sending zero byte) c xs = quiet (byte_ended c)
fall_in (Sending (suc bit) byte) c xs = quiet (at_phase c (Sending bit byte))
fall_in Waiting c xs = quiet c
fall_in Next c xs = quiet (byte_begun c xs)

-- in the phase where the chip is
abbrev pub fell : Chip → List ℕ → Moved
fell c xs = fall_in c.phase c xs
