-- Event bytes and answer bytes. (RULES B1-B3.)
--
-- | Name | Meaning |
-- |---|---|
-- | `event_of byte` | the event of an event byte |
-- | `sample_byte scl sda pin` | the event byte of a sample |
-- | `is_event`, `all_events` | the byte is an event byte; every byte of a row is one |
-- | `answer_byte line note` | the answer byte of a line and a note |
-- | `answer_line byte`, `answer_note byte` | the line in an answer byte, and its note |
use Rattle.std.specs.Prelude.{ℕ, ◌+◌, ◌*◌, ◌/◌, ◌%◌, Bool, cond, List, eqb, leb}
use Rattle.parts.specs.Phase.{weight, bit_of}
use Rattle.parts.specs.Rows.{every}
use Rattle.parts.specs.Wait.{every_place, no_place, first_half}
use Rattle.chip.specs.Wire.{sample}
use Rattle.chip.specs.declared.wire.Event.{Event}
use Rattle.chip.specs.declared.wire.Event.TheVariants.{ProgramDone, PowerUp}

-- B1, B2: 8 is program-done; 9, 10 and 11 are power-ups that choose all places, none, and places 0 to 15; below, bit 0 is SCL, bit 1 SDA and bit 2 the pin of a
-- sample
unfoldable pub event_of : ℕ → Event
event_of byte =
    cond (eqb byte 8) ProgramDone
    (cond (eqb byte 9) (PowerUp every_place)
    (cond (eqb byte 10) (PowerUp no_place)
    (cond (eqb byte 11) (PowerUp first_half)
    (sample (bit_of byte 0) (bit_of byte 1) (bit_of byte 2)))))

-- B1, the other way
abbrev pub sample_byte : Bool → Bool → Bool → ℕ
sample_byte scl sda pin = weight scl 1 + weight sda 2 + weight pin 4

-- B2: none is above 11
abbrev pub is_event : ℕ → Bool
is_event byte = leb byte 11

abbrev pub all_events : List ℕ → Bool
all_events bytes = every is_event bytes

-- B3: bit 0 is the line, bits 1-3 are the note
abbrev pub answer_byte : Bool → ℕ → ℕ
answer_byte line note = weight line 1 + note % 8 * 2

abbrev pub answer_line : ℕ → Bool
answer_line byte = bit_of byte 0

abbrev pub answer_note : ℕ → ℕ
answer_note byte = byte / 2 % 8
