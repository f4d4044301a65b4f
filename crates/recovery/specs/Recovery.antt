-- Freeing a hung bus. (RULES R1-R8, O2, O9, O10.)
--
-- | Name | Meaning |
-- |---|---|
-- | `pulse pin w` | after one pulse |
-- | `pulse_bytes pin`, `start_bytes pin` | a pulse and the start as event bytes |
-- | `Freed` | where the pulses ended, and the number of the last |
-- | `pulsed left k pin w`, `freed pin w` | pulses from number k on, `left` more allowed after it; from the first, ten at most |
-- | `recovered pin w` | after the pulses and the start |
-- | `Recovered` | the number of a refusal or 0, the chip, and how many pulses |
-- | `recovered_as told c` | what a recovery stands for that told this and left the chip c |
-- | `recovery_answer`, `recovery_array` | what recovery answers, and the array at its exit |
use Rattle.std.specs.Prelude.{ℕ, zero, suc, ◌+◌, Bool, true, false, cond, List, [], ◌∷◌, eqb, Result, Ok, Err}
use Rattle.refusals.specs.Refusals.{number_of}
use Rattle.refusals.specs.declared.Refusal.{Refusal}
use Rattle.chip.specs.Event.{refusal}
use Rattle.chip.specs.Run.{World, world, step}
use Rattle.chip.specs.Wire.{sample}
use Rattle.chip.specs.declared.chip.Chip.{Chip}
use Rattle.trace.specs.Bytes.{sample_byte}

-- R2: the clock low, then high, the data line let go in both
unfoldable pub pulse : Bool → World → World
pulse pin w = step (sample true true pin) (step (sample false true pin) w)

-- the same samples as event bytes
abbrev pub pulse_bytes : Bool → List ℕ
pulse_bytes pin = sample_byte false true pin ∷ sample_byte true true pin ∷ []

-- R5: and the start, SCL high and SDA pulled
abbrev pub start_bytes : Bool → List ℕ
start_bytes pin = sample_byte true false pin ∷ []

-- the world after the last pulse, and its number
pub record Freed : Type 0 where
  pub world : World
  pub pulses : ℕ

-- R3: a high line ends the pulses
unfoldable pub pulsed : ℕ → ℕ → Bool → World → Freed
pulsed zero k pin w = record { world = pulse pin w; pulses = k }
pulsed (suc left) k pin w =
    cond (pulse pin w).chip.line (record { world = pulse pin w; pulses = k }) (pulsed left (k + 1) pin (pulse pin w))

-- R4: ten at most
abbrev pub freed : Bool → World → Freed
freed pin w = pulsed 9 1 pin w

-- R5, R7: then the clock stays high and the data line is pulled: a start, which a busy chip ignores
unfoldable pub recovered : Bool → World → World
recovered pin w = step (sample true false pin) (freed pin w).world

-- R6, O9: the number of the refusal, or 0, the chip, and the number of the first pulse after which the line was high
pub record Recovered : Type 0 where
  pub refusal : ℕ
  pub chip : Chip
  pub pulses : ℕ

-- O9: as a caller has it who lent the chip; a refusal stands for 0 pulses
abbrev pub recovered_as : Result ℕ Refusal → Chip → Recovered
recovered_as (Ok pulses) c = record { refusal = 0; chip = c; pulses = pulses }
recovered_as (Err refusal) c = record { refusal = number_of refusal; chip = c; pulses = 0 }

-- R1, R6, O2, O9: refused with 1 or 2: the chip as given, 0 pulses
unfoldable pub recovery_answer : Bool → Chip → List ℕ → Recovered
recovery_answer pin c xs =
    cond (eqb (refusal c xs) 0)
    (record { refusal = 0; chip = (recovered pin (world c xs)).chip; pulses = (freed pin (world c xs)).pulses })
    (record { refusal = refusal c xs; chip = c; pulses = 0 })

-- O10: a refusal writes nothing
unfoldable pub recovery_array : Bool → Chip → List ℕ → List ℕ
recovery_array pin c xs = cond (eqb (refusal c xs) 0) (recovered pin (world c xs)).array xs
