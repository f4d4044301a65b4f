-- The chip: its fields set group by group, the ranges of its numbers, its pull, and how it is made. (RULES C1-C16, F2, F3, L1, U3, U4, U7, U8.)
--
-- | Name | Meaning |
-- |---|---|
-- | `with_transfer c phase counter mark load` | the chip elsewhere in its transfer |
-- | `with_cycle c register busy wait` | the chip with another register, busy flag and wait |
-- | `with_levels c scl line` | the chip with other last levels |
-- | `with_spoil c spoil` | the chip with another spoil byte |
-- | `chip_fits` | every number is in its range: else refusal 2 |
-- | `pulls` | the chip pulls the line |
-- | `at_power_up` | a chip as power-up leaves it |
-- | `cut_register`, `cut_array` | the register and the array where a cycle ends, or is cut off, with these choices |
-- | `power_up choices` | after a power-up with these choices |
-- | `new_chip`, `standard_chip` | new of a part and a select; the standard one |
-- | `Made`, `made` | what a new chip answers |
-- | `made_as` | what a new chip, or its refusal, stands for |
use Rattle.std.specs.Prelude.{ℕ, Bool, true, false, not, cond, ◌&&◌, List, leb, Result, Ok, Err}
use Rattle.parts.specs.Load.{no_load}
use Rattle.parts.specs.Phase.{phase_fits, phase_pulls}
use Rattle.parts.specs.Wait.{no_wait, target_fits, end_array, locks_taken}
use Rattle.parts.specs.declared.load.Load.{Load}
use Rattle.parts.specs.declared.phase.Phase.{Phase}
use Rattle.parts.specs.declared.phase.Phase.TheVariants.{Standby}
use Rattle.parts.specs.declared.register.Register.{Register}
use Rattle.parts.specs.declared.wait.Wait.{Wait}
use Rattle.chip.specs.declared.chip.Chip.{Chip}
use Rattle.refusals.specs.Refusals.{number_of}
use Rattle.refusals.specs.declared.Refusal.{Refusal}

-- C3, C4, C7, C9: what a transfer changes
abbrev pub with_transfer : Chip → Phase → ℕ → Bool → Load → Chip
with_transfer c phase counter mark load =
    record {
      part = c.part;
      select = c.select;
      register = c.register;
      counter = counter;
      mark = mark;
      busy = c.busy;
      scl = c.scl;
      line = c.line;
      phase = phase;
      load = load;
      spoil = c.spoil;
      wait = c.wait;
    }

-- C2, C5, C16: what a cycle changes
abbrev pub with_cycle : Chip → Register → Bool → Wait → Chip
with_cycle c register busy wait =
    record {
      part = c.part;
      select = c.select;
      register = register;
      counter = c.counter;
      mark = c.mark;
      busy = busy;
      scl = c.scl;
      line = c.line;
      phase = c.phase;
      load = c.load;
      spoil = c.spoil;
      wait = wait;
    }

-- C6: what a sample leaves in every case
abbrev pub with_levels : Chip → Bool → Bool → Chip
with_levels c scl line =
    record {
      part = c.part;
      select = c.select;
      register = c.register;
      counter = c.counter;
      mark = c.mark;
      busy = c.busy;
      scl = scl;
      line = line;
      phase = c.phase;
      load = c.load;
      spoil = c.spoil;
      wait = c.wait;
    }

-- C15: what nobody but its owner changes
abbrev pub with_spoil : Chip → ℕ → Chip
with_spoil c spoil =
    record {
      part = c.part;
      select = c.select;
      register = c.register;
      counter = c.counter;
      mark = c.mark;
      busy = c.busy;
      scl = c.scl;
      line = c.line;
      phase = c.phase;
      load = c.load;
      spoil = spoil;
      wait = c.wait;
    }

-- C1-C3, C7-C9, C16, F2: part 0-2, select 0-7, BL 0-3, counter 0-3FFFh, the phase's own where it carries them (reading), count 0-33, and the waiting sector or
-- BL where one is carried
unfoldable pub chip_fits : Chip → Bool
chip_fits c =
    leb c.part 2
    && leb c.select 7
    && leb c.register.bl 3
    && leb c.counter 0x3fff
    && phase_fits c.phase
    && leb c.load.count 33
    && target_fits c.wait.target

-- L1, U1: a busy chip pulls nowhere
unfoldable pub pulls : Chip → Bool
pulls c = not c.busy && phase_pulls c.phase

-- U4: PPEN, BL and the spoil byte outlive the supply; all else is cleared, with SCL low and the line high as the last levels, and nothing waits
abbrev pub at_power_up : ℕ → ℕ → Bool → ℕ → ℕ → Chip
at_power_up part select ppen bl spoil =
    record {
      part = part;
      select = select;
      register = record { ppen = ppen; bl = bl; rpel = false; pel = false };
      counter = 0x0000;
      mark = false;
      busy = false;
      scl = false;
      line = true;
      phase = Standby;
      load = no_load;
      spoil = spoil;
      wait = no_wait;
    }

-- U3, U7, U8: only a cycle that is in progress can be cut; its waiting PPEN and BL are taken by the choices
unfoldable pub cut_register : ℕ → Chip → Register
cut_register choices c = cond c.busy (locks_taken c.wait.target choices c.register) c.register

-- and so is its waiting sector
unfoldable pub cut_array : ℕ → Chip → List ℕ → List ℕ
cut_array choices c xs = cond c.busy (end_array c.wait choices xs) xs

-- U4, U7: the same chip after a power-up with these choices
abbrev pub power_up : ℕ → Chip → Chip
power_up choices c = at_power_up c.part c.select (cut_register choices c).ppen (cut_register choices c).bl c.spoil

-- C13, C15: PPEN clear, BL 0, spoil byte FFh
abbrev pub new_chip : ℕ → ℕ → Chip
new_chip part select = at_power_up part select false 0 0xff

-- C14: an X24F128, select 0
abbrev pub standard_chip : Chip
standard_chip = new_chip 1 0

-- O1: the number of the refusal, or 0, and a chip
pub record Made : Type 0 where
  pub refusal : ℕ
  pub chip : Chip

-- F3, O1: for a part above 2 or a select above 7 refusal 3, with the standard chip
unfoldable pub made : ℕ → ℕ → Made
made part select =
    cond (leb part 2 && leb select 7) (record { refusal = 0; chip = new_chip part select }) (record { refusal = 3; chip = standard_chip })

-- F3: a refusal stands for the standard chip, which C is given
abbrev pub made_as : Result Chip Refusal → Made
made_as (Ok chip) = record { refusal = 0; chip = chip }
made_as (Err refusal) = record { refusal = number_of refusal; chip = standard_chip }
