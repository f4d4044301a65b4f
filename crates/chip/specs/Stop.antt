-- What a STOP does to a chip that is not busy, by one of four effects. (RULES S1, S3-S9, S11, S12, S16, S18, N1, N4, N5.)
--
-- | Name | Meaning |
-- |---|---|
-- | `Effect` | all that a stop can do to the register, and all that it can let wait |
-- | `rightly` | a stop in this phase is rightly placed |
-- | `array_effect` | the ordered rules for an array load |
-- | `right_effect` | what a rightly placed stop does |
-- | `stop_effect` | what any stop does |
-- | `rested` | the chip in standby with an empty load |
-- | `sector_in` | the number of the counter's sector |
-- | `cycling` | the same, busy with a cycle of the array for which this load waits, and its note |
-- | `wait_or` | this waits, or what waited before |
-- | `effect_moved` | the chip and its note after an effect |
use Rattle.std.specs.Prelude.{ℕ, ◌/◌, Bool, true, false, cond, eqb, get_or}
use Rattle.parts.specs.Load.{no_load, full_of}
use Rattle.parts.specs.Locks.{locked}
use Rattle.parts.specs.Register.{Written, written, with_rpel}
use Rattle.parts.specs.Sector.{sector_start}
use Rattle.parts.specs.Wait.{alone, wait_for, waits}
use Rattle.parts.specs.declared.load.Load.{Load}
use Rattle.parts.specs.declared.register.Register.{Register}
use Rattle.parts.specs.declared.wait.Target.{Target}
use Rattle.parts.specs.declared.wait.Wait.{Wait}
use Rattle.parts.specs.declared.phase.Phase.{Phase}
use Rattle.parts.specs.declared.phase.Phase.TheVariants.{Standby, Slave, First, Second, Data, AckWrite, AckRead, AckFirst, AckByte, Sending, Waiting, Next}
use Rattle.chip.specs.Chip.{with_transfer, with_cycle}
use Rattle.chip.specs.Part.{marked, partial}
use Rattle.chip.specs.Transfer.{Moved, moved, empty_at, drop_note}
use Rattle.chip.specs.declared.chip.Chip.{Chip}

-- S5-S9, S12: nothing with this note; a register byte that was taken or not; a load waits; the spoil byte waits
pub data Effect : Type 0 where
  Nothing : ℕ → Effect
  Change : Written → Effect
  Store : Effect
  Spoil : Effect

-- S3: the clock rose once after the last acknowledge: one bit of a data byte has come, whatever the bit (reading)
unfoldable pub rightly : Phase → Bool
rightly Standby = false
rightly (Slave bits got) = false
rightly (First bits got) = false
rightly (Second high bits got) = false
rightly (Data bits got) = eqb bits 1
rightly AckWrite = false
rightly AckRead = false
rightly (AckFirst high) = false
rightly AckByte = false
rightly (Sending bit byte) = false
rightly Waiting = false
rightly Next = false

-- S8, S7, S9, in this order: 1. the sector is locked: note 4; 2. a partial load, which is none on an X24128 (reading: any 32 bytes are whole, wherever in the sector they began); 3. any other
unfoldable pub array_effect : Chip → Bool → Effect
array_effect c pin =
    cond (locked c.part c.register.bl pin (sector_start c.counter)) (Nothing 4)
    (cond (partial c.part c.load.count) Spoil
    Store)

-- S5, S6, S12, N0: with no data byte nothing; with the mark a register byte, which is the load's place 0 (reading); else an array load
unfoldable pub right_effect : Chip → Bool → Effect
right_effect c pin =
    cond (eqb c.load.count 0) (Nothing 0)
    (cond (marked c.part c.mark) (Change (written c.register (get_or c.load.bytes 0 0) pin))
    (array_effect c pin))

-- S3, S4: rightly placed, anywhere else. No case for a chip that pulls, to which none comes (L10)
unfoldable pub stop_effect : Chip → Bool → Effect
stop_effect c pin = cond (rightly c.phase) (right_effect c pin) (Nothing (drop_note c))

-- S1: a stop always leads here
abbrev pub rested : Chip → Register → ℕ → Bool → Bool → Wait → Chip
rested c register counter mark busy wait = with_transfer (with_cycle c register busy wait) Standby counter mark no_load

-- C11: the number of the counter's sector
abbrev pub sector_in : Chip → ℕ
sector_in c = c.counter / 32

-- S7, S9, S11, S18: a cycle of the array clears RPEL; what it will write waits for the counter's sector
abbrev pub cycling : Chip → Load → ℕ → Moved
cycling c load note = moved (rested c (with_rpel c.register false) c.counter c.mark true (wait_for (sector_in c) load)) note

-- S16, S18: PPEN and BL wait where a cycle begins; where none does, what a caller's chip carries there stays (reading)
abbrev pub wait_or : Target → Wait → Wait
wait_or target old = cond (waits target) (alone target) old

-- S12, S16, N1, N5: a register byte clears counter and mark; a store and a spoil begin a cycle, with the loaded places, or all 32 with the spoil byte. None of them writes
-- a byte of the array (U3)
unfoldable pub effect_moved : Effect → Chip → Moved
effect_moved (Nothing note) c = moved (empty_at c Standby) note
effect_moved (Change w) c = moved (rested c w.register 0x0000 false (waits w.target) (wait_or w.target c.wait)) w.note
effect_moved Store c = cycling c c.load 1
effect_moved Spoil c = cycling c (full_of c.spoil) 5
