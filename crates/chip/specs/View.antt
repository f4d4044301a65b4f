-- What one event can do to register, busy flag, wait and array, what a row of events leaves of a guarded chip, and the states that laws speak of.
--
-- | Name | Meaning |
-- |---|---|
-- | `is_sample`, `samples` | a sample of the wires; each of a row is one |
-- | `pin_high`, `pins_high` | the protect pin high in an event, and in each of a row |
-- | `is_stop`, `stops e c` | the edge is a STOP; the chip sees one in this event |
-- | `choices_of e` | the choices with which an event ends a cycle |
-- | `mute` | a note that says nothing of a write: 0, 4, 7 |
-- | `writes` | a note that says that a cycle of the array has begun: 1, 5 |
-- | `is_locks` | PPEN and BL wait |
-- | `open_to` | a sector that waits is not locked with the pin at this level |
-- | `Stopped` | an idle chip that sees a rightly placed STOP with a load |
-- | `Writable` | the sector of the counter is the array's and not locked |
-- | `Cycled` | a cycle that begins with a load for this sector |
-- | `Kept`, `Ended`, `Cleared`, `Changed`, `Stored`, `Spoilt` | what an event did, by what it left |
-- | `Did`, `DidBy` | the view of an event: one of the six |
-- | `Untouched` | the register, the busy flag, what waits and the array as they were |
-- | `Told` | what each note says |
-- | `SameMake` | part, select and spoil byte are as before |
-- | `Sound` | busy exactly where something waits, and no waiting sector is locked whatever the pin |
-- | `PinGuards` | PPEN is set, where there is a register to hold it |
-- | `Guarded`, `GuardedBy` | part, select, PPEN, BL and the locked bytes are as before, and nothing waits that would change them |
-- | `Touched` | what is known of a byte that an event changed |
-- | `SeesStart` | a chip that has just seen a START |
-- | `Shows` | a chip whose pull is on its line |
use Rattle.std.specs.Prelude.{ℕ, ◌*◌, ◌/◌, ◌%◌, ◌≤◌, Bool, true, false, not, ◌||◌, ◌≡◌, List, eqb, get_or}
use Rattle.parts.specs.Load.{no_load, full_of}
use Rattle.parts.specs.Locks.{locked}
use Rattle.parts.specs.Phase.{phase_pulls}
use Rattle.parts.specs.Register.{Written, has_register, written, with_pel, with_rpel}
use Rattle.parts.specs.Rows.{every}
use Rattle.parts.specs.Sector.{sector_start}
use Rattle.parts.specs.Wait.{no_wait, chosen, every_place, no_place, wait_for, waits}
use Rattle.parts.specs.declared.load.Load.{Load}
use Rattle.parts.specs.declared.phase.Phase.TheVariants.{Slave}
use Rattle.parts.specs.declared.register.Register.{Register}
use Rattle.parts.specs.declared.wait.Target.{Target}
use Rattle.parts.specs.declared.wait.Target.TheVariants.{None, Sector, Locks}
use Rattle.parts.specs.declared.wait.Wait.{Wait}
use Rattle.chip.specs.Chip.{cut_register, cut_array}
use Rattle.chip.specs.Event.{next, next_array, edge_in}
use Rattle.chip.specs.Part.{marked, partial}
use Rattle.chip.specs.Run.{World}
use Rattle.chip.specs.Stop.{rightly, sector_in, wait_or}
use Rattle.chip.specs.declared.chip.Chip.{Chip}
use Rattle.chip.specs.declared.wire.Edge.{Edge}
use Rattle.chip.specs.declared.wire.Edge.TheVariants.{Quiet, Start, Stop, Rise, Fall}
use Rattle.chip.specs.declared.wire.Event.{Event}
use Rattle.chip.specs.declared.wire.Event.TheVariants.{Sample, ProgramDone, PowerUp}

-- neither of the other events
unfoldable pub is_sample : Event → Bool
is_sample (Sample s) = true
is_sample ProgramDone = false
is_sample (PowerUp choices) = false

-- as a row is between two program-dones or power-ups
abbrev pub samples : List Event → Bool
samples es = every is_sample es

-- the protect pin in a sample; where there is no sample nothing asks it, and it counts as high
unfoldable pub pin_high : Event → Bool
pin_high (Sample s) = s.pin
pin_high ProgramDone = true
pin_high (PowerUp choices) = true

-- the pin high in every sample of a row
abbrev pub pins_high : List Event → Bool
pins_high es = every pin_high es

-- one of the five edges
unfoldable pub is_stop : Edge → Bool
is_stop Quiet = false
is_stop Start = false
is_stop Stop = true
is_stop Rise = false
is_stop Fall = false

-- a sample alone can be one
unfoldable pub stops : Event → Chip → Bool
stops (Sample s) c = is_stop (edge_in c s)
stops ProgramDone c = false
stops (PowerUp choices) c = false

-- U3, U7: a program-done chooses all, a power-up as it says; a sample ends no cycle
unfoldable pub choices_of : Event → ℕ
choices_of (Sample s) = no_place
choices_of ProgramDone = every_place
choices_of (PowerUp choices) = choices

-- 6 belongs to a register byte; 1, 2, 3 and 5 say that something was written
unfoldable pub mute : ℕ → Bool
mute note = eqb note 0 || eqb note 4 || eqb note 7

-- N1, N5: a store, or a spoil
unfoldable pub writes : ℕ → Bool
writes note = eqb note 1 || eqb note 5

-- a register byte waits
unfoldable pub is_locks : Target → Bool
is_locks None = false
is_locks (Sector k) = false
is_locks (Locks ppen bl) = true

-- S8: by the BL in force and a level of the pin
unfoldable pub open_to : ℕ → ℕ → Bool → Target → Bool
open_to part bl pin None = true
open_to part bl pin (Sector k) = not (locked part bl pin (k * 32))
open_to part bl pin (Locks ppen bl') = true

-- where alone a cycle can begin
pub record Stopped (e : Event) (c : Chip) : Type 0 where
  pub idle : c.busy ≡ false
  pub stop : stops e c ≡ true
  pub right : rightly c.phase ≡ true
  pub some : c.load.count ≡ 0 → ⊥

-- no register byte, no lock
pub record Writable (c : Chip) (pin : Bool) : Type 0 where
  pub unmarked : marked c.part c.mark ≡ false
  pub unlocked : locked c.part c.register.bl pin (sector_start c.counter) ≡ false

-- Most events change nothing of these, and the note says so
pub record Kept (c : Chip) (xs : List ℕ) (after : Register) (busy : Bool) (wait : Wait) (note : ℕ) (ys : List ℕ) : Type 0 where
  pub array : ys ≡ xs
  pub register : after ≡ c.register
  pub same : busy ≡ c.busy
  pub waiting : wait ≡ c.wait
  pub silent : mute note ≡ true

-- a program-done of a busy chip writes what waits and ends busy
pub record Ended (e : Event) (c : Chip) (xs : List ℕ) (after : Register) (busy : Bool) (wait : Wait) (note : ℕ) (ys : List ℕ) : Type 0 where
  pub event : e ≡ ProgramDone
  pub cycle : c.busy ≡ true
  pub array : ys ≡ cut_array every_place c xs
  pub register : after ≡ cut_register every_place c
  pub ended : busy ≡ false
  pub waiting : wait ≡ no_wait
  pub silent : note ≡ 0

-- a power-up writes of it what is chosen, clears PEL and RPEL and ends busy
pub record Cleared (e : Event) (c : Chip) (xs : List ℕ) (after : Register) (busy : Bool) (wait : Wait) (note : ℕ) (ys : List ℕ) : Type 0 where
  pub event : e ≡ PowerUp (choices_of e)
  pub array : ys ≡ cut_array (choices_of e) c xs
  pub register : after ≡ with_pel (with_rpel (cut_register (choices_of e) c) false) false
  pub ended : busy ≡ false
  pub waiting : wait ≡ no_wait
  pub silent : note ≡ 0

-- what the load's place 0 does as a register byte, with the pin of this sample
abbrev pub byte_written : Event → Chip → Written
byte_written e c = written c.register (get_or c.load.bytes 0 0) (pin_high e)

-- a register byte is written, and no byte of the array is
pub record Changed (e : Event) (c : Chip) (xs : List ℕ) (after : Register) (busy : Bool) (wait : Wait) (note : ℕ) (ys : List ℕ) : Type 0 where
  pub stopped : Stopped e c
  pub marks : marked c.part c.mark ≡ true
  pub array : ys ≡ xs
  pub register : after ≡ (byte_written e c).register
  pub began : busy ≡ waits (byte_written e c).target
  pub waiting : wait ≡ wait_or (byte_written e c).target c.wait
  pub said : note ≡ (byte_written e c).note

-- a cycle: a load waits for the counter's sector, which no lock forbids; the chip is busy, with RPEL 0, and no byte is written yet
pub record Cycled (e : Event) (c : Chip) (xs : List ℕ) (load : Load) (after : Register) (busy : Bool) (wait : Wait) (ys : List ℕ) : Type 0 where
  pub stopped : Stopped e c
  pub writable : Writable c (pin_high e)
  pub array : ys ≡ xs
  pub register : after ≡ with_rpel c.register false
  pub began : busy ≡ true
  pub waiting : wait ≡ wait_for (sector_in c) load

-- a store: the loaded places of the sector will take their bytes, note 1
pub record Stored (e : Event) (c : Chip) (xs : List ℕ) (after : Register) (busy : Bool) (wait : Wait) (note : ℕ) (ys : List ℕ) : Type 0 where
  pub whole : partial c.part c.load.count ≡ false
  pub cycle : Cycled e c xs c.load after busy wait ys
  pub said : note ≡ 1

-- a spoil: all 32 places of the sector will take the spoil byte, note 5
pub record Spoilt (e : Event) (c : Chip) (xs : List ℕ) (after : Register) (busy : Bool) (wait : Wait) (note : ℕ) (ys : List ℕ) : Type 0 where
  pub short : partial c.part c.load.count ≡ true
  pub cycle : Cycled e c xs (full_of c.spoil) after busy wait ys
  pub said : note ≡ 5

-- nothing else is ever done
pub data Did (e : Event) (c : Chip) (xs : List ℕ) (after : Register) (busy : Bool) (wait : Wait) (note : ℕ) (ys : List ℕ) : Type 0 where
  nothing : Kept c xs after busy wait note ys → Did e c xs after busy wait note ys
  finish : Ended e c xs after busy wait note ys → Did e c xs after busy wait note ys
  clear : Cleared e c xs after busy wait note ys → Did e c xs after busy wait note ys
  change : Changed e c xs after busy wait note ys → Did e c xs after busy wait note ys
  store : Stored e c xs after busy wait note ys → Did e c xs after busy wait note ys
  spoil : Spoilt e c xs after busy wait note ys → Did e c xs after busy wait note ys

-- what this event did to this chip and array
abbrev pub DidBy : Event → Chip → List ℕ → Type 0
DidBy e c xs = Did e c xs (next e c xs).chip.register (next e c xs).chip.busy (next e c xs).chip.wait (next e c xs).note (next_array e c xs)

-- nothing but the transfer went on
pub record Untouched (c : Chip) (xs : List ℕ) (after : Register) (busy : Bool) (wait : Wait) (ys : List ℕ) : Type 0 where
  pub array : ys ≡ xs
  pub register : after ≡ c.register
  pub same : busy ≡ c.busy
  pub waiting : wait ≡ c.wait

-- What each note says: 1 a store begins, 2 a cycle of the register, which PEL survives, 3 a latch written, 5 a spoil begins; 4, 6 and 7 that nothing is written
pub record Told (e : Event) (c : Chip) (xs : List ℕ) (after : Register) (busy : Bool) (wait : Wait) (note : ℕ) (ys : List ℕ) : Type 0 where
  pub one : note ≡ 1 → Stored e c xs after busy wait note ys
  pub two : note ≡ 2 → Changed e c xs after busy wait note ys × (after.rpel ≡ false) × (after.pel ≡ c.register.pel) × (busy ≡ true)
  pub three : note ≡ 3 → Changed e c xs after busy wait note ys × (busy ≡ false)
  pub five : note ≡ 5 → Spoilt e c xs after busy wait note ys
  pub more : 4 ≤ note → (note ≡ 5 → ⊥) → Untouched c xs after busy wait ys

-- what no event changes
abbrev pub SameMake : Chip → Chip → Type 0
SameMake before after = (after.part ≡ before.part) × (after.select ≡ before.select) × (after.spoil ≡ before.spoil)

-- C16, U9: on every run from power-up; a sector that the pin alone locks can wait in a cycle that began with the pin low
pub record Sound (part bl : ℕ) (busy : Bool) (target : Target) : Type 0 where
  pub cycle : busy ≡ waits target
  pub unlocked : open_to part bl false target ≡ true

-- of a chip
abbrev pub SoundChip : Chip → Type 0
SoundChip c = Sound c.part c.register.bl c.busy c.wait.target

-- S15: then no register byte is written while the pin is high
abbrev pub PinGuards : Chip → Type 0
PinGuards c = has_register c.part ≡ true → c.register.ppen ≡ true

-- What a row of events with the pin high leaves of a chip that the pin guards: part, select, PPEN, BL and every locked byte; and what then waits changes none of them
pub record Guarded (before : World) (part' select' : ℕ) (after : Register) (busy : Bool) (target : Target) (ys : List ℕ) : Type 0 where
  pub part : part' ≡ before.chip.part
  pub select : select' ≡ before.chip.select
  pub ppen : after.ppen ≡ before.chip.register.ppen
  pub bl : after.bl ≡ before.chip.register.bl
  pub unlocked : busy ≡ true → open_to before.chip.part before.chip.register.bl true target ≡ true
  pub unmarked : busy ≡ true → is_locks target ≡ false
  pub bytes : (a : ℕ) → locked before.chip.part before.chip.register.bl true a ≡ true → get_or ys a 0 ≡ get_or before.array a 0

-- a world is guarded since another
abbrev pub GuardedBy : World → World → Type 0
GuardedBy before w = Guarded before w.chip.part w.chip.select w.chip.register w.chip.busy w.chip.wait.target w.array

-- D8: a byte that an event changed lies in the sector that waits in a cycle, at a place that is loaded and chosen, and is what waits there
pub record Touched (e : Event) (c : Chip) (a byte : ℕ) : Type 0 where
  pub cycle : c.busy ≡ true
  pub sector : c.wait.target ≡ Sector (a / 32)
  pub place : get_or c.wait.places (a % 32) false ≡ true
  pub choice : chosen (choices_of e) (a % 32) ≡ true
  pub new : byte ≡ get_or c.wait.bytes (a % 32) 0

-- A chip that has just seen a START: no load, a slave byte to come, the clock still high and the line pulled
pub record SeesStart (c : Chip) : Type 0 where
  pub idle : c.busy ≡ false
  pub phase : c.phase ≡ Slave 0 0
  pub load : c.load ≡ no_load
  pub scl : c.scl ≡ true
  pub line : c.line ≡ false

-- A chip whose pull is on its line, as it is on every run from power-up (L8): in a phase that pulls it is not busy and its last line is low
abbrev pub Shows : Chip → Type 0
Shows c = phase_pulls c.phase ≡ true → (c.busy ≡ false) × (c.line ≡ false)
