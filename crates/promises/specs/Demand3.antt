-- Demand 3 of the workshop, part by part: the chip that it takes, what comes to that chip, and what it promises. (RULES D3.)
--
-- | Name | Meaning |
-- |---|---|
-- | `FromPowerUp` | a chip run from power-up |
-- | `Scene` | what comes to a chip: the noise, the pin levels, the read; all of it is arbitrary |
-- | `noisy`, `done` | a chip and its array after the noise; after one program-done more |
-- | `free`, `at_start` | pulsed until the line is high; with the start made there |
-- | `the_read`, `heard` | the event bytes of the random read; the line after each, as a trace answers it |
-- | `Protected` | what the sentence takes of the chip and the scene |
-- | `Promised` | what it promises of them |
use Rattle.std.specs.Prelude.{ℕ, ◌+◌, ◌%◌, ◌≤◌, ◌<◌, Bool, true, false, List, ◌++◌, map, ◌≡◌, length, drop}
use Rattle.parts.specs.Locks.{locked}
use Rattle.parts.specs.Register.{has_register}
use Rattle.parts.specs.Sector.{Bytes}
use Rattle.chip.specs.Chip.{at_power_up}
use Rattle.chip.specs.Run.{World, world, step, ran}
use Rattle.chip.specs.View.{pins_high, SeesStart}
use Rattle.chip.specs.declared.wire.Event.{Event}
use Rattle.chip.specs.declared.wire.Event.TheVariants.{ProgramDone}
use Rattle.recovery.specs.Pulses.{FirstHigh, Unchanged}
use Rattle.recovery.specs.Recovery.{Freed, freed, recovered, recovery_answer, recovery_array}
use Rattle.trace.specs.Trace.{answers_of, ran_of, run_answers}
use Rattle.messages.specs.RandomRead.{random_read, Acknowledged, bits_read, bytes_read, held}
use Rattle.messages.specs.Wires.{spelled, heard_of, bits_of}

-- a chip of any part as power-up leaves it, with any select, PPEN, BL and spoil byte, any array of 16,384 bytes, and whatever events came since
pub record FromPowerUp (w : World) : Type 0 where
  pub part : ℕ
  pub select : ℕ
  pub ppen : Bool
  pub bl : ℕ
  pub spoil : ℕ
  pub array : List ℕ
  pub run : List Event
  pub part_in : part ≤ 2
  pub select_in : select ≤ 7
  pub bl_in : bl ≤ 3
  pub spoil_in : spoil < 0x100
  pub array_whole : length array ≡ 16384
  pub array_bytes : Bytes array
  pub after_run : w ≡ ran run (world (at_power_up part select ppen bl spoil) array)

-- none of it is bound to the chip
pub record Scene : Type 0 where
  pub noise : List Event
  -- the pin in the recovery, and in each sample of the read
  pub pin : Bool
  pub pins : ℕ → Bool
  -- where the read begins, and how many bytes it takes
  pub address : ℕ
  pub n : ℕ

-- any events
abbrev pub noisy : Scene → World → World
noisy s w = ran s.noise w

-- a cycle that the noise began is over
abbrev pub done : Scene → World → World
done s w = step ProgramDone (noisy s w)

-- clock pulses with the data line let go
abbrev pub free : Scene → World → Freed
free s w = freed s.pin (done s w)

-- made at the first high pulse
abbrev pub at_start : Scene → World → World
at_start s w = recovered s.pin (done s w)

-- at the chip's own select
abbrev pub the_read : Scene → World → List ℕ
the_read s w = spelled s.pins (random_read w.chip.select s.address s.n)

-- from that start on
abbrev pub heard : Scene → World → List Bool
heard s w = heard_of s.pins (random_read w.chip.select s.address s.n) (at_start s w)

-- D3: the chip before the noise, the noise, and where the read goes
pub record Protected (s : Scene) (w : World) : Type 0 where
  -- no cycle is in progress: one could end with PPEN and BL that unlock, or in a sector that the pin alone locks
  pub idle : w.chip.busy ≡ false
  -- where there is a register, the chip is hardware-protected and a region of it is locked; where there is none, nothing is asked of its bits
  pub ppen_set : has_register w.chip.part ≡ true → w.chip.register.ppen ≡ true
  pub region_locked : has_register w.chip.part ≡ true → w.chip.register.bl ≡ 0 → ⊥
  -- no sample of the noise has the pin low; power-ups with any choices and program-dones may stand among them
  pub pin_is_high : pins_high s.noise ≡ true
  -- the read begins in the array, and each address that it comes to, 0000h after 3FFFh, is locked while the pin is high
  pub address_in : s.address ≤ 0x3fff
  pub stays_locked : (k : ℕ) → k < s.n → locked w.chip.part w.chip.register.bl true ((s.address + k) % 0x4000) ≡ true

-- D3: the recovery, then the read
pub record Promised (s : Scene) (w : World) : Type 0 where
  -- ten pulses are enough to get a high line, and the number reported is that of the first
  pub line_high : FirstHigh s.pin (done s w) (free s w).pulses (free s w).world
  -- the chip sees the start that is made there
  pub start_seen : SeesStart (at_start s w).chip
  -- recovery leaves every byte of the array, PPEN, BL, RPEL, PEL and the spoil byte
  pub recovery_keeps : Unchanged (done s w) (at_start s w)
  -- it is the recovery that the code answers: not refused, with this chip, this number and this array
  pub code_answers : recovery_answer s.pin (done s w).chip (done s w).array ≡ record { refusal = 0; chip = (at_start s w).chip; pulses = (free s w).pulses }
  pub code_array : recovery_array s.pin (done s w).chip (done s w).array ≡ (at_start s w).array
  -- the read is a trace that the code takes, where it is no longer than a trace may be and has room: its answers are those that are heard
  pub code_reads :
      (room : List ℕ)
      → length (the_read s w) ≤ 65536
      → length (the_read s w) ≤ length room
      → ((ran_of (at_start s w).chip (at_start s w).array (the_read s w) room).refusal ≡ 0)
      × (run_answers (at_start s w).chip (at_start s w).array (the_read s w) room ≡ answers_of (the_read s w) (at_start s w) ++ drop (length (the_read s w)) room)
  -- the chip acknowledges each of the four bytes that the master sends
  pub acknowledged : Acknowledged (heard s w)
  -- the line's bits are those of the bytes that stood there before the noise, and make these bytes
  pub bits : bits_read s.n (heard s w) ≡ map bits_of (held w.array s.address s.n)
  pub bytes : bytes_read s.n (heard s w) ≡ held w.array s.address s.n
