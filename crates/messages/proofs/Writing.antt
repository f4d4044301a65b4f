-- Messages that write, from a chip that rests to one that rests again: 02h to the register sets PEL, and 32 bytes at a sector's start wait at the
-- STOP and are stored there at the end of the cycle, or not where it is locked. Every byte is acknowledged, and the STOP alone has a note. Assumes nothing.
use Prim.Native.Nat.{ℕ, zero, suc, ◌+◌, ◌*◌, ◌/◌, ◌≤◌, ◌<◌}
use mathlib.Core.Bool.{Bool, true, false, cond, not}
use mathlib.Core.List.{List, [], ◌∷◌, ◌++◌}
use mathlib.Core.Path.{◌≡◌, refl, ap, ◌∙◌}
use native.Mathlib.Nat.{add_assoc}
use native.Mathlib.Omega.{arith}
use lib.ListN.{length, get_or, replicate}
use lib.Seq.{get_or-append-add}
use Rattle.parts.specs.Load.{no_load, whole, loaded}
use Rattle.parts.specs.Locks.{locked}
use Rattle.parts.specs.Phase.{risen, phase_pulls}
use Rattle.parts.specs.Register.{has_register, with_pel, with_rpel, written, written_as, latch_written}
use Rattle.parts.specs.Rows.{stepped}
use Rattle.parts.specs.Sector.{sector_start, next_place, Bytes}
use Rattle.parts.specs.Wait.{no_wait, chosen, every_place, taking, stored_to, stored, wait_for, waits, reached, end_array, locks_taken}
use Rattle.parts.specs.declared.load.Load.{Load}
use Rattle.parts.specs.declared.phase.Phase.TheVariants.{Standby, Data, AckByte}
use Rattle.parts.specs.declared.register.Register.{Register}
use Rattle.parts.specs.declared.wait.Target.TheVariants.{None}
use Rattle.parts.proofs.WaitLaws.{wait_whole}
use Rattle.chip.specs.Chip.{pulls, with_transfer, with_cycle, at_power_up, cut_register, cut_array}
use Rattle.chip.specs.Event.{next, next_array, sampled, judged, reacted, program_done}
use Rattle.chip.specs.Part.{enabled}
use Rattle.chip.specs.Run.{world, step, note_of, lines, notes}
use Rattle.chip.specs.Stop.{Effect, Nothing, Change, Store, rightly, array_effect, right_effect, stop_effect, effect_moved}
use Rattle.chip.specs.Transfer.{fall_in}
use Rattle.chip.specs.Wire.{edge_of}
use Rattle.chip.specs.declared.chip.Chip.{Chip}
use Rattle.chip.specs.declared.wire.Event.TheVariants.{ProgramDone, PowerUp}
use Rattle.chip.proofs.Posed.{posed}
use Rattle.messages.specs.Messages.{begin, end, byte_sent, bytes_sent, message_bytes, message, register_write}
use Rattle.messages.specs.RandomRead.{AckAt}
use Rattle.messages.specs.Wires.{clocks}
use Rattle.messages.proofs.Loading.{loaded_row, place_after, row_loaded, row_place}
use Rattle.messages.proofs.Sending.{idle, resting, begun, twice, heard_sent, slave_sent, first_sent, second_sent, register_sent, byte_sent_law, data_sent}
use Rattle.messages.proofs.Telling.{pinned, silent, steady_on, Plays, plays_then, Says, then}

-- what is heard of a row of bytes that are acknowledged
unfoldable pub heard_row : List ℕ → List Bool
heard_row [] = []
heard_row (byte ∷ rest) = heard_sent byte ++ heard_row rest

-- what is heard of a message of these bytes
abbrev pub heard_message : List ℕ → List Bool
heard_message bytes = (true ∷ false ∷ []) ++ heard_row bytes ++ (false ∷ false ∷ true ∷ [])

-- what it says: nothing before its STOP
abbrev pub told_message : List ℕ → ℕ → List ℕ
told_message bytes note = silent (begin ++ bytes_sent bytes) ++ (0 ∷ 0 ∷ note ∷ [])

-- the register after a whole load: a cycle clears RPEL
abbrev register_then : Chip → Bool → Register
register_then c shut = with_rpel c.register (cond shut c.register.rpel false)

-- what a whole load leaves of the chip at the STOP: a cycle in which it waits, or nothing where the sector is locked
abbrev pub chip_then : Chip → ℕ → List ℕ → Bool → Chip
chip_then c sector bytes shut =
    posed (with_transfer (with_cycle c (register_then c shut) (not shut) (cond shut c.wait (wait_for sector (whole bytes)))) Standby (sector * 32) false no_load)
    (not shut) true true Standby

-- and after a program-done
abbrev pub chip_done : Chip → ℕ → Bool → Chip
chip_done c sector shut =
    posed (with_transfer (with_cycle c (register_then c shut) false (cond shut c.wait no_wait)) Standby (sector * 32) false no_load) false true true Standby

-- what the cycle's end leaves of the array: each chosen place of the sector has its new byte
abbrev pub array_then : List ℕ → ℕ → List ℕ → ℕ → Bool → List ℕ
array_then xs sector bytes choices shut = cond shut xs (stored xs (sector * 32) (chosen choices) bytes)

module _ (c : Chip) (xs : List ℕ) where
  -- the chip at the STOP: after the last acknowledge the clock has risen once
  abbrev stopping : ℕ → Bool → Load → Chip
  stopping counter mark load = (idle c xs counter mark load false (Data 1 0)).chip

  -- what is said up to the STOP, and there
  abbrev said : ℕ → Bool → Load → Effect → List ℕ
  said counter mark load effect = 0 ∷ 0 ∷ (effect_moved effect (stopping counter mark load)).note ∷ []

  -- 02h sets PEL, where there is a register with RPEL clear
  pel_effect : (counter : ℕ) (pin : Bool) → has_register c.part ≡ true → c.register.rpel ≡ false
      → stop_effect (stopping counter true (loaded no_load 0 0x02)) pin ≡ Change (written_as (with_pel c.register true) None 3)
  unfolding stop_effect right_effect rightly written latch_written loaded
  pel_effect counter pin has off = rw (has, off)

  -- a whole load is stored, unless its sector is locked
  whole_effect : (counter : ℕ) (bytes : List ℕ) (pin shut : Bool) → locked c.part c.register.bl pin (sector_start counter) ≡ shut
      → stop_effect (stopping counter false (whole bytes)) pin ≡ cond shut (Nothing 4) Store
  unfolding stop_effect right_effect rightly array_effect
  whole_effect counter bytes pin shut e = rw e

  -- the STOP after 02h
  pel_stopped : (counter : ℕ) (pin : Bool) → has_register c.part ≡ true → c.register.rpel ≡ false
      → Plays (idle c xs counter true (loaded no_load 0 0x02) false AckByte) (pinned (λ k. pin) end) (false ∷ false ∷ true ∷ []) (0 ∷ 0 ∷ 3 ∷ [])
      (resting (with_cycle c (with_pel c.register true) false c.wait) xs 0x0000 false true true)
  unfolding stepped lines notes note_of step next next_array sampled judged reacted edge_of pulls phase_pulls risen fall_in pinned effect_moved waits
  pel_stopped counter pin has off =
      let e = pel_effect counter pin has off in
      record { ends = rw e; hears = rw e; tells = ap (said counter true (loaded no_load 0 0x02)) e }

  -- the STOP after a whole load: no byte is written yet
  whole_stopped : (sector : ℕ) (bytes : List ℕ) (pin shut : Bool) → locked c.part c.register.bl pin (sector_start (sector * 32)) ≡ shut
      → Plays (idle c xs (sector * 32) false (whole bytes) false AckByte) (pinned (λ k. pin) end) (false ∷ false ∷ true ∷ []) (0 ∷ 0 ∷ cond shut 4 1 ∷ [])
      (world (chip_then c sector bytes shut) xs)
  unfolding stepped lines notes note_of step next next_array sampled judged reacted edge_of pulls phase_pulls risen fall_in pinned effect_moved
  whole_stopped sector bytes pin true e =
      let f = whole_effect (sector * 32) bytes pin true e in
      record { ends = rw f; hears = rw f; tells = ap (said (sector * 32) false (whole bytes)) f }
  whole_stopped sector bytes pin false e =
      let f = whole_effect (sector * 32) bytes pin false e in
      let here : sector * 32 / 32 ≡ sector = omega arith in
      record { ends = rw (f, here); hears = rw f; tells = ap (said (sector * 32) false (whole bytes)) f }

  -- a row of data bytes for the array, with PEL set or not asked
  row_sent : (bytes : List ℕ) (counter : ℕ) (load : Load) → enabled c.part c.register.pel ≡ true → Bytes bytes
      → Says (idle c xs counter false load false AckByte) (bytes_sent bytes) (heard_row bytes) (idle c xs (place_after counter bytes) false (loaded_row load counter bytes) false AckByte)
  unfolding stepped lines notes silent pinned heard_row place_after loaded_row
  row_sent [] counter load on h = record { plays = λ pins. record { ends = refl; hears = refl; tells = refl } }
  row_sent (byte ∷ rest) counter load on h =
      then (data_sent c xs counter load byte on (h 0)) (row_sent rest (next_place counter) (loaded load counter byte) on (λ k. h (suc k)))

  -- a message that sets PEL, at the chip's own select
  pub pel_message_law : (counter : ℕ) (mark scl line pin : Bool) → has_register c.part ≡ true → c.select ≤ 7 → c.register.rpel ≡ false
      → let row : List ℕ = message_bytes c.select 0xffff (0x02 ∷ []) in
      Plays (resting c xs counter mark scl line) (pinned (λ k. pin) (register_write c.select 0x02)) (heard_message row) (told_message row 3)
      (resting (with_cycle c (with_pel c.register true) false c.wait) xs 0x0000 false true true)
  unfolding heard_row heard_sent twice byte_sent clocks
  pel_message_law counter mark scl line pin has h off =
      rw (steady_on (begin ++ bytes_sent (message_bytes c.select 0xffff (0x02 ∷ []))) end pin)
      (plays_then
      ((then (begun c xs counter mark scl line)
      (then (slave_sent c xs false counter mark no_load h)
      (then (first_sent c xs counter mark no_load 255 (omega arith))
      (then (register_sent c xs counter mark no_load has)
      (byte_sent_law c xs counter 0x02 has (omega arith)))))).plays (λ k. pin))
      (pel_stopped counter pin has off))

  -- a message that writes 32 bytes at the start of a sector, with PEL set or not asked: they wait
  pub sector_message : (counter : ℕ) (mark scl line pin shut : Bool) (sector : ℕ) (bytes : List ℕ) → c.select ≤ 7 → enabled c.part c.register.pel ≡ true
      → sector ≤ 511 → length bytes ≡ 32 → Bytes bytes → locked c.part c.register.bl pin (sector * 32) ≡ shut
      → let row : List ℕ = message_bytes c.select (sector * 32) bytes in
      Plays (resting c xs counter mark scl line) (pinned (λ k. pin) (message c.select (sector * 32) bytes)) (heard_message row) (told_message row (cond shut 4 1))
      (world (chip_then c sector bytes shut) xs)
  unfolding heard_row
  sector_message counter mark scl line pin shut sector bytes h on within sized byte-wide e =
      let start : sector_start (sector * 32) ≡ sector * 32 = omega arith in
      let row = row_sent bytes (sector * 32) no_load on byte-wide in
      rw (steady_on (begin ++ bytes_sent (message_bytes c.select (sector * 32) bytes)) end pin)
      (plays_then
      ((then (begun c xs counter mark scl line)
      (then (slave_sent c xs false counter mark no_load h)
      (then (first_sent c xs counter mark no_load (sector * 32 / 256) (omega arith))
      (then (second_sent c xs counter mark no_load (sector * 32) (omega arith))
      (rw (row_loaded sector bytes sized, row_place sector bytes sized) at row))))).plays (λ k. pin))
      (whole_stopped sector bytes pin shut (rw start e)))

-- where all places are loaded, those that are chosen take their bytes
all_loaded : (xs : List ℕ) (start choices : ℕ) (bytes : List ℕ) → stored xs start (taking (replicate 32 true) choices) bytes ≡ stored xs start (chosen choices) bytes
unfolding stored_to
all_loaded xs start choices bytes = refl

-- so 32 bytes that wait are stored as they are
pub whole_ends : (sector : ℕ) (bytes : List ℕ) (choices : ℕ) (xs : List ℕ) → length bytes ≡ 32
    → end_array (wait_for sector (whole bytes)) choices xs ≡ stored xs (sector * 32) (chosen choices) bytes
unfolding reached
whole_ends sector bytes choices xs sized =
    ap (stored xs (sector * 32) (taking (replicate 32 true) choices)) (wait_whole sector bytes sized) ∙ all_loaded xs (sector * 32) choices bytes

module _ (c : Chip) (xs : List ℕ) (sector : ℕ) (bytes : List ℕ) (sized : length bytes ≡ 32) where
  -- the program-done after that message stores them and ends busy
  pub sector_done : (shut : Bool)
      → Plays (world (chip_then c sector bytes shut) xs) (ProgramDone ∷ []) (true ∷ []) (0 ∷ []) (world (chip_done c sector shut) (array_then xs sector bytes every_place shut))
  unfolding stepped lines notes note_of step next next_array program_done cut_register cut_array locks_taken
  sector_done true = record { ends = refl; hears = refl; tells = refl }
  sector_done false = record { ends = ap (world (chip_done c sector false)) (whole_ends sector bytes every_place xs sized); hears = refl; tells = refl }

  -- a power-up in its place stores those that are chosen, PPEN and BL as they were
  pub sector_cut : (choices : ℕ) (shut : Bool)
      → Plays (world (chip_then c sector bytes shut) xs) (PowerUp choices ∷ []) (true ∷ []) (0 ∷ [])
      (world (at_power_up c.part c.select c.register.ppen c.register.bl c.spoil) (array_then xs sector bytes choices shut))
  unfolding stepped lines notes note_of step next next_array cut_register cut_array locks_taken
  sector_cut choices true = record { ends = refl; hears = refl; tells = refl }
  sector_cut choices false =
      record {
        ends = ap (world (at_power_up c.part c.select c.register.ppen c.register.bl c.spoil)) (whole_ends sector bytes choices xs sized);
        hears = refl;
        tells = refl;
      }

-- the ninth clock of each byte of a row is low in both halves
acks_in : (bytes : List ℕ) (rest : List Bool) (half k : ℕ) → half < 2 → k < length bytes → get_or (heard_row bytes ++ rest) (18 * k + (16 + half)) true ≡ false
unfolding heard_row heard_sent twice
acks_in [] rest half k h l = absurd (omega arith)
acks_in (byte ∷ bytes) rest zero zero h l = refl
acks_in (byte ∷ bytes) rest (suc zero) zero h l = refl
acks_in (byte ∷ bytes) rest (suc (suc half)) zero h l = absurd (omega arith)
acks_in (byte ∷ bytes) rest half (suc k) h l =
    let further : 18 * suc k + (16 + half) ≡ 18 + (18 * k + (16 + half)) = omega arith in
    rw further (get_or-append-add (heard_sent byte) (heard_row bytes ++ rest) (18 * k + (16 + half)) true ∙ acks_in bytes rest half k h (omega arith))

-- so in whatever comes before and after
pub row_acked : (before : List Bool) (bytes : List ℕ) (rest : List Bool) (k : ℕ) → k < length bytes → AckAt (length before + 18 * k) (before ++ (heard_row bytes ++ rest))
row_acked before bytes rest k h =
    record {
      low_half = at 16 ∙ acks_in bytes rest 0 k (omega arith) h;
      high_half = at 17 ∙ acks_in bytes rest 1 k (omega arith) h;
    }
  where
    at : (n : ℕ) → get_or (before ++ (heard_row bytes ++ rest)) (length before + 18 * k + n) true ≡ get_or (heard_row bytes ++ rest) (18 * k + n) true
    at n = ap (λ (i : ℕ). get_or (before ++ (heard_row bytes ++ rest)) i true) (add_assoc (length before) (18 * k) n) ∙ get_or-append-add before (heard_row bytes ++ rest) (18 * k + n) true
