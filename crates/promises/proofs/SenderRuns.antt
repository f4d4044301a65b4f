-- The sender's theorems speak of something, and what they ask of the chip is needed: chips that they take, a record that is sent to an unlocked and to a locked
-- sector, a run with RPEL 1 that loses PPEN and BL, and one for another part that spoils a sector. Assumes nothing.
use Prim.Native.Nat.{ℕ, ◌≤◌}
use mathlib.Core.Bool.{Bool, true, false}
use mathlib.Core.List.{List, ◌++◌}
use mathlib.Core.Path.{◌≡◌, refl}
use native.Mathlib.Omega.{arith}
use lib.IntN.{pos}
use lib.Dec.{T}
use lib.ListN.{length, take, replicate, length-replicate}
use Rattle.parts.specs.Load.{loaded}
use Rattle.parts.specs.Locks.{first_locked}
use Rattle.parts.specs.Phase.{risen, phase_pulls}
use Rattle.parts.specs.Register.{written, latch_written, lock_written}
use Rattle.parts.specs.Rows.{stepped}
use Rattle.parts.specs.Sector.{Bytes, erased}
use Rattle.parts.specs.Wait.{waits, stored_to, reached, locks_taken}
use Rattle.chip.specs.Chip.{pulls, cut_register, cut_array, at_power_up}
use Rattle.chip.specs.Event.{next, next_array, program_done, sampled, judged, reacted}
use Rattle.chip.specs.Run.{world, step, note_of, notes}
use Rattle.chip.specs.Stop.{stop_effect, right_effect, array_effect, rightly, effect_moved}
use Rattle.chip.specs.Transfer.{fall_in, slave_taken, address_taken, array_data, register_data}
use Rattle.chip.specs.Wire.{edge_of}
use Rattle.gate.specs.Form.{record_of}
use Rattle.gate.specs.Label.{label_byte}
use Rattle.gate.specs.Limit.{in_range, same, bits16}
use Rattle.gate.specs.Writing.{write_of, written_of}
use Rattle.gate.proofs.RoundTrip.{bytes_below}
use Rattle.gate.proofs.Witness.{north_taken}
use Rattle.messages.specs.Messages.{byte_sent}
use Rattle.messages.specs.Wires.{spelled, clocks}
use Rattle.trace.specs.Bytes.{event_of}
use Rattle.trace.specs.Trace.{after}
use Rattle.sender.specs.Sending.{event_count, sent_events, send_refusal}
use Rattle.sender.proofs.Sends.{written_sent}
use Rattle.promises.specs.Cases.{buffer, north, agree}
use Rattle.promises.specs.Sender.{Ready, shut_at, Wrote}
use Rattle.promises.specs.SenderRuns.{north_record, north17, up, halfway, armed, Unlocks, Misses}
use Rattle.promises.proofs.Sender.{sent_stored, sent_locked}

-- A chip of any part, select, PPEN, BL and spoil byte is ready after a power-up, over any whole array
pub up_ready : (part select : ℕ) (ppen : Bool) (bl spoil : ℕ) (xs : List ℕ) → length xs ≡ 16384 → Ready part select (world (at_power_up part select ppen bl spoil) xs)
up_ready part select ppen bl spoil xs whole =
    record { fitted = refl; selected = refl; idle = refl; standby = refl; rpel = λ has. refl; load = refl; whole = whole }

-- an array of FFh is whole
whole : length erased ≡ 16384
whole = length-replicate {A = ℕ} 0x4000 0xff

-- the record of worked case 4 can be sent as gate 17's to any part
pub north_sent : (part : ℕ) → part ≤ 2 → send_refusal part 5 17 north_record (event_count part) ≡ 0
north_sent part h = written_sent buffer (pos 0) (pos 1200) north north_taken part 5 17 (event_count part) h (omega arith) (omega arith) (omega arith)

-- is of bytes
pub north_bytes : Bytes north_record
unfolding written_of write_of record_of bits16 in_range same label_byte
north_bytes = bytes_below north_record refl

-- what it leaves of the array of a part with this BL
abbrev left_on : ℕ → ℕ → List ℕ
left_on part bl = (after (north17 part 5) (up part bl)).array

-- on each part it is stored with BL 0, and on the part without a register with BL 3 too
pub north_stored : Wrote 17 north_record erased (left_on 0 0) × Wrote 17 north_record erased (left_on 1 0) × Wrote 17 north_record erased (left_on 2 0) × Wrote 17 north_record erased (left_on 2 3)
unfolding first_locked
north_stored = (on 0 0 (omega arith) refl, on 1 0 (omega arith) refl, on 2 0 (omega arith) refl, on 2 3 (omega arith) refl)
  where
    on : (part bl : ℕ) → part ≤ 2 → shut_at 17 (up part bl).chip ≡ false → Wrote 17 north_record erased (left_on part bl)
    on part bl h unlocked = (sent_stored part 5 17 north_record (event_count part) (north_sent part h) north_bytes (up part bl) (up_ready part 5 true bl 0x00 erased whole) unlocked).1

-- on the parts with a register no byte changes with BL 3
pub north_locked : (left_on 0 3 ≡ erased) × (left_on 1 3 ≡ erased)
unfolding first_locked
north_locked = (on 0 (omega arith) refl, on 1 (omega arith) refl)
  where
    on : (part : ℕ) → part ≤ 2 → shut_at 17 (up part 3).chip ≡ true → left_on part 3 ≡ erased
    on part h shut = (sent_locked part 5 17 north_record (event_count part) (north_sent part h) north_bytes (up part 3) (up_ready part 5 true 3 0x00 erased whole) shut).1

-- the first half of the record before FFh
abbrev half : List ℕ
half = take 16 north_record ++ replicate 16 0xff

-- Cut off behind the last STOP, it stands there: on each part
pub north_cut : T (agree (halfway 0) half) × T (agree (halfway 1) half) × T (agree (halfway 2) half)
unfolding stepped event_of spelled note_of step next next_array program_done cut_register cut_array waits reached stored_to locks_taken sampled judged reacted edge_of pulls phase_pulls risen fall_in slave_taken address_taken array_data register_data stop_effect right_effect array_effect rightly effect_moved first_locked written latch_written lock_written loaded clocks byte_sent after sent_events written_of write_of record_of bits16 in_range same label_byte
north_cut = (tt, tt, tt)

-- So RPEL has to be clear: on both parts with a register
pub rpel_needed : Unlocks 0 (armed 0) × Unlocks 1 (armed 1)
unfolding stepped event_of spelled notes note_of step next next_array program_done cut_register cut_array waits reached locks_taken sampled judged reacted edge_of pulls phase_pulls risen fall_in slave_taken address_taken array_data register_data stop_effect right_effect array_effect rightly effect_moved first_locked written latch_written lock_written loaded clocks byte_sent after sent_events written_of write_of record_of bits16 in_range same label_byte
rpel_needed = (
  record { rpel_before = refl; ppen_before = refl; bl_before = refl; ppen_after = refl; bl_after = refl; told = refl },
  record { rpel_before = refl; ppen_before = refl; bl_before = refl; ppen_after = refl; bl_after = refl; told = refl },
)

-- And the part has to be the chip's: the events for a part with a register spoil a sector of an X24F129
pub part_needed : Misses 0 × Misses 1
unfolding stepped stored_to event_of spelled notes note_of step next next_array program_done cut_register cut_array waits reached locks_taken sampled judged reacted edge_of pulls phase_pulls risen fall_in slave_taken address_taken array_data register_data stop_effect right_effect array_effect rightly effect_moved first_locked written latch_written lock_written loaded clocks byte_sent after sent_events written_of write_of record_of bits16 in_range same label_byte
part_needed = (record { told = refl; spoilt = tt; changed = tt }, record { told = refl; spoilt = tt; changed = tt })
