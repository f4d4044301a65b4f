-- The worked cases hold of the definitions, and so do the tests that the mistakes fail: each list is one computation.
-- Assumes nothing.
use lib.Dec.{T}
use Rattle.parts.specs.Load.{loaded}
use Rattle.parts.specs.Locks.{first_locked}
use Rattle.parts.specs.Phase.{phase_fits, phase_pulls, risen}
use Rattle.parts.specs.Rows.{stepped}
use Rattle.parts.specs.Register.{latch_written, lock_written, written}
use Rattle.parts.specs.Wait.{stored_to, target_fits, waits, reached, locks_taken}
use Rattle.chip.specs.Chip.{chip_fits, pulls, cut_register, cut_array}
use Rattle.chip.specs.Event.{reacted, sampled, judged, program_done, next, next_array, refusal}
use Rattle.chip.specs.Run.{step, note_of, notes}
use Rattle.chip.specs.Stop.{rightly, array_effect, right_effect, stop_effect, effect_moved}
use Rattle.chip.specs.Transfer.{slave_taken, address_taken, array_data, register_data, byte_begun, byte_ended, fall_in}
use Rattle.chip.specs.Wire.{edge_of}
use Rattle.recovery.specs.Pulses.{after_pulses}
use Rattle.recovery.specs.Recovery.{pulse, pulsed, recovered, recovery_answer}
use Rattle.gate.specs.Limit.{in_range, same, bits16, signed16}
use Rattle.gate.specs.Label.{label_byte}
use Rattle.gate.specs.Form.{record_of}
use Rattle.gate.specs.Writing.{write_of, written_of}
use Rattle.gate.specs.Reading.{is_free, label_fits, content_of, read_of}
use Rattle.trace.specs.Bytes.{event_of}
use Rattle.trace.specs.Trace.{answers_of}
use Rattle.messages.specs.Messages.{byte_sent}
use Rattle.messages.specs.RandomRead.{bytes_taken, byte_taken, random_read, highs, bits_in}
use Rattle.messages.specs.Wires.{spelled, clocks, byte_of}
use Rattle.promises.specs.Cases.{holds, worked, errors}

-- both lists, computed
computed : T (holds worked) × T (holds errors)
unfolding loaded stored_to first_locked phase_fits phase_pulls risen latch_written lock_written written target_fits waits reached locks_taken chip_fits pulls cut_register cut_array reacted sampled judged program_done next next_array refusal step note_of stepped notes event_of answers_of spelled rightly array_effect right_effect stop_effect effect_moved slave_taken address_taken array_data register_data byte_begun byte_ended fall_in edge_of after_pulses pulse pulsed recovered recovery_answer in_range same bits16 signed16 label_byte record_of write_of written_of is_free label_fits content_of read_of byte_sent clocks bytes_taken byte_taken random_read highs bits_in byte_of
computed = (tt, tt)

-- cases 1-12
pub cases_hold : T (holds worked)
cases_hold = computed.0

-- mistakes M1-M4
pub errors_fail : T (holds errors)
errors_fail = computed.1
