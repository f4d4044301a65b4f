-- Case 13 and the stored input on both parts, each one statement that is computed for either. Assumes nothing.
use Prim.Native.Nat.{ℕ, zero, suc, ◌≤◌}
use mathlib.Core.List.{◌++◌}
use mathlib.Core.Path.{◌≡◌, refl}
use native.Mathlib.Omega.{arith}
use Rattle.parts.specs.Load.{loaded}
use Rattle.parts.specs.Locks.{first_locked}
use Rattle.parts.specs.Phase.{phase_fits, phase_pulls, risen}
use Rattle.parts.specs.Rows.{every, stepped}
use Rattle.parts.specs.Register.{latch_written, lock_written, written}
use Rattle.parts.specs.Wait.{stored_to, target_fits, waits, reached, locks_taken}
use Rattle.chip.specs.Chip.{chip_fits, pulls, cut_register, cut_array}
use Rattle.chip.specs.Event.{reacted, sampled, judged, program_done, next, next_array, refusal}
use Rattle.chip.specs.Run.{step, note_of}
use Rattle.chip.specs.Stop.{rightly, array_effect, right_effect, stop_effect, effect_moved}
use Rattle.chip.specs.Transfer.{slave_taken, address_taken, array_data, register_data, byte_begun, byte_ended, fall_in}
use Rattle.chip.specs.Wire.{edge_of}
use Rattle.trace.specs.Bytes.{event_of}
use Rattle.trace.specs.Trace.{answers_of, run_refusal}
use Rattle.messages.specs.Messages.{byte_sent}
use Rattle.messages.specs.Wires.{spelled, clocks}
use Rattle.report.specs.Report.{report_of, answer_text}
use Rattle.report.specs.Text.{digits, width, numeral, note_line, event_line, lines_from, count_text, refused_text}
use Rattle.promises.specs.Bench.{bench_on, sets_pel, short, pel_text, stored_text, short_note}

-- both texts, computed for each part
computed : (part : ℕ) → part ≤ 1 → (bench_on part sets_pel ≡ pel_text) × (bench_on part (sets_pel ++ short) ≡ stored_text (short_note part))
unfolding loaded stored_to first_locked phase_fits phase_pulls risen every stepped latch_written lock_written written target_fits waits reached locks_taken chip_fits pulls cut_register cut_array reacted sampled judged program_done next next_array refusal step note_of rightly array_effect right_effect stop_effect effect_moved slave_taken address_taken array_data register_data byte_begun byte_ended fall_in edge_of event_of answers_of run_refusal byte_sent spelled clocks report_of answer_text digits width numeral note_line event_line lines_from count_text refused_text
computed zero h = (refl, refl)
computed (suc zero) h = (refl, refl)
computed (suc (suc k)) h = absurd (omega arith)

-- case 13 on either part: three lines
pub case_13 : (part : ℕ) → part ≤ 1 → bench_on part sets_pel ≡ pel_text
case_13 part h = (computed part h).0

-- the stored input: case 13 again, then 27 bytes, and there the parts differ
pub stored_input : (part : ℕ) → part ≤ 1 → bench_on part (sets_pel ++ short) ≡ stored_text (short_note part)
stored_input part h = (computed part h).1
