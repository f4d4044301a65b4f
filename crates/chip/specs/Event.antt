-- One event: a sample, program-done or power-up; what it answers, and when it is refused.
-- (RULES E1, E2, L2-L8, U1-U4, U7, F1, F2, O2, O9, O10.)
--
-- | Name | Meaning |
-- |---|---|
-- | `reacted` | the chip after an edge, with the line and the pin of its sample |
-- | `line_in`, `edge_in` | the line in a sample, with the pull before it; the sample's edge |
-- | `judged` | after an edge of a line that is handed in; a busy chip ignores it |
-- | `settled` | with these last levels |
-- | `sampled` | after a sample |
-- | `program_done` | after a program-done |
-- | `next`, `next_array` | the chip with its note, and the array, after an event |
-- | `refusal` | 1, 2 or none |
-- | `Answer` | what one event answers |
-- | `answered`, `refused` | an answer, and one that refuses |
-- | `answer_as told c` | what an event answers that told this, or was refused, and left the chip c |
-- | `event_answer`, `event_array` | what one event answers, and the array at its exit |
use Rattle.std.specs.Prelude.{ℕ, Bool, true, false, cond, List, eqb, length, Result, Ok, Err}
use Rattle.refusals.specs.Refusals.{number_of}
use Rattle.refusals.specs.declared.Refusal.{Refusal}
use Rattle.parts.specs.Note.{note_or_0}
use Rattle.parts.specs.Phase.{risen}
use Rattle.parts.specs.Wait.{every_place, no_wait}
use Rattle.chip.specs.Chip.{with_cycle, with_levels, chip_fits, pulls, cut_register, cut_array, power_up}
use Rattle.chip.specs.Stop.{stop_effect, effect_moved}
use Rattle.chip.specs.Transfer.{Moved, moved, quiet, at_phase, started, fell}
use Rattle.chip.specs.Wire.{line_of, edge_of}
use Rattle.chip.specs.declared.chip.Chip.{Chip}
use Rattle.chip.specs.declared.event.Answer.{Answer as Told}
use Rattle.chip.specs.declared.wire.Edge.{Edge}
use Rattle.chip.specs.declared.wire.Edge.TheVariants.{Quiet, Start, Stop, Rise, Fall}
use Rattle.chip.specs.declared.wire.Event.{Event}
use Rattle.chip.specs.declared.wire.Event.TheVariants.{Sample, ProgramDone, PowerUp}
use Rattle.chip.specs.declared.wire.Sample.{Sample as Levels}

-- L4: the edges, and what each does
unfoldable pub reacted : Edge → Chip → Bool → Bool → List ℕ → Moved
reacted Quiet c line pin xs = quiet c
reacted Start c line pin xs = started c
reacted Stop c line pin xs = effect_moved (stop_effect c pin) c
reacted Rise c line pin xs = quiet (at_phase c (risen c.phase line))
reacted Fall c line pin xs = fell c xs

-- L2, L3: a sample is judged with the pull before it (reading)
abbrev pub line_in : Chip → Levels → Bool
line_in c s = line_of (pulls c) s.sda

-- against the last levels
abbrev pub edge_in : Chip → Levels → Edge
edge_in c s = edge_of c.scl s.scl c.line (line_in c s)

-- U1, U2: a busy chip ignores every edge, STARTs and STOPs too (house), another reacts to it. The line is handed in: on wires that chips share it is not this chip's alone
unfoldable pub judged : Chip → List ℕ → Bool → Bool → Bool → Moved
judged c xs scl line pin = cond c.busy (quiet c) (reacted (edge_of c.scl scl c.line line) c line pin xs)

-- L6: the levels are kept in every case
abbrev pub settled : Moved → Bool → Bool → Moved
settled m scl line = moved (with_levels m.chip scl line) m.note

-- L3, L6 (reading): one chip on its wires: judged by the line with its pull before the sample, it keeps and reports the one with its pull after it
unfoldable pub sampled : Chip → List ℕ → Levels → Moved
sampled c xs s =
    let m : Moved = judged c xs s.scl (line_in c s) s.pin in
    settled m s.scl (line_of (pulls m.chip) s.sda)

-- U3: what waits is written whole, busy ends and nothing waits; all else stays, the kept line too. An idle chip stays as it is
unfoldable pub program_done : Chip → Chip
program_done c = cond c.busy (with_cycle c (cut_register every_place c) false no_wait) c

-- E2, L6: the reported line is the one that the next chip keeps
unfoldable pub next : Event → Chip → List ℕ → Moved
next (Sample s) c xs = sampled c xs s
next ProgramDone c xs = quiet (program_done c)
next (PowerUp choices) c xs = quiet (power_up choices c)

-- U3, U7: only the end of a cycle writes: a program-done, or a power-up that cuts it off
unfoldable pub next_array : Event → Chip → List ℕ → List ℕ
next_array (Sample s) c xs = xs
next_array ProgramDone c xs = cut_array every_place c xs
next_array (PowerUp choices) c xs = cut_array choices c xs

-- F1, F2: 1 for an array that is not 16,384 bytes, then 2 for a number outside its range
unfoldable pub refusal : Chip → List ℕ → ℕ
refusal c xs = cond (eqb (length xs) 16384) (cond (chip_fits c) 0 2) 1

-- O2: the number of the refusal, or 0, the next chip, the line and the note
pub record Answer : Type 0 where
  pub refusal : ℕ
  pub chip : Chip
  pub line : Bool
  pub note : ℕ

-- the answer to an event that is taken
abbrev pub answered : ℕ → Moved → Answer
answered number m = record { refusal = number; chip = m.chip; line = m.chip.line; note = m.note }

-- O9: the chip as given, the line high, note 0
abbrev pub refused : ℕ → Chip → Answer
refused number c = record { refusal = number; chip = c; line = true; note = 0 }

-- O9: a refusal stands for the chip as it was left, the line high and note 0
abbrev pub answer_as : Result Told Refusal → Chip → Answer
answer_as (Ok told) c = record { refusal = 0; chip = c; line = told.line; note = note_or_0 told.note }
answer_as (Err refusal) c = refused (number_of refusal) c

-- refused or taken
unfoldable pub event_answer : Event → Chip → List ℕ → Answer
event_answer e c xs = cond (eqb (refusal c xs) 0) (answered 0 (next e c xs)) (refused (refusal c xs) c)

-- O10: a refusal writes nothing
unfoldable pub event_array : Event → Chip → List ℕ → List ℕ
event_array e c xs = cond (eqb (refusal c xs) 0) (next_array e c xs) xs
