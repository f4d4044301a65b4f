-- Running a trace. (RULES B4-B6, F4-F6, O3, O9, O10.)
--
-- | Name | Meaning |
-- |---|---|
-- | `after bytes w` | the chip and the array after a row of event bytes |
-- | `answers_of bytes w` | its answer bytes |
-- | `run_refusal` | 1, 2, 4, 5, 6 in this order, or none |
-- | `unless number kept run` | what is left where a trace is refused, and where it runs |
-- | `Ran`, `ran_of` | the refusal and the chip |
-- | `ran_as told c` | what a run stands for that told this and left the chip c |
-- | `run_array`, `run_answers` | the array and the answer buffer at exit |
use Rattle.std.specs.Prelude.{ℕ, cond, List, [], ◌∷◌, ◌++◌, map, eqb, leb, length, drop, Result}
use Rattle.refusals.specs.Refusals.{status_of}
use Rattle.refusals.specs.declared.Refusal.{Refusal}
use Rattle.chip.specs.Event.{refusal}
use Rattle.chip.specs.Run.{World, world, step, note_of, ran}
use Rattle.chip.specs.declared.chip.Chip.{Chip}
use Rattle.trace.specs.Bytes.{event_of, all_events, answer_byte}

-- B4: each byte is one event
unfoldable pub after : List ℕ → World → World
after bytes w = ran (map event_of bytes) w

-- one for each event
unfoldable pub answers_of : List ℕ → World → List ℕ
answers_of [] w = []
answers_of (byte ∷ bytes) w =
    answer_byte (step (event_of byte) w).chip.line (note_of (event_of byte) w) ∷ answers_of bytes (step (event_of byte) w)

-- O3, F4-F6, B6: 4 for over 65,536 events, 5 for too little room, 6 for a byte above 11
unfoldable pub run_refusal : Chip → List ℕ → List ℕ → ℕ → ℕ
run_refusal c xs bytes room =
    cond (eqb (refusal c xs) 0)
    (cond (leb (length bytes) 65536) (cond (leb (length bytes) room) (cond (all_events bytes) 0 6) 5) 4)
    (refusal c xs)

-- O10: refused, all is kept
unfoldable pub unless {ℓ} : {A : Type ℓ} → ℕ → A → A → A
unless number kept run = cond (eqb number 0) run kept

-- O3: the number of the refusal, or 0, and the chip
pub record Ran : Type 0 where
  pub refusal : ℕ
  pub chip : Chip

-- the chip as given, or the one after the trace
unfoldable pub ran_of : Chip → List ℕ → List ℕ → List ℕ → Ran
ran_of c xs bytes old =
    record {
      refusal = run_refusal c xs bytes (length old);
      chip = unless (run_refusal c xs bytes (length old)) c (after bytes (world c xs)).chip;
    }

-- as a caller has it who lent the chip
abbrev pub ran_as : Result (Unit {0}) Refusal → Chip → Ran
ran_as told c = record { refusal = status_of told; chip = c }

-- as it was, or as the events left it
unfoldable pub run_array : Chip → List ℕ → List ℕ → List ℕ → List ℕ
run_array c xs bytes old = unless (run_refusal c xs bytes (length old)) xs (after bytes (world c xs)).array

-- B5: bytes past the trace stay
unfoldable pub run_answers : Chip → List ℕ → List ℕ → List ℕ → List ℕ
run_answers c xs bytes old =
    unless (run_refusal c xs bytes (length old)) old (answers_of bytes (world c xs) ++ drop (length bytes) old)
