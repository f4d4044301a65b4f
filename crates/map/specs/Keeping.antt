-- An event and a trace that keep a map beside the array. (RULES V3, F18, O13, O14.)
--
-- | Name | Meaning |
-- |---|---|
-- | `ended e c` | what waits in the cycle that this event ends; nothing where it ends none |
-- | `entered_for target xs m` | the map in which a waiting sector's bit is set from the array |
-- | `kept e w m` | the map after one event |
-- | `kept_over es w m` | after a row of events |
-- | `is_sector k target` | sector k waits |
-- | `wrote_in k es w` | one of a row of events ended a cycle for sector k |
-- | `answer_refusal`, `answer_of`, `answer_array`, `answer_map` | one event: its refusal, its answer, the array and the map at exit |
-- | `trace_refusal`, `trace_ran`, `trace_array`, `trace_answers`, `trace_map` | a trace: its refusal, the refusal with the chip, and the three buffers at exit |
-- | `Taken` | what a trace that is not refused is lent |
-- | `Piece` | the same for a piece of it, and each of its events but the first is a sample |
use Rattle.std.specs.Prelude.{ℕ, ◌≤◌, ◌<◌, Bool, true, false, not, cond, ◌&&◌, ◌||◌, ◌≡◌, List, [], ◌∷◌, ◌++◌, map, eqb, length, drop}
use Rattle.parts.specs.declared.wait.Target.{Target}
use Rattle.parts.specs.declared.wait.Target.TheVariants.{None, Sector, Locks}
use Rattle.chip.specs.Event.{Answer, next, next_array, refusal, answered, refused}
use Rattle.chip.specs.Run.{World, world, step}
use Rattle.chip.specs.View.{is_sample, samples}
use Rattle.chip.specs.declared.chip.Chip.{Chip}
use Rattle.chip.specs.declared.wire.Event.{Event}
use Rattle.trace.specs.Bytes.{event_of, all_events}
use Rattle.trace.specs.Trace.{Ran, after, answers_of, run_refusal, unless}
use Rattle.map.specs.Sectors.{entered, with_map}

-- U3, U7: a program-done and a power-up end the cycle of a busy chip
unfoldable pub ended : Event → Chip → Target
ended e c = cond (c.busy && not (is_sample e)) c.wait.target None

-- V3: its bit alone
unfoldable pub entered_for : Target → List ℕ → List ℕ → List ℕ
entered_for None xs m = m
entered_for (Sector k) xs m = entered k xs m
entered_for (Locks ppen bl) xs m = m

-- V3: where the event ended a cycle of the array, its sector is entered, from the array as it is then, whatever was chosen; no other bit changes
unfoldable pub kept : Event → World → List ℕ → List ℕ
kept e w m = entered_for (ended e w.chip) (step e w).array m

-- V3: after each event
unfoldable pub kept_over : List Event → World → List ℕ → List ℕ
kept_over [] w m = m
kept_over (e ∷ es) w m = kept_over es (step e w) (kept e w m)

-- one of 512
unfoldable pub is_sector : ℕ → Target → Bool
is_sector k None = false
is_sector k (Sector j) = eqb j k
is_sector k (Locks ppen bl) = false

-- a store there, or a spoil, has ended or was cut off
unfoldable pub wrote_in : ℕ → List Event → World → Bool
wrote_in k [] w = false
wrote_in k (e ∷ es) w = is_sector k (ended e w.chip) || wrote_in k es (step e w)

-- O13: one event checks 1, 18, 2
unfoldable pub answer_refusal : Chip → List ℕ → List ℕ → ℕ
answer_refusal c xs m = with_map (refusal c xs) m

-- O9: refused, the chip as given, line high, note 0
unfoldable pub answer_of : Event → Chip → List ℕ → List ℕ → Answer
answer_of e c xs m = unless (answer_refusal c xs m) (refused (answer_refusal c xs m) c) (answered 0 (next e c xs))

-- O10: a refusal writes nothing
unfoldable pub answer_array : Event → Chip → List ℕ → List ℕ → List ℕ
answer_array e c xs m = unless (answer_refusal c xs m) xs (next_array e c xs)

-- the map included
unfoldable pub answer_map : Event → Chip → List ℕ → List ℕ → List ℕ
answer_map e c xs m = unless (answer_refusal c xs m) m (kept e (world c xs) m)

-- O14: a trace checks 1, 18, 2, 4, 5, 6
unfoldable pub trace_refusal : Chip → List ℕ → List ℕ → List ℕ → ℕ → ℕ
trace_refusal c xs m bytes room = with_map (run_refusal c xs bytes room) m

-- the chip as given, or the one after the trace
unfoldable pub trace_ran : Chip → List ℕ → List ℕ → List ℕ → List ℕ → Ran
trace_ran c xs m bytes old =
    record {
      refusal = trace_refusal c xs m bytes (length old);
      chip = unless (trace_refusal c xs m bytes (length old)) c (after bytes (world c xs)).chip;
    }

-- array and answers are what they are without a map
unfoldable pub trace_array : Chip → List ℕ → List ℕ → List ℕ → List ℕ → List ℕ
trace_array c xs m bytes old = unless (trace_refusal c xs m bytes (length old)) xs (after bytes (world c xs)).array

unfoldable pub trace_answers : Chip → List ℕ → List ℕ → List ℕ → List ℕ → List ℕ
trace_answers c xs m bytes old =
    unless (trace_refusal c xs m bytes (length old)) old (answers_of bytes (world c xs) ++ drop (length bytes) old)

-- each byte is one event
unfoldable pub trace_map : Chip → List ℕ → List ℕ → List ℕ → List ℕ → List ℕ
trace_map c xs m bytes old = unless (trace_refusal c xs m bytes (length old)) m (kept_over (map event_of bytes) (world c xs) m)

-- what O14's refusals leave
pub record Taken (c : Chip) (xs m bytes old : List ℕ) : Type 0 where
  pub chip : refusal c xs ≡ 0
  pub map : length m ≡ 64
  pub few : length bytes ≤ 65536
  pub room : length bytes ≤ length old
  pub events : all_events bytes ≡ true

-- from one program-done or power-up to the next
pub record Piece (c : Chip) (xs m bytes old : List ℕ) : Type 0 where
  pub taken : Taken c xs m bytes old
  pub some : 0 < length bytes
  pub exact : length old ≡ length bytes
  pub tail : samples (map event_of (drop 1 bytes)) ≡ true
