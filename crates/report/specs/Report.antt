-- What the bench prints. (RULES P1-P7, O7.)
--
-- | Name | Meaning |
-- |---|---|
-- | `answer_text` | heading, lines and count of a row of answers |
-- | `report_of` | the whole text for a chip and event bytes |
use Rattle.std.specs.Prelude.{ℕ, cond, List, ◌++◌, eqb, leb, length}
use Rattle.parts.specs.Sector.{erased}
use Rattle.chip.specs.Run.{world}
use Rattle.chip.specs.declared.chip.Chip.{Chip}
use Rattle.trace.specs.Trace.{answers_of, run_refusal}
use Rattle.report.specs.Text.{heading, lines_from, count_text, refused_text}

-- P3-P5: `event note`, a line per event with a nonzero note, then `N events`
unfoldable pub answer_text : List ℕ → List ℕ
answer_text answers = heading ++ (lines_from 0 answers ++ count_text (length answers))

-- P1, P2, P6, O7: on an array of FFh. More than 4,096 events: `refused 4`; then what a trace refuses, with room for 4,096 answers; a refusal prints
-- only `refused N`
unfoldable pub report_of : Chip → List ℕ → List ℕ
report_of c bytes =
    cond (leb (length bytes) 4096)
    (cond (eqb (run_refusal c erased bytes 4096) 0) (answer_text (answers_of bytes (world c erased))) (refused_text (run_refusal c erased bytes 4096)))
    (refused_text 4)
