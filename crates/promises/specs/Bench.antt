-- What the bench programs print on either part: worked case 13, and the stored input, in which the parts differ. (RULES P2-P5, P8, worked case 13.)
--
-- | Name | Meaning |
-- |---|---|
-- | `bench_on part` | what the bench program of a part prints: a new chip of it with select 0 |
-- | `sets_pel` | the events of case 13: a power-up, and the message that sets PEL, the pin low |
-- | `short` | the same, then 27 bytes from 0006h on, and the program-done |
-- | `pel_text` | the three lines of case 13 |
-- | `stored_text digit` | the five lines of the stored input, its last note as a digit |
-- | `short_note part` | the note of 27 bytes, as a digit |
use Rattle.std.specs.Prelude.{ℕ, false, cond, List, [], ◌∷◌, ◌++◌, eqb}
use Rattle.chip.specs.Chip.{new_chip}
use Rattle.messages.specs.Messages.{message, register_write}
use Rattle.messages.specs.Wires.{spelled}
use Rattle.report.specs.Report.{report_of}
use Rattle.report.specs.Text.{heading, events_word}
use Rattle.promises.specs.Cases.{up_from}

-- P2, P8: for part 1 it is the standard chip
abbrev pub bench_on : ℕ → List ℕ → List ℕ
bench_on part bytes = report_of (new_chip part 0) bytes

-- 13. Bench input 9, 3, 1, the bytes A0h FFh FFh 02h in nine clocks each, 0, 1, 3
abbrev pub sets_pel : List ℕ
sets_pel = 9 ∷ spelled (λ k. false) (register_write 0 0x02)

-- bytes 41h, 42h and so on
abbrev pub short : List ℕ
short = sets_pel ++ spelled (λ k. false) (message 0 0x0006 (up_from 27 0x41)) ++ (8 ∷ [])

-- 13. Output whole: `event note`, `77 3`, `78 events`
abbrev pub pel_text : List ℕ
pel_text = heading ++ (0x37 ∷ 0x37 ∷ 0x20 ∷ 0x33 ∷ 0x0a ∷ []) ++ (0x37 ∷ 0x38 ∷ events_word)

-- case 13, then the 27 bytes: `event note`, `77 3`, `155 3`, `700` with the note, `702 events`
abbrev pub stored_text : ℕ → List ℕ
stored_text digit =
    heading
    ++ (0x37 ∷ 0x37 ∷ 0x20 ∷ 0x33 ∷ 0x0a ∷ [])
    ++ (0x31 ∷ 0x35 ∷ 0x35 ∷ 0x20 ∷ 0x33 ∷ 0x0a ∷ [])
    ++ (0x37 ∷ 0x30 ∷ 0x30 ∷ 0x20 ∷ digit ∷ 0x0a ∷ [])
    ++ (0x37 ∷ 0x30 ∷ 0x32 ∷ events_word)

-- S7: `1` on the X24128, `5` on the X24F128
abbrev pub short_note : ℕ → ℕ
short_note part = cond (eqb part 0) 0x31 0x35
