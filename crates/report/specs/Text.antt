-- Text as a list of bytes, and where it stands on a page. (RULES P3-P7.)
--
-- | Name | Meaning |
-- |---|---|
-- | `put page at text` | the page with the text from `at` on |
-- | `glyph` | the last decimal digit of a number |
-- | `digits k n` | the last k decimal digits of a number, the most significant first |
-- | `width`, `numeral` | how many digits a number below 10,000 takes; its decimal numeral |
-- | `note_line` | position and note, one space between them |
-- | `event_line` | the line of an event, none where the note is 0 |
-- | `lines_from` | the lines of a row of answers, the first at this position |
-- | `heading` | the first line |
-- | `events_word`, `count_text` | the word after the count; the last line |
-- | `refused_word`, `refused_text` | the word before a number; the line of a refusal |
use Rattle.std.specs.Prelude.{ℕ, zero, suc, ◌+◌, ◌/◌, ◌%◌, cond, List, [], ◌∷◌, ◌++◌, eqb, ltb, set}
use Rattle.trace.specs.Bytes.{answer_note}

-- one byte after the other
unfoldable pub put : List ℕ → ℕ → List ℕ → List ℕ
put page at [] = page
put page at (byte ∷ text) = put (set page at byte) (at + 1) text

-- 0 is 30h
abbrev pub glyph : ℕ → ℕ
glyph n = 48 + n % 10

-- the last digit comes last
unfoldable pub digits : ℕ → ℕ → List ℕ
digits zero n = []
digits (suc k) n = digits k (n / 10) ++ (glyph n ∷ [])

-- no leading zero
unfoldable pub width : ℕ → ℕ
width n = cond (ltb n 10) 1 (cond (ltb n 100) 2 (cond (ltb n 1000) 3 4))

-- P4, P5: decimal
unfoldable pub numeral : ℕ → List ℕ
numeral n = digits (width n) n

-- P4, P7: position, one space, note; every line ends with a newline
unfoldable pub note_line : ℕ → ℕ → List ℕ
note_line position note = numeral position ++ (0x20 ∷ (numeral note ++ (0x0a ∷ [])))

-- P4: a line per event with a nonzero note
unfoldable pub event_line : ℕ → ℕ → List ℕ
event_line position answer = cond (eqb (answer_note answer) 0) [] (note_line position (answer_note answer))

-- P4: position from 0
unfoldable pub lines_from : ℕ → List ℕ → List ℕ
lines_from position [] = []
lines_from position (answer ∷ answers) = event_line position answer ++ lines_from (position + 1) answers

-- P3: `event note`
abbrev pub heading : List ℕ
heading = 0x65 ∷ 0x76 ∷ 0x65 ∷ 0x6e ∷ 0x74 ∷ 0x20 ∷ 0x6e ∷ 0x6f ∷ 0x74 ∷ 0x65 ∷ 0x0a ∷ []

-- P5: `N events`
abbrev pub events_word : List ℕ
events_word = 0x20 ∷ 0x65 ∷ 0x76 ∷ 0x65 ∷ 0x6e ∷ 0x74 ∷ 0x73 ∷ 0x0a ∷ []

-- P5: the number of events before it
unfoldable pub count_text : ℕ → List ℕ
count_text n = numeral n ++ events_word

-- P6: `refused N`
abbrev pub refused_word : List ℕ
refused_word = 0x72 ∷ 0x65 ∷ 0x66 ∷ 0x75 ∷ 0x73 ∷ 0x65 ∷ 0x64 ∷ 0x20 ∷ []

-- P6, P7: the number behind it
unfoldable pub refused_text : ℕ → List ℕ
refused_text number = refused_word ++ (numeral number ++ (0x0a ∷ []))
