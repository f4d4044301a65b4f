-- The numbers of the refusals. (RULES F1-F18.)
--
-- | Name | Meaning |
-- |---|---|
-- | `number_of` | the number of a refusal |
-- | `status_of` | what a call is told by: 0 where it was taken, else the number of its refusal |
use Rattle.std.specs.Prelude.{ℕ, Result, Ok, Err}
use Rattle.refusals.specs.declared.Refusal.{Refusal}
use Rattle.refusals.specs.declared.Refusal.TheVariants.{ArrayLength, ChipRange, NoSuchChip, TraceLength, AnswerRoom, NoEvent, RecordLength, LabelLength, LabelByte, LimitRange, LimitsEqual, NoGate, RecordSum, RecordContent, GateNumber, Select, EventRoom, MapLength}

-- F1 to F18
abbrev pub number_of : Refusal → ℕ
number_of ArrayLength = 1
number_of ChipRange = 2
number_of NoSuchChip = 3
number_of TraceLength = 4
number_of AnswerRoom = 5
number_of NoEvent = 6
number_of RecordLength = 7
number_of LabelLength = 8
number_of LabelByte = 9
number_of LimitRange = 10
number_of LimitsEqual = 11
number_of NoGate = 12
number_of RecordSum = 13
number_of RecordContent = 14
number_of GateNumber = 15
number_of Select = 16
number_of EventRoom = 17
number_of MapLength = 18

-- O1-O8, O11-O14: 0 for a call that was taken
abbrev pub status_of : {A : Type 0} → Result A Refusal → ℕ
status_of (Ok value) = 0
status_of (Err refusal) = number_of refusal
