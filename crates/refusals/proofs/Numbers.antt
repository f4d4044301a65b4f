-- Each refusal has a number of its own, and none has 0. Assumes nothing.
use Rattle.std.specs.Prelude.{ℕ, ◌≡◌, List, [], ◌∷◌, slice_index_or, Result, Ok, Err}
use Rattle.std.specs.Result.{IsOk}
use Rattle.std.proofs.Common.{refl, ◌∙◌, sym, ap}
use Rattle.refusals.specs.Refusals.{number_of, status_of}
use Rattle.refusals.specs.declared.Refusal.{Refusal}
use Rattle.refusals.specs.declared.Refusal.TheVariants.{ArrayLength, ChipRange, NoSuchChip, TraceLength, AnswerRoom, NoEvent, RecordLength, LabelLength, LabelByte, LimitRange, LimitsEqual, NoGate, RecordSum, RecordContent, GateNumber, Select, EventRoom, MapLength}

-- the refusals by number, with the first for 0
abbrev by_number : List Refusal
by_number = ArrayLength ∷ ArrayLength ∷ ChipRange ∷ NoSuchChip ∷ TraceLength ∷ AnswerRoom ∷ NoEvent ∷ RecordLength ∷ LabelLength ∷ LabelByte ∷ LimitRange ∷ LimitsEqual ∷ NoGate ∷ RecordSum ∷ RecordContent ∷ GateNumber ∷ Select ∷ EventRoom ∷ MapLength ∷ []

abbrev refusal_of : ℕ → Refusal
refusal_of n = slice_index_or by_number n ArrayLength

back : (r : Refusal) → refusal_of (number_of r) ≡ r
back ArrayLength = refl
back ChipRange = refl
back NoSuchChip = refl
back TraceLength = refl
back AnswerRoom = refl
back NoEvent = refl
back RecordLength = refl
back LabelLength = refl
back LabelByte = refl
back LimitRange = refl
back LimitsEqual = refl
back NoGate = refl
back RecordSum = refl
back RecordContent = refl
back GateNumber = refl
back Select = refl
back EventRoom = refl
back MapLength = refl

-- two refusals of one number are one
pub same_refusal : (a b : Refusal) → number_of a ≡ number_of b → a ≡ b
same_refusal a b e = sym (back a) ∙ ap refusal_of e ∙ back b

-- no refusal has 0
pub never_0 : (r : Refusal) → number_of r ≡ 0 → ⊥
never_0 ArrayLength e = cc
never_0 ChipRange e = cc
never_0 NoSuchChip e = cc
never_0 TraceLength e = cc
never_0 AnswerRoom e = cc
never_0 NoEvent e = cc
never_0 RecordLength e = cc
never_0 LabelLength e = cc
never_0 LabelByte e = cc
never_0 LimitRange e = cc
never_0 LimitsEqual e = cc
never_0 NoGate e = cc
never_0 RecordSum e = cc
never_0 RecordContent e = cc
never_0 GateNumber e = cc
never_0 Select e = cc
never_0 EventRoom e = cc
never_0 MapLength e = cc

-- an answer that holds nothing is told whole by its number
pub same_status : (a b : Result (Unit {0}) Refusal) → status_of a ≡ status_of b → a ≡ b
same_status (Ok _) (Ok _) e = refl
same_status (Ok u) (Err r) e = absurd (never_0 r (sym e))
same_status (Err r) (Ok u) e = absurd (never_0 r e)
same_status (Err a) (Err b) e = ap Err (same_refusal a b e)

-- a call that is told by 0 was taken
pub taken : {A : Type 0} (told : Result A Refusal) → status_of told ≡ 0 → IsOk told
taken (Ok value) e = refl
taken (Err r) e = absurd (never_0 r e)
