-- What an answer of the code stands for has the whole answer: two that stand for one are one. Assumes nothing.
use Rattle.std.specs.Prelude.{◌≡◌, Option, Result, Ok, Err}
use Rattle.std.specs.Result.{IsOk}
use Rattle.std.proofs.Common.{refl, sym, ap}
use Rattle.refusals.specs.Refusals.{status_of}
use Rattle.refusals.specs.declared.Refusal.{Refusal}
use Rattle.refusals.proofs.Numbers.{same_refusal, never_0}
use Rattle.parts.specs.Note.{note_or_0}
use Rattle.parts.specs.declared.note.Note.{Note}
use Rattle.parts.proofs.NoteLaws.{same_noted}
use Rattle.chip.specs.Chip.{Made, made_as}
use Rattle.chip.specs.Event.{Answer, answer_as}
use Rattle.chip.specs.Transfer.{Moved, moved}
use Rattle.chip.specs.declared.chip.Chip.{Chip}
use Rattle.chip.specs.declared.event.Answer.{Answer as Told}

-- a chip that goes on, with its note
pub same_moved : {c d : Chip} {n m : Option Note} → moved c (note_or_0 n) ≡ moved d (note_or_0 m) → (c ≡ d) × (n ≡ m)
same_moved {n = n} {m = m} e = (ap (λ (x : Moved). x.chip) e, same_noted n m (ap (λ (x : Moved). x.note) e))

-- a new chip, or its refusal
pub same_made : (a b : Result Chip Refusal) → made_as a ≡ made_as b → a ≡ b
same_made (Ok c) (Ok d) e = ap Ok (ap (λ (m : Made). m.chip) e)
same_made (Ok c) (Err r) e = absurd (never_0 r (sym (ap (λ (m : Made). m.refusal) e)))
same_made (Err r) (Ok d) e = absurd (never_0 r (ap (λ (m : Made). m.refusal) e))
same_made (Err r) (Err s) e = ap Err (same_refusal r s (ap (λ (m : Made). m.refusal) e))

-- what stands for no refusal is a chip
pub made_taken : (told : Result Chip Refusal) → (made_as told).refusal ≡ 0 → IsOk told
made_taken (Ok chip) none = refl
made_taken (Err refusal) none = absurd (never_0 refusal none)

-- an event, with the chip that it left
pub same_answer : (a b : Result Told Refusal) {c d : Chip} → answer_as a c ≡ answer_as b d → (a ≡ b) × (c ≡ d)
same_answer (Ok a) (Ok b) e =
    let note : a.note ≡ b.note = same_noted a.note b.note (ap (λ (x : Answer). x.note) e) in
    (ap Ok (λ i. record { line = ap (λ (x : Answer). x.line) e i; note = note i }), ap (λ (x : Answer). x.chip) e)
same_answer (Ok a) (Err r) e = absurd (never_0 r (sym (ap (λ (x : Answer). x.refusal) e)))
same_answer (Err r) (Ok b) e = absurd (never_0 r (ap (λ (x : Answer). x.refusal) e))
same_answer (Err r) (Err s) e = (ap Err (same_refusal r s (ap (λ (x : Answer). x.refusal) e)), ap (λ (x : Answer). x.chip) e)

-- its refusal is the one that the answer tells, and its chip the one that was left
pub answer_told : (a : Result Told Refusal) (c : Chip) → ((answer_as a c).refusal ≡ status_of a) × ((answer_as a c).chip ≡ c)
answer_told (Ok a) c = (refl, refl)
answer_told (Err r) c = (refl, refl)
