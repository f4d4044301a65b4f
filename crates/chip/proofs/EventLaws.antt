-- One event from outside: what is refused, what a busy chip does, what a program-done does, and the line that is kept. Assumes nothing.
use Prim.Native.Nat.{ℕ}
use mathlib.Core.Bool.{Bool, true, false, cond}
use mathlib.Core.Path.{◌≡◌, refl, ap, ◌∙◌}
use mathlib.Core.List.{List}
use native.Mathlib.Omega.{arith}
use borrow.Author.Tests.{eqb-true, eq-eqb, ne_eqb}
use lib.Dec.{eqb}
use lib.ListN.{length}
use Rattle.parts.specs.Wait.{every_place}
use Rattle.parts.proofs.CondLaws.{cond_false}
use Rattle.chip.specs.Chip.{chip_fits, pulls, with_levels, cut_register}
use Rattle.chip.specs.Event.{next, next_array, sampled, judged, program_done, refusal, refused, event_answer, event_array}
use Rattle.chip.specs.Transfer.{quiet}
use Rattle.chip.specs.Wire.{line_of}
use Rattle.chip.specs.declared.chip.Chip.{Chip}
use Rattle.chip.specs.declared.wire.Event.{Event}
use Rattle.chip.specs.declared.wire.Event.TheVariants.{Sample, ProgramDone, PowerUp}
use Rattle.chip.specs.declared.wire.Sample.{Sample as Levels}
use Rattle.chip.proofs.CutLaws.{cut_idle}
use Rattle.chip.proofs.RangeLaws.{next_fits}
use Rattle.chip.proofs.ViewLaws.{next_length}

-- a refusal gives back the chip as given
pub refused_answer : (e : Event) (c : Chip) (xs : List ℕ) → (refusal c xs ≡ 0 → ⊥) → event_answer e c xs ≡ refused (refusal c xs) c
unfolding event_answer
refused_answer e c xs h = rw (ne_eqb (refusal c xs) 0 h)

-- a refusal changes no byte of the array
pub refused_array : (e : Event) (c : Chip) (xs : List ℕ) → (refusal c xs ≡ 0 → ⊥) → event_array e c xs ≡ xs
unfolding event_array
refused_array e c xs h = rw (ne_eqb (refusal c xs) 0 h)

-- what is not refused: an array of 16,384 bytes and a chip in range
pub taken_of : (c : Chip) (xs : List ℕ) → refusal c xs ≡ 0 → (length xs ≡ 16384) × (chip_fits c ≡ true)
unfolding refusal
taken_of c xs h =
    let t = go (eqb (length xs) 16384) (chip_fits c) h in
    (eqb-true (length xs) 16384 t.0, t.1)
  where
    go : (long fits : Bool) → ◌≡◌ {A = ℕ} (cond long (cond fits 0 2) 1) 0 → (long ≡ true) × (fits ≡ true)
    go true true e = (refl, refl)
    go true false e = absurd (omega arith)
    go false fits e = absurd (omega arith)

-- such an array and such a chip are not refused
pub taken_so : (c : Chip) (xs : List ℕ) → length xs ≡ 16384 → chip_fits c ≡ true → refusal c xs ≡ 0
unfolding refusal
taken_so c xs long fits = rw (eq-eqb (length xs) 16384 long, fits)

-- after an event that was not refused none is
pub next_taken : (e : Event) (c : Chip) (xs : List ℕ) → refusal c xs ≡ 0 → refusal (next e c xs).chip (next_array e c xs) ≡ 0
next_taken e c xs h =
    let t = taken_of c xs h in
    taken_so (next e c xs).chip (next_array e c xs) (next_length e c xs ∙ t.0) (next_fits e c xs t.1)

-- a busy chip does not pull
pub busy_lets_go : (c : Chip) → c.busy ≡ true → pulls c ≡ false
unfolding pulls
busy_lets_go c b = rw b

-- a busy chip answers nothing: a sample sets the levels alone, the line is the master's, the note 0
pub busy_sample : (s : Levels) (c : Chip) (xs : List ℕ) → c.busy ≡ true → next (Sample s) c xs ≡ quiet (with_levels c s.scl s.sda)
unfolding next sampled judged pulls
busy_sample s c xs b = rw b

-- no sample writes a byte
pub sample_array : (s : Levels) (c : Chip) (xs : List ℕ) → next_array (Sample s) c xs ≡ xs
unfolding next_array
sample_array s c xs = refl

-- a program-done changes nothing on an idle chip, whatever it says that waits
pub done_idle : (c : Chip) (xs : List ℕ) → c.busy ≡ false → (next ProgramDone c xs ≡ quiet c) × (next_array ProgramDone c xs ≡ xs)
unfolding next next_array program_done
done_idle c xs b = (ap quiet (cond_false c.busy _ c b), cut_idle every_place c xs b)

-- a power-up of an idle chip does not look at the choices
pub up_idle : (choices other : ℕ) (c : Chip) (xs : List ℕ) → c.busy ≡ false
    → (next (PowerUp choices) c xs ≡ next (PowerUp other) c xs) × (next_array (PowerUp choices) c xs ≡ xs)
unfolding next next_array cut_register
up_idle choices other c xs b = (rw b, cut_idle choices c xs b)

-- the line that a sample leaves is the one with the pull after it
pub sample_line : (s : Levels) (c : Chip) (xs : List ℕ) → (next (Sample s) c xs).chip.line ≡ line_of (pulls (next (Sample s) c xs).chip) s.sda
unfolding next sampled pulls
sample_line s c xs = refl

-- and the clock that it leaves is its own
pub sample_clock : (s : Levels) (c : Chip) (xs : List ℕ) → (next (Sample s) c xs).chip.scl ≡ s.scl
unfolding next sampled
sample_clock s c xs = refl
