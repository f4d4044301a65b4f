-- After note 5 and a program-done the sector of the counter holds the spoil byte 32 times, every other byte of the array is kept, and reading the sector never
-- finds a gate. Assumes nothing.
use Prim.Native.Nat.{ℕ}
use mathlib.Core.Bool.{Bool, true, false}
use mathlib.Core.List.{List}
use mathlib.Core.Path.{◌≡◌, refl, ap, ap₂, sym, subst, ◌∙◌}
use native.Mathlib.Omega.{arith}
use borrow.Author.Tests.{eqb-true}
use lib.Dec.{eqb}
use lib.ListN.{length, length-replicate, replicate}
use Rattle.parts.specs.Sector.{sector_of}
use Rattle.parts.specs.Wait.{every_place, end_array}
use Rattle.parts.specs.declared.wait.Wait.{Wait}
use Rattle.parts.proofs.CondLaws.{cond_by}
use Rattle.chip.specs.Event.{next, next_array, refusal}
use Rattle.chip.specs.Stop.{sector_in}
use Rattle.chip.specs.declared.chip.Chip.{Chip}
use Rattle.chip.specs.declared.wire.Event.{Event}
use Rattle.chip.specs.declared.wire.Event.TheVariants.{ProgramDone}
use Rattle.chip.proofs.CutLaws.{cut_busy}
use Rattle.chip.proofs.EventLaws.{taken_of}
use Rattle.chip.proofs.FitLaws.{fits_of}
use Rattle.chip.proofs.ViewLaws.{next_told}
use Rattle.gate.specs.Answer.{Read, Free, Refused, is_good}
use Rattle.gate.specs.Reading.{read_of, is_free}
use Rattle.messages.proofs.Writing.{whole_ends}
use Rattle.promises.specs.Sender.{Wrote}
use Rattle.promises.specs.Spoil.{spoilt_as}
use Rattle.promises.proofs.Sender.{wrote}

-- what an event and a program-done behind it leave of the array
abbrev done_after : Event → Chip → List ℕ → List ℕ
done_after e c xs = next_array ProgramDone (next e c xs).chip (next_array e c xs)

-- For every chip and array that are not refused: after an event with note 5 the program-done leaves the spoil byte in all 32 places of the sector, and no other
-- byte is touched
pub short_spoils : (e : Event) (c : Chip) (xs : List ℕ) → refusal c xs ≡ 0 → (next e c xs).note ≡ 5
    → Wrote (sector_in c) (replicate 32 c.spoil) xs (done_after e c xs)
unfolding next_array
short_spoils e c xs taken five =
    let t = taken_of c xs taken in
    let counter-in = (fits_of c t.1).counter in
    let sized : length (replicate 32 c.spoil) ≡ 32 = length-replicate {A = ℕ} 32 c.spoil in
    let cycle = ((next_told e c xs).five five).cycle in
    subst (Wrote (sector_in c) (replicate 32 c.spoil) xs)
    (sym (cut_busy every_place (next e c xs).chip (next_array e c xs) cycle.began
    ∙ ap₂ (λ (w : Wait) (ys : List ℕ). end_array w every_place ys) cycle.waiting cycle.array
    ∙ whole_ends (sector_in c) (replicate 32 c.spoil) every_place xs sized))
    (wrote (sector_in c) (replicate 32 c.spoil) xs (omega arith) sized t.0)

-- what reading answers to a sector of one byte
pub spoilt_reads : (byte : ℕ) → read_of (replicate 32 byte) ≡ spoilt_as byte
unfolding read_of is_free
spoilt_reads byte = go (eqb byte 0xff) (eqb byte 0xa5) refl refl
  where
    go : (erased state : Bool) → eqb byte 0xff ≡ erased → eqb byte 0xa5 ≡ state → read_of (replicate 32 byte) ≡ spoilt_as byte
    go true state e s = rw e
    go false true e s = rw (eqb-true byte 0xa5 s)
    go false false e s = rw (e, s)

-- So the record routines find no gate in the sector: it is free, or refused with 12 or 13, by its spoil byte alone
pub short_reads : (e : Event) (c : Chip) (xs : List ℕ) → refusal c xs ≡ 0 → (next e c xs).note ≡ 5
    → read_of (sector_of (sector_in c) (done_after e c xs)) ≡ spoilt_as c.spoil
short_reads e c xs taken five = ap read_of (short_spoils e c xs taken five).sector ∙ spoilt_reads c.spoil

-- and never a good record
pub short_no_gate : (e : Event) (c : Chip) (xs : List ℕ) → refusal c xs ≡ 0 → (next e c xs).note ≡ 5 → is_good (read_of (sector_of (sector_in c) (done_after e c xs))) ≡ false
short_no_gate e c xs taken five =
    ap is_good (short_reads e c xs taken five)
    ∙ cond_by No (eqb c.spoil 0xff) Free _ (λ f. refl) (λ f. cond_by No (eqb c.spoil 0xa5) (Refused 13) (Refused 12) (λ g. refl) (λ g. refl))
  where
    No : Read → Type 0
    No answer = is_good answer ≡ false
