-- What is left unless a call is refused, and the answer of one event by its refusal: its number and its chip, packed. Assumes nothing.
use Prim.Native.Nat.{ℕ}
use mathlib.Core.Bool.{Bool, true, false, cond}
use mathlib.Core.List.{List}
use mathlib.Core.Path.{◌≡◌, refl, sym, ap, ◌∙◌}
use borrow.Author.Tests.{eqb-true}
use lib.Dec.{eqb}
use Rattle.chip.specs.Event.{Answer, answered, refused}
use Rattle.chip.specs.declared.chip.Chip.{Chip}
use Rattle.chip.specs.Transfer.{Moved}
use Rattle.trace.specs.Trace.{unless}
use Rattle.chip_bytes.specs.State.{bytes_of}

-- what is made of it where a call is taken is made of what a taken one leaves
pub unless_inner :
    {A B : Type 0} (f : A → B) (number : ℕ) (old : B) (kept run : A)
    → unless number old (f (unless number kept run)) ≡ unless number old (f run)
unfolding unless
unless_inner {A} {B} f number old kept run = go (eqb number 0)
  where
    go : (taken : Bool) → cond taken (f (cond taken run kept)) old ≡ cond taken (f run) old
    go true = refl
    go false = refl

module _ (number : ℕ) (c : Chip) (m : Moved) (a : Answer) (told : a ≡ unless number (refused number c) (answered 0 m)) where
  -- an event's answer tells its refusal
  pub answer_number : a.refusal ≡ number
  unfolding unless
  answer_number = ap (λ (b : Answer). b.refusal) told ∙ go (eqb number 0) refl
    where
      go : (taken : Bool) → eqb number 0 ≡ taken → (cond taken (answered 0 m) (refused number c)).refusal ≡ number
      go true e = sym (eqb-true number 0 e)
      go false e = refl

  -- and where that is none, the chip that is packed is the one after the event
  pub answer_packed : (b : List ℕ) → unless a.refusal b (bytes_of a.chip) ≡ unless number b (bytes_of m.chip)
  answer_packed b =
      (λ i. unless (answer_number i) b (bytes_of (told i).chip))
      ∙ unless_inner (λ (d : Answer). bytes_of d.chip) number b (refused number c) (answered 0 m)
