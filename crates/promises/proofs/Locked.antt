-- What a write keeps, on every part: what is locked at the pin of its STOP. Assumes nothing.
use Prim.Native.Nat.{ℕ, ◌/◌}
use mathlib.Core.Bool.{Bool, true, false, ◌||◌, false≢true}
use mathlib.Core.List.{List, [], ◌∷◌, ◌++◌}
use mathlib.Core.Path.{◌≡◌, refl, ap, ◌∙◌}
use borrow.Author.Tests.{eqb-true}
use lib.Dec.{eqb}
use lib.ListN.{get_or}
use Rattle.parts.specs.Load.{full_of}
use Rattle.parts.specs.Locks.{locked}
use Rattle.parts.specs.Rows.{stepped}
use Rattle.parts.specs.declared.load.Load.{Load}
use Rattle.parts.specs.declared.register.Register.{Register}
use Rattle.parts.specs.declared.wait.Target.TheVariants.{Sector}
use Rattle.parts.specs.declared.wait.Wait.{Wait}
use Rattle.parts.proofs.RowLaws.{stepped_on}
use Rattle.chip.specs.Event.{next, next_array}
use Rattle.chip.specs.Run.{World, step, note_of, ran}
use Rattle.chip.specs.View.{samples, pin_high, writes, Cycled}
use Rattle.chip.specs.declared.chip.Chip.{Chip}
use Rattle.chip.specs.declared.wire.Event.{Event}
use Rattle.chip.proofs.LockLaws.{Open, began_open, locked_kept}
use Rattle.chip.proofs.RangeLaws.{next_same}
use Rattle.chip.proofs.RunLaws.{ran_same}
use Rattle.chip.proofs.ViewLaws.{next_told}
use Rattle.trace.specs.Cycles.{Still}
use Rattle.trace.proofs.CycleLaws.{busy_still}

module _ (e : Event) (es : List Event) (w : World) (wrote : writes (note_of e w) ≡ true) (only : samples es ≡ true) where
  -- the chip before
  abbrev c : Chip
  c = w.chip

  -- a cycle of the array has begun, of the load or of the spoil byte
  abbrev Began : Load → Type 0
  Began load = Cycled e c w.array load (next e c w.array).chip.register (next e c w.array).chip.busy (next e c w.array).chip.wait (next_array e c w.array)

  -- after it, and after the samples
  abbrev then : World
  then = step e w

  abbrev later : World
  later = ran es then

  -- what holds of such a cycle holds of this one
  began_by : (P : Type 0) → ((load : Load) → Began load → P) → P
  unfolding writes note_of
  began_by P began = go (eqb (next e c w.array).note 1) (eqb (next e c w.array).note 5) refl refl wrote
    where
      go : (one five : Bool) → eqb (next e c w.array).note 1 ≡ one → eqb (next e c w.array).note 5 ≡ five → (one || five) ≡ true → P
      go true five one said h = began c.load ((next_told e c w.array).one (eqb-true _ 1 one)).cycle
      go false true one said h = began (full_of c.spoil) ((next_told e c w.array).five (eqb-true _ 5 said)).cycle
      go false false one said h = absurd (false≢true h)

  -- while it lasts part, BL and array are those of the STOP
  same_then : (later.chip.part ≡ c.part) × (later.chip.register.bl ≡ c.register.bl) × (later.array ≡ w.array)
  unfolding step
  same_then = began_by _ (λ load cycle.
      let still : Still es then = busy_still es then only cycle.began in
      ((ran_same es then).0 ∙ (next_same e c w.array).0, ap (λ (r : Register). r.bl) (still.register ∙ cycle.register), still.array ∙ cycle.array))

  -- and no sector waits that is locked at the pin of the STOP
  still_open : Open (pin_high e) later.chip
  unfolding step
  still_open busy = began_by _ (λ load cycle.
      let waiting : later.chip.wait.target ≡ Sector (c.counter / 32) = ap (λ (u : Wait). u.target) ((busy_still es then only cycle.began).waiting ∙ cycle.waiting) in
      rw (same_then.0, same_then.1, waiting) (began_open c.part c.register.bl (pin_high e) c.counter cycle.writable.unlocked))

  -- S8: from the event that begins a cycle of the array, over any samples, to whatever event ends it: each byte is kept that was locked, with the BL in force and the pin at the
  -- level of the STOP's own sample. What the pin does until then does not matter
  pub write_keeps : (f : Event) (a : ℕ) → locked c.part c.register.bl (pin_high e) a ≡ true → get_or (ran (e ∷ es ++ (f ∷ [])) w).array a 0 ≡ get_or w.array a 0
  unfolding stepped step
  write_keeps f a shut =
      let before : locked later.chip.part later.chip.register.bl (pin_high e) a ≡ true = rw (same_then.0, same_then.1) shut in
      ap (λ (v : World). get_or v.array a 0) (stepped_on step (e ∷ es) (f ∷ []) w)
      ∙ locked_kept (pin_high e) f later.chip later.array still_open a before
      ∙ ap (λ (xs : List ℕ). get_or xs a 0) same_then.2
