-- A cycle leaves its chip busy, and a busy chip does nothing until a program-done or a power-up: so between two of these at most one cycle begins, and what it
-- lets wait stays until then. Assumes nothing.
use Prim.Native.Nat.{ℕ, zero, suc, ◌+◌, ◌≤◌}
use mathlib.Core.Bool.{Bool, true, false, ◌||◌, false≢true}
use mathlib.Core.Path.{◌≡◌, refl, ap, ap₂, ◌∙◌}
use mathlib.Core.List.{List, [], ◌∷◌}
use native.Mathlib.Nat.{zero-add}
use native.Mathlib.Omega.{arith}
use borrow.Author.Tests.{eqb-true}
use lib.Dec.{eqb}
use lib.ListN.{length, get_or, replicate}
use Rattle.parts.specs.Phase.{weight}
use Rattle.parts.specs.Register.{written}
use Rattle.parts.specs.Rows.{every, stepped}
use Rattle.parts.specs.Wait.{waits}
use Rattle.parts.specs.declared.register.Register.{Register}
use Rattle.parts.proofs.CondLaws.{and_left, and_right}
use Rattle.parts.proofs.RegisterLaws.{written_by}
use Rattle.chip.specs.Event.{next, next_array}
use Rattle.chip.specs.Run.{World, step, note_of, notes}
use Rattle.chip.specs.Stop.{effect_moved}
use Rattle.chip.specs.View.{is_sample, samples, pin_high, mute, writes}
use Rattle.chip.specs.declared.chip.Chip.{Chip}
use Rattle.chip.specs.Transfer.{Moved}
use Rattle.chip.specs.declared.wire.Event.{Event}
use Rattle.chip.specs.declared.wire.Event.TheVariants.{Sample, ProgramDone, PowerUp}
use Rattle.chip.proofs.EventLaws.{busy_sample, sample_array}
use Rattle.chip.proofs.StepLaws.{next_by}
use Rattle.trace.specs.Cycles.{begins, cycles, Still}

-- a note that says nothing of a write is of no cycle
mute_begins : (note : ℕ) → mute note ≡ true → begins note ≡ true → ⊥
unfolding mute begins writes
mute_begins note m b = go (eqb note 1) (eqb note 5) (eqb note 2) refl refl refl b
  where
    go : (one five two : Bool) → eqb note 1 ≡ one → eqb note 5 ≡ five → eqb note 2 ≡ two → (one || five || two) ≡ true → ⊥
    go true five two e f g h = false≢true (rw (eqb-true note 1 e) at m)
    go false true two e f g h = false≢true (rw (eqb-true note 5 f) at m)
    go false false true e f g h = false≢true (rw (eqb-true note 2 g) at m)
    go false false false e f g h = false≢true h

-- a register byte's note 2 is its cycle's
register_cycles : (r : Register) (byte : ℕ) (pin : Bool) → begins (written r byte pin).note ≡ true → waits (written r byte pin).target ≡ true
unfolding begins writes waits
register_cycles r byte pin =
    written_by (λ w. begins w.note ≡ true → waits w.target ≡ true) r byte pin
    (λ b. absurd (false≢true b)) (λ on b. absurd (false≢true b)) (λ b. absurd (false≢true b)) (λ e ppen b. refl)

-- an event that begins a cycle leaves a busy chip
pub cycling : (e : Event) (c : Chip) (xs : List ℕ) → begins (next e c xs).note ≡ true → (next e c xs).chip.busy ≡ true
unfolding effect_moved begins writes
cycling e c xs =
    next_by (λ m ys. begins m.note ≡ true → m.chip.busy ≡ true) e c xs
    (λ m ys scl line said. said)
    (λ phase counter mark load note m b. absurd (mute_begins note m.silent b))
    (λ stopped marks. register_cycles c.register (get_or c.load.bytes 0 0) (pin_high e))
    (λ short counted stopped writable b. refl)
    (λ done busy b. absurd (false≢true b), λ up b. absurd (false≢true b))

-- a busy chip and its array, after one sample more
module _ (e : Event) (w : World) (sample : is_sample e ≡ true) (b : w.chip.busy ≡ true) where
  still_step : ((step e w).array ≡ w.array) × ((step e w).chip.register ≡ w.chip.register) × ((step e w).chip.wait ≡ w.chip.wait) × ((step e w).chip.busy ≡ true) × (note_of e w ≡ 0)
  unfolding step note_of is_sample
  still_step = go e sample
    where
      go : (e : Event) → is_sample e ≡ true
          → (next_array e w.chip w.array ≡ w.array) × ((next e w.chip w.array).chip.register ≡ w.chip.register)
          × ((next e w.chip w.array).chip.wait ≡ w.chip.wait) × ((next e w.chip w.array).chip.busy ≡ true) × ((next e w.chip w.array).note ≡ 0)
      go (Sample s) h =
          let same = busy_sample s w.chip w.array b in (
            sample_array s w.chip w.array,
            ap (λ (m : Moved). m.chip.register) same,
            ap (λ (m : Moved). m.chip.wait) same,
            ap (λ (m : Moved). m.chip.busy) same ∙ b,
            ap (λ (m : Moved). m.note) same,
          )
      go ProgramDone h = absurd (false≢true h)
      go (PowerUp choices) h = absurd (false≢true h)

-- a busy chip does nothing over a row of samples
pub busy_still : (es : List Event) (w : World) → samples es ≡ true → w.chip.busy ≡ true → Still es w
unfolding stepped every notes
busy_still [] w s b = record { array = refl; register = refl; waiting = refl; busy = b; silent = refl }
busy_still (e ∷ es) w s b =
    let one = still_step e w (and_left (is_sample e) (samples es) s) b in
    let rest = busy_still es (step e w) (and_right (is_sample e) (samples es) s) one.3 in
    record {
      array = rest.array ∙ one.0;
      register = rest.register ∙ one.1;
      waiting = rest.waiting ∙ one.2;
      busy = rest.busy;
      silent = ap₂ (λ (n : ℕ) (l : List ℕ). n ∷ l) one.4 rest.silent;
    }

-- notes that are all 0 are of no cycle
none_begin : (n : ℕ) → cycles (replicate n 0) ≡ 0
unfolding cycles begins writes
none_begin zero = refl
none_begin (suc n) = zero-add (cycles (replicate n 0)) ∙ none_begin n

-- Between two program-dones or power-ups at most one cycle begins: in any row of which each event but the first is a sample
pub one_cycle : (e : Event) (es : List Event) (w : World) → samples es ≡ true → cycles (notes (e ∷ es) w) ≤ 1
unfolding notes cycles step note_of every
one_cycle e [] w s = one (begins (note_of e w))
  where
    one : (b : Bool) → weight b 1 + 0 ≤ 1
    one true = omega arith
    one false = omega arith
one_cycle e (f ∷ es) w s =
    go (begins (note_of e w)) refl (one_cycle f es (step e w) (and_right (is_sample f) (samples es) s))
  where
    go : (b : Bool) → begins (note_of e w) ≡ b → cycles (notes (f ∷ es) (step e w)) ≤ 1 → weight b 1 + cycles (notes (f ∷ es) (step e w)) ≤ 1
    go true b rest =
        let none : cycles (notes (f ∷ es) (step e w)) ≡ 0 = ap cycles (busy_still (f ∷ es) (step e w) s (cycling e w.chip w.array b)).silent ∙ none_begin (length (f ∷ es)) in
        omega arith
    go false b rest = omega arith
