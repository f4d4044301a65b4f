-- What a byte written to the register can do: nothing, write a latch, or let PPEN and BL wait where the pin allows it; and what its note then says.
-- Assumes nothing.
use Prim.Native.Nat.{ℕ, ◌/◌, ◌%◌}
use mathlib.Core.Bool.{Bool, true, false, not, ◌&&◌, ◌||◌, true≢false}
use mathlib.Core.Path.{◌≡◌, refl, sym, ◌∙◌}
use native.Mathlib.Omega.{arith}
use borrow.Author.Tests.{le-leb}
use lib.Dec.{eqb}
use Rattle.parts.specs.Register.{Written, written, latch_written, lock_written, written_as, with_pel, with_rpel, reserved}
use Rattle.parts.specs.declared.register.Register.{Register}
use Rattle.parts.specs.Wait.{target_fits, waits}
use Rattle.parts.specs.declared.wait.Target.TheVariants.{None, Locks}
use Rattle.parts.proofs.CondLaws.{cond_by}

-- what holds of a byte that is not taken, of each latch and of new locks holds of every byte
pub written_by : (P : Written → Type 0) (r : Register) (byte : ℕ) (pin : Bool) → P (written_as r None 6)
    → ((on : Bool) → P (written_as (with_pel r on) None 3)) → P (written_as (with_rpel r true) None 3)
    → ((r.ppen && pin) ≡ false → (ppen : Bool) → P (written_as (with_rpel r false) (Locks ppen (byte / 8 % 4)) 2))
    → P (written r byte pin)
unfolding written latch_written lock_written
written_by P r byte pin none pel rpel locks =
    cond_by P (reserved byte) (written_as r None 6) _ (λ e. none)
    (λ e. cond_by P r.rpel _ _
    (λ f. cond_by P (not (eqb (byte % 8) 0b010) || (r.ppen && pin)) (written_as r None 6) _ (λ g. none) (λ g. locks (or_right (not (eqb (byte % 8) 0b010)) (r.ppen && pin) g) _))
    (λ f. cond_by P (eqb byte 0x00) (written_as (with_pel r false) None 3) _ (λ g. pel false)
    (λ g. cond_by P (eqb byte 0x02) (written_as (with_pel r true) None 3) _ (λ h. pel true)
    (λ h. cond_by P (eqb byte 0x06 && r.pel) (written_as (with_rpel r true) None 3) (written_as r None 6) (λ i. rpel) (λ i. none)))))
  where
    or_right : (a b : Bool) → (a || b) ≡ false → b ≡ false
    or_right true b g = absurd (true≢false g)
    or_right false b g = g

-- PPEN and BL in force stay, whatever the byte
pub written_kept : (r : Register) (byte : ℕ) (pin : Bool) → ((written r byte pin).register.ppen ≡ r.ppen) × ((written r byte pin).register.bl ≡ r.bl)
written_kept r byte pin =
    written_by (λ w. (w.register.ppen ≡ r.ppen) × (w.register.bl ≡ r.bl)) r byte pin (refl, refl) (λ on. (refl, refl)) (refl, refl) (λ e ppen. (refl, refl))

-- a BL that waits is in its range, and no sector waits
pub written_fits : (r : Register) (byte : ℕ) (pin : Bool) → target_fits (written r byte pin).target ≡ true
unfolding target_fits
written_fits r byte pin = written_by (λ w. target_fits w.target ≡ true) r byte pin refl (λ on. refl) refl (λ e ppen. le-leb (byte / 8 % 4) 3 (omega arith))

-- with PPEN set and the pin high nothing waits
pub written_guarded : (r : Register) (byte : ℕ) (pin : Bool) → (r.ppen && pin) ≡ true → waits (written r byte pin).target ≡ false
unfolding waits
written_guarded r byte pin high =
    written_by (λ w. waits w.target ≡ false) r byte pin refl (λ on. refl) refl (λ e. absurd (true≢false (sym high ∙ e)))

-- what the note of a register byte says: 6 that nothing changed, 3 that only a latch did, 2 that a cycle begins and PEL stays; it is no other
pub record Noted (r : Register) (w : Written) : Type 0 where
  pub six : w.note ≡ 6 → (w.register ≡ r) × (waits w.target ≡ false)
  pub three : w.note ≡ 3 → waits w.target ≡ false
  pub two : w.note ≡ 2 → (w.register.rpel ≡ false) × (w.register.pel ≡ r.pel) × (waits w.target ≡ true)
  pub only : (w.note ≡ 2 → ⊥) → (w.note ≡ 3 → ⊥) → w.note ≡ 6

-- every byte's note does
pub written_noted : (r : Register) (byte : ℕ) (pin : Bool) → Noted r (written r byte pin)
unfolding waits
written_noted r byte pin =
    written_by (Noted r) r byte pin
    (record { six = λ e. (refl, refl); three = λ e. absurd (omega arith); two = λ e. absurd (omega arith); only = λ not2 not3. refl })
    (λ on. latched on)
    (record { six = λ e. absurd (omega arith); three = λ e. refl; two = λ e. absurd (omega arith); only = λ not2 not3. absurd (not3 refl) })
    (λ e ppen. record { six = λ f. absurd (omega arith); three = λ f. absurd (omega arith); two = λ f. (refl, refl, refl); only = λ not2 not3. absurd (not2 refl) })
  where
    latched : (on : Bool) → Noted r (written_as (with_pel r on) None 3)
    latched on = record { six = λ e. absurd (omega arith); three = λ e. refl; two = λ e. absurd (omega arith); only = λ not2 not3. absurd (not3 refl) }
