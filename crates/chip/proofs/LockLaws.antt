-- What a lock and the protect pin keep over one event, of every part; from power-up a chip is busy exactly where something waits, and no sector waits that is locked
-- whatever the pin. Assumes nothing.
use Prim.Native.Nat.{ℕ, ◌*◌, ◌/◌}
use mathlib.Core.Bool.{Bool, true, false, not, true≢false, false≢true}
use mathlib.Core.Path.{◌≡◌, refl, sym, ap, subst, ◌∙◌}
use mathlib.Core.List.{List}
use native.Mathlib.Decide.{ℕ_discrete}
use lib.ListN.{get_or}
use Rattle.parts.specs.Locks.{locked}
use Rattle.parts.specs.Register.{has_register, written}
use Rattle.parts.specs.Sector.{sector_start}
use Rattle.parts.specs.Wait.{waits}
use Rattle.parts.specs.declared.register.Register.{Register}
use Rattle.parts.specs.declared.wait.Target.TheVariants.{Sector}
use Rattle.parts.specs.declared.wait.Wait.{Wait}
use Rattle.parts.proofs.CondLaws.{and_right}
use Rattle.parts.proofs.LockLaws.{locked_from_start, open_low}
use Rattle.parts.proofs.RegisterLaws.{written_by, written_kept, written_guarded}
use Rattle.chip.specs.Chip.{at_power_up, cut_register}
use Rattle.chip.specs.Event.{next, next_array}
use Rattle.chip.specs.Stop.{effect_moved, wait_or}
use Rattle.chip.specs.View.{is_sample, pin_high, is_locks, open_to, byte_written, Touched, Sound, SoundChip, PinGuards}
use Rattle.chip.specs.declared.chip.Chip.{Chip}
use Rattle.chip.specs.declared.wire.Event.{Event}
use Rattle.chip.proofs.CutLaws.{cut_register_law, touched}
use Rattle.chip.proofs.StepLaws.{next_by}
use Rattle.chip.proofs.ViewLaws.{next_told}

-- in a cycle of the chip no sector waits that is locked with the pin at this level
abbrev pub Open : Bool → Chip → Type 0
Open pin c = c.busy ≡ true → open_to c.part c.register.bl pin c.wait.target ≡ true

-- and no register byte
abbrev pub NoLocks : Chip → Type 0
NoLocks c = c.busy ≡ true → is_locks c.wait.target ≡ false

-- S8: a byte that is locked at a level of the pin stays over every event, unless a sector waits that is locked at it
pub locked_kept : (pin : Bool) (e : Event) (c : Chip) (xs : List ℕ) → Open pin c → (a : ℕ) → locked c.part c.register.bl pin a ≡ true → get_or (next_array e c xs) a 0 ≡ get_or xs a 0
unfolding open_to
locked_kept pin e c xs open' a shut = go (ℕ_discrete (get_or (next_array e c xs) a 0) (get_or xs a 0))
  where
    clash : Touched e c a (get_or (next_array e c xs) a 0) → ⊥
    clash t =
        let unlocked : not (locked c.part c.register.bl pin (a / 32 * 32)) ≡ true = ap (open_to c.part c.register.bl pin) (sym t.sector) ∙ open' t.cycle in
        false≢true (ap not (sym (locked_from_start c.part c.register.bl pin a ∙ shut)) ∙ unlocked)

    go : Dec (get_or (next_array e c xs) a 0 ≡ get_or xs a 0) → get_or (next_array e c xs) a 0 ≡ get_or xs a 0
    go (yes same) = same
    go (no new) = absurd (clash (touched e c xs a new))

-- S8: where the counter's sector is locked, no store in it begins and no spoil
pub locked_unspoilt : (e : Event) (c : Chip) (xs : List ℕ) → locked c.part c.register.bl (pin_high e) (sector_start c.counter) ≡ true
    → ((next e c xs).note ≡ 1 → ⊥) × ((next e c xs).note ≡ 5 → ⊥)
locked_unspoilt e c xs shut =
    let told = next_told e c xs in (
      λ n. true≢false (sym shut ∙ (told.one n).cycle.writable.unlocked),
      λ n. true≢false (sym shut ∙ (told.five n).cycle.writable.unlocked),
    )

-- U9: a cycle's end leaves the register unless PPEN and BL wait
pub cut_same : (choices : ℕ) (c : Chip) → NoLocks c → cut_register choices c ≡ c.register
cut_same choices c none = cut_register_law choices c (λ r. r ≡ c.register) refl (λ b waiting. absurd (false≢true (sym (none b) ∙ waiting)))

-- U9: PPEN and BL in force stay over every event but the end of a cycle for which they wait
pub locks_kept : (e : Event) (c : Chip) (xs : List ℕ) → (is_sample e ≡ false → NoLocks c)
    → ((next e c xs).chip.register.ppen ≡ c.register.ppen) × ((next e c xs).chip.register.bl ≡ c.register.bl)
unfolding effect_moved is_sample
locks_kept e c xs none =
    next_by (λ m ys. Same m.chip.register) e c xs
    (λ m ys scl line same. same)
    (λ phase counter mark load note m. (refl, refl))
    (λ stopped marks. written_kept c.register (get_or c.load.bytes 0 0) (pin_high e))
    (λ short counted stopped writable. (refl, refl))
    (λ done busy. ended _ (none (ap is_sample done)), λ up. ended _ (none (ap is_sample up)))
  where
    Same : Register → Type 0
    Same r = (r.ppen ≡ c.register.ppen) × (r.bl ≡ c.register.bl)

    ended : (choices : ℕ) → NoLocks c → Same (cut_register choices c)
    ended choices free = let same = cut_same choices c free in (ap (λ (r : Register). r.ppen) same, ap (λ (r : Register). r.bl) same)

-- a cycle of the array begins for a sector that is not locked at the pin of its STOP
pub began_open : (part bl : ℕ) (pin : Bool) (counter : ℕ) → locked part bl pin (sector_start counter) ≡ false → open_to part bl pin (Sector (counter / 32)) ≡ true
unfolding open_to
began_open part bl pin counter unlocked = ap not unlocked

-- with the pin high and a chip that it guards, what waits after an event, where it did so before, locks nothing and is in no locked sector
pub guarded_wait : (e : Event) (c : Chip) (xs : List ℕ) → PinGuards c → pin_high e ≡ true → Open true c → NoLocks c
    → ((next e c xs).chip.busy ≡ true → open_to c.part c.register.bl true (next e c xs).chip.wait.target ≡ true)
    × ((next e c xs).chip.busy ≡ true → is_locks (next e c xs).chip.wait.target ≡ false)
unfolding effect_moved is_locks
guarded_wait e c xs guarded high open' none =
    next_by (λ m ys. (m.chip.busy ≡ true → open_to c.part c.register.bl true m.chip.wait.target ≡ true) × (m.chip.busy ≡ true → is_locks m.chip.wait.target ≡ false)) e c xs
    (λ m ys scl line same. same)
    (λ phase counter mark load note m. (open', none))
    (λ stopped marks.
    let idle = written_guarded c.register (get_or c.load.bytes 0 0) (pin_high e) (rw (guarded (and_right c.mark (has_register c.part) marks), high) refl) in
    (λ busy. absurd (false≢true (sym idle ∙ busy)), λ busy. absurd (false≢true (sym idle ∙ busy))))
    (λ short counted stopped writable. (λ busy. began_open c.part c.register.bl true c.counter (rw high at writable.unlocked), λ busy. refl))
    (λ done cycle. (λ busy. absurd (false≢true busy), λ busy. absurd (false≢true busy)), λ up. (λ busy. absurd (false≢true busy), λ busy. absurd (false≢true busy)))

-- C16: a chip at power-up has nothing that waits and is idle
pub up_sound : (part select : ℕ) (ppen : Bool) (bl spoil : ℕ) → SoundChip (at_power_up part select ppen bl spoil)
unfolding waits open_to
up_sound part select ppen bl spoil = record { cycle = refl; unlocked = refl }

-- a register byte at a stop lets its PPEN and BL wait and makes the chip busy, or leaves an idle chip as it was
changed_sound : (part bl : ℕ) (r : Register) (byte : ℕ) (pin : Bool) (old : Wait) → Sound part bl false old.target
    → Sound part bl (waits (written r byte pin).target) (wait_or (written r byte pin).target old).target
unfolding waits open_to
changed_sound part bl r byte pin old sound =
    written_by (λ w. Sound part bl (waits w.target) (wait_or w.target old).target) r byte pin sound (λ on. sound) sound
    (λ free ppen. record { cycle = refl; unlocked = refl })

-- C16, U9: an event leaves a chip that is busy exactly where something waits, with no sector waiting that is locked whatever the pin, another such
pub next_sound : (e : Event) (c : Chip) (xs : List ℕ) → SoundChip c → SoundChip (next e c xs).chip
unfolding effect_moved
next_sound e c xs sound =
    next_by (λ m ys. SoundChip m.chip) e c xs
    (λ m ys scl line same. same)
    (λ phase counter mark load note m. sound)
    (λ stopped marks.
    subst (λ (bl : ℕ). Sound c.part bl (waits (byte_written e c).target) (wait_or (byte_written e c).target c.wait).target) (sym (written_kept c.register (get_or c.load.bytes 0 0) (pin_high e)).1)
    (changed_sound c.part c.register.bl c.register (get_or c.load.bytes 0 0) (pin_high e) c.wait (subst (λ (busy : Bool). Sound c.part c.register.bl busy c.wait.target) stopped.idle sound)))
    (λ short counted stopped writable. unfold waits in record { cycle = refl; unlocked = began_open c.part c.register.bl false c.counter (open_low c.part c.register.bl (pin_high e) (sector_start c.counter) writable.unlocked) })
    (λ done busy. unfold waits open_to in record { cycle = refl; unlocked = refl }, λ up. unfold waits open_to in record { cycle = refl; unlocked = refl })

-- such a chip has no sector waiting that is locked whatever the pin
pub sound_open : (c : Chip) → SoundChip c → Open false c
sound_open c sound busy = sound.unlocked
