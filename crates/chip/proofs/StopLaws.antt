-- The four effects of a stop, each with what it takes to come to it; while the chip pulls, none of them writes. Assumes nothing.
use Prim.Native.Nat.{ℕ}
use mathlib.Core.Bool.{Bool, true, false, not, false≢true}
use mathlib.Core.Path.{◌≡◌, refl}
use borrow.Author.Tests.{eqb-false}
use lib.Dec.{eqb}
use lib.ListN.{get_or}
use Rattle.parts.specs.Locks.{locked}
use Rattle.parts.specs.Phase.{phase_pulls}
use Rattle.parts.specs.Register.{written}
use Rattle.parts.specs.Sector.{sector_start}
use Rattle.parts.specs.declared.phase.Phase.{Phase}
use Rattle.parts.specs.declared.phase.Phase.TheVariants.{Standby, Slave, First, Second, Data, AckWrite, AckRead, AckFirst, AckByte, Sending, Waiting, Next}
use Rattle.parts.proofs.CondLaws.{cond_by, and_right}
use Rattle.chip.specs.Chip.{pulls}
use Rattle.chip.specs.Part.{marked, partial}
use Rattle.chip.specs.Stop.{Effect, Nothing, Change, Store, Spoil, stop_effect, right_effect, array_effect, rightly}
use Rattle.chip.specs.Transfer.{drop_note}
use Rattle.chip.specs.View.{mute, Writable}
use Rattle.chip.specs.declared.chip.Chip.{Chip}

-- a dropped load's note says nothing of a write
pub drop_mute : (c : Chip) → mute (drop_note c) ≡ true
unfolding mute
drop_mute c = cond_by (λ note. mute note ≡ true) (eqb c.load.count 0) 0 7 (λ e. refl) (λ e. refl)

-- what holds of nothing, of the register byte, of the store and of the spoil holds of a stop's effect
pub stop_by : (P : Effect → Type 0) (c : Chip) (pin : Bool) → ((note : ℕ) → mute note ≡ true → P (Nothing note))
    → (rightly c.phase ≡ true → (c.load.count ≡ 0 → ⊥) → marked c.part c.mark ≡ true → P (Change (written c.register (get_or c.load.bytes 0 0) pin)))
    → (rightly c.phase ≡ true → (c.load.count ≡ 0 → ⊥) → Writable c pin → partial c.part c.load.count ≡ false → P Store)
    → (rightly c.phase ≡ true → (c.load.count ≡ 0 → ⊥) → Writable c pin → partial c.part c.load.count ≡ true → P Spoil)
    → P (stop_effect c pin)
unfolding stop_effect right_effect array_effect mute
stop_by P c pin nothing change store spoil =
    cond_by P (rightly c.phase) (right_effect c pin) (Nothing (drop_note c))
    (λ right. cond_by P (eqb c.load.count 0) (Nothing 0) _ (λ none. nothing 0 refl)
    (λ some. cond_by P (marked c.part c.mark) (Change (written c.register (get_or c.load.bytes 0 0) pin)) (array_effect c pin)
    (change right (eqb-false c.load.count 0 some))
    (λ unmarked. cond_by P (locked c.part c.register.bl pin (sector_start c.counter)) (Nothing 4) _ (λ shut. nothing 4 refl)
    (λ unlocked. cond_by P (partial c.part c.load.count) Spoil Store
    (spoil right (eqb-false c.load.count 0 some) (record { unmarked = unmarked; unlocked = unlocked }))
    (store right (eqb-false c.load.count 0 some) (record { unmarked = unmarked; unlocked = unlocked }))))))
    (λ wrong. nothing (drop_note c) (drop_mute c))

-- a stop is rightly placed only where the chip does not pull
pulling_wrong : (p : Phase) → phase_pulls p ≡ true → rightly p ≡ false
unfolding rightly phase_pulls
pulling_wrong Standby pulling = refl
pulling_wrong (Slave bits got) pulling = refl
pulling_wrong (First bits got) pulling = refl
pulling_wrong (Second high bits got) pulling = refl
pulling_wrong (Data bits got) pulling = absurd (false≢true pulling)
pulling_wrong AckWrite pulling = refl
pulling_wrong AckRead pulling = refl
pulling_wrong (AckFirst high) pulling = refl
pulling_wrong AckByte pulling = refl
pulling_wrong (Sending bit byte) pulling = refl
pulling_wrong Waiting pulling = refl
pulling_wrong Next pulling = refl

-- so a rule of its own for a stop while the chip pulls would say what the others say
pub pulling_nothing : (c : Chip) (pin : Bool) → pulls c ≡ true → stop_effect c pin ≡ Nothing (drop_note c)
unfolding stop_effect pulls
pulling_nothing c pin pulling = rw (pulling_wrong c.phase (and_right (not c.busy) (phase_pulls c.phase) pulling))
