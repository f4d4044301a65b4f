-- What recovery leaves: the array, the four register bits and what waits as they were, a chip in range, and on an idle one a START that it saw.
-- Assumes nothing.
use Prim.Native.Nat.{ℕ, zero, suc}
use mathlib.Core.Bool.{Bool, true, false}
use mathlib.Core.Path.{◌≡◌, refl, ◌∙◌, ap, subst}
use lib.ListN.{length}
use Rattle.parts.specs.Phase.{phase_pulls}
use Rattle.chip.specs.Chip.{chip_fits, pulls, with_levels}
use Rattle.chip.specs.Event.{next, next_array, sampled, judged, reacted, refusal}
use Rattle.chip.specs.Run.{World, world, step}
use Rattle.chip.specs.View.{SeesStart}
use Rattle.chip.specs.Wire.{sample}
use Rattle.chip.proofs.EventLaws.{taken_of, taken_so}
use Rattle.chip.proofs.Posed.{posed_so}
use Rattle.chip.proofs.RangeLaws.{next_fits}
use Rattle.recovery.specs.Recovery.{pulse, pulsed, freed, recovered}
use Rattle.recovery.specs.Pulses.{after_pulses, Unchanged}
use Rattle.recovery.proofs.Keeping.{Keeps, itself, and_then, world_with, pulse_keeps, start_edge, start_keeps}
use Rattle.recovery.proofs.TenPulses.{Counted, counted, ten_pulses}

-- pulses keep what one pulse keeps
pulses_keep : (n : ℕ) (pin : Bool) (w : World) → Keeps w (after_pulses n pin w)
unfolding after_pulses
pulses_keep zero pin w = itself w
pulses_keep (suc n) pin w = and_then w (pulse pin w) (after_pulses n pin (pulse pin w)) (pulse_keeps pin w) (pulses_keep n pin (pulse pin w))

-- they end with SCL high
pulses_clock : (n : ℕ) (pin : Bool) (w : World) → (after_pulses (suc n) pin w).chip.scl ≡ true
unfolding after_pulses pulse step next sampled
pulses_clock zero pin w = refl
pulses_clock (suc n) pin w = pulses_clock n pin (pulse pin w)

-- a world whose busy, SCL and line are known
known : (w : World) {busy scl line : Bool} → w.chip.busy ≡ busy → w.chip.scl ≡ scl → w.chip.line ≡ line → world_with w busy scl line ≡ w
known w b s l i = world (posed_so w.chip b s l refl i) w.array

-- recovery keeps what pulses and a START keep
recovered_keeps : (pin : Bool) (w : World) → Keeps w (recovered pin w)
unfolding recovered
recovered_keeps pin w = go (counted 9 1 pin w)
  where
    go : Counted 9 1 pin w (freed pin w) → Keeps w (recovered pin w)
    go c =
        let v : World = after_pulses (suc c.n) pin w in
        rw c.there
        (and_then w v (step (sample true false pin) v) (pulses_keep (suc c.n) pin w) (start_keeps pin v))

-- recovery changes no array byte, none of PPEN, BL, RPEL and PEL, no spoil byte and nothing that waits, whatever the chip
pub recovery_keeps : (pin : Bool) (w : World) → Unchanged w (recovered pin w)
recovery_keeps pin w =
    let k : Keeps w (recovered pin w) = recovered_keeps pin w in
    record { array = k.array; register = k.register; part = k.part; select = k.select; spoil = k.spoil; busy = k.busy; waiting = k.waiting }

-- pulses lead from a chip in range to one in range
pulses_fit : (n : ℕ) (pin : Bool) (w : World) → chip_fits w.chip ≡ true → chip_fits (after_pulses n pin w).chip ≡ true
unfolding after_pulses pulse step
pulses_fit zero pin w h = h
pulses_fit (suc n) pin w h =
    let v : World = step (sample false true pin) w in
    pulses_fit n pin (pulse pin w) (next_fits (sample true true pin) v.chip v.array (next_fits (sample false true pin) w.chip w.array h))

-- so does recovery
pub recovery_fits : (pin : Bool) (w : World) → chip_fits w.chip ≡ true → chip_fits (recovered pin w).chip ≡ true
unfolding recovered step
recovery_fits pin w h = go (counted 9 1 pin w)
  where
    go : Counted 9 1 pin w (freed pin w) → chip_fits (recovered pin w).chip ≡ true
    go c = next_fits (sample true false pin) (freed pin w).world.chip (freed pin w).world.array (rw c.there (pulses_fit (suc c.n) pin w h))

-- and after it nothing is refused that was not before
pub recovery_taken : (pin : Bool) (w : World) → refusal w.chip w.array ≡ 0 → refusal (recovered pin w).chip (recovered pin w).array ≡ 0
recovery_taken pin w h =
    let t = taken_of w.chip w.array h in
    taken_so (recovered pin w).chip (recovered pin w).array (ap length (recovery_keeps pin w).array ∙ t.0) (recovery_fits pin w t.1)

-- a busy chip reports 1 and ignores the START: it tracks the levels, and nothing else
pub busy_recovery : (pin : Bool) (w : World) → w.chip.busy ≡ true
    → ((freed pin w).pulses ≡ 1) × (recovered pin w ≡ world (with_levels w.chip true false) w.array)
busy_recovery pin w b =
    subst
    (λ (v : World). ((freed pin v).pulses ≡ 1) × (recovered pin v ≡ world (with_levels v.chip true false) v.array))
    (known w b refl refl)
    (unfold recovered pulsed pulse step next next_array sampled judged pulls in (refl, refl))

-- an idle chip with SCL and the line high sees the START
start_seen : (pin : Bool) (w : World) → SeesStart (step (sample true false pin) (world_with w false true true)).chip
unfolding step next sampled judged reacted pulls phase_pulls
start_seen pin w =
    rw (start_edge true (pulls (world_with w false true true).chip)) (record { idle = refl; phase = refl; load = refl; scl = refl; line = refl })

-- recovery leads an idle chip in range there
pub recovery_starts : (pin : Bool) (w : World) → chip_fits w.chip ≡ true → w.chip.busy ≡ false → SeesStart (recovered pin w).chip
unfolding recovered
recovery_starts pin w h b = go (counted 9 1 pin w)
  where
    go : Counted 9 1 pin w (freed pin w) → SeesStart (recovered pin w).chip
    go c =
        let v : World = (freed pin w).world in
        subst (λ (u : World). SeesStart (step (sample true false pin) u).chip)
        (known v
        (ap (λ (u : World). u.chip.busy) c.there ∙ (pulses_keep (suc c.n) pin w).busy ∙ b)
        (ap (λ (u : World). u.chip.scl) c.there ∙ pulses_clock c.n pin w)
        (ten_pulses pin w h))
        (start_seen pin v)
