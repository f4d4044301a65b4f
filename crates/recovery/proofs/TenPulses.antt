-- Ten pulses free the line of every chip in range, and the number reported is that of the first high pulse. Assumes nothing.
use Prim.Native.Nat.{ℕ, zero, suc, ◌+◌, ◌≤◌, ◌<◌}
use mathlib.Core.Bool.{Bool, true, false, false≢true}
use mathlib.Core.Path.{◌≡◌, refl, sym, ◌∙◌}
use native.Mathlib.Omega.{arith}
use Rattle.parts.proofs.CondLaws.{cond_by}
use Rattle.chip.specs.Chip.{chip_fits}
use Rattle.chip.specs.Run.{World}
use Rattle.chip.proofs.FitLaws.{fits_of}
use Rattle.recovery.specs.Pulses.{after_pulses, FirstHigh}
use Rattle.recovery.specs.Recovery.{Freed, pulse, pulsed, freed}
use Rattle.recovery.proofs.Freeing.{Soon, frees}

-- where some pulse of those that may come leaves the line high, pulsing ends with a high line
reached : (left k : ℕ) (pin : Bool) (w : World) (n : ℕ) → n ≤ left → (after_pulses (suc n) pin w).chip.line ≡ true → (pulsed left k pin w).world.chip.line ≡ true
unfolding pulsed after_pulses
reached zero k pin w zero h e = e
reached zero k pin w (suc n) h e = absurd (omega arith)
reached (suc left) k pin w n h e =
    cond_by (λ (f : Freed). f.world.chip.line ≡ true) (pulse pin w).chip.line (record { world = pulse pin w; pulses = k }) (pulsed left (k + 1) pin (pulse pin w))
    (λ high. high)
    (later (reached left (k + 1) pin (pulse pin w)) n h e)
  where
    later : ((n : ℕ) → n ≤ left → (after_pulses (suc n) pin (pulse pin w)).chip.line ≡ true → (pulsed left (k + 1) pin (pulse pin w)).world.chip.line ≡ true)
        → (n : ℕ) → n ≤ suc left → (after_pulses (suc n) pin w).chip.line ≡ true → (pulse pin w).chip.line ≡ false → (pulsed left (k + 1) pin (pulse pin w)).world.chip.line ≡ true
    later rest zero h e low = absurd (false≢true (sym low ∙ e))
    later rest (suc n) h e low = rest n (omega arith) e

-- pulsing from number k on ends n pulses later, with a low line after each pulse before
pub record Counted (left k : ℕ) (pin : Bool) (w : World) (f : Freed) : Type 0 where
  pub n : ℕ
  pub most : n ≤ left
  pub number : f.pulses ≡ k + n
  pub there : f.world ≡ after_pulses (suc n) pin w
  pub low : (j : ℕ) → j < n → (after_pulses (suc j) pin w).chip.line ≡ false

-- `pulsed` does so
pub counted : (left k : ℕ) (pin : Bool) (w : World) → Counted left k pin w (pulsed left k pin w)
unfolding pulsed after_pulses
counted zero k pin w = record { n = 0; most = omega arith; number = omega arith; there = refl; low = λ j h. absurd (omega arith) }
counted (suc left) k pin w =
    cond_by (Counted (suc left) k pin w) (pulse pin w).chip.line (record { world = pulse pin w; pulses = k }) (pulsed left (k + 1) pin (pulse pin w))
    (λ high. record { n = 0; most = omega arith; number = omega arith; there = refl; low = λ j h. absurd (omega arith) })
    (λ low. later low (counted left (k + 1) pin (pulse pin w)))
  where
    later : (pulse pin w).chip.line ≡ false → Counted left (k + 1) pin (pulse pin w) (pulsed left (k + 1) pin (pulse pin w)) → Counted (suc left) k pin w (pulsed left (k + 1) pin (pulse pin w))
    later low c = record { n = suc c.n; most = omega arith; number = omega arith; there = c.there; low = lows }
      where
        lows : (j : ℕ) → j < suc c.n → (after_pulses (suc j) pin w).chip.line ≡ false
        lows zero h = low
        lows (suc j) h = c.low j (omega arith)

-- Ten pulses suffice: whatever the chip in range does, pulsing ends with a high line
pub ten_pulses : (pin : Bool) (w : World) → chip_fits w.chip ≡ true → (freed pin w).world.chip.line ≡ true
ten_pulses pin w h =
    let soon : Soon 9 pin w = frees pin w (fits_of w.chip h) in
    reached 9 1 pin w soon.0 soon.1 soon.2

-- the number reported is that of the first high pulse
pub first_high : (pin : Bool) (w : World) → chip_fits w.chip ≡ true → FirstHigh pin w (freed pin w).pulses (freed pin w).world
first_high pin w h = go (counted 9 1 pin w)
  where
    go : Counted 9 1 pin w (freed pin w) → FirstHigh pin w (freed pin w).pulses (freed pin w).world
    go c =
        record {
          at_least = omega arith;
          at_most = omega arith;
          there = rw number c.there;
          high = ten_pulses pin w h;
          low_before = lows;
        }
      where
        number : (freed pin w).pulses ≡ suc c.n
        number = omega arith

        lows : (j : ℕ) → 1 ≤ j → j < (freed pin w).pulses → (after_pulses j pin w).chip.line ≡ false
        lows zero h l = absurd (omega arith)
        lows (suc j) h l = c.low j (omega arith)
