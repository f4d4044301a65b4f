-- The range of a chip as a record over its fields, so that what changes other fields keeps it. Assumes nothing.
use Prim.Native.Nat.{ℕ, ◌≤◌}
use mathlib.Core.Bool.{Bool, true, false, ◌&&◌}
use mathlib.Core.Path.{◌≡◌, refl}
use native.Mathlib.Omega.{arith}
use borrow.Author.Tests.{leb-true, le-leb}
use lib.Dec.{leb}
use Rattle.parts.specs.Phase.{phase_fits}
use Rattle.parts.specs.declared.phase.Phase.{Phase}
use Rattle.parts.specs.Wait.{target_fits, locks_taken}
use Rattle.parts.specs.declared.wait.Target.{Target}
use Rattle.parts.proofs.CondLaws.{cond_by, and_left, and_right}
use Rattle.parts.proofs.WaitLaws.{taken_bl}
use Rattle.chip.specs.Chip.{Made, chip_fits, cut_register, power_up, new_chip, at_power_up, made}
use Rattle.chip.specs.declared.chip.Chip.{Chip}

-- the seven ranges that refusal 2 looks at
pub record Within (p s b k : ℕ) (at : Phase) (n : ℕ) (t : Target) : Type 0 where
  pub part : p ≤ 2
  pub select : s ≤ 7
  pub bl : b ≤ 3
  pub counter : k ≤ 0x3fff
  pub phase : phase_fits at ≡ true
  pub count : n ≤ 33
  pub target : target_fits t ≡ true

-- a chip in range
abbrev pub Fits : Chip → Type 0
Fits c = Within c.part c.select c.register.bl c.counter c.phase c.load.count c.wait.target

-- seven tests that pass together pass each
seven : (a b c d e f g : Bool) → (a && b && c && d && e && f && g) ≡ true
    → (a ≡ true) × (b ≡ true) × (c ≡ true) × (d ≡ true) × (e ≡ true) × (f ≡ true) × (g ≡ true)
seven a b c d e f g h =
    let h₆ = and_left (a && b && c && d && e && f) g h in
    let h₅ = and_left (a && b && c && d && e) f h₆ in
    let h₄ = and_left (a && b && c && d) e h₅ in
    let h₃ = and_left (a && b && c) d h₄ in
    let h₂ = and_left (a && b) c h₃ in
    (and_left a b h₂, and_right a b h₂, and_right (a && b) c h₃, and_right (a && b && c) d h₄, and_right (a && b && c && d) e h₅, and_right (a && b && c && d && e) f h₆, and_right (a && b && c && d && e && f) g h)

-- a chip that passes the test of refusal 2 is in range
pub fits_of : (c : Chip) → chip_fits c ≡ true → Fits c
unfolding chip_fits
fits_of c h =
    let t = seven (leb c.part 2) (leb c.select 7) (leb c.register.bl 3) (leb c.counter 0x3fff) (phase_fits c.phase) (leb c.load.count 33) (target_fits c.wait.target) h in
    record {
      part = leb-true c.part 2 t.0;
      select = leb-true c.select 7 t.1;
      bl = leb-true c.register.bl 3 t.2;
      counter = leb-true c.counter 0x3fff t.3;
      phase = t.4;
      count = leb-true c.load.count 33 t.5;
      target = t.6;
    }

-- a chip in range passes it
pub fits_so : (c : Chip) → Fits c → chip_fits c ≡ true
unfolding chip_fits
fits_so c f = rw (le-leb _ _ f.part, le-leb _ _ f.select, le-leb _ _ f.bl, le-leb _ _ f.counter, f.phase, le-leb _ _ f.count, f.target)

-- a chip at power-up is in range if its part, select and BL are
pub up_fits : (part select : ℕ) (ppen : Bool) (bl spoil : ℕ) → part ≤ 2 → select ≤ 7 → bl ≤ 3 → Fits (at_power_up part select ppen bl spoil)
unfolding phase_fits target_fits
up_fits part select ppen bl spoil p s b = record { part = p; select = s; bl = b; counter = omega arith; phase = refl; count = omega arith; target = refl }

-- a new chip is in range
pub new_fits : (part select : ℕ) → part ≤ 2 → select ≤ 7 → chip_fits (new_chip part select) ≡ true
new_fits part select p s = fits_so (new_chip part select) (up_fits part select false 0 0xff p s (omega arith))

-- a cycle that ends leaves BL in its range
pub cut_bl : (choices : ℕ) (c : Chip) → Fits c → (cut_register choices c).bl ≤ 3
unfolding cut_register
cut_bl choices c f =
    cond_by (λ r. r.bl ≤ 3) c.busy (locks_taken c.wait.target choices c.register) c.register
    (λ b. taken_bl c.wait.target choices c.register f.target f.bl) (λ b. f.bl)

-- a chip in range is in range after a power-up
pub power_fits : (choices : ℕ) (c : Chip) → Fits c → Fits (power_up choices c)
power_fits choices c f = up_fits c.part c.select (cut_register choices c).ppen (cut_register choices c).bl c.spoil f.part f.select (cut_bl choices c f)

-- whatever part and select are asked for, the chip that is made is in range
pub made_fits : (part select : ℕ) → chip_fits (made part select).chip ≡ true
unfolding made
made_fits part select =
    cond_by Fit (leb part 2 && leb select 7) _ _
    (λ b. new_fits part select (leb-true part 2 (and_left (leb part 2) _ b)) (leb-true select 7 (and_right (leb part 2) _ b)))
    (λ b. new_fits 1 0 (omega arith) (omega arith))
  where
    Fit : Made → Type 0
    Fit m = chip_fits m.chip ≡ true
