-- Power lost in the cycle, on runs from power-up: a chip is busy exactly where something waits, no sector waits that is locked whatever the pin, and so no event
-- changes a byte that is; a cut leaves every byte outside the waiting sector, and in it each byte is old or, at a loaded and chosen place, new. Assumes nothing.
use Prim.Native.Nat.{ℕ, ◌/◌, ◌%◌, ◌<◌}
use mathlib.Core.Bool.{true, false, cond}
use mathlib.Core.Path.{◌≡◌}
use lib.ListN.{length, get_or}
use Rattle.parts.specs.Locks.{locked}
use Rattle.parts.specs.Wait.{taking}
use Rattle.parts.specs.declared.wait.Target.TheVariants.{Sector}
use Rattle.chip.specs.Chip.{at_power_up}
use Rattle.chip.specs.Event.{next_array}
use Rattle.chip.specs.Run.{World, world, step}
use Rattle.chip.specs.View.{SoundChip}
use Rattle.chip.specs.declared.wire.Event.{Event}
use Rattle.chip.specs.declared.wire.Event.TheVariants.{PowerUp}
use Rattle.chip.proofs.CutLaws.{cut_outside, cut_inside}
use Rattle.chip.proofs.LockLaws.{up_sound, sound_open, locked_kept}
use Rattle.chip.proofs.RunLaws.{ran_sound}
use Rattle.promises.specs.Demand3.{FromPowerUp}

-- C16, U9: busy exactly where something waits, and no sector waits that is locked whatever the pin
pub run_sound : (w : World) → FromPowerUp w → SoundChip w.chip
run_sound w f =
    rw f.after_run
    (ran_sound f.run (world (at_power_up f.part f.select f.ppen f.bl f.spoil) f.array) (up_sound f.part f.select f.ppen f.bl f.spoil))

-- S8: so a byte that is locked with the pin low, and so whatever the pin, is kept by the next event, whatever it is
pub run_locked : (e : Event) (w : World) → FromPowerUp w → (a : ℕ) → locked w.chip.part w.chip.register.bl false a ≡ true → get_or (step e w).array a 0 ≡ get_or w.array a 0
unfolding step
run_locked e w f a shut = locked_kept false e w.chip w.array (sound_open w.chip (run_sound w f)) a shut

module _ (choices : ℕ) (w : World) where
  -- U7: a power-up keeps every byte outside the waiting sector
  pub power_outside : (a : ℕ) → (w.chip.wait.target ≡ Sector (a / 32) → ⊥) → get_or (step (PowerUp choices) w).array a 0 ≡ get_or w.array a 0
  unfolding step next_array
  power_outside a other = cut_outside choices w.chip w.array a other

  -- U7: in it each byte is new where its place is loaded and chosen, and old elsewhere
  pub power_inside : (a : ℕ) → w.chip.busy ≡ true → w.chip.wait.target ≡ Sector (a / 32) → a < length w.array
      → get_or (step (PowerUp choices) w).array a 0 ≡ cond (taking w.chip.wait.places choices (a % 32)) (get_or w.chip.wait.bytes (a % 32) 0) (get_or w.array a 0)
  unfolding step next_array
  power_inside a busy here within = cut_inside choices w.chip w.array a busy here within
