-- What a part without a register does not ask: the mark, PEL, and with the pin low the lock. Assumes nothing.
use Prim.Native.Nat.{ℕ}
use mathlib.Core.Bool.{Bool, true, false, not}
use mathlib.Core.Path.{◌≡◌, refl, ap}
use Rattle.parts.specs.Locks.{locked}
use Rattle.parts.specs.Register.{has_register}
use Rattle.chip.specs.Part.{marked, enabled}

module _ (part : ℕ) (none : has_register part ≡ false) where
  -- the array is selected, whatever the mark
  pub unmarked : (mark : Bool) → marked part mark ≡ false
  unmarked true = none
  unmarked false = refl

  -- data is taken, whatever PEL
  pub always_enabled : (pel : Bool) → enabled part pel ≡ true
  always_enabled true = refl
  always_enabled false = ap not none

  -- BL locks nothing
  pub locked_by_pin : (bl other : ℕ) (pin : Bool) (a : ℕ) → locked part bl pin a ≡ locked part other pin a
  locked_by_pin bl other pin a = rw none

  -- and the pin low neither
  pub pin_low : (bl a : ℕ) → locked part bl false a ≡ false
  pin_low bl a = rw none
