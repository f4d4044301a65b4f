-- What a clock fall does while a bit other than the last is sent. Assumes nothing.
use Prim.Native.Nat.{ℕ, zero, suc, ◌-◌}
use mathlib.Core.Path.{◌≡◌, refl}
use mathlib.Core.List.{List}
use native.Mathlib.Numerals.{sub-one}
use Rattle.parts.specs.declared.phase.Phase.TheVariants.{Sending}
use Rattle.chip.specs.Transfer.{fall_in, quiet, at_phase}
use Rattle.chip.specs.declared.chip.Chip.{Chip}

-- the next lower bit, as the code counts
pub fall_bit : (bit byte : ℕ) (c : Chip) (xs : List ℕ) → (bit ≡ 0 → ⊥) → fall_in (Sending bit byte) c xs ≡ quiet (at_phase c (Sending (bit - 1) byte))
unfolding fall_in
fall_bit zero byte c xs h = absurd (h refl)
fall_bit (suc bit) byte c xs h = rw sub-one
