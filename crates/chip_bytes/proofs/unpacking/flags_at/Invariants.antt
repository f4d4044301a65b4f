-- Before each turn the flags before the place are those of their bytes.
use Rattle.std.proofs.Common.{◌≡◌, ◌<◌, ℕ, length, get_or, false}
use Rattle.chip_bytes.specs.State.{flag_of}
use Rattle.chip_bytes.proofs.unpacking.flags_at.Given as goal

abbrev pub invariant-loop-place : goal.invariant-loop-place
invariant-loop-place l = (length l.flags ≡ 32) × ((k : ℕ) → k < l.place → get_or l.flags k false ≡ flag_of (get_or l.byte-items k 0))
