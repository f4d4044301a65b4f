-- Before each turn the bytes before the place are those of their flags.
use Rattle.std.proofs.Common.{◌≡◌, ◌<◌, ℕ, length, get_or, false}
use Rattle.chip_bytes.specs.State.{flag_byte}
use Rattle.chip_bytes.proofs.packing.flag_bytes.Given as goal

abbrev pub invariant-loop-place : goal.invariant-loop-place
invariant-loop-place l = (length l.bytes ≡ 32) × ((k : ℕ) → k < l.place → get_or l.bytes k 0 ≡ flag_byte (get_or l.flags k false))
