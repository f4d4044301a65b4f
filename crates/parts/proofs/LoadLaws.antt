-- The count of a load stays in its range. Assumes nothing.
use Prim.Native.Nat.{ℕ, ◌+◌, ◌≤◌}
use native.Mathlib.Omega.{arith}
use borrow.Author.Tests.{ltb-true}
use lib.Dec.{ltb}
use Rattle.parts.specs.Load.{loaded, counted}
use Rattle.parts.specs.declared.load.Load.{Load}
use Rattle.parts.proofs.CondLaws.{cond_by}

-- a count stays at most 33
pub counted_most : (n : ℕ) → counted n ≤ 33
counted_most n = cond_by (λ m. m ≤ 33) (ltb n 33) (n + 1) 33 (λ e. omega (arith, ltb-true n 33 e)) (λ e. omega arith)

-- a load with one byte more has a count in range
pub loaded_most : (load : Load) (at byte : ℕ) → (loaded load at byte).count ≤ 33
unfolding loaded
loaded_most load at byte = counted_most load.count
