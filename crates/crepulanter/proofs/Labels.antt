-- The label's length that reading gives fits a byte. Assumes nothing.
use Prim.Native.Nat.{ℕ, ◌≤◌}
use mathlib.Core.Path.{◌≡◌, refl}
use mathlib.Core.List.{List}
use native.Mathlib.Omega.{arith}
use Rattle.gate.specs.Reading.{read_of}
use Rattle.gate.specs.Answer.{Read, Good, Free, Refused, given_of}
use Rattle.gate.proofs.Answers.{good_length}

short_of : (bytes : List ℕ) (r : Read) → read_of bytes ≡ r → (given_of r).length ≤ 24
short_of bytes (Good c o t n) e = (good_length bytes e).1
short_of bytes Free e = omega arith
short_of bytes (Refused k) e = omega arith

pub given_short : (bytes : List ℕ) → (given_of (read_of bytes)).length ≤ 24
given_short bytes = short_of bytes (read_of bytes) refl
