-- Theorems in numbers and values: what was written is given back with number 0, and whatever is not good gives zeros.
-- Assumes nothing.
use mathlib.Core.Path.{◌≡◌, refl, ap}
use mathlib.Core.Bool.{true, false, true≢false}
use mathlib.Core.List.{List}
use Prim.Native.Nat.{ℕ}
use borrow.Author.Tests.{eq-eqb, ne_eqb}
use lib.IntN.{ℤ, pos}
use lib.ListN.{length}
use Rattle.gate.specs.Limit.{travel_of}
use Rattle.gate.specs.Writing.{write_of, written_of}
use Rattle.gate.specs.Reading.{is_free, read_of}
use Rattle.gate.specs.Answer.{Read, Good, Free, Refused, zeros_of, given_of, is_good}
use Rattle.gate.proofs.RoundTrip.{written_read}
use Rattle.gate.proofs.Outcomes.{travel_not_zero}

-- what was written is given back: number 0, both limits, the travel and the length
pub written_given : (buffer : List ℕ) (closed opened : ℤ) (label : List ℕ) → write_of buffer closed opened label ≡ 0 → given_of (read_of (written_of buffer closed opened label)) ≡ record { number = 0; closed = closed; opened = opened; travel = travel_of closed opened; length = length label }
written_given buffer closed opened label taken = ap given_of (written_read buffer closed opened label taken)

-- a free record gives number 0 and zeros
pub free_given : (bytes : List ℕ) → length bytes ≡ 32 → is_free bytes ≡ true → given_of (read_of bytes) ≡ zeros_of 0
unfolding read_of
free_given bytes size free = rw (eq-eqb (length bytes) 32 size, free)

-- any other number of bytes than 32 gives 7 and zeros
pub size_given : (bytes : List ℕ) → (length bytes ≡ 32 → ⊥) → given_of (read_of bytes) ≡ zeros_of 7
unfolding read_of
size_given bytes size = rw (ne_eqb (length bytes) 32 size)

-- what is not good gives its number and zeros
pub not_good_zeros : (r : Read) → is_good r ≡ false → given_of r ≡ zeros_of (given_of r).number
not_good_zeros (Good c o t n) e = absurd (true≢false e)
not_good_zeros Free e = refl
not_good_zeros (Refused k) e = refl

-- the travel is 0 only where the record is not good
pub zero_travel : (bytes : List ℕ) → (given_of (read_of bytes)).travel ≡ pos 0 → is_good (read_of bytes) ≡ false
zero_travel bytes e = from (read_of bytes) refl e
  where
    from : (r : Read) → read_of bytes ≡ r → (given_of r).travel ≡ pos 0 → is_good r ≡ false
    from (Good c o t n) same e = absurd (travel_not_zero bytes same e)
    from Free same e = refl
    from (Refused k) same e = refl
