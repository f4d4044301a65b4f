-- Laws of limits as numbers: their sixteen bits there and back, their range, and their difference.
-- Assumes nothing.
use mathlib.Core.Path.{◌≡◌, refl, sym, ap, ◌∙◌, subst}
use mathlib.Core.Bool.{true, false, false≢true}
use mathlib.Core.List.{[], ◌∷◌}
use Prim.Native.Nat.{ℕ, zero, suc, ◌+◌, ◌-◌, ◌/◌, ◌%◌, ◌≤◌, ◌<◌}
use native.Mathlib.Omega.{arith}
use borrow.Author.Tests.{ltb-true, ltb-false, leb-true, eqb-true, eq-eqb, lt-ltb, le-ltb, le-leb}
use lib.Dec.{eqb, leb, ltb}
use lib.IntN.{ℤ, pos, negsuc, neg_ℤ, nat_abs, sub_ℕ, ◌+ℤ◌, ◌-ℤ◌, -ℤ-+ℤ_cancel, +ℤ_idl}
use lib.Signed.{le_z, lt_z, nat_abs-le}
use mir.Syntax.{w16, w32}
use mir.Val.{SFits, to_z, of_z}
use mir.ValLaws.{to_z-of_z, to_z_pos}
use Rattle.gate.specs.Bytes.{pair, bytes16}
use Rattle.gate.specs.Limit.{in_range, same, bits16, signed16}
use Rattle.gate.proofs.Truth.{both_ways, by_test, and_left}

-- the difference of two naturals, by their order
pub sub_up : (a b : ℕ) → b ≤ a → sub_ℕ a b ≡ pos (a - b)
sub_up a b h = rw (le-ltb a b h)

pub sub_down : (a b : ℕ) → a < b → sub_ℕ a b ≡ negsuc (b - suc a)
sub_down a b h = rw (lt-ltb a b h)

-- `same` is equality
pub same_true : (a b : ℤ) → same a b ≡ true → a ≡ b
unfolding same
same_true (pos a) (pos b) e = ap pos (eqb-true a b e)
same_true (pos a) (negsuc b) e = absurd (false≢true e)
same_true (negsuc a) (pos b) e = absurd (false≢true e)
same_true (negsuc a) (negsuc b) e = ap negsuc (eqb-true a b e)

pub same_refl : (a : ℤ) → same a a ≡ true
unfolding same
same_refl (pos a) = eq-eqb a a refl
same_refl (negsuc a) = eq-eqb a a refl

pub true_same : (a b : ℤ) → a ≡ b → same a b ≡ true
true_same a b e = subst (λ (z : ℤ). same a z ≡ true) e (same_refl a)

-- and unequal numbers are not the same
pub same_false : (a b : ℤ) → (a ≡ b → ⊥) → same a b ≡ false
same_false a b apart = by_test (same a b) (λ e. absurd (apart (same_true a b e))) (λ e. e)

-- two numbers of 32 bits are equal where their bits are
pub same_bits : (a b : ℤ) → SFits w32 a → SFits w32 b → eqb (of_z w32 a) (of_z w32 b) ≡ same a b
same_bits a b fa fb =
    both_ways (eqb (of_z w32 a) (of_z w32 b)) (same a b)
    (λ e. true_same a b (sym (to_z-of_z w32 a fa) ∙ ap (to_z w32) (eqb-true (of_z w32 a) (of_z w32 b) e) ∙ to_z-of_z w32 b fb))
    (λ e. eq-eqb (of_z w32 a) (of_z w32 b) (ap (of_z w32) (same_true a b e)))

-- a limit in range is at most 30,000 either way
pub range_abs : (z : ℤ) → in_range z ≡ true → nat_abs z ≤ 30000
unfolding in_range
range_abs (pos n) e = leb-true n 30000 e
range_abs (negsuc n) e = omega (arith, leb-true n 29999 (and_left (leb n 29999) true e))

-- a limit in range has sixteen bits
pub bits_fit : (z : ℤ) → in_range z ≡ true → bits16 z < 0x10000
unfolding bits16
bits_fit (pos n) e = omega (arith, range_abs (pos n) e)
bits_fit (negsuc n) e = omega arith

-- a limit below 0 has the bits of a number 65,536 higher
pub bits_below : (z : ℤ) → lt_z z (pos 0) ≡ true → in_range z ≡ true → z +ℤ pos 65536 ≡ pos (bits16 z)
unfolding bits16
bits_below (pos n) t e = let h : n < 0 = ltb-true n 0 t in absurd (omega arith)
bits_below (negsuc n) t e = sub_up 65536 (suc n) (omega (arith, range_abs (negsuc n) e))

-- a limit from 0 up is its own bits
pub bits_above : (z : ℤ) → lt_z z (pos 0) ≡ false → z ≡ pos (bits16 z)
unfolding bits16
bits_above (pos n) t = refl
bits_above (negsuc n) t = absurd (false≢true (sym t))

-- a number below 65,536 is itself at 32 bits, signed
pub cast_bits : (k : ℕ) → k < 0x10000 → to_z w32 k ≡ pos k
cast_bits k h = to_z_pos w32 k (omega arith)

-- bits in the upper half stand for a number 65,536 lower
pub upper : (u : ℕ) → 0x8000 ≤ u → u < 0x10000 → to_z w32 u -ℤ pos 65536 ≡ negsuc (0x10000 - suc u)
upper u lo hi = rw (cast_bits u hi) (sub_down u 65536 hi)

-- such a number fits sixteen bits, and 32
pub upper_fits : (u : ℕ) → 0x8000 ≤ u → u < 0x10000 → SFits w16 (negsuc (0x10000 - suc u))
upper_fits u lo hi = record { sfits = omega arith }

pub upper_fits_wide : (u : ℕ) → 0x8000 ≤ u → u < 0x10000 → SFits w32 (negsuc (0x10000 - suc u))
upper_fits_wide u lo hi = record { sfits = omega arith }

-- what sixteen bits stand for, by halves
pub signed_lower : (u : ℕ) → u < 0x8000 → signed16 u ≡ pos u
unfolding signed16
signed_lower u h = rw (lt-ltb u 0x8000 h)

pub signed_upper : (u : ℕ) → 0x8000 ≤ u → signed16 u ≡ negsuc (0x10000 - suc u)
unfolding signed16
signed_upper u h = rw (le-ltb u 0x8000 h)

-- a difference is no larger than both numbers together
sub_abs : (a b : ℕ) → nat_abs (sub_ℕ a b) ≤ a + b
sub_abs a b =
    by_test (ltb a b)
    (λ e. rw (sub_down a b (ltb-true a b e)) (omega (arith, ltb-true a b e)))
    (λ e. rw (sub_up a b (ltb-false a b e)) (omega arith))

pub difference_abs : (a b : ℤ) → nat_abs (a -ℤ b) ≤ nat_abs a + nat_abs b
difference_abs (pos a) (pos zero) = omega arith
difference_abs (pos a) (pos (suc b)) = sub_abs a (suc b)
difference_abs (pos a) (negsuc b) = omega arith
difference_abs (negsuc a) (pos zero) = omega (arith, sub_abs 0 (suc a))
difference_abs (negsuc a) (pos (suc b)) = omega arith
difference_abs (negsuc a) (negsuc b) = omega (arith, sub_abs (suc b) (suc a))

-- what a signed width holds, by the number's size
pub abs_fits : (z : ℤ) → nat_abs z < 0x80000000 → SFits w32 z
abs_fits (pos n) h = record { sfits = h }
abs_fits (negsuc n) h = record { sfits = omega arith }

pub fits_abs : (z : ℤ) → SFits w16 z → nat_abs z ≤ 0x8000
fits_abs z f = nat_abs-le z f.sfits

-- a number of sixteen bits is one of 32
pub widen : (z : ℤ) → SFits w16 z → SFits w32 z
widen z f = abs_fits z (omega (arith, fits_abs z f))

-- and comes back from its bits, widened, as it was
pub wide_back : (z : ℤ) → SFits w16 z → to_z w32 (of_z w32 (to_z w16 (of_z w16 z))) ≡ z
wide_back z f = rw (to_z-of_z w16 z f) (to_z-of_z w32 z (widen z f))

pub wide_fits : (z : ℤ) → SFits w16 z → SFits w32 (to_z w16 (of_z w16 z))
wide_fits z f = rw (to_z-of_z w16 z f) (widen z f)

-- the difference of two numbers of sixteen bits is one of 32
pub difference_fits : (a b : ℤ) → SFits w16 a → SFits w16 b → SFits w32 (a -ℤ b)
difference_fits a b fa fb = abs_fits (a -ℤ b) (omega (arith, difference_abs a b, fits_abs a fa, fits_abs b fb))

-- a limit in range comes back from its bits
pub signed_bits : (z : ℤ) → in_range z ≡ true → signed16 (bits16 z) ≡ z
unfolding bits16
signed_bits (pos n) e = signed_lower n (omega (arith, range_abs (pos n) e))
signed_bits (negsuc n) e =
    let h : suc n ≤ 30000 = range_abs (negsuc n) e in
    let back : 0x10000 - suc (0x10000 - suc n) ≡ n = omega arith in
    signed_upper (0x10000 - suc n) (omega arith) ∙ ap negsuc back

-- and sixteen bits from the limit that they stand for
pub bits_signed : (u : ℕ) → u < 0x10000 → bits16 (signed16 u) ≡ u
unfolding bits16
bits_signed u h =
    by_test (ltb u 0x8000)
    (λ e. ap bits16 (signed_lower u (ltb-true u 0x8000 e)))
    (λ e. ap bits16 (signed_upper u (ltb-false u 0x8000 e)) ∙ omega arith)

-- two bytes are their sixteen bits, and sixteen bits are their two bytes
pub pair_bytes : (u : ℕ) → pair (u / 0x100) (u % 0x100) ≡ u
pair_bytes u = omega arith

pub bytes_pair : (high low : ℕ) → low < 0x100 → bytes16 (pair high low) ≡ high ∷ low ∷ []
bytes_pair high low h =
    let up : pair high low / 0x100 ≡ high = omega arith in
    let down : pair high low % 0x100 ≡ low = omega arith in
    rw (up, down)

-- equal limits are those whose difference is 0
pub zero_same : (a b : ℤ) → b -ℤ a ≡ pos 0 → same a b ≡ true
zero_same a b e = true_same a b (sym (+ℤ_idl a) ∙ ap (λ (z : ℤ). z +ℤ a) (sym e) ∙ -ℤ-+ℤ_cancel b a)

-- a number by its size lies between the two bounds of that size
pub abs_between : (z : ℤ) (k : ℕ) → nat_abs z ≤ k → (le_z (neg_ℤ (pos k)) z ≡ true) × (le_z z (pos k) ≡ true)
abs_between (pos n) zero h = (le-leb 0 n (omega arith), le-leb n 0 h)
abs_between (pos n) (suc k) h = (refl, le-leb n (suc k) h)
abs_between (negsuc n) zero h = absurd (omega arith)
abs_between (negsuc n) (suc k) h = (le-leb n k (omega arith), refl)
