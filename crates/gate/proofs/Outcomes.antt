-- Reading 32 bytes has exactly one of five outcomes, a good record is not free, and its travel lies in -60,000..60,000 and is not 0.
-- Assumes nothing.
use mathlib.Core.Path.{◌≡◌, refl, sym, ◌∙◌}
use mathlib.Core.Bool.{true, false, not, true≢false}
use mathlib.Core.List.{List}
use Prim.Native.Nat.{ℕ}
use native.Mathlib.Omega.{arith}
use borrow.Author.Tests.{eq-eqb}
use lib.Dec.{eqb}
use lib.IntN.{ℤ, pos, neg_ℤ}
use lib.ListN.{length, take}
use lib.Signed.{le_z}
use Rattle.gate.specs.Bytes.{total}
use Rattle.gate.specs.Limit.{in_range, same, limits_refusal, travel_of}
use Rattle.gate.specs.Reading.{closed_at, opened_at, state_at, sum_at, is_free, label_fits, content_of, read_of}
use Rattle.gate.specs.Answer.{Read, Good, outcomes}
use Rattle.gate.proofs.Truth.{cond_by}
use Rattle.gate.proofs.Numbers.{range_abs, difference_abs, abs_between, zero_same}
use Rattle.gate.proofs.Writes.{limits_good}
use Rattle.gate.proofs.Answers.{good_passed}

-- every 32 bytes are exactly one of good, free, refused 12, 13 and 14
pub one_outcome : (bytes : List ℕ) → length bytes ≡ 32 → outcomes (read_of bytes) ≡ 1
unfolding read_of content_of
one_outcome bytes size =
    let One : Read → Type 0 = λ r. outcomes r ≡ 1 in
    rw (eq-eqb (length bytes) 32 size)
    (cond_by One (is_free bytes) refl
    (cond_by One (not (eqb (state_at bytes) 0xa5)) refl
    (cond_by One (not (eqb (sum_at bytes) (total (take 30 bytes)))) refl
    (cond_by One (not (label_fits bytes)) refl
    (cond_by One (not (eqb (limits_refusal (closed_at bytes) (opened_at bytes)) 0)) refl refl)))))

module _ {c o t : ℤ} {n : ℕ} (bytes : List ℕ) (good : read_of bytes ≡ Good c o t n) where
  -- a good record is never free
  pub good_not_free : is_free bytes ≡ false
  good_not_free = (good_passed bytes good).0.used

  -- the limits of a good record
  limits : (in_range c ≡ true) × ((in_range o ≡ true) × (same c o ≡ false))
  limits =
      let p = good_passed bytes good in
      let sc : closed_at bytes ≡ c = cc p.1 in
      let so : opened_at bytes ≡ o = cc p.1 in
      limits_good c o (rw (sc, so) at p.0.limited)

  -- its travel is open minus closed
  pub good_travel : t ≡ travel_of c o
  good_travel =
      let p = good_passed bytes good in
      let sc : closed_at bytes ≡ c = cc p.1 in
      let so : opened_at bytes ≡ o = cc p.1 in
      let st : travel_of (closed_at bytes) (opened_at bytes) ≡ t = cc p.1 in
      sym (rw (sc, so) at st)

  -- the travel lies in -60,000..60,000
  pub travel_range : (le_z (neg_ℤ (pos 60000)) t ≡ true) × (le_z t (pos 60000) ≡ true)
  travel_range =
      let lo = range_abs c limits.0 in
      let hi = range_abs o limits.1.0 in
      rw good_travel (abs_between (travel_of c o) 60000 (omega (arith, difference_abs o c, lo, hi)))

  -- and is never 0
  pub travel_not_zero : t ≡ pos 0 → ⊥
  travel_not_zero e =
      let equal : same c o ≡ true = zero_same c o (sym good_travel ∙ e) in
      absurd (true≢false (sym equal ∙ limits.1.1))
