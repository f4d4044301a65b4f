-- What the answer of reading says of the bytes: a good record passes every check, and bytes that pass every check are a good record.
-- Assumes nothing.
use mathlib.Core.Path.{◌≡◌, refl, sym, ap}
use mathlib.Core.Bool.{Bool, true, false, cond, not, true≢false}
use mathlib.Core.List.{List}
use Prim.Native.Nat.{ℕ, ◌≤◌}
use native.Mathlib.Omega.{arith}
use borrow.Author.Tests.{eqb-true, eq-eqb, leb-true, not-false}
use lib.Dec.{eqb, leb}
use lib.IntN.{ℤ}
use lib.ListN.{length, take}
use Rattle.std.specs.Prelude.{Option, Some, None, Result, Ok, Err}
use Rattle.refusals.specs.Refusals.{number_of}
use Rattle.refusals.specs.declared.Refusal.{Refusal}
use Rattle.refusals.proofs.Numbers.{same_refusal}
use Rattle.gate.specs.Bytes.{all, total}
use Rattle.gate.specs.Label.{is_label}
use Rattle.gate.specs.Limit.{limits_refusal}
use Rattle.gate.specs.Reading.{closed_at, opened_at, state_at, length_at, label_at, padding_at, sum_at, is_free, label_fits, good_of, content_of, read_of}
use Rattle.gate.specs.Answer.{Read, Good, Free, Refused, read_as, needs_gate, is_good}
use Rattle.gate.specs.Naming.{own_length}
use Rattle.gate.specs.declared.answer.Gate.{Gate}
use Rattle.gate.proofs.Truth.{and_left, and_right, cond_by}

module _ {c o t : ℤ} {n : ℕ} where
  refused_good : (k : ℕ) → Refused k ≡ Good c o t n → ⊥
  refused_good k e = cc e

  free_good : Free ≡ Good c o t n → ⊥
  free_good e = cc e

-- two answers of the code that stand for the same are one
pub same_read : (a b : Result (Option Gate) Refusal) → read_as a ≡ read_as b → a ≡ b
same_read (Ok (Some a)) (Ok (Some b)) e =
    let closed : a.closed ≡ b.closed = cc e in
    let opened : a.opened ≡ b.opened = cc e in
    let travel : a.travel ≡ b.travel = cc e in
    let size : a.length ≡ b.length = cc e in
    λ i. Ok (Some (record { closed = closed i; opened = opened i; travel = travel i; length = size i }))
same_read (Ok (Some a)) (Ok None) e = absurd (free_good (sym e))
same_read (Ok (Some a)) (Err r) e = absurd (refused_good (number_of r) (sym e))
same_read (Ok None) (Ok (Some b)) e = absurd (free_good e)
same_read (Ok None) (Ok None) e = refl
same_read (Ok None) (Err r) e = cc e
same_read (Err r) (Ok (Some b)) e = absurd (refused_good (number_of r) e)
same_read (Err r) (Ok None) e = cc e
same_read (Err a) (Err b) e = let number : number_of a ≡ number_of b = cc e in ap Err (same_refusal a b number)

-- the checks of reading, all passed
pub record Passed (bytes : List ℕ) : Type 0 where
  pub sized : length bytes ≡ 32
  pub used : is_free bytes ≡ false
  pub state : state_at bytes ≡ 0xa5
  pub summed : sum_at bytes ≡ total (take 30 bytes)
  pub labelled : label_fits bytes ≡ true
  pub limited : limits_refusal (closed_at bytes) (opened_at bytes) ≡ 0

module _ {c o t : ℤ} {n : ℕ} where
  past : (b : Bool) (x y : Read) → (x ≡ Good c o t n → ⊥) → cond b x y ≡ Good c o t n → (b ≡ false) × (y ≡ Good c o t n)
  past true x y never e = absurd (never e)
  past false x y never e = (refl, e)

  content_good : (bytes : List ℕ) → content_of bytes ≡ Good c o t n → (limits_refusal (closed_at bytes) (opened_at bytes) ≡ 0) × (good_of bytes ≡ Good c o t n)
  unfolding content_of
  content_good bytes e =
      let number = limits_refusal (closed_at bytes) (opened_at bytes) in
      let p = past (not (eqb number 0)) (Refused 14) (good_of bytes) (refused_good 14) e in
      (eqb-true number 0 (not-false _ p.0), p.1)

  -- a good record has passed, and gives what its bytes hold
  pub good_passed : (bytes : List ℕ) → read_of bytes ≡ Good c o t n → Passed bytes × (good_of bytes ≡ Good c o t n)
  unfolding read_of
  good_passed bytes e =
      let p7 = past (not (eqb (length bytes) 32)) (Refused 7) _ (refused_good 7) e in
      let free = past (is_free bytes) Free _ free_good p7.1 in
      let p12 = past (not (eqb (state_at bytes) 0xa5)) (Refused 12) _ (refused_good 12) free.1 in
      let p13 = past (not (eqb (sum_at bytes) (total (take 30 bytes)))) (Refused 13) _ (refused_good 13) p12.1 in
      let p14 = past (not (label_fits bytes)) (Refused 14) _ (refused_good 14) p13.1 in
      let held = content_good bytes p14.1 in (
        record {
          sized = eqb-true (length bytes) 32 (not-false _ p7.0);
          used = free.0;
          state = eqb-true (state_at bytes) 0xa5 (not-false _ p12.0);
          summed = eqb-true (sum_at bytes) (total (take 30 bytes)) (not-false _ p13.0);
          labelled = not-false _ p14.0;
          limited = held.0;
        },
        held.1,
      )

-- bytes that pass are a good record
pub passed_good : (bytes : List ℕ) → Passed bytes → read_of bytes ≡ good_of bytes
unfolding read_of content_of
passed_good bytes p =
    rw (
      eq-eqb (length bytes) 32 p.sized,
      p.used,
      eq-eqb (state_at bytes) 0xa5 p.state,
      eq-eqb (sum_at bytes) (total (take 30 bytes)) p.summed,
      p.labelled,
      eq-eqb (limits_refusal (closed_at bytes) (opened_at bytes)) 0 p.limited,
    )

-- an operation that needs a gate's record and answers 0 was given one
pub needs_good : (bytes : List ℕ) (rest : ℕ) → needs_gate (read_of bytes) rest ≡ 0 → read_of bytes ≡ good_of bytes
unfolding read_of content_of
needs_good bytes rest =
    let P : Read → Type 0 = λ r. needs_gate r rest ≡ 0 → r ≡ good_of bytes in
    cond_by P (not (eqb (length bytes) 32)) (λ e. absurd (omega arith))
    (cond_by P (is_free bytes) (λ e. absurd (omega arith))
    (cond_by P (not (eqb (state_at bytes) 0xa5)) (λ e. absurd (omega arith))
    (cond_by P (not (eqb (sum_at bytes) (total (take 30 bytes)))) (λ e. absurd (omega arith))
    (cond_by P (not (label_fits bytes)) (λ e. absurd (omega arith))
    (cond_by P (not (eqb (limits_refusal (closed_at bytes) (opened_at bytes)) 0)) (λ e. absurd (omega arith)) (λ e. refl))))))

module _ (bytes : List ℕ) (fits : label_fits bytes ≡ true) where
  -- the stored length is at most 24
  pub fits_length : length_at bytes ≤ 24
  unfolding label_fits
  fits_length = leb-true (length_at bytes) 24 (and_left _ _ fits)

  -- the label holds label bytes
  pub fits_label : is_label (label_at bytes) ≡ true
  unfolding label_fits
  fits_label = and_left _ _ (and_right (leb (length_at bytes) 24) _ fits)

  -- the padding holds spaces
  pub fits_padding : all 0x20 (padding_at bytes) ≡ true
  unfolding label_fits
  fits_padding = and_right (is_label (label_at bytes)) _ (and_right (leb (length_at bytes) 24) _ fits)

-- the length that a good record gives is at most 24, of 32 bytes
pub good_length : {c o t : ℤ} {n : ℕ} (bytes : List ℕ) → read_of bytes ≡ Good c o t n → (length bytes ≡ 32) × (n ≤ 24)
good_length {c} {o} {t} {n} bytes e =
    let p = good_passed bytes e in
    let same : length_at bytes ≡ n = cc p.1 in
    (p.0.sized, rw same at (fits_length bytes p.0.labelled))

-- an answer that is not good shows nothing of the record
pub not_good : (bytes : List ℕ) (r : Read) → is_good r ≡ false → own_length bytes r ≡ 0
not_good bytes (Good c o t n) k = absurd (true≢false k)
not_good bytes Free k = refl
not_good bytes (Refused j) k = refl
