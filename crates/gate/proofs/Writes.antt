-- What the answer of writing says of its input: 0 where every check is passed, and then the buffer holds the record.
-- Assumes nothing.
use mathlib.Core.Path.{◌≡◌, refl}
use mathlib.Core.Bool.{Bool, true, false, cond, not, ◌&&◌}
use mathlib.Core.List.{List}
use Prim.Native.Nat.{ℕ, ◌≤◌, ◌<◌}
use native.Mathlib.Omega.{arith}
use borrow.Author.Tests.{eqb-true, eq-eqb, ne_eqb, ltb-false, le-ltb, not-false}
use lib.Dec.{eqb, ltb}
use lib.IntN.{ℤ}
use lib.ListN.{length}
use Rattle.gate.specs.Limit.{in_range, same, limits_refusal}
use Rattle.gate.specs.Label.{is_label}
use Rattle.gate.specs.Form.{record_of}
use Rattle.gate.specs.Writing.{write_of, written_of}
use Rattle.gate.proofs.Truth.{and_left, and_right}

-- two limits and a label that a record can hold
pub record Writable (closed opened : ℤ) (label : List ℕ) : Type 0 where
  pub short : length label ≤ 24
  pub clean : is_label label ≡ true
  pub low : in_range closed ≡ true
  pub high : in_range opened ≡ true
  pub apart : same closed opened ≡ false

-- a test that comes before an answer of 0 has failed
past : (t : Bool) (k x : ℕ) → 0 < k → cond t k x ≡ 0 → (t ≡ false) × (x ≡ 0)
past true k x some e = absurd (omega arith)
past false k x some e = (refl, e)

-- two limits that are not refused
pub limits_good : (closed opened : ℤ) → limits_refusal closed opened ≡ 0 → (in_range closed ≡ true) × ((in_range opened ≡ true) × (same closed opened ≡ false))
limits_good closed opened e =
    let p10 = past (not (in_range closed && in_range opened)) 10 _ (omega arith) e in
    let p11 = past (same closed opened) 11 0 (omega arith) p10.1 in
    let inside = not-false _ p10.0 in
    (and_left (in_range closed) (in_range opened) inside, (and_right (in_range closed) (in_range opened) inside, p11.0))

module _ (buffer : List ℕ) (closed opened : ℤ) (label : List ℕ) where
  -- an answer of 0 says that each check is passed
  pub accepted : write_of buffer closed opened label ≡ 0 → (length buffer ≡ 32) × Writable closed opened label
  unfolding write_of
  accepted e =
      let p7 = past (not (eqb (length buffer) 32)) 7 _ (omega arith) e in
      let p8 = past (ltb 24 (length label)) 8 _ (omega arith) p7.1 in
      let p9 = past (not (is_label label)) 9 _ (omega arith) p8.1 in
      let limits = limits_good closed opened p9.1 in (
        eqb-true (length buffer) 32 (not-false _ p7.0),
        record {
          short = ltb-false 24 (length label) p8.0;
          clean = not-false _ p9.0;
          low = limits.0;
          high = limits.1.0;
          apart = limits.1.1;
        },
      )

  -- and where each is passed the answer is 0
  pub accepts : length buffer ≡ 32 → Writable closed opened label → write_of buffer closed opened label ≡ 0
  unfolding write_of
  accepts size w =
      rw (
        eq-eqb (length buffer) 32 size,
        le-ltb 24 (length label) w.short,
        w.clean,
        w.low,
        w.high,
        w.apart,
      )

  -- the buffer after an answer of 0
  pub written_good : write_of buffer closed opened label ≡ 0 → written_of buffer closed opened label ≡ record_of closed opened label
  unfolding written_of
  written_good e = rw (eq-eqb (write_of buffer closed opened label) 0 e)

  -- the buffer after a refusal
  pub written_refused : (write_of buffer closed opened label ≡ 0 → ⊥) → written_of buffer closed opened label ≡ buffer
  unfolding written_of
  written_refused e = rw (ne_eqb (write_of buffer closed opened label) 0 e)
