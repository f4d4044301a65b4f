-- A byte that may not stand in a label is refused wherever it stands: with 9 when it is written, with 14 when it is read.
-- Assumes nothing.
use mathlib.Core.Path.{◌≡◌, ◌∙◌}
use mathlib.Core.Bool.{false}
use mathlib.Core.List.{List}
use Prim.Native.Nat.{ℕ, ◌+◌, ◌≤◌, ◌<◌}
use native.Mathlib.Omega.{arith}
use borrow.Author.Tests.{eq-eqb, le-ltb, leb-true}
use lib.Dec.{eqb, leb}
use lib.IntN.{ℤ}
use lib.ListN.{length, get_or, take, drop, length-drop}
use lib.Seq.{get_or-take, get_or-drop, length-take-le}
use Rattle.gate.specs.Bytes.{total}
use Rattle.gate.specs.Label.{label_byte, is_label}
use Rattle.gate.specs.Writing.{write_of, written_of}
use Rattle.gate.specs.Reading.{state_at, length_at, label_at, sum_at, is_free, label_fits, read_of}
use Rattle.gate.specs.Answer.{Refused}
use Rattle.gate.proofs.Truth.{by_test}
use Rattle.gate.proofs.Labels.{each_miss}
use Rattle.gate.proofs.Writes.{written_refused}

-- in a label of at most 24 bytes it is refused with 9, and nothing is written
pub bad_written : (buffer : List ℕ) (closed opened : ℤ) (label : List ℕ) (i : ℕ) → length buffer ≡ 32 → length label ≤ 24 → i < length label → label_byte (get_or label i 0) ≡ false → (write_of buffer closed opened label ≡ 9) × (written_of buffer closed opened label ≡ buffer)
unfolding write_of
bad_written buffer closed opened label i size short within bad =
    let nine : write_of buffer closed opened label ≡ 9 =
    rw (eq-eqb (length buffer) 32 size, le-ltb 24 (length label) short, each_miss label_byte label i within bad)
    in
    (nine, written_refused buffer closed opened label (λ e. omega (arith, nine, e)))

module _ (bytes : List ℕ) (i : ℕ) (size : length bytes ≡ 32) (within : i < length_at bytes) (bad : label_byte (get_or bytes (6 + i) 0) ≡ false) where
  -- in the label of 32 bytes it is against the layout
  bad_label : length_at bytes ≤ 24 → is_label (label_at bytes) ≡ false
  bad_label short =
      let n = length_at bytes in
      let room : length (drop 6 bytes) ≡ 26 = length-drop 6 bytes ∙ rw size in
      let whole : length (label_at bytes) ≡ n = length-take-le n (drop 6 bytes) (omega arith) in
      each_miss label_byte (label_at bytes) i (omega arith) (rw (get_or-take n (drop 6 bytes) i 0 within, get_or-drop 6 bytes i 0) bad)

  bad_layout : label_fits bytes ≡ false
  unfolding label_fits
  bad_layout = by_test (leb (length_at bytes) 24) (λ short. rw (bad_label (leb-true (length_at bytes) 24 short), short)) (λ long. rw long)

  -- and where state byte and sum are right it is refused with 14
  pub bad_read : state_at bytes ≡ 0xa5 → sum_at bytes ≡ total (take 30 bytes) → read_of bytes ≡ Refused 14
  unfolding read_of is_free
  bad_read state summed =
      let used = each_miss (λ x. eqb x 0xff) bytes 4 (omega arith) (rw state) in
      rw (eq-eqb (length bytes) 32 size, used, eq-eqb (state_at bytes) 0xa5 state, eq-eqb (sum_at bytes) (total (take 30 bytes)) summed, bad_layout)
