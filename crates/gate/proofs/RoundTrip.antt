-- Writing and reading undo each other on all good records.
-- Assumes nothing.
use mathlib.Core.Path.{◌≡◌, refl, sym, ap, ◌∙◌}
use mathlib.Core.Bool.{true}
use mathlib.Core.List.{List, [], ◌∷◌, ◌++◌}
use Prim.Native.Nat.{ℕ, zero, suc, ◌+◌, ◌-◌, ◌≤◌, ◌<◌}
use native.Mathlib.Omega.{arith}
use borrow.Author.Tests.{ltb-true}
use lib.Dec.{ltb}
use lib.IntN.{ℤ}
use lib.ListN.{length, get_or, take, drop, replicate, length-take, length-drop, take-append-drop, drop_of_length-le}
use lib.Seq.{take-add, drop-drop, drop-cons}
use Rattle.gate.specs.Bytes.{each_byte, pair, bytes16}
use Rattle.gate.specs.Limit.{bits16, signed16, travel_of}
use Rattle.gate.specs.Form.{limit_bytes, padded_of, body_of, sealed_of, record_of}
use Rattle.gate.specs.Writing.{write_of, written_of}
use Rattle.gate.specs.Reading.{closed_at, opened_at, state_at, length_at, label_at, padding_at, read_of}
use Rattle.gate.specs.Answer.{Good}
use Rattle.gate.proofs.Truth.{and_left, and_right}
use Rattle.gate.proofs.Numbers.{bits_signed, bytes_pair}
use Rattle.gate.proofs.Labels.{replicate_all}
use Rattle.gate.proofs.Answers.{Passed, good_passed, fits_length, fits_label, fits_padding}
use Rattle.gate.proofs.Writes.{Writable, limits_good, accepted, accepts, written_good}
use Rattle.gate.proofs.Records.{record_label, record_read}

module _ (buffer : List ℕ) (closed opened : ℤ) (label : List ℕ) (taken : write_of buffer closed opened label ≡ 0) where
  -- what was written is read back: both limits, the travel and the length
  pub written_read : read_of (written_of buffer closed opened label) ≡ Good closed opened (travel_of closed opened) (length label)
  written_read =
      rw (written_good buffer closed opened label taken)
      (record_read closed opened label (accepted buffer closed opened label taken).1)

  -- and so are the label's bytes
  pub written_label : take (length label) (drop 6 (written_of buffer closed opened label)) ≡ label
  unfolding record_of
  written_label =
      rw (written_good buffer closed opened label taken)
      (record_label closed opened label (accepted buffer closed opened label taken).1)

-- the first four of 32 bytes
four : (s : List ℕ) → 4 ≤ length s → take 4 s ≡ get_or s 0 0 ∷ get_or s 1 0 ∷ get_or s 2 0 ∷ get_or s 3 0 ∷ []
four [] h = absurd (omega arith)
four (a ∷ []) h = absurd (omega arith)
four (a ∷ b ∷ []) h = absurd (omega arith)
four (a ∷ b ∷ c ∷ []) h = absurd (omega arith)
four (a ∷ b ∷ c ∷ d ∷ s) h = refl

-- the last two of them
last_two : (s : List ℕ) → length s ≡ 32 → drop 30 s ≡ get_or s 30 0 ∷ get_or s 31 0 ∷ []
last_two s h =
    drop-cons s 30 0 (omega arith)
    ∙ ap (λ (t : List ℕ). get_or s 30 0 ∷ t)
    (drop-cons s 31 0 (omega arith) ∙ ap (λ (t : List ℕ). get_or s 31 0 ∷ t) (drop_of_length-le s {i = 32} (omega arith)))

-- two bytes are those of the limit that they stand for
limit_bytes_law : (high low : ℕ) → high < 0x100 → low < 0x100 → bytes16 (bits16 (signed16 (pair high low))) ≡ high ∷ low ∷ []
limit_bytes_law high low h l = ap bytes16 (bits_signed (pair high low) (omega arith)) ∙ bytes_pair high low l

module _ (bytes : List ℕ) (p : Passed bytes) where
  -- the label is as long as it says, and its padding fills its places
  pub label_size : length (label_at bytes) ≡ length_at bytes
  label_size =
      let size = p.sized in
      let short = fits_length bytes p.labelled in
      simp (length-take, length-drop) (omega arith)

  padding_size : length (padding_at bytes) ≡ 24 - length_at bytes
  padding_size =
      let size = p.sized in
      let short = fits_length bytes p.labelled in
      simp (length-take, length-drop) (omega arith)

  -- a good record can be written
  pub passed_writable : Writable (closed_at bytes) (opened_at bytes) (label_at bytes)
  passed_writable =
      let limits = limits_good (closed_at bytes) (opened_at bytes) p.limited in
      record {
        short = rw label_size (fits_length bytes p.labelled);
        clean = fits_label bytes p.labelled;
        low = limits.0;
        high = limits.1.0;
        apart = limits.1.1;
      }

  -- the 24 places of the label are the label and spaces
  places : label_at bytes ++ replicate (24 - length_at bytes) 0x20 ≡ take 24 (drop 6 bytes)
  places =
      let n = length_at bytes in
      let short = fits_length bytes p.labelled in
      let all24 : n + (24 - n) ≡ 24 = omega arith in
      let spaces = replicate_all 0x20 (padding_at bytes) (fits_padding bytes p.labelled) ∙ ap (λ (k : ℕ). replicate k 0x20) padding_size in
      ap (λ (l : List ℕ). label_at bytes ++ l) (sym spaces ∙ ap (take (24 - n)) (sym (drop-drop n 6 bytes)))
      ∙ sym (take-add n (24 - n) (drop 6 bytes))
      ∙ ap (λ (k : ℕ). take k (drop 6 bytes)) all24

  -- bytes 4–29 are the state byte, the length and the padded label
  middle : take 26 (drop 4 bytes) ≡ 0xa5 ∷ length (label_at bytes) ∷ padded_of (label_at bytes)
  middle =
      let size = p.sized in
      let from4 : drop 4 bytes ≡ state_at bytes ∷ length_at bytes ∷ drop 6 bytes =
      drop-cons bytes 4 0 (omega arith) ∙ ap (λ (l : List ℕ). state_at bytes ∷ l) (drop-cons bytes 5 0 (omega arith)) in
      ap (take 26) from4
      ∙ ap (λ (b : ℕ). b ∷ length_at bytes ∷ take 24 (drop 6 bytes)) p.state
      ∙ ap (λ (l : List ℕ). 0xa5 ∷ length_at bytes ∷ l) (sym places)
      ∙ ap (λ (n : ℕ). 0xa5 ∷ n ∷ (label_at bytes ++ replicate (24 - n) 0x20)) (sym label_size)

  -- so any limits in front of them make the body of a record with this label
  pub passed_body : (closed opened : ℤ) → limit_bytes closed opened ++ take 26 (drop 4 bytes) ≡ body_of closed opened (label_at bytes)
  passed_body closed opened = ap (λ (l : List ℕ). limit_bytes closed opened ++ l) middle

  module _ (fit : (k : ℕ) → get_or bytes k 0 < 0x100) where
    -- bytes 0–3 are those of the limits that were read
    limits : limit_bytes (closed_at bytes) (opened_at bytes) ≡ take 4 bytes
    limits =
        let at : ℕ → ℕ = λ k. get_or bytes k 0 in
        let size = p.sized in
        ap (λ (l : List ℕ). l ++ bytes16 (bits16 (opened_at bytes))) (limit_bytes_law (at 0) (at 1) (fit 0) (fit 1))
        ∙ ap (λ (l : List ℕ). at 0 ∷ at 1 ∷ l) (limit_bytes_law (at 2) (at 3) (fit 2) (fit 3))
        ∙ sym (four bytes (omega arith))

    -- the first thirty the body of what was read
    body : body_of (closed_at bytes) (opened_at bytes) (label_at bytes) ≡ take 30 bytes
    body =
        sym (passed_body (closed_at bytes) (opened_at bytes))
        ∙ ap (λ (l : List ℕ). l ++ take 26 (drop 4 bytes)) limits
        ∙ sym (take-add 4 26 bytes)

    -- and what is written of it is the record itself
    passed_record : record_of (closed_at bytes) (opened_at bytes) (label_at bytes) ≡ bytes
    unfolding record_of
    passed_record =
        ap sealed_of body
        ∙ ap (λ (s : ℕ). take 30 bytes ++ bytes16 s) (sym p.summed)
        ∙ ap (λ (l : List ℕ). take 30 bytes ++ l) (bytes_pair (get_or bytes 30 0) (get_or bytes 31 0) (fit 31) ∙ sym (last_two bytes p.sized))
        ∙ take-append-drop 30 bytes

-- numbers that pass the test of a byte are below 100h, wherever one looks
pub bytes_below : (s : List ℕ) → each_byte (λ b. ltb b 0x100) s ≡ true → (k : ℕ) → get_or s k 0 < 0x100
bytes_below [] e k = omega arith
bytes_below (b ∷ s) e zero = ltb-true b 0x100 (and_left (ltb b 0x100) _ e)
bytes_below (b ∷ s) e (suc k) = bytes_below s (and_right (ltb b 0x100) _ e) k

-- what is read of a good record can be written into any 32 bytes, and gives the same bytes
pub read_written : {closed opened travel : ℤ} {n : ℕ} (bytes : List ℕ) → ((k : ℕ) → get_or bytes k 0 < 0x100) → read_of bytes ≡ Good closed opened travel n → (buffer : List ℕ) → length buffer ≡ 32 → (write_of buffer closed opened (take n (drop 6 bytes)) ≡ 0) × (written_of buffer closed opened (take n (drop 6 bytes)) ≡ bytes)
read_written {closed} {opened} {travel} {n} bytes fit good buffer size =
    let p = good_passed bytes good in
    let c : closed_at bytes ≡ closed = cc p.1 in
    let o : opened_at bytes ≡ opened = cc p.1 in
    let l : length_at bytes ≡ n = cc p.1 in
    let none = accepts buffer (closed_at bytes) (opened_at bytes) (label_at bytes) size (passed_writable bytes p.0) in
    let same = written_good buffer (closed_at bytes) (opened_at bytes) (label_at bytes) none ∙ passed_record bytes p.0 fit in
    (rw (c, o, l) at none, rw (c, o, l) at same)
