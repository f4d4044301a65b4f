-- What stands where in the record of two limits and a label: each part that reading asks for is the one that was written.
-- Assumes nothing.
use mathlib.Core.Path.{◌≡◌, refl, sym, ap, ◌∙◌}
use mathlib.Core.List.{List, [], ◌∷◌, ◌++◌, append_assoc}
use Prim.Native.Nat.{ℕ, ◌-◌, ◌/◌, ◌%◌}
use native.Mathlib.Omega.{arith}
use borrow.Author.Tests.{le-leb}
use lib.Dec.{eqb}
use lib.IntN.{ℤ}
use lib.ListN.{length, take, drop, replicate, length-append, length-replicate}
use lib.Seq.{take_at, drop_at, get_or_at, get_or-append-add, drop-drop}
use Rattle.gate.specs.Bytes.{total, bytes16}
use Rattle.gate.specs.Limit.{bits16, travel_of}
use Rattle.gate.specs.Form.{padded_of, body_of, record_of}
use Rattle.gate.specs.Reading.{closed_at, opened_at, label_at, padding_at, sum_at, is_free, label_fits, read_of}
use Rattle.gate.specs.Answer.{Good}
use Rattle.gate.proofs.Numbers.{signed_bits, pair_bytes}
use Rattle.gate.proofs.Labels.{each_miss, all_replicate}
use Rattle.gate.proofs.Answers.{Passed, passed_good}
use Rattle.gate.proofs.Writes.{Writable}

module _ (closed opened : ℤ) (label : List ℕ) (w : Writable closed opened label) where
  -- the label and its padding are 24 bytes
  padded_size : length (padded_of label) ≡ 24
  padded_size = let short = w.short in simp (length-append, length-replicate) (omega arith)

  -- a record has 32 bytes
  pub record_size : length (record_of closed opened label) ≡ 32
  unfolding record_of
  record_size = let short = w.short in simp (length-append, length-replicate) (omega arith)

  -- its limits are those written
  pub record_closed : closed_at (record_of closed opened label) ≡ closed
  unfolding record_of
  record_closed = rw (pair_bytes (bits16 closed)) (signed_bits closed w.low)

  pub record_opened : opened_at (record_of closed opened label) ≡ opened
  unfolding record_of
  record_opened = rw (pair_bytes (bits16 opened)) (signed_bits opened w.high)

  -- its label is the one written
  pub record_label : label_at (record_of closed opened label) ≡ label
  unfolding record_of
  record_label =
      let pad : List ℕ = replicate (24 - length label) 0x20 in
      rw (append_assoc label pad (bytes16 (total (body_of closed opened label)))) (take_at label _ (length label) refl)

  -- behind which spaces stand
  record_padding : padding_at (record_of closed opened label) ≡ replicate (24 - length label) 0x20
  unfolding record_of
  record_padding =
      let n = length label in
      let pad : List ℕ = replicate (24 - n) 0x20 in
      let end = bytes16 (total (body_of closed opened label)) in
      let rest : drop n (padded_of label ++ end) ≡ pad ++ end = rw (append_assoc label pad end) (drop_at label (pad ++ end) n refl) in
      ap (take (24 - n)) (sym (drop-drop n 6 (record_of closed opened label)) ∙ rest)
      ∙ take_at pad end (24 - n) (length-replicate (24 - n) 0x20)

  -- its first thirty bytes are its body
  record_body : take 30 (record_of closed opened label) ≡ body_of closed opened label
  unfolding record_of
  record_body = let short = w.short in take_at (body_of closed opened label) _ 30 (simp (length-append, length-replicate) (omega arith))

  -- its sum is that of its body
  record_sum : sum_at (record_of closed opened label) ≡ total (body_of closed opened label)
  unfolding record_of
  record_sum =
      let s = total (body_of closed opened label) in
      let high = get_or_at (padded_of label) (s / 0x100) (s % 0x100 ∷ []) 0 24 padded_size in
      let low = rw padded_size at (get_or-append-add (padded_of label) (s / 0x100 ∷ s % 0x100 ∷ []) 1 0) in
      rw (high, low) (pair_bytes s)

  -- it passes every check of reading
  pub record_passed : Passed (record_of closed opened label)
  unfolding record_of is_free label_fits
  record_passed =
      record {
        sized = record_size;
        used = each_miss (λ x. eqb x 0xff) (record_of closed opened label) 4 (omega (arith, record_size)) refl;
        state = refl;
        summed = record_sum ∙ ap total (sym record_body);
        labelled = rw (le-leb (length label) 24 w.short, record_label, w.clean, record_padding) (all_replicate (24 - length label) 0x20);
        limited = rw (record_closed, record_opened, w.low, w.high, w.apart);
      }

  -- and reading gives back the limits, the travel and the length
  pub record_read : read_of (record_of closed opened label) ≡ Good closed opened (travel_of closed opened) (length label)
  unfolding record_of
  record_read = passed_good (record_of closed opened label) record_passed ∙ rw (record_closed, record_opened)
