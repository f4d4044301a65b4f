-- New limits into a good record: the record then holds the new limits and the old label, and whatever is answered no byte beside
-- the limits and the sum changes.
-- Assumes nothing.
use mathlib.Core.Path.{◌≡◌, refl, sym, ap, subst, ◌∙◌}
use mathlib.Core.Bool.{true, false}
use mathlib.Core.List.{List}
use Prim.Native.Nat.{ℕ, ◌≤◌, ◌<◌, ◌+◌, ◌-◌}
use native.Mathlib.Omega.{arith}
use borrow.Author.Tests.{eqb-true, eqb-false, eq-eqb, ne_eqb}
use lib.Dec.{eqb}
use lib.IntN.{ℤ}
use lib.ListN.{length, get_or, take, drop, length-take, length-drop}
use lib.Seq.{take_at, get_or-take, get_or-drop}
use Rattle.gate.specs.Limit.{in_range, same, limits_refusal, travel_of}
use Rattle.gate.specs.Form.{sealed_of, record_of}
use Rattle.gate.specs.Reading.{length_at, label_at, good_of, read_of}
use Rattle.gate.specs.Naming.{name_of}
use Rattle.gate.specs.Limiting.{limits_of, relimited, limited_of}
use Rattle.gate.specs.Answer.{Good}
use Rattle.gate.proofs.Truth.{by_test}
use Rattle.gate.proofs.Answers.{Passed, good_passed, needs_good}
use Rattle.gate.proofs.Writes.{Writable, limits_good}
use Rattle.gate.proofs.Records.{record_size, record_label, record_read}
use Rattle.gate.proofs.RoundTrip.{label_size, passed_writable, passed_body}
use Rattle.gate.proofs.Trimming.{same_name}

module _ (bytes : List ℕ) (closed opened : ℤ) where
  -- the buffer after an answer of 0
  pub limited_good : limits_of bytes closed opened ≡ 0 → limited_of bytes closed opened ≡ relimited bytes closed opened
  unfolding limited_of
  limited_good e = rw (eq-eqb (limits_of bytes closed opened) 0 e)

  -- the buffer after a refusal
  pub limited_refused : (limits_of bytes closed opened ≡ 0 → ⊥) → limited_of bytes closed opened ≡ bytes
  unfolding limited_of
  limited_refused e = rw (ne_eqb (limits_of bytes closed opened) 0 e)

  -- what holds of what an answer of 0 leaves, and held before, holds afterwards
  limited_by : (P : List ℕ → Type 0) → (limits_of bytes closed opened ≡ 0 → P (limited_of bytes closed opened)) → P bytes → P (limited_of bytes closed opened)
  limited_by P taken before =
      let number = limits_of bytes closed opened in
      by_test (eqb number 0) (λ e. taken (eqb-true number 0 e)) (λ e. subst P (sym (limited_refused (eqb-false number 0 e))) before)

  -- an answer of 0 says that the record is good
  taken_good : limits_of bytes closed opened ≡ 0 → read_of bytes ≡ good_of bytes
  unfolding limits_of
  taken_good = needs_good bytes (limits_refusal closed opened)

  -- that it passes every check of reading, and what the new limits pass
  pub limits_taken : limits_of bytes closed opened ≡ 0 → Passed bytes × ((in_range closed ≡ true) × ((in_range opened ≡ true) × (same closed opened ≡ false)))
  unfolding limits_of
  limits_taken e =
      let good = taken_good e in
      let left : limits_refusal closed opened ≡ 0 = rw good at e in
      ((good_passed bytes good).0, limits_good closed opened left)

module _ (bytes : List ℕ) (closed opened : ℤ) (taken : limits_of bytes closed opened ≡ 0) where
  -- the record is good
  passed : Passed bytes
  passed = (limits_taken bytes closed opened taken).0

  -- the new limits and the old label can be written
  writable : Writable closed opened (label_at bytes)
  writable =
      let t = (limits_taken bytes closed opened taken).1 in
      let w = passed_writable bytes passed in
      record { short = w.short; clean = w.clean; low = t.0; high = t.1.0; apart = t.1.1 }

  -- what is left is the record of the new limits and the old label
  pub limited_record : limited_of bytes closed opened ≡ record_of closed opened (label_at bytes)
  unfolding relimited record_of
  limited_record = limited_good bytes closed opened taken ∙ ap sealed_of (passed_body bytes passed closed opened)

  -- reading gives the new limits, their travel and the old length
  pub limited_read : {c o t : ℤ} {n : ℕ} → read_of bytes ≡ Good c o t n → read_of (limited_of bytes closed opened) ≡ Good closed opened (travel_of closed opened) n
  limited_read {n = n} good =
      let same : length_at bytes ≡ n = cc (good_passed bytes good).1 in
      ap read_of limited_record
      ∙ record_read closed opened (label_at bytes) writable
      ∙ ap (λ (k : ℕ). Good closed opened (travel_of closed opened) k) (label_size bytes passed ∙ same)

  -- and the old label
  pub limited_label : {c o t : ℤ} {n : ℕ} → read_of bytes ≡ Good c o t n → take n (drop 6 (limited_of bytes closed opened)) ≡ take n (drop 6 bytes)
  unfolding record_of
  limited_label {n = n} good =
      let same : length_at bytes ≡ n = cc (good_passed bytes good).1 in
      ap (λ (k : ℕ). take k (drop 6 (limited_of bytes closed opened))) (sym (label_size bytes passed ∙ same))
      ∙ ap (λ (l : List ℕ). take (length (label_at bytes)) (drop 6 l)) limited_record
      ∙ record_label closed opened (label_at bytes) writable
      ∙ ap (λ (k : ℕ). take k (drop 6 bytes)) same

module _ (bytes : List ℕ) (closed opened : ℤ) where
  -- whatever is answered, the same name is shown
  pub limited_name : (standard : List ℕ) → name_of (limited_of bytes closed opened) standard ≡ name_of bytes standard
  limited_name standard =
      limited_by bytes closed opened (λ l. name_of l standard ≡ name_of bytes standard)
      (λ taken.
      let good = taken_good bytes closed opened taken in
      same_name (limited_of bytes closed opened) bytes standard
      (limited_read bytes closed opened taken good)
      good
      (limited_label bytes closed opened taken good))
      refl

  -- the buffer keeps its length
  pub limited_size : length (limited_of bytes closed opened) ≡ length bytes
  limited_size =
      limited_by bytes closed opened (λ l. length l ≡ length bytes)
      (λ taken. ap length (limited_record bytes closed opened taken)
      ∙ record_size closed opened (label_at bytes) (writable bytes closed opened taken)
      ∙ sym (passed bytes closed opened taken).sized)
      refl

  -- and its bytes 4–29
  middle_kept : take 26 (drop 4 (limited_of bytes closed opened)) ≡ take 26 (drop 4 bytes)
  unfolding relimited
  middle_kept =
      limited_by bytes closed opened (λ l. take 26 (drop 4 l) ≡ take 26 (drop 4 bytes))
      (λ taken.
      let size = (passed bytes closed opened taken).sized in
      let many : length (take 26 (drop 4 bytes)) ≡ 26 = simp (length-take, length-drop) (omega arith) in
      ap (λ (l : List ℕ). take 26 (drop 4 l)) (limited_good bytes closed opened taken)
      ∙ take_at (take 26 (drop 4 bytes)) _ 26 many)
      refl

  -- nobody touches the memory beside the limits: but for bytes 0–3 and the sum each byte is kept, whatever is answered
  pub beside_limits : (k : ℕ) → 4 ≤ k → k < 30 → get_or (limited_of bytes closed opened) k 0 ≡ get_or bytes k 0
  beside_limits k lo hi =
      let at : 4 + (k - 4) ≡ k = omega arith in
      let within : k - 4 < 26 = omega arith in
      let part : (s : List ℕ) → get_or s k 0 ≡ get_or (take 26 (drop 4 s)) (k - 4) 0 = λ s. sym (get_or-take 26 (drop 4 s) (k - 4) 0 within ∙ get_or-drop 4 s (k - 4) 0 ∙ ap (λ (j : ℕ). get_or s j 0) at) in
      part (limited_of bytes closed opened) ∙ ap (λ (l : List ℕ). get_or l (k - 4) 0) middle_kept ∙ sym (part bytes)
