-- Nobody touches the memory beside the label: whatever the label, writing leaves in bytes 0–4 what the limits alone say, or leaves
-- the buffer as it was; and a label that is too long is refused.
-- Assumes nothing.
use mathlib.Core.Path.{◌≡◌, refl, sym, ap, ◌∙◌}
use mathlib.Core.List.{List}
use mathlib.Core.Logic.{◌⊎◌, inl, inr}
use Prim.Native.Nat.{ℕ, ◌<◌}
use native.Mathlib.Omega.{arith}
use borrow.Author.Tests.{eq-eqb, eqb-true, eqb-false, lt-ltb}
use lib.Dec.{eqb}
use lib.IntN.{ℤ}
use lib.ListN.{length, take}
use Rattle.gate.specs.Form.{beside_label, record_of}
use Rattle.gate.specs.Writing.{write_of, written_of}
use Rattle.gate.proofs.Truth.{by_test}
use Rattle.gate.proofs.Writes.{written_good, written_refused}

-- a record has those bytes, whatever its label
pub record_beside : (closed opened : ℤ) (label : List ℕ) → take 5 (record_of closed opened label) ≡ beside_label closed opened
unfolding record_of
record_beside closed opened label = refl

module _ (buffer : List ℕ) (closed opened : ℤ) where
  -- after a write that is not refused bytes 0–4 are those of the limits
  pub beside : (label : List ℕ) → write_of buffer closed opened label ≡ 0 → take 5 (written_of buffer closed opened label) ≡ beside_label closed opened
  beside label e = ap (take 5) (written_good buffer closed opened label e) ∙ record_beside closed opened label

  -- so two labels leave the same bytes there
  pub beside_labels : (one two : List ℕ) → write_of buffer closed opened one ≡ 0 → write_of buffer closed opened two ≡ 0 → take 5 (written_of buffer closed opened one) ≡ take 5 (written_of buffer closed opened two)
  beside_labels one two e f = beside one e ∙ sym (beside two f)

  -- any label at all leaves either those bytes there or the whole buffer as it was
  pub beside_any : (label : List ℕ) → (take 5 (written_of buffer closed opened label) ≡ beside_label closed opened) ⊎ (written_of buffer closed opened label ≡ buffer)
  beside_any label =
      by_test (eqb (write_of buffer closed opened label) 0)
      (λ e. inl (beside label (eqb-true _ 0 e)))
      (λ e. inr (written_refused buffer closed opened label (eqb-false _ 0 e)))

  -- a label of more than 24 bytes is refused with 8, and writes nothing
  pub long_label : (label : List ℕ) → length buffer ≡ 32 → 24 < length label → (write_of buffer closed opened label ≡ 8) × (written_of buffer closed opened label ≡ buffer)
  unfolding write_of
  long_label label size long =
      let eight : write_of buffer closed opened label ≡ 8 = rw (eq-eqb (length buffer) 32 size, lt-ltb 24 (length label) long) in
      (eight, written_refused buffer closed opened label (λ e. omega (arith, eight, e)))
