-- The name shown of a record: what is cut of its label are spaces, what is left does not end in one, and where nothing is left, or
-- the record is free or refused, the name is the standard label; two records with one label have one name.
-- Assumes nothing.
use mathlib.Core.Path.{◌≡◌, refl, sym, ap, ◌∙◌}
use mathlib.Core.Bool.{true, false, true≢false}
use mathlib.Core.List.{List}
use mathlib.Core.Logic.{⊎_elim}
use Prim.Native.Nat.{ℕ, zero, suc, ◌+◌, ◌≤◌, ◌<◌}
use native.Mathlib.Nat.{eq-or-lt_of_le, le_of_suc-le-suc, not-suc-le-zero}
use native.Mathlib.Omega.{arith}
use borrow.Author.Tests.{eqb-true, eqb-false, eq-eqb}
use lib.Dec.{eqb}
use lib.IntN.{ℤ}
use lib.ListN.{length, get_or, take, drop}
use lib.Seq.{take-take}
use Rattle.gate.specs.Label.{trimmed_length}
use Rattle.gate.specs.Writing.{write_of, written_of}
use Rattle.gate.specs.Reading.{read_of}
use Rattle.gate.specs.Answer.{Read, Good, Free, Refused, is_good}
use Rattle.gate.specs.Naming.{own_length, name_of}
use Rattle.gate.proofs.Truth.{by_test}
use Rattle.gate.proofs.Answers.{good_length}
use Rattle.gate.proofs.Names.{standard_name, own_name, good_own}
use Rattle.gate.proofs.RoundTrip.{written_read, written_label}

module _ (s : List ℕ) where
  -- a space at the end is cut, and any other byte is not
  space : (n : ℕ) → eqb (get_or s n 0) 0x20 ≡ true → trimmed_length s (suc n) ≡ trimmed_length s n
  unfolding trimmed_length
  space n e = rw e

  other : (n : ℕ) → eqb (get_or s n 0) 0x20 ≡ false → trimmed_length s (suc n) ≡ suc n
  unfolding trimmed_length
  other n e = rw e

  none : trimmed_length s 0 ≡ 0
  unfolding trimmed_length
  none = refl

  -- no more is left than there was
  pub trimmed_short : (n : ℕ) → trimmed_length s n ≤ n
  trimmed_short zero = omega (arith, none)
  trimmed_short (suc n) =
      by_test (eqb (get_or s n 0) 0x20)
      (λ e. omega (arith, space n e, trimmed_short n))
      (λ e. omega (arith, other n e))

  -- each byte that is cut is a space
  pub cut_space : (n k : ℕ) → trimmed_length s n ≤ k → k < n → get_or s k 0 ≡ 0x20
  cut_space zero k lo hi = absurd (not-suc-le-zero hi)
  cut_space (suc n) k lo hi =
      by_test (eqb (get_or s n 0) 0x20)
      (λ e. ⊎_elim
      (λ same. ap (λ (j : ℕ). get_or s j 0) same ∙ eqb-true (get_or s n 0) 0x20 e)
      (λ less. cut_space n k (rw (space n e) at lo) less)
      (eq-or-lt_of_le (le_of_suc-le-suc hi)))
      (λ e. absurd (omega (arith, other n e)))

  -- the last byte that is left is no space
  pub left_end : (n k : ℕ) → trimmed_length s n ≡ suc k → get_or s k 0 ≡ 0x20 → ⊥
  left_end zero k e q = omega (arith, none)
  left_end (suc n) k e q =
      by_test (eqb (get_or s n 0) 0x20)
      (λ t. left_end n k (sym (space n t) ∙ e) q)
      (λ t.
      let same : k ≡ n = omega (arith, other n t) in
      eqb-false (get_or s n 0) 0x20 t (ap (λ (j : ℕ). get_or s j 0) (sym same) ∙ q))

  -- spaces alone leave nothing
  pub blank : (n : ℕ) → ((k : ℕ) → k < n → get_or s k 0 ≡ 0x20) → trimmed_length s n ≡ 0
  blank zero all = none
  blank (suc n) all = space n (eq-eqb (get_or s n 0) 0x20 (all n (omega arith))) ∙ blank n (λ k h. all k (omega arith))

-- a record that is not good is named by the standard label, whole
pub not_good_name : (bytes standard : List ℕ) → is_good (read_of bytes) ≡ false → name_of bytes standard ≡ standard
not_good_name bytes standard e = standard_name bytes standard (nothing (read_of bytes) e)
  where
    nothing : (r : Read) → is_good r ≡ false → own_length bytes r ≡ 0
    nothing (Good c o t n) e = absurd (true≢false e)
    nothing Free e = refl
    nothing (Refused k) e = refl

-- what is shown of a record lies in it
pub own_within : (bytes : List ℕ) (n : ℕ) → own_length bytes (read_of bytes) ≡ n → (n ≡ 0 → ⊥) → 6 + n ≤ length bytes
own_within bytes n e some = from (read_of bytes) refl e
  where
    from : (r : Read) → read_of bytes ≡ r → own_length bytes r ≡ n → 6 + n ≤ length bytes
    from (Good c o t m) good e = let s = good_length bytes good in omega (arith, s.0, s.1, trimmed_short (take m (drop 6 bytes)) m)
    from Free good e = absurd (some (sym e))
    from (Refused k) good e = absurd (some (sym e))

-- two good records with the same label are named the same
pub same_name : {c o t c' o' t' : ℤ} {n : ℕ} (one two standard : List ℕ) → read_of one ≡ Good c o t n → read_of two ≡ Good c' o' t' n → take n (drop 6 one) ≡ take n (drop 6 two) → name_of one standard ≡ name_of two standard
same_name {n = n} one two standard good good' same =
    let m = trimmed_length (take n (drop 6 one)) n in
    let first : own_length one (read_of one) ≡ m = good_own one m good refl in
    let second : own_length two (read_of two) ≡ m = good_own two m good' (ap (λ (l : List ℕ). trimmed_length l n) same) in
    let short : m ≤ n = trimmed_short (take n (drop 6 one)) n in
    by_test (eqb m 0)
    (λ e.
    let none = eqb-true m 0 e in
    standard_name one standard (first ∙ none) ∙ sym (standard_name two standard (second ∙ none)))
    (λ e.
    let some = eqb-false m 0 e in
    own_name one standard m first some
    ∙ sym (take-take m n (drop 6 one) short)
    ∙ ap (take m) same
    ∙ take-take m n (drop 6 two) short
    ∙ sym (own_name two standard m second some))

module _ (buffer : List ℕ) (closed opened : ℤ) (label standard : List ℕ) (taken : write_of buffer closed opened label ≡ 0) where
  own : own_length (written_of buffer closed opened label) (read_of (written_of buffer closed opened label)) ≡ trimmed_length label (length label)
  own =
      ap (own_length (written_of buffer closed opened label)) (written_read buffer closed opened label taken)
      ∙ ap (λ (l : List ℕ). trimmed_length l (length label)) (written_label buffer closed opened label taken)

  -- a blank label that was written is named by the standard label
  pub blank_name : trimmed_length label (length label) ≡ 0 → name_of (written_of buffer closed opened label) standard ≡ standard
  blank_name e = standard_name (written_of buffer closed opened label) standard (own ∙ e)

  -- any other label by its bytes up to the last that is no space
  pub label_name : (n : ℕ) → trimmed_length label (length label) ≡ n → (n ≡ 0 → ⊥) → name_of (written_of buffer closed opened label) standard ≡ take n label
  label_name n e some =
      let held = drop 6 (written_of buffer closed opened label) in
      let short : n ≤ length label = rw e at (trimmed_short label (length label)) in
      own_name (written_of buffer closed opened label) standard n (own ∙ e) some
      ∙ sym (take-take n (length label) held short)
      ∙ ap (take n) (written_label buffer closed opened label taken)
