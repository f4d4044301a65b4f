-- Laws of the definitions that go along a list: std has the same walks under other names, and what is left of a label is what stands
-- up to the last byte that is no space.
-- Assumes nothing.
use mathlib.Core.Path.{◌≡◌, refl, ◌∙◌}
use mathlib.Core.Bool.{Bool, ◌&&◌}
use mathlib.Core.List.{List}
use Prim.Native.Nat.{ℕ, zero, suc, ◌+◌, ◌≤◌, ◌<◌}
use native.Mathlib.Omega.{arith}
use native.Mathlib.Numerals.{add-one}
use borrow.Author.Tests.{eqb-true, eqb-false, ne_eqb}
use lib.Dec.{eqb}
use lib.ListN.{length, get_or}
use Rattle.std.specs.List.{list_all, sum}
use Rattle.std.proofs.lemmas.List.Recursion.{same_from_clauses, is_sum_by}
use Rattle.gate.specs.Bytes.{each_byte, total}
use Rattle.gate.specs.Label.{trimmed_length}
use Rattle.gate.proofs.Truth.{by_test}

-- a test of each byte
pub each_is : (test : ℕ → Bool) (s : List ℕ) → each_byte test s ≡ list_all test s
each_is test = same_from_clauses (each_byte test) (list_all test) (λ b rest. test b && rest) refl (λ _ _. refl) (λ _ _. refl)

-- the sum
pub total_is : (s : List ℕ) → total s ≡ sum s
total_is = is_sum_by total (λ b. b) refl (λ _ _. refl)

-- spaces at the end are trimmed
trim_spaces : (s : List ℕ) (m n : ℕ) → m ≤ n → ((k : ℕ) → m ≤ k → k < n → get_or s k 0 ≡ 0x20) → trimmed_length s n ≡ trimmed_length s m
unfolding trimmed_length
trim_spaces s m zero h spaces = rw (let e : m ≡ 0 = omega arith in e)
trim_spaces s m (suc n) h spaces =
    by_test (eqb m (suc n))
    (λ e. rw (eqb-true m (suc n) e))
    (λ e.
    let less : m ≤ n = omega (arith, eqb-false m (suc n) e) in
    rw (spaces n less (omega arith)) (trim_spaces s m n less (λ k low high. spaces k low (omega arith))))

-- up to the last byte that is no space all are left
pub trim_last : (s : List ℕ) (i : ℕ) → i < length s → (get_or s i 0 ≡ 0x20 → ⊥) → ((k : ℕ) → i + 1 ≤ k → k < length s → get_or s k 0 ≡ 0x20) → trimmed_length s (length s) ≡ i + 1
unfolding trimmed_length
trim_last s i h other spaces =
    trim_spaces s (i + 1) (length s) (omega arith) spaces ∙ rw (add-one, ne_eqb (get_or s i 0) 0x20 other)

-- of spaces alone, none is left
pub trim_all : (s : List ℕ) → ((k : ℕ) → k < length s → get_or s k 0 ≡ 0x20) → trimmed_length s (length s) ≡ 0
unfolding trimmed_length
trim_all s spaces = trim_spaces s 0 (length s) (omega arith) (λ k low high. spaces k high)
