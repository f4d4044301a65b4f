-- Laws of label bytes and of the label's padding.
-- Assumes nothing.
use mathlib.Core.Path.{◌≡◌, refl, ap, ◌∙◌}
use mathlib.Core.Bool.{Bool, true, false, ◌&&◌, and-false, or-true}
use mathlib.Core.List.{List, [], ◌∷◌}
use Prim.Native.Nat.{ℕ, zero, suc, ◌≤◌, ◌<◌}
use native.Mathlib.Nat.{not-suc-le-zero, le_of_suc-le-suc}
use native.Mathlib.Omega.{arith}
use borrow.Author.Tests.{eqb-true, eq-eqb, le-leb, lt-leb}
use lib.Dec.{eqb, leb}
use lib.ListN.{length, get_or, replicate}
use Rattle.gate.specs.Bytes.{each_byte, all}
use Rattle.gate.specs.Label.{label_byte, is_label}
use Rattle.gate.proofs.Truth.{and_left, and_right}

-- a space may stand in a label
pub label_space : label_byte 0x20 ≡ true
unfolding label_byte
label_space = refl

-- FFh may not
pub label_erased : label_byte 0xff ≡ false
unfolding label_byte
label_erased = refl

-- A1h to FEh may stand in a label
pub label_accent : (b : ℕ) → 0xa1 ≤ b → b ≤ 0xfe → label_byte b ≡ true
unfolding label_byte
label_accent b low high = rw (le-leb 0xa1 b low, le-leb b 0xfe high, or-true (leb 0x20 b && leb b 0x7e))

-- what lies between the two ranges may not, 7Fh to A0h
pub label_gap : (b : ℕ) → 0x7e < b → b < 0xa1 → label_byte b ≡ false
unfolding label_byte
label_gap b low high = rw (lt-leb b 0x7e low, lt-leb 0xa1 b high, and-false (leb 0x20 b))

-- nor what lies above them: FFh, and what is no byte
pub label_above : (b : ℕ) → 0xfe < b → label_byte b ≡ false
unfolding label_byte
label_above b high = rw (lt-leb b 0x7e (omega arith), lt-leb b 0xfe high, and-false (leb 0x20 b), and-false (leb 0xa1 b))

-- a label that is not empty is never all FFh
pub no_erased_label : (n : ℕ) → is_label (replicate (suc n) 0xff) ≡ false
no_erased_label n = rw label_erased

-- one byte that fails is enough, wherever it stands
pub each_miss : (test : ℕ → Bool) (s : List ℕ) (i : ℕ) → i < length s → test (get_or s i 0) ≡ false → each_byte test s ≡ false
each_miss test [] i h e = absurd (not-suc-le-zero h)
each_miss test (b ∷ s) zero h e = rw e
each_miss test (b ∷ s) (suc i) h e = rw (each_miss test s i (le_of_suc-le-suc h) e) (and-false (test b))

-- so many equal bytes are all that byte
pub all_replicate : (n b : ℕ) → all b (replicate n b) ≡ true
all_replicate zero b = refl
all_replicate (suc n) b = rw (eq-eqb b b refl) (all_replicate n b)

-- and bytes that are all that byte are so many of it
pub replicate_all : (b : ℕ) (s : List ℕ) → all b s ≡ true → s ≡ replicate (length s) b
replicate_all b [] e = refl
replicate_all b (x ∷ s) e =
    let same = eqb-true x b (and_left (eqb x b) (all b s) e) in
    let rest = replicate_all b s (and_right (eqb x b) (all b s) e) in
    ap (λ (y : ℕ). y ∷ s) same ∙ ap (λ (l : List ℕ). b ∷ l) rest
