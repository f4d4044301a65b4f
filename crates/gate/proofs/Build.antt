-- Laws of how a record is built: bytes 0–5 on spaces, the label over them, and the sum behind both.
-- Assumes nothing.
use mathlib.Core.Path.{◌≡◌, refl, sym, ap, ◌∙◌}
use mathlib.Core.List.{List, [], ◌∷◌, ◌++◌, append_assoc, append-nil}
use Prim.Native.Nat.{ℕ, ◌+◌, ◌-◌, ◌≤◌}
use native.Mathlib.Omega.{arith}
use lib.IntN.{ℤ}
use lib.ListN.{length, take, drop, set, replicate, length-append, length-replicate, replicate-append-replicate, drop_of_length-le}
use lib.Seq.{sets-eq, take_at, drop_at, drop-append-add}
use Rattle.gate.specs.Form.{front_of, padded_of, body_of, sealed_of, record_of}

-- two bytes stored at the end of 32
pub sealed : (d : List ℕ) (h l : ℕ) → length d ≡ 32 → set (set d 30 h) 31 l ≡ take 30 d ++ (h ∷ l ∷ [])
sealed d h l e =
    sets-eq (h ∷ l ∷ []) d 30 (omega arith)
    ∙ rw (drop_of_length-le d {i = 32} (omega arith)) (append-nil _)

-- four bytes stored at the start of 32
pub first_four : (d : List ℕ) (a b c e : ℕ) → length d ≡ 32 → set (set (set (set d 0 a) 1 b) 2 c) 3 e ≡ a ∷ b ∷ c ∷ e ∷ drop 4 d
first_four d a b c e size = sets-eq (a ∷ b ∷ c ∷ e ∷ []) d 0 (omega arith)

-- n of 26 spaces passed leave those of the padding, and two
room : (n : ℕ) → n ≤ 24 → drop {A = ℕ} n (replicate 26 0x20) ≡ replicate (24 - n) 0x20 ++ (0x20 ∷ 0x20 ∷ [])
room n h =
    let count : n + (24 - n + 2) ≡ 26 = omega arith in
    let whole : replicate {A = ℕ} n 0x20 ++ (replicate (24 - n) 0x20 ++ replicate 2 0x20) ≡ replicate 26 0x20 =
    rw (replicate-append-replicate {A = ℕ} (24 - n) 2 0x20, replicate-append-replicate {A = ℕ} n (24 - n + 2) 0x20, count) in
    ap (drop n) (sym whole) ∙ drop_at (replicate {A = ℕ} n 0x20) _ n (length-replicate {A = ℕ} n 0x20)

-- a label over the spaces behind six bytes leaves the six and the padded label in the first thirty
laid : (front label : List ℕ) → length front ≡ 6 → length label ≤ 24 → take 30 (front ++ label ++ drop (6 + length label) (front ++ replicate 26 0x20)) ≡ front ++ padded_of label
laid front label six short =
    let n = length label in
    let left : drop (6 + n) (front ++ replicate 26 0x20) ≡ replicate (24 - n) 0x20 ++ (0x20 ∷ 0x20 ∷ []) =
    rw six at (drop-append-add front (replicate 26 0x20) n) ∙ room n short in
    let size : length (front ++ label ++ replicate (24 - n) 0x20) ≡ 30 = simp (length-append, length-replicate, six) (omega arith) in
    rw (left, sym (append_assoc (front ++ label) (replicate (24 - n) 0x20) (0x20 ∷ 0x20 ∷ [])))
    (take_at (front ++ label ++ replicate (24 - n) 0x20) (0x20 ∷ 0x20 ∷ []) 30 size ∙ append_assoc front label (replicate (24 - n) 0x20))

-- the sum behind such bytes makes them the record
pub built : (closed opened : ℤ) (label headed labelled : List ℕ) → length label ≤ 24 → headed ≡ front_of closed opened (length label) ++ replicate 26 0x20 → labelled ≡ take 6 headed ++ label ++ drop (6 + length label) headed → sealed_of (take 30 labelled) ≡ record_of closed opened label
unfolding record_of
built closed opened label headed labelled short h l =
    let body : take 30 labelled ≡ body_of closed opened label =
    ap (take 30) (l ∙ ap (λ (d : List ℕ). take 6 d ++ label ++ drop (6 + length label) d) h)
    ∙ laid (front_of closed opened (length label)) label refl short in
    ap sealed_of body
