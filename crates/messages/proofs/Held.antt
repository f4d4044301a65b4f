-- The bytes that an array holds from an address on: how many, when two arrays hold the same, that they are bytes, and which part of the
-- array they are. Assumes nothing.
use Prim.Native.Nat.{ℕ, zero, suc, ◌+◌, ◌%◌, ◌≤◌, ◌<◌}
use mathlib.Core.List.{List, ◌∷◌}
use mathlib.Core.Path.{◌≡◌, refl, ap, ap₂, sym, subst, ◌∙◌}
use native.Mathlib.Omega.{arith}
use lib.ListN.{length, get_or, take, drop}
use lib.Seq.{drop-cons}
use Rattle.parts.specs.Sector.{next_address, Bytes}
use Rattle.messages.specs.RandomRead.{held}

-- n bytes are n
pub length_held : (xs : List ℕ) (address n : ℕ) → length (held xs address n) ≡ n
unfolding held
length_held xs address zero = refl
length_held xs address (suc n) = ap suc (length_held xs (next_address address) n)

-- arrays that agree at each address of a read hold the same bytes there
pub held_same : (xs ys : List ℕ) (n address : ℕ) → address ≤ 0x3fff → ((k : ℕ) → k < n → get_or xs ((address + k) % 0x4000) 0 ≡ get_or ys ((address + k) % 0x4000) 0)
    → held xs address n ≡ held ys address n
unfolding held
held_same xs ys zero address h same = refl
held_same xs ys (suc n) address h same =
    ap₂ (λ (b : ℕ) (l : List ℕ). b ∷ l)
    (subst (λ (a : ℕ). get_or xs a 0 ≡ get_or ys a 0) at (same 0 (omega arith)))
    (held_same xs ys n (next_address address) (omega arith) (λ k l. subst (λ (a : ℕ). get_or xs a 0 ≡ get_or ys a 0) (further k) (same (suc k) (omega arith))))
  where
    at : (address + 0) % 0x4000 ≡ address
    at = omega arith

    further : (k : ℕ) → (address + suc k) % 0x4000 ≡ (next_address address + k) % 0x4000
    further k = omega arith

-- of an array of bytes they are bytes
pub held_bytes : (xs : List ℕ) (n address : ℕ) → Bytes xs → Bytes (held xs address n)
unfolding held
held_bytes xs zero address h k = omega arith
held_bytes xs (suc n) address h zero = h address
held_bytes xs (suc n) address h (suc k) = held_bytes xs n (next_address address) h k

-- where a read does not come to the end of the array they are a part of it
pub held_part : (xs : List ℕ) (n address : ℕ) → length xs ≡ 0x4000 → address + n ≤ 0x4000 → held xs address n ≡ take n (drop address xs)
unfolding held
held_part xs zero address whole h = refl
held_part xs (suc zero) address whole h = sym (ap (take 1) (drop-cons xs address 0 (omega arith)))
held_part xs (suc (suc n)) address whole h =
    let further : next_address address ≡ suc address = omega arith in
    ap (λ (rest : List ℕ). get_or xs address 0 ∷ rest) (ap (λ (a : ℕ). held xs a (suc n)) further ∙ held_part xs (suc n) (suc address) whole (omega arith))
    ∙ sym (ap (take (suc (suc n))) (drop-cons xs address 0 (omega arith)))
