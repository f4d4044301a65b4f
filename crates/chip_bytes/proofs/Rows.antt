-- Rows of bytes: their length, their bytes, what part of the bytes they are, and the test of every one. Assumes nothing.
use Prim.Native.Nat.{ℕ, zero, suc, ◌+◌, ◌-◌, ◌<◌, ◌≤◌}
use mathlib.Core.Path.{◌≡◌, refl, sym, ap, ◌∙◌}
use mathlib.Core.List.{List, map}
use native.Mathlib.Nat.{add-zero}
use native.Mathlib.Omega.{arith}
use lib.ListN.{length, get_or, take, drop, length-drop, length-map, get_or-map}
use lib.Seq.{length-take-le, get_or-take, get_or-drop, ext_get_or}
use Rattle.chip_bytes.specs.State.{row}

-- a row has its length, and its k-th byte stands k further on
pub length_row : (n at : ℕ) (b : List ℕ) → length (row n at b) ≡ n
unfolding row
length_row zero at b = refl
length_row (suc n) at b = ap suc (length_row n (suc at) b)

pub row_byte : (n at : ℕ) (b : List ℕ) (k : ℕ) → k < n → get_or b (at + k) 0 ≡ get_or (row n at b) k 0
unfolding row
row_byte zero at b k h = absurd (omega arith)
row_byte (suc n) at b zero h = ap (λ (i : ℕ). get_or b i 0) (add-zero at)
row_byte (suc n) at b (suc k) h =
    let further : at + suc k ≡ suc at + k = omega arith in
    ap (λ (i : ℕ). get_or b i 0) further ∙ row_byte n (suc at) b k (omega arith)

-- where the bytes reach its end it is a part of them
pub row_part : (n at : ℕ) (b : List ℕ) → at + n ≤ length b → row n at b ≡ take n (drop at b)
row_part n at b h =
    let long : length (take n (drop at b)) ≡ n = length-take-le n (drop at b) (simp length-drop (omega arith)) in
    ext_get_or 0 (row n at b) (take n (drop at b)) (length_row n at b ∙ sym long)
    (λ k below.
    let inside : k < n = rw (length_row n at b) at below in
    sym (row_byte n at b k inside) ∙ sym (get_or-drop at b k 0) ∙ sym (get_or-take n (drop at b) k 0 inside))

-- so it is the part that is lent from an offset to n further on
pub part_row : (n at : ℕ) (b : List ℕ) → at + n ≤ length b → take (at + n - at) (drop at b) ≡ row n at b
part_row n at b h =
    let count : at + n - at ≡ n = omega arith in
    ap (λ (k : ℕ). take k (drop at b)) count ∙ sym (row_part n at b h)

-- a row that has at each place what h makes of another's is the other, mapped
pub mapped :
    {A B : Type 0} (h : A → B) (xs : List A) (ys : List B) (d : A)
    → length ys ≡ length xs
    → ((k : ℕ) → k < length xs → get_or ys k (h d) ≡ h (get_or xs k d))
    → ys ≡ map h xs
mapped h xs ys d long each =
    ext_get_or (h d) ys (map h xs) (long ∙ sym (length-map xs h)) (λ k below. each k (rw (← long) below) ∙ sym (get_or-map h xs k d))
