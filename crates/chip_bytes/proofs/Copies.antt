-- What rows that are copied one behind the other make. Assumes nothing.
use Prim.Native.Nat.{ℕ, ◌+◌, ◌<◌, ◌≤◌}
use borrow.Rule.Slice.PartMut.{put_mid}
use mathlib.Core.Path.{◌≡◌, refl, sym, ap, ◌∙◌}
use mathlib.Core.List.{List, [], ◌∷◌, ◌++◌}
use native.Mathlib.Omega.{arith}
use lib.ListN.{length, set, take, length-set}
use lib.Seq.{length-paste, take_all}
use Rattle.std.proofs.lemmas.List.{take_more_set}
use Rattle.std.proofs.lemmas.Slice.{put_mid-paste, take-put_mid}
use Rattle.chip_bytes.specs.At as at

-- the first n bytes of a chip's are in place
pub record Front (n : ℕ) (front state : List ℕ) : Type 0 where
  pub sized : length state ≡ at.size
  pub placed : take n state ≡ front

module _ {n : ℕ} {front old state : List ℕ} (f : Front n front old) where
  -- a row that is copied behind a front makes a longer front
  pub front_more : (s : List ℕ) (k : ℕ) → length s ≡ k → n + k ≤ at.size → state ≡ put_mid n k old s → Front (n + k) (front ++ s) state
  front_more s k long room e =
      let within : n ≤ length old = omega (arith, f.sized) in
      record {
        sized = ap length (e ∙ put_mid-paste n k old s s k refl refl (sym long)) ∙ length-paste old n s k (omega (arith, f.sized)) (omega arith) ∙ f.sized;
        placed = ap (take (n + k)) e ∙ take-put_mid n k old s (n + k) (omega arith) within ∙ ap (λ (x : List ℕ). x ++ s) f.placed;
      }

  -- and so does a byte
  pub front_one : (x : ℕ) → n < at.size → state ≡ set old n x → Front (n + 1) (front ++ (x ∷ [])) state
  front_one x room e =
      record {
        sized = ap length e ∙ length-set old n x ∙ f.sized;
        placed = ap (take (n + 1)) e ∙ take_more_set old n x (omega (arith, f.sized)) ∙ ap (λ (l : List ℕ). l ++ (x ∷ [])) f.placed;
      }

-- and a front of all bytes is the whole
pub front_end : {front state : List ℕ} → Front at.size front state → state ≡ front
front_end {front} {state} f = sym (take_all at.size state (omega (arith, f.sized))) ∙ f.placed
