-- A buffer in which new bytes stand from a place on: its length, what stands there next, and the whole from the front. Assumes nothing.
use Prim.Native.Nat.{ℕ, ◌+◌, ◌≤◌}
use mathlib.Core.List.{List, [], ◌++◌, append_assoc}
use mathlib.Core.Path.{◌≡◌, sym, ap, ◌∙◌}
use native.Mathlib.Nat.{zero-add}
use native.Mathlib.Omega.{arith}
use lib.ListN.{length, take, drop, length-append, length-take, length-drop}
use lib.Seq.{length-take-le, take_at, drop-append-add, drop-drop, paste-zero}
use Rattle.sender.specs.Sending.{over}

-- nothing new
pub over_none : (at : ℕ) (old : List ℕ) → over at [] old ≡ old
over_none at old = sym (paste-zero old at [])

-- from the front
pub over_front : (new old : List ℕ) → over 0 new old ≡ new ++ drop (length new) old
over_front new old = ap (λ (n : ℕ). new ++ drop n old) (zero-add (length new))

module _ (at : ℕ) (new old : List ℕ) where
  -- what fits leaves the length
  pub over_length : at + length new ≤ length old → length (over at new old) ≡ length old
  over_length h = simp (length-append, length-take, length-drop) (omega arith)

  -- bytes put behind the new ones are new with them
  pub over_then : (more : List ℕ) (n : ℕ) → at ≤ length old → length new ≡ n → over (at + n) more (over at new old) ≡ over at (new ++ more) old
  over_then more n h e =
      let front : List ℕ = take at old ++ new in
      let rest : List ℕ = drop (at + length new) old in
      let place : length front ≡ at + n = length-append (take at old) new ∙ (let t = length-take-le at old h in omega arith) in
      let many : at + length new + length more ≡ at + length (new ++ more) = simp length-append (omega arith) in
      let tail : drop (at + n + length more) (front ++ rest) ≡ drop (at + length (new ++ more)) old =
      ap (λ (k : ℕ). drop (k + length more) (front ++ rest)) (sym place)
      ∙ drop-append-add front rest (length more)
      ∙ drop-drop (length more) (at + length new) old
      ∙ ap (λ (k : ℕ). drop k old) many in
      rw (take_at front rest (at + n) place, tail, append_assoc (take at old) new more)
