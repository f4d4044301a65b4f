-- Single steps along a row, which docs/PORT.md and docs/changes/T-04.md name: of a test of all numbers and that of event bytes, of what is left of a label,
-- and of bytes that are sent one after another. No function cites them. Assumes nothing.
use Prim.Native.Nat.{ℕ, zero, suc, ◌+◌, ◌-◌, ◌*◌, ◌≤◌, ◌<◌}
use mathlib.Core.Bool.{Bool, true, false, ◌&&◌}
use mathlib.Core.List.{List}
use mathlib.Core.Path.{◌≡◌, sym, ap, ◌∙◌}
use native.Mathlib.Omega.{arith}
use native.Mathlib.Numerals.{add-one, sub-one}
use borrow.Author.Tests.{le-leb, lt-leb, ne_eqb}
use lib.ListN.{length, get_or, take, drop, drop_of_length-le}
use lib.Seq.{drop-cons, length-take-le}
use Rattle.parts.specs.Rows.{every}
use Rattle.trace.specs.Bytes.{is_event}
use Rattle.gate.specs.Label.{trimmed_length}
use Rattle.messages.specs.Messages.{byte_sent, bytes_sent}
use Rattle.messages.specs.Wires.{Wires}
use Rattle.sender.specs.Sending.{low, over}
use Rattle.sender.proofs.Lows.{low_on, row_length, next_byte}
use Rattle.sender.proofs.Overs.{over_then}

-- a row of numbers tested one by one: what is left of the test, at the number that comes
module _ (test : ℕ → Bool) (row : List ℕ) where
  every_here : (i : ℕ) → i < length row → every test (drop i row) ≡ (test (get_or row i 0) && every test (drop (suc i) row))
  unfolding every
  every_here i h = ap (every test) (drop-cons row i 0 h)

  -- it passes, and the rest decides
  pub every_again : (i : ℕ) → i < length row → test (get_or row i 0) ≡ true → every test (drop i row) ≡ every test row → every test (drop (i + 1) row) ≡ every test row
  every_again i h pass before = rw (add-one, ← before, every_here i h, pass)

  -- it fails
  pub every_not : (i : ℕ) → i < length row → test (get_or row i 0) ≡ false → every test (drop i row) ≡ every test row → every test row ≡ false
  every_not i h fail before = rw (← before, every_here i h, fail)

  -- none is left
  pub every_end : (i : ℕ) → length row ≤ i → every test (drop i row) ≡ every test row → every test row ≡ true
  unfolding every
  every_end i h before = sym before ∙ ap (every test) (drop_of_length-le row h)

-- a byte above 11 is no event byte, and the row that it stands in is none of events
pub no_event : (bytes : List ℕ) (i : ℕ) → i < length bytes → 11 < get_or bytes i 0 → every is_event (drop i bytes) ≡ every is_event bytes
    → false ≡ every is_event bytes
no_event bytes i h above here = sym (every_not is_event bytes i h (lt-leb _ _ above) here)

-- one up to 11 leaves what the rest says
pub one_event : (bytes : List ℕ) (i : ℕ) → i < length bytes → get_or bytes i 0 ≤ 11 → every is_event (drop i bytes) ≡ every is_event bytes
    → every is_event (drop (i + 1) bytes) ≡ every is_event bytes
one_event bytes i h fits here = every_again is_event bytes i h (le-leb _ _ fits) here

-- where the last of n bytes is no space, all n are left of a label
pub trim_stop : (s : List ℕ) (n : ℕ) → 0 < n → (get_or s (n - 1) 0 ≡ 0x20 → ⊥) → trimmed_length s n ≡ n
unfolding trimmed_length
trim_stop s zero h other = absurd (omega arith)
trim_stop s (suc n) h other =
    let last : get_or s n 0 ≡ 0x20 → ⊥ = λ e. other (rw sub-one e) in
    rw (ne_eqb (get_or s n 0) 0x20 last)

module _ (at : ℕ) (old : List ℕ) (h : at ≤ length old) where
  -- a row's next byte
  pub next_byte_law : (bytes : List ℕ) (i : ℕ) (held : List ℕ) → i < length bytes → held ≡ over at (low (bytes_sent (take i bytes))) old
      → over (at + i * 18) (low (byte_sent (get_or bytes i 0))) held ≡ over at (low (bytes_sent (take (i + 1) bytes))) old
  next_byte_law bytes i held l e =
      let row : List ℕ = take i bytes in
      let byte : List Wires = byte_sent (get_or bytes i 0) in
      let size : length (low (bytes_sent row)) ≡ i * 18 = row_length row ∙ ap (λ (n : ℕ). n * 18) (length-take-le i bytes (omega arith)) in
      rw e (over_then at (low (bytes_sent row)) old (low byte) (i * 18) h size)
      ∙ ap (λ (l : List ℕ). over at l old) (sym (low_on (bytes_sent row) byte))
      ∙ ap (λ (w : List Wires). over at (low w) old) (next_byte bytes i l)
