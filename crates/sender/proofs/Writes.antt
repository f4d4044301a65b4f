-- What is written into a buffer, one row after the other. Assumes nothing.
use Prim.Native.Nat.{ℕ, ◌+◌, ◌≤◌}
use mathlib.Core.List.{List, [], ◌++◌}
use mathlib.Core.Path.{◌≡◌, refl, sym, subst, ◌∙◌}
use native.Mathlib.Omega.{arith}
use lib.ListN.{length, drop, length-append}
use Rattle.messages.specs.Wires.{Wires}
use Rattle.sender.specs.declared.spelling.Writer.{Writer}
use Rattle.sender.specs.Sending.{low, over}
use Rattle.sender.specs.Writing.{Puts}
use Rattle.sender.proofs.Overs.{over_none, over_front, over_then}
use Rattle.sender.proofs.Lows.{low_on}

-- no bytes leave the buffer
pub puts_none : (writer : Writer) → Puts writer writer []
puts_none writer =
    let same : writer.end ≡ writer.end + 0 = omega arith in
    record { same_buffer = refl; room = refl; end = same; events = sym (over_none writer.end writer.events.now) }

-- bytes are put by equal ones
pub puts_same : {first second : Writer} {s t : List ℕ} → Puts first second s → s ≡ t → Puts first second t
puts_same {first} {second} p same = subst (λ (l : List ℕ). Puts first second l) same p

-- some bytes and then others are their row
pub puts_more : {first second third : Writer} {s t : List ℕ} → first.end ≤ length first.events.now → Puts first second s → Puts second third t
    → Puts first third (s ++ t)
puts_more {first} {third} {s} {t} inside p q =
    let far : third.end ≡ first.end + length (s ++ t) = omega (arith, p.end, q.end, length-append s t) in
    record {
      same_buffer = q.same_buffer ∙ p.same_buffer;
      room = q.room ∙ p.room;
      end = far;
      events = q.events ∙ (λ i. over (p.end i) t (p.events i)) ∙ over_then first.end s first.events.now t (length s) inside refl;
    }

-- some wires and then others too
pub puts_on : {first second third : Writer} (one two : List Wires) → first.end ≤ length first.events.now → Puts first second (low one)
    → Puts second third (low two) → Puts first third (low (one ++ two))
puts_on one two inside p q = puts_same (puts_more inside p q) (sym (low_on one two))

-- what is written from the front on is the front of the buffer, and the rest of it stays
pub puts_front : {first second : Writer} {s : List ℕ} → first.end ≡ 0 → Puts first second s → second.events.now ≡ s ++ drop (length s) first.events.now
puts_front {first} {s} start p = p.events ∙ (λ i. over (start i) s first.events.now) ∙ over_front s first.events.now
