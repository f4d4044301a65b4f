-- The event bytes of wires: each is an event byte, there is one for each sample, and they are read as the samples. Assumes nothing.
use Prim.Native.Nat.{ℕ, suc, ◌+◌, ◌*◌}
use mathlib.Core.Bool.{Bool, true}
use mathlib.Core.List.{List, [], ◌∷◌}
use mathlib.Core.Path.{◌≡◌, refl, ap, ap₂, ◌∙◌}
use native.Mathlib.Omega.{arith}
use lib.ListN.{length, length-append}
use Rattle.parts.specs.Rows.{every}
use Rattle.chip.specs.Run.{World, lines}
use Rattle.chip.specs.declared.wire.Event.{Event}
use Rattle.trace.specs.Bytes.{all_events}
use Rattle.trace.proofs.ByteLaws.{sample_event, sample_taken, lines_answered}
use Rattle.messages.specs.Messages.{byte_sent, bytes_sent, message}
use Rattle.messages.specs.Wires.{Wires, spelled, played, heard_of, clocks}
use Rattle.messages.proofs.Telling.{pinned}

-- the events of the bytes are the samples
pub played_pinned : (pins : ℕ → Bool) (wires : List Wires) → played pins wires ≡ pinned pins wires
unfolding spelled pinned
played_pinned pins [] = refl
played_pinned pins (w ∷ rest) = ap₂ (λ (e : Event) (es : List Event). e ∷ es) (sample_event w.scl w.sda (pins 0)) (played_pinned (λ k. pins (suc k)) rest)

-- each is an event byte
pub spelled_events : (pins : ℕ → Bool) (wires : List Wires) → all_events (spelled pins wires) ≡ true
unfolding spelled every
spelled_events pins [] = refl
spelled_events pins (w ∷ rest) = rw (sample_taken w.scl w.sda (pins 0), spelled_events (λ k. pins (suc k)) rest)

-- one for each sample
pub spelled_length : (pins : ℕ → Bool) (wires : List Wires) → length (spelled pins wires) ≡ length wires
unfolding spelled
spelled_length pins [] = refl
spelled_length pins (w ∷ rest) = ap suc (spelled_length (λ k. pins (suc k)) rest)

-- a byte that is sent takes 18 samples
pub byte_length : (byte : ℕ) → length (byte_sent byte) ≡ 18
unfolding byte_sent clocks
byte_length byte = refl

-- each of a row does
pub bytes_length : (bytes : List ℕ) → length (bytes_sent bytes) ≡ length bytes * 18
bytes_length [] = refl
bytes_length (byte ∷ bytes) = length-append (byte_sent byte) (bytes_sent bytes) ∙ omega (arith, byte_length byte, bytes_length bytes)

-- and a message takes 59 more: its start and stop, the slave byte and the address
pub message_length : (select address : ℕ) (bytes : List ℕ) → length (message select address bytes) ≡ 59 + length bytes * 18
unfolding byte_sent clocks
message_length select address bytes = simp length-append (omega (arith, bytes_length bytes))

-- what is heard of wires is in what their bytes are answered with
pub spelled_heard : (pins : ℕ → Bool) (wires : List Wires) (w : World) → heard_of pins wires w ≡ lines (pinned pins wires) w
spelled_heard pins wires w = lines_answered (spelled pins wires) w ∙ ap (λ (es : List Event). lines es w) (played_pinned pins wires)
