-- The random read as a whole: a chip that has just seen a START, in whatever state it came there, acknowledges the four bytes and returns
-- the array's bytes. Assumes nothing.
use Prim.Native.Nat.{ℕ, suc, ◌/◌, ◌%◌, ◌≤◌}
use mathlib.Core.Bool.{Bool, true, false}
use mathlib.Core.List.{List, [], ◌∷◌, ◌++◌, map}
use mathlib.Core.Path.{◌≡◌, refl, ap₂, subst}
use native.Mathlib.Omega.{arith}
use lib.ListN.{length, drop}
use Rattle.parts.specs.Load.{no_load}
use Rattle.parts.specs.Rows.{stepped}
use Rattle.parts.specs.Sector.{Bytes}
use Rattle.parts.specs.declared.phase.Phase.TheVariants.{Slave}
use Rattle.chip.specs.Run.{World, lines}
use Rattle.chip.specs.View.{SeesStart}
use Rattle.chip.specs.declared.chip.Chip.{Chip}
use Rattle.trace.specs.Trace.{answers_of}
use Rattle.trace.proofs.ByteLaws.{sample_event}
use Rattle.messages.specs.Messages.{begin, slave_byte}
use Rattle.messages.specs.RandomRead.{bytes_taken, random_read, held, bits_read, bytes_read, Acknowledged, Returns}
use Rattle.messages.specs.Wires.{spelled, heard_of, bits_of, byte_of}
use Rattle.messages.proofs.Held.{length_held}
use Rattle.messages.proofs.Spelling.{spelled_heard}
use Rattle.messages.proofs.Telling.{pinned, then, then_hears}
use Rattle.messages.proofs.Sending.{idle, idle_so, resting, begun, twice, heard_sent, byte_again, slave_sent, first_sent, second_sent, restarted}
use Rattle.messages.proofs.Reading.{heard_bytes, bytes_read_law, bits_heard}

-- all that is heard of a random read of these bytes
heard_read : ℕ → ℕ → List ℕ → List Bool
heard_read select address bytes =
    heard_sent (slave_byte select false)
    ++ heard_sent (address / 256)
    ++ heard_sent (address % 256)
    ++ (true ∷ true ∷ false ∷ [])
    ++ heard_sent (slave_byte select true)
    ++ heard_bytes bytes

-- the four acknowledges are in it
acks_heard : (select address : ℕ) (bytes : List ℕ) → Acknowledged (heard_read select address bytes)
unfolding heard_read heard_sent twice
acks_heard select address bytes =
    record {
      slave_write = record { low_half = refl; high_half = refl };
      address_high = record { low_half = refl; high_half = refl };
      address_low = record { low_half = refl; high_half = refl };
      slave_read = record { low_half = refl; high_half = refl };
    }

-- and the bits of the bytes
read_bits : (select address : ℕ) (bytes : List ℕ) → bits_read (length bytes) (heard_read select address bytes) ≡ map bits_of bytes
unfolding heard_read heard_sent twice
read_bits select address bytes = bits_heard bytes

-- this is what is heard, from the START on
read_heard : (w : World) → SeesStart w.chip → w.chip.select ≤ 7 → (address n : ℕ) → address ≤ 0x3fff → (pins : ℕ → Bool)
    → lines (pinned pins (random_read w.chip.select address n)) w ≡ heard_read w.chip.select address (held w.array address n)
unfolding random_read heard_read
read_heard w s in_range address n h pins =
    subst (λ (v : World). lines (pinned pins (random_read w.chip.select address n)) v ≡ heard_read w.chip.select address (held w.array address n)) started
    (then_hears (bytes_taken n) (heard_bytes (held w.array address n))
    (then
    (then
    (then
    (then (slave_sent w.chip w.array false w.chip.counter w.chip.mark no_load in_range)
    (first_sent w.chip w.array w.chip.counter w.chip.mark no_load (address / 256) (omega arith)))
    (second_sent w.chip w.array w.chip.counter w.chip.mark no_load address h))
    (restarted w.chip w.array address false))
    (slave_sent w.chip w.array true address false no_load in_range))
    (bytes_read_law w.chip w.array no_load n address)
    pins)
  where
    started : idle w.chip w.array w.chip.counter w.chip.mark no_load false (Slave 0 0) ≡ w
    started = idle_so w s.idle s.scl s.line s.phase s.load

-- For any chip that has just seen a START, at its own select: the random read is acknowledged, and the line's bits are those of the array's
-- bytes from the address on
pub random_read_law : (w : World) → SeesStart w.chip → w.chip.select ≤ 7 → (address n : ℕ) → address ≤ 0x3fff → (pins : ℕ → Bool)
    → Returns n (heard_of pins (random_read w.chip.select address n) w) (held w.array address n)
random_read_law w s in_range address n h pins =
    let bytes : List ℕ = held w.array address n in
    let heard : List Bool = heard_read w.chip.select address bytes in
    rw (spelled_heard pins (random_read w.chip.select address n) w, read_heard w s in_range address n h pins)
    (record {
      acknowledged = acks_heard w.chip.select address bytes;
      bits = subst (λ (m : ℕ). bits_read m heard ≡ map bits_of bytes) (length_held w.array address n) (read_bits w.chip.select address bytes);
    })

-- and a chip that rests, with the START made before the read: what is heard of its two events is no part of it
pub rested_read : (c : Chip) (xs : List ℕ) (counter : ℕ) (mark scl line : Bool) → c.select ≤ 7 → (address n : ℕ) → address ≤ 0x3fff → (pins : ℕ → Bool)
    → Returns n (drop 2 (heard_of pins (begin ++ random_read c.select address n) (resting c xs counter mark scl line))) (held xs address n)
unfolding spelled answers_of pinned stepped
rested_read c xs counter mark scl line in_range address n h pins =
    rw (sample_event true true (pins 0), sample_event true false (pins 1), ((begun c xs counter mark scl line).plays pins).ends)
    (random_read_law (idle c xs counter mark no_load false (Slave 0 0)) (record { idle = refl; phase = refl; load = refl; scl = refl; line = refl }) in_range address n h
    (λ k. pins (suc (suc k))))

-- the bits of bytes make the bytes
bytes_again : (bytes : List ℕ) → Bytes bytes → map (byte_of 0) (map bits_of bytes) ≡ bytes
bytes_again [] h = refl
bytes_again (byte ∷ rest) h = ap₂ (λ (b : ℕ) (l : List ℕ). b ∷ l) (byte_again byte (h 0)) (bytes_again rest (λ k. h (suc k)))

-- so what a read returns are those, where they are bytes
pub read_bytes : (n : ℕ) (heard : List Bool) (bytes : List ℕ) → Returns n heard bytes → Bytes bytes → bytes_read n heard ≡ bytes
read_bytes n heard bytes r h = rw r.bits (bytes_again bytes h)
