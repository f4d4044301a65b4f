-- The event bytes of wires with the pin low: of a row after another, how many they are, and each next clock or byte of a row. Assumes nothing.
use Prim.Native.Nat.{ℕ, zero, suc, ◌+◌, ◌-◌, ◌*◌, ◌≤◌, ◌<◌}
use mathlib.Core.Bool.{Bool, true, false}
use mathlib.Core.List.{List, [], ◌∷◌, ◌++◌, append_assoc, append-nil}
use mathlib.Core.Path.{◌≡◌, refl, sym, ap, ◌∙◌}
use native.Mathlib.Omega.{arith}
use native.Mathlib.Numerals.{add-one}
use lib.ListN.{length, get_or, set, take, length-set}
use lib.Seq.{take-suc, length-take-le}
use Rattle.std.proofs.lemmas.List.{take_more_set}
use Rattle.parts.specs.Phase.{bit_of}
use Rattle.trace.specs.Bytes.{sample_byte}
use Rattle.messages.specs.Messages.{byte_sent, bytes_sent}
use Rattle.messages.specs.Wires.{Wires, clock, clocks, bits_of, spelled}
use Rattle.messages.proofs.Spelling.{spelled_length, bytes_length}
use Rattle.sender.specs.Sending.{low}

-- one row after another
pub low_on : (one two : List Wires) → low (one ++ two) ≡ low one ++ low two
unfolding spelled
low_on [] two = refl
low_on (w ∷ one) two = rw (low_on one two)

-- one byte for each sample
pub low_length : (wires : List Wires) → length (low wires) ≡ length wires
low_length wires = spelled_length (λ k. false) wires

-- two for each clock
clocks_length : (row : List Bool) → length (clocks row) ≡ length row * 2
unfolding clocks
clocks_length [] = refl
clocks_length (sda ∷ row) = omega (arith, clocks_length row)

-- one clock more
clocks_more : (row : List Bool) (sda : Bool) → clocks (row ++ (sda ∷ [])) ≡ clocks row ++ clock sda
unfolding clocks
clocks_more [] sda = refl
clocks_more (first ∷ row) sda = rw (clocks_more row sda)

-- bytes after bytes
pub bytes_on : (one two : List ℕ) → bytes_sent (one ++ two) ≡ bytes_sent one ++ bytes_sent two
bytes_on [] two = refl
bytes_on (byte ∷ one) two =
    ap (λ (l : List Wires). byte_sent byte ++ l) (bytes_on one two) ∙ sym (append_assoc (byte_sent byte) (bytes_sent one) (bytes_sent two))

-- one byte more
bytes_more : (row : List ℕ) (byte : ℕ) → bytes_sent (row ++ (byte ∷ [])) ≡ bytes_sent row ++ byte_sent byte
bytes_more row byte = bytes_on row (byte ∷ []) ∙ ap (λ (l : List Wires). bytes_sent row ++ l) (append-nil (byte_sent byte))

-- bit 7 goes first
bits_at : (byte k : ℕ) → k < 8 → get_or (bits_of byte) k false ≡ bit_of byte (7 - k)
bits_at byte zero h = refl
bits_at byte (suc zero) h = refl
bits_at byte (suc (suc zero)) h = refl
bits_at byte (suc (suc (suc zero))) h = refl
bits_at byte (suc (suc (suc (suc zero)))) h = refl
bits_at byte (suc (suc (suc (suc (suc zero))))) h = refl
bits_at byte (suc (suc (suc (suc (suc (suc zero)))))) h = refl
bits_at byte (suc (suc (suc (suc (suc (suc (suc zero))))))) h = refl
bits_at byte (suc (suc (suc (suc (suc (suc (suc (suc k)))))))) h = absurd (omega arith)

-- the clocks of some bits of a byte
pub clocks_so_far : (byte k : ℕ) → k ≤ 8 → length (low (clocks (take k (bits_of byte)))) ≡ k * 2
clocks_so_far byte k h =
    low_length (clocks (take k (bits_of byte))) ∙ clocks_length (take k (bits_of byte)) ∙ ap (λ (n : ℕ). n * 2) (length-take-le k (bits_of byte) h)

-- nine clocks for each byte
pub row_length : (row : List ℕ) → length (low (bytes_sent row)) ≡ length row * 18
row_length row = low_length (bytes_sent row) ∙ bytes_length row

-- a byte's next clock
pub next_clock : (byte k : ℕ) → k < 8 → clocks (take k (bits_of byte)) ++ clock (bit_of byte (7 - k)) ≡ clocks (take (k + 1) (bits_of byte))
next_clock byte k l =
    let row : List Bool = take k (bits_of byte) in
    let more : take (k + 1) (bits_of byte) ≡ row ++ (bit_of byte (7 - k) ∷ []) = rw (add-one, ← bits_at byte k l) (take-suc (bits_of byte) k false l) in
    sym (ap clocks more ∙ clocks_more row (bit_of byte (7 - k)))

-- two stores leave the length
pub clock_room : (events : List ℕ) (at a b : ℕ) → length (set (set events at a) (at + 1) b) ≡ length events
clock_room events at a b = length-set (set events at a) (at + 1) b ∙ length-set events at a

-- and make a clock behind those that stand in front
pub clock_behind : (events : List ℕ) (k : ℕ) (sda : Bool) (row : List Wires) → k * 2 + 2 ≤ length events → take (k * 2) events ≡ low row
    → take ((k + 1) * 2) (set (set events (k * 2) (sample_byte false sda false)) (k * 2 + 1) (sample_byte true sda false)) ≡ low (row ++ clock sda)
unfolding spelled
clock_behind events k sda row room front =
    let a : ℕ = sample_byte false sda false in
    let b : ℕ = sample_byte true sda false in
    let at : ℕ = k * 2 in
    let first : List ℕ = set events at a in
    let far : (k + 1) * 2 ≡ at + 1 + 1 = omega arith in
    let wide : at + 1 < length first = omega (arith, room, length-set events at a) in
    let more : take (at + 1) first ≡ take at events ++ (a ∷ []) = take_more_set events at a (omega (arith, room)) in
    ap (λ (n : ℕ). take n (set first (at + 1) b)) far
    ∙ take_more_set first (at + 1) b wide
    ∙ ap (λ (l : List ℕ). l ++ (b ∷ [])) (more ∙ ap (λ (l : List ℕ). l ++ (a ∷ [])) front)
    ∙ append_assoc (low row) (a ∷ []) (b ∷ [])
    ∙ sym (low_on row (clock sda))

-- a row's next byte
pub next_byte : (bytes : List ℕ) (i : ℕ) → i < length bytes → bytes_sent (take i bytes) ++ byte_sent (get_or bytes i 0) ≡ bytes_sent (take (i + 1) bytes)
next_byte bytes i l =
    let row : List ℕ = take i bytes in
    let more : take (i + 1) bytes ≡ row ++ (get_or bytes i 0 ∷ []) = rw add-one (take-suc bytes i 0 l) in
    sym (ap bytes_sent more ∙ bytes_more row (get_or bytes i 0))
