-- One bit of a byte: what a byte with this bit set or cleared is, and which bits it has; a byte is its bits. Computed for every byte and every bit. Assumes nothing.
use Prim.Native.Nat.{ℕ, zero, suc, ◌+◌, ◌-◌, ◌*◌, ◌%◌, ◌^◌, ◌≤◌, ◌<◌}
use mathlib.Core.Bool.{Bool, true, false, cond, beq}
use mathlib.Core.Path.{◌≡◌, refl, sym, ◌∙◌}
use native.Mathlib.Omega.{arith}
use lib.Bits.{bit_and, bit_or}
use lib.Dec.{eqb, leb, ltb}
use borrow.Author.Tests.{eqb-true, leb-true, ltb-true}
use Rattle.parts.specs.Phase.{weight, bit_of}
use Rattle.parts.proofs.CondLaws.{beq_true}
use Rattle.parts.proofs.RowLaws.{below, each}
use Rattle.map.specs.Sectors.{with_bit}

-- what passes for each byte and each of its bits, passes for this one
at_bit : (test : ℕ → ℕ → Bool) → below 256 (λ byte. below 8 (test byte)) ≡ true → (byte bit : ℕ) → byte < 256 → bit < 8 → test byte bit ≡ true
at_bit test t byte bit h k = each 8 (test byte) (each 256 (λ x. below 8 (test x)) t byte h) bit k

hit : Bool → ℕ → ℕ → ℕ → Bool
hit on byte bit j = beq (bit_of (with_bit byte bit on) j) (cond (eqb j bit) on (bit_of byte j))

hits : (on : Bool) → below 256 (λ byte. below 8 (λ bit. below 8 (hit on byte bit))) ≡ true
unfolding below with_bit hit
hits true = refl
hits false = refl

-- its bit is as it was set, and each other bit as it was
pub with_bit_law : (byte bit j : ℕ) (on : Bool) → byte < 256 → bit < 8 → j < 8 → bit_of (with_bit byte bit on) j ≡ cond (eqb j bit) on (bit_of byte j)
unfolding hit
with_bit_law byte bit j on h k l =
    beq_true _ _ (each 8 (hit on byte bit) (at_bit (λ x b. below 8 (hit on x b)) (hits on) byte bit h k) j l)

smalls : (on : Bool) → below 256 (λ byte. below 8 (λ bit. ltb (with_bit byte bit on) 256)) ≡ true
unfolding below with_bit
smalls true = refl
smalls false = refl

-- it is a byte
pub with_byte : (byte bit : ℕ) (on : Bool) → byte < 256 → bit < 8 → with_bit byte bit on < 256
with_byte byte bit on h k = ltb-true _ _ (at_bit (λ x b. ltb (with_bit x b on) 256) (smalls on) byte bit h k)

-- as the code makes it
abbrev pub moved : Bool → ℕ → ℕ → ℕ
moved on byte bit = cond on (bit_or byte (1 * 2 ^ bit % 256)) (bit_and byte (255 - 1 * 2 ^ bit % 256))

moves : (on : Bool) → below 256 (λ byte. below 8 (λ bit. eqb (with_bit byte bit on) (moved on byte bit))) ≡ true
unfolding below with_bit
moves true = refl
moves false = refl

-- its mask put in, or taken out
pub with_moved : (byte bit : ℕ) (on : Bool) → byte < 256 → bit < 8 → with_bit byte bit on ≡ moved on byte bit
with_moved byte bit on h k = eqb-true _ _ (at_bit (λ x b. eqb (with_bit x b on) (moved on x b)) (moves on) byte bit h k)

leasts : below 256 (λ byte. below 8 (λ bit. leb (weight (bit_of byte bit) (2 ^ bit)) byte)) ≡ true
unfolding below
leasts = refl

-- a byte is not less than a bit that it has
pub bit_least : (byte bit : ℕ) → byte < 256 → bit < 8 → bit_of byte bit ≡ true → 2 ^ bit ≤ byte
bit_least byte bit h k e =
    rw e at (leb-true (weight (bit_of byte bit) (2 ^ bit)) byte (at_bit (λ x b. leb (weight (bit_of x b) (2 ^ b)) x) leasts byte bit h k))

-- the number that n bits are
unfoldable packed : ℕ → (ℕ → Bool) → ℕ
packed zero bits = 0
packed (suc n) bits = weight (bits n) (2 ^ n) + packed n bits

packed_same : (n : ℕ) (f g : ℕ → Bool) → ((j : ℕ) → j < n → f j ≡ g j) → packed n f ≡ packed n g
unfolding packed
packed_same zero f g same = refl
packed_same (suc n) f g same = rw (same n (omega arith), packed_same n f g (λ j h. same j (omega arith)))

packs : below 256 (λ byte. eqb (packed 8 (bit_of byte)) byte) ≡ true
unfolding below packed
packs = refl

-- a byte is its bits
pack : (byte : ℕ) → byte < 256 → packed 8 (bit_of byte) ≡ byte
pack byte h = eqb-true _ _ (each 256 (λ x. eqb (packed 8 (bit_of x)) x) packs byte h)

-- bytes of the same bits are one
pub same_byte : (a b : ℕ) → a < 256 → b < 256 → ((j : ℕ) → j < 8 → bit_of a j ≡ bit_of b j) → a ≡ b
same_byte a b h k same = sym (pack a h) ∙ packed_same 8 (bit_of a) (bit_of b) same ∙ pack b k
