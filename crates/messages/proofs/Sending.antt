-- A byte that the master sends, clock by clock: the chip takes its eight bits and acknowledges it. Assumes nothing.
use Prim.Native.Nat.{ℕ, ◌+◌, ◌*◌, ◌/◌, ◌%◌, ◌≤◌, ◌<◌}
use mathlib.Core.Bool.{Bool, true, false, cond, not}
use mathlib.Core.List.{List, [], ◌∷◌, ◌++◌}
use mathlib.Core.Path.{◌≡◌, refl, sym, ap, subst}
use native.Mathlib.Omega.{arith}
use borrow.Author.Tests.{eq-eqb, ne_eqb, eqb-true}
use lib.Dec.{eqb}
use Rattle.parts.specs.Load.{no_load, loaded}
use Rattle.parts.specs.Phase.{weight, bit_of, risen, phase_pulls}
use Rattle.parts.specs.Register.{has_register}
use Rattle.parts.specs.Sector.{next_place}
use Rattle.parts.specs.declared.load.Load.{Load}
use Rattle.parts.specs.declared.phase.Phase.{Phase}
use Rattle.parts.specs.declared.phase.Phase.TheVariants.{Standby, Slave, First, Second, Data, AckWrite, AckRead, AckFirst, AckByte}
use Rattle.parts.proofs.RowLaws.{below, each}
use Rattle.parts.specs.Rows.{stepped}
use Rattle.chip.specs.Chip.{pulls, with_transfer}
use Rattle.chip.specs.Event.{next, next_array, settled, sampled, judged, reacted}
use Rattle.chip.specs.Part.{enabled}
use Rattle.chip.specs.Run.{World, world, step, note_of, lines, notes}
use Rattle.chip.specs.Stop.{rightly, stop_effect, effect_moved}
use Rattle.chip.specs.Transfer.{Moved, quiet, fall_in, slave_taken, address_taken, array_data, register_data}
use Rattle.chip.specs.Wire.{line_of, edge_of, sample}
use Rattle.chip.specs.declared.chip.Chip.{Chip}
use Rattle.chip.proofs.Posed.{posed}
use Rattle.messages.specs.Messages.{begin, byte_sent, slave_byte}
use Rattle.messages.specs.RandomRead.{restart}
use Rattle.messages.specs.Wires.{clock, clocks, bits_of, byte_of}
use Rattle.messages.proofs.Telling.{pinned, silent, Says, then}

-- each level in both halves of its clock
unfoldable pub twice : List Bool → List Bool
twice [] = []
twice (b ∷ rest) = b ∷ b ∷ twice rest

-- what is heard of a byte that is sent and acknowledged
unfoldable pub heard_sent : ℕ → List Bool
heard_sent byte = twice (bits_of byte) ++ false ∷ false ∷ []

-- the bits of a byte make the byte: computed for all 256
pub byte_again : (byte : ℕ) → byte < 256 → byte_of 0 (bits_of byte) ≡ byte
unfolding below byte_of
byte_again byte h = eqb-true (byte_of 0 (bits_of byte)) byte (each 256 (λ (b : ℕ). eqb (byte_of 0 (bits_of b)) b) refl byte h)

-- the bytes that a chip wants: the slave byte, two address bytes, data
data Wanted : Type 0 where
  slave first more : Wanted
  second : ℕ → Wanted

-- the phase before each
abbrev before : Wanted → Phase
before slave = Slave 0 0
before first = AckWrite
before (second high) = AckFirst high
before more = AckByte

-- the phase with all its bits
abbrev full : Wanted → ℕ → Phase
full slave got = Slave 8 got
full first got = First 8 got
full (second high) got = Second high 8 got
full more got = Data 8 got

-- an idle chip, otherwise as it is given, with SCL high
abbrev pub idle : Chip → List ℕ → ℕ → Bool → Load → Bool → Phase → World
idle c xs counter mark load line phase = world (posed (with_transfer c phase counter mark load) false true line phase) xs

-- an idle chip in standby with no load, otherwise as it is given, with these last levels
abbrev pub resting : Chip → List ℕ → ℕ → Bool → Bool → Bool → World
resting c xs counter mark scl line = world (posed (with_transfer c Standby counter mark no_load) false scl line Standby) xs

-- with what it is known to have a chip is itself
pub idle_so : (w : World) {line : Bool} {phase : Phase} {load : Load} → w.chip.busy ≡ false → w.chip.scl ≡ true → w.chip.line ≡ line → w.chip.phase ≡ phase → w.chip.load ≡ load
    → idle w.chip w.array w.chip.counter w.chip.mark load line phase ≡ w
idle_so w b s l p d i =
    world (posed (with_transfer w.chip (sym p i) w.chip.counter w.chip.mark (sym d i)) (sym b i) (sym s i) (sym l i) (sym p i)) w.array

module _ (c : Chip) (xs : List ℕ) where
  -- a chip that rests sees a START, whatever its last levels
  pub begun : (counter : ℕ) (mark scl line : Bool)
      → Says (resting c xs counter mark scl line) begin (true ∷ false ∷ []) (idle c xs counter mark no_load false (Slave 0 0))
  unfolding stepped lines notes note_of silent step next next_array sampled judged reacted edge_of pulls phase_pulls risen stop_effect rightly effect_moved pinned
  begun counter mark true true = record { plays = λ pins. record { ends = refl; hears = refl; tells = refl } }
  begun counter mark true false = record { plays = λ pins. record { ends = refl; hears = refl; tells = refl } }
  begun counter mark false true = record { plays = λ pins. record { ends = refl; hears = refl; tells = refl } }
  begun counter mark false false = record { plays = λ pins. record { ends = refl; hears = refl; tells = refl } }

  -- eight clocks bring eight bits
  bits_taken : (wanted : Wanted) (counter : ℕ) (mark : Bool) (load : Load) (b7 b6 b5 b4 b3 b2 b1 b0 : Bool)
      → Says (idle c xs counter mark load false (before wanted)) (clocks (b7 ∷ b6 ∷ b5 ∷ b4 ∷ b3 ∷ b2 ∷ b1 ∷ b0 ∷ [])) (twice (b7 ∷ b6 ∷ b5 ∷ b4 ∷ b3 ∷ b2 ∷ b1 ∷ b0 ∷ []))
      (idle c xs counter mark load b0 (full wanted (byte_of 0 (b7 ∷ b6 ∷ b5 ∷ b4 ∷ b3 ∷ b2 ∷ b1 ∷ b0 ∷ []))))
  unfolding twice stepped lines notes note_of silent step next next_array sampled judged reacted edge_of pulls phase_pulls risen fall_in clocks pinned byte_of
  bits_taken slave counter mark load b7 b6 b5 b4 b3 b2 b1 b0 = record { plays = λ pins. record { ends = refl; hears = refl; tells = refl } }
  bits_taken first counter mark load b7 b6 b5 b4 b3 b2 b1 b0 = record { plays = λ pins. record { ends = refl; hears = refl; tells = refl } }
  bits_taken more counter mark load b7 b6 b5 b4 b3 b2 b1 b0 = record { plays = λ pins. record { ends = refl; hears = refl; tells = refl } }
  bits_taken (second high) counter mark load b7 b6 b5 b4 b3 b2 b1 b0 = record { plays = λ pins. record { ends = refl; hears = refl; tells = refl } }

  -- those of a byte bring the byte
  bits_sent : (wanted : Wanted) (counter : ℕ) (mark : Bool) (load : Load) (byte : ℕ) → byte < 256
      → Says (idle c xs counter mark load false (before wanted)) (clocks (bits_of byte)) (twice (bits_of byte)) (idle c xs counter mark load (bit_of byte 0) (full wanted byte))
  bits_sent wanted counter mark load byte h =
      subst
      (λ (got : ℕ). Says (idle c xs counter mark load false (before wanted)) (clocks (bits_of byte)) (twice (bits_of byte)) (idle c xs counter mark load (bit_of byte 0) (full wanted got)))
      (byte_again byte h)
      (bits_taken wanted counter mark load
      (bit_of byte 7) (bit_of byte 6) (bit_of byte 5) (bit_of byte 4) (bit_of byte 3) (bit_of byte 2) (bit_of byte 1) (bit_of byte 0))

  -- in the ninth clock a slave byte with the chip's select is acknowledged, for writing or reading
  slave_acked : (reads : Bool) (counter : ℕ) (mark : Bool) (load : Load) (line : Bool) (got : ℕ)
      → eqb (got / 16) 0b1010 ≡ true → eqb (got / 2 % 8) c.select ≡ true → eqb (got % 2) 0 ≡ not reads
      → Says (idle c xs counter mark load line (Slave 8 got)) (clock true) (false ∷ false ∷ []) (idle c xs counter mark load false (cond reads AckRead AckWrite))
  unfolding stepped lines notes note_of silent step next next_array sampled judged reacted edge_of pulls phase_pulls risen fall_in slave_taken pinned
  slave_acked true counter mark load line got p q r = record { plays = λ pins. record { ends = rw (p, q, r); hears = rw (p, q, r); tells = refl } }
  slave_acked false counter mark load line got p q r = record { plays = λ pins. record { ends = rw (p, q, r); hears = rw (p, q, r); tells = refl } }

  -- and so is the first address byte
  first_acked : (counter : ℕ) (mark : Bool) (load : Load) (line : Bool) (got : ℕ)
      → Says (idle c xs counter mark load line (First 8 got)) (clock true) (false ∷ false ∷ []) (idle c xs counter mark load false (AckFirst got))
  unfolding stepped lines notes note_of silent step next next_array sampled judged reacted edge_of pulls phase_pulls risen fall_in pinned
  first_acked counter mark load line got = record { plays = λ pins. record { ends = refl; hears = refl; tells = refl } }

  -- and the second, which clears the mark and sets the counter where the address is not FFFFh
  second_acked : (counter : ℕ) (mark : Bool) (load : Load) (line : Bool) (high got : ℕ) → eqb (high * 256 + got) 0xffff ≡ false
      → Says (idle c xs counter mark load line (Second high 8 got)) (clock true) (false ∷ false ∷ []) (idle c xs ((high * 256 + got) % 0x4000) false load false AckByte)
  unfolding stepped lines notes note_of silent step next next_array sampled judged reacted edge_of pulls phase_pulls risen fall_in address_taken pinned
  second_acked counter mark load line high got p = record { plays = λ pins. record { ends = rw p; hears = rw p; tells = rw p } }

  -- FFFFh sets it and leaves the counter where there is a register
  register_acked : (counter : ℕ) (mark : Bool) (load : Load) (line : Bool) → has_register c.part ≡ true
      → Says (idle c xs counter mark load line (Second 255 8 255)) (clock true) (false ∷ false ∷ []) (idle c xs counter true load false AckByte)
  unfolding stepped lines notes note_of silent step next next_array sampled judged reacted edge_of pulls phase_pulls risen fall_in address_taken pinned
  register_acked counter mark load line has = record { plays = λ pins. record { ends = rw has; hears = rw has; tells = rw has } }

  -- a data byte for the array joins the load where PEL is set or not asked
  data_acked : (counter : ℕ) (load : Load) (line : Bool) (got : ℕ) → enabled c.part c.register.pel ≡ true
      → Says (idle c xs counter false load line (Data 8 got)) (clock true) (false ∷ false ∷ []) (idle c xs (next_place counter) false (loaded load counter got) false AckByte)
  unfolding stepped lines notes note_of silent step next next_array sampled judged reacted edge_of pulls phase_pulls risen fall_in array_data pinned
  data_acked counter load line got p = record { plays = λ pins. record { ends = rw p; hears = rw p; tells = rw p } }

  -- the first one for the register is kept at place 0
  byte_taken_law : (counter : ℕ) (line : Bool) (got : ℕ) → has_register c.part ≡ true
      → let d : Chip = (idle c xs counter true no_load line (Data 8 got)).chip in fall_in (Data 8 got) d xs ≡ quiet (with_transfer d AckByte counter true (loaded no_load 0 got))
  unfolding fall_in register_data
  byte_taken_law counter line got has = rw has

  byte_acked : (counter : ℕ) (line : Bool) (got : ℕ) → has_register c.part ≡ true
      → Says (idle c xs counter true no_load line (Data 8 got)) (clock true) (false ∷ false ∷ []) (idle c xs counter true (loaded no_load 0 got) false AckByte)
  unfolding stepped lines notes note_of silent step next next_array sampled judged reacted edge_of pulls phase_pulls risen pinned
  byte_acked counter line got has =
      let e = byte_taken_law counter line got has in
      record {
        plays = λ pins.
            record {
              ends = rw e;
              hears = rw e;
              tells = ap (λ (m : Moved). m.note ∷ note_of (sample true true (pins 1)) (world (settled m false (line_of (pulls m.chip) true)).chip xs) ∷ []) e;
            };
      }

  -- 2, 3, 1 ends the acknowledge and makes a START, which drops no load
  pub restarted : (counter : ℕ) (mark : Bool)
      → Says (idle c xs counter mark no_load false AckByte) restart (true ∷ true ∷ false ∷ []) (idle c xs counter mark no_load false (Slave 0 0))
  unfolding stepped lines notes note_of silent step next next_array sampled judged reacted edge_of pulls phase_pulls risen fall_in pinned
  restarted counter mark = record { plays = λ pins. record { ends = refl; hears = refl; tells = refl } }

  -- the slave byte with the chip's select, written or read
  pub slave_sent : (reads : Bool) (counter : ℕ) (mark : Bool) (load : Load) → c.select ≤ 7
      → Says (idle c xs counter mark load false (Slave 0 0)) (byte_sent (slave_byte c.select reads)) (heard_sent (slave_byte c.select reads))
      (idle c xs counter mark load false (cond reads AckRead AckWrite))
  unfolding byte_sent heard_sent
  slave_sent reads counter mark load h =
      let byte : ℕ = slave_byte c.select reads in
      let bit : weight reads 1 ≤ 1 = bit_most reads in
      let half : byte / 2 ≡ 80 + c.select = omega arith in
      let odd : byte % 2 ≡ weight reads 1 = omega arith in
      then (bits_sent slave counter mark load byte (omega arith))
      (slave_acked reads counter mark load (bit_of byte 0) byte
      (eq-eqb (byte / 16) 0b1010 (omega arith)) (rw half (eq-eqb ((80 + c.select) % 8) c.select (omega arith))) (rw odd (bit_zero reads)))
    where
      bit_most : (on : Bool) → weight on 1 ≤ 1
      bit_most true = omega arith
      bit_most false = omega arith

      bit_zero : (on : Bool) → eqb (weight on 1) 0 ≡ not on
      bit_zero true = refl
      bit_zero false = refl

  -- the high byte of an address
  pub first_sent : (counter : ℕ) (mark : Bool) (load : Load) (byte : ℕ) → byte < 256
      → Says (idle c xs counter mark load false AckWrite) (byte_sent byte) (heard_sent byte) (idle c xs counter mark load false (AckFirst byte))
  unfolding byte_sent heard_sent
  first_sent counter mark load byte h = then (bits_sent first counter mark load byte h) (first_acked counter mark load (bit_of byte 0) byte)

  -- its low byte: the counter is the address
  pub second_sent : (counter : ℕ) (mark : Bool) (load : Load) (address : ℕ) → address ≤ 0x3fff
      → Says (idle c xs counter mark load false (AckFirst (address / 256))) (byte_sent (address % 256)) (heard_sent (address % 256)) (idle c xs address false load false AckByte)
  unfolding byte_sent heard_sent
  second_sent counter mark load address h =
      let whole : (address / 256 * 256 + address % 256) % 0x4000 ≡ address = omega arith in
      subst (λ (at : ℕ). Says (idle c xs counter mark load false (AckFirst (address / 256))) (byte_sent (address % 256)) (heard_sent (address % 256)) (idle c xs at false load false AckByte))
      whole
      (then (bits_sent (second (address / 256)) counter mark load (address % 256) (omega arith))
      (second_acked counter mark load (bit_of (address % 256) 0) (address / 256) (address % 256)
      (ne_eqb (address / 256 * 256 + address % 256) 0xffff (omega arith))))

  -- FFFFh's low byte: the register is selected
  pub register_sent : (counter : ℕ) (mark : Bool) (load : Load) → has_register c.part ≡ true
      → Says (idle c xs counter mark load false (AckFirst 255)) (byte_sent 255) (heard_sent 255) (idle c xs counter true load false AckByte)
  unfolding byte_sent heard_sent
  register_sent counter mark load has = then (bits_sent (second 255) counter mark load 255 (omega arith)) (register_acked counter mark load (bit_of 255 0) has)

  -- a data byte for the register
  pub byte_sent_law : (counter : ℕ) (byte : ℕ) → has_register c.part ≡ true → byte < 256
      → Says (idle c xs counter true no_load false AckByte) (byte_sent byte) (heard_sent byte) (idle c xs counter true (loaded no_load 0 byte) false AckByte)
  unfolding byte_sent heard_sent
  byte_sent_law counter byte has h = then (bits_sent more counter true no_load byte h) (byte_acked counter (bit_of byte 0) byte has)

  -- a data byte for the array, with PEL set or not asked
  pub data_sent : (counter : ℕ) (load : Load) (byte : ℕ) → enabled c.part c.register.pel ≡ true → byte < 256
      → Says (idle c xs counter false load false AckByte) (byte_sent byte) (heard_sent byte) (idle c xs (next_place counter) false (loaded load counter byte) false AckByte)
  unfolding byte_sent heard_sent
  data_sent counter load byte on h = then (bits_sent more counter false load byte h) (data_acked counter load (bit_of byte 0) byte on)
