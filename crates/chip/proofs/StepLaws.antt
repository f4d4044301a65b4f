-- The walk of a step: what holds of a move, of a register change, of a cycle of the array, of its end and of a power-up holds of every event. Each rule
-- is followed here and nowhere else; a move brings with it what it keeps of the chip's ranges and bytes, and what its note may be. Assumes nothing.
use Prim.Native.Nat.{ℕ, zero, suc, ◌+◌, ◌*◌, ◌%◌, ◌≤◌, ◌<◌}
use mathlib.Core.Bool.{Bool, true, false, cond}
use mathlib.Core.Path.{◌≡◌, refl, sym, ap, subst}
use mathlib.Core.List.{List}
use native.Mathlib.Omega.{arith}
use borrow.Author.Tests.{leb-true, le-leb}
use lib.Dec.{eqb}
use Rattle.parts.specs.Load.{no_load, full_of, loaded}
use Rattle.parts.specs.Phase.{phase_fits, risen}
use Rattle.parts.specs.Sector.{next_place, next_address, Bytes}
use Rattle.parts.specs.Wait.{every_place, no_wait}
use Rattle.parts.specs.declared.load.Load.{Load}
use Rattle.parts.specs.declared.phase.Phase.{Phase}
use Rattle.parts.specs.declared.phase.Phase.TheVariants.{Standby, Slave, First, Second, Data, AckWrite, AckRead, AckFirst, AckByte, Sending, Waiting, Next}
use Rattle.parts.proofs.ByteLaws.{set_bytes, same_bytes}
use Rattle.parts.proofs.CondLaws.{cond_by}
use Rattle.parts.proofs.LoadLaws.{loaded_most}
use Rattle.parts.proofs.PhaseLaws.{got_of, Small, risen_fits, risen_small}
use Rattle.parts.proofs.SectorLaws.{next_place_fits, next_address_fits}
use Rattle.chip.specs.Chip.{with_transfer, with_cycle, cut_register, cut_array, power_up}
use Rattle.chip.specs.Event.{next, next_array, sampled, judged, reacted, edge_in, line_in, program_done, settled}
use Rattle.chip.specs.Part.{selects, marked, enabled, partial}
use Rattle.chip.specs.Stop.{Change, cycling, effect_moved}
use Rattle.chip.specs.Transfer.{Moved, moved, quiet, at_phase, empty_at, fall_in, slave_taken, addressed, address_taken, array_data, register_data, byte_begun, next_byte, byte_ended, drop_note}
use Rattle.chip.specs.View.{pin_high, mute, is_stop, stops, choices_of, byte_written, Stopped, Writable}
use Rattle.chip.specs.declared.chip.Chip.{Chip}
use Rattle.chip.specs.declared.wire.Edge.{Edge}
use Rattle.chip.specs.declared.wire.Edge.TheVariants.{Quiet, Start, Stop, Rise, Fall}
use Rattle.chip.specs.declared.wire.Event.{Event}
use Rattle.chip.specs.declared.wire.Event.TheVariants.{Sample, ProgramDone, PowerUp}
use Rattle.chip.specs.declared.wire.Sample.{Sample as Levels}
use Rattle.chip.proofs.CutLaws.{cut_idle}
use Rattle.chip.proofs.FitLaws.{Fits}
use Rattle.chip.proofs.StopLaws.{drop_mute, stop_by}

-- the load and what comes into it are bytes
pub record Octets (load : Load) (p : Phase) : Type 0 where
  pub loads : Bytes load.bytes
  pub got : Small p

-- of a chip
abbrev pub OctetsOf : Chip → Type 0
OctetsOf c = Octets c.load c.phase

-- an empty load
pub none_octets : (p : Phase) → Small p → Octets no_load p
none_octets p g = record { loads = same_bytes 32 0 (omega arith); got = g }

-- what a move keeps: in range and of bytes if the chip was; and its note says nothing of a write
pub record Moving (c : Chip) (phase : Phase) (counter : ℕ) (mark : Bool) (load : Load) (note : ℕ) : Type 0 where
  pub fits : Fits c → Fits (with_transfer c phase counter mark load)
  pub octets : OctetsOf c → Octets load phase
  pub silent : mute note ≡ true

-- `P` holds of every move: another phase, counter, mark and load
abbrev pub Moves : (Moved → Type 0) → Chip → Type 0
Moves P c =
    (phase : Phase) (counter : ℕ) (mark : Bool) (load : Load) (note : ℕ) → Moving c phase counter mark load note
    → P (moved (with_transfer c phase counter mark load) note)

module _ (P : Moved → Type 0) (c : Chip) (move : Moves P c) where
  -- a move with another counter, the load as it was
  jump : (phase : Phase) (counter : ℕ) (mark : Bool) → (Fits c → phase_fits phase ≡ true) → (Fits c → counter ≤ 0x3fff) → (OctetsOf c → Small phase)
      → P (quiet (with_transfer c phase counter mark c.load))
  unfolding mute
  jump phase counter mark p k g =
      move phase counter mark c.load 0
      (record {
        fits = λ f. record { part = f.part; select = f.select; bl = f.bl; counter = k f; phase = p f; count = f.count; target = f.target };
        octets = λ o. record { loads = o.loads; got = g o };
        silent = refl;
      })

  -- a move to another phase alone
  go_to : (phase : Phase) → (Fits c → phase_fits phase ≡ true) → (OctetsOf c → Small phase) → P (quiet (at_phase c phase))
  go_to phase p g = jump phase c.counter c.mark p (λ f. f.counter) g

  -- a move that drops the load
  drop_at : (phase : Phase) (note : ℕ) → phase_fits phase ≡ true → Small phase → mute note ≡ true → P (moved (empty_at c phase) note)
  drop_at phase note p g q =
      move phase c.counter c.mark no_load note
      (record {
        fits = λ f. record { part = f.part; select = f.select; bl = f.bl; counter = f.counter; phase = p; count = omega arith; target = f.target };
        octets = λ o. none_octets phase g;
        silent = q;
      })

  -- a move that brings a byte into the load
  load_at : (counter at byte : ℕ) → (Fits c → counter ≤ 0x3fff) → (OctetsOf c → byte < 0x100) → P (quiet (with_transfer c AckByte counter c.mark (loaded c.load at byte)))
  unfolding loaded phase_fits got_of mute
  load_at counter at byte k b =
      move AckByte counter c.mark (loaded c.load at byte) 0
      (record {
        fits = λ f. record { part = f.part; select = f.select; bl = f.bl; counter = k f; phase = refl; count = loaded_most c.load at byte; target = f.target };
        octets = λ o. record { loads = set_bytes c.load.bytes (at % 32) byte o.loads (b o); got = omega arith };
        silent = refl;
      })

  -- the move that changes nothing
  stay : P (quiet c)
  stay = go_to c.phase (λ f. f.phase) (λ o. o.got)

  -- a slave byte is taken by a move
  slave_by : (byte : ℕ) → P (quiet (slave_taken c byte))
  unfolding slave_taken phase_fits got_of
  slave_by byte =
      cond_by (λ p. P (quiet (at_phase c p))) (addressed c.select byte) _ Standby
      (λ e. cond_by (λ p. P (quiet (at_phase c p))) (eqb (byte % 2) 0) AckWrite AckRead (λ w. go_to AckWrite (λ f. refl) (λ o. omega arith)) (λ r. go_to AckRead (λ f. refl) (λ o. omega arith)))
      (λ e. go_to Standby (λ f. refl) (λ o. omega arith))

  -- an address is taken by a move
  address_by : (address : ℕ) → P (quiet (address_taken c address))
  unfolding address_taken phase_fits got_of
  address_by address =
      cond_by (λ d. P (quiet d)) (selects c.part address) _ _
      (λ e. jump AckByte c.counter true (λ f. refl) (λ f. f.counter) (λ o. omega arith))
      (λ e. jump AckByte (address % 0x4000) false (λ f. refl) (λ f. omega arith) (λ o. omega arith))

  -- a data byte to the array is taken by a move
  array_by : (byte : ℕ) → (OctetsOf c → byte < 0x100) → P (array_data c byte)
  unfolding array_data phase_fits got_of
  array_by byte b =
      cond_by (λ d. P (quiet d)) (enabled c.part c.register.pel) _ _
      (λ e. load_at (next_place c.counter) c.counter byte (λ f. next_place_fits c.counter f.counter) b)
      (λ e. go_to Standby (λ f. refl) (λ o. omega arith))

  -- a data byte with the mark is taken by a move
  register_by : (byte : ℕ) → (OctetsOf c → byte < 0x100) → P (register_data c byte)
  unfolding register_data phase_fits got_of mute
  register_by byte b =
      cond_by P (eqb c.load.count 0) _ _
      (λ e. load_at c.counter 0 byte (λ f. f.counter) b)
      (λ e. drop_at Standby 7 refl (omega arith) refl)

  -- a byte that is sent ends with a move
  ended_by : P (quiet (byte_ended c))
  unfolding byte_ended phase_fits got_of
  ended_by =
      cond_by (λ d. P (quiet d)) (marked c.part c.mark) _ _
      (λ e. jump Standby 0x0000 false (λ f. refl) (λ f. omega arith) (λ o. omega arith))
      (λ e. jump Waiting (next_address c.counter) c.mark (λ f. refl) (λ f. next_address_fits c.counter) (λ o. omega arith))

  -- a clock fall is a move
  pub fall_by : (p : Phase) (xs : List ℕ) → c.phase ≡ p → P (fall_in p c xs)
  unfolding fall_in byte_begun phase_fits got_of
  fall_by Standby xs at = stay
  fall_by (Slave bits got) xs at = cond_by (λ d. P (quiet d)) (eqb bits 8) (slave_taken c got) c (λ e. slave_by got) (λ e. stay)
  fall_by (First bits got) xs at = cond_by (λ d. P (quiet d)) (eqb bits 8) (at_phase c (AckFirst got)) c (λ e. go_to (AckFirst got) (λ f. refl) (λ o. omega arith)) (λ e. stay)
  fall_by (Second high bits got) xs at =
      cond_by (λ d. P (quiet d)) (eqb bits 8) (address_taken c (high * 256 + got)) c (λ e. address_by (high * 256 + got)) (λ e. stay)
  fall_by (Data bits got) xs at =
      cond_by P (eqb bits 8) _ (quiet c)
      (λ e. cond_by P (marked c.part c.mark) (register_data c got) (array_data c got) (λ m. register_by got (λ o. rw at at o.got)) (λ m. array_by got (λ o. rw at at o.got)))
      (λ e. stay)
  fall_by AckWrite xs at = go_to (First 0 0) (λ f. refl) (λ o. omega arith)
  fall_by AckRead xs at = go_to (Sending 7 (next_byte c xs)) (λ f. refl) (λ o. omega arith)
  fall_by (AckFirst high) xs at = go_to (Second high 0 0) (λ f. refl) (λ o. omega arith)
  fall_by AckByte xs at = go_to (Data 0 0) (λ f. refl) (λ o. omega arith)
  fall_by (Sending zero byte) xs at = ended_by
  fall_by (Sending (suc bit) byte) xs at = go_to (Sending bit byte) (λ f. le-leb bit 7 (omega (arith, leb-true (suc bit) 7 (rw at at f.phase)))) (λ o. omega arith)
  fall_by Waiting xs at = stay
  fall_by Next xs at = go_to (Sending 7 (next_byte c xs)) (λ f. refl) (λ o. omega arith)

-- `P` holds of the register byte's change that this event makes
abbrev pub Changes : (Moved → List ℕ → Type 0) → Event → Chip → List ℕ → Type 0
Changes P e c xs = Stopped e c → marked c.part c.mark ≡ true → P (effect_moved (Change (byte_written e c)) c) xs

-- `P` holds of the cycle that it begins: with the load, or, where the load is partial, with the spoil byte in all places
abbrev pub Cycles : (Moved → List ℕ → Type 0) → Event → Chip → List ℕ → Type 0
Cycles P e c xs =
    (short : Bool) → partial c.part c.load.count ≡ short → Stopped e c → Writable c (pin_high e)
    → P (cycling c (cond short (full_of c.spoil) c.load) (cond short 5 1)) xs

-- `P` holds of the program-done that ends a cycle, and of a power-up
abbrev pub Ends : (Moved → List ℕ → Type 0) → Event → Chip → List ℕ → Type 0
Ends P e c xs =
    (e ≡ ProgramDone → c.busy ≡ true → P (quiet (with_cycle c (cut_register every_place c) false no_wait)) (cut_array every_place c xs))
    × (e ≡ PowerUp (choices_of e) → P (quiet (power_up (choices_of e) c)) (cut_array (choices_of e) c xs))

-- every edge of an idle chip is a move, a register change or a cycle
react_by : (P : Moved → List ℕ → Type 0) (s : Levels) (c : Chip) (xs : List ℕ) (edge : Edge) → c.busy ≡ false → edge_in c s ≡ edge
    → Moves (λ m. P m xs) c → Changes P (Sample s) c xs → Cycles P (Sample s) c xs
    → P (reacted edge c (line_in c s) s.pin xs) xs
unfolding reacted phase_fits got_of mute pin_high stops is_stop
react_by P s c xs Quiet idle edge move change cycle = stay (λ m. P m xs) c move
react_by P s c xs Start idle edge move change cycle = drop_at (λ m. P m xs) c move (Slave 0 0) (drop_note c) refl (omega arith) (drop_mute c)
react_by P s c xs Stop idle edge move change cycle =
    stop_by (λ effect. P (effect_moved effect c) xs) c s.pin
    (λ note q. unfold effect_moved in drop_at (λ m. P m xs) c move Standby note refl (omega arith) q)
    (λ right some. change (record { idle = idle; stop = ap is_stop edge; right = right; some = some }))
    (λ right some writable whole. unfold effect_moved in cycle false whole (record { idle = idle; stop = ap is_stop edge; right = right; some = some }) writable)
    (λ right some writable short. unfold effect_moved in cycle true short (record { idle = idle; stop = ap is_stop edge; right = right; some = some }) writable)
react_by P s c xs Rise idle edge move change cycle =
    go_to (λ m. P m xs) c move (risen c.phase (line_in c s)) (λ f. risen_fits c.phase (line_in c s) f.phase) (λ o. risen_small c.phase (line_in c s) o.got)
react_by P s c xs Fall idle edge move change cycle = fall_by (λ m. P m xs) c move c.phase xs refl

-- a busy chip does not move, an idle one reacts
judge_by : (P : Moved → List ℕ → Type 0) (s : Levels) (c : Chip) (xs : List ℕ)
    → Moves (λ m. P m xs) c → Changes P (Sample s) c xs → Cycles P (Sample s) c xs
    → P (judged c xs s.scl (line_in c s) s.pin) xs
unfolding judged
judge_by P s c xs move change cycle = go c.busy refl
  where
    go : (busy : Bool) → c.busy ≡ busy → P (cond busy (quiet c) (reacted (edge_in c s) c (line_in c s) s.pin xs)) xs
    go true b = stay (λ m. P m xs) c move
    go false b = react_by P s c xs (edge_in c s) b refl move change cycle

-- a program-done ends a cycle, or leaves an idle chip
done_by : (P : Moved → List ℕ → Type 0) (c : Chip) (xs : List ℕ) → Moves (λ m. P m xs) c
    → (c.busy ≡ true → P (quiet (with_cycle c (cut_register every_place c) false no_wait)) (cut_array every_place c xs))
    → P (quiet (program_done c)) (cut_array every_place c xs)
unfolding program_done
done_by P c xs move end = go c.busy refl
  where
    go : (busy : Bool) → c.busy ≡ busy → P (quiet (cond busy (with_cycle c (cut_register every_place c) false no_wait) c)) (cut_array every_place c xs)
    go true b = end b
    go false b = subst (λ ys. P (quiet c) ys) (sym (cut_idle every_place c xs b)) (stay (λ m. P m xs) c move)

-- every event is a sample, which sets the levels besides, a program-done or a power-up
pub next_by : (P : Moved → List ℕ → Type 0) (e : Event) (c : Chip) (xs : List ℕ)
    → ((m : Moved) (ys : List ℕ) (scl line : Bool) → P m ys → P (settled m scl line) ys)
    → Moves (λ m. P m xs) c → Changes P e c xs → Cycles P e c xs → Ends P e c xs
    → P (next e c xs) (next_array e c xs)
unfolding next next_array sampled choices_of
next_by P (Sample s) c xs settle move change cycle end =
    settle (judged c xs s.scl (line_in c s) s.pin) xs s.scl _ (judge_by P s c xs move change cycle)
next_by P ProgramDone c xs settle move change cycle end = done_by P c xs move (end.0 refl)
next_by P (PowerUp choices) c xs settle move change cycle end = end.1 refl
