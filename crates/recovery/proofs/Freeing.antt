-- How long a chip in range can hold the line: with SCL high a bit i that it sends takes i + 1 pulses, an acknowledge that turns to reading 9, one
-- that is still to come 10; with SCL low one more where it pulls. Assumes nothing.
use Prim.Native.Nat.{ℕ, zero, suc, ◌≤◌}
use mathlib.Core.Bool.{Bool, true, false, not, ◌&&◌}
use mathlib.Core.Path.{◌≡◌, refl, sym, ◌∙◌}
use mathlib.Core.List.{List}
use native.Mathlib.Omega.{arith}
use borrow.Author.Tests.{leb-true}
use Rattle.parts.specs.Phase.{risen, phase_pulls, phase_fits}
use Rattle.parts.specs.Sector.{next_address}
use Rattle.parts.specs.declared.load.Load.{Load}
use Rattle.parts.specs.declared.phase.Phase.{Phase}
use Rattle.parts.specs.declared.phase.Phase.TheVariants.{Standby, Slave, First, Second, Data, AckWrite, AckRead, AckFirst, AckByte, Sending, Waiting, Next}
use Rattle.parts.proofs.CondLaws.{cond_by}
use Rattle.parts.proofs.PhaseLaws.{Loose, risen_pulls}
use Rattle.chip.specs.Chip.{pulls, with_transfer, with_levels}
use Rattle.chip.specs.Event.{next, next_array, sampled, judged, reacted}
use Rattle.chip.specs.Part.{marked}
use Rattle.chip.specs.Run.{World, world, step}
use Rattle.chip.specs.Transfer.{Moved, fall_in, byte_begun, byte_ended, next_byte}
use Rattle.chip.specs.Wire.{sample, line_of, edge_of}
use Rattle.chip.specs.declared.chip.Chip.{Chip}
use Rattle.chip.proofs.FitLaws.{Fits}
use Rattle.chip.proofs.Posed.{posed}
use Rattle.chip.proofs.StepLaws.{fall_by}
use Rattle.recovery.specs.Pulses.{after_pulses}
use Rattle.recovery.specs.Recovery.{pulse}
use Rattle.recovery.proofs.Keeping.{world_with}

-- an idle chip at a phase, with SCL high or low
abbrev idle_at : Chip → Bool → Phase → Chip
idle_at c scl phase = posed c false scl c.line phase

-- the world after the low half of a pulse that left this chip
abbrev lowered : Chip → List ℕ → World
lowered c xs = world (with_levels c false (line_of (pulls c) true)) xs

-- and after the high half
abbrev raised : Bool → World → World
raised pin v = step (sample true true pin) v

-- the line is high after a pulse, at the latest m pulses after the next one
abbrev pub Soon : ℕ → Bool → World → Type 0
Soon m pin w = (n : ℕ) × (n ≤ m) × ((after_pulses (suc n) pin w).chip.line ≡ true)

-- the same in the middle of that next one
abbrev Half : ℕ → Bool → World → Type 0
Half m pin v = (n : ℕ) × (n ≤ m) × ((after_pulses n pin (raised pin v)).chip.line ≡ true)

-- one pulse later
up : (m : ℕ) (pin : Bool) (v : World) → Soon m pin (raised pin v) → Half (suc m) pin v
up m pin v (n, h, e) = (suc n, omega arith, e)

-- a line that nobody pulls is high
loose : (b : Bool) → b ≡ false → (not b && true) ≡ true
loose true e = sym e
loose false e = refl

-- at once, where the chip pulls no more
let_go : (m : ℕ) (pin : Bool) (c : Chip) (xs : List ℕ) (p : Phase) → Loose p → Half m pin (lowered (idle_at c c.scl p) xs)
unfolding after_pulses step next sampled judged reacted edge_of pulls
let_go m pin c xs p h = (0, omega arith, loose (phase_pulls (risen p _)) (risen_pulls p _ ∙ h))

-- SCL high: the next pulse begins with a fall
abbrev at_high : Chip → List ℕ → Phase → World
at_high c xs p = world (idle_at c true p) xs

-- and is decided by what the fall leaves
falling : (m : ℕ) (pin : Bool) (c : Chip) (xs : List ℕ) (p : Phase) → Half m pin (lowered (fall_in p (idle_at c true p) xs).chip xs) → Soon m pin (at_high c xs p)
unfolding after_pulses pulse step next next_array sampled judged reacted edge_of
falling m pin c xs p h = h

-- bit i is gone after i + 1 falls
sends : (i : ℕ) (pin : Bool) (c : Chip) (xs : List ℕ) (byte : ℕ) → Soon i pin (at_high c xs (Sending i byte))
unfolding fall_in byte_ended phase_pulls step next next_array sampled judged reacted edge_of risen
sends zero pin c xs byte =
    let d : Chip = idle_at c true (Sending zero byte) in
    falling 0 pin c xs (Sending zero byte)
    (cond_by (λ (d : Chip). Half 0 pin (lowered d xs)) (marked c.part c.mark)
    (with_transfer d Standby 0x0000 false c.load) (with_transfer d Waiting (next_address c.counter) c.mark c.load)
    (λ e. let_go 0 pin (with_transfer d Standby 0x0000 false c.load) xs Standby refl)
    (λ e. let_go 0 pin (with_transfer d Waiting (next_address c.counter) c.mark c.load) xs Waiting refl))
sends (suc i) pin c xs byte =
    let v : World = lowered (idle_at c true (Sending i byte)) xs in
    falling (suc i) pin c xs (Sending (suc i) byte)
    (up i pin v (sends i pin (raised pin v).chip (raised pin v).array byte))

-- an acknowledge is gone after one fall
acks : (m : ℕ) (pin : Bool) (c : Chip) (xs : List ℕ) (p after : Phase) → Loose after
    → (fall_in p (idle_at c true p) xs).chip ≡ idle_at c true after → Soon m pin (at_high c xs p)
acks m pin c xs p after h e = falling m pin c xs p (rw e (let_go m pin (idle_at c true after) xs after h))

-- but where it turns to reading a byte follows, and so it does after the master's low bit
begins : (pin : Bool) (c : Chip) (xs : List ℕ) (p : Phase) (byte : ℕ) → (fall_in p (idle_at c true p) xs).chip ≡ idle_at c true (Sending 7 byte) → Soon 8 pin (at_high c xs p)
unfolding step next next_array sampled judged reacted edge_of risen
begins pin c xs p byte e =
    let v : World = lowered (idle_at c true (Sending 7 byte)) xs in
    falling 8 pin c xs p (rw e (up 7 pin v (sends 7 pin (raised pin v).chip (raised pin v).array byte)))

-- more pulses may be needed, never fewer
more : (m n : ℕ) (pin : Bool) (v : World) → m ≤ n → Half m pin v → Half n pin v
more m n pin v h (k, l, e) = (k, omega arith, e)

-- SCL low, at any phase in range
rising : (pin : Bool) (c : Chip) (xs : List ℕ) (p : Phase) → phase_fits p ≡ true → Half 9 pin (lowered (idle_at c c.scl p) xs)
unfolding phase_fits phase_pulls fall_in byte_begun step next next_array sampled judged reacted edge_of risen
rising pin c xs Standby h = let_go 9 pin c xs Standby refl
rising pin c xs (Slave bits got) h = let_go 9 pin c xs (Slave bits got) refl
rising pin c xs (First bits got) h = let_go 9 pin c xs (First bits got) refl
rising pin c xs (Second high bits got) h = let_go 9 pin c xs (Second high bits got) refl
rising pin c xs (Data bits got) h = let_go 9 pin c xs (Data bits got) refl
rising pin c xs AckWrite h =
    let v : World = lowered (idle_at c c.scl AckWrite) xs in
    up 8 pin v (acks 8 pin (raised pin v).chip xs AckWrite (First 0 0) refl refl)
rising pin c xs AckRead h =
    let v : World = lowered (idle_at c c.scl AckRead) xs in
    up 8 pin v (begins pin (raised pin v).chip xs AckRead (next_byte c xs) refl)
rising pin c xs (AckFirst high) h =
    let v : World = lowered (idle_at c c.scl (AckFirst high)) xs in
    up 8 pin v (acks 8 pin (raised pin v).chip xs (AckFirst high) (Second high 0 0) refl refl)
rising pin c xs AckByte h =
    let v : World = lowered (idle_at c c.scl AckByte) xs in
    up 8 pin v (acks 8 pin (raised pin v).chip xs AckByte (Data 0 0) refl refl)
rising pin c xs (Sending i byte) h =
    let v : World = lowered (idle_at c c.scl (Sending i byte)) xs in
    more (suc i) 9 pin v (omega (arith, leb-true i 7 h)) (up i pin v (sends i pin (raised pin v).chip xs byte))
rising pin c xs Waiting h = let_go 9 pin c xs Waiting refl
rising pin c xs Next h = let_go 9 pin c xs Next refl

-- a chip that a fall has moved
landed : (pin : Bool) (c : Chip) (xs : List ℕ) (p : Phase) (counter : ℕ) (mark : Bool) (load : Load) → phase_fits p ≡ true
    → Half 9 pin (lowered (with_transfer (idle_at c true c.phase) p counter mark load) xs)
landed pin c xs p counter mark load h = rising pin (with_transfer (idle_at c true c.phase) p counter mark load) xs p h

-- SCL high, at any phase in range
falls : (pin : Bool) (c : Chip) (xs : List ℕ) → Fits c → Soon 9 pin (at_high c xs c.phase)
falls pin c xs f =
    falling 9 pin c xs c.phase
    (fall_by (λ (m : Moved). Half 9 pin (lowered m.chip xs)) (idle_at c true c.phase)
    (λ phase counter mark load note m. landed pin c xs phase counter mark load (m.fits f).phase)
    c.phase xs refl)

-- a chip by busy and SCL; a busy one does not pull
by_levels : (pin : Bool) (w : World) (busy scl : Bool) → Fits w.chip → Soon 9 pin (world_with w busy scl w.chip.line)
unfolding after_pulses pulse step next next_array sampled judged reacted edge_of pulls
by_levels pin w true scl f = (0, omega arith, refl)
by_levels pin w false true f = falls pin w.chip w.array f
by_levels pin w false false f = rising pin w.chip w.array w.chip.phase f.phase

-- any chip in range
pub frees : (pin : Bool) (w : World) → Fits w.chip → Soon 9 pin w
frees pin w f = by_levels pin w w.chip.busy w.chip.scl f
