-- From a chip in range every event leads to a chip in range, from bytes to bytes; part, select and spoil byte never change. Assumes nothing.
use Prim.Native.Nat.{ℕ, ◌/◌, ◌≤◌, ◌<◌}
use mathlib.Core.Bool.{Bool, true, false, cond}
use mathlib.Core.Path.{◌≡◌, refl}
use mathlib.Core.List.{List}
use native.Mathlib.Omega.{arith}
use borrow.Author.Tests.{le-leb}
use lib.ListN.{get_or}
use Rattle.parts.specs.Load.{no_load, full_of}
use Rattle.parts.specs.Phase.{phase_fits}
use Rattle.parts.specs.Sector.{Bytes}
use Rattle.parts.specs.Wait.{alone, no_wait, every_place, target_fits, waits}
use Rattle.parts.specs.declared.phase.Phase.TheVariants.{Standby}
use Rattle.parts.specs.declared.wait.Target.{Target}
use Rattle.parts.specs.declared.wait.Target.TheVariants.{Sector}
use Rattle.parts.specs.declared.wait.Wait.{Wait}
use Rattle.parts.proofs.ByteLaws.{same_bytes}
use Rattle.parts.proofs.CondLaws.{cond_by}
use Rattle.parts.proofs.PhaseLaws.{got_of}
use Rattle.parts.proofs.RegisterLaws.{written_kept, written_fits}
use Rattle.parts.proofs.WaitLaws.{wait_bytes_law}
use Rattle.chip.specs.Chip.{chip_fits}
use Rattle.chip.specs.Event.{next, next_array}
use Rattle.chip.specs.Stop.{effect_moved, sector_in, wait_or}
use Rattle.chip.specs.View.{pin_high, choices_of, byte_written, SameMake}
use Rattle.chip.specs.declared.chip.Chip.{Chip}
use Rattle.chip.specs.declared.wire.Event.{Event}
use Rattle.chip.proofs.CutLaws.{cut_bytes}
use Rattle.chip.proofs.FitLaws.{Within, Fits, fits_of, fits_so, cut_bl, power_fits}
use Rattle.chip.proofs.StepLaws.{Octets, OctetsOf, none_octets, next_by}

-- a chip at rest is in range if its counter and what waits are
rested_within : (c : Chip) (bl counter : ℕ) (target : Target) → bl ≤ 3 → counter ≤ 0x3fff → target_fits target ≡ true → Fits c → Within c.part c.select bl counter Standby 0 target
unfolding phase_fits
rested_within c bl counter target b k t f = record { part = f.part; select = f.select; bl = b; counter = k; phase = refl; count = omega arith; target = t }

-- what waits after a register byte is in range
wait_fits_law : (target : Target) (old : Wait) → target_fits target ≡ true → target_fits old.target ≡ true → target_fits (wait_or target old).target ≡ true
wait_fits_law target old new fits = cond_by (λ w. target_fits w.target ≡ true) (waits target) (alone target) old (λ b. new) (λ b. fits)

-- the sector of a counter in range is one of the array's
sector_fits : (counter : ℕ) → counter ≤ 0x3fff → target_fits (Sector (counter / 32)) ≡ true
unfolding target_fits
sector_fits counter h = le-leb (counter / 32) 511 (omega arith)

-- an event leads from a chip in range to one in range
pub next_within : (e : Event) (c : Chip) (xs : List ℕ) → Fits c → Fits (next e c xs).chip
unfolding effect_moved
next_within e c xs f =
    next_by (λ m ys. Fits m.chip) e c xs
    (λ m ys scl line g. g)
    (λ phase counter mark load note m. m.fits f)
    (λ stopped marks.
    let byte = get_or c.load.bytes 0 0 in
    rested_within c _ 0x0000 _ (rw (written_kept c.register byte (pin_high e)).1 f.bl) (omega arith) (wait_fits_law _ c.wait (written_fits c.register byte (pin_high e)) f.target) f)
    (λ short counted stopped writable. rested_within c c.register.bl c.counter _ f.bl f.counter (sector_fits c.counter f.counter) f) (
      λ done busy. unfold target_fits in record { part = f.part; select = f.select; bl = cut_bl every_place c f; counter = f.counter; phase = f.phase; count = f.count; target = refl },
      λ up. power_fits (choices_of e) c f,
    )

-- the same by the test of refusal 2
pub next_fits : (e : Event) (c : Chip) (xs : List ℕ) → chip_fits c ≡ true → chip_fits (next e c xs).chip ≡ true
next_fits e c xs h = fits_so (next e c xs).chip (next_within e c xs (fits_of c h))

-- part, select and spoil byte never change
pub next_same : (e : Event) (c : Chip) (xs : List ℕ) → SameMake c (next e c xs).chip
unfolding effect_moved
next_same e c xs =
    next_by (λ m ys. SameMake c m.chip) e c xs
    (λ m ys scl line same. same)
    (λ phase counter mark load note m. (refl, refl, refl))
    (λ stopped marks. (refl, refl, refl))
    (λ short counted stopped writable. (refl, refl, refl))
    (λ done busy. (refl, refl, refl), λ up. (refl, refl, refl))

-- a chip whose load, spoil byte and wait are of bytes, over an array of bytes
abbrev pub AllBytes : Chip → List ℕ → Type 0
AllBytes c xs = OctetsOf c × Bytes xs × (c.spoil < 0x100) × Bytes c.wait.bytes

-- a chip at rest has an empty load
rested_octets : Octets no_load Standby
unfolding got_of
rested_octets = none_octets Standby (omega arith)

-- what a cycle lets wait is of bytes
cycle_bytes : (c : Chip) (short : Bool) → OctetsOf c → c.spoil < 0x100 → Bytes (cond short (full_of c.spoil) c.load).bytes
cycle_bytes c true o spoil = same_bytes 32 c.spoil spoil
cycle_bytes c false o spoil = o.loads

-- an empty wait is of zeros
none_bytes : Bytes no_wait.bytes
none_bytes = same_bytes 32 0 (omega arith)

-- whatever waits came as eight bits or is the spoil byte: bytes stay bytes
pub next_bytes : (e : Event) (c : Chip) (xs : List ℕ) → AllBytes c xs → AllBytes (next e c xs).chip (next_array e c xs)
unfolding effect_moved
next_bytes e c xs b =
    next_by (λ m ys. AllBytes m.chip ys) e c xs
    (λ m ys scl line all. all)
    (λ phase counter mark load note m. (m.octets b.0, b.1, b.2, b.3))
    (λ stopped marks.
    let target = (byte_written e c).target in
    (rested_octets, b.1, b.2, cond_by (λ w. Bytes w.bytes) (waits target) (alone target) c.wait (λ w. none_bytes) (λ w. b.3)))
    (λ short counted stopped writable. (rested_octets, b.1, b.2, wait_bytes_law (sector_in c) (cond short (full_of c.spoil) c.load) (cycle_bytes c short b.0 b.2)))
    (λ done busy. (b.0, cut_bytes every_place c xs b.1 b.3, b.2, none_bytes), λ up. (rested_octets, cut_bytes (choices_of e) c xs b.1 b.3, b.2, none_bytes))
