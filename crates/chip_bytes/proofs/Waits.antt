-- The chips that packing and unpacking bring back. No place waits without a sector: not in a new chip, not in one from bytes, and after no event; and
-- new chips and those from bytes have their 32 places and bytes. Assumes nothing.
use Prim.Native.Nat.{ℕ}
use mathlib.Core.Bool.{true≢false}
use mathlib.Core.List.{List, map}
use mathlib.Core.Path.{◌≡◌, refl, sym, ap, subst, ◌∙◌}
use lib.ListN.{length, get_or, length-map}
use Rattle.parts.specs.Wait.{alone, no_wait, waits}
use Rattle.parts.specs.declared.wait.Target.{Target}
use Rattle.parts.specs.declared.wait.Target.TheVariants.{None, Sector, Locks}
use Rattle.parts.specs.declared.wait.Wait.{Wait}
use Rattle.parts.proofs.CondLaws.{cond_by}
use Rattle.chip.specs.Chip.{new_chip}
use Rattle.chip.specs.Event.{next}
use Rattle.chip.specs.Stop.{sector_in, wait_or}
use Rattle.chip.specs.View.{byte_written, DidBy}
use Rattle.chip.specs.View.Did.{nothing, finish, clear, change, store, spoil}
use Rattle.chip.specs.declared.chip.Chip.{Chip}
use Rattle.chip.specs.declared.wire.Event.{Event}
use Rattle.chip.proofs.ViewLaws.{view}
use Rattle.chip_bytes.specs.At as at
use Rattle.chip_bytes.specs.Clean.{has_places, Bare, Sized}
use Rattle.chip_bytes.specs.State.{row, flag_of, target_of, with_places, wait_of, chip_of}
use Rattle.chip_bytes.proofs.Rows.{length_row}

-- a target alone has none, and a sector may have any
alone_bare : (t : Target) → Bare (alone t)
alone_bare t n = refl

sector_bare : (w : Wait) (k : ℕ) → w.target ≡ Sector k → Bare w
unfolding has_places
sector_bare w k e n = absurd (true≢false (sym (ap has_places e) ∙ n))

-- so in a new chip, and in one from bytes
pub new_bare : (part select : ℕ) → Bare (new_chip part select).wait
new_bare part select = alone_bare None

pub unpacked_bare : (b : List ℕ) → Bare (chip_of b).wait
unfolding chip_of wait_of
unpacked_bare b = go (target_of (get_or b at.wait 0) (get_or b at.wait_high 0) (get_or b at.wait_low 0) (get_or b at.wait_ppen 0) (get_or b at.wait_bl 0))
  where
    go : (t : Target) → Bare (with_places t (row 32 at.wait_places b) (row 32 at.wait_bytes b))
    go None = unfold with_places in alone_bare None
    go (Sector k) = unfold with_places in sector_bare _ k refl
    go (Locks ppen bl) = unfold with_places in alone_bare (Locks ppen bl)

-- they have their places and bytes
pub new_sized : (part select : ℕ) → Sized (new_chip part select)
new_sized part select = record { places = refl; bytes = refl; wait_places = refl; wait_bytes = refl }

row_flags : (from : ℕ) (b : List ℕ) → length (map flag_of (row 32 from b)) ≡ 32
row_flags from b = length-map (row 32 from b) flag_of ∙ length_row 32 from b

pub unpacked_sized : (b : List ℕ) → Sized (chip_of b)
unfolding chip_of wait_of
unpacked_sized b =
    let target = target_of (get_or b at.wait 0) (get_or b at.wait_high 0) (get_or b at.wait_low 0) (get_or b at.wait_ppen 0) (get_or b at.wait_bl 0) in
    record { places = row_flags at.places b; bytes = length_row 32 at.load b; wait_places = places_long target; wait_bytes = bytes_long target }
  where
    places_long : (t : Target) → length (with_places t (row 32 at.wait_places b) (row 32 at.wait_bytes b)).places ≡ 32
    places_long None = unfold with_places in refl
    places_long (Sector k) = unfold with_places in row_flags at.wait_places b
    places_long (Locks ppen bl) = unfold with_places in refl

    bytes_long : (t : Target) → length (with_places t (row 32 at.wait_places b) (row 32 at.wait_bytes b)).bytes ≡ 32
    bytes_long None = unfold with_places in refl
    bytes_long (Sector k) = unfold with_places in length_row 32 at.wait_bytes b
    bytes_long (Locks ppen bl) = unfold with_places in refl

-- and no event lets a place wait without a sector
pub next_bare : (e : Event) (c : Chip) (xs : List ℕ) → Bare c.wait → Bare (next e c xs).chip.wait
next_bare e c xs bare = go (view e c xs)
  where
    by : (w : Wait) → w ≡ (next e c xs).chip.wait → Bare w → Bare (next e c xs).chip.wait
    by w same h = subst Bare same h

    go : DidBy e c xs → Bare (next e c xs).chip.wait
    go (nothing d) = by c.wait (sym d.waiting) bare
    go (finish d) = by no_wait (sym d.waiting) (alone_bare None)
    go (clear d) = by no_wait (sym d.waiting) (alone_bare None)
    go (change d) =
        let target = (byte_written e c).target in
        by (wait_or target c.wait) (sym d.waiting) (cond_by Bare (waits target) (alone target) c.wait (λ w. alone_bare target) (λ w. bare))
    go (store d) = sector_bare (next e c xs).chip.wait (sector_in c) (ap (λ (w : Wait). w.target) d.cycle.waiting)
    go (spoil d) = sector_bare (next e c xs).chip.wait (sector_in c) (ap (λ (w : Wait). w.target) d.cycle.waiting)
