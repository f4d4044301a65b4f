-- What waits: which places a cut takes, what it leaves of each byte, and what the end of a cycle keeps: lengths, bytes, ranges. Assumes nothing.
use Prim.Native.Nat.{ℕ, ◌*◌, ◌/◌, ◌%◌, ◌^◌, ◌<◌, ◌≤◌}
use mathlib.Core.Bool.{Bool, true, false, not, cond, ◌&&◌, beq}
use mathlib.Core.Path.{◌≡◌, refl, sym, ◌∙◌}
use mathlib.Core.List.{List}
use native.Mathlib.Nat.{lt_of_lt_of_le, le_of_eq, zero-add}
use native.Mathlib.Omega.{arith}
use borrow.Author.Tests.{leb-true, not-true}
use lib.Dec.{eqb, ltb}
use lib.ListN.{length, get_or, replicate, get_or-replicate, length-replicate}
use lib.Seq.{ext_get_or}
use Rattle.parts.specs.Load.{whole, full_of}
use Rattle.parts.specs.Register.{with_locks}
use Rattle.parts.specs.Sector.{Bytes}
use Rattle.parts.specs.Wait.{chosen, every_place, no_place, first_half, taking, stored_to, stored, wait_for, target_fits, reached, end_array, locks_taken}
use Rattle.parts.specs.declared.load.Load.{Load}
use Rattle.parts.specs.declared.register.Register.{Register}
use Rattle.parts.specs.declared.wait.Target.{Target}
use Rattle.parts.specs.declared.wait.Target.TheVariants.{None, Sector, Locks}
use Rattle.parts.specs.declared.wait.Wait.{Wait}
use Rattle.parts.proofs.ByteLaws.{same_bytes}
use Rattle.parts.proofs.CondLaws.{cond_by, beq_true}
use Rattle.parts.proofs.RowLaws.{below, each}
use Rattle.parts.proofs.StoreLaws.{length_stored, stored_bytes, stored_at, stored_none}

-- all choices choose every place
pub chosen_every : (k : ℕ) → chosen every_place k ≡ true
unfolding below
chosen_every k = each 32 (λ j. eqb (every_place / 2 ^ j % 2) 1) refl (k % 32) (omega arith)

-- no choice chooses none
pub chosen_none : (k : ℕ) → chosen no_place k ≡ false
unfolding below
chosen_none k = not-true _ (each 32 (λ j. not (eqb (no_place / 2 ^ j % 2) 1)) refl (k % 32) (omega arith))

-- the first half chooses places 0 to 15
pub chosen_half : (k : ℕ) → k < 32 → chosen first_half k ≡ ltb k 16
unfolding below
chosen_half k h = beq_true _ _ (each 32 (λ j. beq (chosen first_half j) (ltb j 16)) refl k h)

-- all choices take what is loaded
pub taking_every : (places : List Bool) (k : ℕ) → taking places every_place k ≡ get_or places k false
taking_every places k = go (get_or places k false) (chosen_every k)
  where
    go : (on : Bool) {all : Bool} → all ≡ true → (on && all) ≡ on
    go true e = e
    go false e = refl

-- a waiting place of a sector holds the load's byte, any other 0
pub wait_byte : (k : ℕ) (load : Load) (j : ℕ) → j < 32 → get_or (wait_for k load).bytes j 0 ≡ cond (get_or load.places j false) (get_or load.bytes j 0) 0
wait_byte k load j h =
    rw zero-add at (stored_at (replicate 32 0) 0 (taking load.places every_place) load.bytes j h (omega (arith, length-replicate {A = ℕ} 32 0)))
    ∙ rw (taking_every load.places j, get_or-replicate {A = ℕ} 32 j 0 0 h)

-- what waits of a load of bytes is bytes
pub wait_bytes_law : (k : ℕ) (load : Load) → Bytes load.bytes → Bytes (wait_for k load).bytes
wait_bytes_law k load b = stored_bytes (replicate 32 0) 0 (taking load.places every_place) load.bytes (same_bytes 32 0 (omega arith)) b

-- of one byte in all places, what waits is that byte in all places
pub wait_full : (k byte : ℕ) → (wait_for k (full_of byte)).bytes ≡ replicate 32 byte
unfolding stored_to
wait_full k byte = refl

-- 32 bytes that are loaded wait as they are
pub wait_whole : (k : ℕ) (bytes : List ℕ) → length bytes ≡ 32 → (wait_for k (whole bytes)).bytes ≡ bytes
wait_whole k bytes size =
    ext_get_or 0 (wait_for k (whole bytes)).bytes bytes (length_stored (replicate 32 0) 0 (taking (replicate 32 true) every_place) bytes ∙ length-replicate {A = ℕ} 32 0 ∙ sym size)
    (λ j h. let inside : j < 32 = lt_of_lt_of_le h (le_of_eq (length_stored (replicate 32 0) 0 (taking (replicate 32 true) every_place) bytes ∙ length-replicate {A = ℕ} 32 0)) in
    wait_byte k (whole bytes) j inside ∙ rw (get_or-replicate 32 j true false inside))

module _ (wait : Wait) (choices : ℕ) (xs : List ℕ) where
  -- what holds of the array as it was, and of a store in the waiting sector, holds at the end of a cycle
  pub end_by : (P : List ℕ → Type 0) → P xs
      → ((k : ℕ) → wait.target ≡ Sector k → P (stored xs (k * 32) (taking wait.places choices) wait.bytes)) → P (end_array wait choices xs)
  unfolding reached
  end_by P same sector = go wait.target refl
    where
      go : (t : Target) → wait.target ≡ t → P (reached t wait choices xs)
      go None e = same
      go (Sector k) e = sector k e
      go (Locks ppen bl) e = same

  -- the end of a cycle keeps the length
  pub end_length : length (end_array wait choices xs) ≡ length xs
  end_length = end_by (λ ys. length ys ≡ length xs) refl (λ k e. length_stored xs (k * 32) (taking wait.places choices) wait.bytes)

  -- and bytes
  pub end_bytes : Bytes xs → Bytes wait.bytes → Bytes (end_array wait choices xs)
  end_bytes b l = end_by Bytes b (λ k e. stored_bytes xs (k * 32) (taking wait.places choices) wait.bytes b l)

-- with no choice nothing is written
pub end_none : (wait : Wait) (xs : List ℕ) → end_array wait no_place xs ≡ xs
end_none wait xs =
    end_by wait no_place xs (λ ys. ys ≡ xs) refl
    (λ k e. stored_none xs (k * 32) (taking wait.places no_place) wait.bytes 32 (λ j. and_false (get_or wait.places j false) (chosen_none j)))
  where
    and_false : (on : Bool) {off : Bool} → off ≡ false → (on && off) ≡ false
    and_false true e = e
    and_false false e = refl

-- what holds of the register as it was, and with the waiting PPEN and BL, holds at the end of a cycle
pub taken_by : (P : Register → Type 0) (target : Target) (choices : ℕ) (r : Register) → P r
    → ((ppen : Bool) (bl : ℕ) → target ≡ Locks ppen bl → P (with_locks r ppen bl)) → P (locks_taken target choices r)
unfolding locks_taken
taken_by P None choices r same locks = same
taken_by P (Sector k) choices r same locks = same
taken_by P (Locks ppen bl) choices r same locks = cond_by P (chosen choices 0) (with_locks r ppen bl) r (λ e. locks ppen bl refl) (λ e. same)

-- BL stays in its range
pub taken_bl : (target : Target) (choices : ℕ) (r : Register) → target_fits target ≡ true → r.bl ≤ 3 → (locks_taken target choices r).bl ≤ 3
taken_bl target choices r fits low =
    taken_by (λ s. s.bl ≤ 3) target choices r low (λ ppen bl e. leb-true bl 3 (unfold target_fits in rw e at fits))

-- the latches stay
pub taken_latches : (target : Target) (choices : ℕ) (r : Register) → ((locks_taken target choices r).rpel ≡ r.rpel) × ((locks_taken target choices r).pel ≡ r.pel)
taken_latches target choices r =
    taken_by (λ s. (s.rpel ≡ r.rpel) × (s.pel ≡ r.pel)) target choices r (refl, refl) (λ ppen bl e. (refl, refl))

-- with no choice PPEN and BL stay
pub taken_none : (target : Target) (r : Register) → locks_taken target no_place r ≡ r
unfolding locks_taken
taken_none None r = refl
taken_none (Sector k) r = refl
taken_none (Locks ppen bl) r = refl
