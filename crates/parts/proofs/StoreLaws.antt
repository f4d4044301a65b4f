-- Laws of a store: it keeps the length, bytes, and what lies outside the sector, and each place of the sector holds its new byte where it takes one.
-- Assumes nothing.
use Prim.Native.Nat.{ℕ, zero, suc, ◌+◌, ◌*◌, ◌/◌, ◌%◌, ◌<◌, ◌≤◌}
use mathlib.Core.Bool.{Bool, true, false, cond}
use mathlib.Core.Path.{◌≡◌, refl, ap, sym, ◌∙◌}
use mathlib.Core.List.{List}
use native.Mathlib.Decide.{ℕ_discrete, dec_lt}
use native.Mathlib.Omega.{arith}
use lib.ListN.{length, get_or, set, length-set, get_or-eq_default}
use lib.Seq.{get_or-set_same, get_or-set_other}
use Rattle.parts.specs.Sector.{Bytes}
use Rattle.parts.specs.Wait.{stored_to, stored}
use Rattle.parts.proofs.ByteLaws.{set_bytes}
use Rattle.parts.proofs.CondLaws.{cond_by}

-- one place of a store keeps the length
place_length : (on : Bool) (xs : List ℕ) (at byte : ℕ) → length (cond on (set xs at byte) xs) ≡ length xs
place_length true xs at byte = length-set xs at byte
place_length false xs at byte = refl

-- one place of a store keeps every address but its own
place_keeps : (on : Bool) (xs : List ℕ) (at byte a : ℕ) → (a ≡ at → ⊥) → get_or (cond on (set xs at byte) xs) a 0 ≡ get_or xs a 0
place_keeps true xs at byte a h = get_or-set_other xs at a byte 0 h
place_keeps false xs at byte a h = refl

-- one place of a store takes its byte, or keeps its own
place_takes : (on : Bool) (xs : List ℕ) (at byte : ℕ) → at < length xs → get_or (cond on (set xs at byte) xs) at 0 ≡ cond on byte (get_or xs at 0)
place_takes true xs at byte h = get_or-set_same xs at byte 0 h
place_takes false xs at byte h = refl

module _ (xs : List ℕ) (start : ℕ) (takes : ℕ → Bool) (bytes : List ℕ) where
  -- the first k places of a store keep the length
  pub length_stored_to : (k : ℕ) → length (stored_to k xs start takes bytes) ≡ length xs
  unfolding stored_to
  length_stored_to zero = refl
  length_stored_to (suc k) = place_length (takes k) (stored_to k xs start takes bytes) (start + k) (get_or bytes k 0) ∙ length_stored_to k

  -- an address before the sector's start keeps its byte
  stored_to_below : (k a : ℕ) → a < start → get_or (stored_to k xs start takes bytes) a 0 ≡ get_or xs a 0
  unfolding stored_to
  stored_to_below zero a h = refl
  stored_to_below (suc k) a h =
      place_keeps (takes k) (stored_to k xs start takes bytes) (start + k) (get_or bytes k 0) a (omega arith) ∙ stored_to_below k a h

  -- an address at or past the first k places keeps its byte
  stored_to_above : (k a : ℕ) → start + k ≤ a → get_or (stored_to k xs start takes bytes) a 0 ≡ get_or xs a 0
  unfolding stored_to
  stored_to_above zero a h = refl
  stored_to_above (suc k) a h =
      place_keeps (takes k) (stored_to k xs start takes bytes) (start + k) (get_or bytes k 0) a (omega arith) ∙ stored_to_above k a (omega arith)

  -- what each of the first k places holds after a store
  stored_to_at : (k j : ℕ) → j < k → start + j < length xs
      → get_or (stored_to k xs start takes bytes) (start + j) 0 ≡ cond (takes j) (get_or bytes j 0) (get_or xs (start + j) 0)
  unfolding stored_to
  stored_to_at zero j h within = absurd (omega arith)
  stored_to_at (suc k) j h within = go (ℕ_discrete j k) (stored_to_at k j)
    where
      before : List ℕ
      before = stored_to k xs start takes bytes

      took : ℕ
      took = cond (takes j) (get_or bytes j 0) (get_or xs (start + j) 0)

      go : Dec (j ≡ k) → (j < k → start + j < length xs → get_or before (start + j) 0 ≡ took) → get_or (stored_to (suc k) xs start takes bytes) (start + j) 0 ≡ took
      go (yes e) earlier =
          rw e
          (place_takes (takes k) before (start + k) (get_or bytes k 0) (omega (arith, length_stored_to k))
          ∙ ap (cond (takes k) (get_or bytes k 0)) (stored_to_above k (start + k) (omega arith)))
      go (no n) earlier = place_keeps (takes k) before (start + k) (get_or bytes k 0) (start + j) (omega arith) ∙ earlier (omega arith) within

  -- a store of bytes leaves bytes, place after place
  stored_to_bytes : (k : ℕ) → Bytes xs → Bytes bytes → Bytes (stored_to k xs start takes bytes)
  unfolding stored_to
  stored_to_bytes zero h l = h
  stored_to_bytes (suc k) h l =
      cond_by Bytes (takes k) (set (stored_to k xs start takes bytes) (start + k) (get_or bytes k 0)) (stored_to k xs start takes bytes)
      (λ e. set_bytes (stored_to k xs start takes bytes) (start + k) (get_or bytes k 0) (stored_to_bytes k h l) (l k))
      (λ e. stored_to_bytes k h l)

  -- a store keeps the length
  pub length_stored : length (stored xs start takes bytes) ≡ length xs
  length_stored = length_stored_to 32

  -- and bytes
  pub stored_bytes : Bytes xs → Bytes bytes → Bytes (stored xs start takes bytes)
  stored_bytes = stored_to_bytes 32

  -- what place k of the sector holds after a store
  pub stored_at : (k : ℕ) → k < 32 → start + k < length xs → get_or (stored xs start takes bytes) (start + k) 0 ≡ cond (takes k) (get_or bytes k 0) (get_or xs (start + k) 0)
  stored_at k h within = stored_to_at 32 k h within

-- a store in sector k
module _ (xs : List ℕ) (k : ℕ) (takes : ℕ → Bool) (bytes : List ℕ) where
  -- an address of the sector has its new byte where its place takes one, and else keeps its own
  pub stored_inside : (a : ℕ) → a / 32 ≡ k → a < length xs → get_or (stored xs (k * 32) takes bytes) a 0 ≡ cond (takes (a % 32)) (get_or bytes (a % 32) 0) (get_or xs a 0)
  stored_inside a same within =
      let here : k * 32 + a % 32 ≡ a = omega arith in
      rw here at (stored_at xs (k * 32) takes bytes (a % 32) (omega arith) (omega arith))

  -- every address of another sector keeps its byte
  pub stored_outside : (a : ℕ) → (a / 32 ≡ k → ⊥) → get_or (stored xs (k * 32) takes bytes) a 0 ≡ get_or xs a 0
  stored_outside a other = go (dec_lt a (k * 32))
    where
      go : Dec (a < k * 32) → get_or (stored xs (k * 32) takes bytes) a 0 ≡ get_or xs a 0
      go (yes h) = stored_to_below xs (k * 32) takes bytes 32 a h
      go (no h) = stored_to_above xs (k * 32) takes bytes 32 a (omega arith)

  -- an address past the end stays past it
  stored_past : (a : ℕ) → length xs ≤ a → get_or (stored xs (k * 32) takes bytes) a 0 ≡ get_or xs a 0
  stored_past a h =
      get_or-eq_default (stored xs (k * 32) takes bytes) 0 (rw (length_stored xs (k * 32) takes bytes) h) ∙ sym (get_or-eq_default xs 0 h)

  -- an address that a store changed is of the sector, takes its byte, and has it
  pub stored_changed : (a : ℕ) → (get_or (stored xs (k * 32) takes bytes) a 0 ≡ get_or xs a 0 → ⊥)
      → (a / 32 ≡ k) × (takes (a % 32) ≡ true) × (get_or (stored xs (k * 32) takes bytes) a 0 ≡ get_or bytes (a % 32) 0)
  stored_changed a other = go (ℕ_discrete (a / 32) k) (dec_lt a (length xs))
    where
      Said : Bool → ℕ → Type 0
      Said on byte = (a / 32 ≡ k) × (on ≡ true) × (byte ≡ get_or bytes (a % 32) 0)

      inside : (on : Bool) (byte : ℕ) → a / 32 ≡ k → (byte ≡ get_or xs a 0 → ⊥) → byte ≡ cond on (get_or bytes (a % 32) 0) (get_or xs a 0) → Said on byte
      inside true byte same new e = (same, refl, e)
      inside false byte same new e = absurd (new e)

      go : Dec (a / 32 ≡ k) → Dec (a < length xs) → Said (takes (a % 32)) (get_or (stored xs (k * 32) takes bytes) a 0)
      go (yes same) (yes within) = inside _ _ same other (stored_inside a same within)
      go (yes same) (no without) = absurd (other (stored_past a (omega arith)))
      go (no apart) (yes within) = absurd (other (stored_outside a apart))
      go (no apart) (no without) = absurd (other (stored_outside a apart))

-- where no place takes a byte, a store leaves all as it was
pub stored_none : (xs : List ℕ) (start : ℕ) (takes : ℕ → Bool) (bytes : List ℕ) (k : ℕ) → ((j : ℕ) → takes j ≡ false) → stored_to k xs start takes bytes ≡ xs
unfolding stored_to
stored_none xs start takes bytes zero none = refl
stored_none xs start takes bytes (suc k) none = rw (none k) (stored_none xs start takes bytes k none)
