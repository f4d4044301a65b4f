-- A map: one sector entered sets that sector's bit and no other, the map that is built is true, and an array has one true map. Assumes nothing.
use Prim.Native.Nat.{ℕ, zero, suc, ◌+◌, ◌*◌, ◌/◌, ◌%◌, ◌≤◌, ◌<◌}
use mathlib.Core.Bool.{Bool, true, false, cond}
use mathlib.Core.List.{List}
use mathlib.Core.Path.{◌≡◌, refl, sym, ◌∙◌}
use native.Mathlib.Decide.{ℕ_discrete, dec_lt}
use native.Mathlib.Omega.{arith}
use lib.Dec.{eqb}
use lib.ListN.{length, get_or, length-set}
use lib.Seq.{get_or-set_same, get_or-set_other, set_out, ext_get_or}
use borrow.Author.Tests.{eqb-true, eq-eqb, ne_eqb}
use Rattle.parts.specs.Phase.{bit_of}
use Rattle.parts.specs.Sector.{Bytes}
use Rattle.parts.proofs.ByteLaws.{set_bytes}
use Rattle.trace.specs.Trace.{unless}
use Rattle.map.specs.Sectors.{used, bit_at, TrueMap, Beside, with_bit, entered, entered_to, with_map, build_refusal, built_of}
use Rattle.map.proofs.BitLaws.{with_bit_law, with_byte, same_byte}

-- bit j of byte i is that of sector 8 i + j
pub bit_in : (m : List ℕ) (i j : ℕ) → j < 8 → bit_at (i * 8 + j) m ≡ bit_of (get_or m i 0) j
bit_in m i j h =
    let byte : (i * 8 + j) / 8 ≡ i = omega arith in
    let bit : (i * 8 + j) % 8 ≡ j = omega arith in
    rw (byte, bit)

module _ (k : ℕ) (xs m : List ℕ) where
  -- a map stays as long as it is
  pub entered_length : length (entered k xs m) ≡ length m
  unfolding entered
  entered_length = simp length-set

  -- and a list of bytes
  pub entered_bytes : Bytes m → Bytes (entered k xs m)
  unfolding entered
  entered_bytes b = set_bytes m (k / 8) _ b (with_byte _ _ (used k xs) (b (k / 8)) (omega arith))

  -- the byte of the sector
  entered_byte : k / 8 < length m → get_or (entered k xs m) (k / 8) 0 ≡ with_bit (get_or m (k / 8) 0) (k % 8) (used k xs)
  unfolding entered
  entered_byte h = get_or-set_same m (k / 8) _ 0 h

  -- the sector's bit is that of the array
  pub entered_here : k < 512 → length m ≡ 64 → Bytes m → bit_at k (entered k xs m) ≡ used k xs
  entered_here h size b =
      rw (entered_byte (omega arith))
      (with_bit_law _ (k % 8) (k % 8) (used k xs) (b (k / 8)) (omega arith) (omega arith) ∙ rw (eq-eqb (k % 8) (k % 8) refl))

  -- each other sector's bit stays
  pub entered_beside : (j : ℕ) → (j ≡ k → ⊥) → Bytes m → bit_at j (entered k xs m) ≡ bit_at j m
  unfolding entered
  entered_beside j other b = go (ℕ_discrete (j / 8) (k / 8)) (dec_lt (k / 8) (length m))
    where
      go : Dec (j / 8 ≡ k / 8) → Dec (k / 8 < length m) → bit_at j (entered k xs m) ≡ bit_at j m
      go (yes e) (yes h) =
          rw (e, entered_byte h)
          (with_bit_law _ (k % 8) (j % 8) (used k xs) (b (k / 8)) (omega arith) (omega arith) ∙ rw (ne_eqb (j % 8) (k % 8) (λ z. other (omega arith))))
      go (yes e) (no h) = let out : length m ≤ k / 8 = omega arith in rw set_out
      go (no e) h = rw (get_or-set_other m (k / 8) (j / 8) _ 0 e)

module _ (xs m : List ℕ) where
  -- the same for the first n sectors: the length
  pub entered_to_length : (n : ℕ) → length (entered_to n xs m) ≡ length m
  unfolding entered_to
  entered_to_length zero = refl
  entered_to_length (suc k) = entered_length k xs (entered_to k xs m) ∙ entered_to_length k

  -- and the bytes
  pub entered_to_bytes : (n : ℕ) → Bytes m → Bytes (entered_to n xs m)
  unfolding entered_to
  entered_to_bytes zero b = b
  entered_to_bytes (suc k) b = entered_bytes k xs (entered_to k xs m) (entered_to_bytes k b)

  -- the sectors that were entered have their bits
  entered_to_bits : (n : ℕ) → n ≤ 512 → length m ≡ 64 → Bytes m → (j : ℕ) → j < n → bit_at j (entered_to n xs m) ≡ used j xs
  unfolding entered_to
  entered_to_bits zero few size b j h = absurd (omega arith)
  entered_to_bits (suc k) few size b j h = go (ℕ_discrete j k) (entered_to_bits k (omega arith) size b j)
    where
      go : Dec (j ≡ k) → (j < k → bit_at j (entered_to k xs m) ≡ used j xs) → bit_at j (entered k xs (entered_to k xs m)) ≡ used j xs
      go (yes e) rest = rw e (entered_here k xs (entered_to k xs m) (omega arith) (entered_to_length k ∙ size) (entered_to_bytes k b))
      go (no e) rest = entered_beside k xs (entered_to k xs m) j e (entered_to_bytes k b) ∙ rest (omega arith)

  -- every sector entered is a true map, whatever the bytes were
  pub build_true : length m ≡ 64 → Bytes m → TrueMap xs (entered_to 512 xs m)
  build_true size b = record { sized = entered_to_length 512 ∙ size; bits = entered_to_bits 512 (omega arith) size b }

  -- what building is not refused, is of these lengths
  pub build_fits : build_refusal xs m ≡ 0 → (length xs ≡ 16384) × (length m ≡ 64)
  unfolding build_refusal with_map
  build_fits e =
      let f = fits (eqb (length xs) 16384) (eqb (length m) 64) e in
      (eqb-true _ _ f.0, eqb-true _ _ f.1)
    where
      fits : (a b : Bool) → ◌≡◌ {A = ℕ} (cond (eqb (cond a 0 1) 1) 1 (cond b (cond a 0 1) 18)) 0 → (a ≡ true) × (b ≡ true)
      fits true true z = (refl, refl)
      fits true false z = absurd (omega arith)
      fits false b z = absurd (omega arith)

  -- V2: what building leaves where it is not refused is true
  pub built_beside : build_refusal xs m ≡ 0 → Bytes m → Beside xs (built_of xs m)
  unfolding built_of unless
  built_beside e b = rw e (record { whole = (build_fits e).0; bytes = entered_to_bytes 512 b; map = build_true (build_fits e).1 b })

-- an array has one true map
pub true_one : (xs m m' : List ℕ) → TrueMap xs m → TrueMap xs m' → Bytes m → Bytes m' → m ≡ m'
true_one xs m m' t t' b b' =
    ext_get_or 0 m m' (t.sized ∙ sym t'.sized)
    (λ i h. same_byte (get_or m i 0) (get_or m' i 0) (b i) (b' i)
    (λ j l. sym (bit_in m i j l) ∙ t.bits (i * 8 + j) (inside i j h l) ∙ sym (t'.bits (i * 8 + j) (inside i j h l)) ∙ bit_in m' i j l))
  where
    inside : (i j : ℕ) → i < length m → j < 8 → i * 8 + j < 512
    inside i j h l = omega (arith, t.sized)
