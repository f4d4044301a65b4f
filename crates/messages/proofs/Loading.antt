-- Bytes that are loaded one after the other from the start of a sector: 32 of them fill the load, and the counter is at the start again.
-- Assumes nothing.
use Prim.Native.Nat.{ℕ, suc, ◌+◌, ◌*◌, ◌%◌, ◌<◌}
use mathlib.Core.Bool.{Bool, true}
use mathlib.Core.List.{List, [], ◌∷◌, ◌++◌, append-nil}
use mathlib.Core.Path.{◌≡◌, refl, ap, sym, ◌∙◌}
use native.Mathlib.Omega.{arith}
use borrow.Author.Tests.{lt-ltb}
use lib.ListN.{length, length-set, take, replicate}
use lib.Seq.{take_all, take-suc-set, append_snoc}
use Rattle.parts.specs.Load.{no_load, whole, loaded}
use Rattle.parts.specs.Sector.{next_place}
use Rattle.parts.specs.declared.load.Load.{Load}

-- the load and the counter after a row of bytes
unfoldable pub loaded_row : Load → ℕ → List ℕ → Load
loaded_row load at [] = load
loaded_row load at (byte ∷ rest) = loaded_row (loaded load at byte) (next_place at) rest

unfoldable pub place_after : ℕ → List ℕ → ℕ
place_after at [] = at
place_after at (byte ∷ rest) = place_after (next_place at) rest

-- the place after the k-th of a sector, the first after the last
place_next : (sector k at : ℕ) → k < 32 → at ≡ sector * 32 + k % 32 → next_place at ≡ sector * 32 + suc k % 32
place_next sector k at h here = omega arith

-- a row that goes from place k to the sector's end keeps what stands before it
record Filled (load : Load) (k : ℕ) (bytes : List ℕ) (after : Load) : Type 0 where
  bytes_in : after.bytes ≡ take k load.bytes ++ bytes
  places_in : after.places ≡ take k load.places ++ replicate (length bytes) true
  count_in : after.count ≡ k + length bytes

filled : (sector : ℕ) (bytes : List ℕ) (load : Load) (k at : ℕ) → at ≡ sector * 32 + k % 32 → k + length bytes ≡ 32
    → length load.bytes ≡ 32 → length load.places ≡ 32 → load.count ≡ k → Filled load k bytes (loaded_row load at bytes)
unfolding loaded_row loaded
filled sector [] load k at here to_end sized placed counted =
    record {
      bytes_in = sym (append-nil (take k load.bytes) ∙ take_all k load.bytes (omega arith));
      places_in = sym (append-nil (take k load.places) ∙ take_all k load.places (omega arith));
      count_in = counted ∙ omega arith;
    }
filled sector (byte ∷ rest) load k at here to_end sized placed counted =
    let place : at % 32 ≡ k = omega arith in
    let more : suc k + length rest ≡ 32 = omega arith in
    let next : Load = loaded load at byte in
    let done : Filled next (suc k) rest (loaded_row next (next_place at) rest) =
    filled sector rest next (suc k) (next_place at) (place_next sector k at (omega arith) here) more (length-set load.bytes (at % 32) byte ∙ sized) (length-set load.places (at % 32) true ∙ placed) (rw (counted, lt-ltb k 33 (omega arith)) (omega arith)) in
    record {
      bytes_in = done.bytes_in ∙ rw (place, take-suc-set load.bytes k byte (omega arith)) (append_snoc (take k load.bytes) byte rest);
      places_in = done.places_in ∙ rw (place, take-suc-set load.places k true (omega arith)) (append_snoc (take k load.places) true (replicate (length rest) true));
      count_in = done.count_in ∙ omega arith;
    }

-- 32 bytes from a sector's start
pub row_loaded : (sector : ℕ) (bytes : List ℕ) → length bytes ≡ 32 → loaded_row no_load (sector * 32) bytes ≡ whole bytes
row_loaded sector bytes h i =
    let full : 0 + length bytes ≡ 32 = omega arith in
    let all = filled sector bytes no_load 0 (sector * 32) (omega arith) (omega arith) refl refl refl in
    record {
      bytes = all.bytes_in i;
      places = (all.places_in ∙ ap (λ (n : ℕ). replicate {A = Bool} n true) h) i;
      count = (all.count_in ∙ full) i;
    }

-- and the counter
place_after_law : (sector : ℕ) (bytes : List ℕ) (k at : ℕ) → at ≡ sector * 32 + k % 32 → k + length bytes ≡ 32 → place_after at bytes ≡ sector * 32
unfolding place_after
place_after_law sector [] k at here to_end = omega arith
place_after_law sector (byte ∷ rest) k at here to_end =
    let more : suc k + length rest ≡ 32 = omega arith in
    place_after_law sector rest (suc k) (next_place at) (place_next sector k at (omega arith) here) more

pub row_place : (sector : ℕ) (bytes : List ℕ) → length bytes ≡ 32 → place_after (sector * 32) bytes ≡ sector * 32
row_place sector bytes h = place_after_law sector bytes 0 (sector * 32) (omega arith) (omega arith)
