-- Packing and unpacking undo each other. A chip that is packed and unpacked is the chip, whatever its numbers, where its load and what
-- waits have their 32 places and bytes, as every chip of the code has, and no place waits without a sector, as in every chip from bytes and after every event; and
-- bytes that fit come back with what their phase and kind do not carry cleared. Assumes nothing.
use Prim.Native.Nat.{ℕ, ◌+◌, ◌<◌}
use mathlib.Core.Bool.{Bool, true, false}
use mathlib.Core.Path.{◌≡◌, refl, sym, ap, ap₂, subst, ◌∙◌}
use mathlib.Core.List.{List, [], ◌∷◌, ◌++◌, map}
use native.Mathlib.Nat.{div-add-mod'}
use native.Mathlib.Omega.{arith}
use lib.Dec.{leb}
use lib.ListN.{length, get_or, take, drop, length-map, length-append}
use lib.Seq.{take_at, take_all, drop_at, drop-drop, get_or-drop}
use Rattle.parts.specs.Wait.{alone}
use Rattle.parts.specs.declared.phase.Phase.{Phase}
use Rattle.parts.specs.declared.phase.Phase.TheVariants.{Standby, Slave, First, Second, Data, AckWrite, AckRead, AckFirst, AckByte, Sending, Waiting, Next}
use Rattle.parts.specs.declared.wait.Target.{Target}
use Rattle.parts.specs.declared.wait.Target.TheVariants.{None, Sector, Locks}
use Rattle.parts.specs.declared.wait.Wait.{Wait}
use Rattle.chip.specs.declared.chip.Chip.{Chip}
use Rattle.chip_bytes.specs.At as at
use Rattle.chip_bytes.specs.Clean.{has_places, Bare, Sized}
use Rattle.parts.specs.Rows.{every}
use Rattle.chip_bytes.specs.State.{row, flag_of, flag_byte, phase_of, phase_bytes, target_of, target_bytes, with_places, wait_bytes, all_flags, wait_fits, bytes_fit, wait_of, chip_of, head_bytes, bytes_of}
use Rattle.chip_bytes.proofs.Rows.{row_part}

-- a phase from its four bytes
pub phase_back :
    (p : Phase)
    → phase_of (get_or (phase_bytes p) 0 0) (get_or (phase_bytes p) 1 0) (get_or (phase_bytes p) 2 0) (get_or (phase_bytes p) 3 0) ≡ p
unfolding phase_of phase_bytes
phase_back Standby = refl
phase_back (Slave bits got) = refl
phase_back (First bits got) = refl
phase_back (Second high bits got) = refl
phase_back (Data bits got) = refl
phase_back AckWrite = refl
phase_back AckRead = refl
phase_back (AckFirst high) = refl
phase_back AckByte = refl
phase_back (Sending bit byte) = refl
phase_back Waiting = refl
phase_back Next = refl

-- its number is one of the twelve
pub phase_fits_law : (p : Phase) → leb (get_or (phase_bytes p) 0 0) 11 ≡ true
unfolding phase_bytes
phase_fits_law Standby = refl
phase_fits_law (Slave bits got) = refl
phase_fits_law (First bits got) = refl
phase_fits_law (Second high bits got) = refl
phase_fits_law (Data bits got) = refl
phase_fits_law AckWrite = refl
phase_fits_law AckRead = refl
phase_fits_law (AckFirst high) = refl
phase_fits_law AckByte = refl
phase_fits_law (Sending bit byte) = refl
phase_fits_law Waiting = refl
phase_fits_law Next = refl

-- a flag from its byte, and its byte is a flag's
pub flag_back : (on : Bool) → flag_of (flag_byte on) ≡ on
flag_back true = refl
flag_back false = refl

pub flag_fits : (on : Bool) → leb (flag_byte on) 1 ≡ true
flag_fits true = refl
flag_fits false = refl

flags_back : (l : List Bool) → map flag_of (map flag_byte l) ≡ l
flags_back [] = refl
flags_back (on ∷ l) = ap₂ (λ (x : Bool) (r : List Bool). x ∷ r) (flag_back on) (flags_back l)

flags_fit : (l : List Bool) → all_flags (map flag_byte l) ≡ true
unfolding every
flags_fit [] = refl
flags_fit (on ∷ l) = rw (flag_fits on, flags_fit l)

-- what waits from its five bytes, whatever follows them
target_back :
    (t : Target) (rest : List ℕ)
    → target_of (get_or (target_bytes t ++ rest) 0 0) (get_or (target_bytes t ++ rest) 1 0) (get_or (target_bytes t ++ rest) 2 0) (get_or (target_bytes t ++ rest) 3 0) (get_or (target_bytes t ++ rest) 4 0)
    ≡ t
unfolding target_of target_bytes
target_back None rest = refl
target_back (Sector k) rest = ap (λ (n : ℕ). Sector n) (div-add-mod' k 256)
target_back (Locks ppen bl) rest = ap (λ (on : Bool). Locks on bl) (flag_back ppen)

target_long : (t : Target) → length (target_bytes t) ≡ 5
unfolding target_bytes
target_long None = refl
target_long (Sector k) = refl
target_long (Locks ppen bl) = refl

-- the low byte of its sector is a byte
target_low : (t : Target) (rest : List ℕ) → get_or (target_bytes t ++ rest) 2 0 < 256
unfolding target_bytes
target_low None rest = omega arith
target_low (Sector k) rest = omega arith
target_low (Locks ppen bl) rest = omega arith

-- its kind is one of the three, and each flag that it carries is one
wait_fits_law :
    (t : Target) (rest places : List ℕ)
    → all_flags places ≡ true
    → wait_fits (get_or (target_bytes t ++ rest) 0 0) (get_or (target_bytes t ++ rest) 3 0) places ≡ true
unfolding wait_fits target_bytes
wait_fits_law None rest places h = refl
wait_fits_law (Sector k) rest places h = h
wait_fits_law (Locks ppen bl) rest places h = flag_fits ppen

-- and its places and bytes, which a sector alone has
places_back : (w : Wait) → Bare w → with_places w.target (map flag_byte w.places) w.bytes ≡ w
places_back w bare = go w.target refl
  where
    other : (t : Target) → w.target ≡ t → has_places t ≡ false → alone t ≡ w
    other t e n = ap alone (sym e) ∙ sym (bare (ap has_places e ∙ n))

    go : (t : Target) → w.target ≡ t → with_places t (map flag_byte w.places) w.bytes ≡ w
    go None e = unfold with_places has_places in other None e refl
    go (Sector k) e = unfold with_places in λ i. record { target = sym e i; places = flags_back w.places i; bytes = w.bytes }
    go (Locks ppen bl) e = unfold with_places has_places in other (Locks ppen bl) e refl

-- a chip whose load and wait have their 32 places and bytes
module _ (c : Chip) (sized : Sized c) where
  flags : List ℕ
  flags = map flag_byte c.load.places

  long : length flags ≡ 32
  unfolding flags
  long = length-map c.load.places flag_byte ∙ sized.places

  taking : List ℕ
  taking = map flag_byte c.wait.places

  wait_long : length taking ≡ 32
  unfolding taking
  wait_long = length-map c.wait.places flag_byte ∙ sized.wait_places

  -- what is packed behind the load
  behind : List ℕ
  behind = c.spoil ∷ wait_bytes c.wait

  behind_long : length behind ≡ 70
  unfolding behind wait_bytes taking
  behind_long =
      rw (length-append (target_bytes c.wait.target) (taking ++ c.wait.bytes), length-append taking c.wait.bytes, target_long c.wait.target, wait_long, sized.wait_bytes)

  pub packed_length : length (bytes_of c) ≡ at.size
  unfolding bytes_of head_bytes flags behind
  packed_length = rw (length-append flags (c.load.bytes ++ behind), length-append c.load.bytes behind, long, sized.bytes, behind_long)

  packed_places : row 32 at.places (bytes_of c) ≡ flags
  unfolding bytes_of head_bytes flags behind
  packed_places = row_part 32 at.places (bytes_of c) (omega (arith, packed_length)) ∙ take_at flags (c.load.bytes ++ behind) 32 long

  -- the load's bytes, the spoil byte and what waits, each from its offset on
  from_load : drop at.load (bytes_of c) ≡ c.load.bytes ++ behind
  unfolding bytes_of head_bytes flags behind
  from_load = drop_at flags (c.load.bytes ++ behind) 32 long

  behind_load : drop at.spoil (bytes_of c) ≡ behind
  behind_load =
      sym (drop-drop 32 at.load (bytes_of c))
      ∙ ap (λ (l : List ℕ). drop 32 l) from_load
      ∙ drop_at c.load.bytes behind 32 sized.bytes

  from_wait : drop at.wait (bytes_of c) ≡ target_bytes c.wait.target ++ (taking ++ c.wait.bytes)
  unfolding behind wait_bytes taking
  from_wait = sym (drop-drop 1 at.spoil (bytes_of c)) ∙ ap (λ (l : List ℕ). drop 1 l) behind_load

  from_places : drop at.wait_places (bytes_of c) ≡ taking ++ c.wait.bytes
  from_places =
      sym (drop-drop 5 at.wait (bytes_of c))
      ∙ ap (λ (l : List ℕ). drop 5 l) from_wait
      ∙ drop_at (target_bytes c.wait.target) (taking ++ c.wait.bytes) 5 (target_long c.wait.target)

  from_bytes : drop at.wait_bytes (bytes_of c) ≡ c.wait.bytes
  from_bytes =
      sym (drop-drop 32 at.wait_places (bytes_of c))
      ∙ ap (λ (l : List ℕ). drop 32 l) from_places
      ∙ drop_at taking c.wait.bytes 32 wait_long

  packed_load : row 32 at.load (bytes_of c) ≡ c.load.bytes
  packed_load =
      row_part 32 at.load (bytes_of c) (omega (arith, packed_length))
      ∙ ap (λ (l : List ℕ). take 32 l) from_load
      ∙ take_at c.load.bytes behind 32 sized.bytes

  packed_spoil : get_or (bytes_of c) at.spoil 0 ≡ c.spoil
  unfolding behind
  packed_spoil = sym (get_or-drop at.spoil (bytes_of c) 0 0) ∙ ap (λ (l : List ℕ). get_or l 0 0) behind_load

  packed_wait : (k : ℕ) → get_or (bytes_of c) (at.wait + k) 0 ≡ get_or (target_bytes c.wait.target ++ (taking ++ c.wait.bytes)) k 0
  packed_wait k = sym (get_or-drop at.wait (bytes_of c) k 0) ∙ ap (λ (l : List ℕ). get_or l k 0) from_wait

  packed_taking : row 32 at.wait_places (bytes_of c) ≡ taking
  packed_taking =
      row_part 32 at.wait_places (bytes_of c) (omega (arith, packed_length))
      ∙ ap (λ (l : List ℕ). take 32 l) from_places
      ∙ take_at taking c.wait.bytes 32 wait_long

  packed_waiting : row 32 at.wait_bytes (bytes_of c) ≡ c.wait.bytes
  packed_waiting =
      row_part 32 at.wait_bytes (bytes_of c) (omega (arith, packed_length))
      ∙ ap (λ (l : List ℕ). take 32 l) from_bytes
      ∙ take_all 32 c.wait.bytes (omega (arith, sized.wait_bytes))

  wait_back : Bare c.wait → wait_of (bytes_of c) ≡ c.wait
  unfolding wait_of
  wait_back bare =
      (λ i. with_places (target_of (packed_wait 0 i) (packed_wait 1 i) (packed_wait 2 i) (packed_wait 3 i) (packed_wait 4 i)) (packed_taking i) (packed_waiting i))
      ∙ ap (λ (t : Target). with_places t taking c.wait.bytes) (target_back c.wait.target (taking ++ c.wait.bytes))
      ∙ unfold taking in places_back c.wait bare

  -- packed and unpacked it is itself
  pub chip_back : Bare c.wait → chip_of (bytes_of c) ≡ c
  unfolding chip_of bytes_of head_bytes flags
  chip_back bare =
      λ i.
      record {
        part = c.part;
        select = c.select;
        register =
            record {
              ppen = flag_back c.register.ppen i;
              bl = c.register.bl;
              rpel = flag_back c.register.rpel i;
              pel = flag_back c.register.pel i;
            };
        counter = div-add-mod' c.counter 256 i;
        mark = flag_back c.mark i;
        busy = flag_back c.busy i;
        scl = flag_back c.scl i;
        line = flag_back c.line i;
        phase = phase_back c.phase i;
        load =
            record {
              bytes = packed_load i;
              places = (ap (λ (l : List ℕ). map flag_of l) packed_places ∙ flags_back c.load.places) i;
              count = c.load.count;
            };
        spoil = packed_spoil i;
        wait = wait_back bare i;
      }

  -- the low byte of its waiting sector is a byte
  pub packed_low : get_or (bytes_of c) at.wait_low 0 < 256
  packed_low = subst (λ (low : ℕ). low < 256) (sym (packed_wait 2)) (target_low c.wait.target (taking ++ c.wait.bytes))

  -- what waits in its bytes fits
  packed_wait_fits : wait_fits (get_or (bytes_of c) at.wait 0) (get_or (bytes_of c) at.wait_ppen 0) (row 32 at.wait_places (bytes_of c)) ≡ true
  unfolding taking
  packed_wait_fits =
      (λ i. wait_fits (packed_wait 0 i) (packed_wait 3 i) (packed_taking i))
      ∙ wait_fits_law c.wait.target (taking ++ c.wait.bytes) taking (flags_fit c.wait.places)

  -- and its bytes fit
  pub packed_fit : bytes_fit (bytes_of c) ≡ true
  unfolding bytes_fit every bytes_of head_bytes flags
  packed_fit =
      simp (flag_fits, phase_fits_law, packed_places, flags_fit, packed_wait_fits)
