-- What the bytes of a chip mean, and which bytes a chip has; where each stands is in At.antt. (RULES K1-K3.)
--
-- | Name | Meaning |
-- |---|---|
-- | `row` | the n bytes from an offset on |
-- | `flag_of`, `flag_byte` | the flag of a byte, the byte of a flag |
-- | `phase_of` | the phase of a number, with those of three bytes that it carries |
-- | `phase_bytes` | the number of a phase, its bits, byte and high; 0 for what it does not carry |
-- | `target_of` | what waits, by its kind, with those of four bytes that it carries |
-- | `target_bytes` | its kind, its sector's number, its PPEN and BL; 0 for what it does not carry |
-- | `with_places` | the same with places and bytes, which a sector alone carries |
-- | `wait_bytes` | the bytes of what waits |
-- | `all_flags` | every byte is 0 or 1 |
-- | `head_flags` | the flags before the load's places |
-- | `wait_fits` | the kind is one of the three, each flag that it carries is 0 or 1 |
-- | `bytes_fit` | the phase is one of the twelve, each flag is 0 or 1, and what waits fits |
-- | `wait_of`, `chip_of` | what waits in the chip that bytes stand for; the chip |
-- | `head_bytes` | the bytes of a chip before its load's places |
-- | `bytes_of` | the bytes of a chip |
use Rattle.std.specs.Prelude.{ℕ, zero, suc, ◌+◌, ◌*◌, ◌/◌, ◌%◌, Bool, true, false, cond, ◌&&◌, List, [], ◌∷◌, ◌++◌, map, eqb, leb, get_or}
use Rattle.parts.specs.Phase.{weight}
use Rattle.parts.specs.Rows.{every}
use Rattle.parts.specs.Wait.{alone}
use Rattle.parts.specs.declared.phase.Phase.{Phase}
use Rattle.parts.specs.declared.phase.Phase.TheVariants.{Standby, Slave, First, Second, Data, AckWrite, AckRead, AckFirst, AckByte, Sending, Waiting, Next}
use Rattle.parts.specs.declared.wait.Target.{Target}
use Rattle.parts.specs.declared.wait.Target.TheVariants.{None, Sector, Locks}
use Rattle.parts.specs.declared.wait.Wait.{Wait}
use Rattle.chip.specs.declared.chip.Chip.{Chip}
use Rattle.chip_bytes.specs.At as at

-- the n bytes from an offset on
unfoldable pub row : ℕ → ℕ → List ℕ → List ℕ
row zero from b = []
row (suc n) from b = get_or b from 0 ∷ row n (suc from) b

-- K1: a flag is 1 where it is set, 0 where it is not
abbrev pub flag_of : ℕ → Bool
flag_of byte = eqb byte 1

-- K1, the other way
abbrev pub flag_byte : Bool → ℕ
flag_byte on = weight on 1

-- K1, K2: the phases of a transfer by number; each takes what it carries
unfoldable pub phase_of : ℕ → ℕ → ℕ → ℕ → Phase
phase_of number bits byte high =
    cond (eqb number 0) Standby
    (cond (eqb number 1) (Slave bits byte)
    (cond (eqb number 2) (First bits byte)
    (cond (eqb number 3) (Second high bits byte)
    (cond (eqb number 4) (Data bits byte)
    (cond (eqb number 5) AckWrite
    (cond (eqb number 6) AckRead
    (cond (eqb number 7) (AckFirst high)
    (cond (eqb number 8) AckByte
    (cond (eqb number 9) (Sending bits byte)
    (cond (eqb number 10) Waiting
    Next))))))))))

-- K1, K2: number, bits, byte, high; a field that the phase does not carry is 0
unfoldable pub phase_bytes : Phase → List ℕ
phase_bytes Standby = 0 ∷ 0 ∷ 0 ∷ 0 ∷ []
phase_bytes (Slave bits got) = 1 ∷ bits ∷ got ∷ 0 ∷ []
phase_bytes (First bits got) = 2 ∷ bits ∷ got ∷ 0 ∷ []
phase_bytes (Second high bits got) = 3 ∷ bits ∷ got ∷ high ∷ []
phase_bytes (Data bits got) = 4 ∷ bits ∷ got ∷ 0 ∷ []
phase_bytes AckWrite = 5 ∷ 0 ∷ 0 ∷ 0 ∷ []
phase_bytes AckRead = 6 ∷ 0 ∷ 0 ∷ 0 ∷ []
phase_bytes (AckFirst high) = 7 ∷ 0 ∷ 0 ∷ high ∷ []
phase_bytes AckByte = 8 ∷ 0 ∷ 0 ∷ 0 ∷ []
phase_bytes (Sending bit byte) = 9 ∷ bit ∷ byte ∷ 0 ∷ []
phase_bytes Waiting = 10 ∷ 0 ∷ 0 ∷ 0 ∷ []
phase_bytes Next = 11 ∷ 0 ∷ 0 ∷ 0 ∷ []

-- K1, K2, C16: what waits by its kind; each takes what it carries
unfoldable pub target_of : ℕ → ℕ → ℕ → ℕ → ℕ → Target
target_of kind high low ppen bl =
    cond (eqb kind 0) None
    (cond (eqb kind 1) (Sector (high * 256 + low))
    (Locks (flag_of ppen) bl))

-- K1, K2: kind, high, low, PPEN, BL; a field that it does not carry is 0
unfoldable pub target_bytes : Target → List ℕ
target_bytes None = 0 ∷ 0 ∷ 0 ∷ 0 ∷ 0 ∷ []
target_bytes (Sector k) = 1 ∷ k / 256 ∷ k % 256 ∷ 0 ∷ 0 ∷ []
target_bytes (Locks ppen bl) = 2 ∷ 0 ∷ 0 ∷ flag_byte ppen ∷ bl ∷ []

-- K2: places and bytes belong to a sector; without one they are not read
unfoldable pub with_places : Target → List ℕ → List ℕ → Wait
with_places None places bytes = alone None
with_places (Sector k) places bytes = record { target = Sector k; places = map flag_of places; bytes = bytes }
with_places (Locks ppen bl) places bytes = alone (Locks ppen bl)

-- K1: the target, and then its places and bytes
unfoldable pub wait_bytes : Wait → List ℕ
wait_bytes w = target_bytes w.target ++ (map flag_byte w.places ++ w.bytes)

-- K3: none is above 1
abbrev pub all_flags : List ℕ → Bool
all_flags bytes = every (λ byte. leb byte 1) bytes

-- K3: PPEN, RPEL, PEL, the mark, busy, the last SCL, the last line
abbrev pub head_flags : List ℕ → List ℕ
head_flags b =
    get_or b at.ppen 0
    ∷ get_or b at.rpel 0
    ∷ get_or b at.pel 0
    ∷ get_or b at.mark 0
    ∷ get_or b at.busy 0
    ∷ get_or b at.scl 0
    ∷ get_or b at.line 0
    ∷ []

-- K3: with kind 0 anything, with kind 1 places that are flags, with kind 2 a PPEN that is one; no kind above
unfoldable pub wait_fits : ℕ → ℕ → List ℕ → Bool
wait_fits kind ppen places =
    cond (eqb kind 0) true
    (cond (eqb kind 1) (all_flags places)
    (cond (eqb kind 2) (leb ppen 1)
    false))

-- K3: a phase of 0-11, flags that are flags, and so what waits
unfoldable pub bytes_fit : List ℕ → Bool
bytes_fit b =
    leb (get_or b at.phase 0) 11
    && (all_flags (head_flags b)
    && (all_flags (row 32 at.places b)
    && wait_fits (get_or b at.wait 0) (get_or b at.wait_ppen 0) (row 32 at.wait_places b)))

-- K1, K2: what waits, each field from its offset
unfoldable pub wait_of : List ℕ → Wait
wait_of b =
    with_places
    (target_of (get_or b at.wait 0) (get_or b at.wait_high 0) (get_or b at.wait_low 0) (get_or b at.wait_ppen 0) (get_or b at.wait_bl 0))
    (row 32 at.wait_places b)
    (row 32 at.wait_bytes b)

-- K1, K2: each field from its offset
unfoldable pub chip_of : List ℕ → Chip
chip_of b =
    record {
      part = get_or b at.part 0;
      select = get_or b at.select 0;
      register =
          record {
            ppen = flag_of (get_or b at.ppen 0);
            bl = get_or b at.bl 0;
            rpel = flag_of (get_or b at.rpel 0);
            pel = flag_of (get_or b at.pel 0);
          };
      counter = get_or b at.counter_high 0 * 256 + get_or b at.counter_low 0;
      mark = flag_of (get_or b at.mark 0);
      busy = flag_of (get_or b at.busy 0);
      scl = flag_of (get_or b at.scl 0);
      line = flag_of (get_or b at.line 0);
      phase = phase_of (get_or b at.phase 0) (get_or b at.bits 0) (get_or b at.byte 0) (get_or b at.high 0);
      load =
          record {
            bytes = row 32 at.load b;
            places = map flag_of (row 32 at.places b);
            count = get_or b at.count 0;
          };
      spoil = get_or b at.spoil 0;
      wait = wait_of b;
    }

-- K1: the bytes before the load's places, in the order of the C struct
unfoldable pub head_bytes : Chip → List ℕ
head_bytes c =
    c.part
    ∷ c.select
    ∷ flag_byte c.register.ppen
    ∷ c.register.bl
    ∷ flag_byte c.register.rpel
    ∷ flag_byte c.register.pel
    ∷ c.counter / 256
    ∷ c.counter % 256
    ∷ flag_byte c.mark
    ∷ flag_byte c.busy
    ∷ flag_byte c.scl
    ∷ flag_byte c.line
    ∷ get_or (phase_bytes c.phase) 0 0
    ∷ get_or (phase_bytes c.phase) 1 0
    ∷ get_or (phase_bytes c.phase) 2 0
    ∷ get_or (phase_bytes c.phase) 3 0
    ∷ c.load.count
    ∷ []

-- K1: and then the load's places and bytes, the spoil byte, and what waits
unfoldable pub bytes_of : Chip → List ℕ
bytes_of c = head_bytes c ++ (map flag_byte c.load.places ++ (c.load.bytes ++ (c.spoil ∷ wait_bytes c.wait)))
