-- What waits for the end of a cycle, and what its end, or a cut, leaves in array and register. (RULES C16, S9, U3, U7, U8.)
--
-- | Name | Meaning |
-- |---|---|
-- | `alone target` | this waits, with no place loaded |
-- | `no_wait` | nothing waits |
-- | `chosen choices k` | place k is chosen: bit k of the 32 choices |
-- | `every_place`, `no_place`, `first_half` | the choices of all places, of none, and of places 0 to 15 |
-- | `taking places choices k` | place k takes its byte: it is loaded and chosen |
-- | `placed`, `stored_to k` | one place of a store; its first k places |
-- | `stored xs start takes bytes` | the array after a store in the sector that begins at `start` |
-- | `wait_for k load` | a load waits for sector k |
-- | `target_fits` | the waiting sector and the waiting BL are in their ranges |
-- | `waits` | something waits |
-- | `reached`, `end_array wait choices xs` | the array after the end of a cycle with these choices |
-- | `locks_taken` | the register after it |
use Rattle.std.specs.Prelude.{ℕ, zero, suc, ◌+◌, ◌*◌, ◌/◌, ◌%◌, ◌^◌, Bool, true, false, cond, ◌&&◌, List, leb, eqb, get_or, set, replicate}
use Rattle.parts.specs.Register.{with_locks}
use Rattle.parts.specs.declared.load.Load.{Load}
use Rattle.parts.specs.declared.register.Register.{Register}
use Rattle.parts.specs.declared.wait.Target.{Target}
use Rattle.parts.specs.declared.wait.Target.TheVariants.{None, Sector, Locks}
use Rattle.parts.specs.declared.wait.Wait.{Wait}

-- C16: no place, zeros
abbrev pub alone : Target → Wait
alone target = record { target = target; places = replicate 32 false; bytes = replicate 32 0 }

-- C16: what an idle chip has
abbrev pub no_wait : Wait
no_wait = alone None

-- U7: 32 choices, one a byte
abbrev pub chosen : ℕ → ℕ → Bool
chosen choices k = eqb (choices / 2 ^ (k % 32) % 2) 1

-- B2: what the event bytes 9, 10 and 11 choose
abbrev pub every_place : ℕ
every_place = 0xffffffff

abbrev pub no_place : ℕ
no_place = 0x00000000

abbrev pub first_half : ℕ
first_half = 0x0000ffff

-- U7: a chosen place that was not loaded has no new byte and stays (reading)
abbrev pub taking : List Bool → ℕ → ℕ → Bool
taking places choices k = get_or places k false && chosen choices k

-- S9: one place: it takes its byte, or keeps its own
abbrev pub placed : List ℕ → ℕ → (ℕ → Bool) → List ℕ → ℕ → List ℕ
placed xs start takes bytes k = cond (takes k) (set xs (start + k) (get_or bytes k 0)) xs

-- place after place
unfoldable pub stored_to : ℕ → List ℕ → ℕ → (ℕ → Bool) → List ℕ → List ℕ
stored_to zero xs start takes bytes = xs
stored_to (suc k) xs start takes bytes = placed (stored_to k xs start takes bytes) start takes bytes k

-- all 32 places
abbrev pub stored : List ℕ → ℕ → (ℕ → Bool) → List ℕ → List ℕ
stored xs start takes bytes = stored_to 32 xs start takes bytes

-- C16, S9: its places, with the bytes of those that are loaded and 0 at the others (reading)
abbrev pub wait_for : ℕ → Load → Wait
wait_for k load =
    record {
      target = Sector k;
      places = load.places;
      bytes = stored (replicate 32 0) 0 (taking load.places every_place) load.bytes;
    }

-- C16, F2: a sector 0-511, a BL 0-3
unfoldable pub target_fits : Target → Bool
target_fits None = true
target_fits (Sector k) = leb k 511
target_fits (Locks ppen bl) = leb bl 3

-- a sector, or PPEN and BL
unfoldable pub waits : Target → Bool
waits None = false
waits (Sector k) = true
waits (Locks ppen bl) = true

-- U3, U7: a waiting sector takes the bytes of its chosen places; nothing else is ever written
unfoldable pub reached : Target → Wait → ℕ → List ℕ → List ℕ
reached None wait choices xs = xs
reached (Sector k) wait choices xs = stored xs (k * 32) (taking wait.places choices) wait.bytes
reached (Locks ppen bl) wait choices xs = xs

-- for what waits
abbrev pub end_array : Wait → ℕ → List ℕ → List ℕ
end_array wait choices xs = reached wait.target wait choices xs

-- U3, U8: a waiting register byte is taken as a whole if the first choice is set
unfoldable pub locks_taken : Target → ℕ → Register → Register
locks_taken None choices r = r
locks_taken (Sector k) choices r = r
locks_taken (Locks ppen bl) choices r = cond (chosen choices 0) (with_locks r ppen bl) r
