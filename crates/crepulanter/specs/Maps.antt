-- What each function with a map answers to C. Building answers as the map's own `build_refusal` and `built_of` say. (RULES K10, K11, O12-O14.)
--
-- | Name | Meaning |
-- |---|---|
-- | `sector_number`, `found_number` | the sector found, 512 where there is none; the number of the refusal |
-- | `map_event_refusal`, `map_run_number`, `map_power_up_number` | the refusal of one event, of a trace and of a power-up: that without a map, and 18 after 1 |
-- | `FirstSays`, `MapEventSays`, `MapRunSays`, `MapPowerUpSays` | the whole answer of each function |
use Rattle.std.specs.Prelude.{ℕ, true, cond, ◌≡◌, List}
use Rattle.chip.specs.Chip.{cut_array, power_up}
use Rattle.chip.specs.Event.{next, next_array}
use Rattle.chip.specs.Run.{world}
use Rattle.chip.specs.declared.wire.Event.TheVariants.{PowerUp}
use Rattle.trace.specs.Bytes.{event_of, answer_byte}
use Rattle.trace.specs.Trace.{unless}
use Rattle.map.specs.Finding.{Found, Sector, None, Refused, first_free}
use Rattle.map.specs.Keeping.{kept, trace_ran, trace_array, trace_map, trace_answers}
use Rattle.map.specs.Sectors.{with_map}
use Rattle.crepulanter.specs.Calls.{event_refusal, run_number, power_up_number}
use Rattle.chip_bytes.specs.State.{bytes_fit, chip_of, bytes_of}

-- K11: none and a refusal are 512
abbrev pub sector_number : Found → ℕ
sector_number (Sector k) = k
sector_number None = 512
sector_number (Refused number) = 512

-- K11: that none is free is no refusal
abbrev pub found_number : Found → ℕ
found_number (Sector k) = 0
found_number None = 0
found_number (Refused number) = number

-- K10, O13: one event checks 1, 18, 2 and then 6
abbrev pub map_event_refusal : List ℕ → List ℕ → List ℕ → ℕ → ℕ
map_event_refusal b xs m event = with_map (event_refusal b xs event) m

-- K10, O14: a trace checks 1, 18, 2, 4, 5, 6
abbrev pub map_run_number : List ℕ → List ℕ → List ℕ → List ℕ → List ℕ → ℕ
map_run_number b xs m trace old = with_map (run_number b xs trace old) m

-- K10, O13: a power-up checks 1, 18, 2
abbrev pub map_power_up_number : List ℕ → List ℕ → List ℕ → ℕ
map_power_up_number b xs m = with_map (power_up_number b xs) m

-- K11, O12: by the map alone
pub record FirstSays (m : List ℕ) (r sector : ℕ) : Type 0 where
  pub returned : r ≡ found_number (first_free m)
  pub found : sector ≡ sector_number (first_free m)

-- K10, O13: one event; a refusal leaves chip, array and map and answers 1: line high, note 0
pub record MapEventSays (b xs m : List ℕ) (event : ℕ) (r : ℕ) (b' xs' m' : List ℕ) (answer : ℕ) : Type 0 where
  pub returned : r ≡ map_event_refusal b xs m event
  pub state : b' ≡ unless (map_event_refusal b xs m event) b (bytes_of (next (event_of event) (chip_of b) xs).chip)
  pub array : xs' ≡ unless (map_event_refusal b xs m event) xs (next_array (event_of event) (chip_of b) xs)
  pub map : m' ≡ unless (map_event_refusal b xs m event) m (kept (event_of event) (world (chip_of b) xs) m)
  pub answered :
      answer
      ≡ unless (map_event_refusal b xs m event)
      1
      (answer_byte (next (event_of event) (chip_of b) xs).chip.line (next (event_of event) (chip_of b) xs).note)

-- K10, O14: a trace; a refusal leaves chip, array, map and answers
pub record MapRunSays (b xs m trace old : List ℕ) (r : ℕ) (b' xs' m' told : List ℕ) : Type 0 where
  pub returned : r ≡ map_run_number b xs m trace old
  pub state : b' ≡ unless (map_run_number b xs m trace old) b (bytes_of (trace_ran (chip_of b) xs m trace old).chip)
  pub array : xs' ≡ cond (bytes_fit b) (trace_array (chip_of b) xs m trace old) xs
  pub map : m' ≡ cond (bytes_fit b) (trace_map (chip_of b) xs m trace old) m
  pub answers : told ≡ cond (bytes_fit b) (trace_answers (chip_of b) xs m trace old) old

-- K10, O13, U7: a power-up with any choices; a refusal leaves chip, array and map, and the answer is the same in every case: line high, note 0
pub record MapPowerUpSays (b xs m : List ℕ) (choices : ℕ) (r : ℕ) (b' xs' m' : List ℕ) (answer : ℕ) : Type 0 where
  pub returned : r ≡ map_power_up_number b xs m
  pub state : b' ≡ unless (map_power_up_number b xs m) b (bytes_of (power_up choices (chip_of b)))
  pub array : xs' ≡ unless (map_power_up_number b xs m) xs (cut_array choices (chip_of b) xs)
  pub map : m' ≡ unless (map_power_up_number b xs m) m (kept (PowerUp choices) (world (chip_of b) xs) m)
  pub answered : answer ≡ answer_byte true 0
