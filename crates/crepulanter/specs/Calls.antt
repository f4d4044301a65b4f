-- What each function of a chip answers to C: the number that it returns, and what every lent byte holds afterwards.
-- (RULES K3-K5, O1-O3, O8-O10, U7.)
--
-- | Name | Meaning |
-- |---|---|
-- | `unfit` | the refusal of bytes that no chip has |
-- | `Loads b number told` | the chip of these bytes, or where no chip has them a refusal of this number |
-- | `Acts step f chip b r b' f'` | what a closure answers on a chip, and the bytes after it |
-- | `checked`, `event_refusal` | the refusal of one event, given that of its chip and array, and by the bytes |
-- | `run_number` | the refusal of a trace |
-- | `power_up_number` | the refusal of a power-up with any choices |
-- | `pin_of` | a pin level |
-- | `recover_number` | the refusal of a recovery |
-- | `pulses_told` | the pulses that a recovery answers, 0 where it is refused |
-- | `NewSays`, `EventSays`, `RunSays`, `PowerUpSays`, `RecoverSays` | the whole answer of each function |
use Rattle.std.specs.Prelude.{ℕ, Bool, true, false, cond, not, ◌≡◌, List, eqb, length, Result, Ok, Err}
use Rattle.std.specs.Borrow.{MutBor}
use Rattle.refusals.specs.Refusals.{number_of, status_of}
use Rattle.refusals.specs.declared.Refusal.{Refusal}
use Rattle.chip.specs.declared.chip.Chip.{Chip}
use Rattle.chip.specs.Chip.{made, cut_array, power_up}
use Rattle.chip.specs.Event.{refusal, next, next_array}
use Rattle.recovery.specs.Recovery.{recovery_answer, recovery_array}
use Rattle.trace.specs.Bytes.{event_of, is_event, answer_byte}
use Rattle.trace.specs.Trace.{unless, ran_of, run_array, run_answers}
use Rattle.chip_bytes.specs.State.{bytes_fit, chip_of, bytes_of}

-- K3: a phase above 11, a kind of what waits above 2 or a flag that is neither 0 nor 1 is refusal 2, after 1
unfoldable pub unfit : List ℕ → ℕ
unfit xs = cond (eqb (length xs) 0x4000) 2 1

-- K3: the chip that they stand for, or the refusal
abbrev pub Loads : List ℕ → ℕ → Result Chip Refusal → Type 0
Loads b number (Ok chip) = (bytes_fit b ≡ true) × (chip ≡ chip_of b)
Loads b number (Err refusal) = (bytes_fit b ≡ false) × (number_of refusal ≡ number)

-- K4: a call of f on the chip answers r and leaves f'; the bytes become those of the chip that it left, and a refusal leaves them
pub record Acts
    {F T : Type 0}
    (step : F → MutBor Chip → Result T Refusal → MutBor Chip → F → Type 0)
    (f : F)
    (chip : Chip)
    (b : List ℕ)
    (r : Result T Refusal)
    (b' : List ℕ)
    (f' : F)
    : Type 0 where
  pub shown : MutBor Chip
  pub shows : shown.now ≡ chip
  pub left : MutBor Chip
  pub acted : step f shown r left f'
  pub state : b' ≡ unless (status_of r) b (bytes_of left.now)

-- O8: one event checks 1, 2 and then 6
abbrev pub checked : ℕ → ℕ → ℕ
checked number event = cond (eqb number 0) (cond (is_event event) 0 6) number

-- K3, O8: the same by the chip's bytes
unfoldable pub event_refusal : List ℕ → List ℕ → ℕ → ℕ
event_refusal b xs event = cond (bytes_fit b) (checked (refusal (chip_of b) xs) event) (unfit xs)

-- K3, O3: a trace checks 1, 2, 4, 5, 6
unfoldable pub run_number : List ℕ → List ℕ → List ℕ → List ℕ → ℕ
run_number b xs trace old = cond (bytes_fit b) (ran_of (chip_of b) xs trace old).refusal (unfit xs)

-- K3, O2: a power-up checks 1, 2
unfoldable pub power_up_number : List ℕ → List ℕ → ℕ
power_up_number b xs = cond (bytes_fit b) (refusal (chip_of b) xs) (unfit xs)

-- K5: any pin level but 0 is high
abbrev pub pin_of : ℕ → Bool
pin_of pin = not (eqb pin 0)

-- K3, O2: recovery checks 1, 2
unfoldable pub recover_number : List ℕ → List ℕ → ℕ → ℕ
recover_number b xs pin = cond (bytes_fit b) (recovery_answer (pin_of pin) (chip_of b) xs).refusal (unfit xs)

-- O9: none where it is refused
abbrev pub pulses_told : Result ℕ Refusal → ℕ
pulses_told (Ok pulses) = pulses
pulses_told (Err refusal) = 0

-- K4: a new chip, or the standard chip with 3
pub record NewSays (part select : ℕ) (r : ℕ) (b' : List ℕ) : Type 0 where
  pub returned : r ≡ (made part select).refusal
  pub state : b' ≡ bytes_of (made part select).chip

-- K4: one event; a refusal leaves chip and array and answers 1: line high, note 0
pub record EventSays (b xs : List ℕ) (event : ℕ) (r : ℕ) (b' xs' : List ℕ) (answer : ℕ) : Type 0 where
  pub returned : r ≡ event_refusal b xs event
  pub state : b' ≡ unless (event_refusal b xs event) b (bytes_of (next (event_of event) (chip_of b) xs).chip)
  pub array : xs' ≡ unless (event_refusal b xs event) xs (next_array (event_of event) (chip_of b) xs)
  pub answered :
      answer
      ≡ unless (event_refusal b xs event)
      1
      (answer_byte (next (event_of event) (chip_of b) xs).chip.line (next (event_of event) (chip_of b) xs).note)

-- K4: a trace; a refusal leaves chip, array and answers
pub record RunSays (b xs trace old : List ℕ) (r : ℕ) (b' xs' told : List ℕ) : Type 0 where
  pub returned : r ≡ run_number b xs trace old
  pub state : b' ≡ unless (run_number b xs trace old) b (bytes_of (ran_of (chip_of b) xs trace old).chip)
  pub array : xs' ≡ cond (bytes_fit b) (run_array (chip_of b) xs trace old) xs
  pub answers : told ≡ cond (bytes_fit b) (run_answers (chip_of b) xs trace old) old

-- K4, U7: a power-up with any choices; a refusal leaves chip and array, and the answer is the same in every case: line high, note 0
pub record PowerUpSays (b xs : List ℕ) (choices : ℕ) (r : ℕ) (b' xs' : List ℕ) (answer : ℕ) : Type 0 where
  pub returned : r ≡ power_up_number b xs
  pub state : b' ≡ unless (power_up_number b xs) b (bytes_of (power_up choices (chip_of b)))
  pub array : xs' ≡ unless (power_up_number b xs) xs (cut_array choices (chip_of b) xs)
  pub answered : answer ≡ answer_byte true 0

-- K4: recovery; a refusal leaves chip and array and reports 0 pulses
pub record RecoverSays (b xs : List ℕ) (pin : ℕ) (r : ℕ) (b' xs' : List ℕ) (pulses : ℕ) : Type 0 where
  pub returned : r ≡ recover_number b xs pin
  pub state : b' ≡ unless (recover_number b xs pin) b (bytes_of (recovery_answer (pin_of pin) (chip_of b) xs).chip)
  pub array : xs' ≡ cond (bytes_fit b) (recovery_array (pin_of pin) (chip_of b) xs) xs
  pub pulsed : pulses ≡ cond (bytes_fit b) (recovery_answer (pin_of pin) (chip_of b) xs).pulses 0
