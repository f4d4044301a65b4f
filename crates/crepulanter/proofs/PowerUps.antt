-- A power-up with any choices, without a map and with one: the call says what the event answers to its chip. And an event byte that is a power-up
-- does what the call does with its choices. Assumes nothing.
use Prim.Native.Nat.{ℕ}
use mathlib.Core.Bool.{Bool, true, false, cond}
use mathlib.Core.List.{List}
use mathlib.Core.Path.{◌≡◌, refl, sym, ap, ◌∙◌}
use borrow.Author.Tests.{eqb-true}
use lib.Dec.{eqb}
use Rattle.chip.specs.Chip.{cut_array, power_up}
use Rattle.chip.specs.Event.{Answer, next, next_array, refusal, answered, refused, event_answer, event_array}
use Rattle.chip.specs.Run.{world}
use Rattle.chip.specs.declared.chip.Chip.{Chip}
use Rattle.chip.specs.declared.wire.Event.TheVariants.{PowerUp}
use Rattle.trace.specs.Bytes.{event_of, is_event, answer_byte}
use Rattle.trace.specs.Trace.{unless}
use Rattle.map.specs.Keeping.{kept, answer_refusal, answer_of, answer_array, answer_map}
use Rattle.map.specs.Sectors.{with_map}
use Rattle.crepulanter.specs.Calls.{unfit, event_refusal, power_up_number, EventSays, PowerUpSays}
use Rattle.crepulanter.specs.Maps.{map_event_refusal, map_power_up_number, MapEventSays, MapPowerUpSays}
use Rattle.chip_bytes.specs.State.{bytes_fit, chip_of, bytes_of}
use Rattle.crepulanter.proofs.Answers.{answer_number, answer_packed}

-- bytes that fit are refused as their chip is
fit_number : (b xs : List ℕ) → bytes_fit b ≡ true → refusal (chip_of b) xs ≡ power_up_number b xs
unfolding power_up_number
fit_number b xs fit = rw fit

-- what the event answers, and the array that it leaves, are what the call says, where the chip is packed unless it was refused
pub powered :
    (b xs : List ℕ) (choices : ℕ) (c : Chip) (a : Answer) (r : ℕ) (b' xs' : List ℕ)
    → bytes_fit b ≡ true
    → c ≡ chip_of b
    → a ≡ event_answer (PowerUp choices) c xs
    → xs' ≡ event_array (PowerUp choices) c xs
    → r ≡ a.refusal
    → b' ≡ unless a.refusal b (bytes_of a.chip)
    → PowerUpSays b xs choices r b' xs' 1
unfolding event_answer event_array next next_array unless
powered b xs choices c a r b' xs' fit chip told left number packed =
    let n : ℕ = refusal (chip_of b) xs in
    let same : n ≡ power_up_number b xs = fit_number b xs fit in
    let known : a ≡ unless n (refused n (chip_of b)) (answered 0 (next (PowerUp choices) (chip_of b) xs)) = told ∙ ap (λ (d : Chip). event_answer (PowerUp choices) d xs) chip in
    record {
      returned = number ∙ answer_number n (chip_of b) (next (PowerUp choices) (chip_of b) xs) a known ∙ same;
      state =
          packed
          ∙ answer_packed n (chip_of b) (next (PowerUp choices) (chip_of b) xs) a known b
          ∙ ap (λ (k : ℕ). unless k b (bytes_of (power_up choices (chip_of b)))) same;
      array =
          left
          ∙ ap (λ (d : Chip). event_array (PowerUp choices) d xs) chip
          ∙ ap (λ (k : ℕ). unless k xs (cut_array choices (chip_of b) xs)) same;
      answered = refl;
    }

-- and with a map
pub map_powered :
    (b xs m : List ℕ) (choices : ℕ) (c : Chip) (a : Answer) (r : ℕ) (b' xs' m' : List ℕ)
    → bytes_fit b ≡ true
    → c ≡ chip_of b
    → a ≡ answer_of (PowerUp choices) c xs m
    → xs' ≡ answer_array (PowerUp choices) c xs m
    → m' ≡ answer_map (PowerUp choices) c xs m
    → r ≡ a.refusal
    → b' ≡ unless a.refusal b (bytes_of a.chip)
    → MapPowerUpSays b xs m choices r b' xs' m' 1
unfolding answer_refusal answer_of answer_array answer_map next next_array
map_powered b xs m choices c a r b' xs' m' fit chip told left followed number packed =
    let n : ℕ = answer_refusal (chip_of b) xs m in
    let same : n ≡ map_power_up_number b xs m = ap (λ (k : ℕ). with_map k m) (fit_number b xs fit) in
    let known : a ≡ unless n (refused n (chip_of b)) (answered 0 (next (PowerUp choices) (chip_of b) xs)) = told ∙ ap (λ (d : Chip). answer_of (PowerUp choices) d xs m) chip in
    record {
      returned = number ∙ answer_number n (chip_of b) (next (PowerUp choices) (chip_of b) xs) a known ∙ same;
      state =
          packed
          ∙ answer_packed n (chip_of b) (next (PowerUp choices) (chip_of b) xs) a known b
          ∙ ap (λ (k : ℕ). unless k b (bytes_of (power_up choices (chip_of b)))) same;
      array =
          left
          ∙ ap (λ (d : Chip). answer_array (PowerUp choices) d xs m) chip
          ∙ ap (λ (k : ℕ). unless k xs (cut_array choices (chip_of b) xs)) same;
      map =
          followed
          ∙ ap (λ (d : Chip). answer_map (PowerUp choices) d xs m) chip
          ∙ ap (λ (k : ℕ). unless k m (kept (PowerUp choices) (world (chip_of b) xs) m)) same;
      answered = refl;
    }

-- an event byte adds no refusal
known_number : (b xs : List ℕ) (event : ℕ) → is_event event ≡ true → power_up_number b xs ≡ event_refusal b xs event
unfolding power_up_number event_refusal
known_number b xs event one = rw one (ap (λ (n : ℕ). cond (bytes_fit b) n (unfit xs)) (go (refusal (chip_of b) xs) (eqb (refusal (chip_of b) xs) 0) refl))
  where
    go : (n : ℕ) (taken : Bool) → eqb n 0 ≡ taken → n ≡ cond taken 0 n
    go n true e = eqb-true n 0 e
    go n false e = refl

-- the answer is that of a power-up, refused or not
up_answer : (number choices : ℕ) (c : Chip) (xs : List ℕ)
    → answer_byte true 0 ≡ unless number 1 (answer_byte (next (PowerUp choices) c xs).chip.line (next (PowerUp choices) c xs).note)
unfolding unless next
up_answer number choices c xs = go (eqb number 0)
  where
    go : (taken : Bool) → ◌≡◌ {A = ℕ} 1 (cond taken 1 1)
    go true = refl
    go false = refl

-- B2: an event byte that is a power-up
pub power_up_event :
    (b xs : List ℕ) (choices event r : ℕ) (b' xs' : List ℕ) (answer : ℕ)
    → is_event event ≡ true
    → event_of event ≡ PowerUp choices
    → PowerUpSays b xs choices r b' xs' answer
    → EventSays b xs event r b' xs' answer
unfolding next next_array
power_up_event b xs choices event r b' xs' answer one known s =
    let same = known_number b xs event one in
    record {
      returned = s.returned ∙ same;
      state = s.state ∙ (λ i. unless (same i) b (bytes_of (next (sym known i) (chip_of b) xs).chip));
      array = s.array ∙ (λ i. unless (same i) xs (next_array (sym known i) (chip_of b) xs));
      answered =
          s.answered
          ∙ up_answer (event_refusal b xs event) choices (chip_of b) xs
          ∙ (λ i. unless (event_refusal b xs event) 1 (answer_byte (next (sym known i) (chip_of b) xs).chip.line (next (sym known i) (chip_of b) xs).note));
    }

-- and with a map
pub map_power_up_event :
    (b xs m : List ℕ) (choices event r : ℕ) (b' xs' m' : List ℕ) (answer : ℕ)
    → is_event event ≡ true
    → event_of event ≡ PowerUp choices
    → MapPowerUpSays b xs m choices r b' xs' m' answer
    → MapEventSays b xs m event r b' xs' m' answer
unfolding next next_array
map_power_up_event b xs m choices event r b' xs' m' answer one known s =
    let same = ap (λ (n : ℕ). with_map n m) (known_number b xs event one) in
    record {
      returned = s.returned ∙ same;
      state = s.state ∙ (λ i. unless (same i) b (bytes_of (next (sym known i) (chip_of b) xs).chip));
      array = s.array ∙ (λ i. unless (same i) xs (next_array (sym known i) (chip_of b) xs));
      map = s.map ∙ (λ i. unless (same i) m (kept (sym known i) (world (chip_of b) xs) m));
      answered =
          s.answered
          ∙ up_answer (map_event_refusal b xs m event) choices (chip_of b) xs
          ∙ (λ i. unless (map_event_refusal b xs m event) 1 (answer_byte (next (sym known i) (chip_of b) xs).chip.line (next (sym known i) (chip_of b) xs).note));
    }
