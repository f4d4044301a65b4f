-- What an export says, from what its act answers on the chip that was loaded. Assumes nothing.
use Prim.Native.Nat.{ℕ}
use mathlib.Core.Bool.{false}
use mathlib.Core.List.{List}
use mathlib.Core.Path.{◌≡◌, refl, sym, ap, ◌∙◌}
use borrow.Author.Tests.{ne_eqb}
use Rattle.std.specs.Prelude.{Result, Ok, Err}
use Rattle.std.specs.Result.{is_ok}
use Rattle.refusals.specs.Refusals.{number_of, status_of}
use Rattle.refusals.specs.declared.Refusal.{Refusal}
use Rattle.refusals.proofs.Numbers.{never_0}
use Rattle.chip.specs.Event.{answer_as, event_answer, event_array}
use Rattle.chip.specs.declared.chip.Chip.{Chip}
use Rattle.chip.specs.declared.event.Answer.{Answer as Told}
use Rattle.chip.specs.declared.wire.Event.TheVariants.{PowerUp}
use Rattle.chip.proofs.ToldLaws.{answer_told}
use Rattle.recovery.specs.Recovery.{Recovered, recovered_as, recovery_answer, recovery_array}
use Rattle.trace.specs.Trace.{unless, ran_as, ran_of, run_array, run_answers}
use Rattle.map.specs.Keeping.{answer_of, answer_array, answer_map, trace_refusal, trace_ran, trace_array, trace_map, trace_answers}
use Rattle.map.specs.Sectors.{with_map}
use Rattle.chip_bytes.specs.State.{bytes_of}
use Rattle.crepulanter.specs.Calls.{unfit, Loads, run_number, power_up_number, pin_of, recover_number, pulses_told, RunSays, PowerUpSays, RecoverSays}
use Rattle.crepulanter.specs.Maps.{MapRunSays, MapPowerUpSays}
use Rattle.crepulanter.proofs.PowerUps.{powered, map_powered}
use Rattle.crepulanter.proofs.Refusals.{unfit_taken, unfit_map_taken}

-- what stays where an act was refused
pub kept_by : {T A : Type 0} (r : Result T Refusal) (old run : A) → is_ok r ≡ false → old ≡ unless (status_of r) old run
unfolding unless
kept_by (Ok v) old run t = cc
kept_by (Err e) old run t = rw (ne_eqb (number_of e) 0 (λ z. never_0 e z)) refl

-- a trace
pub run_says :
    (b xs trace old : List ℕ) (loaded : Result Chip Refusal) (r : Result (Unit {0}) Refusal) (b' xs' told : List ℕ)
    → Loads b (unfit xs) loaded
    → ((e : Refusal) → loaded ≡ Err e → (r ≡ Err e) × (b' ≡ b) × (xs' ≡ xs) × (told ≡ old))
    → ((c : Chip)
    → loaded ≡ Ok c
    → (left : Chip)
    × (ran_as r left ≡ ran_of c xs trace old)
    × (xs' ≡ run_array c xs trace old)
    × (told ≡ run_answers c xs trace old)
    × (b' ≡ unless (status_of r) b (bytes_of left)))
    → RunSays b xs trace old (status_of r) b' xs' told
unfolding run_number unless
run_says b xs trace old (Err e) r b' xs' told loads refused acted =
    let s = refused e refl in
    let number : status_of r ≡ unfit xs = ap status_of s.0 ∙ loads.1 in
    record {
      returned = simp (loads.0, number);
      state = simp (loads.0, s.1, unfit_taken);
      array = simp (loads.0, s.2);
      answers = simp (loads.0, s.3);
    }
run_says b xs trace old (Ok c) r b' xs' told loads refused acted =
    let s = acted c refl in
    let chip = sym loads.1 in
    let done = sym s.1 in
    record {
      returned = simp (loads.0, chip, done);
      state = simp (loads.0, chip, done, s.4);
      array = simp (loads.0, chip, s.2);
      answers = simp (loads.0, chip, s.3);
    }

-- 18 follows 1 in the refusal of the map's trace
map_number : (c : Chip) (xs m trace old : List ℕ) → with_map (ran_of c xs trace old).refusal m ≡ (trace_ran c xs m trace old).refusal
unfolding ran_of trace_ran trace_refusal
map_number c xs m trace old = refl

-- a trace with a map
pub map_run_says :
    (b xs m trace old : List ℕ) (loaded : Result Chip Refusal) (r : Result (Unit {0}) Refusal) (b' xs' m' told : List ℕ)
    → Loads b (with_map (unfit xs) m) loaded
    → ((e : Refusal) → loaded ≡ Err e → (r ≡ Err e) × (b' ≡ b) × (xs' ≡ xs) × (m' ≡ m) × (told ≡ old))
    → ((c : Chip)
    → loaded ≡ Ok c
    → (left : Chip)
    × (ran_as r left ≡ trace_ran c xs m trace old)
    × (xs' ≡ trace_array c xs m trace old)
    × (m' ≡ trace_map c xs m trace old)
    × (told ≡ trace_answers c xs m trace old)
    × (b' ≡ unless (status_of r) b (bytes_of left)))
    → MapRunSays b xs m trace old (status_of r) b' xs' m' told
unfolding run_number unless
map_run_says b xs m trace old (Err e) r b' xs' m' told loads refused acted =
    let s = refused e refl in
    let number : status_of r ≡ with_map (unfit xs) m = ap status_of s.0 ∙ loads.1 in
    record {
      returned = simp (loads.0, number);
      state = simp (loads.0, s.1, unfit_map_taken);
      array = simp (loads.0, s.2);
      map = simp (loads.0, s.3);
      answers = simp (loads.0, s.4);
    }
map_run_says b xs m trace old (Ok c) r b' xs' m' told loads refused acted =
    let s = acted c refl in
    let chip = sym loads.1 in
    let done = sym s.1 in
    record {
      returned = simp (loads.0, chip, map_number, done);
      state = simp (loads.0, chip, map_number, done, s.5);
      array = simp (loads.0, chip, s.2);
      map = simp (loads.0, chip, s.3);
      answers = simp (loads.0, chip, s.4);
    }

-- a power-up
pub power_up_says :
    (b xs : List ℕ) (choices : ℕ) (loaded : Result Chip Refusal) (r : Result Told Refusal) (b' xs' : List ℕ)
    → Loads b (unfit xs) loaded
    → ((e : Refusal) → loaded ≡ Err e → (r ≡ Err e) × (b' ≡ b) × (xs' ≡ xs))
    → ((c : Chip)
    → loaded ≡ Ok c
    → (left : Chip)
    × (answer_as r left ≡ event_answer (PowerUp choices) c xs)
    × (xs' ≡ event_array (PowerUp choices) c xs)
    × (b' ≡ unless (status_of r) b (bytes_of left)))
    → PowerUpSays b xs choices (status_of r) b' xs' 1
unfolding power_up_number unless
power_up_says b xs choices (Err e) r b' xs' loads refused acted =
    let s = refused e refl in
    let number : status_of r ≡ unfit xs = ap status_of s.0 ∙ loads.1 in
    record {
      returned = simp (loads.0, number);
      state = simp (loads.0, s.1, unfit_taken);
      array = simp (loads.0, s.2, unfit_taken);
      answered = refl;
    }
power_up_says b xs choices (Ok c) r b' xs' loads refused acted =
    let s = acted c refl in
    let told = answer_told r s.0 in
    powered _ _ _ _ _ _ _ _ loads.0 loads.1 s.1 s.2 (sym told.0) (simp (told.0, told.1, s.3))

-- a power-up with a map
pub map_power_up_says :
    (b xs m : List ℕ) (choices : ℕ) (loaded : Result Chip Refusal) (r : Result Told Refusal) (b' xs' m' : List ℕ)
    → Loads b (with_map (unfit xs) m) loaded
    → ((e : Refusal) → loaded ≡ Err e → (r ≡ Err e) × (b' ≡ b) × (xs' ≡ xs) × (m' ≡ m))
    → ((c : Chip)
    → loaded ≡ Ok c
    → (left : Chip)
    × (answer_as r left ≡ answer_of (PowerUp choices) c xs m)
    × (xs' ≡ answer_array (PowerUp choices) c xs m)
    × (m' ≡ answer_map (PowerUp choices) c xs m)
    × (b' ≡ unless (status_of r) b (bytes_of left)))
    → MapPowerUpSays b xs m choices (status_of r) b' xs' m' 1
unfolding power_up_number unless
map_power_up_says b xs m choices (Err e) r b' xs' m' loads refused acted =
    let s = refused e refl in
    let number : status_of r ≡ with_map (unfit xs) m = ap status_of s.0 ∙ loads.1 in
    record {
      returned = simp (loads.0, number);
      state = simp (loads.0, s.1, unfit_map_taken);
      array = simp (loads.0, s.2, unfit_map_taken);
      map = simp (loads.0, s.3, unfit_map_taken);
      answered = refl;
    }
map_power_up_says b xs m choices (Ok c) r b' xs' m' loads refused acted =
    let s = acted c refl in
    let told = answer_told r s.0 in
    map_powered _ _ _ _ _ _ _ _ _ _ loads.0 loads.1 s.1 s.2 s.3 (sym told.0) (simp (told.0, told.1, s.4))

-- what a recovery told, by what it stands for
recovered_told :
    (r : Result ℕ Refusal) (c : Chip)
    → (status_of r ≡ (recovered_as r c).refusal) × (pulses_told r ≡ (recovered_as r c).pulses) × (c ≡ (recovered_as r c).chip)
recovered_told (Ok pulses) c = (refl, refl, refl)
recovered_told (Err e) c = (refl, refl, refl)

-- a recovery
pub recover_says :
    (b xs : List ℕ) (pin : ℕ) (loaded : Result Chip Refusal) (r : Result ℕ Refusal) (b' xs' : List ℕ)
    → Loads b (unfit xs) loaded
    → ((e : Refusal) → loaded ≡ Err e → (r ≡ Err e) × (b' ≡ b) × (xs' ≡ xs))
    → ((c : Chip)
    → loaded ≡ Ok c
    → (left : Chip)
    × (recovered_as r left ≡ recovery_answer (pin_of pin) c xs)
    × (xs' ≡ recovery_array (pin_of pin) c xs)
    × (b' ≡ unless (status_of r) b (bytes_of left)))
    → RecoverSays b xs pin (status_of r) b' xs' (pulses_told r)
unfolding recover_number unless
recover_says b xs pin (Err e) r b' xs' loads refused acted =
    let s = refused e refl in
    let number : status_of r ≡ unfit xs = ap status_of s.0 ∙ loads.1 in
    record {
      returned = simp (loads.0, number);
      state = simp (loads.0, s.1, unfit_taken);
      array = simp (loads.0, s.2);
      pulsed = simp (loads.0, s.0);
    }
recover_says b xs pin (Ok c) r b' xs' loads refused acted =
    let s = acted c refl in
    let chip = sym loads.1 in
    let told = recovered_told r s.0 in
    let number = told.0 ∙ ap (λ (a : Recovered). a.refusal) s.1 in
    let left = told.2 ∙ ap (λ (a : Recovered). a.chip) s.1 in
    let pulses = told.1 ∙ ap (λ (a : Recovered). a.pulses) s.1 in
    record {
      returned = simp (loads.0, chip, number);
      state = simp (loads.0, chip, s.3, number, left);
      array = simp (loads.0, chip, s.2);
      pulsed = simp (loads.0, chip, pulses);
    }
