-- A trace of one event byte, without a map and with one: its refusal and what it leaves are those of the event. Assumes nothing.
use Prim.Native.Nat.{ℕ}
use mathlib.Core.Bool.{Bool, true, false, cond, and-true}
use mathlib.Core.Path.{◌≡◌, refl, ap, ◌∙◌}
use mathlib.Core.List.{List, [], ◌∷◌}
use lib.Dec.{eqb}
use lib.ListN.{get_or}
use Rattle.parts.specs.Rows.{every, stepped}
use Rattle.chip.specs.Event.{refusal}
use Rattle.chip.specs.Run.{step, note_of}
use Rattle.chip.specs.declared.chip.Chip.{Chip}
use Rattle.trace.specs.Bytes.{is_event}
use Rattle.trace.specs.Trace.{after, answers_of, run_refusal, unless, ran_of, run_array, run_answers}
use Rattle.map.specs.Keeping.{kept_over, trace_refusal, trace_ran, trace_array, trace_map, trace_answers}
use Rattle.map.specs.Sectors.{with_map}
use Rattle.crepulanter.specs.Calls.{unfit, checked, event_refusal, run_number, EventSays, RunSays}
use Rattle.crepulanter.specs.Maps.{MapEventSays, MapRunSays}
use Rattle.chip_bytes.specs.State.{bytes_fit, chip_of, bytes_of}
use Rattle.crepulanter.proofs.Answers.{unless_inner}
use Rattle.crepulanter.proofs.Refusals.{unfit_taken, unfit_map_taken}

-- the first byte of what is left
first_of : (number : ℕ) (kept run : List ℕ) → get_or (unless number kept run) 0 0 ≡ unless number (get_or kept 0 0) (get_or run 0 0)
unfolding unless
first_of number kept run = go (eqb number 0)
  where
    go : (taken : Bool) → get_or (cond taken run kept) 0 0 ≡ cond taken (get_or run 0 0) (get_or kept 0 0)
    go true = refl
    go false = refl

module _ (b xs : List ℕ) (event : ℕ) where
  -- the refusal of the trace and of the event, by the chip
  abbrev of_trace : ℕ
  of_trace = run_refusal (chip_of b) xs (event ∷ []) 1

  abbrev of_event : ℕ
  of_event = checked (refusal (chip_of b) xs) event

  -- it is one
  one_refusal : of_trace ≡ of_event
  unfolding run_refusal every
  one_refusal = rw (and-true (is_event event))

  -- by the bytes, and by what a call makes of it, which refuses bytes that no chip has
  module _ (made : ℕ → ℕ) (bad : eqb (made (unfit xs)) 0 ≡ false) where
    one_number : made (run_number b xs (event ∷ []) (1 ∷ [])) ≡ made (event_refusal b xs event)
    unfolding run_number event_refusal ran_of
    one_number = rw one_refusal

    -- what is left in a buffer
    one_left : {A : Type 0} (kept run : A) → cond (bytes_fit b) (unless (made of_trace) kept run) kept ≡ unless (made (event_refusal b xs event)) kept run
    unfolding event_refusal unless
    one_left kept run = go (bytes_fit b)
      where
        go : (fit : Bool) → cond fit (unless (made of_trace) kept run) kept ≡ unless (made (cond fit of_event (unfit xs))) kept run
        go true = rw one_refusal
        go false = rw bad

    -- and in the chip's bytes
    one_state :
        (last : Chip)
        → unless (made (run_number b xs (event ∷ []) (1 ∷ []))) b (bytes_of (unless (made of_trace) (chip_of b) last))
        ≡ unless (made (event_refusal b xs event)) b (bytes_of last)
    unfolding event_refusal unless
    one_state last = rw (one_number, one_refusal) (go (bytes_fit b))
      where
        number : Bool → ℕ
        number fit = made (cond fit of_event (unfit xs))

        go : (fit : Bool) → unless (number fit) b (bytes_of (unless (made of_event) (chip_of b) last)) ≡ unless (number fit) b (bytes_of last)
        go true = unless_inner bytes_of (made of_event) b (chip_of b) last
        go false = rw bad

-- so what a call says of such a trace, it says of the event
pub run_event :
    (b xs : List ℕ) (event r : ℕ) (b' xs' told : List ℕ)
    → RunSays b xs (event ∷ []) (1 ∷ []) r b' xs' told
    → EventSays b xs event r b' xs' (get_or told 0 0)
unfolding ran_of run_array run_answers after answers_of stepped step note_of
run_event b xs event r b' xs' told s =
    let same : ℕ → ℕ = λ n. n in
    let bad = unfit_taken xs in
    record {
      returned = s.returned ∙ one_number b xs event same bad;
      state = s.state ∙ one_state b xs event same bad _;
      array = s.array ∙ one_left b xs event same bad xs _;
      answered = ap (λ (l : List ℕ). get_or l 0 0) (s.answers ∙ one_left b xs event same bad (1 ∷ []) _) ∙ first_of _ (1 ∷ []) _;
    }

-- and with a map
pub map_run_event :
    (b xs m : List ℕ) (event r : ℕ) (b' xs' m' told : List ℕ)
    → MapRunSays b xs m (event ∷ []) (1 ∷ []) r b' xs' m' told
    → MapEventSays b xs m event r b' xs' m' (get_or told 0 0)
unfolding trace_ran trace_array trace_map trace_answers trace_refusal kept_over after answers_of stepped step note_of
map_run_event b xs m event r b' xs' m' told s =
    let with-map : ℕ → ℕ = λ n. with_map n m in
    let bad = unfit_map_taken xs m in
    record {
      returned = s.returned ∙ one_number b xs event with-map bad;
      state = s.state ∙ one_state b xs event with-map bad _;
      array = s.array ∙ one_left b xs event with-map bad xs _;
      map = s.map ∙ one_left b xs event with-map bad m _;
      answered = ap (λ (l : List ℕ). get_or l 0 0) (s.answers ∙ one_left b xs event with-map bad (1 ∷ []) _) ∙ first_of _ (1 ∷ []) _;
    }
