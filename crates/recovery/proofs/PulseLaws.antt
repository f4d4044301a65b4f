-- The turns of the loop of pulses: pulse k ends it where the line is high, or is the tenth, or leads to the next. Assumes nothing.
use Prim.Native.Nat.{ℕ, zero, suc, ◌+◌, ◌-◌, ◌<◌}
use mathlib.Core.Bool.{Bool, true, false}
use mathlib.Core.Path.{◌≡◌, refl, ap, ◌∙◌}
use mathlib.Core.List.{List, [], ◌∷◌}
use native.Mathlib.Omega.{arith}
use lib.ListN.{length}
use Rattle.std.specs.Prelude.{Result, Ok, Err}
use Rattle.std.specs.Result.{IsOk}
use Rattle.refusals.specs.declared.Refusal.{Refusal}
use Rattle.refusals.proofs.Numbers.{never_0}
use Rattle.parts.proofs.CondLaws.{cond_by}
use Rattle.parts.specs.Rows.{every, stepped}
use Rattle.chip.specs.Event.{refusal}
use Rattle.chip.specs.Run.{World, world, step}
use Rattle.chip.specs.Wire.{sample}
use Rattle.chip.specs.declared.chip.Chip.{Chip}
use Rattle.chip.proofs.RunLaws.{ran_taken}
use Rattle.trace.specs.Bytes.{all_events}
use Rattle.trace.specs.Trace.{Ran, after, ran_of, ran_as, run_array}
use Rattle.trace.proofs.ByteLaws.{sample_event, sample_taken}
use Rattle.trace.proofs.RunLaws.{run_taken, run_whole}
use Rattle.recovery.specs.Recovery.{Freed, pulse, pulsed, freed, pulse_bytes, start_bytes}

module _ (pin : Bool) (w : World) where
  abbrev pub freed_at : ℕ → Freed
  freed_at k = record { world = pulse pin w; pulses = k }

  -- a pulse that leaves the line high is the last, however many were left
  pub pulsed_high : (left k : ℕ) → (pulse pin w).chip.line ≡ true → pulsed left k pin w ≡ freed_at k
  unfolding pulsed
  pulsed_high zero k high = refl
  pulsed_high (suc left) k high = rw high

  -- a pulse before the tenth that leaves it low leads to the next
  pub pulsed_low : (k : ℕ) → k < 10 → (pulse pin w).chip.line ≡ false → pulsed (10 - k) k pin w ≡ pulsed (10 - (k + 1)) (k + 1) pin (pulse pin w)
  unfolding pulsed
  pulsed_low k h low =
      let one : 10 - k ≡ suc (10 - (k + 1)) = omega arith in
      rw (one, low)

  -- the tenth is the last
  pub pulsed_tenth : (k : ℕ) → k ≡ 10 → pulsed (10 - k) k pin w ≡ freed_at 10
  unfolding pulsed
  pulsed_tenth k tenth = rw tenth

-- the event bytes of a pulse, and of the start, are event bytes and make the same world
pub pulse_events : (pin : Bool) → all_events (pulse_bytes pin) ≡ true
unfolding every
pulse_events pin = rw (sample_taken false true pin, sample_taken true true pin)

pub pulse_trace : (pin : Bool) (w : World) → after (pulse_bytes pin) w ≡ pulse pin w
unfolding after stepped pulse
pulse_trace pin w = rw (sample_event false true pin, sample_event true true pin)

pub start_events : (pin : Bool) → all_events (start_bytes pin) ≡ true
unfolding every
start_events pin = rw (sample_taken true false pin)

pub start_trace : (pin : Bool) (w : World) → after (start_bytes pin) w ≡ step (sample true false pin) w
unfolding after stepped
start_trace pin w = rw (sample_event true false pin)

-- so a run of them is not refused, and does a pulse, and the start
module _ (pin : Bool) (c : Chip) (xs old : List ℕ) (taken : refusal c xs ≡ 0) where
  pub pulse_runs : length old ≡ 2 → (ran_of c xs (pulse_bytes pin) old).refusal ≡ 0
  pulse_runs two = run_taken c xs (pulse_bytes pin) old taken (omega arith) (omega arith) (pulse_events pin)

  pub run_pulse : length old ≡ 2 → world (ran_of c xs (pulse_bytes pin) old).chip (run_array c xs (pulse_bytes pin) old) ≡ pulse pin (world c xs)
  run_pulse two =
      run_whole c xs (pulse_bytes pin) old taken (omega arith) (omega arith) (pulse_events pin) ∙ pulse_trace pin (world c xs)

  pub start_runs : length old ≡ 1 → (ran_of c xs (start_bytes pin) old).refusal ≡ 0
  start_runs one = run_taken c xs (start_bytes pin) old taken (omega arith) (omega arith) (start_events pin)

  pub run_start : length old ≡ 1 → world (ran_of c xs (start_bytes pin) old).chip (run_array c xs (start_bytes pin) old) ≡ step (sample true false pin) (world c xs)
  run_start one =
      run_whole c xs (start_bytes pin) old taken (omega arith) (omega arith) (start_events pin) ∙ start_trace pin (world c xs)

-- a run that stands for one of number 0 is taken
pub ran_ok : (told : Result (Unit {0}) Refusal) (c : Chip) (ran : Ran) → ran_as told c ≡ ran → ran.refusal ≡ 0 → IsOk told
ran_ok (Ok _) c ran e z = refl
ran_ok (Err why) c ran e z = absurd (never_0 why (ap (λ (r : Ran). r.refusal) e ∙ z))

-- a world that is not refused stays so over a pulse, and over all of them
pub pulse_taken : (pin : Bool) (w : World) → refusal w.chip w.array ≡ 0 → refusal (pulse pin w).chip (pulse pin w).array ≡ 0
unfolding pulse stepped
pulse_taken pin w taken = ran_taken (sample false true pin ∷ sample true true pin ∷ []) w taken

pub pulsed_taken : (left k : ℕ) (pin : Bool) (w : World) → refusal w.chip w.array ≡ 0 → refusal (pulsed left k pin w).world.chip (pulsed left k pin w).world.array ≡ 0
unfolding pulsed
pulsed_taken zero k pin w taken = pulse_taken pin w taken
pulsed_taken (suc left) k pin w taken =
    cond_by (λ (f : Freed). refusal f.world.chip f.world.array ≡ 0) (pulse pin w).chip.line _ _
    (λ high. pulse_taken pin w taken)
    (λ low. pulsed_taken left (k + 1) pin (pulse pin w) (pulse_taken pin w taken))

-- so does a chip with its array that stands where they end
pub freed_taken : (pin : Bool) (c d : Chip) (xs ys : List ℕ) → world d ys ≡ (freed pin (world c xs)).world → refusal c xs ≡ 0 → refusal d ys ≡ 0
freed_taken pin c d xs ys e taken = ap (λ (w : World). refusal w.chip w.array) e ∙ pulsed_taken 9 1 pin (world c xs) taken
