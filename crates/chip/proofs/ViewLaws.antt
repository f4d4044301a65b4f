-- The view of an event, and what it says at once: the array keeps its length, a sample that is no stop begins nothing, and what each note means.
-- Assumes nothing.
use Prim.Native.Nat.{ℕ, ◌≤◌}
use mathlib.Core.Bool.{Bool, true, false, cond, ◌||◌, false≢true}
use mathlib.Core.Path.{◌≡◌, refl, sym, ap, ◌∙◌}
use mathlib.Core.List.{List}
use native.Mathlib.Decide.{ℕ_discrete}
use native.Mathlib.Omega.{arith}
use borrow.Author.Tests.{eqb-true}
use lib.Dec.{eqb}
use lib.ListN.{length, get_or}
use Rattle.parts.specs.Register.{Written}
use Rattle.parts.specs.Load.{full_of}
use Rattle.parts.specs.declared.register.Register.{Register}
use Rattle.parts.specs.Wait.{every_place, waits}
use Rattle.parts.specs.declared.wait.Wait.{Wait}
use Rattle.parts.proofs.CondLaws.{cond_false}
use Rattle.parts.proofs.RegisterLaws.{Noted, written_noted}
use Rattle.chip.specs.Event.{next, next_array}
use Rattle.chip.specs.Part.{partial}
use Rattle.chip.specs.Stop.{effect_moved}
use Rattle.chip.specs.View.{is_sample, pin_high, stops, mute, byte_written, Untouched, Changed, Cycled, Told, Did, DidBy}
use Rattle.chip.specs.View.Did.{nothing, finish, clear, change, store, spoil}
use Rattle.chip.specs.declared.chip.Chip.{Chip}
use Rattle.chip.specs.declared.wire.Event.{Event}
use Rattle.chip.specs.declared.wire.Event.TheVariants.{Sample, ProgramDone, PowerUp}
use Rattle.chip.specs.declared.wire.Sample.{Sample as Levels}
use Rattle.chip.proofs.CutLaws.{cut_length}
use Rattle.chip.proofs.StepLaws.{next_by}

-- the view of an event: other laws go by its cases
pub view : (e : Event) (c : Chip) (xs : List ℕ) → DidBy e c xs
unfolding effect_moved
view e c xs =
    next_by (λ m ys. Did e c xs m.chip.register m.chip.busy m.chip.wait m.note ys) e c xs
    (λ m ys scl line did. did)
    (λ phase counter mark load note m. nothing (record { array = refl; register = refl; same = refl; waiting = refl; silent = m.silent }))
    (λ stopped marks. change (record { stopped = stopped; marks = marks; array = refl; register = refl; began = refl; waiting = refl; said = refl }))
    (λ short counted stopped writable. began short counted (record { stopped = stopped; writable = writable; array = refl; register = refl; began = refl; waiting = refl })) (
      λ event busy. finish (record { event = event; cycle = busy; array = refl; register = refl; ended = refl; waiting = refl; silent = refl }),
      λ event. clear (record { event = event; array = refl; register = refl; ended = refl; waiting = refl; silent = refl }),
    )
  where
    began : (short : Bool) → partial c.part c.load.count ≡ short → {after : Register} {busy : Bool} {wait : Wait} {ys : List ℕ}
        → Cycled e c xs (cond short (full_of c.spoil) c.load) after busy wait ys → Did e c xs after busy wait (cond short 5 1) ys
    began true short cycle = spoil (record { short = short; cycle = cycle; said = refl })
    began false whole cycle = store (record { whole = whole; cycle = cycle; said = refl })

-- a note that says nothing of a write is at most 7
mute_most : (note : ℕ) → mute note ≡ true → note ≤ 7
unfolding mute
mute_most note h = go (eqb note 0) (eqb note 4) (eqb note 7) refl refl refl h
  where
    go : (a b c : Bool) → eqb note 0 ≡ a → eqb note 4 ≡ b → eqb note 7 ≡ c → (a || b || c) ≡ true → note ≤ 7
    go true b c e f g h = omega (arith, eqb-true note 0 e)
    go false true c e f g h = omega (arith, eqb-true note 4 f)
    go false false true e f g h = omega (arith, eqb-true note 7 g)
    go false false false e f g h = absurd (false≢true h)

-- and so is a register byte's
noted_most : {r : Register} {w : Written} → Noted r w → w.note ≤ 7
noted_most {w = w} noted = go (ℕ_discrete w.note 2) (ℕ_discrete w.note 3)
  where
    go : Dec (w.note ≡ 2) → Dec (w.note ≡ 3) → w.note ≤ 7
    go (yes e) three = omega arith
    go (no e) (yes f) = omega arith
    go (no e) (no f) = omega (arith, noted.only e f)

module _ {e : Event} {c : Chip} {xs : List ℕ} {after : Register} {busy : Bool} {wait : Wait} {note : ℕ} {ys : List ℕ} where
  -- what a register byte's note says
  changed_noted : Changed e c xs after busy wait note ys → Noted c.register (byte_written e c)
  changed_noted d = written_noted c.register (get_or c.load.bytes 0 0) (pin_high e)

  -- note 0 says none of these
  silent : note ≡ 0 → Told e c xs after busy wait note ys
  silent n =
      record {
        one = λ m. absurd (omega arith);
        two = λ m. absurd (omega arith);
        three = λ m. absurd (omega arith);
        five = λ m. absurd (omega arith);
        more = λ m. absurd (omega arith);
      }

  -- what waits stays where a register byte lets nothing wait
  same_wait : Changed e c xs after busy wait note ys → waits (byte_written e c).target ≡ false → wait ≡ c.wait
  same_wait d none = d.waiting ∙ cond_false (waits (byte_written e c).target) _ _ none

  -- what a note says
  did_told : Did e c xs after busy wait note ys → Told e c xs after busy wait note ys
  unfolding mute
  did_told (nothing d) =
      record {
        one = λ n. absurd (false≢true (rw n at d.silent));
        two = λ n. absurd (false≢true (rw n at d.silent));
        three = λ n. absurd (false≢true (rw n at d.silent));
        five = λ n. absurd (false≢true (rw n at d.silent));
        more = λ n other. record { array = d.array; register = d.register; same = d.same; waiting = d.waiting };
      }
  did_told (finish d) = silent d.silent
  did_told (clear d) = silent d.silent
  did_told (change d) =
      let noted : Noted c.register (byte_written e c) = changed_noted d in
      let told : note ≡ (byte_written e c).note = d.said in
      record {
        one = λ n. absurd (omega (arith, noted.only (λ two. omega arith) (λ three. omega arith)));
        two = λ n. (d, ap (λ (r : Register). r.rpel) d.register ∙ (noted.two (sym told ∙ n)).0, ap (λ (r : Register). r.pel) d.register ∙ (noted.two (sym told ∙ n)).1, d.began ∙ (noted.two (sym told ∙ n)).2);
        three = λ n. (d, d.began ∙ noted.three (sym told ∙ n));
        five = λ n. absurd (omega (arith, noted.only (λ two. omega arith) (λ three. omega arith)));
        more = λ n other.
            let six : (byte_written e c).note ≡ 6 = noted.only (λ two. omega arith) (λ three. omega arith) in
            record {
              array = d.array;
              register = d.register ∙ (noted.six six).0;
              same = d.began ∙ (noted.six six).1 ∙ sym d.stopped.idle;
              waiting = same_wait d (noted.six six).1;
            };
      }
  did_told (store d) =
      record {
        one = λ n. d;
        two = λ n. absurd (omega (arith, d.said));
        three = λ n. absurd (omega (arith, d.said));
        five = λ n. absurd (omega (arith, d.said));
        more = λ n. absurd (omega (arith, d.said));
      }
  did_told (spoil d) =
      record {
        one = λ n. absurd (omega (arith, d.said));
        two = λ n. absurd (omega (arith, d.said));
        three = λ n. absurd (omega (arith, d.said));
        five = λ n. d;
        more = λ n other. absurd (other d.said);
      }

  -- what the view says of a sample that is no stop
  did_unstopped : (s : Levels) → e ≡ Sample s → stops e c ≡ false → Did e c xs after busy wait note ys → Untouched c xs after busy wait ys
  unfolding is_sample
  did_unstopped s here other (nothing d) = record { array = d.array; register = d.register; same = d.same; waiting = d.waiting }
  did_unstopped s here other (finish d) = absurd (false≢true (sym (ap is_sample d.event) ∙ ap is_sample here))
  did_unstopped s here other (clear d) = absurd (false≢true (sym (ap is_sample d.event) ∙ ap is_sample here))
  did_unstopped s here other (change d) = absurd (false≢true (sym other ∙ d.stopped.stop))
  did_unstopped s here other (store d) = absurd (false≢true (sym other ∙ d.cycle.stopped.stop))
  did_unstopped s here other (spoil d) = absurd (false≢true (sym other ∙ d.cycle.stopped.stop))

  -- no note is above 7
  did_note : Did e c xs after busy wait note ys → note ≤ 7
  did_note (nothing d) = mute_most note d.silent
  did_note (finish d) = omega (arith, d.silent)
  did_note (clear d) = omega (arith, d.silent)
  did_note (change d) = omega (arith, d.said, noted_most (changed_noted d))
  did_note (store d) = omega (arith, d.said)
  did_note (spoil d) = omega (arith, d.said)

-- an event keeps the array's length
pub next_length : (e : Event) (c : Chip) (xs : List ℕ) → length (next_array e c xs) ≡ length xs
unfolding next_array
next_length (Sample s) c xs = refl
next_length ProgramDone c xs = cut_length every_place c xs
next_length (PowerUp choices) c xs = cut_length choices c xs

-- no event has a note above 7
pub next_note : (e : Event) (c : Chip) (xs : List ℕ) → (next e c xs).note ≤ 7
next_note e c xs = did_note (view e c xs)

-- the note of an event says what it did
pub next_told : (e : Event) (c : Chip) (xs : List ℕ) → Told e c xs (next e c xs).chip.register (next e c xs).chip.busy (next e c xs).chip.wait (next e c xs).note (next_array e c xs)
next_told e c xs = did_told (view e c xs)

-- a sample that is no stop changes none of these
pub unstopped : (s : Levels) (c : Chip) (xs : List ℕ) → stops (Sample s) c ≡ false → Untouched c xs (next (Sample s) c xs).chip.register (next (Sample s) c xs).chip.busy (next (Sample s) c xs).chip.wait (next_array (Sample s) c xs)
unstopped s c xs other = did_unstopped s refl other (view (Sample s) c xs)
