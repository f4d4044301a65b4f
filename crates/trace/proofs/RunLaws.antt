-- The turns of the loop over a trace, as laws of what is left of it, and a trace in parts. Assumes nothing.
use Prim.Native.Nat.{ℕ, suc, ◌+◌, ◌-◌, ◌≤◌, ◌<◌}
use mathlib.Core.Bool.{Bool, true, false, cond}
use mathlib.Core.Path.{◌≡◌, refl, sym, ap, ap₂, ◌∙◌}
use mathlib.Core.List.{List, [], ◌∷◌, ◌++◌, map, map-append, append-nil, append_assoc}
use native.Mathlib.Numerals.{add-one}
use native.Mathlib.Omega.{arith}
use borrow.Author.Tests.{eq-eqb, ne_eqb, le-leb, leb-true, eqb-false}
use lib.Dec.{leb, eqb}
use lib.ListN.{length, get_or, set, take, drop, length-set, length-append, length-drop, drop_of_length-le, take-append-drop}
use lib.Seq.{drop-cons, drop-drop, drop-set-lt, drop_at, length-take-le, take_at, take-suc-set}
use Rattle.parts.specs.Rows.{stepped}
use Rattle.parts.proofs.RowLaws.{stepped_on}
use Rattle.chip.specs.Event.{next, next_array, refusal}
use Rattle.chip.specs.Run.{World, world, step, note_of, ran}
use Rattle.chip.specs.declared.chip.Chip.{Chip}
use Rattle.chip.specs.declared.wire.Event.{Event}
use Rattle.trace.specs.Bytes.{event_of, all_events, answer_byte}
use Rattle.refusals.specs.declared.Refusal.{Refusal}
use Rattle.refusals.proofs.Numbers.{same_status}
use Rattle.std.specs.Prelude.{Result}
use Rattle.trace.specs.Trace.{after, answers_of, run_refusal, unless, Ran, ran_of, ran_as, run_array, run_answers}

-- after i events: the rest of the trace leads where the whole leads, the answers so far and those to come are the whole's,
-- and the answer bytes past them are as they were
pub record Going (bytes old : List ℕ) (w : World) (i : ℕ) (c : Chip) (xs told : List ℕ) : Type 0 where
  pub within : i ≤ length bytes
  pub room : length told ≡ length old
  pub here : after (drop i bytes) (world c xs) ≡ after bytes w
  pub said : take i told ++ answers_of (drop i bytes) (world c xs) ≡ answers_of bytes w
  pub rest : drop i told ≡ drop i old

module _ (bytes old : List ℕ) (w : World) where
  pub going_begins : Going bytes old w 0 w.chip w.array old
  going_begins = record { within = omega arith; room = refl; here = refl; said = refl; rest = refl }

module _ (bytes old : List ℕ) (w : World) (i : ℕ) (c : Chip) (xs told : List ℕ) (g : Going bytes old w i c xs told) where
  -- one event more, with its answer byte
  pub going_again :
      i < length bytes
      → i < length told
      → Going bytes old w (i + 1) (next (event_of (get_or bytes i 0)) c xs).chip (next_array (event_of (get_or bytes i 0)) c xs)
      (set told i (answer_byte (next (event_of (get_or bytes i 0)) c xs).chip.line (next (event_of (get_or bytes i 0)) c xs).note))
  unfolding after answers_of stepped step note_of
  going_again h r =
      record {
        within = omega arith;
        room = length-set told i _ ∙ g.room;
        here = rw add-one (ap (λ (l : List ℕ). after l (world c xs)) (sym (drop-cons bytes i 0 h)) ∙ g.here);
        said =
            rw (add-one, take-suc-set, append_assoc)
            (ap (λ (l : List ℕ). take i told ++ answers_of l (world c xs)) (sym (drop-cons bytes i 0 h)) ∙ g.said);
        rest =
            drop-set-lt (i + 1) told i _ (omega arith)
            ∙ sym (drop-drop 1 i told)
            ∙ ap (λ (l : List ℕ). drop 1 l) g.rest
            ∙ drop-drop 1 i old;
      }

  -- the trace is at its end
  pub going_ends : length bytes ≤ i → (world c xs ≡ after bytes w) × (told ≡ answers_of bytes w ++ drop (length bytes) old)
  unfolding after answers_of stepped
  going_ends h =
      let nothing : [] ≡ drop i bytes = sym (drop_of_length-le bytes h) in
      let whole : i ≡ length bytes = omega arith in
      let all : take i told ≡ answers_of bytes w =
      sym (append-nil (take i told)) ∙ ap (λ (l : List ℕ). take i told ++ answers_of l (world c xs)) nothing ∙ g.said in (
        ap (λ (l : List ℕ). after l (world c xs)) nothing ∙ g.here,
        sym (take-append-drop i told) ∙ ap₂ (λ (a b : List ℕ). a ++ b) all (g.rest ∙ ap (λ (n : ℕ). drop n old) whole),
      )

-- a trace in two parts leads where the second leads from the first's end
pub after_on : (first second : List ℕ) (w : World) → after (first ++ second) w ≡ after second (after first w)
unfolding after
after_on first second w = ap (λ (es : List Event). ran es w) (map-append event_of first second) ∙ stepped_on step (map event_of first) (map event_of second) w

-- and answers what both do
pub answers_on : (first second : List ℕ) (w : World) → answers_of (first ++ second) w ≡ answers_of first w ++ answers_of second (after first w)
unfolding answers_of after stepped
answers_on [] second w = refl
answers_on (byte ∷ first) second w = ap (λ (rest : List ℕ). answer_byte (step (event_of byte) w).chip.line (note_of (event_of byte) w) ∷ rest) (answers_on first second (step (event_of byte) w))

-- with an answer byte for each event
pub length_answers : (bytes : List ℕ) (w : World) → length (answers_of bytes w) ≡ length bytes
unfolding answers_of
length_answers [] w = refl
length_answers (byte ∷ bytes) w = ap suc (length_answers bytes (step (event_of byte) w))

-- the next n events of the trace, run as a whole, with their answers in the place of as many bytes
module _ (bytes old : List ℕ) (w : World) (i n : ℕ) (c : Chip) (xs told : List ℕ) (g : Going bytes old w i c xs told) (last : i + n ≤ length bytes) (room : i + n ≤ length told) where
  abbrev part : List ℕ
  part = take n (drop i bytes)

  abbrev said_so : List ℕ
  said_so = take i told ++ answers_of part (world c xs)

  -- what is left is the part and what comes behind it
  pub part_and_rest : part ++ drop (i + n) bytes ≡ drop i bytes
  part_and_rest = ap (λ (l : List ℕ). part ++ l) (sym (drop-drop n i bytes)) ∙ take-append-drop n (drop i bytes)

  -- the answers so far reach its end
  said_length : length said_so ≡ i + n
  said_length =
      let left : length (drop i bytes) ≡ length bytes - i = length-drop i bytes in
      let so_far : length (take i told) ≡ i = length-take-le i told (omega arith) in
      let more : length (answers_of part (world c xs)) ≡ n = length_answers part (world c xs) ∙ length-take-le n (drop i bytes) (omega arith) in
      length-append (take i told) (answers_of part (world c xs)) ∙ omega arith

  -- behind them nothing is written
  pub told_rest : take i told ++ (answers_of part (world c xs) ++ drop n (drop i told)) ≡ said_so ++ drop (i + n) told
  told_rest = ap (λ (l : List ℕ). take i told ++ (answers_of part (world c xs) ++ l)) (drop-drop n i told) ∙ sym (append_assoc (take i told) (answers_of part (world c xs)) (drop (i + n) told))

  pub going_on : Going bytes old w (i + n) (after part (world c xs)).chip (after part (world c xs)).array (take i told ++ (answers_of part (world c xs) ++ drop n (drop i told)))
  going_on =
      rw told_rest
      (record {
        within = last;
        room = length-append said_so (drop (i + n) told) ∙ (rw (said_length, length-drop (i + n) told) (omega (arith, g.room)));
        here = sym (after_on part (drop (i + n) bytes) (world c xs)) ∙ ap (λ (l : List ℕ). after l (world c xs)) part_and_rest ∙ g.here;
        said =
            ap (λ (l : List ℕ). l ++ answers_of (drop (i + n) bytes) (after part (world c xs))) (take_at said_so (drop (i + n) told) (i + n) said_length)
            ∙ append_assoc (take i told) (answers_of part (world c xs)) (answers_of (drop (i + n) bytes) (after part (world c xs)))
            ∙ ap (λ (l : List ℕ). take i told ++ l) (sym (answers_on part (drop (i + n) bytes) (world c xs)) ∙ ap (λ (l : List ℕ). answers_of l (world c xs)) part_and_rest)
            ∙ g.said;
        rest =
            drop_at said_so (drop (i + n) told) (i + n) said_length
            ∙ sym (drop-drop n i told)
            ∙ ap (λ (l : List ℕ). drop n l) g.rest
            ∙ drop-drop n i old;
      })

-- not refused, it is what the run leaves
pub unless_zero {ℓ} : {A : Type ℓ} (number : ℕ) (kept run : A) → number ≡ 0 → unless number kept run ≡ run
unfolding unless
unless_zero number kept run z = rw (eq-eqb number 0 z)

-- refused, it is kept
pub unless_not {ℓ} : {A : Type ℓ} (number : ℕ) (kept run : A) → (number ≡ 0 → ⊥) → unless number kept run ≡ kept
unfolding unless
unless_not number kept run n = rw (ne_eqb number 0 n)

-- a trace that is not refused has room for its answers
room_of : (n : ℕ) (a b c d : Bool) → eqb n 0 ≡ a → cond a (cond b (cond c (cond d 0 6) 5) 4) n ≡ 0 → c ≡ true
room_of n true true true d e h = refl
room_of n true true false d e h = absurd (omega arith)
room_of n true false c d e h = absurd (omega arith)
room_of n false b c d e h = absurd (eqb-false n 0 e h)

pub run_room : (c : Chip) (xs bytes : List ℕ) (room : ℕ) → run_refusal c xs bytes room ≡ 0 → length bytes ≤ room
unfolding run_refusal
run_room c xs bytes room h =
    leb-true (length bytes) room
    (room_of (refusal c xs) (eqb (refusal c xs) 0) (leb (length bytes) 65536) (leb (length bytes) room) (all_events bytes) refl h)

-- a chip in range over a whole array takes every row of event bytes that is short enough and has room
module _ (c : Chip) (xs bytes old : List ℕ) (taken : refusal c xs ≡ 0) (few : length bytes ≤ 65536) (fits : length bytes ≤ length old) (events : all_events bytes ≡ true) where
  -- refused with nothing
  pub run_taken : (ran_of c xs bytes old).refusal ≡ 0
  unfolding ran_of run_refusal
  run_taken = rw (taken, le-leb _ _ few, le-leb _ _ fits, events)

  -- it is left as the events leave it
  pub run_whole : world (ran_of c xs bytes old).chip (run_array c xs bytes old) ≡ after bytes (world c xs)
  unfolding ran_of run_array unless run_refusal
  run_whole = rw (taken, le-leb _ _ few, le-leb _ _ fits, events)

  -- with an answer byte for each
  pub run_answers_law : run_answers c xs bytes old ≡ answers_of bytes (world c xs) ++ drop (length bytes) old
  unfolding run_answers unless run_refusal
  run_answers_law = rw (taken, le-leb _ _ few, le-leb _ _ fits, events)

-- what a run stands for has its whole answer, and the chip that it left
pub same_ran : (a b : Result (Unit {0}) Refusal) {c d : Chip} → ran_as a c ≡ ran_as b d → (a ≡ b) × (c ≡ d)
same_ran a b e = (same_status a b (ap (λ (r : Ran). r.refusal) e), ap (λ (r : Ran). r.chip) e)
