-- A trace run piece by piece keeps its map: what is left of it leads where the whole leads. Assumes nothing.
use Prim.Native.Nat.{ℕ, zero, suc, ◌+◌, ◌-◌, ◌≤◌, ◌<◌}
use mathlib.Core.Bool.{Bool, true}
use mathlib.Core.List.{List, [], ◌∷◌, ◌++◌, map, map-append}
use mathlib.Core.Path.{◌≡◌, refl, sym, ap, subst, ◌∙◌}
use native.Mathlib.Omega.{arith}
use lib.ListN.{length, take, drop, drop_of_length-le, length-drop}
use lib.Seq.{length-take-le}
use Rattle.parts.specs.Rows.{every, stepped}
use Rattle.parts.specs.declared.wait.Target.{Target}
use Rattle.parts.specs.declared.wait.Target.TheVariants.{None, Sector, Locks}
use Rattle.parts.proofs.CondLaws.{and_left, and_right}
use Rattle.chip.specs.Event.{refusal}
use Rattle.chip.specs.Run.{World, world, step, ran}
use Rattle.chip.specs.View.{samples}
use Rattle.chip.specs.declared.chip.Chip.{Chip}
use Rattle.chip.specs.declared.wire.Event.{Event}
use Rattle.chip.proofs.RunLaws.{ran_taken}
use Rattle.trace.specs.Bytes.{event_of, is_event, all_events}
use Rattle.trace.specs.Trace.{after, answers_of}
use Rattle.trace.proofs.RunLaws.{Going, going_begins, going_on, going_ends, part_and_rest}
use Rattle.map.specs.Keeping.{ended, entered_for, kept, kept_over, Taken, Piece}
use Rattle.map.proofs.MapLaws.{entered_length}

-- a map over two rows of events, one after the other
pub kept_on : (first second : List Event) (w : World) (m : List ℕ) → kept_over (first ++ second) w m ≡ kept_over second (ran first w) (kept_over first w m)
unfolding kept_over stepped
kept_on [] second w m = refl
kept_on (e ∷ first) second w m = kept_on first second (step e w) (kept e w m)

-- a map stays as long as it is: where a sector is entered or none
entered_for_length : (target : Target) (xs m : List ℕ) → length (entered_for target xs m) ≡ length m
unfolding entered_for
entered_for_length None xs m = refl
entered_for_length (Sector k) xs m = entered_length k xs m
entered_for_length (Locks ppen bl) xs m = refl

-- after an event
pub kept_event_length : (e : Event) (w : World) (m : List ℕ) → length (kept e w m) ≡ length m
unfolding kept
kept_event_length e w m = entered_for_length (ended e w.chip) (step e w).array m

-- and after a row of them
pub kept_length : (es : List Event) (w : World) (m : List ℕ) → length (kept_over es w m) ≡ length m
unfolding kept_over
kept_length [] w m = refl
kept_length (e ∷ es) w m = kept_length es (step e w) (kept e w m) ∙ kept_event_length e w m

-- a part of a row passes where the row does: the front
every_take : (test : ℕ → Bool) (n : ℕ) (row : List ℕ) → every test row ≡ true → every test (take n row) ≡ true
unfolding every
every_take test zero row pass = refl
every_take test (suc n) [] pass = refl
every_take test (suc n) (x ∷ row) pass = rw (and_left (test x) (every test row) pass) (every_take test n row (and_right (test x) (every test row) pass))

-- and the rest
every_drop : (test : ℕ → Bool) (n : ℕ) (row : List ℕ) → every test row ≡ true → every test (drop n row) ≡ true
unfolding every
every_drop test zero row pass = pass
every_drop test (suc n) [] pass = refl
every_drop test (suc n) (x ∷ row) pass = every_drop test n row (and_right (test x) (every test row) pass)

-- before a piece: the trace is going, it is one that is taken, and what is left of the map's way leads where the whole leads
pub record Running (bytes old : List ℕ) (w : World) (m₀ : List ℕ) (i : ℕ) (c : Chip) (xs m told : List ℕ) : Type 0 where
  pub going : Going bytes old w i c xs told
  pub chip : refusal c xs ≡ 0
  pub sized : length m ≡ 64
  pub few : length bytes ≤ 65536
  pub room : length bytes ≤ length told
  pub events : all_events bytes ≡ true
  pub map : kept_over (map event_of (drop i bytes)) (world c xs) m ≡ kept_over (map event_of bytes) w m₀

pub running_begins : (bytes old : List ℕ) (w : World) (m : List ℕ) → Taken w.chip w.array m bytes old → Running bytes old w m 0 w.chip w.array m old
running_begins bytes old w m t =
    record { going = going_begins bytes old w; chip = t.chip; sized = t.map; few = t.few; room = t.room; events = t.events; map = refl }

module _ (bytes old : List ℕ) (w : World) (m₀ : List ℕ) (i : ℕ) (c : Chip) (xs m told : List ℕ) (r : Running bytes old w m₀ i c xs m told) where
  module _ (end : ℕ) (first : i < end) (last : end ≤ length bytes) where
    abbrev piece : List ℕ
    piece = take (end - i) (drop i bytes)

    reach : i + (end - i) ≡ end
    reach = omega arith

    piece_length : (l : List ℕ) → end ≤ length l → length (take (end - i) (drop i l)) ≡ end - i
    piece_length l h =
        let left : length (drop i l) ≡ length l - i = length-drop i l in
        length-take-le (end - i) (drop i l) (omega arith)

    -- the piece that comes is one
    pub running_piece : samples (map event_of (drop 1 piece)) ≡ true → Piece c xs m piece (take (end - i) (drop i told))
    running_piece tail =
        let mine : length piece ≡ end - i = piece_length bytes last in
        let lent : length (take (end - i) (drop i told)) ≡ end - i = piece_length told (omega (arith, r.room)) in
        record {
          taken =
              record {
                chip = r.chip;
                map = r.sized;
                few = omega (arith, r.few);
                room = omega arith;
                events = every_take is_event (end - i) (drop i bytes) (every_drop is_event i bytes r.events);
              };
          some = omega arith;
          exact = lent ∙ sym mine;
          tail = tail;
        }

    -- after it the trace is running on
    pub running_on : Running bytes old w m₀ end (after piece (world c xs)).chip (after piece (world c xs)).array (kept_over (map event_of piece) (world c xs) m)
        (take i told ++ (answers_of piece (world c xs) ++ drop (end - i) (drop i told)))
    unfolding after
    running_on =
        let going : Going bytes old w (i + (end - i)) (after piece (world c xs)).chip (after piece (world c xs)).array (take i told ++ (answers_of piece (world c xs) ++ drop (end - i) (drop i told))) =
        going_on bytes old w i (end - i) c xs told r.going (omega arith) (omega (arith, r.room)) in
        subst (λ (n : ℕ). Running bytes old w m₀ n (after piece (world c xs)).chip (after piece (world c xs)).array (kept_over (map event_of piece) (world c xs) m) (take i told ++ (answers_of piece (world c xs) ++ drop (end - i) (drop i told)))) reach
        (record {
          going = going;
          chip = ran_taken (map event_of piece) (world c xs) r.chip;
          sized = kept_length (map event_of piece) (world c xs) m ∙ r.sized;
          few = r.few;
          room = omega (arith, going.room, r.going.room, r.room);
          events = r.events;
          map =
              sym (kept_on (map event_of piece) (map event_of (drop (i + (end - i)) bytes)) (world c xs) m)
              ∙ ap (λ (es : List Event). kept_over es (world c xs) m) (sym (map-append event_of piece (drop (i + (end - i)) bytes)) ∙ ap (map event_of) (part_and_rest bytes old w i (end - i) c xs told r.going (omega arith) (omega (arith, r.room))))
              ∙ r.map;
        })

  -- the trace is at its end
  pub running_ends : length bytes ≤ i → (c ≡ (after bytes w).chip) × ((xs ≡ (after bytes w).array) × ((m ≡ kept_over (map event_of bytes) w m₀) × (told ≡ answers_of bytes w ++ drop (length bytes) old)))
  unfolding kept_over
  running_ends h =
      let end = going_ends bytes old w i c xs told r.going h in
      let nothing : [] ≡ drop i bytes = sym (drop_of_length-le bytes h) in
      (ap (λ (v : World). v.chip) end.0, (ap (λ (v : World). v.array) end.0, (ap (λ (l : List ℕ). kept_over (map event_of l) (world c xs) m) nothing ∙ r.map, end.1)))
