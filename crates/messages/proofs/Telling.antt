-- What a row of events says: from one world it leads to another, with these levels of the line and these notes on the way. And a row of wires
-- that says so whatever the pin, without a note. Assumes nothing.
use Prim.Native.Nat.{ℕ, suc}
use mathlib.Core.Bool.{Bool}
use mathlib.Core.List.{List, [], ◌∷◌, ◌++◌}
use mathlib.Core.Path.{◌≡◌, refl, ap, ◌∙◌}
use lib.ListN.{length, replicate}
use Rattle.parts.specs.Rows.{stepped}
use Rattle.parts.proofs.RowLaws.{stepped_on}
use Rattle.chip.specs.Run.{World, step, note_of, ran, lines, notes}
use Rattle.chip.specs.Wire.{sample}
use Rattle.chip.specs.declared.wire.Event.{Event}
use Rattle.messages.specs.Wires.{Wires}

-- what is heard of them
lines_on : (first second : List Event) (w : World) → lines (first ++ second) w ≡ lines first w ++ lines second (ran first w)
unfolding stepped lines
lines_on [] second w = refl
lines_on (e ∷ first) second w = ap (λ (rest : List Bool). (step e w).chip.line ∷ rest) (lines_on first second (step e w))

-- what they say
notes_on : (first second : List Event) (w : World) → notes (first ++ second) w ≡ notes first w ++ notes second (ran first w)
unfolding stepped notes
notes_on [] second w = refl
notes_on (e ∷ first) second w = ap (λ (rest : List ℕ). note_of e w ∷ rest) (notes_on first second (step e w))

-- the events lead from w to w', the line was heard so after each, and these were their notes
pub record Plays (w : World) (events : List Event) (heard : List Bool) (told : List ℕ) (w' : World) : Type 0 where
  pub ends : ran events w ≡ w'
  pub hears : lines events w ≡ heard
  pub tells : notes events w ≡ told

-- one row of events after another
pub plays_then : {u v w : World} {first second : List Event} {heard heard' : List Bool} {told told' : List ℕ}
    → Plays u first heard told v → Plays v second heard' told' w → Plays u (first ++ second) (heard ++ heard') (told ++ told') w
plays_then {u} {v} {w} {first} {second} s t =
    record {
      ends = stepped_on step first second u ∙ (rw s.ends t.ends);
      hears = lines_on first second u ∙ (rw (s.hears, s.ends, t.hears) refl);
      tells = notes_on first second u ∙ (rw (s.tells, s.ends, t.tells) refl);
    }

-- the samples of wires, `pins k` the pin in the k-th
unfoldable pub pinned : (ℕ → Bool) → List Wires → List Event
pinned pins [] = []
pinned pins (w ∷ rest) = sample w.scl w.sda (pins 0) ∷ pinned (λ k. pins (suc k)) rest

-- the pins that are left after a row of wires
past : List Wires → (ℕ → Bool) → ℕ → Bool
past [] pins = pins
past (w ∷ rest) pins = past rest (λ k. pins (suc k))

-- the samples of two rows
pinned_on : (first second : List Wires) (pins : ℕ → Bool) → pinned pins (first ++ second) ≡ pinned pins first ++ pinned (past first pins) second
unfolding pinned past
pinned_on [] second pins = refl
pinned_on (w ∷ first) second pins =
    ap (λ (rest : List Event). sample w.scl w.sda (pins 0) ∷ rest) (pinned_on first second (λ k. pins (suc k)))

-- the same with one pin throughout
pub steady_on : (first second : List Wires) (pin : Bool) → pinned (λ k. pin) (first ++ second) ≡ pinned (λ k. pin) first ++ pinned (λ k. pin) second
unfolding pinned
steady_on [] second pin = refl
steady_on (w ∷ first) second pin = ap (λ (rest : List Event). sample w.scl w.sda pin ∷ rest) (steady_on first second pin)

-- note 0 for each sample
unfoldable pub silent : List Wires → List ℕ
silent [] = []
silent (w ∷ rest) = 0 ∷ silent rest

-- so many
pub silent_all : (wires : List Wires) → silent wires ≡ replicate (length wires) 0
unfolding silent
silent_all [] = refl
silent_all (w ∷ rest) = ap (λ (l : List ℕ). 0 ∷ l) (silent_all rest)

-- of two rows
silent_on : (first second : List Wires) → silent (first ++ second) ≡ silent first ++ silent second
unfolding silent
silent_on [] second = refl
silent_on (w ∷ first) second = ap (λ (rest : List ℕ). 0 ∷ rest) (silent_on first second)

-- the wires lead from w to w' whatever the pin, the line was heard so after each sample, and there was no note
pub record Says (w : World) (wires : List Wires) (heard : List Bool) (w' : World) : Type 0 where
  pub plays : (pins : ℕ → Bool) → Plays w (pinned pins wires) heard (silent wires) w'

-- what is heard of a second row, whatever the pins
pub then_hears : {u v : World} {first : List Wires} {heard : List Bool} (second : List Wires) (heard' : List Bool)
    → Says u first heard v → ((pins : ℕ → Bool) → lines (pinned pins second) v ≡ heard') → (pins : ℕ → Bool) → lines (pinned pins (first ++ second)) u ≡ heard ++ heard'
then_hears {u} {v} {first} {heard} second heard' s t pins =
    rw (pinned_on first second pins, lines_on (pinned pins first) (pinned (past first pins) second) u, (s.plays pins).hears, (s.plays pins).ends, t (past first pins)) refl

-- one row after another
pub then : {u v w : World} {first second : List Wires} {heard heard' : List Bool}
    → Says u first heard v → Says v second heard' w → Says u (first ++ second) (heard ++ heard') w
then {u} {v} {w} {first} {second} s t =
    record { plays = λ pins. rw (pinned_on first second pins, silent_on first second) (plays_then (s.plays pins) (t.plays (past first pins))) }
