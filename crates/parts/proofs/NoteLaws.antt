-- Each note has a number of its own, and none has 0: what a number tells of a note is told whole. Assumes nothing.
use Rattle.std.specs.Prelude.{ℕ, ◌≡◌, List, [], ◌∷◌, slice_index_or, Option, Some, None}
use Rattle.std.proofs.Common.{refl, ◌∙◌, sym, ap}
use Rattle.parts.specs.Note.{note_number, note_or_0}
use Rattle.parts.specs.Register.{Written, written_as}
use Rattle.parts.specs.declared.note.Note.{Note}
use Rattle.parts.specs.declared.note.Note.TheVariants.{Store, Locks, Latch, Locked, Spoil, Refused, Dropped}
use Rattle.parts.specs.declared.register.Register.{Register}
use Rattle.parts.specs.declared.wait.Target.{Target}

-- the notes by number
abbrev by_number : List (Option Note)
by_number = None ∷ Some Store ∷ Some Locks ∷ Some Latch ∷ Some Locked ∷ Some Spoil ∷ Some Refused ∷ Some Dropped ∷ []

abbrev noted : ℕ → Option Note
noted n = slice_index_or by_number n None

back : (note : Option Note) → noted (note_or_0 note) ≡ note
back None = refl
back (Some Store) = refl
back (Some Locks) = refl
back (Some Latch) = refl
back (Some Locked) = refl
back (Some Spoil) = refl
back (Some Refused) = refl
back (Some Dropped) = refl

-- two that are told by one number are one
pub same_noted : (a b : Option Note) → note_or_0 a ≡ note_or_0 b → a ≡ b
same_noted a b e = sym (back a) ∙ ap noted e ∙ back b

-- so are two notes
pub same_note : (a b : Note) → note_number a ≡ note_number b → a ≡ b
same_note a b e = go (same_noted (Some a) (Some b) e)
  where
    go : ◌≡◌ {A = Option Note} (Some a) (Some b) → a ≡ b
    go e = cc

-- and what a register byte did
pub same_written : {a b : Register} {t u : Target} {n m : Note} → written_as a t (note_number n) ≡ written_as b u (note_number m)
    → (a ≡ b) × (◌≡◌ {A = Target × Note} (t, n) (u, m))
same_written {n = n} {m = m} e =
    let note : n ≡ m = same_note n m (ap (λ (w : Written). w.note) e) in
    (ap (λ (w : Written). w.register) e, λ i. (ap (λ (w : Written). w.target) e i, note i))
