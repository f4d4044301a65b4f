-- The end of a cycle, and its cut: what an idle chip does, which bytes change and to what, what all choices and no choice leave. Assumes nothing.
use Prim.Native.Nat.{ℕ, ◌*◌, ◌/◌, ◌%◌, ◌<◌}
use mathlib.Core.Bool.{true, false, cond}
use mathlib.Core.List.{List}
use mathlib.Core.Path.{◌≡◌, refl, sym, ap, ◌∙◌}
use native.Mathlib.Decide.{ℕ_discrete}
use lib.ListN.{length, get_or}
use Rattle.parts.specs.Sector.{Bytes}
use Rattle.parts.specs.Wait.{every_place, no_place, no_wait, taking, stored, end_array, reached, locks_taken}
use Rattle.parts.specs.declared.register.Register.{Register}
use Rattle.parts.specs.declared.wait.Target.{Target}
use Rattle.parts.specs.declared.wait.Target.TheVariants.{None, Sector, Locks}
use Rattle.parts.proofs.CondLaws.{cond_by, cond_true, cond_false, and_left, and_right}
use Rattle.parts.proofs.StoreLaws.{stored_inside, stored_outside, stored_changed}
use Rattle.parts.proofs.WaitLaws.{end_by, end_length, end_bytes, end_none, taken_none}
use Rattle.chip.specs.Chip.{with_cycle, cut_register, cut_array, power_up}
use Rattle.chip.specs.Event.{next_array, program_done}
use Rattle.chip.specs.View.{choices_of, is_locks, Touched}
use Rattle.chip.specs.declared.chip.Chip.{Chip}
use Rattle.chip.specs.declared.wire.Event.{Event}
use Rattle.chip.specs.declared.wire.Event.TheVariants.{Sample, ProgramDone, PowerUp}

module _ (choices : ℕ) (c : Chip) where
  -- an idle chip has no cycle to end: the array stays
  pub cut_idle : (xs : List ℕ) → c.busy ≡ false → cut_array choices c xs ≡ xs
  unfolding cut_array
  cut_idle xs idle = cond_false c.busy _ xs idle

  -- a busy chip's waiting sector is written
  pub cut_busy : (xs : List ℕ) → c.busy ≡ true → cut_array choices c xs ≡ end_array c.wait choices xs
  unfolding cut_array
  cut_busy xs busy = cond_true c.busy _ xs busy

  -- what holds of the array as it was, and of a store in the waiting sector of a busy chip, holds then
  pub cut_by : (P : List ℕ → Type 0) (xs : List ℕ) → P xs
      → (c.busy ≡ true → (k : ℕ) → c.wait.target ≡ Sector k → P (stored xs (k * 32) (taking c.wait.places choices) c.wait.bytes))
      → P (cut_array choices c xs)
  unfolding cut_array
  cut_by P xs same sector = cond_by P c.busy (end_array c.wait choices xs) xs (λ b. end_by c.wait choices xs P same (sector b)) (λ b. same)

  -- what holds of the register as it was, and with PPEN and BL that wait in a cycle, holds then
  pub cut_register_law : (P : Register → Type 0) → P c.register → (c.busy ≡ true → is_locks c.wait.target ≡ true → P (locks_taken c.wait.target choices c.register))
      → P (cut_register choices c)
  unfolding cut_register
  cut_register_law P same locks =
      cond_by P c.busy (locks_taken c.wait.target choices c.register) c.register (λ b. go c.wait.target (locks b)) (λ b. same)
    where
      go : (t : Target) → (is_locks t ≡ true → P (locks_taken t choices c.register)) → P (locks_taken t choices c.register)
      go None f = unfold locks_taken in same
      go (Sector k) f = unfold locks_taken in same
      go (Locks ppen bl) f = f (unfold is_locks in refl)

  -- U7: every byte outside the waiting sector is kept
  pub cut_outside : (xs : List ℕ) (a : ℕ) → (c.wait.target ≡ Sector (a / 32) → ⊥) → get_or (cut_array choices c xs) a 0 ≡ get_or xs a 0
  cut_outside xs a other =
      cut_by (λ ys. get_or ys a 0 ≡ get_or xs a 0) xs refl
      (λ b k here. stored_outside xs k (taking c.wait.places choices) c.wait.bytes a (λ same. other (here ∙ ap (λ (n : ℕ). Sector n) (sym same))))

  -- U7: in it, a byte is the new one where its place is loaded and chosen, and else the old one
  pub cut_inside : (xs : List ℕ) (a : ℕ) → c.busy ≡ true → c.wait.target ≡ Sector (a / 32) → a < length xs
      → get_or (cut_array choices c xs) a 0 ≡ cond (taking c.wait.places choices (a % 32)) (get_or c.wait.bytes (a % 32) 0) (get_or xs a 0)
  unfolding reached
  cut_inside xs a busy here within =
      ap (λ (ys : List ℕ). get_or ys a 0) (cut_busy xs busy ∙ ap (λ (t : Target). reached t c.wait choices xs) here)
      ∙ stored_inside xs (a / 32) (taking c.wait.places choices) c.wait.bytes a refl within

  -- the length stays
  pub cut_length : (xs : List ℕ) → length (cut_array choices c xs) ≡ length xs
  unfolding cut_array
  cut_length xs = cond_by (λ ys. length ys ≡ length xs) c.busy (end_array c.wait choices xs) xs (λ b. end_length c.wait choices xs) (λ b. refl)

  -- bytes stay bytes
  pub cut_bytes : (xs : List ℕ) → Bytes xs → Bytes c.wait.bytes → Bytes (cut_array choices c xs)
  unfolding cut_array
  cut_bytes xs b l = cond_by Bytes c.busy (end_array c.wait choices xs) xs (λ e. end_bytes c.wait choices xs b l) (λ e. b)

-- U7: with no choice nothing is written: the array stays
pub none_array : (c : Chip) (xs : List ℕ) → cut_array no_place c xs ≡ xs
unfolding cut_array
none_array c xs = cond_by (λ ys. ys ≡ xs) c.busy (end_array c.wait no_place xs) xs (λ b. end_none c.wait xs) (λ b. refl)

-- U8: and so does the register
pub none_register : (c : Chip) → cut_register no_place c ≡ c.register
unfolding cut_register
none_register c = cond_by (λ r. r ≡ c.register) c.busy (locks_taken c.wait.target no_place c.register) c.register (λ b. taken_none c.wait.target c.register) (λ b. refl)

-- U7, U8: a power-up with all choices leaves the array, PPEN and BL as a program-done does
pub every_as_done : (c : Chip) (xs : List ℕ)
    → (next_array (PowerUp every_place) c xs ≡ next_array ProgramDone c xs)
    × ((power_up every_place c).register.ppen ≡ (program_done c).register.ppen) × ((power_up every_place c).register.bl ≡ (program_done c).register.bl)
unfolding next_array
every_as_done c xs = (refl, same (λ r. r.ppen), same (λ r. r.bl))
  where
    same : {A : Type 0} (f : Register → A) → f (cut_register every_place c) ≡ f (program_done c).register
    same f =
        unfold program_done cut_register in
        cond_by (λ d. f (cut_register every_place c) ≡ f d.register) c.busy (with_cycle c (cut_register every_place c) false no_wait) c
        (λ b. refl) (λ b. ap f (cond_false c.busy _ _ b))

-- a byte that the end of a cycle changed
cut_touched : (e : Event) (c : Chip) (xs : List ℕ) (a : ℕ) → (get_or (cut_array (choices_of e) c xs) a 0 ≡ get_or xs a 0 → ⊥) → Touched e c a (get_or (cut_array (choices_of e) c xs) a 0)
cut_touched e c xs a =
    cut_by (choices_of e) c (λ ys. (get_or ys a 0 ≡ get_or xs a 0 → ⊥) → Touched e c a (get_or ys a 0)) xs (λ new. absurd (new refl))
    (λ busy k here new.
    let t = stored_changed xs k (taking c.wait.places (choices_of e)) c.wait.bytes a new in
    record {
      cycle = busy;
      sector = here ∙ ap (λ (n : ℕ). Sector n) (sym t.0);
      place = and_left (get_or c.wait.places (a % 32) false) _ t.1;
      choice = and_right (get_or c.wait.places (a % 32) false) _ t.1;
      new = t.2;
    })

-- U3, U7: a byte that an event changed lies in the waiting sector of a cycle, at a loaded and chosen place, and is what waited there
pub touched : (e : Event) (c : Chip) (xs : List ℕ) (a : ℕ) → (get_or (next_array e c xs) a 0 ≡ get_or xs a 0 → ⊥) → Touched e c a (get_or (next_array e c xs) a 0)
unfolding next_array choices_of
touched (Sample s) c xs a new = absurd (new refl)
touched ProgramDone c xs a new = cut_touched ProgramDone c xs a new
touched (PowerUp choices) c xs a new = cut_touched (PowerUp choices) c xs a new

-- U3, U7: so every byte outside the waiting sector is kept by every event
pub next_outside : (e : Event) (c : Chip) (xs : List ℕ) (a : ℕ) → (c.wait.target ≡ Sector (a / 32) → ⊥) → get_or (next_array e c xs) a 0 ≡ get_or xs a 0
next_outside e c xs a other = go (ℕ_discrete (get_or (next_array e c xs) a 0) (get_or xs a 0))
  where
    go : Dec (get_or (next_array e c xs) a 0 ≡ get_or xs a 0) → get_or (next_array e c xs) a 0 ≡ get_or xs a 0
    go (yes same) = same
    go (no new) = absurd (other (touched e c xs a new).sector)
