-- What a piece of a trace leaves of a map: the sector entered whose cycle the piece's first event ends, by the array at the piece's end; samples write nothing.
-- Assumes nothing.
use Prim.Native.Nat.{ℕ, zero, suc, ◌+◌, ◌-◌, ◌<◌}
use mathlib.Core.Bool.{Bool, true, false, ◌&&◌, false≢true}
use mathlib.Core.Path.{◌≡◌, refl, sym, ap, ap₂, ◌∙◌}
use mathlib.Core.List.{List, [], ◌∷◌, ◌++◌, map, append-nil}
use native.Mathlib.Omega.{arith}
use borrow.Author.Tests.{ne_eqb}
use lib.ListN.{length, get_or, take, drop, drop_of_length-le}
use Rattle.std.specs.List.{AllWithin}
use Rattle.std.proofs.lemmas.List.{drop-drop, drop-take}
use Rattle.parts.specs.Rows.{every, stepped}
use Rattle.parts.specs.declared.wait.Target.{Target}
use Rattle.parts.specs.declared.wait.Target.TheVariants.{None}
use Rattle.parts.proofs.CondLaws.{and_left, and_right, cond_false}
use Rattle.chip.specs.Run.{World, world, step, ran}
use Rattle.chip.specs.View.{is_sample, samples}
use Rattle.chip.specs.declared.chip.Chip.{Chip}
use Rattle.chip.specs.declared.wire.Event.{Event}
use Rattle.chip.specs.declared.wire.Event.TheVariants.{Sample, ProgramDone, PowerUp}
use Rattle.chip.proofs.EventLaws.{taken_of, sample_array}
use Rattle.chip.proofs.RunLaws.{ran_length}
use Rattle.trace.specs.Bytes.{event_of}
use Rattle.trace.specs.Trace.{Ran, after, answers_of, ran_of, run_array, run_answers}
use Rattle.trace.proofs.RunLaws.{run_whole, run_answers_law}
use Rattle.map.specs.Keeping.{ended, entered_for, kept, kept_over, Piece}

-- a sample ends no cycle
sample_ends : (e : Event) (c : Chip) → is_sample e ≡ true → ended e c ≡ None
unfolding ended is_sample
sample_ends (Sample s) c h = cond_false (c.busy && false) c.wait.target None (and_false c.busy)
  where
    and_false : (b : Bool) → (b && false) ≡ false
    and_false true = refl
    and_false false = refl
sample_ends ProgramDone c h = absurd (false≢true h)
sample_ends (PowerUp choices) c h = absurd (false≢true h)

-- and writes no byte
sample_writes : (e : Event) (w : World) → is_sample e ≡ true → (step e w).array ≡ w.array
unfolding step is_sample
sample_writes (Sample s) w h = sample_array s w.chip w.array
sample_writes ProgramDone w h = absurd (false≢true h)
sample_writes (PowerUp choices) w h = absurd (false≢true h)

-- so over a row of samples map and array stay
samples_keep : (es : List Event) (w : World) (m : List ℕ) → samples es ≡ true → (kept_over es w m ≡ m) × ((ran es w).array ≡ w.array)
unfolding kept_over kept entered_for every stepped
samples_keep [] w m s = (refl, refl)
samples_keep (e ∷ es) w m s =
    let first = and_left (is_sample e) (samples es) s in
    let rest = samples_keep es (step e w) m (and_right (is_sample e) (samples es) s) in
    (rw (sample_ends e w.chip first) rest.0, rest.1 ∙ sample_writes e w first)

-- a row of which each event but the first is a sample leaves the map in which the first has entered its sector, by the array at the row's end
piece_kept : (e : Event) (es : List Event) (w : World) (m : List ℕ) → samples es ≡ true → kept_over (e ∷ es) w m ≡ entered_for (ended e w.chip) (ran (e ∷ es) w).array m
unfolding kept_over kept stepped
piece_kept e es w m s =
    let rest = samples_keep es (step e w) (kept e w m) s in
    rest.0 ∙ ap (λ (xs : List ℕ). entered_for (ended e w.chip) xs m) (sym rest.1)

-- a byte below 8 is a sample's
event_sample : (byte : ℕ) → byte < 8 → is_sample (event_of byte) ≡ true
unfolding event_of is_sample
event_sample byte h = rw (ne_eqb byte 8 (omega arith), ne_eqb byte 9 (omega arith), ne_eqb byte 10 (omega arith), ne_eqb byte 11 (omega arith))

-- so the first n bytes of a row are samples where each is below 8
low_samples : (n : ℕ) (row : List ℕ) → AllWithin (λ byte. byte < 8) row 0 n → samples (map event_of (take n row)) ≡ true
unfolding every
low_samples zero row low = refl
low_samples (suc n) [] low = refl
low_samples (suc n) (byte ∷ row) low =
    rw (event_sample byte (low 0 0 (omega arith) (omega arith)), low_samples n row (λ k d z h. low (suc k) d (omega arith) (omega arith)))

-- and so are those of a piece but its first, where n such bytes come after that
pub piece_low : (bytes : List ℕ) (from n : ℕ) → AllWithin (λ byte. byte < 8) (drop (from + 1) bytes) 0 n
    → samples (map event_of (drop 1 (take (from + 1 + n - from) (drop from bytes)))) ≡ true
piece_low bytes from n low =
    let size : from + 1 + n - from ≡ 1 + n = omega arith in
    rw (size, drop-take 1 n (drop from bytes), drop-drop 1 from bytes) (low_samples n (drop (from + 1) bytes) low)

-- a piece of event bytes
bytes_kept : (bytes : List ℕ) (w : World) (m : List ℕ) → 0 < length bytes → samples (map event_of (drop 1 bytes)) ≡ true
    → kept_over (map event_of bytes) w m ≡ entered_for (ended (event_of (get_or bytes 0 0)) w.chip) (after bytes w).array m
unfolding after
bytes_kept [] w m some s = absurd (omega arith)
bytes_kept (byte ∷ bytes) w m some s = piece_kept (event_of byte) (map event_of bytes) w m s

-- a piece, run by the loop over events: what that answers, and the array and the answer bytes that it leaves
module _ (c : Chip) (xs m bytes old : List ℕ) (p : Piece c xs m bytes old) (result : Ran) (ys told : List ℕ)
    (ran-so : result ≡ ran_of c xs bytes old) (array-so : ys ≡ run_array c xs bytes old) (told-so : told ≡ run_answers c xs bytes old) where
  whole_so : world (ran_of c xs bytes old).chip (run_array c xs bytes old) ≡ after bytes (world c xs)
  whole_so = run_whole c xs bytes old p.taken.chip p.taken.few p.taken.room p.taken.events

  pub chip_left : result.chip ≡ (after bytes (world c xs)).chip
  chip_left = ap (λ (r : Ran). r.chip) ran-so ∙ ap (λ (w : World). w.chip) whole_so

  pub array_left : ys ≡ (after bytes (world c xs)).array
  array_left = array-so ∙ ap (λ (w : World). w.array) whole_so

  pub told_left : told ≡ answers_of bytes (world c xs)
  told_left =
      told-so
      ∙ run_answers_law c xs bytes old p.taken.chip p.taken.few p.taken.room p.taken.events
      ∙ ap (λ (l : List ℕ). answers_of bytes (world c xs) ++ l) (drop_of_length-le old {i = length bytes} (omega (arith, p.exact)))
      ∙ append-nil (answers_of bytes (world c xs))

  -- the map too
  pub map_left : (target : Target) → target ≡ ended (event_of (get_or bytes 0 0)) c → entered_for target ys m ≡ kept_over (map event_of bytes) (world c xs) m
  map_left target t = ap₂ (λ (u : Target) (l : List ℕ). entered_for u l m) t array_left ∙ sym (bytes_kept bytes (world c xs) m p.some p.tail)

  -- the array stays whole
  pub array_whole : length ys ≡ 16384
  unfolding after
  array_whole = ap length array_left ∙ ran_length (map event_of bytes) (world c xs) ∙ (taken_of c xs p.taken.chip).0
