-- The sender's events on a chip that they are for, of each part: an unlocked sector then holds the record and every other byte is kept, a locked one stays; every
-- byte is acknowledged, and reading the sector gives back what the record says. Cut off before its end, each byte of the sector is old or new, and every other byte is
-- kept. Assumes nothing.
use Prim.Native.Nat.{ℕ, zero, suc, ◌+◌, ◌*◌, ◌≤◌, ◌<◌}
use mathlib.Core.Bool.{Bool, true, false, cond, false≢true}
use mathlib.Core.List.{List, [], ◌∷◌, ◌++◌, map, append_assoc, map-append}
use mathlib.Core.Path.{◌≡◌, refl, ap, ap₂, sym, subst, subst₂, ◌∙◌}
use native.Mathlib.Omega.{arith}
use lib.ListN.{length, get_or, take, drop, replicate, length-append, length-map, take-append-drop}
use lib.Seq.{ext_get_or, take-append-le}
use Rattle.parts.specs.Load.{no_load, whole}
use Rattle.parts.specs.Register.{has_register, with_pel, with_rpel}
use Rattle.parts.specs.Rows.{every}
use Rattle.parts.specs.Sector.{sector_of, Bytes}
use Rattle.parts.specs.Wait.{every_place, chosen, stored, wait_for, end_array}
use Rattle.parts.specs.declared.phase.Phase.TheVariants.{Standby}
use Rattle.parts.specs.declared.wait.Wait.{Wait}
use Rattle.parts.proofs.CondLaws.{and_left, and_right}
use Rattle.parts.proofs.RowLaws.{every_on, stepped_on, stepped_each}
use Rattle.parts.proofs.SectorLaws.{sector_length, sector_byte}
use Rattle.parts.proofs.StoreLaws.{length_stored, stored_at, stored_outside}
use Rattle.parts.proofs.WaitLaws.{chosen_every}
use Rattle.chip.specs.Chip.{with_transfer, with_cycle, with_levels, chip_fits}
use Rattle.chip.specs.Event.{next_array, refusal}
use Rattle.chip.specs.Run.{World, world, step, ran}
use Rattle.chip.specs.View.{is_sample}
use Rattle.chip.specs.declared.chip.Chip.{Chip}
use Rattle.chip.specs.declared.wire.Event.{Event}
use Rattle.chip.specs.declared.wire.Event.TheVariants.{Sample, ProgramDone, PowerUp}
use Rattle.chip.proofs.CutLaws.{cut_busy, cut_idle}
use Rattle.chip.proofs.EventLaws.{taken_so, sample_array}
use Rattle.chip.proofs.PartLaws.{always_enabled, pin_low}
use Rattle.chip.proofs.Posed.{posed}
use Rattle.gate.specs.Reading.{read_of}
use Rattle.trace.specs.Bytes.{event_of, all_events, answer_line}
use Rattle.trace.specs.Cycles.{Still}
use Rattle.trace.specs.Trace.{after, answers_of, ran_of, run_array, run_answers}
use Rattle.trace.proofs.ByteLaws.{lines_answered, notes_answered}
use Rattle.trace.proofs.CycleLaws.{busy_still}
use Rattle.trace.proofs.RunLaws.{run_taken, run_whole, run_answers_law}
use Rattle.messages.specs.Messages.{begin, bytes_sent, message_bytes, message, register_write}
use Rattle.messages.specs.RandomRead.{AckAt, random_read, held, Returns}
use Rattle.messages.specs.Wires.{Wires, spelled, heard_of}
use Rattle.messages.proofs.Held.{held_part}
use Rattle.messages.proofs.RandomRead.{rested_read, read_bytes}
use Rattle.messages.proofs.Sending.{heard_sent, twice, resting}
use Rattle.messages.proofs.Spelling.{played_pinned, bytes_length}
use Rattle.messages.proofs.Telling.{pinned, silent, silent_all, steady_on, Plays, plays_then}
use Rattle.messages.proofs.Writing.{heard_row, heard_message, told_message, chip_then, chip_done, array_then, pel_message_law, sector_message, sector_done, whole_ends, row_acked}
use Rattle.sender.specs.Sending.{pel_message, lead, event_count, sent_events, send_refusal}
use Rattle.sender.proofs.Sends.{Sendable, send_taken, lead_count, lead_most, sent_length, sent_events_law}
use Rattle.promises.specs.Sender.{Ready, shut_at, ended, notes_with, Ends, Wrote, cut_after, OldOrNew, Cut, read_back}
use Rattle.promises.specs.Sender.OldOrNew.{kept, taken}

-- the bytes of the two messages
abbrev pel_row : ℕ → List ℕ
pel_row select = message_bytes select 0xffff (0x02 ∷ [])

abbrev record_row : ℕ → ℕ → List ℕ → List ℕ
record_row select gate bytes = message_bytes select (gate * 32) bytes

-- what is heard of the message that sets PEL, where it is sent, and its notes
abbrev heard_lead : Bool → ℕ → List Bool
heard_lead has select = cond has (heard_message (pel_row select)) []

abbrev told_lead : Bool → ℕ → List ℕ
told_lead has select = cond has (told_message (pel_row select) 3) []

-- what is heard of the events, and their notes
abbrev heard_all : ℕ → ℕ → ℕ → List ℕ → List Bool
heard_all part select gate bytes = heard_lead (has_register part) select ++ heard_message (record_row select gate bytes) ++ (true ∷ [])

abbrev told_all : ℕ → ℕ → ℕ → List ℕ → ℕ → List ℕ
told_all part select gate bytes note = told_lead (has_register part) select ++ told_message (record_row select gate bytes) note ++ (0 ∷ [])

-- the samples of the two messages, the pin low
abbrev samples : ℕ → ℕ → ℕ → List ℕ → List Event
samples part select gate bytes = pinned (λ k. false) (pel_message part select) ++ pinned (λ k. false) (message select (gate * 32) bytes)

-- with a program-done behind them they are what the event bytes stand for
events_are : (part select gate : ℕ) (bytes : List ℕ) → map event_of (sent_events part select gate bytes) ≡ samples part select gate bytes ++ (ProgramDone ∷ [])
unfolding sent_events event_of
events_are part select gate bytes =
    map-append event_of (spelled (λ k. false) (pel_message part select ++ message select (gate * 32) bytes)) (8 ∷ [])
    ∙ ap (λ (es : List Event). es ++ (ProgramDone ∷ []))
    (played_pinned (λ k. false) (pel_message part select ++ message select (gate * 32) bytes)
    ∙ steady_on (pel_message part select) (message select (gate * 32) bytes) false)

-- a chip that they are for rests
ready_rests : (part select : ℕ) (w : World) → Ready part select w → resting w.chip w.array w.chip.counter w.chip.mark w.chip.scl w.chip.line ≡ w
ready_rests part select w r i =
    world
    (posed (with_transfer w.chip (sym r.standby i) w.chip.counter w.chip.mark (sym r.load i)) (sym r.idle i) w.chip.scl w.chip.line (sym r.standby i))
    w.array

-- with PEL set, where there is a register
abbrev set_by : Bool → Chip → Chip
set_by has c = with_cycle c (cond has (with_pel c.register true) c.register) false c.wait

abbrev set : Chip → Chip
set c = set_by (has_register c.part) c

-- with the cycle done it is the chip that is promised
chip_ends : (gate : ℕ) (c : Chip) (shut : Bool) → (has_register c.part ≡ true → c.register.rpel ≡ false) → shut_at gate c ≡ shut → chip_done (set c) gate shut ≡ ended gate c
chip_ends gate c false off e = rw e
chip_ends gate c true off e = go (has_register c.part) refl
  where
    go : (has : Bool) → has_register c.part ≡ has → chip_done (set c) gate true ≡ ended gate c
    go true has =
        rw (e, has)
        (ap (λ (rpel : Bool). with_levels (with_transfer (with_cycle c (with_rpel (with_pel c.register true) rpel) false c.wait) Standby (gate * 32) false no_load) true true) (off has))
    go false none = absurd (false≢true (sym (pin_low c.part none c.register.bl (gate * 32)) ∙ e))

module _ (gate : ℕ) (bytes : List ℕ) (gate_in : gate ≤ 511) (sized : length bytes ≡ 32) (byte-wide : Bytes bytes) (c : Chip) (xs : List ℕ) (scl line shut : Bool)
    (select_in : c.select ≤ 7) (off : has_register c.part ≡ true → c.register.rpel ≡ false) (e : shut_at gate c ≡ shut) where
  -- the samples, at the chip's own select: the record waits, or the sector is locked
  run_samples : Plays (resting c xs c.counter c.mark scl line) (samples c.part c.select gate bytes)
      (heard_lead (has_register c.part) c.select ++ heard_message (record_row c.select gate bytes))
      (told_lead (has_register c.part) c.select ++ told_message (record_row c.select gate bytes) (cond shut 4 1))
      (world (chip_then (set c) gate bytes shut) xs)
  run_samples = go (has_register c.part) refl
    where
      go : (has : Bool) → has_register c.part ≡ has
          → Plays (resting c xs c.counter c.mark scl line)
          (pinned (λ k. false) (cond has (register_write c.select 0x02) []) ++ pinned (λ k. false) (message c.select (gate * 32) bytes))
          (heard_lead has c.select ++ heard_message (record_row c.select gate bytes)) (told_lead has c.select ++ told_message (record_row c.select gate bytes) (cond shut 4 1))
          (world (chip_then (set_by has c) gate bytes shut) xs)
      go true has =
          plays_then (pel_message_law c xs c.counter c.mark scl line false has select_in (off has))
          (sector_message (set_by true c) xs 0x0000 false true true false shut gate bytes select_in refl gate_in sized byte-wide e)
      go false none = unfold pinned in
          sector_message c xs c.counter c.mark scl line false shut gate bytes select_in (always_enabled c.part none c.register.pel) gate_in sized byte-wide e

  -- the whole run
  run : Plays (resting c xs c.counter c.mark scl line) (samples c.part c.select gate bytes ++ (ProgramDone ∷ []))
      (heard_all c.part c.select gate bytes) (told_all c.part c.select gate bytes (cond shut 4 1)) (world (ended gate c) (array_then xs gate bytes every_place shut))
  run =
      plays_then run_samples
      (subst (λ (d : Chip). Plays (world (chip_then (set c) gate bytes shut) xs) (ProgramDone ∷ []) (true ∷ []) (0 ∷ []) (world d (array_then xs gate bytes every_place shut)))
      (chip_ends gate c shut off e) (sector_done (set c) xs gate bytes sized shut))

-- a message says nothing before its STOP
row_silent : (row : List ℕ) (n : ℕ) → length row ≡ n → silent (begin ++ bytes_sent row) ≡ replicate (2 + n * 18) 0
row_silent row n h =
    let long : length (begin ++ bytes_sent row) ≡ 2 + n * 18 = rw (bytes_length row, h) (omega arith) in
    silent_all (begin ++ bytes_sent row) ∙ ap (λ (m : ℕ). replicate m 0) long

-- the notes are those that were promised
notes_come : (part select gate : ℕ) (bytes : List ℕ) (note : ℕ) → length bytes ≡ 32 → told_all part select gate bytes note ≡ notes_with part note
notes_come part select gate bytes note sized = go (has_register part)
  where
    second : silent (begin ++ bytes_sent (record_row select gate bytes)) ≡ replicate 632 0
    second = row_silent (record_row select gate bytes) 35 (rw sized refl)

    go : (has : Bool) → told_lead has select ++ told_message (record_row select gate bytes) note ++ (0 ∷ []) ≡ cond has (replicate 76 0 ++ (3 ∷ [])) [] ++ replicate 634 0 ++ (note ∷ 0 ∷ [])
    go true =
        ap₂ (λ (one two : List ℕ). (one ++ (0 ∷ 0 ∷ 3 ∷ []) ++ (two ++ (0 ∷ 0 ∷ note ∷ []))) ++ (0 ∷ []))
        (row_silent (pel_row select) 4 refl) second
    go false = ap (λ (two : List ℕ). (two ++ (0 ∷ 0 ∷ note ∷ [])) ++ (0 ∷ [])) second

-- and so are the acknowledges
acks_set : (part select gate : ℕ) (bytes : List ℕ) → has_register part ≡ true → (k : ℕ) → k < 4 → AckAt (2 + 18 * k) (heard_all part select gate bytes)
unfolding heard_row heard_sent twice
acks_set part select gate bytes has k h =
    rw has
    (row_acked (true ∷ false ∷ []) (pel_row select) ((false ∷ false ∷ true ∷ []) ++ (heard_message (record_row select gate bytes) ++ (true ∷ []))) k h)

acks_written : (part select gate : ℕ) (bytes : List ℕ) → length bytes ≡ 32 → (k : ℕ) → k < 35 → AckAt (lead part + 2 + 18 * k) (heard_all part select gate bytes)
unfolding heard_row heard_sent twice
acks_written part select gate bytes sized k h = go (has_register part)
  where
    go : (has : Bool) → AckAt (cond has 77 0 + 2 + 18 * k) (heard_lead has select ++ heard_message (record_row select gate bytes) ++ (true ∷ []))
    go true =
        subst (λ (end : List Bool). AckAt (79 + 18 * k) (heard_message (pel_row select) ++ (true ∷ false ∷ []) ++ (heard_row (record_row select gate []) ++ end)))
        (sym (append_assoc (heard_row bytes) (false ∷ false ∷ true ∷ []) (true ∷ [])))
        (row_acked (heard_message (pel_row select) ++ (true ∷ false ∷ [])) (record_row select gate bytes) (false ∷ false ∷ true ∷ true ∷ []) k (rw sized h))
    go false =
        subst (λ (end : List Bool). AckAt (2 + 18 * k) ((true ∷ false ∷ []) ++ (heard_row (record_row select gate []) ++ end)))
        (sym (append_assoc (heard_row bytes) (false ∷ false ∷ true ∷ []) (true ∷ [])))
        (row_acked (true ∷ false ∷ []) (record_row select gate bytes) (false ∷ false ∷ true ∷ true ∷ []) k (rw sized h))

-- 32 bytes stored in the sector of a gate are the record there, and nothing beside it
pub wrote : (gate : ℕ) (bytes xs : List ℕ) → gate ≤ 511 → length bytes ≡ 32 → length xs ≡ 16384 → Wrote gate bytes xs (stored xs (gate * 32) (chosen every_place) bytes)
wrote gate bytes xs gate_in sized all =
    record {
      sized = length_stored xs (gate * 32) (chosen every_place) bytes;
      sector =
          ext_get_or 0 (sector_of gate ys) bytes (long ∙ sym sized)
          (λ k h. let inside : k < 32 = rw long at h in
          sector_byte gate ys k inside ∙ stored_at xs (gate * 32) (chosen every_place) bytes k inside (omega arith) ∙ (rw (chosen_every k)));
      others = λ a apart. stored_outside xs gate (chosen every_place) bytes a (λ here. apart (omega arith));
    }
  where
    ys : List ℕ
    ys = stored xs (gate * 32) (chosen every_place) bytes

    long : length (sector_of gate ys) ≡ 32
    long = sector_length gate ys (omega (arith, length_stored xs (gate * 32) (chosen every_place) bytes))

-- stored by any choices they leave each byte of the sector old or new
cut_stored : (gate : ℕ) (bytes xs : List ℕ) (choices : ℕ) → gate ≤ 511 → length xs ≡ 16384 → Cut gate bytes xs (stored xs (gate * 32) (chosen choices) bytes)
cut_stored gate bytes xs choices gate_in all =
    record {
      sized = length_stored xs (gate * 32) (chosen choices) bytes;
      sector = λ k h. by_choice k (chosen choices k) (stored_at xs (gate * 32) (chosen choices) bytes k h (omega arith));
      others = λ a apart. stored_outside xs gate (chosen choices) bytes a (λ here. apart (omega arith));
    }
  where
    by_choice : (k : ℕ) (on : Bool) {byte : ℕ} → byte ≡ cond on (get_or bytes k 0) (get_or xs (gate * 32 + k) 0) → OldOrNew (get_or xs (gate * 32 + k) 0) (get_or bytes k 0) byte
    by_choice k true e = taken e
    by_choice k false e = kept e

-- and so does an array that is kept
cut_kept : (gate : ℕ) (bytes xs : List ℕ) → Cut gate bytes xs xs
cut_kept gate bytes xs = record { sized = refl; sector = λ k h. kept refl; others = λ a apart. refl }

-- wires with the pin at one level are samples
pinned_samples : (pins : ℕ → Bool) (wires : List Wires) → every is_sample (pinned pins wires) ≡ true
unfolding pinned every is_sample
pinned_samples pins [] = refl
pinned_samples pins (w ∷ rest) = pinned_samples (λ k. pins (suc k)) rest

-- two rows that are one pass where it does
every_parts : (first second : List Event) → every is_sample (first ++ second) ≡ true → (every is_sample first ≡ true) × (every is_sample second ≡ true)
unfolding every
every_parts [] second h = (refl, h)
every_parts (e ∷ first) second h =
    let rest = every_parts first second (and_right (is_sample e) (every is_sample (first ++ second)) h) in
    (rw (and_left (is_sample e) (every is_sample (first ++ second)) h) rest.0, rest.1)

-- a row of samples writes no byte
samples_write : (es : List Event) (w : World) → every is_sample es ≡ true → (ran es w).array ≡ w.array
samples_write es w h = stepped_each step is_sample (λ v. v.array ≡ w.array) (λ e v s same. one e v s ∙ same) es w h refl
  where
    one : (e : Event) (v : World) → is_sample e ≡ true → (step e v).array ≡ v.array
    one (Sample s) v h = unfold step in sample_array s v.chip v.array
    one ProgramDone v h = absurd (false≢true (unfold is_sample in h))
    one (PowerUp choices) v h = absurd (false≢true (unfold is_sample in h))

-- the events of the first bytes are the first events
map_take : (n : ℕ) (bytes : List ℕ) → map event_of (take n bytes) ≡ take n (map event_of bytes)
map_take zero bytes = refl
map_take (suc n) [] = refl
map_take (suc n) (byte ∷ bytes) = ap (λ (es : List Event). event_of byte ∷ es) (map_take n bytes)

-- For every record that is not refused, and every chip that the events are for
module _ (part select gate : ℕ) (bytes : List ℕ) (room : ℕ) (accepted : send_refusal part select gate bytes room ≡ 0) (byte-wide : Bytes bytes) (w : World) (ready : Ready part select w) where
  -- what was given
  given : Sendable part select gate bytes room
  given = send_taken part select gate bytes room accepted

  -- what the events leave, and what a trace of them answers
  abbrev left : World
  left = after (sent_events part select gate bytes) w

  abbrev answers : List ℕ
  answers = answers_of (sent_events part select gate bytes) w

  -- the chip and the array that they leave, by whether the sector is locked
  abbrev last : Bool → World
  last shut = world (ended gate w.chip) (array_then w.array gate bytes every_place shut)

  -- that chip, written out
  abbrev rested : World
  rested = resting w.chip w.array w.chip.counter w.chip.mark w.chip.scl w.chip.line

  -- the run from there
  runs : (shut : Bool) → shut_at gate w.chip ≡ shut
      → Plays w (map event_of (sent_events part select gate bytes)) (heard_all part select gate bytes) (told_all part select gate bytes (cond shut 4 1)) (last shut)
  runs shut e =
      subst (λ (v : World). Plays v (map event_of (sent_events part select gate bytes)) (heard_all part select gate bytes) (told_all part select gate bytes (cond shut 4 1)) (last shut))
      (ready_rests part select w ready)
      (subst₂ (λ (p s : ℕ). Plays rested (map event_of (sent_events p s gate bytes)) (heard_all p s gate bytes) (told_all p s gate bytes (cond shut 4 1)) (last shut))
      ready.fitted ready.selected
      (rw (events_are w.chip.part w.chip.select gate bytes)
      (run gate bytes given.gate_in given.sized byte-wide w.chip w.array w.chip.scl w.chip.line shut (rw ready.selected given.select_in) ready.rpel e)))

  -- chip and array
  leaves : (shut : Bool) → shut_at gate w.chip ≡ shut → left ≡ last shut
  unfolding after
  leaves shut e = (runs shut e).ends

  -- the chip, the notes and the acknowledges
  ends : (shut : Bool) → shut_at gate w.chip ≡ shut → Ends (cond shut 4 1) gate w left answers
  ends shut e =
      let heard : map answer_line answers ≡ heard_all part select gate bytes = lines_answered (sent_events part select gate bytes) w ∙ (runs shut e).hears in
      record {
        chip = ap (λ (v : World). v.chip) (leaves shut e);
        notes =
            notes_answered (sent_events part select gate bytes) w ∙ (runs shut e).tells ∙ notes_come part select gate bytes (cond shut 4 1) given.sized
            ∙ ap (λ (p : ℕ). notes_with p (cond shut 4 1)) (sym ready.fitted);
        setting = λ has k h. subst (AckAt (2 + 18 * k)) (sym heard) (acks_set part select gate bytes (ap has_register (sym ready.fitted) ∙ has) k h);
        writing = λ k h. subst₂ (λ (p : ℕ) (row : List Bool). AckAt (lead p + 2 + 18 * k) row) (sym ready.fitted) (sym heard) (acks_written part select gate bytes given.sized k h);
      }

  -- Run as a trace, which is not refused where the chip is in range: this is what it leaves and answers
  pub sent_run : chip_fits w.chip ≡ true → (old : List ℕ) → event_count part ≤ length old
      → ((ran_of w.chip w.array (sent_events part select gate bytes) old).refusal ≡ 0)
      × ((world (ran_of w.chip w.array (sent_events part select gate bytes) old).chip (run_array w.chip w.array (sent_events part select gate bytes) old) ≡ left)
      × (run_answers w.chip w.array (sent_events part select gate bytes) old ≡ answers ++ drop (event_count part) old))
  sent_run fits old room =
      let sized : length (sent_events part select gate bytes) ≡ event_count part = sent_length part select gate bytes given.sized in
      let whole-chip : refusal w.chip w.array ≡ 0 = taken_so w.chip w.array ready.whole fits in
      let few : length (sent_events part select gate bytes) ≤ 65536 = omega (arith, sized, lead_count part, lead_most part) in
      let enough : length (sent_events part select gate bytes) ≤ length old = omega arith in
      let all : all_events (sent_events part select gate bytes) ≡ true = sent_events_law part select gate bytes given.sized in (
        run_taken w.chip w.array (sent_events part select gate bytes) old whole-chip few enough all,
        (
          run_whole w.chip w.array (sent_events part select gate bytes) old whole-chip few enough all,
          run_answers_law w.chip w.array (sent_events part select gate bytes) old whole-chip few enough all ∙ ap (λ (n : ℕ). answers ++ drop n old) sized,
        ),
      )

  -- The chip is ready for the next record
  pub sent_again : Ready part select left
  sent_again = by_test (shut_at gate w.chip) refl
    where
      again : (ys : List ℕ) → length ys ≡ 16384 → left ≡ world (ended gate w.chip) ys → Ready part select left
      again ys whole e =
          subst (Ready part select) (sym e)
          (record { fitted = ready.fitted; selected = ready.selected; idle = refl; standby = refl; rpel = λ has. refl; load = refl; whole = whole })

      by_test : (shut : Bool) → shut_at gate w.chip ≡ shut → Ready part select left
      by_test true e = again w.array ready.whole (leaves true e)
      by_test false e = again (last false).array (length_stored w.array (gate * 32) (chosen every_place) bytes ∙ ready.whole) (leaves false e)

  -- the samples alone
  abbrev front : List Event
  front = samples part select gate bytes

  front_samples : every is_sample front ≡ true
  front_samples =
      every_on is_sample (pinned (λ k. false) (pel_message part select)) (pinned (λ k. false) (message select (gate * 32) bytes))
      (pinned_samples (λ k. false) (pel_message part select)) (pinned_samples (λ k. false) (message select (gate * 32) bytes))

  -- they leave the chip with the record waiting, or idle where the sector is locked
  front_ends : (shut : Bool) → shut_at gate w.chip ≡ shut → ran front w ≡ world (chip_then (set w.chip) gate bytes shut) w.array
  front_ends shut e =
      subst (λ (v : World). ran front v ≡ world (chip_then (set w.chip) gate bytes shut) w.array) (ready_rests part select w ready)
      (subst₂ (λ (p s : ℕ). ran (samples p s gate bytes) rested ≡ world (chip_then (set w.chip) gate bytes shut) w.array) ready.fitted ready.selected
      (run_samples gate bytes given.gate_in given.sized byte-wide w.chip w.array w.chip.scl w.chip.line shut (rw ready.selected given.select_in) ready.rpel e).ends)

  -- at a point before the program-done
  module _ (n : ℕ) (early : n < event_count part) where
    abbrev sofar : List Event
    sofar = take n front

    abbrev there : World
    there = ran sofar w

    -- the events so far are samples
    there_is : after (take n (sent_events part select gate bytes)) w ≡ there
    unfolding after
    there_is =
        let all : length (front ++ (ProgramDone ∷ [])) ≡ event_count part = ap length (sym (events_are part select gate bytes)) ∙ length-map (sent_events part select gate bytes) event_of ∙ sent_length part select gate bytes given.sized in
        let most : n ≤ length front = omega (arith, length-append front (ProgramDone ∷ [])) in
        ap (λ (es : List Event). ran es w) (map_take n (sent_events part select gate bytes) ∙ ap (take n) (events_are part select gate bytes) ∙ take-append-le n front (ProgramDone ∷ []) most)

    parts : (every is_sample sofar ≡ true) × (every is_sample (drop n front) ≡ true)
    parts = every_parts sofar (drop n front) (ap (every is_sample) (take-append-drop n front) ∙ front_samples)

    -- the rest leads to the end of the samples
    rest_leads : ran (drop n front) there ≡ ran front w
    rest_leads = sym (stepped_on step sofar (drop n front) w) ∙ ap (λ (es : List Event). ran es w) (take-append-drop n front)

    -- in a cycle then, what waits is what waits at that end, and the sector is not locked
    there_busy : there.chip.busy ≡ true → (shut : Bool) → shut_at gate w.chip ≡ shut → there.chip.wait ≡ wait_for gate (whole bytes)
    there_busy busy shut e =
        let still : Still (drop n front) there = busy_still (drop n front) there parts.1 busy in
        let end : ran (drop n front) there ≡ world (chip_then (set w.chip) gate bytes shut) w.array = rest_leads ∙ front_ends shut e in
        go shut (sym still.waiting ∙ ap (λ (v : World). v.chip.wait) end) (sym still.busy ∙ ap (λ (v : World). v.chip.busy) end)
      where
        go : (shut : Bool) → there.chip.wait ≡ (chip_then (set w.chip) gate bytes shut).wait → true ≡ (chip_then (set w.chip) gate bytes shut).busy → there.chip.wait ≡ wait_for gate (whole bytes)
        go true waiting b = absurd (false≢true (sym b))
        go false waiting b = waiting

    -- Cut off there by a power-up with any choices: each byte of the sector is the old one or the record's, and every other byte is kept
    pub sent_cut : (choices : ℕ) → Cut gate bytes w.array (cut_after n choices part select gate bytes w).array
    sent_cut choices =
        subst (λ (v : World). Cut gate bytes w.array (step (PowerUp choices) v).array) (sym there_is)
        (subst (Cut gate bytes w.array) (sym (by_test there.chip.busy refl).0) (by_test there.chip.busy refl).1)
      where
        same : there.array ≡ w.array
        same = samples_write sofar w parts.0

        -- the array that is left, whichever it is
        Left : Bool → Type 0
        Left busy = ((step (PowerUp choices) there).array ≡ cond busy (stored w.array (gate * 32) (chosen choices) bytes) w.array) × Cut gate bytes w.array (cond busy (stored w.array (gate * 32) (chosen choices) bytes) w.array)

        by_test : (busy : Bool) → there.chip.busy ≡ busy → Left busy
        by_test true b = (
          (unfold step next_array in
              cut_busy choices there.chip there.array b
              ∙ ap₂ (λ (u : Wait) (xs : List ℕ). end_array u choices xs) (there_busy b (shut_at gate w.chip) refl) same
              ∙ whole_ends gate bytes choices w.array given.sized),
          cut_stored gate bytes w.array choices given.gate_in ready.whole,
        )
        by_test false b = ((unfold step next_array in cut_idle choices there.chip there.array b ∙ same), cut_kept gate bytes w.array)

  -- A locked sector stays, and so does every other byte, with note 4
  pub sent_locked : shut_at gate w.chip ≡ true → Ends 4 gate w left answers × (left.array ≡ w.array)
  sent_locked e = (ends true e, ap (λ (v : World). v.array) (leaves true e))

  module _ (unlocked : shut_at gate w.chip ≡ false) where
    -- the array that is left
    stands : Wrote gate bytes w.array (last false).array
    stands = wrote gate bytes w.array given.gate_in given.sized ready.whole

    -- An unlocked sector then holds the record and every other byte is kept, with note 1
    pub sent_stored : Ends 1 gate w left answers × Wrote gate bytes w.array left.array
    sent_stored = (ends false unlocked, subst (λ (v : World). Wrote gate bytes w.array v.array) (sym (leaves false unlocked)) stands)

    -- From the record read before to the record read after: reading the sector gives what the record says
    pub sent_read : read_of (sector_of gate left.array) ≡ read_of bytes
    sent_read = ap read_of sent_stored.1.sector

    -- a random read at the chip's select returns the sector's bytes
    returned : (pins : ℕ → Bool) → Returns 32 (drop 2 (heard_of pins (begin ++ random_read select (gate * 32) 32) (last false))) (held (last false).array (gate * 32) 32)
    returned pins =
        let c : Chip = w.chip in
        let gate_in : gate ≤ 511 = given.gate_in in
        subst (λ (s : ℕ). Returns 32 (drop 2 (heard_of pins (begin ++ random_read s (gate * 32) 32) (last false))) (held (last false).array (gate * 32) 32)) ready.selected
        (rested_read (ended gate c) (last false).array (gate * 32) false true true (rw ready.selected given.select_in) (gate * 32) 32 (omega arith) pins)

    -- and so the record, whatever the pin
    pub sent_read_back : (pins : ℕ → Bool) → read_back pins select gate left ≡ bytes
    sent_read_back pins =
        let gate_in : gate ≤ 511 = given.gate_in in
        let same : held (last false).array (gate * 32) 32 ≡ bytes = held_part (last false).array 32 (gate * 32) (stands.sized ∙ ready.whole) (omega arith) ∙ stands.sector in
        rw (leaves false unlocked) (read_bytes 32 _ bytes (rw same at (returned pins)) byte-wide)
