-- A map that is built once and kept finds what reading every record finds; a sender run keeps it true; and a gate is added in the first free sector. Assumes nothing.
use Prim.Native.Nat.{ℕ, ◌≤◌, ◌<◌}
use mathlib.Core.Bool.{true, false, not, true≢false}
use mathlib.Core.List.{List, map}
use mathlib.Core.Path.{◌≡◌, refl, sym, ap, ◌∙◌}
use native.Mathlib.Decide.{ℕ_discrete, dec_lt}
use native.Mathlib.Omega.{arith}
use lib.IntN.{pos}
use lib.ListN.{length-replicate, replicate}
use Rattle.parts.specs.Locks.{first_locked}
use Rattle.parts.specs.Rows.{stepped}
use Rattle.parts.specs.Sector.{Bytes, erased}
use Rattle.parts.proofs.ByteLaws.{same_bytes}
use Rattle.parts.proofs.RowLaws.{stepped_by}
use Rattle.parts.proofs.SectorLaws.{sector_same}
use Rattle.chip.specs.Run.{World}
use Rattle.gate.specs.Answer.{says_free}
use Rattle.gate.specs.Reading.{read_of, is_free}
use Rattle.gate.proofs.Witness.{north_taken}
use Rattle.trace.specs.Bytes.{event_of}
use Rattle.trace.specs.Trace.{after}
use Rattle.sender.specs.Sending.{event_count, sent_events, send_refusal}
use Rattle.sender.proofs.Sends.{Sendable, send_taken, written_sent}
use Rattle.map.specs.Finding.{Sector, first_from, found_at, first_free, first_read}
use Rattle.map.specs.Keeping.{kept_over}
use Rattle.map.specs.Sectors.{bit_at, Beside, entered_to, build_refusal, built_of}
use Rattle.map.proofs.FindLaws.{read_free, first_true, first_sector}
use Rattle.map.proofs.KeepLaws.{row_keeps, answer_keeps, run_keeps}
use Rattle.map.proofs.MapLaws.{entered_to_bytes, build_true, built_beside}
use Rattle.promises.specs.Cases.{buffer, north}
use Rattle.promises.specs.Map.{Call, Pair, pair, called, Added}
use Rattle.promises.specs.Map.Call.{one, row}
use Rattle.promises.specs.Sender.{Ready, shut_at, Wrote}
use Rattle.promises.specs.SenderRuns.{north_record, up}
use Rattle.promises.proofs.Sender.{sent_stored}
use Rattle.promises.proofs.SenderRuns.{up_ready, north_bytes}

-- every call keeps the map true
call_keeps : (call : Call) (p : Pair) → Beside p.array p.map → Beside (called call p).array (called call p).map
unfolding called
call_keeps (one c e) p b = answer_keeps e c p.array p.map b
call_keeps (row c bytes old) p b = run_keeps c p.array p.map bytes old b

-- Built once, and kept over any calls of any chips, refused ones among them: the map alone gives what a full reading finds, none included
pub built_first : (calls : List Call) (xs m : List ℕ) → build_refusal xs m ≡ 0 → Bytes m
    → let p : Pair = stepped called calls (pair xs (built_of xs m)) in
    Beside p.array p.map × (first_free p.map ≡ first_read p.array)
built_first calls xs m taken b =
    let kept : Beside (stepped called calls (pair xs (built_of xs m))).array (stepped called calls (pair xs (built_of xs m))).map =
    stepped_by called (λ q. Beside q.array q.map) call_keeps calls (pair xs (built_of xs m)) (built_beside xs m taken b) in
    (kept, first_true _ _ kept.map kept.whole)

-- a record that can be sent is not free
not_free : (part select gate : ℕ) (bytes : List ℕ) (room : ℕ) → Sendable part select gate bytes room → is_free bytes ≡ false
not_free part select gate bytes room s = sym (read_free bytes s.sized) ∙ ap says_free s.good

-- For every record that is not refused, every chip that the events are for, and a true map of its array
module _ (part select gate : ℕ) (bytes : List ℕ) (room : ℕ) (taken : send_refusal part select gate bytes room ≡ 0) (byte-wide : Bytes bytes) (w : World) (ready : Ready part select w)
    (m : List ℕ) (b : Beside w.array m) where
  abbrev left : List ℕ
  left = (after (sent_events part select gate bytes) w).array

  abbrev map_left : List ℕ
  map_left = kept_over (map event_of (sent_events part select gate bytes)) w m

  -- A sender run keeps the map true
  pub sent_keeps : Beside left map_left
  unfolding after
  sent_keeps = row_keeps (map event_of (sent_events part select gate bytes)) w m b

  -- Sent to the first free sector, where that is unlocked, it adds the gate
  pub sent_added : shut_at gate w.chip ≡ false → first_free m ≡ Sector gate → Added gate bytes w.array m left map_left
  sent_added unlocked first = record { wrote = stands; kept = sent_keeps; own = own_bit; others = other_bits; later = λ k e. go k e (dec_lt gate k) }
    where
      stands : Wrote gate bytes w.array left
      stands = (sent_stored part select gate bytes room taken byte-wide w ready unlocked).1

      found : (gate < 512) × (bit_at gate m ≡ false) × ((k : ℕ) → k < gate → bit_at k m ≡ true)
      found = first_sector m gate first

      own_bit : bit_at gate map_left ≡ true
      own_bit =
          sent_keeps.map.bits gate found.0
          ∙ ap (λ (r : List ℕ). not (is_free r)) stands.sector
          ∙ ap not (not_free part select gate bytes room (send_taken part select gate bytes room taken))

      other_bits : (k : ℕ) → k < 512 → (k ≡ gate → ⊥) → bit_at k map_left ≡ bit_at k m
      other_bits k h other =
          sent_keeps.map.bits k h
          ∙ ap (λ (r : List ℕ). not (is_free r)) (sector_same k left w.array stands.sized (λ a here. stands.others a (λ there. other (omega arith))))
          ∙ sym (b.map.bits k h)

      go : (k : ℕ) → first_free map_left ≡ Sector k → Dec (gate < k) → gate < k
      go k e (yes h) = h
      go k e (no h) = absurd (earlier (ℕ_discrete k gate))
        where
          free_then : bit_at k map_left ≡ false
          free_then = (first_sector map_left k e).1

          earlier : Dec (k ≡ gate) → ⊥
          earlier (yes same) = true≢false (sym own_bit ∙ ap (λ (n : ℕ). bit_at n map_left) (sym same) ∙ free_then)
          earlier (no other) = true≢false (sym (found.2 k (omega arith)) ∙ sym (other_bits k (omega (arith, found.0)) other) ∙ free_then)

-- the map that is built of an array of FFh from 64 zeros
abbrev pub first_map : List ℕ
first_map = entered_to 512 erased (replicate 64 0)

-- is true
pub first_beside : Beside erased first_map
first_beside =
    let zeros : Bytes (replicate 64 0) = same_bytes 64 0 (omega arith) in
    record {
      whole = length-replicate {A = ℕ} 0x4000 0xff;
      bytes = entered_to_bytes erased (replicate 64 0) 512 zeros;
      map = build_true erased (replicate 64 0) (length-replicate {A = ℕ} 64 0) zeros;
    }

-- in an empty array sector 0 is the first that is free
pub empty_first : first_free first_map ≡ Sector 0
unfolding first_from found_at read_of is_free
empty_first = first_true erased first_map first_beside.map first_beside.whole

-- what the record of worked case 4 leaves, sent as gate 0's to a chip of this part
abbrev pub AddedOn : ℕ → Type 0
AddedOn part = Added 0 north_record erased first_map (after (sent_events part 5 0 north_record) (up part 0)).array (kept_over (map event_of (sent_events part 5 0 north_record)) (up part 0) first_map)

-- It speaks of something: that record is added there, on each part
pub north_added : AddedOn 0 × AddedOn 1 × AddedOn 2
unfolding first_locked
north_added = (on 0 (omega arith) refl, on 1 (omega arith) refl, on 2 (omega arith) refl)
  where
    on : (part : ℕ) → part ≤ 2 → shut_at 0 (up part 0).chip ≡ false → AddedOn part
    on part part_in unlocked =
        sent_added part 5 0 north_record (event_count part)
        (written_sent buffer (pos 0) (pos 1200) north north_taken part 5 0 (event_count part) part_in (omega arith) (omega arith) (omega arith)) north_bytes
        (up part 0) (up_ready part 5 true 0 0x00 erased first_beside.whole)
        first_map first_beside unlocked empty_first
