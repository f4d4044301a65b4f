-- Demand 3, over the three parts: whatever noise comes with the protect pin high, a protected chip is freed by ten pulses and then reads back every
-- locked byte.
-- Assumes nothing.
use Prim.Native.Nat.{ℕ, ◌+◌, ◌%◌, ◌≤◌}
use mathlib.Core.Bool.{Bool, true, false, false≢true}
use mathlib.Core.List.{List, [], ◌∷◌, ◌++◌}
use mathlib.Core.Path.{◌≡◌, refl, ap, ◌∙◌, sym, subst, subst₂}
use native.Mathlib.Omega.{arith}
use borrow.Author.Tests.{le-leb}
use lib.ListN.{length, get_or, drop}
use Rattle.parts.specs.Register.{has_register}
use Rattle.parts.specs.Sector.{Bytes}
use Rattle.parts.specs.Rows.{every, stepped}
use Rattle.parts.proofs.ByteLaws.{same_bytes}
use Rattle.parts.proofs.CondLaws.{cond_by}
use Rattle.parts.proofs.PhaseLaws.{got_of}
use Rattle.parts.proofs.RowLaws.{every_on, stepped_on}
use Rattle.parts.specs.declared.phase.Phase.TheVariants.{Standby}
use Rattle.chip.specs.Chip.{chip_fits, at_power_up}
use Rattle.chip.specs.Event.{next, program_done, refusal}
use Rattle.chip.specs.Run.{World, world, step}
use Rattle.chip.specs.View.{pin_high, pins_high}
use Rattle.chip.specs.declared.wire.Event.TheVariants.{ProgramDone}
use Rattle.chip.proofs.EventLaws.{next_taken, taken_of, taken_so}
use Rattle.chip.proofs.FitLaws.{up_fits, fits_of, fits_so}
use Rattle.chip.proofs.RunLaws.{ran_same, ran_taken, ran_guarded, ran_bytes}
use Rattle.chip.proofs.StepLaws.{none_octets}
use Rattle.recovery.specs.Pulses.{Unchanged}
use Rattle.recovery.specs.Recovery.{recovered, recovery_answer, recovery_array}
use Rattle.recovery.proofs.TenPulses.{first_high}
use Rattle.recovery.proofs.Recovering.{recovery_keeps, recovery_starts, recovery_taken}
use Rattle.trace.specs.Trace.{answers_of, ran_of, run_answers}
use Rattle.trace.proofs.RunLaws.{run_taken, run_answers_law}
use Rattle.messages.specs.RandomRead.{random_read, held, Returns}
use Rattle.messages.specs.Wires.{heard_of}
use Rattle.messages.proofs.Held.{held_same, held_bytes}
use Rattle.messages.proofs.RandomRead.{random_read_law, read_bytes}
use Rattle.messages.proofs.Spelling.{spelled_events}
use Rattle.promises.specs.Demand3.{FromPowerUp, Scene, noisy, done, free, at_start, the_read, heard, Protected, Promised}

-- For any idle chip in range, in whatever state it is: after its recovery a random read at its own select is acknowledged and returns the
-- bytes of its array
pub freed_and_read : (pin : Bool) (w : World) → chip_fits w.chip ≡ true → w.chip.busy ≡ false → (address n : ℕ) → address ≤ 0x3fff → (pins : ℕ → Bool)
    → Returns n (heard_of pins (random_read w.chip.select address n) (recovered pin w)) (held w.array address n)
freed_and_read pin w fits idle address n h pins =
    let v : World = recovered pin w in
    let keeps : Unchanged w v = recovery_keeps pin w in
    let select_in : v.chip.select ≤ 7 = subst (λ (k : ℕ). k ≤ 7) (sym keeps.select) (fits_of w.chip fits).select in
    subst₂ (λ (k : ℕ) (xs : List ℕ). Returns n (heard_of pins (random_read k address n) v) (held xs address n)) keeps.select keeps.array
    (random_read_law v (recovery_starts pin w fits idle) select_in address n h pins)

-- program-done ends busy
done_idle : (w : World) → (step ProgramDone w).chip.busy ≡ false
unfolding step next program_done
done_idle w = cond_by (λ c. c.busy ≡ false) w.chip.busy _ w.chip (λ b. refl) (λ b. b)

module _ (s : Scene) (w : World) (taken : refusal w.chip w.array ≡ 0) (p : Protected s w) where
  -- recovery is not refused after the noise: still an array of 16,384 bytes
  done_taken : refusal (done s w).chip (done s w).array ≡ 0
  unfolding step
  done_taken = next_taken ProgramDone (noisy s w).chip (noisy s w).array (ran_taken s.noise w taken)

  -- and a chip in range
  done_in : chip_fits (done s w).chip ≡ true
  done_in = (taken_of (done s w).chip (done s w).array done_taken).1

  -- with its own select
  select_same : (done s w).chip.select ≡ w.chip.select
  unfolding stepped
  select_same = ap (λ (v : World). v.chip.select) (sym (stepped_on step s.noise (ProgramDone ∷ []) w)) ∙ (ran_same (s.noise ++ (ProgramDone ∷ [])) w).1

  -- the noise and the program-done leave every locked byte
  noise_keeps : held (done s w).array s.address s.n ≡ held w.array s.address s.n
  unfolding stepped every pin_high
  noise_keeps =
      held_same (done s w).array w.array s.n s.address p.address_in
      (λ k l. ap (λ (v : World). get_or v.array ((s.address + k) % 0x4000) 0) (sym (stepped_on step s.noise (ProgramDone ∷ []) w))
      ∙ (ran_guarded (s.noise ++ (ProgramDone ∷ [])) w p.ppen_set p.idle (every_on pin_high s.noise (ProgramDone ∷ []) p.pin_is_high refl)).bytes ((s.address + k) % 0x4000) (p.stays_locked k l))

  -- and the read returns them
  read_back : Returns s.n (heard s w) (held w.array s.address s.n)
  read_back =
      subst₂ (λ (k : ℕ) (bytes : List ℕ). Returns s.n (heard_of s.pins (random_read k s.address s.n) (at_start s w)) bytes) select_same noise_keeps
      (freed_and_read s.pin (done s w) done_in (done_idle (noisy s w)) s.address s.n p.address_in s.pins)

  -- what the code answers
  answers : recovery_answer s.pin (done s w).chip (done s w).array ≡ record { refusal = 0; chip = (at_start s w).chip; pulses = (free s w).pulses }
  unfolding recovery_answer
  answers = rw done_taken

  -- and leaves in the array
  answers_array : recovery_array s.pin (done s w).chip (done s w).array ≡ (at_start s w).array
  unfolding recovery_array
  answers_array = rw done_taken

  -- the read is not refused either
  reads : (room : List ℕ) → length (the_read s w) ≤ 65536 → length (the_read s w) ≤ length room
      → ((ran_of (at_start s w).chip (at_start s w).array (the_read s w) room).refusal ≡ 0)
      × (run_answers (at_start s w).chip (at_start s w).array (the_read s w) room ≡ answers_of (the_read s w) (at_start s w) ++ drop (length (the_read s w)) room)
  reads room few fits =
      let free = recovery_taken s.pin (done s w) done_taken in
      let events = spelled_events s.pins (random_read w.chip.select s.address s.n) in (
        run_taken (at_start s w).chip (at_start s w).array (the_read s w) room free few fits events,
        run_answers_law (at_start s w).chip (at_start s w).array (the_read s w) room free few fits events,
      )

-- Demand 3 for any chip in range with an array of 16,384 bytes, however it came there
pub protected_read : (s : Scene) (w : World) → refusal w.chip w.array ≡ 0 → Bytes w.array → Protected s w → Promised s w
protected_read s w taken b p =
    let back : Returns s.n (heard s w) (held w.array s.address s.n) = read_back s w taken p in
    record {
      line_high = first_high s.pin (done s w) (done_in s w taken p);
      start_seen = recovery_starts s.pin (done s w) (done_in s w taken p) (done_idle (noisy s w));
      recovery_keeps = recovery_keeps s.pin (done s w);
      code_answers = answers s w taken p;
      code_array = answers_array s w taken p;
      code_reads = reads s w taken p;
      acknowledged = back.acknowledged;
      bits = back.bits;
      bytes =
          read_bytes s.n (heard s w) (held w.array s.address s.n) back
          (held_bytes w.array s.n s.address b);
    }

-- Demand 3: take a chip run from power-up that is protected
pub demand_3 : (s : Scene) (w : World) → FromPowerUp w → Protected s w → Promised s w
unfolding got_of
demand_3 s w f p =
    protected_read s w
    (rw f.after_run (ran_taken f.run up (taken_so up.chip up.array f.array_whole (fits_so up.chip (up_fits f.part f.select f.ppen f.bl f.spoil f.part_in f.select_in f.bl_in)))))
    (rw f.after_run (ran_bytes f.run up (none_octets Standby (omega arith), f.array_bytes, f.spoil_in, same_bytes 32 0 (omega arith))).1)
    p
  where
    up : World
    up = world (at_power_up f.part f.select f.ppen f.bl f.spoil) f.array

-- For the part without a register it takes no more than this: not busy, the pin high in every sample, a read within 3000h-3FFFh
pub demand_3_by_pin : (s : Scene) (w : World) → FromPowerUp w → has_register w.chip.part ≡ false → w.chip.busy ≡ false → pins_high s.noise ≡ true
    → 0x3000 ≤ s.address → s.address ≤ 0x3fff → s.address + s.n ≤ 0x4000 → Promised s w
demand_3_by_pin s w f none idle high from inside within =
    demand_3 s w f
    (record {
      idle = idle;
      ppen_set = λ has. absurd (false≢true (sym none ∙ has));
      region_locked = λ has. absurd (false≢true (sym none ∙ has));
      pin_is_high = high;
      address_in = inside;
      stays_locked = λ k l. rw none (le-leb 0x3000 ((s.address + k) % 0x4000) (omega arith));
    })
