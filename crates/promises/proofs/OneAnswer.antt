-- One answer for one input, for every public operation of every crate but the generic ones, `refusals::status` and `bench_io::read_full`, whose contracts
-- have types to choose besides. Each line of the list has an operation's contract, as the toolchain reads
-- it off the source, and the outcome that it names, in the words of its `ensures`: the answer, then one place a parameter, with the bytes that a
-- `&mut` holds afterwards; a contract that is a record of parts, or names an answer by what it stands for, is compared part by part. Two outcomes
-- are then equal, by one lemma or by the parts.
-- Assumes nothing.
use Prim.Native.Nat.{ℕ}
use mathlib.Core.List.{List, [], ◌∷◌, ◌++◌}
use mathlib.Core.Path.{◌≡◌, sym, ◌∙◌}
use contract.Lifetimes.{Lfts}
use lib.ListN.{length, drop}
use Rattle.parts.specs.Load.{no_load, full_of, loaded}
use Rattle.parts.specs.Locks.{locked}
use Rattle.parts.specs.Phase.{weight, received, bit_of, phase_fits, phase_pulls, risen}
use Rattle.parts.specs.Register.{has_register, register_byte}
use Rattle.parts.specs.Sector.{sector_start, next_place, next_address}
use Rattle.parts.specs.Wait.{alone as by_itself, no_wait, wait_for, target_fits, waits, end_array, locks_taken}
use Rattle.parts.proofs.register
use Rattle.parts.proofs.load
use Rattle.parts.proofs.locks
use Rattle.parts.proofs.sector
use Rattle.parts.proofs.phase
use Rattle.parts.proofs.wait
use Rattle.chip.specs.Chip.{with_spoil, standard_chip}
use Rattle.chip.proofs.chip.Chip
use Rattle.trace.specs.Bytes.{event_of, sample_byte, answer_byte}
use Rattle.trace.proofs as trace
use Rattle.map.proofs as map
use Rattle.recovery.proofs as recovery
use Rattle.refusals.specs.Refusals.{number_of}
use Rattle.refusals.proofs as refusals
use Rattle.refusals.proofs.Numbers.{same_status}
use Rattle.parts.specs.Note.{note_or_0}
use Rattle.parts.proofs.note
use Rattle.parts.proofs.NoteLaws.{same_written}
use Rattle.chip.proofs.ToldLaws.{same_moved, same_made, same_answer}
use Rattle.trace.proofs.RunLaws.{same_ran}
use Rattle.map.proofs.FindLaws.{same_found}
use Rattle.recovery.proofs.ToldLaws.{same_recovered}
use Rattle.gate.specs.Naming.{span_of, name_of}
use Rattle.gate.specs.Reading.{is_free}
use Rattle.gate.specs.Answer.{Refused, read_as, given_of}
use Rattle.gate.proofs as gate
use Rattle.gate.proofs.Answers.{same_read}
use Rattle.sender.proofs as sender
use Rattle.sender.proofs.Sends.{same_sent}
use Rattle.report.specs.Report.{report_of}
use Rattle.report.proofs as report
use Rattle.chip_bytes.specs.State.{flag_byte, bytes_fit, chip_of, bytes_of}
use Rattle.chip_bytes.proofs as chip_bytes
use Rattle.crepulanter.proofs as crepulanter
use Rattle.promises.specs.OneAnswer.{Contract, Input, Result, Left, Allows, Outcome, outcome, OneAnswer, whole}

-- a public operation, and that it has one answer for one input
pub record Operation : Type 3 where
  pub contract : Contract
  pub one_answer : OneAnswer contract

-- a contract that names its outcome allows that one alone
one : (c : Contract) (says : (κs : Lfts c.lifetimes) (input : Input c κs) → Outcome c κs input) → ((κs : Lfts c.lifetimes) (input : Input c κs) (r : Result c κs) (left : Left c κs input) → Allows c κs input r left → outcome c κs input r left ≡ says κs input) → Operation
one c says named =
    record {
      contract = c;
      one_answer = λ κs input r r' left left' p q. named κs input r left p ∙ sym (named κs input r' left' q);
    }

-- the answer is named, and nothing can be left that was not there
alone : {A U : Type 0} {r d : A} {left : U} → r ≡ d → ◌≡◌ {A = A × U} (r, left) (d, left)
alone {left} p i = (p i, left)

-- the answer and the bytes of the second parameter are named
with_array : {A U : Type 0} {r d : A} {left : Unit {0} × (List ℕ × U)} {ys : List ℕ} → (r ≡ d) × (left.1.0 ≡ ys) → ◌≡◌ {A = A × (Unit {0} × (List ℕ × U))} (r, left) (d, (tt, (ys, left.1.1)))
with_array {left} p i = (p.0 i, (tt, (p.1 i, left.1.1)))

-- two that are named by one definition are equal
both : {A : Type 0} {x y d : A} → x ≡ d → y ≡ d → x ≡ y
both p q = p ∙ sym q

-- a contract whose parts each name what they allow: part by part, two outcomes are equal
by_parts : (c : Contract) → OneAnswer c → Operation
by_parts c equal = record { contract = c; one_answer = equal }

-- the name shown is a slice: what the caller has of it is its bytes, and where they lie is the answer of `shown_span`
abbrev shown_name : Contract
shown_name =
    record {
      lifetimes = 1;
      parameters = gate.shown_name.Kinds.ps;
      result = gate.shown_name.Kinds.r;
      ensures = gate.shown_name.Reads.Post;
      Had = λ κs. List ℕ;
      had = λ κs r. r.now;
    }

-- the public operations, crate by crate
pub operations : List Operation
operations =
    -- Refusal::number
    one (whole 0 refusals.Refusal.number.Kinds.ps refusals.Refusal.number.Kinds.r refusals.Refusal.number.Reads.Post)
    (λ κs (self, end). (number_of self, (tt, tt)))
    (λ κs input r left. alone)
    -- parts::note::note_or_0
    ∷ one (whole 0 note.note_or_0.Kinds.ps note.note_or_0.Kinds.r note.note_or_0.Reads.Post)
    (λ κs (noted, end). (note_or_0 noted, (tt, tt)))
    (λ κs input r left. alone)
    -- parts::phase::bit_of
    ∷ one (whole 0 phase.bit_of.Kinds.ps phase.bit_of.Kinds.r phase.bit_of.Reads.Post)
    (λ κs (byte, (bit, end)). (bit_of byte bit, (tt, (tt, tt))))
    (λ κs input r left. alone)
    -- parts::phase::weigh
    ∷ one (whole 0 phase.weigh.Kinds.ps phase.weigh.Kinds.r phase.weigh.Reads.Post)
    (λ κs (on, (worth, end)). (weight on worth, (tt, (tt, tt))))
    (λ κs input r left p. alone p.0)
    -- parts::phase::with_bit
    ∷ one (whole 0 phase.with_bit.Kinds.ps phase.with_bit.Kinds.r phase.with_bit.Reads.Post)
    (λ κs (got, (bit, end)). (received got bit, (tt, (tt, tt))))
    (λ κs input r left. alone)
    -- Phase::fits
    ∷ one (whole 0 phase.Phase.fits.Kinds.ps phase.Phase.fits.Kinds.r phase.Phase.fits.Reads.Post)
    (λ κs (self, end). (phase_fits self, (tt, tt)))
    (λ κs input r left. alone)
    -- Phase::pulls
    ∷ one (whole 0 phase.Phase.pulls.Kinds.ps phase.Phase.pulls.Kinds.r phase.Phase.pulls.Reads.Post)
    (λ κs (self, end). (phase_pulls self, (tt, tt)))
    (λ κs input r left. alone)
    -- Phase::risen
    ∷ one (whole 0 phase.Phase.risen.Kinds.ps phase.Phase.risen.Kinds.r phase.Phase.risen.Reads.Post)
    (λ κs (self, (bit, end)). (risen self bit, (tt, (tt, tt))))
    (λ κs input r left. alone)
    -- Register::byte
    ∷ one (whole 0 register.Register.byte.Kinds.ps register.Register.byte.Kinds.r register.Register.byte.Reads.Post)
    (λ κs (self, end). (register_byte self, (tt, tt)))
    (λ κs input r left. alone)
    -- Register::write
    ∷ by_parts (whole 1 register.Register.write.Kinds.ps register.Register.write.Kinds.r register.Register.write.Reads.Post)
    (λ κs input r r' left left' p q i. let e = same_written (both p q) in (e.1 i, (e.0 i, (tt, (tt, tt)))))
    -- parts::register::has_register
    ∷ one (whole 0 register.has_register.Kinds.ps register.has_register.Kinds.r register.has_register.Reads.Post)
    (λ κs (part, end). (has_register part, (tt, tt)))
    (λ κs input r left. alone)
    -- parts::locks::is_locked
    ∷ one (whole 0 locks.is_locked.Kinds.ps locks.is_locked.Kinds.r locks.is_locked.Reads.Post)
    (λ κs (part, (bl, (pin, (address, end)))). (locked part bl pin address, (tt, (tt, (tt, (tt, tt))))))
    (λ κs input r left. alone)
    -- parts::sector::sector_start
    ∷ one (whole 0 sector.sector_start.Kinds.ps sector.sector_start.Kinds.r sector.sector_start.Reads.Post)
    (λ κs (address, end). (sector_start address, (tt, tt)))
    (λ κs input r left. alone)
    -- parts::sector::next_place
    ∷ one (whole 0 sector.next_place.Kinds.ps sector.next_place.Kinds.r sector.next_place.Reads.Post)
    (λ κs (address, end). (next_place address, (tt, tt)))
    (λ κs input r left. alone)
    -- parts::sector::next_address
    ∷ one (whole 0 sector.next_address.Kinds.ps sector.next_address.Kinds.r sector.next_address.Reads.Post)
    (λ κs (address, end). (next_address address, (tt, tt)))
    (λ κs input r left. alone)
    -- Load::none
    ∷ one (whole 0 load.Load.none.Kinds.ps load.Load.none.Kinds.r load.Load.none.Reads.Post)
    (λ κs end. (no_load, tt))
    (λ κs input r left. alone)
    -- Load::full
    ∷ one (whole 0 load.Load.full.Kinds.ps load.Load.full.Kinds.r load.Load.full.Reads.Post)
    (λ κs (byte, end). (full_of byte, (tt, tt)))
    (λ κs input r left. alone)
    -- Load::add, which answers nothing and changes the load
    ∷ one (whole 1 load.Load.add.Kinds.ps load.Load.add.Kinds.r load.Load.add.Reads.Post)
    (λ κs (self, (at, (byte, end))). (tt, (loaded self.now at byte, (tt, (tt, tt)))))
    (λ κs input r left p i. (tt, (p i, left.1)))
    -- Target::fits
    ∷ one (whole 0 wait.Target.fits.Kinds.ps wait.Target.fits.Kinds.r wait.Target.fits.Reads.Post)
    (λ κs (self, end). (target_fits self, (tt, tt)))
    (λ κs input r left. alone)
    -- Target::waits
    ∷ one (whole 0 wait.Target.waits.Kinds.ps wait.Target.waits.Kinds.r wait.Target.waits.Reads.Post)
    (λ κs (self, end). (waits self, (tt, tt)))
    (λ κs input r left. alone)
    -- Wait::alone
    ∷ one (whole 0 wait.Wait.alone.Kinds.ps wait.Wait.alone.Kinds.r wait.Wait.alone.Reads.Post)
    (λ κs (target, end). (by_itself target, (tt, tt)))
    (λ κs input r left. alone)
    -- Wait::none
    ∷ one (whole 0 wait.Wait.none.Kinds.ps wait.Wait.none.Kinds.r wait.Wait.none.Reads.Post)
    (λ κs end. (no_wait, tt))
    (λ κs input r left. alone)
    -- Wait::of
    ∷ one (whole 1 wait.Wait.of.Kinds.ps wait.Wait.of.Kinds.r wait.Wait.of.Reads.Post)
    (λ κs (number, (load, end)). (wait_for number load.now, (tt, (tt, tt))))
    (λ κs input r left. alone)
    -- Wait::end, which answers nothing and stores in the array
    ∷ one (whole 2 wait.Wait.end.Kinds.ps wait.Wait.end.Kinds.r wait.Wait.end.Reads.Post)
    (λ κs (self, (array, (choices, end))). (tt, (tt, (end_array self.now choices array.now, (tt, tt)))))
    (λ κs input r left p i. (tt, (tt, (p i, left.1.1))))
    -- Register::taken
    ∷ one (whole 0 register.Register.taken.Kinds.ps register.Register.taken.Kinds.r register.Register.taken.Reads.Post)
    (λ κs (self, (target, (choices, end))). (locks_taken target choices self, (tt, (tt, (tt, tt)))))
    (λ κs input r left. alone)
    -- Chip::standard
    ∷ one (whole 0 Chip.standard.Kinds.ps Chip.standard.Kinds.r Chip.standard.Reads.Post)
    (λ κs end. (standard_chip, tt))
    (λ κs input r left. alone)
    -- Chip::new
    ∷ by_parts (whole 0 Chip.new.Kinds.ps Chip.new.Kinds.r Chip.new.Reads.Post)
    (λ κs input r r' left left' p q i. (same_made r r' (both p q) i, (tt, (tt, tt))))
    -- Chip::with_spoil
    ∷ one (whole 0 Chip.with_spoil.Kinds.ps Chip.with_spoil.Kinds.r Chip.with_spoil.Reads.Post)
    (λ κs (self, (spoil, end)). (with_spoil self spoil, (tt, (tt, tt))))
    (λ κs input r left. alone)
    -- Chip::next
    ∷ by_parts (whole 2 Chip.next.Kinds.ps Chip.next.Kinds.r Chip.next.Reads.Post)
    (λ κs input r r' left left' p q i. let e = same_moved (both p.0 q.0) in (e.1 i, (e.0 i, (both p.1 q.1 i, (tt, tt)))))
    -- Chip::check
    ∷ by_parts (whole 2 Chip.check.Kinds.ps Chip.check.Kinds.r Chip.check.Reads.Post)
    (λ κs input r r' left left' p q i. (same_status r r' (both p q) i, (tt, (tt, tt))))
    -- Chip::event
    ∷ by_parts (whole 2 Chip.event.Kinds.ps Chip.event.Kinds.r Chip.event.Reads.Post)
    (λ κs input r r' left left' p q i. let e = same_answer r r' (both p.0 q.0) in (e.0 i, (e.1 i, (both p.1 q.1 i, (tt, tt)))))
    -- Chip::power_up
    ∷ by_parts (whole 2 Chip.power_up.Kinds.ps Chip.power_up.Kinds.r Chip.power_up.Reads.Post)
    (λ κs input r r' left left' p q i. let e = same_answer r r' (both p.0 q.0) in (e.0 i, (e.1 i, (both p.1 q.1 i, (tt, tt)))))
    -- trace::event_of
    ∷ one (whole 0 trace.event_of.Kinds.ps trace.event_of.Kinds.r trace.event_of.Reads.Post)
    (λ κs (byte, end). (event_of byte, (tt, tt)))
    (λ κs input r left. alone)
    -- trace::sample_byte
    ∷ one (whole 0 trace.sample_byte.Kinds.ps trace.sample_byte.Kinds.r trace.sample_byte.Reads.Post)
    (λ κs (scl, (sda, (pin, end))). (sample_byte scl sda pin, (tt, (tt, (tt, tt)))))
    (λ κs input r left. alone)
    -- trace::answer_byte
    ∷ one (whole 0 trace.answer_byte.Kinds.ps trace.answer_byte.Kinds.r trace.answer_byte.Reads.Post)
    (λ κs (line, (note, end)). (answer_byte line note, (tt, (tt, tt))))
    (λ κs input r left. alone)
    -- trace::run
    ∷ by_parts (whole 4 trace.run.Kinds.ps trace.run.Kinds.r trace.run.Reads.Post)
    (λ κs input r r' left left' p q i. let e = same_ran r r' (both p.0 q.0) in (e.0 i, (e.1 i, (both p.1.0 q.1.0 i, (tt, (both p.1.1 q.1.1 i, tt))))))
    -- trace::check
    ∷ by_parts (whole 3 trace.check.Kinds.ps trace.check.Kinds.r trace.check.Reads.Post)
    (λ κs input r r' left left' p q i. (same_status r r' (both p q) i, (tt, (tt, (tt, (tt, tt))))))
    -- map::build
    ∷ by_parts (whole 2 map.build.Kinds.ps map.build.Kinds.r map.build.Reads.Post)
    (λ κs input r r' left left' p q i. (same_status r r' (both p.0 q.0) i, (tt, (both p.1 q.1 i, tt))))
    -- map::first_free
    ∷ by_parts (whole 1 map.first_free.Kinds.ps map.first_free.Kinds.r map.first_free.Reads.Post)
    (λ κs input r r' left left' p q i. (same_found r r' (both p q) i, (tt, tt)))
    -- map::event
    ∷ by_parts (whole 3 map.event.Kinds.ps map.event.Kinds.r map.event.Reads.Post)
    (λ κs input r r' left left' p q i. let e = same_answer r r' (both p.0 q.0) in (e.0 i, (e.1 i, (both p.1.0 q.1.0 i, (both p.1.1 q.1.1 i, (tt, tt))))))
    -- map::power_up
    ∷ by_parts (whole 3 map.power_up.Kinds.ps map.power_up.Kinds.r map.power_up.Reads.Post)
    (λ κs input r r' left left' p q i. let e = same_answer r r' (both p.0 q.0) in (e.0 i, (e.1 i, (both p.1.0 q.1.0 i, (both p.1.1 q.1.1 i, (tt, tt))))))
    -- map::run
    ∷ by_parts (whole 5 map.run.Kinds.ps map.run.Kinds.r map.run.Reads.Post)
    (λ κs input r r' left left' p q i. let e = same_ran r r' (both p.0 q.0) in (e.0 i, (e.1 i, (both p.1.0 q.1.0 i, (both p.1.1.0 q.1.1.0 i, (tt, (both p.1.1.1 q.1.1.1 i, tt)))))))
    -- recovery::recover
    ∷ by_parts (whole 2 recovery.recover.Kinds.ps recovery.recover.Kinds.r recovery.recover.Reads.Post)
    (λ κs input r r' left left' p q i. let e = same_recovered r r' (both p.0 q.0) in (e.0 i, (e.1 i, (both p.1 q.1 i, (tt, tt)))))
    -- gate::write
    ∷ by_parts (whole 2 gate.write.Kinds.ps gate.write.Kinds.r gate.write.Reads.Post)
    (λ κs input r r' left left' p q i. (same_status r r' (both p.0 q.0) i, (both p.1 q.1 i, (tt, (tt, (tt, tt))))))
    -- gate::set_limits
    ∷ by_parts (whole 1 gate.set_limits.Kinds.ps gate.set_limits.Kinds.r gate.set_limits.Reads.Post)
    (λ κs input r r' left left' p q i. (same_status r r' (both p.0 q.0) i, (both p.1 q.1 i, (tt, (tt, tt)))))
    -- gate::is_free
    ∷ one (whole 1 gate.is_free.Kinds.ps gate.is_free.Kinds.r gate.is_free.Reads.Post)
    (λ κs (bytes, end). (is_free bytes.now, (tt, tt)))
    (λ κs input r left. alone)
    -- gate::read
    ∷ by_parts (whole 1 gate.read.Kinds.ps gate.read.Kinds.r gate.read.Reads.Post)
    (λ κs input r r' left left' p q i. (same_read r r' (both p q) i, (tt, tt)))
    -- Given::from
    ∷ one (whole 0 gate.answer.GivenFromResultOptionGateRefusal.from.Kinds.ps gate.answer.GivenFromResultOptionGateRefusal.from.Kinds.r gate.answer.GivenFromResultOptionGateRefusal.from.Reads.Post)
    (λ κs (answer, end). (given_of (read_as answer), (tt, tt)))
    (λ κs input r left. alone)
    -- Given::refused
    ∷ one (whole 0 gate.answer.Given.refused.Kinds.ps gate.answer.Given.refused.Kinds.r gate.answer.Given.refused.Reads.Post)
    (λ κs (number, end). (given_of (Refused number), (tt, tt)))
    (λ κs input r left. alone)
    -- gate::shown_span
    ∷ one (whole 2 gate.shown_span.Kinds.ps gate.shown_span.Kinds.r gate.shown_span.Reads.Post)
    (λ κs (bytes, (standard, end)). (span_of bytes.now standard.now, (tt, (tt, tt))))
    (λ κs input r left. alone)
    -- gate::shown_name
    ∷ one shown_name
    (λ κs (bytes, (standard, end)). (name_of bytes.now standard.now, (tt, (tt, tt))))
    (λ κs input r left. alone)
    -- sender::send
    ∷ by_parts (whole 2 sender.send.Kinds.ps sender.send.Kinds.r sender.send.Reads.Post)
    (λ κs input r r' left left' p q i. (same_sent r r' (both p.0 q.0) i, (tt, (tt, (tt, (tt, (both p.1 q.1 i, tt)))))))
    -- report::write_report
    ∷ one (whole 2 report.write_report.Kinds.ps report.write_report.Kinds.r report.write_report.Reads.Post)
    (λ κs (chip, (bytes, (page, end))). (length (report_of chip bytes.now), (tt, (tt, (report_of chip bytes.now ++ drop (length (report_of chip bytes.now)) page.now, tt)))))
    (λ κs input r left p i. (p.0 i, (tt, (tt, (p.1 i, tt)))))
    -- chip_bytes::flag_byte
    ∷ one (whole 0 chip_bytes.flag_byte.Kinds.ps chip_bytes.flag_byte.Kinds.r chip_bytes.flag_byte.Reads.Post)
    (λ κs (on, end). (flag_byte on, (tt, tt)))
    (λ κs input r left. alone)
    -- chip_bytes::pack
    ∷ one (whole 1 chip_bytes.pack.Kinds.ps chip_bytes.pack.Kinds.r chip_bytes.pack.Reads.Post)
    (λ κs (chip, end). (bytes_of chip.now, (tt, tt)))
    (λ κs input r left. alone)
    -- chip_bytes::bytes_fit
    ∷ one (whole 1 chip_bytes.bytes_fit.Kinds.ps chip_bytes.bytes_fit.Kinds.r chip_bytes.bytes_fit.Reads.Post)
    (λ κs (state, end). (bytes_fit state.now, (tt, tt)))
    (λ κs input r left. alone)
    -- chip_bytes::unpack
    ∷ one (whole 1 chip_bytes.unpack.Kinds.ps chip_bytes.unpack.Kinds.r chip_bytes.unpack.Reads.Post)
    (λ κs (state, end). (chip_of state.now, (tt, tt)))
    (λ κs input r left. alone)
    -- crep_new
    ∷ by_parts (whole 1 crepulanter.crep_new.Kinds.ps crepulanter.crep_new.Kinds.r crepulanter.crep_new.Reads.Post)
    (λ κs input r r' left left' p q i. (both p.returned q.returned i, (both p.state q.state i, (tt, (tt, tt)))))
    -- crep_event
    ∷ by_parts (whole 3 crepulanter.crep_event.Kinds.ps crepulanter.crep_event.Kinds.r crepulanter.crep_event.Reads.Post)
    (λ κs input r r' left left' p q i. (both p.returned q.returned i, (both p.state q.state i, (both p.array q.array i, (tt, (both p.answered q.answered i, tt))))))
    -- crep_run
    ∷ by_parts (whole 4 crepulanter.crep_run.Kinds.ps crepulanter.crep_run.Kinds.r crepulanter.crep_run.Reads.Post)
    (λ κs input r r' left left' p q i. (both p.returned q.returned i, (both p.state q.state i, (both p.array q.array i, (tt, (both p.answers q.answers i, tt))))))
    -- crep_power_up
    ∷ by_parts (whole 3 crepulanter.crep_power_up.Kinds.ps crepulanter.crep_power_up.Kinds.r crepulanter.crep_power_up.Reads.Post)
    (λ κs input r r' left left' p q i. (both p.returned q.returned i, (both p.state q.state i, (both p.array q.array i, (tt, (both p.answered q.answered i, tt))))))
    -- crep_recover
    ∷ by_parts (whole 3 crepulanter.crep_recover.Kinds.ps crepulanter.crep_recover.Kinds.r crepulanter.crep_recover.Reads.Post)
    (λ κs input r r' left left' p q i. (both p.returned q.returned i, (both p.state q.state i, (both p.array q.array i, (tt, (both p.pulsed q.pulsed i, tt))))))
    -- crep_record_write
    ∷ by_parts (whole 2 crepulanter.crep_record_write.Kinds.ps crepulanter.crep_record_write.Kinds.r crepulanter.crep_record_write.Reads.Post)
    (λ κs input r r' left left' p q i. (both p.0 q.0 i, (both p.1 q.1 i, (tt, (tt, (tt, tt))))))
    -- crep_record_limits
    ∷ by_parts (whole 1 crepulanter.crep_record_limits.Kinds.ps crepulanter.crep_record_limits.Kinds.r crepulanter.crep_record_limits.Reads.Post)
    (λ κs input r r' left left' p q i. (both p.0 q.0 i, (both p.1 q.1 i, (tt, (tt, tt)))))
    -- crep_record_read
    ∷ by_parts (whole 6 crepulanter.crep_record_read.Kinds.ps crepulanter.crep_record_read.Kinds.r crepulanter.crep_record_read.Reads.Post)
    (λ κs input r r' left left' p q i. (both p.returned q.returned i, (tt, (both p.shut q.shut i, (both p.wide q.wide i, (both p.between q.between i, (both p.labelled q.labelled i, (both p.unused q.unused i, tt))))))))
    -- crep_name
    ∷ by_parts (whole 5 crepulanter.crep_name.Kinds.ps crepulanter.crep_name.Kinds.r crepulanter.crep_name.Reads.Post)
    (λ κs input r r' left left' p q i. (both p.returned q.returned i, (tt, (tt, (both p.first q.first i, (both p.counted q.counted i, (both p.within q.within i, tt)))))))
    -- crep_send
    ∷ by_parts (whole 3 crepulanter.crep_send.Kinds.ps crepulanter.crep_send.Kinds.r crepulanter.crep_send.Reads.Post)
    (λ κs input r r' left left' p q i. (both p.returned q.returned i, (tt, (tt, (tt, (tt, (both p.trace q.trace i, (both p.counted q.counted i, tt))))))))
    -- crep_map_build
    ∷ by_parts (whole 2 crepulanter.crep_map_build.Kinds.ps crepulanter.crep_map_build.Kinds.r crepulanter.crep_map_build.Reads.Post)
    (λ κs input r r' left left' p q i. (both p.0 q.0 i, (tt, (both p.1 q.1 i, tt))))
    -- crep_map_first
    ∷ by_parts (whole 2 crepulanter.crep_map_first.Kinds.ps crepulanter.crep_map_first.Kinds.r crepulanter.crep_map_first.Reads.Post)
    (λ κs input r r' left left' p q i. (both p.returned q.returned i, (tt, (both p.found q.found i, tt))))
    -- crep_map_event
    ∷ by_parts (whole 4 crepulanter.crep_map_event.Kinds.ps crepulanter.crep_map_event.Kinds.r crepulanter.crep_map_event.Reads.Post)
    (λ κs input r r' left left' p q i. (both p.returned q.returned i, (both p.state q.state i, (both p.array q.array i, (both p.map q.map i, (tt, (both p.answered q.answered i, tt)))))))
    -- crep_map_power_up
    ∷ by_parts (whole 4 crepulanter.crep_map_power_up.Kinds.ps crepulanter.crep_map_power_up.Kinds.r crepulanter.crep_map_power_up.Reads.Post)
    (λ κs input r r' left left' p q i. (both p.returned q.returned i, (both p.state q.state i, (both p.array q.array i, (both p.map q.map i, (tt, (both p.answered q.answered i, tt)))))))
    -- crep_map_run
    ∷ by_parts (whole 5 crepulanter.crep_map_run.Kinds.ps crepulanter.crep_map_run.Kinds.r crepulanter.crep_map_run.Reads.Post)
    (λ κs input r r' left left' p q i. (both p.returned q.returned i, (both p.state q.state i, (both p.array q.array i, (both p.map q.map i, (tt, (both p.answers q.answers i, tt)))))))
    ∷ []
