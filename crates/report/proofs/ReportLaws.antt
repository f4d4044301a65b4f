-- Which of its texts a report is, by what running the trace answers; and how long a report can be. Assumes nothing.
use Prim.Native.Nat.{ℕ, ◌+◌, ◌≤◌, ◌<◌}
use mathlib.Core.Bool.{Bool, true, false, cond}
use mathlib.Core.Path.{◌≡◌, refl, sym, ap, ap₂, ◌∙◌}
use mathlib.Core.List.{List, ◌++◌}
use native.Mathlib.Omega.{arith}
use borrow.Author.Tests.{le-leb, lt-leb, leb-true, ne_eqb}
use lib.Dec.{eqb, leb}
use lib.ListN.{length, take, drop, length-append, length-replicate}
use lib.Seq.{take_at}
use Rattle.parts.specs.Sector.{erased}
use Rattle.chip.specs.Chip.{chip_fits}
use Rattle.chip.specs.Run.{world}
use Rattle.chip.specs.declared.chip.Chip.{Chip}
use Rattle.chip.proofs.EventLaws.{taken_so}
use Rattle.trace.specs.Bytes.{all_events}
use Rattle.trace.specs.Trace.{Ran, answers_of, run_refusal, run_answers, ran_of, unless}
use Rattle.trace.proofs.RunLaws.{length_answers}
use Rattle.report.specs.Report.{answer_text, report_of}
use Rattle.report.specs.Text.{numeral, heading, events_word, lines_from, count_text, refused_text}
use Rattle.report.proofs.TextLaws.{numeral_short, lines_short, refused_length}

-- heading, lines and count by their length
module _ (answers : List ℕ) (n : ℕ) (all : length answers ≡ n) where
  pub answers_length : length (answer_text answers) ≡ 11 + length (lines_from 0 answers) + length (numeral n) + 8
  unfolding answer_text count_text
  answers_length =
      let count = length-append (numeral (length answers)) events_word in
      let rest = length-append (lines_from 0 answers) (numeral (length answers) ++ events_word) in
      let same : length (numeral (length answers)) ≡ length (numeral n) = ap (λ (k : ℕ). length (numeral k)) all in
      omega (arith, length-append heading (lines_from 0 answers ++ (numeral (length answers) ++ events_word)))

-- 11 bytes of heading, 7 for each of 4,096 lines, 4 and 8 for the count
pub answers_room : (answers : List ℕ) → length answers ≤ 4096 → length (answer_text answers) ≤ 28695
answers_room answers few =
    omega (arith, answers_length answers (length answers) refl, lines_short 0 answers, numeral_short (length answers))

pub refused_room : (number : ℕ) → length (refused_text number) ≤ 28695
refused_room number = omega (arith, refused_length number, numeral_short number)

-- so no report is longer, whatever the chip and the bytes
room_by : (few taken : Bool) (a r : List ℕ) → (few ≡ true → length a ≤ 28695) → length r ≤ 28695 → length (cond few (cond taken a r) (refused_text 4)) ≤ 28695
room_by true true a r long short = long refl
room_by true false a r long short = short
room_by false taken a r long short = refused_room 4

pub report_room : (c : Chip) (bytes : List ℕ) → length (report_of c bytes) ≤ 28695
unfolding report_of
report_room c bytes =
    let answers : List ℕ = answers_of bytes (world c erased) in
    room_by (leb (length bytes) 4096) (eqb (run_refusal c erased bytes 4096) 0) (answer_text answers) (refused_text (run_refusal c erased bytes 4096))
    (λ few. answers_room answers (rw (length_answers bytes (world c erased)) (leb-true (length bytes) 4096 few)))
    (refused_room (run_refusal c erased bytes 4096))

-- a trace that is too long
pub report_long : (c : Chip) (bytes : List ℕ) → 4096 < length bytes → refused_text 4 ≡ report_of c bytes
unfolding report_of
report_long c bytes many = simp (lt-leb _ _ many)

-- the texts of a chip in range, by the two tests that are left
ranged_by :
    (few events : Bool) (number : ℕ) (a : List ℕ)
    → (few ≡ true → number ≡ cond events 0 6)
    → cond few (cond (eqb number 0) a (refused_text number)) (refused_text 4) ≡ cond few (cond events a (refused_text 6)) (refused_text 4)
ranged_by true true number a h = rw (h refl) refl
ranged_by true false number a h = rw (h refl) refl
ranged_by false events number a h = refl

-- so for chips of every part: over 4,096 events are refused with 4, then a byte that is no event with 6, and nothing else is refused
pub report_ranged :
    (c : Chip) (bytes : List ℕ)
    → chip_fits c ≡ true
    → report_of c bytes
    ≡ cond (leb (length bytes) 4096) (cond (all_events bytes) (answer_text (answers_of bytes (world c erased))) (refused_text 6)) (refused_text 4)
unfolding report_of run_refusal
report_ranged c bytes fits =
    ranged_by (leb (length bytes) 4096) (all_events bytes) (run_refusal c erased bytes 4096) (answer_text (answers_of bytes (world c erased)))
    (λ few. rw (taken_so c erased (length-replicate {A = ℕ} 0x4000 0xff) fits, le-leb (length bytes) 65536 (omega (arith, leb-true (length bytes) 4096 few)), few) refl)

-- what was run on an erased array
module _ (c : Chip) (bytes old : List ℕ) {xs : List ℕ} {answered : Ran} (few : length bytes ≤ 4096) (room : length old ≡ 4096) (all : xs ≡ erased)
    (e : answered ≡ ran_of c xs bytes old) where
  number : answered.refusal ≡ run_refusal c erased bytes 4096
  unfolding ran_of
  number = ap (λ (a : Ran). a.refusal) e ∙ ap₂ (λ (ys : List ℕ) (k : ℕ). run_refusal c ys bytes k) all room

  -- a trace that is run: the text of its answers
  pub report_ran : {told : List ℕ} → answered.refusal ≡ 0 → told ≡ run_answers c xs bytes old → answer_text (take (length bytes) told) ≡ report_of c bytes
  unfolding report_of run_answers unless
  report_ran {told} zero said =
      let none : run_refusal c erased bytes 4096 ≡ 0 = sym number ∙ zero in
      let answers : take (length bytes) told ≡ answers_of bytes (world c erased) =
      ap (take (length bytes)) (said ∙ simp (all, room, none))
      ∙ take_at (answers_of bytes (world c erased)) (drop (length bytes) old) (length bytes) (length_answers bytes (world c erased)) in
      simp (answers, none, le-leb _ _ few)

  -- one that is refused: its number alone
  pub report_refused : (answered.refusal ≡ 0 → ⊥) → refused_text answered.refusal ≡ report_of c bytes
  unfolding report_of
  report_refused left =
      let some : run_refusal c erased bytes 4096 ≡ 0 → ⊥ = λ z. left (number ∙ z) in
      simp (number, ne_eqb _ _ some, le-leb _ _ few)
