-- Text on a page, numerals by their width, and how long a line is. Assumes nothing.
use Prim.Native.Nat.{ℕ, zero, suc, ◌+◌, ◌-◌, ◌*◌, ◌/◌, ◌≤◌, ◌<◌}
use mathlib.Core.Bool.{Bool, true, false, cond}
use mathlib.Core.Path.{◌≡◌, refl, sym, ap, ◌∙◌}
use mathlib.Core.List.{List, [], ◌∷◌, ◌++◌, append-nil, append_assoc}
use native.Mathlib.Numerals.{add-one}
use native.Mathlib.Omega.{arith}
use borrow.Author.Tests.{lt-ltb, le-ltb}
use borrow.Rule.Slice.PartMut.{put_mid}
use lib.Dec.{eqb, ltb}
use lib.ListN.{length, take, drop, set, get_or, length-append, length-drop}
use lib.Seq.{sets, sets-eq, take_all}
use Rattle.std.proofs.lemmas.Slice.{put_mid-paste}
use Rattle.trace.specs.Bytes.{answer_note}
use Rattle.report.specs.Text.{put, glyph, digits, width, numeral, note_line, event_line, lines_from, refused_word, refused_text}

-- one text after the other is their sum
pub put_append : (page : List ℕ) (at : ℕ) (s t : List ℕ) → put page at (s ++ t) ≡ put (put page at s) (at + length s) t
unfolding put
put_append page at [] t =
    let same : at ≡ at + 0 = omega arith in
    ap (λ (k : ℕ). put page k t) same
put_append page at (b ∷ s) t =
    let same : at + 1 + length s ≡ at + suc (length s) = omega arith in
    put_append (set page at b) (at + 1) s t ∙ ap (λ (k : ℕ). put (put (set page at b) (at + 1) s) k t) same

put_sets : (page : List ℕ) (at : ℕ) (s : List ℕ) → put page at s ≡ sets page at s
unfolding put
put_sets page at [] = refl
put_sets page at (b ∷ s) = put_sets (set page at b) (at + 1) s ∙ rw add-one

-- a text for which there is room, at the start: the rest of the page is as it was
pub put_start : (page s : List ℕ) → length s ≤ length page → put page 0 s ≡ s ++ drop (length s) page
put_start page s room =
    let none : 0 + length s ≡ length s = omega arith in
    put_sets page 0 s ∙ sets-eq s page 0 (omega arith) ∙ ap (λ (k : ℕ). s ++ drop k page) none

-- numerals of one digit, two, three, four
module _ (n : ℕ) where
  pub numeral_1 : n < 10 → numeral n ≡ glyph n ∷ []
  unfolding numeral width digits
  numeral_1 h = simp (lt-ltb _ _ h)

  pub numeral_2 : 10 ≤ n → n < 100 → numeral n ≡ glyph (n / 10) ∷ glyph n ∷ []
  unfolding numeral width digits
  numeral_2 l h = simp (le-ltb _ _ l, lt-ltb _ _ h)

  pub numeral_3 : 100 ≤ n → n < 1000 → numeral n ≡ glyph (n / 10 / 10) ∷ glyph (n / 10) ∷ glyph n ∷ []
  unfolding numeral width digits
  numeral_3 l h =
      let low : 10 ≤ n = omega arith in
      simp (le-ltb _ _ low, le-ltb _ _ l, lt-ltb _ _ h)

  pub numeral_4 : 1000 ≤ n → numeral n ≡ glyph (n / 10 / 10 / 10) ∷ glyph (n / 10 / 10) ∷ glyph (n / 10) ∷ glyph n ∷ []
  unfolding numeral width digits
  numeral_4 l =
      let low : 10 ≤ n = omega arith in
      let mid : 100 ≤ n = omega arith in
      simp (le-ltb _ _ low, le-ltb _ _ mid, le-ltb _ _ l)

-- a numeral has at most four digits
digits_length : (k n : ℕ) → length (digits k n) ≡ k
unfolding digits
digits_length zero n = refl
digits_length (suc k) n = length-append (digits k (n / 10)) (glyph n ∷ []) ∙ (rw (digits_length k (n / 10)) (add-one k))

width_by : (a b c : Bool) → cond a 1 (cond b 2 (cond c 3 4)) ≤ 4
width_by true b c = omega arith
width_by false true c = omega arith
width_by false false true = omega arith
width_by false false false = omega arith

pub width_short : (n : ℕ) → width n ≤ 4
unfolding width
width_short n = width_by (ltb n 10) (ltb n 100) (ltb n 1000)

pub numeral_short : (n : ℕ) → length (numeral n) ≤ 4
unfolding numeral
numeral_short n = rw (digits_length (width n) n) (width_short n)

-- a numeral is the end of the four last digits
numeral_end : (n : ℕ) → drop (4 - width n) (glyph (n / 1000) ∷ glyph (n / 100) ∷ glyph (n / 10) ∷ glyph n ∷ []) ≡ numeral n
unfolding numeral width digits
numeral_end n = go (ltb n 10) (ltb n 100) (ltb n 1000)
  where
    go :
        (a b c : Bool)
        → drop (4 - cond a 1 (cond b 2 (cond c 3 4))) (glyph (n / 1000) ∷ glyph (n / 100) ∷ glyph (n / 10) ∷ glyph n ∷ [])
        ≡ digits (cond a 1 (cond b 2 (cond c 3 4))) n
    go true b c = refl
    go false true c = refl
    go false false true =
        let hundreds : n / 100 ≡ n / 10 / 10 = omega arith in
        λ i. glyph (hundreds i) ∷ glyph (n / 10) ∷ glyph n ∷ []
    go false false false =
        let thousands : n / 1000 ≡ n / 10 / 10 / 10 = omega arith in
        let hundreds : n / 100 ≡ n / 10 / 10 = omega arith in
        λ i. glyph (thousands i) ∷ glyph (hundreds i) ∷ glyph (n / 10) ∷ glyph n ∷ []

-- so it is with a name for each part on the way
pub numeral_part :
    (n : ℕ) {w a b c d : ℕ}
    → w ≡ width n
    → a ≡ glyph (n / 1000)
    → b ≡ glyph (n / 100)
    → c ≡ glyph (n / 10)
    → d ≡ glyph n
    → take (4 - (4 - w)) (drop (4 - w) (a ∷ b ∷ c ∷ d ∷ [])) ≡ numeral n
numeral_part n {w} {a} {b} {c} {d} wide thousands hundreds tens ones =
    take_all (4 - (4 - w)) (drop (4 - w) (a ∷ b ∷ c ∷ d ∷ [])) (simp length-drop (omega arith))
    ∙ (λ i. drop (4 - wide i) (thousands i ∷ hundreds i ∷ tens i ∷ ones i ∷ []))
    ∙ numeral_end n

-- a text that is copied into a part of the page is put there
pub put_copied : (page : List ℕ) (at n : ℕ) (s t : List ℕ) → at + n ≤ length page → n ≡ length s → t ≡ s → put_mid at n page t ≡ put page at s
put_copied page at n s t room long same =
    let whole : put page at s ≡ take at page ++ s ++ drop (at + length s) page = put_sets page at s ∙ sets-eq s page at (omega arith) in
    put_mid-paste at n page t s n same refl long
    ∙ ap (λ (k : ℕ). take at page ++ take k s ++ drop (at + k) page) long
    ∙ ap (λ (l : List ℕ). take at page ++ l ++ drop (at + length s) page) (take_all (length s) s (omega arith))
    ∙ sym whole

-- a line by its parts: how long it is
module _ (position note : ℕ) where
  pub line_length : length (note_line position note) ≡ length (numeral position) + (length (numeral note) + 2)
  unfolding note_line
  line_length =
      let tail : length (0x20 ∷ (numeral note ++ (0x0a ∷ []))) ≡ length (numeral note) + 2 = simp length-append (omega arith) in
      length-append (numeral position) (0x20 ∷ (numeral note ++ (0x0a ∷ []))) ∙ ap (λ (k : ℕ). length (numeral position) + k) tail

  pub line_short : note < 10 → length (note_line position note) ≤ 7
  line_short h =
      let one : length (numeral note) ≡ 1 = ap (λ (l : List ℕ). length l) (numeral_1 note h) in
      omega (arith, line_length, numeral_short position)

-- an event's line is at most seven bytes, and so is each of a row
event_by : (b : Bool) (s : List ℕ) → length s ≤ 7 → length (cond b [] s) ≤ 7
event_by true s h = omega arith
event_by false s h = h

pub event_short : (position answer : ℕ) → length (event_line position answer) ≤ 7
unfolding event_line
event_short position answer = event_by (eqb (answer_note answer) 0) (note_line position (answer_note answer)) (line_short position (answer_note answer) (omega arith))

pub lines_short : (position : ℕ) (answers : List ℕ) → length (lines_from position answers) ≤ 7 * length answers
unfolding lines_from
lines_short position [] = omega arith
lines_short position (answer ∷ answers) =
    simp length-append (omega (arith, event_short position answer, lines_short (position + 1) answers))

-- one answer more has its line behind those of the others
lines_more :
    (position : ℕ) (answers : List ℕ) (i : ℕ)
    → i < length answers
    → lines_from position (take (suc i) answers) ≡ lines_from position (take i answers) ++ event_line (position + i) (get_or answers i 0)
unfolding lines_from
lines_more position [] i h = absurd (omega arith)
lines_more position (answer ∷ answers) zero h =
    let here : position ≡ position + 0 = omega arith in
    append-nil (event_line position answer) ∙ ap (λ (k : ℕ). event_line k answer) here
lines_more position (answer ∷ answers) (suc i) h =
    let further : position + 1 + i ≡ position + suc i = omega arith in
    ap (λ (l : List ℕ). event_line position answer ++ l)
    (lines_more (position + 1) answers i (omega arith) ∙ ap (λ (k : ℕ). lines_from (position + 1) (take i answers) ++ event_line k (get_or answers i 0)) further)
    ∙ sym (append_assoc (event_line position answer) (lines_from (position + 1) (take i answers)) (event_line (position + suc i) (get_or answers i 0)))

pub lines_again :
    (answers : List ℕ) (i : ℕ)
    → i < length answers
    → lines_from 0 (take i answers) ++ event_line i (get_or answers i 0) ≡ lines_from 0 (take (i + 1) answers)
lines_again answers i h =
    let none : i ≡ 0 + i = omega arith in
    ap (λ (k : ℕ). lines_from 0 (take i answers) ++ event_line k (get_or answers i 0)) none ∙ sym (lines_more 0 answers i h) ∙ rw add-one refl

-- a refusal by its length
pub refused_length : (number : ℕ) → length (refused_text number) ≡ 8 + length (numeral number) + 1
unfolding refused_text
refused_length number =
    let tail = length-append (numeral number) (0x0a ∷ []) in
    omega (arith, length-append refused_word (numeral number ++ (0x0a ∷ [])))
