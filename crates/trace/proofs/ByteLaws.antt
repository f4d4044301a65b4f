-- Event bytes and answer bytes read back: a sample's byte is that sample, an answer byte has its line and its note, and so what a trace answers has the
-- lines and the notes of the row that it runs. Assumes nothing.
use Prim.Native.Nat.{ℕ, ◌+◌, ◌*◌, ◌/◌, ◌%◌, ◌≤◌}
use mathlib.Core.Bool.{Bool, true, false}
use mathlib.Core.Path.{◌≡◌, refl, ap₂}
use mathlib.Core.List.{List, [], ◌∷◌, map}
use native.Mathlib.Omega.{arith}
use borrow.Author.Tests.{eq-eqb, ne_eqb}
use Rattle.chip.specs.Run.{World, step, note_of, lines, notes}
use Rattle.chip.specs.Wire.{sample}
use Rattle.chip.proofs.ViewLaws.{next_note}
use Rattle.trace.specs.Bytes.{event_of, sample_byte, is_event, answer_byte, answer_line, answer_note}
use Rattle.trace.specs.Trace.{answers_of}

-- the byte of a sample is read as that sample
pub sample_event : (scl sda pin : Bool) → event_of (sample_byte scl sda pin) ≡ sample scl sda pin
unfolding event_of
sample_event true true true = refl
sample_event true true false = refl
sample_event true false true = refl
sample_event true false false = refl
sample_event false true true = refl
sample_event false true false = refl
sample_event false false true = refl
sample_event false false false = refl

-- and is an event byte
pub sample_taken : (scl sda pin : Bool) → is_event (sample_byte scl sda pin) ≡ true
sample_taken true true true = refl
sample_taken true true false = refl
sample_taken true false true = refl
sample_taken true false false = refl
sample_taken false true true = refl
sample_taken false true false = refl
sample_taken false false true = refl
sample_taken false false false = refl

-- bit 0 of an answer byte is its line
answer_line_law : (line : Bool) (note : ℕ) → answer_line (answer_byte line note) ≡ line
answer_line_law true note = eq-eqb ((1 + note % 8 * 2) / 1 % 2) 1 (omega arith)
answer_line_law false note = ne_eqb ((0 + note % 8 * 2) / 1 % 2) 1 (omega arith)

-- the lines in what a trace answers are those after each of its events
pub lines_answered : (bytes : List ℕ) (w : World) → map answer_line (answers_of bytes w) ≡ lines (map event_of bytes) w
unfolding answers_of lines
lines_answered [] w = refl
lines_answered (byte ∷ bytes) w =
    ap₂ (λ (b : Bool) (l : List Bool). b ∷ l) (answer_line_law (step (event_of byte) w).chip.line (note_of (event_of byte) w)) (lines_answered bytes (step (event_of byte) w))

-- bits 1-3 are its note
answer_note_law : (line : Bool) (note : ℕ) → note ≤ 7 → answer_note (answer_byte line note) ≡ note
answer_note_law true note h = omega arith
answer_note_law false note h = omega arith

-- and the notes are theirs
pub notes_answered : (bytes : List ℕ) (w : World) → map answer_note (answers_of bytes w) ≡ notes (map event_of bytes) w
unfolding answers_of notes note_of
notes_answered [] w = refl
notes_answered (byte ∷ bytes) w =
    ap₂ (λ (n : ℕ) (l : List ℕ). n ∷ l) (answer_note_law (step (event_of byte) w).chip.line (note_of (event_of byte) w) (next_note (event_of byte) w.chip w.array)) (notes_answered bytes (step (event_of byte) w))
