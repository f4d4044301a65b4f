-- Laws of the name shown: the two spans that it can have.
-- Assumes nothing.
use mathlib.Core.Path.{◌≡◌, sym, ap, ◌∙◌}
use mathlib.Core.Bool.{true, false}
use mathlib.Core.List.{List}
use Prim.Native.Nat.{ℕ}
use borrow.Author.Tests.{eq-eqb, ne_eqb}
use lib.IntN.{ℤ}
use lib.ListN.{length, take, drop}
use lib.Seq.{take-length}
use Rattle.gate.specs.Label.{trimmed_length}
use Rattle.gate.specs.Reading.{read_of}
use Rattle.gate.specs.Naming.{own_length, span_of, name_of}
use Rattle.gate.specs.Answer.{Good}

module _ (bytes standard : List ℕ) where
  -- where no byte of the record is shown, the name is the standard label, whole
  pub standard_span : own_length bytes (read_of bytes) ≡ 0 → span_of bytes standard ≡ record { own = false; start = 0; len = length standard }
  unfolding span_of
  standard_span e = rw (eq-eqb (own_length bytes (read_of bytes)) 0 e)

  -- so its bytes are those of the standard label
  pub standard_name : own_length bytes (read_of bytes) ≡ 0 → name_of bytes standard ≡ standard
  standard_name e = rw (standard_span e) (take-length standard)

  -- where n bytes of it are shown, they are those from byte 6 on
  pub own_span : (n : ℕ) → own_length bytes (read_of bytes) ≡ n → (n ≡ 0 → ⊥) → span_of bytes standard ≡ record { own = true; start = 6; len = n }
  unfolding span_of
  own_span n e some = rw (e, ne_eqb n 0 some)

  -- and its bytes are theirs
  pub own_name : (n : ℕ) → own_length bytes (read_of bytes) ≡ n → (n ≡ 0 → ⊥) → name_of bytes standard ≡ take n (drop 6 bytes)
  own_name n e some = rw (own_span n e some)

-- of a good record what is left of its label is shown
pub good_own : {c o t : ℤ} {n : ℕ} (bytes : List ℕ) (m : ℕ) → read_of bytes ≡ Good c o t n → m ≡ trimmed_length (take n (drop 6 bytes)) n → own_length bytes (read_of bytes) ≡ m
good_own bytes m good e = ap (own_length bytes) good ∙ sym e
