-- The rows of `bytes_of` are copied one behind the other, so that after each the bytes up to its end are in place; what waits is the last. Assumes nothing.
use Rattle.std.proofs.Common.{◌≡◌, ◌∙◌, ◌++◌, [], List, ℕ, length, refl, arith, rules, append_assoc, ap}
use Rattle.chip_bytes.specs.At as at
use Rattle.chip_bytes.specs.State.{wait_bytes, bytes_of}
use Rattle.chip_bytes.proofs.Copies.{Front, front_more, front_one}
use Rattle.chip_bytes.proofs.packing.copy_chip.Goals as goal

pub returns : goal.returns
unfolding bytes_of
returns c =
    let old = c.args.state.now in
    let chip = c.args.chip.now in
    let head = c.copy_from_slice.new.self in
    let loaded = c.copy_from_slice-2.new.self in
    let bytes = c.copy_from_slice-3.new.self in
    let head-long : length head ≡ at.places = search rules in
    let loaded-long : length loaded ≡ 32 = search rules in
    let bytes-long : length bytes ≡ 32 = search rules in
    let none : Front 0 [] old = record { sized = search rules; placed = refl } in
    let one = front_more none head at.places head-long (omega arith) refl in
    let two = front_more one loaded 32 loaded-long (omega arith) refl in
    let three = front_more two bytes 32 bytes-long (omega arith) refl in
    let four = front_one three chip.spoil (omega arith) refl in
    c.copy_wait.ensures
    ∙ ap (λ (l : List ℕ). l ++ wait_bytes chip.wait) four.placed
    ∙ simp (c.copy_from_slice.ensures.after, c.copy_from_slice-2.ensures.after, c.copy_from_slice-3.ensures.after, c.head_bytes.ensures, c.flag_bytes.ensures, append_assoc)
