-- The rows of `wait_bytes` are copied one behind the other, so that after each the bytes up to its end are in place. Assumes nothing.
use Rattle.std.proofs.Common.{◌≡◌, ◌∙◌, ◌++◌, length, take, refl, arith, rules, append_assoc}
use Rattle.chip_bytes.specs.At as at
use Rattle.chip_bytes.specs.State.{wait_bytes}
use Rattle.chip_bytes.proofs.Copies.{Front, front_more, front_end}
use Rattle.chip_bytes.proofs.packing.copy_wait.Goals as goal

pub returns : goal.returns
unfolding wait_bytes
returns c =
    let old = c.args.state.now in
    let kind = c.copy_from_slice.new.self in
    let taking = c.copy_from_slice-2.new.self in
    let bytes = c.copy_from_slice-3.new.self in
    let kind-long : length kind ≡ 5 = search rules in
    let taking-long : length taking ≡ 32 = search rules in
    let bytes-long : length bytes ≡ 32 = search rules in
    let none : Front at.wait (take at.wait old) old = record { sized = search rules; placed = refl } in
    let one = front_more none kind 5 kind-long (omega arith) refl in
    let two = front_more one taking 32 taking-long (omega arith) refl in
    let three = front_more two bytes 32 bytes-long (omega arith) refl in
    front_end three
    ∙ append_assoc (take at.wait old ++ kind) taking bytes
    ∙ append_assoc (take at.wait old) kind (taking ++ bytes)
    ∙ simp (c.copy_from_slice.ensures.after, c.copy_from_slice-2.ensures.after, c.copy_from_slice-3.ensures.after, c.target_bytes.ensures, c.flag_bytes.ensures)
