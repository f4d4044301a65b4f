use Rattle.std.proofs.Common.{◌≡◌, sym, ◌∙◌, rules, tests}
use Rattle.refusals.specs.Refusals.{number_of}
use Rattle.refusals.proofs.Numbers.{never_0}
use Rattle.gate.specs.Writing.{write_of}
use Rattle.gate.proofs.Writes.{written_good, written_refused}
use Rattle.gate.proofs.writing.write.Goals as goal

pub returns-in_err-limits-clause-bytes : goal.returns-in_err-limits-clause-bytes
unfolding write_of
returns-in_err-limits-clause-bytes c =
    let a = c.args in
    let refusal = c.in_err-limits.field-0.0 in
    let number : number_of refusal ≡ write_of a.buffer.now a.closed a.opened a.label.now = search (rules, tests) in
    let same : c.in_ok-buffer.buffer.now ≡ a.buffer.now = search rules in
    same ∙ sym (written_refused a.buffer.now a.closed a.opened a.label.now (λ taken. never_0 refusal (number ∙ taken)))

pub returns-clause-bytes : goal.returns-clause-bytes
unfolding write_of
returns-clause-bytes c =
    let a = c.args in
    let closed : c.in_ok-limits.limits.closed ≡ a.closed = search rules in
    let opened : c.in_ok-limits.limits.opened ≡ a.opened = search rules in
    let number : write_of a.buffer.now a.closed a.opened a.label.now ≡ 0 = search (rules, tests) in
    c.put_record.ensures ∙ rw (closed, opened) (sym (written_good a.buffer.now a.closed a.opened a.label.now number))
