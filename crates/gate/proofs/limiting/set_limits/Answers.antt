use Rattle.std.proofs.Common.{◌≡◌, ◌∙◌, ℕ, List, take, sym, ap, rules}
use Rattle.gate.specs.Form.{sealed_of}
use Rattle.gate.specs.Reading.{read_of}
use Rattle.gate.specs.Limiting.{limits_of, relimited}
use Rattle.gate.proofs.Limited.{limited_good}
use Rattle.gate.proofs.limiting.set_limits.Goals as goal

pub returns-in_err-bytes-clause-number : goal.returns-in_err-bytes-clause-number
unfolding limits_of read_of
returns-in_err-bytes-clause-number c = search rules

pub returns-clause-bytes : goal.returns-clause-bytes
unfolding relimited
returns-clause-bytes c =
    let a = c.args in
    let closed : c.in_ok-limits.limits.closed ≡ a.closed = search rules in
    let opened : c.in_ok-limits.limits.opened ≡ a.opened = search rules in
    let same : c.in_ok-bytes.bytes.now ≡ a.bytes.now = search rules in
    let number : limits_of a.bytes.now a.closed a.opened ≡ 0 = search rules in
    c.seal.ensures
    ∙ ap (λ (d : List ℕ). sealed_of (take 30 d)) c.put_limits.ensures
    ∙ rw (closed, opened, same) (sym (limited_good a.bytes.now a.closed a.opened number))
