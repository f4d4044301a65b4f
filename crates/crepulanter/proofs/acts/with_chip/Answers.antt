-- The chip that `act` left is packed where it was taken; else the bytes stay, by `kept_by`. Assumes nothing.
use Rattle.std.proofs.Common.{rules, ◌≡◌}
use Rattle.trace.specs.Trace.{unless}
use Rattle.crepulanter.proofs.Says.{kept_by}
use Rattle.crepulanter.proofs.acts.with_chip.Goals as goal

pub returns-clause-acted : goal.returns-clause-acted
unfolding unless
returns-clause-acted g c = λ chip is.
    let was = c.in_ok-chip.was in
    record { shown = _; shows = cc; left = _; acted = rw c.in_ok-answer.was at c.act.ensures; state = c.pack.ensures }

pub returns-in_err-answer-clause-acted : goal.returns-in_err-answer-clause-acted
returns-in_err-answer-clause-acted g c = λ chip is.
    let was = c.in_ok-chip.was in
    let same : c.act.result ≡ c.from_residual-in_err-answer.result = search rules in
    record { shown = _; shows = cc; left = _; acted = rw same at c.act.ensures; state = kept_by _ _ _ (search rules) }
