-- What the trace does on the chip that was loaded, by `run_says`. Assumes nothing.
use Rattle.std.proofs.Common.{rules}
use Rattle.crepulanter.proofs.Says.{run_says}
use Rattle.crepulanter.proofs.chips.crep_run.Goals as goal

pub returns : goal.returns
returns c =
    rw c.status.ensures
    (run_says _ _ _ _ _ _ _ _ _ c.load-loaded.ensures
    (λ e is. let s = c.with_chip-done.ensures.refused e is in (s.0, s.1, search rules, search rules))
    (λ chip is. let s = c.with_chip-done.ensures.acted chip is in (s.left.now, search rules, search rules, search rules, s.state)))
