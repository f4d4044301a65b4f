-- What the power-up does on the chip that was loaded, by `power_up_says`. Assumes nothing.
use Rattle.std.proofs.Common.{rules}
use Rattle.crepulanter.proofs.Says.{power_up_says}
use Rattle.crepulanter.proofs.chips.crep_power_up.Goals as goal

pub returns : goal.returns
returns c =
    rw c.status.ensures
    (power_up_says _ _ _ _ _ _ _ c.load-loaded.ensures
    (λ e is. let s = c.with_chip-done.ensures.refused e is in (s.0, s.1, search rules))
    (λ chip is. let s = c.with_chip-done.ensures.acted chip is in (s.left.now, search rules, search rules, s.state)))
