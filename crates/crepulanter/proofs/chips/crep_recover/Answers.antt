-- What the recovery does on the chip that was loaded, by `recover_says`. Assumes nothing.
use Rattle.std.proofs.Common.{rules, ◌≡◌}
use Rattle.crepulanter.specs.Calls.{pulses_told}
use Rattle.crepulanter.proofs.Says.{recover_says}
use Rattle.crepulanter.proofs.chips.crep_recover.Goals as goal

pub returns : goal.returns
returns c =
    let told : c.unwrap_or.result ≡ pulses_told c.with_chip-freed.result = search rules in
    rw (c.status.ensures, told)
    (recover_says _ _ _ _ _ _ _ c.load-loaded.ensures
    (λ e is. let s = c.with_chip-freed.ensures.refused e is in (s.0, s.1, search rules))
    (λ chip is. let s = c.with_chip-freed.ensures.acted chip is in (s.left.now, search rules, search rules, s.state)))
