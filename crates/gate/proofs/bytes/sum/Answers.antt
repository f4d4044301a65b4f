use Rattle.std.proofs.Common.{◌≡◌, ◌≤◌, sum, sym, ◌∙◌, arith, rules}
use Rattle.std.proofs.lemmas.List.Sums.{sum_by-le}
use Rattle.std.proofs.lemmas.List.Elements.{All-from_get_or}
use Rattle.gate.proofs.Walks.{total_is}
use Rattle.gate.proofs.bytes.sum.Goals as goal

pub returns : goal.returns
returns c =
    let s = c.args.s.now in
    let whole : c.sum.result ≡ sum s = search rules in
    let most = sum_by-le (λ b. b) 255 s (All-from_get_or (λ b. b ≤ 255) s 0 (λ k h. omega (arith, c.type_inv.s k))) in
    (whole ∙ sym (total_is s), omega (arith, whole, most))
