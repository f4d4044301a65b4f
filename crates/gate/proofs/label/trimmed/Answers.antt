use Rattle.std.proofs.Common.{◌≡◌, ◌+◌, ℕ, length, take, refl, sym, ◌∙◌, ap, arith, rules, length-take}
use Rattle.std.specs.Prelude.{Option, Some, None}
use Rattle.gate.specs.Label.{trimmed_length}
use Rattle.gate.proofs.Walks.{trim_last, trim_all}
use Rattle.gate.proofs.label.trimmed.Goals as goal

pub returns : goal.returns
returns c = found c.rposition.result refl
  where
    found : (r : Option ℕ) → c.rposition.result ≡ r → (c.map_or.result.now ≡ take (trimmed_length c.args.s.now (length c.args.s.now)) c.args.s.now) × (length c.map_or.result.now ≡ trimmed_length c.args.s.now (length c.args.s.now))
    found (Some last) e =
        let s = c.args.s.now in
        let ran = rw e at c.rposition.ensures in
        let shown : c.map_or.result.now ≡ take (last + 1) s = search (rules, e) in
        let left : trimmed_length s (length s) ≡ last + 1 = trim_last s last (search (rules, ran)) (search (rules, ran)) (search (rules, ran)) in
        (shown ∙ ap (λ (n : ℕ). take n s) (sym left), ap length shown ∙ simp length-take (omega (arith, left, ran.bound)))
    found None e =
        let s = c.args.s.now in
        let ran = rw e at c.rposition.ensures in
        let shown : c.map_or.result.now ≡ take 0 s = search (rules, e) in
        let left : trimmed_length s (length s) ≡ 0 = trim_all s (search (rules, ran)) in
        (shown ∙ ap (λ (n : ℕ). take n s) (sym left), ap length shown ∙ sym left)
