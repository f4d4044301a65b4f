-- The first byte that is not FFh has the sector; where each is FFh, none is free. Assumes nothing.
use Rattle.std.proofs.Common.{◌≡◌, ◌<◌, ◌≢◌, sym, arith, rules, tests, length, get_or}
use Rattle.std.proofs.lemmas.Iterator.{IsFirst-from_position, YieldsList-from_slice}
use Rattle.std.proofs.option.Match.{if_some, if_none}
use Rattle.std.specs.List.{AllWithin}
use Rattle.map.proofs.FindLaws.{full_before, found_in, found_none}
use Rattle.map.proofs.finding.first_free.Goals as goal

pub returns-in_default : goal.returns-in_default
returns-in_default c =
    let m = c.args.map.now in
    let size = c.if-map-ne-BYTES.false in
    let full : AllWithin (λ x. x ≡ 0xff) m 0 (length m) = if_none _ _ c.in_default.is (IsFirst-from_position _ _ _ (λ x. x ≢ 0xff) (λ x. x ≡ 0xff) c.position.ensures.ran (YieldsList-from_slice _ c.iter.ensures.rest) (λ x q k. search (rules, tests)) (λ x q k. search (rules, tests))) in
    sym (found_none m size (λ i h. full i 0 (omega arith) (omega (arith, size))))

pub returns : goal.returns
returns c =
    let m = c.args.map.now in
    let at = c.in-Some.at in
    let size = c.if-map-ne-BYTES.false in
    let first = if_some _ _ _ c.in-Some.is (IsFirst-from_position _ _ _ (λ x. x ≢ 0xff) (λ x. x ≡ 0xff) c.position.ensures.ran (YieldsList-from_slice _ c.iter.ensures.rest) (λ x q k. search (rules, tests)) (λ x q k. search (rules, tests))) in
    let some : get_or m at 0 < 255 = omega (arith, c.type_inv.map at, first.1 0) in
    rw c.trailing_ones.ensures
    (sym (found_in m at size (omega (arith, first.0, size)) (full_before m at (λ i h. first.2 i 0 (omega arith) h)) some))
