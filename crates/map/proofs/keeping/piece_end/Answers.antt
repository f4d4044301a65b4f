-- Up to the first byte that is not below 8, and to the end where there is none, each is a sample's. Assumes nothing.
use Rattle.std.proofs.Common.{◌≡◌, ◌+◌, ◌<◌, ◌≤◌, arith, rules, tests, length, drop}
use Rattle.std.proofs.lemmas.Iterator.{IsFirst-from_position, YieldsList-from_slice}
use Rattle.std.proofs.lemmas.List.{length-drop, take_rest}
use Rattle.std.proofs.option.Match.{if_some, if_none}
use Rattle.std.specs.List.{AllWithin}
use Rattle.map.proofs.PieceLaws.{piece_low}
use Rattle.map.proofs.keeping.piece_end.Goals as goal

pub returns-in_default : goal.returns-in_default
returns-in_default c =
    let trace = c.args.trace.now in
    let rest = drop (c.args.from + 1) trace in
    let low : AllWithin (λ x. x < 8) rest 0 (length rest) = rw take_rest at (if_none _ _ c.in_default.is (IsFirst-from_position _ _ _ (λ x. 8 ≤ x) (λ x. x < 8) c.position.ensures.ran (YieldsList-from_slice _ c.iter.ensures.rest) (λ x q k. search (rules, tests)) (λ x q k. search (rules, tests)))) in
    let end : c.args.from + 1 + length rest ≡ length trace = omega (arith, c.requires, length-drop (c.args.from + 1) trace) in
    (c.requires, omega arith, rw end at (piece_low trace c.args.from (length rest) low))

pub returns : goal.returns
returns c =
    let trace = c.args.trace.now in
    let first = rw take_rest at (if_some _ _ _ c.in-Some.is (IsFirst-from_position _ _ _ (λ x. 8 ≤ x) (λ x. x < 8) c.position.ensures.ran (YieldsList-from_slice _ c.iter.ensures.rest) (λ x q k. search (rules, tests)) (λ x q k. search (rules, tests)))) in
    (omega arith, omega (arith, first.0, length-drop (c.args.from + 1) trace), piece_low trace c.args.from c.in-Some.samples first.2)
