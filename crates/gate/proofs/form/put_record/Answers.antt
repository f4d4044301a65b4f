-- The label's bytes one behind the other are the label. Assumes nothing.
use Rattle.std.proofs.Common.{◌≡◌, ◌∙◌, ap, ◌+◌, ◌<◌, length, add-one, arith}
use Rattle.std.proofs.Math.Seq.{paste, paste-suc}
use lib.Seq.{take-length}
use Rattle.gate.proofs.Build.{built}
use Rattle.gate.proofs.form.put_record.Goals as goal

pub loop-place-preserved : goal.loop-place-preserved
loop-place-preserved c =
    let headed = c.put_front.new.buffer in
    let k = c.loop-place.place in
    let h : 6 + k < length headed = omega arith in
    rw (c.loop-place.invariant, add-one) (paste-suc headed 6 c.args.label.now k 0 h c.loop-place-test.true)

pub returns : goal.returns
returns c =
    let a = c.args in
    let label = a.label.now in
    let headed = c.put_front.new.buffer in
    let whole : c.loop-place.place ≡ length label = omega arith in
    let laid : c.loop-place.buffer ≡ paste headed 6 label (length label) = c.loop-place.invariant ∙ ap (paste headed 6 label) whole in
    c.seal.ensures
    ∙ built a.limits.closed a.limits.opened label headed _ c.requires c.put_front.ensures (rw take-length at laid)
