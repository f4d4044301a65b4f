-- What is copied is put. Assumes nothing.
use Rattle.std.proofs.Common.{◌≡◌, length, refl, arith, rules}
use Rattle.report.proofs.TextLaws.{put_copied}
use Rattle.report.proofs.Page.text.Goals as goal

pub returns : goal.returns
returns c =
    let long : length c.args.self.now.bytes.now ≡ 32768 = search rules in
    record { same_page = refl; end = refl; bytes = put_copied _ _ _ _ _ (omega (arith, long)) (omega arith) c.copy_from_slice.ensures.after }
