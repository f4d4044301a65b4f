-- What is written on a page, one text after the other. Assumes nothing.
use Prim.Native.Nat.{ℕ, ◌+◌}
use mathlib.Core.Path.{◌≡◌, refl, sym, subst, ◌∙◌}
use mathlib.Core.List.{List, [], ◌++◌}
use native.Mathlib.Omega.{arith}
use lib.ListN.{length, length-append}
use Rattle.report.specs.declared.Page.{Page}
use Rattle.report.specs.Page.{Puts}
use Rattle.report.specs.Text.{put}
use Rattle.report.proofs.TextLaws.{put_append}

-- no text leaves the page
pub puts_none : (page : Page) → Puts page page []
unfolding put
puts_none page =
    let same : page.end ≡ page.end + 0 = omega arith in
    record { same_page = refl; end = same; bytes = refl }

-- one text and then another are their sum
pub puts_more : {first second third : Page} {s t : List ℕ} → Puts first second s → Puts second third t → Puts first third (s ++ t)
puts_more {first} {third} {s} {t} p q =
    let far : third.end ≡ first.end + length (s ++ t) = omega (arith, p.end, q.end, length-append s t) in
    record {
      same_page = q.same_page ∙ p.same_page;
      end = far;
      bytes = q.bytes ∙ (λ i. put (p.bytes i) (p.end i) t) ∙ sym (put_append first.bytes.now first.end s t);
    }

-- a text is put by an equal one
pub puts_same : {first second : Page} {s t : List ℕ} → Puts first second s → s ≡ t → Puts first second t
puts_same {first} {second} p same = subst (λ (l : List ℕ). Puts first second l) same p
