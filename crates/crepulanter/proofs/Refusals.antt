-- Bytes that no chip has are refused whatever the array and the map. Assumes nothing.
use Prim.Native.Nat.{ℕ}
use mathlib.Core.Bool.{Bool, true, false, cond}
use mathlib.Core.Path.{◌≡◌, refl}
use mathlib.Core.List.{List}
use borrow.Author.Tests.{ne_eqb, eqb-false}
use lib.Dec.{eqb}
use lib.ListN.{length}
use Rattle.map.specs.Sectors.{with_map}
use Rattle.map.proofs.KeepLaws.{with_taken}
use Rattle.crepulanter.specs.Calls.{unfit}

two_or_one : (whole : Bool) → eqb (cond whole 2 1) 0 ≡ false
two_or_one true = refl
two_or_one false = refl

pub unfit_taken : (xs : List ℕ) → eqb (unfit xs) 0 ≡ false
unfolding unfit
unfit_taken xs = two_or_one (eqb (length xs) 16384)

pub unfit_map_taken : (xs m : List ℕ) → eqb (with_map (unfit xs) m) 0 ≡ false
unfit_map_taken xs m = ne_eqb _ _ (λ z. eqb-false _ _ (unfit_taken xs) (with_taken (unfit xs) m z).0)
