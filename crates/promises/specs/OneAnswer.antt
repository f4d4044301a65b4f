-- One answer for one input: what a contract allows, and what it means that it leaves no room. (RULES D1, D2, D4.)
--
-- | Name | Meaning |
-- |---|---|
-- | `Contract` | a public operation: its signature and what its contract allows, both as the toolchain reads them off the source, and what a caller has of the result |
-- | `Input` | the arguments of a call |
-- | `Result` | what it returns |
-- | `Left` | what it leaves in its parameters: the bytes of a slice lent as `&mut`, nothing of any other, which no call can change |
-- | `Allows` | the contract allows this result with these bytes left |
-- | `Outcome`, `outcome` | what a caller has after the call: the result and every lent byte |
-- | `OneAnswer` | any two outcomes that the contract allows for one input are equal |
-- | `whole` | the contract of an operation whose result the caller has whole |
use Rattle.std.specs.Prelude.{ℕ, List, ◌≡◌}
use contract.Lifetimes.{Lfts}
use denote.Triple.Clauses.{Lasts, at_exit}
use borrow.Fn.Kinds.{ParamKind, ResultKind, Out, Dens, res_t, ended_of}

-- lifetimes, parameters, result, `ensures`; and what the caller has of a result, which of a slice is its bytes
pub record Contract : Type 3 where
  pub lifetimes : ℕ
  pub parameters : List (ParamKind lifetimes)
  pub result : ResultKind lifetimes
  pub ensures : Out lifetimes parameters result
  pub Had : Lfts lifetimes → Type 0
  pub had : (κs : Lfts lifetimes) → (res_t result κs).Denot → Had κs

module _ (c : Contract) (κs : Lfts c.lifetimes) where
  abbrev pub Input : Type 0
  Input = Dens κs c.parameters

  abbrev pub Result : Type 0
  Result = (res_t c.result κs).Denot

  abbrev pub Left : Input → Type 0
  Left input = Lasts (ended_of c.lifetimes c.parameters c.result) κs input

  -- the `ensures`, at the parameters as they are seen at exit
  abbrev pub Allows : (input : Input) → Result → Left input → Type 0
  Allows input r left =
      c.ensures κs input r (at_exit (ended_of c.lifetimes c.parameters c.result) κs input left)

  abbrev pub Outcome : Input → Type 0
  Outcome input = c.Had κs × Left input

  abbrev pub outcome : (input : Input) → Result → Left input → Outcome input
  outcome input r left = (c.had κs r, left)

-- D4: the result and every lent byte
abbrev pub OneAnswer : Contract → Type 0
OneAnswer c =
    (κs : Lfts c.lifetimes) (input : Input c κs) (r r' : Result c κs) (left left' : Left c κs input) →
    Allows c κs input r left →
    Allows c κs input r' left' →
    outcome c κs input r left ≡ outcome c κs input r' left'

-- every operation but the one that returns a slice
abbrev pub whole : (n : ℕ) (ps : List (ParamKind n)) (r : ResultKind n) → Out n ps r → Contract
whole n ps r ensures =
    record { lifetimes = n; parameters = ps; result = r; ensures = ensures; Had = λ κs. (res_t r κs).Denot; had = λ κs x. x }
