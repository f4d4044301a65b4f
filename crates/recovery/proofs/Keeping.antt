-- What a pulse and a START keep: part, select, spoil byte, register, busy, what waits and the array, since neither is a STOP. Assumes nothing.
use Prim.Native.Nat.{ℕ}
use mathlib.Core.Bool.{Bool, true, false, cond}
use mathlib.Core.Path.{◌≡◌, refl, ◌∙◌}
use mathlib.Core.List.{List}
use Rattle.parts.specs.declared.register.Register.{Register}
use Rattle.parts.specs.declared.wait.Wait.{Wait}
use Rattle.chip.specs.Chip.{pulls}
use Rattle.chip.specs.Event.{next, sampled}
use Rattle.chip.specs.Run.{World, world, step}
use Rattle.chip.specs.View.{is_stop, stops}
use Rattle.chip.specs.Wire.{sample, line_of, edge_of}
use Rattle.chip.specs.declared.wire.Edge.TheVariants.{Quiet, Start}
use Rattle.chip.specs.declared.wire.Sample.{Sample as Levels}
use Rattle.chip.proofs.Posed.{posed}
use Rattle.chip.proofs.PullLaws.{low_line, low_starts}
use Rattle.chip.proofs.RangeLaws.{next_same}
use Rattle.chip.proofs.ViewLaws.{unstopped}
use Rattle.recovery.specs.Recovery.{pulse}

-- what is kept of a chip and its array, over what is left of them
pub record Fixed (w : World) (p s q : ℕ) (r : Register) (b : Bool) (t : Wait) (ys : List ℕ) : Type 0 where
  pub part : p ≡ w.chip.part
  pub select : s ≡ w.chip.select
  pub spoil : q ≡ w.chip.spoil
  pub register : r ≡ w.chip.register
  pub busy : b ≡ w.chip.busy
  pub waiting : t ≡ w.chip.wait
  pub array : ys ≡ w.array

-- a world keeps so much of another
abbrev pub Keeps : World → World → Type 0
Keeps w v = Fixed w v.chip.part v.chip.select v.chip.spoil v.chip.register v.chip.busy v.chip.wait v.array

-- each world keeps its own
abbrev pub itself : (w : World) → Keeps w w
itself w = record { part = refl; select = refl; spoil = refl; register = refl; busy = refl; waiting = refl; array = refl }

-- one step after another
pub and_then : (u v w : World) → Keeps u v → Keeps v w → Keeps u w
and_then u v w k l =
    record {
      part = l.part ∙ k.part;
      select = l.select ∙ k.select;
      spoil = l.spoil ∙ k.spoil;
      register = l.register ∙ k.register;
      busy = l.busy ∙ k.busy;
      waiting = l.waiting ∙ k.waiting;
      array = l.array ∙ k.array;
    }

-- the world with busy, SCL and line as given
abbrev pub world_with : World → Bool → Bool → Bool → World
world_with w busy scl line = world (posed w.chip busy scl line w.chip.phase) w.array

-- a sample that is no stop
unstopped_keeps : (scl sda pin : Bool) (w : World) → is_stop (edge_of w.chip.scl scl w.chip.line (line_of (pulls w.chip) sda)) ≡ false → Keeps w (step (sample scl sda pin) w)
unfolding step stops
unstopped_keeps scl sda pin w other =
    let s : Levels = record { scl = scl; sda = sda; pin = pin } in
    let u = unstopped s w.chip w.array other in
    let t = next_same (sample scl sda pin) w.chip w.array in
    record { part = t.0; select = t.1; spoil = t.2; register = u.register; busy = u.same; waiting = u.waiting; array = u.array }

-- SCL low makes no stop, and neither does SCL that was low
low_edge : (scl line now : Bool) → is_stop (edge_of scl false line now) ≡ false
unfolding edge_of is_stop
low_edge true line now = refl
low_edge false line now = refl

rise_edge : (line now : Bool) → is_stop (edge_of false true line now) ≡ false
unfolding edge_of is_stop
rise_edge line now = refl

-- a line that the master pulls is low
master_low : (pulling : Bool) → line_of pulling false ≡ false
master_low true = refl
master_low false = refl

-- SDA pulled with SCL high is a START where the line was high, and nothing where it was low
pub start_edge : (line pulling : Bool) → edge_of true true line (line_of pulling false) ≡ cond line Start Quiet
start_edge line pulling = rw (master_low pulling) (low_starts line)

-- a pulse
pub pulse_keeps : (pin : Bool) (w : World) → Keeps w (pulse pin w)
unfolding pulse step next sampled
pulse_keeps pin w =
    let v : World = step (sample false true pin) w in
    and_then w v (pulse pin w)
    (unstopped_keeps false true pin w (low_edge w.chip.scl w.chip.line (line_of (pulls w.chip) true)))
    (unstopped_keeps true true pin v (rise_edge v.chip.line (line_of (pulls v.chip) true)))

-- the START after it
pub start_keeps : (pin : Bool) (w : World) → Keeps w (step (sample true false pin) w)
start_keeps pin w = unstopped_keeps true false pin w (rw (master_low (pulls w.chip)) (low_line w.chip.scl true w.chip.line))
