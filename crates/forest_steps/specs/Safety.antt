-- When the steps of a forest may be called on an element.
use Rattle.std.specs.Prelude.{ℕ, Option, Some, None}
use Rattle.std.specs.List.{AllByRecursion}
use Rattle.flume_value.specs.declared.value.Value.{Value}
use Rattle.keyed_steps.specs.Keyed.{IsGroup}
use Rattle.exec_graph.specs.declared.step.Does.{Does}
use Rattle.exec_graph.specs.declared.step.Does.TheVariants as does
use Rattle.exec_graph.specs.Calls.{emitted}
use Rattle.exec_graph.specs.Forests.{Forest, Bare, Grow}
use Rattle.exec_graph.specs.World.{World}

-- the element is of the kind that the step takes, where this says of each function what it takes
abbrev pub CanCall : (ℕ → Value → Type 0) → Does → Value → Type 0
CanCall takes (does.Call f) x = takes f x
CanCall takes (does.Combine c) x = IsGroup c x
CanCall takes _ x = Unit {0}

-- each step of a forest may be called on what it is given
abbrev pub Safe : World → (ℕ → Value → Type 0) → Forest → Value → Type 0
Safe w takes Bare x = Unit {0}
Safe w takes (Grow l kids rest) x =
    CanCall takes l.does x × AllByRecursion (Safe w takes kids) (emitted w l x)
    × Safe w takes rest x

-- the same of a forest or the identity
abbrev pub SafeOf : World → (ℕ → Value → Type 0) → Option Forest → Value → Type 0
SafeOf w takes None x = Unit {0}
SafeOf w takes (Some f) x = Safe w takes f x
