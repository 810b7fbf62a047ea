-- Values on a side of an either.
use Rattle.flume_value.specs.declared.value.Value.{Value}
use Rattle.flume_value.specs.declared.value.Value.TheVariants as value
use Rattle.key_order.specs.declared.sides.Side.{Side}
use Rattle.key_order.specs.declared.sides.Side.TheVariants.{Left, Plain, Right}
use Rattle.key_order.specs.declared.sides.Sided.{Sided}
use Rattle.key_order.specs.declared.sides.Sided.TheVariants as at

-- the value on that side, or itself where it is on none
abbrev pub sided : Side → Value → Value
sided Plain v = v
sided Left v = value.Left v
sided Right v = value.Right v

-- the side on which it stands
abbrev pub side_in : Sided → Side
side_in (at.Int side _) = side
side_in (at.Bool side _) = side
side_in (at.Text side _) = side
side_in (at.List side _) = side
side_in (at.Rec side _) = side
side_in (at.Left side _) = side
side_in (at.Right side _) = side
side_in (at.Wide side _) = side

-- what stands there
abbrev pub held_in : Sided → Value
held_in (at.Int _ n) = value.Int n
held_in (at.Bool _ b) = value.Bool b
held_in (at.Text _ text) = value.Text text
held_in (at.List _ items) = value.List items
held_in (at.Rec _ fields) = value.Rec fields
held_in (at.Left _ part) = value.Left part
held_in (at.Right _ part) = value.Right part
held_in (at.Wide _ n) = value.Wide n

-- the value that it stands for
abbrev pub boxed : Sided → Value
boxed s = sided (side_in s) (held_in s)
