-- The limits are one at least.
use Rattle.std.proofs.Common.{◌≤◌, lit≤}
use Rattle.flume_grammar.specs.Limits.{Limits, the_limits}

-- each is one at least
pub record IsFair (l : Limits) : Type 0 where
  pub depth : 1 ≤ l.depth
  pub fields : 1 ≤ l.fields
  pub members : 1 ≤ l.members
  pub inputs : 1 ≤ l.inputs
  pub outputs : 1 ≤ l.outputs

pub fair : IsFair the_limits
fair = record {
  depth = lit≤ tt;
  fields = lit≤ tt;
  members = lit≤ tt;
  inputs = lit≤ tt;
  outputs = lit≤ tt;
}
