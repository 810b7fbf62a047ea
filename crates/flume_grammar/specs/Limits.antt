-- What the language limits.
use Rattle.std.specs.Prelude.{ℕ, ◌+◌, ◌<◌}

-- how deep a function's tree and a type as it is written may be, and how many fields of a record,
-- members of a list literal, inputs of a flatten, which are as many as objects of an operate, and
-- outputs of a function there may be
pub record Limits : Type 0 where
  pub depth : ℕ
  pub fields : ℕ
  pub members : ℕ
  pub inputs : ℕ
  pub outputs : ℕ

abbrev pub the_limits : Limits
the_limits = record { depth = 32; fields = 16; members = 64; inputs = 256; outputs = 8 }

-- each limit is lower
pub record IsBelow (limits more : Limits) : Type 0 where
  pub depth : limits.depth < more.depth
  pub fields : limits.fields < more.fields
  pub members : limits.members < more.members
  pub inputs : limits.inputs < more.inputs
  pub outputs : limits.outputs < more.outputs

-- one more level of depth
abbrev pub deeper : Limits → Limits
deeper l = record l { depth = l.depth + 1 }

-- one more field, one more member, one more input and one more output
abbrev pub longer : Limits → Limits
longer l = record l {
  fields = l.fields + 1;
  members = l.members + 1;
  inputs = l.inputs + 1;
  outputs = l.outputs + 1;
}
