-- The graph between two rewrites, as it is.
use Rattle.std.specs.Prelude.{Option, Some, None}
use Rattle.exec_graph.specs.declared.graph.Blocked.{Blocked}
use Rattle.graph_joins.specs.Sessions.{IsSession}
use Rattle.graph_joins.specs.of_graph_names.Names.{unnamed}
use Rattle.graph_rewriting.specs.declared.standing.Standing.{Standing}
use Rattle.graph_rewriting.specs.declared.standing.Standing.TheVariants.{Plain, Joined}

abbrev pub blocked_of : Standing → Blocked
blocked_of (Plain b) = b
blocked_of (Joined j marks) = record { graph = unnamed j.graph; marks = marks }

abbrev pub shown : Option Standing → Option Blocked
shown None = None
shown (Some s) = Some (blocked_of s)

abbrev pub IsStanding : Standing → Type 0
IsStanding (Plain b) = Unit {0}
IsStanding (Joined j marks) = IsSession j
