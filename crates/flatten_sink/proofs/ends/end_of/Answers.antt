use Rattle.std.specs.Prelude.{nat_eq}
use Rattle.std.proofs.Common.{sym, ◌∙◌}
use Rattle.std.specs.HashMap.{get}
use Rattle.flatten_sink.specs.inner.Ends.{known}
use Rattle.flatten_sink.proofs.Prefix.{below_end}
use Rattle.flatten_sink.proofs.ends.end_of.Goals as goal

pub returns-in-Some : goal.returns-in-Some
returns-in-Some c = below_end (known c.args.first (get nat_eq c.args.ends.now)) c.args.node
    c.in-Some.end c.args.graph.now.nodes (sym c.known_end.ensures ∙ c.in-Some.is)
    c.requires.ends.within

pub returns-in-None : goal.returns-in-None
returns-in-None c = c.last_end.ensures c.args.node
