use Rattle.std.specs.Prelude.{nat_eq}
use Rattle.std.specs.HashMap.{get}
use Rattle.std.proofs.Common.{ap, ◌∙◌}
use Rattle.graph_walks.specs.Outs.{outs}
use Rattle.graph_joins.proofs.ListLemmas.{tells_more}
use Rattle.graph_joins.proofs.lists.list_node.Goals as goal

pub returns : goal.returns
returns c =
    tells_more (get nat_eq c.args.lists.now) (get nat_eq c.put_list.new.lists)
    c.args.graph.now.nodes c.args.number c.in_ok-names.names.items c.requires
    c.in_ok-put_list.ensures (c.in_ok-names.ensures ∙ ap outs c.steps.ensures)
