use Rattle.std.proofs.Common.{List, sym, ap, ◌∙◌}
use Rattle.exec_graph.specs.declared.graph.Entry.{Entry}
use Rattle.flatten_sink.specs.Places.{index_at}
use Rattle.flatten_sink.proofs.Standing.{placed, absent}
use Rattle.graph_joining.proofs.nodes.without_node.Goals as goal

pub returns-in-Some : goal.returns-in-Some
returns-in-Some c =
    c.without_entry.ensures ∙ sym (placed c.args.nodes.items c.args.number c.in-Some.i
    (ap (λ (l : List Entry). index_at l c.args.number) (sym c.as_slice.ensures.value)
    ∙ sym c.index_of.ensures.place ∙ c.in-Some.is)).out

pub returns-in-None : goal.returns-in-None
returns-in-None c = sym (absent c.args.nodes.items c.args.number
    (ap (λ (l : List Entry). index_at l c.args.number) (sym c.as_slice.ensures.value)
    ∙ sym c.index_of.ensures.place ∙ c.in-None.is)).out
