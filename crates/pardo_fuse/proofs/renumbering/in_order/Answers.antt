use Rattle.std.proofs.Common.{ℕ, List, sym, ap, ◌∙◌}
use Rattle.std.specs.List.{insert}
use Rattle.exec_graph.specs.declared.graph.Entry.{Entry}
use Rattle.pardo_fuse.specs.inner.Numbers.{place_before}
use Rattle.pardo_fuse.proofs.Leasts.{onto_last, onto_none, put_inserts, put_onto}
use Rattle.pardo_fuse.proofs.renumbering.in_order.Goals as goal

pub loop-entry-init : goal.loop-entry-init
loop-entry-init c =
    ap (put_onto c.args.nodes.items) c.new-ordered.ensures.items ∙ onto_none c.args.nodes.items

pub loop-entry-preserved : goal.loop-entry-preserved
loop-entry-preserved c =
    let left = c.pop.new.self.items in
    let ordered = c.loop-entry.ordered.items in
    let e = c.in-Some.entry in
    ap (put_onto left)
    (c.in_ok-insert.ensures.items
    ∙ ap (λ (k : ℕ). insert ordered k e)
    (c.place_before-place.ensures.place ∙ ap (place_before e.number) c.as_slice.ensures.value)
    ∙ put_inserts e ordered)
    ∙ sym (onto_last left e ordered)
    ∙ ap (λ (es : List Entry). put_onto es ordered) (sym c.in-Some.ensures.items)
    ∙ c.loop-entry.invariant
