use Rattle.std.proofs.Common.{ℕ, Bool, List, get_or, ap, ap₂, ◌∙◌}
use Rattle.exec_graph.specs.Forests.{Forest, grown, numbered}
use Rattle.exec_graph.specs.declared.graph.Place.{Place}
use Rattle.graph_laws.specs.Kids.{kept_by, moved_out}
use Rattle.graph_walks.specs.Outs.{flag, outs, place_of}
use Rattle.graph_joining.specs.inner.Apart.{place_by}
use Rattle.graph_joining.specs.inner.Refits.{refitted_by}
use Rattle.graph_joining.specs.declared.moves.Apart.{Apart}
use Rattle.graph_joining.proofs.Renewing.{renewed_once}
use Rattle.graph_joining.proofs.refits.renewed.Goals as goal

pub returns : goal.returns
returns c =
    let g = c.args.graph in
    let by = c.args.by in
    let n = by.number in
    let i = c.args.input in
    let all : Forest = grown c.args.steps.items in
    let m = c.in_ok-placed.placed in
    let table : ℕ → ℕ = λ j. get_or m.table.items j m.count in
    c.in_ok-last.ensures
    ∙ ap₂ (λ (a : Apart) (f : Forest). refitted_by (λ (d : Place). moved_out a.number table
    (place_by a d)) g a.number i f) c.in_ok-placed.ensures.apart c.new.ensures
    ∙ renewed_once g n i all (place_by by) c.requires.here c.requires.stays
    (grown c.renumber.new.steps.items) (flag c.in_ok-flags.flags.items) c.in_ok-outs.outs.items
    table c.in_ok-flags.ensures
    (c.in_ok-outs.ensures.steps
    ∙ ap (λ (bs : List Bool). numbered 0 (kept_by (flag bs) all)) c.as_slice.ensures.value)
    (c.in_ok-outs.ensures.outs
    ∙ ap (λ (bs : List Bool). outs (kept_by (flag bs) all)) c.as_slice.ensures.value)
    (λ j. c.in_ok-placed.ensures.table j ∙ ap (λ ks. place_of ks j) c.as_slice-2.ensures.value)
