use Rattle.std.proofs.Common.{◌||◌, sym, ap, ◌∙◌}
use Rattle.std.proofs.lemmas.Bool.{eq-eqb, ne_eqb}
use Rattle.exec_graph.specs.Meaning.{place}
use Rattle.exec_graph.specs.Readers.{same_place}
use Rattle.exec_graph.specs.declared.graph.Place.{Place}
use Rattle.graph_walks.specs.Outs.{flag}
use Rattle.graph_joining.proofs.FlagLemmas.{other_place, this_place}
use Rattle.graph_joining.proofs.flags.flag_place.Goals as goal

pub returns-then-d-by : goal.returns-then-d-by
returns-then-d-by c = λ j.
    let old = flag c.args.flags.now.items j in
    let n = c.args.by.number in
    let d = c.in_ok-d.d in
    other_place old n j d (ne_eqb n d.node (λ e. c.if-d-by.true (sym e)))
    ∙ ap (λ (x : Place). old || same_place (place n j) x) c.in_ok-d.ensures

pub returns : goal.returns
returns c = λ j.
    let old = flag c.args.flags.now.items j in
    let n = c.args.by.number in
    let d = c.in_ok-d.d in
    this_place old _ n j d (eq-eqb n d.node (sym c.if-d-by.false)) (c.in_ok-raise.ensures j)
    ∙ ap (λ (x : Place). old || same_place (place n j) x) c.in_ok-d.ensures
