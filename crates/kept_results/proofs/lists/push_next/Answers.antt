use Rattle.std.proofs.Common.{◌∙◌, List, sym}
use Rattle.std.proofs.lemmas.List.{nil_from_length}
use Rattle.flume_value.specs.declared.value.Value.{Value}
use Rattle.std.specs.Vec.Iter.{into_iter_items}
use Rattle.saved_meaning.specs.Found.{needs_input}
use Rattle.kept_results.proofs.FindLemmas.{none_given}
use Rattle.kept_results.proofs.lists.push_next.Goals as goal

pub returns-in-None : goal.returns-in-None
returns-in-None c = λ marks.
    let before : List (List Value) = into_iter_items c.args.rows.now in
    let rest : List (List Value) = into_iter_items c.next.new.self in
    let none = c.in-None.ensures.cases in
    none_given (needs_input c.args.later.now.script c.args.number) marks c.args.lists.now.items
    before rest (nil_from_length before (sym c.args.rows.now.rest.ok.0 ∙ none.0))
    (nil_from_length rest (sym c.next.new.self.rest.ok.0 ∙ none.1))
