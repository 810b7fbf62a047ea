use Rattle.std.proofs.Common.{◌<◌, length, inl, inr, ⊎_elim, sym, ◌∙◌, subst}
use Rattle.std.proofs.lemmas.List.{nil_from_length}
use Rattle.std.proofs.lemmas.List.Elements.{All-rest}
use Rattle.std.specs.Iterator.Adapters.{zip_first, zip_second}
use Rattle.std.specs.List.{All}
use Rattle.std.specs.Vec.Iter.{into_iter_items}
use Rattle.let_check.proofs.NameLemmas.{none-added, others-added, others-new}
use Rattle.let_check.proofs.lets.add_all.Goals as goal

pub loop-name-preserved : goal.loop-name-preserved
loop-name-preserved c =
    let before = c.loop-name.state in
    let after = c.add_node.new.self in
    let same = c.in_ok-add_node.ensures.types in
    let put = c.in_ok-add_node.ensures.state in
    let all-names = into_iter_items (zip_first c.loop-name.name-iterator) in
    let all-makings = into_iter_items (zip_second c.loop-name.name-iterator) in
    let names = into_iter_items (zip_first c.next.new.self) in
    let makings = into_iter_items (zip_second c.next.new.self) in
    let first = c.in-Some.ensures.steps.0.0 in
    let second = c.in-Some.ensures.steps.1.0 in
    record {
      types = same ∙ c.loop-name.invariant.types;
      new = others-new before.types before.state c.in-Some.name names all-names c.in-Some.making
          makings all-makings first second after.types after.state same put
          c.loop-name.invariant.new;
      within = subst (λ types. All (λ making. making.ty < length types) makings) (sym same)
          (All-rest (λ making. making.ty < length before.types) c.in-Some.making makings all-makings
          second c.loop-name.invariant.within);
      added = others-added before.types before.state c.in-Some.name names all-names
          c.in-Some.making makings all-makings first second after.types after.state same put
          ∙ c.loop-name.invariant.added;
    }

pub returns-clause-state : goal.returns-clause-state
returns-clause-state c =
    let left = c.loop-name.name-iterator in
    let names = into_iter_items (zip_first left) in
    let makings = into_iter_items (zip_second left) in
    none-added c.loop-name.state.types names makings c.loop-name.state.state
    (⊎_elim
    (λ a. inl (nil_from_length names (sym (zip_first left).rest.ok.0 ∙ a.1.0)))
    (λ b. inr (nil_from_length makings (sym (zip_second left).rest.ok.0 ∙ b.1.0)))
    c.in-None.ensures.steps)
    ∙ c.loop-name.invariant.added

pub returns-clause-types : goal.returns-clause-types
returns-clause-types c = c.loop-name.invariant.types
