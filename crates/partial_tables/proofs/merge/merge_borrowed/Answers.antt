use Rattle.std.proofs.Common.{◌≡◌, ◌≤◌, ◌++◌, ◌∷◌, [], rules, length, ap, sym, ◌∙◌, subst, append_assoc}
use Rattle.partial_tables.specs.Tables.{HaveShape}
use Rattle.partial_tables.specs.inner.Regrouped.{Regrouped}
use Rattle.partial_tables.proofs.Merged.{ascending-merged, length-more, IfOk-four}
use Rattle.partial_tables.proofs.Regrouping.{merged_more}
use Rattle.partial_tables.proofs.Borrowed.{told, told-more, all_told}
use Rattle.partial_tables.proofs.merge.merge_borrowed.Goals as goal

pub loop-partial-preserved : goal.loop-partial-preserved
loop-partial-preserved c =
    let was = c.loop-partial.invariant in
    let now = c.in_ok-merge_in_copy.ensures.added in
    let p = c.in-Some.partial in
    let done = c.loop-partial.yielded in
    let old = c.loop-partial.table.partials in
    let new = c.merge_in_copy.new.table.partials in
    let next : c.loop-partial.partial-iterator.rest.items ≡ p ∷ c.next.new.self.rest.items =
    search rules in (
      subst (λ l. Regrouped c.args.comb l new) (sym (told-more done p))
          (merged_more c.args.comb old new (told done) p.now.0 p.now.1 was.0
          c.in_ok-merge_in_copy.ensures.partial (ap (λ t. t.partials) now)),
      ap (λ t. t.comb) now ∙ was.1,
      ap (λ t. t.room) now ∙ was.2,
      subst (λ l. length new ≤ length l) (sym (told-more done p))
          (length-more c.args.comb old new (told done) p.now (ap (λ t. t.partials) now) was.3),
      append_assoc done (p ∷ []) c.next.new.self.rest.items
          ∙ sym (ap (λ l. done ++ l) next) ∙ was.4,
    )

pub returns : goal.returns
returns c =
    let was = c.loop-partial.invariant in
    let rest = c.loop-partial.partial-iterator.rest in
    let none : length rest.items ≡ 0 = search rules in
    let whole = all_told c.loop-partial.yielded rest.items c.args.partials.items was.4 none in
    let gives = c.into_ascending.ensures in
    IfOk-four _ _ _ _ _
    (λ merged same up shape distinct.
    ascending-merged c.args.comb (told c.args.partials.items) c.loop-partial.table.partials
    merged.items
    (subst (λ l. Regrouped c.args.comb l c.loop-partial.table.partials) whole was.0)
    same up (subst (λ d. HaveShape d merged.items) was.1 shape) distinct)
    c.into_ascending.result gives.same gives.ascending gives.shape gives.distinct
