use Rattle.std.proofs.Common.{rules, eqb, ltb, List, length, ap, sym, ◌∙◌}
use Rattle.std.specs.List.{list_all}
use Rattle.exec_graph.specs.Forests.{Branch}
use Rattle.exec_graph.specs.declared.step.Output.{Output}
use Rattle.pardo_fuse.proofs.Narrowness.{first_not_bare, more_not_bare, rest_bare}
use Rattle.pardo_fuse.proofs.narrow.is_short.Goals as goal

pub returns-then-not-is_empty : goal.returns-then-not-is_empty
returns-then-not-is_empty c =
    first_not_bare c.args.step.now c.step.inside.first.kids.items c.is_empty.result
    (sym (ap (λ (b : Branch). b.first.kids) c.step.view_is))
    (c.is_empty.ensures ∙ ap (λ n. eqb n 0) c.step.inside.first.kids.ok.0)
    (let q = c.if-not-is_empty.true in search rules)

pub returns-then-not-are_bare : goal.returns-then-not-are_bare
returns-then-not-are_bare c =
    more_not_bare c.args.step.now c.step.inside.more.items c.are_bare.result
    (sym (ap (λ (b : Branch). b.more) c.step.view_is))
    (c.are_bare.ensures ∙ ap
    (λ (os : List Output). list_all (λ o. eqb (length o.kids.items) 0) os) c.as_slice.ensures.value)
    (let q = c.if-not-are_bare.true in search rules)

pub returns : goal.returns
returns c =
    rest_bare c.args.step.now c.step.inside.first.kids.items c.step.inside.more.items
    c.is_empty.result c.are_bare.result (ltb c.len.result 8)
    (sym (ap (λ (b : Branch). b.first.kids) c.step.view_is))
    (sym (ap (λ (b : Branch). b.more) c.step.view_is))
    (c.is_empty.ensures ∙ ap (λ n. eqb n 0) c.step.inside.first.kids.ok.0)
    (let q = c.if-not-is_empty.false in search rules)
    (c.are_bare.ensures ∙ ap
    (λ (os : List Output). list_all (λ o. eqb (length o.kids.items) 0) os) c.as_slice.ensures.value)
    (let q = c.if-not-are_bare.false in search rules)
    (ap (λ n. ltb n 8) (c.len.ensures ∙ c.step.inside.more.ok.0))
