use Rattle.std.proofs.Common.{◌≡◌, ap, subst, sym, ◌∙◌}
use Rattle.std.proofs.lemmas.List.Elements.{All-same}
use Rattle.std.specs.List.Sorted.{IsNonDecreasingBy, IsSorted}
use Rattle.flume_value.specs.Order.{value_cmp}
use Rattle.flume_value.proofs.ReferenceLemmas.{referred}
use Rattle.bag_groups.specs.Groups.{grouped}
use Rattle.bag_groups.proofs.Grouping.{grouped-IsSorted}
use Rattle.key_order.proofs.Dividing.{moved_groups}
use Rattle.key_order.proofs.NumberRuns.{number_of}
use Rattle.key_order.proofs.Pairing.{told, Holds}
use Rattle.key_order.proofs.groups.group_numbered.Goals as goal

pub groups_of_runs-requires-clause-numbers : goal.groups_of_runs-requires-clause-numbers
groups_of_runs-requires-clause-numbers c =
    All-same Holds c.deref.result.now c.in_ok-numbered.numbered.items c.deref.ensures.value
    c.in_ok-numbered.ensures.numbers

pub groups_of_runs-requires-clause-rise : goal.groups_of_runs-requires-clause-rise
groups_of_runs-requires-clause-rise c =
    subst (IsNonDecreasingBy number_of) (sym c.deref.ensures.value) c.in_ok-numbered.ensures.rise

pub returns-clause-groups : goal.returns-clause-groups
returns-clause-groups c =
    c.in_ok-groups.ensures ∙ ap (λ l. grouped (told l)) c.deref.ensures.value
    ∙ moved_groups (referred c.args.pairs.items) (told c.in_ok-numbered.numbered.items)
    c.in_ok-numbered.ensures.moved

pub returns-clause-ascending : goal.returns-clause-ascending
returns-clause-ascending c =
    let groups : c.in_ok-groups.groups.items ≡ grouped (referred c.args.pairs.items)
    = c.in_ok-groups.ensures ∙ ap (λ l. grouped (told l)) c.deref.ensures.value
    ∙ moved_groups (referred c.args.pairs.items) (told c.in_ok-numbered.numbered.items)
    c.in_ok-numbered.ensures.moved in
    subst (IsSorted value_cmp) (sym groups) (grouped-IsSorted (referred c.args.pairs.items))
