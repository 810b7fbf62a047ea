use Rattle.std.proofs.Common.{ap, rules, subst, ◌∙◌}
use Rattle.std.proofs.lemmas.List.Elements.{All-same}
use Rattle.std.proofs.lemmas.List.Sorted.{All-permutation, IsNonDecreasingBy-from_sort_by_key, IsPermutation-map}
use Rattle.std.specs.Borrow.{Bor}
use Rattle.std.specs.List.Sorted.{IsPermutation}
use Rattle.flume_value.specs.declared.value.Value.{Value}
use Rattle.flume_value.proofs.ReferenceLemmas.{referred}
use Rattle.bag_groups.specs.Pairs.{IsPair}
use Rattle.key_order.proofs.NumberRuns.{number_of, pair_at}
use Rattle.key_order.proofs.Pairing.{told, Holds}
use Rattle.key_order.proofs.sorting.by_numbers.Goals as goal

pub with_numbers-requires : goal.with_numbers-requires
with_numbers-requires c =
    All-same (λ (p : Bor Value). IsPair p.now) c.deref.result.now c.args.pairs.items
    c.deref.ensures.value c.requires

pub returns-clause-moved : goal.returns-clause-moved
returns-clause-moved c =
    let sorted = c.sort_unstable_by_key.new.self.items in
    subst (λ l. IsPermutation l (told sorted))
    (c.in_ok-numbered.ensures.pairs ∙ ap referred c.deref.ensures.value)
    (IsPermutation-map pair_at c.in_ok-numbered.numbered.items sorted
    c.sort_unstable_by_key.ensures.permutation)

pub returns-clause-numbers : goal.returns-clause-numbers
returns-clause-numbers c =
    All-permutation Holds c.in_ok-numbered.numbered.items c.sort_unstable_by_key.new.self.items
    c.sort_unstable_by_key.ensures.permutation c.in_ok-numbered.ensures.numbers

pub returns-clause-rise : goal.returns-clause-rise
returns-clause-rise c =
    IsNonDecreasingBy-from_sort_by_key number_of c.sort_unstable_by_key.new.self.items
    c.sort_unstable_by_key.ensures.sorted (λ a r q k. search rules)
