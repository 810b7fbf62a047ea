use Rattle.std.proofs.Common.{[], ◌∷◌, ◌++◌, ap, sym, ◌∙◌}
use Rattle.bag_groups.specs.Groups.{grouped}
use Rattle.key_order.proofs.NumberRuns.{group_of_one, refs_held}
use Rattle.key_order.proofs.groups.add_groups.Goals as goal

pub group_by_pairs-requires : goal.group_by_pairs-requires
group_by_pairs-requires c =
    refs_held c.args.run.now c.in_ok-without_numbers.field-0.items c.requires.pairs
    c.in_ok-without_numbers.ensures

pub returns-in_ok-push : goal.returns-in_ok-push
returns-in_ok-push c =
    c.in_ok-push.ensures.items
    ∙ ap (λ group. c.args.groups.now.items ++ group ∷ []) c.in_ok-group_of_key.ensures
    ∙ ap (λ l. c.args.groups.now.items ++ l)
    (sym (group_of_one c.key-key.result.now c.args.run.now c.requires.some
    (sym c.are_of_key.ensures ∙ c.if-are_of_key.true)))

pub returns-in_ok-append : goal.returns-in_ok-append
returns-in_ok-append c =
    c.in_ok-append.ensures.items
    ∙ ap (λ l. c.args.groups.now.items ++ l)
    (c.in_ok-group_by_pairs.ensures ∙ ap grouped c.in_ok-without_numbers.ensures)
