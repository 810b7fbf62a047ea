use Rattle.std.proofs.Common.{◌≡◌, drop}
use Rattle.serde_json.specs.View.{items_view, members_view}
use Rattle.plan_files.specs.Numbers.{items_have_number, members_have_number}
use Rattle.plan_files.proofs.plan_text.+numbers.Given as goal

-- what is left has a number exactly where all has one
abbrev pub invariant-items_have_number-loop-item : goal.invariant-items_have_number-loop-item
invariant-items_have_number-loop-item l =
    items_have_number (items_view (drop l.item-index l.item-items))
    ≡ items_have_number (items_view l.items.items)

abbrev pub invariant-members_have_number-loop-key : goal.invariant-members_have_number-loop-key
invariant-members_have_number-loop-key l =
    members_have_number (members_view l._key-iterator)
    ≡ members_have_number (members_view l.members.entries)
