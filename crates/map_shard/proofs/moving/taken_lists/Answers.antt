use Rattle.std.proofs.Common.{◌≡◌, ℕ, List, Some, get_or, slice_get, subst}
use Rattle.exec_plan.specs.declared.plan.Take.{Take}
use Rattle.map_shard.proofs.LastTakes.{taken_on}
use Rattle.map_shard.proofs.moving.taken_lists.Goals as goal

abbrev no_take : Take
no_take = record { channel = 0; out = 0 }

pub loop-k-preserved : goal.loop-k-preserved
loop-k-preserved c =
    let takes = c.args.takes.now in
    let items = c.deref-take-items.result.now in
    let at = c.loop-k in
    taken_on c.args.m takes.all.items takes.last.items c.requires c.args.lists.items at.lists.items
    c.taken_list.new.lists.items at.k items no_take c.is_at-is_last.result at.all.items
    c.push.new.self.items c.in_ok-list.list c.deref-take-items.ensures.value
    c.loop-k-test.true
    (λ t. subst (λ (l : List ℕ). slice_get l (get_or items at.k no_take).out ≡ Some at.k)
    c.as_slice.ensures.value (c.is_at-is_last.ensures.0 t))
    c.in_ok-list.ensures.list c.taken_list.ensures.others c.in_ok-push.ensures.items
    at.invariant
