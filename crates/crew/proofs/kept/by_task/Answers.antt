use Rattle.std.proofs.Common.{rules, ◌≡◌, length, List, arith, ap, sym, subst}
use Rattle.std.specs.List.Sorted.{IsNonDecreasingBy}
use Rattle.std.proofs.lemmas.List.Sorted.{IsNonDecreasingBy-from_sort_by_key}
use Rattle.crew.specs.declared.kept.KeptOut.{KeptOut}
use Rattle.crew.proofs.Lists.{lent_back}
use Rattle.crew.proofs.kept.by_task.Goals as goal

pub returns-clause-rise : goal.returns-clause-rise
returns-clause-rise g c =
    let sorted : List (KeptOut g.row.O.Denot) = c.sort_unstable_by_key.new.self in
    let value : length c.as_mut_slice.result.now ≡ length c.args.outs.items =
    ap length c.as_mut_slice.ensures.value in
    let len = c.as_mut_slice.ensures.len in
    let same = c.sort_unstable_by_key.ensures.len in
    let back = lent_back c.args.outs.len c.args.outs.items sorted (omega arith) in
    subst (IsNonDecreasingBy (λ (k : KeptOut g.row.O.Denot). k.task)) (sym back)
    (IsNonDecreasingBy-from_sort_by_key (λ (k : KeptOut g.row.O.Denot). k.task) sorted
    c.sort_unstable_by_key.ensures.sorted (λ a r q k. search rules))
