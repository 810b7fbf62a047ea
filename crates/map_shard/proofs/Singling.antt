-- Takes of which one at most is of an input channel, from the first of it on.
use Rattle.std.proofs.Common.{◌≡◌, ◌<◌, ◌+◌, ℕ, true, cond, List, length, get_or, drop, ap, ◌∙◌, arith}
use Rattle.std.specs.Prelude.{◌==◌, not}
use Rattle.std.specs.List.{list_any}
use Rattle.exec_plan.specs.declared.plan.Take.{Take}
use Rattle.map_shard.specs.inner.Single.{takes_once}
use Rattle.map_shard.proofs.Later.{drop_at}

of_it : (n m : ℕ) → n ≡ m → (n == m) ≡ true
of_it n m same = let itself : (m == m) ≡ true = grind arith in ap (λ k. k == m) same ∙ itself

pub once_here : (m : ℕ) (takes : List Take) (i : ℕ) (other : Take) → i < length takes
    → (get_or takes i other).channel ≡ m → takes_once m takes ≡ takes_once m (drop i takes)
    → takes_once m takes ≡ not (list_any (λ (o : Take). o.channel == m) (drop (i + 1) takes))
once_here m takes i other h same stands =
    let rest = drop (i + 1) takes in
    stands ∙ ap (takes_once m) (drop_at takes i other h)
    ∙ ap (λ b. cond b (not (list_any (λ (o : Take). o.channel == m) rest)) (takes_once m rest))
    (of_it (get_or takes i other).channel m same)
