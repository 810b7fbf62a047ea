-- Lists of rewrites, one behind the other.
use Rattle.std.proofs.Common.{◌≡◌, ℕ, ◌≤◌, List, [], ◌∷◌, ◌++◌, refl, sym, ap, ◌∙◌, subst, arith}
use Rattle.std.specs.List.{AllByRecursion as Each}
use Rattle.exec_graph.specs.declared.graph.Blocked.{Blocked}
use Rattle.graph_rewrites.specs.Replays.{Leads, rewrite_group}
use Rattle.graph_rewrites.specs.Rewrites.{applied}
use Rattle.graph_rewrites.specs.declared.rewrite.Rewrite.{Rewrite}
use Rattle.graph_rewrites.proofs.Replaying.{last_group}

pub last_is : (group : ℕ) (rs : List Rewrite) → Each (λ r. rewrite_group r ≡ group) rs
    → last_group group rs ≡ group
last_is group [] a = refl
last_is group (r ∷ rs) a =
    ap (λ (n : ℕ). last_group n rs) a.0 ∙ last_is group rs a.1

-- what may follow one group may follow a lower one
leads_from : (low high : ℕ) (rs : List Rewrite) (a b : Blocked) → low ≤ high
    → Leads high rs a b → Leads low rs a b
leads_from low high [] a b less l = l
leads_from low high (r ∷ rs) a b less l =
    ((let up : high ≤ rewrite_group r = l.0.0 in omega arith, l.0.1), l.1)

leads_append : (group : ℕ) (rs ss : List Rewrite) (a b c : Blocked) → Leads group rs a b
    → Leads (last_group group rs) ss b c → Leads group (rs ++ ss) a c
leads_append group [] ss a b c l m = subst (λ (x : Blocked). Leads group ss x c) (sym l) m
leads_append group (r ∷ rs) ss a b c l m =
    (l.0, leads_append (rewrite_group r) rs ss (applied a r) b c l.1 m)

-- rewrites of one group, and then others of no earlier one
pub leads_both : (group next : ℕ) (rs ss : List Rewrite) (a b c : Blocked)
    → Each (λ r. rewrite_group r ≡ group) rs → group ≤ next → Leads group rs a b
    → Leads next ss b c → Leads group (rs ++ ss) a c
leads_both group next rs ss a b c all less l m =
    let last : last_group group rs ≡ group = last_is group rs all in
    leads_append group rs ss a b c l
    (leads_from (last_group group rs) next ss b c (omega arith) m)
