-- Sinking, lifting and marking, as lists of rewrites.
use Rattle.std.proofs.Common.{◌≡◌, ℕ, ◌≤◌, List, [], ◌∷◌, ◌++◌, map, refl, ap, sym, subst, inl, inr, arith}
use Rattle.std.specs.List.{AllByRecursion as Each}
use Rattle.flume_value.proofs.EachLemmas.{Each-append}
use Rattle.exec_graph.specs.Wellformed.{IsGraphOk, most_nodes, total_size}
use Rattle.exec_graph.specs.declared.graph.Blocked.{Blocked}
use Rattle.exec_graph.specs.declared.graph.Graph.{Graph}
use Rattle.exec_graph.specs.declared.graph.Place.{Place}
use Rattle.fusion_blocks.specs.Blocks.{MarksLead, unmarked, with_mark}
use Rattle.graph_laws.specs.Lifting.{LiftsLead, lifted, lifted_at}
use Rattle.graph_laws.proofs.LiftChain.{lifts_lead}
use Rattle.sink_laws.specs.Chain.{IsLink, SinksTo as Sinks, go, stay}
use Rattle.sink_laws.specs.Kept.{KeepsTypesAndSteps}
use Rattle.sink_laws.proofs.Nexts.{kept_sunk, next_link}
use Rattle.graph_rewrites.specs.Replays.{CanFollow, Leads, rewrite_group}
use Rattle.graph_rewrites.specs.Rewrites.{applied}
use Rattle.graph_rewrites.specs.declared.rewrite.Rewrite.{Rewrite}
use Rattle.graph_rewrites.specs.declared.rewrite.Rewrite.TheVariants.{Merge, Sink, Lift, Mark}
use Rattle.graph_rewrites.proofs.Replaying.{last_group, leads_more}
use Rattle.pass_rewrites.specs.Passes.{ByRewrites}
use Rattle.pass_rewrites.proofs.Lists.{last_is}

-- ---- merges and sinks

behind : (a b : Blocked) (s : ByRewrites 0 a b) → last_group 0 s.rewrites ≤ 0
behind a b s = let last : last_group 0 s.rewrites ≡ 0 = last_is 0 s.rewrites s.all in omega arith

one_more : (g h i : Graph) (r : Rewrite) (s : ByRewrites 0 (unmarked g) (unmarked h))
    → rewrite_group r ≡ 0 → CanFollow (last_group 0 s.rewrites) (unmarked h) r
    → applied (unmarked h) r ≡ unmarked i → ByRewrites 0 (unmarked g) (unmarked i)
one_more g h i r s e f is = record {
  rewrites = s.rewrites ++ r ∷ [];
  all = Each-append (λ (x : Rewrite). rewrite_group x ≡ 0) s.rewrites (r ∷ []) s.all (e, tt);
  leads = subst (λ (x : Blocked). Leads 0 (s.rewrites ++ r ∷ []) (unmarked g) x) is
      (leads_more 0 s.rewrites r (unmarked g) (unmarked h) s.leads f);
}

link_more : (g h i : Graph) → ByRewrites 0 (unmarked g) (unmarked h) → IsLink h i
    → ByRewrites 0 (unmarked g) (unmarked i)
link_more g h i s (inl l) =
    one_more g h i (Merge l.0.flatten l.0.other) s refl
    (behind (unmarked g) (unmarked h) s, l.1) (ap unmarked l.2)
link_more g h i s (inr l) =
    one_more g h i (Sink l.0.flatten l.0.other) s refl (
      behind (unmarked g) (unmarked h) s,
      (l.1, subst (λ (x : Graph). total_size x.nodes ≤ most_nodes) (sym l.3) l.2),
    ) (ap unmarked l.3)

pub sinks_lead : (g h : Graph) → IsGraphOk g → Sinks g h → ByRewrites 0 (unmarked g) (unmarked h)
sinks_lead g h ok (stay x) = record { rewrites = []; all = tt; leads = refl }
sinks_lead g h ok (go x y z l e) =
    let k : KeepsTypesAndSteps x y = kept_sunk x y ok l in
    link_more x y z (sinks_lead x y ok l) (next_link y z k.good.ok e)

-- ---- lifts

lifts_by : (ns : List ℕ) (g h : Graph) → LiftsLead ns g h
    → Leads 1 (map (λ n. Lift n) ns) (unmarked g) (unmarked h)
lifts_by [] g h l = ap unmarked l
lifts_by (n ∷ ns) g h l =
    ((let at : 1 ≤ 1 = omega arith in at, l.0), lifts_by ns (lifted_at n g) h l.1)

lifts_all : (ns : List ℕ) → Each (λ r. rewrite_group r ≡ 1) (map (λ n. Lift n) ns)
lifts_all [] = tt
lifts_all (n ∷ ns) = (refl, lifts_all ns)

pub lifts_list : (g : Graph) → IsGraphOk g → ByRewrites 1 (unmarked g) (unmarked (lifted g))
lifts_list g ok =
    let l = lifts_lead g ok in
    record {
      rewrites = map (λ n. Lift n) l.0;
      all = lifts_all l.0;
      leads = lifts_by l.0 g (lifted g) l.1;
    }

-- ---- marks

marks_by : (cs : List Place) (a b : Blocked) → MarksLead cs a b
    → Leads 3 (map (λ c. Mark c.node c.out) cs) a b
marks_by [] a b l = l
marks_by (c ∷ cs) a b l =
    ((let at : 3 ≤ 3 = omega arith in at, l.0), marks_by cs (with_mark a c) b l.1)

marks_all : (cs : List Place) → Each (λ r. rewrite_group r ≡ 3) (map (λ c. Mark c.node c.out) cs)
marks_all [] = tt
marks_all (c ∷ cs) = (refl, marks_all cs)

pub marks_list : (cs : List Place) (a b : Blocked) → MarksLead cs a b → ByRewrites 3 a b
marks_list cs a b l = record {
  rewrites = map (λ c. Mark c.node c.out) cs;
  all = marks_all cs;
  leads = marks_by cs a b l;
}
