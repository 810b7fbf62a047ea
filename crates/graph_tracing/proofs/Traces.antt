-- One rewrite more, of one group.
use Rattle.std.proofs.Common.{◌≡◌, ℕ, ◌≤◌, List, [], ◌∷◌, ◌++◌, refl, sym, subst, arith}
use Rattle.flume_value.proofs.EachLemmas.{Each-append}
use Rattle.exec_graph.specs.declared.graph.Blocked.{Blocked}
use Rattle.exec_graph.specs.declared.graph.Graph.{Graph}
use Rattle.fusion_blocks.specs.Blocks.{unmarked}
use Rattle.graph_rewrites.specs.Replays.{Leads, rewrite_group}
use Rattle.graph_rewrites.specs.Rewrites.{CanApply, applied}
use Rattle.graph_rewrites.specs.declared.rewrite.Rewrite.{Rewrite}
use Rattle.graph_rewrites.proofs.Replaying.{last_group, leads_more}
use Rattle.pass_rewrites.proofs.Lists.{last_is}
use Rattle.graph_tracing.specs.Traces.{GoesOn, IsTrace}
use Rattle.graph_tracing.specs.declared.trace.Trace.{Trace}

abbrev pub as_trace : Graph → List Rewrite → Trace
as_trace g rs = record { graph = g; rewrites = rs }

pub begun : (group : ℕ) (g : Graph) (rs : List Rewrite) → rs ≡ [] → IsTrace group g rs g
begun group g rs none =
    subst (λ (l : List Rewrite). IsTrace group g l g) (sym none) (record { all = tt; leads = refl })

pub one_more : (group : ℕ) (g h i : Graph) (rs : List Rewrite) (r : Rewrite)
    → IsTrace group g rs h → rewrite_group r ≡ group → CanApply (unmarked h) r
    → applied (unmarked h) r ≡ unmarked i → IsTrace group g (rs ++ r ∷ []) i
one_more group g h i rs r t of can is =
    let last : last_group group rs ≡ group = last_is group rs t.all in
    let at : last_group group rs ≤ rewrite_group r = omega arith in
    record {
      all = Each-append (λ (x : Rewrite). rewrite_group x ≡ group) rs (r ∷ []) t.all (of, tt);
      leads = subst (λ (x : Blocked). Leads group (rs ++ r ∷ []) (unmarked g) x) is
          (leads_more group rs r (unmarked g) (unmarked h) t.leads (at, can));
    }

-- the same of graphs with the rewrites that led to them
pub goes_more : (group : ℕ) (old new : Trace) (i : Graph) (r : Rewrite) → rewrite_group r ≡ group
    → CanApply (unmarked old.graph) r → applied (unmarked old.graph) r ≡ unmarked i
    → new.graph ≡ i → new.rewrites ≡ old.rewrites ++ r ∷ [] → GoesOn group old new
goes_more group old new i r of can is at more g t =
    subst (λ (l : List Rewrite). IsTrace group g l new.graph) (sym more)
    (subst (λ (x : Graph). IsTrace group g (old.rewrites ++ r ∷ []) x) (sym at)
    (one_more group g old.graph i old.rewrites r t of can is))
