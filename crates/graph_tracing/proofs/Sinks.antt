-- Merges and steps, one after another, and the end of them.
use Rattle.std.proofs.Common.{◌≡◌, ℕ, ◌<◌, ◌≤◌, Bool, true, false, leb, List, [], ◌∷◌, ◌++◌, Option, Some, None, refl, sym, ap, ◌∙◌, subst, arith}
use Rattle.std.proofs.lemmas.Bool.{le-leb, leb-true}
use Rattle.std.specs.Option.{IsSome}
use Rattle.exec_graph.specs.Wellformed.{IsGraphOk, most_nodes, total_size}
use Rattle.exec_graph.specs.declared.graph.Graph.{Graph}
use Rattle.flatten_sink.specs.Pairs.{IsMergedAt, IsSunkAt}
use Rattle.flatten_sink.specs.inner.Turns.{IsMerged, IsReached}
use Rattle.flatten_sink.proofs.Turning.{step_kept, step_taken}
use Rattle.fusion_blocks.specs.Blocks.{unmarked}
use Rattle.graph_rewrites.specs.Replays.{rewrite_group}
use Rattle.graph_rewrites.specs.Rewrites.{CanApply, applied}
use Rattle.graph_rewrites.specs.declared.rewrite.Rewrite.{Rewrite}
use Rattle.graph_rewrites.specs.declared.rewrite.Rewrite.TheVariants.{Merge, Sink}
use Rattle.sink_laws.specs.Chain.{IsSunk, after_call, after_nest, next_call, next_graph, next_nest}
use Rattle.sink_laws.specs.declared.pair.Pair.{Pair}
use Rattle.sink_laws.proofs.Choosing.{next_call_can, next_has_no_room, next_is_call, next_is_nest, next_nest_can}
use Rattle.sink_weights.proofs.Ending.{ends_once}
use Rattle.graph_tracing.specs.Sinks.{AreNext, IsSinking, least_rewrite, next_rewrite}
use Rattle.graph_tracing.specs.inner.Turns.{IsTurned, SinksOn}
use Rattle.graph_tracing.specs.declared.sinking.Turn.TheVariants.{More}
use Rattle.graph_tracing.specs.declared.trace.Trace.{Trace}
use Rattle.graph_tracing.proofs.Traces.{begun, goes_more}

-- ---- one rewrite more

next_last : (g h i : Graph) (rs : List Rewrite) (r : Rewrite) → AreNext g rs h
    → next_rewrite h ≡ Some r → next_graph h ≡ Some i → AreNext g (rs ++ r ∷ []) i
next_last g h i [] r is next makes =
    subst (λ (x : Graph). AreNext x (r ∷ []) i) (sym is) (i, next, makes, refl)
next_last g h i (q ∷ rs) r are next makes =
    (are.0, are.1, are.2, next_last are.0 h i rs r are.3 next makes)

-- The rewrite r is the next one of g, and makes i.
record IsNext (g i : Graph) (r : Rewrite) : Type 0 where
  pub next : next_rewrite g ≡ Some r
  pub makes : next_graph g ≡ Some i
  pub of : rewrite_group r ≡ 0
  pub can : CanApply (unmarked g) r
  pub is : applied (unmarked g) r ≡ unmarked i

sinks_more : (old new : Trace) (i : Graph) (r : Rewrite) → IsNext old.graph i r → new.graph ≡ i
    → new.rewrites ≡ old.rewrites ++ r ∷ [] → SinksOn old new
sinks_more old new i r n at more g s = record {
  traced = goes_more 0 old new i r n.of n.can n.is at more g s.traced;
  order = subst (λ (l : List Rewrite). AreNext g l new.graph) (sym more)
      (subst (λ (x : Graph). AreNext g (old.rewrites ++ r ∷ []) x) (sym at)
      (next_last g old.graph i old.rewrites r s.order n.next n.makes));
}

pub sinks_then : (a b c : Trace) → SinksOn a b → SinksOn b c → SinksOn a c
sinks_then a b c f h g t = h g (f g t)

pub none_sunk : (g : Graph) (rs : List Rewrite) → rs ≡ [] → IsSinking g rs g
none_sunk g rs none = record {
  traced = begun 0 g rs none;
  order = subst (λ (l : List Rewrite). AreNext g l g) (sym none) refl;
}

-- ---- merges

pub nest_some : (g : Graph) (n : Pair) (o : Option Graph) → IsGraphOk g
    → next_nest g.nodes ≡ Some n → IsMergedAt g n o → IsSome o
nest_some g n None ok e m = absurd (m (next_nest_can g ok n e))
nest_some g n (Some h) ok e m = refl

pub nest_graph : (g h : Graph) (n : Pair) (o : Option Graph) → IsMergedAt g n o → o ≡ Some h
    → h ≡ after_nest g n
nest_graph g h n o m e =
    let at : IsMergedAt g n (Some h) = subst (IsMergedAt g n) e m in at.1

pub nest_sinks : (old new : Trace) (n : Pair) → IsGraphOk old.graph
    → next_nest old.graph.nodes ≡ Some n → new.graph ≡ after_nest old.graph n
    → new.rewrites ≡ old.rewrites ++ Merge n.flatten n.other ∷ [] → SinksOn old new
nest_sinks old new n ok e at more =
    sinks_more old new (after_nest old.graph n) (Merge n.flatten n.other) (record {
      next = ap (λ o. least_rewrite o (next_call old.graph.nodes)) e;
      makes = next_is_nest old.graph n e;
      of = refl;
      can = next_nest_can old.graph ok n e;
      is = refl;
    }) at more

-- ---- steps

room_true : (x y : ℕ) → x ≤ y → leb x y ≡ true
room_true x y h = le-leb x y h

room_false : (x y : ℕ) → y < x → (b : Bool) → leb x y ≡ b → leb x y ≡ false
room_false x y h true e = let up : x ≤ y = leb-true x y e in absurd (omega arith)
room_false x y h false e = e

pub no_room_left : (g : Graph) (c : Pair) (o : Option Graph) → IsGraphOk g
    → next_nest g.nodes ≡ None → next_call g.nodes ≡ Some c → IsSunkAt g c o → o ≡ None
    → next_graph g ≡ None
no_room_left g c o ok a b s e =
    let at : IsSunkAt g c None = subst (IsSunkAt g c) e s in
    let full : most_nodes < total_size (after_call g c).nodes = at (next_call_can g ok c b) in
    next_has_no_room g c a b
    (room_false (total_size (after_call g c).nodes) most_nodes full
    (leb (total_size (after_call g c).nodes) most_nodes) refl)

pub sunk_at : (g h : Graph) (c : Pair) (o : Option Graph) → IsSunkAt g c o → o ≡ Some h
    → IsSunkAt g c (Some h)
sunk_at g h c o s e = subst (IsSunkAt g c) e s

pub sunk_ok : (g h : Graph) (c : Pair) → IsGraphOk g → next_nest g.nodes ≡ None
    → next_call g.nodes ≡ Some c → IsSunkAt g c (Some h) → IsGraphOk h
sunk_ok g h c ok a b s =
    subst IsGraphOk (sym s.2)
    (step_kept g c ok (b, room_true (total_size (after_call g c).nodes) most_nodes s.1, a)).good.ok

-- The least pair that is stepped on is the next rewrite.
step_sinks : (old new : Trace) (c : Pair) (h : Graph) → next_nest old.graph.nodes ≡ None
    → next_call old.graph.nodes ≡ Some c → IsSunkAt old.graph c (Some h) → new.graph ≡ h
    → new.rewrites ≡ old.rewrites ++ Sink c.flatten c.other ∷ [] → SinksOn old new
step_sinks old new c h a b s at more =
    sinks_more old new (after_call old.graph c) (Sink c.flatten c.other) (record {
      next = ap (λ o. least_rewrite o (next_call old.graph.nodes)) a ∙ ap (least_rewrite None) b;
      makes = next_is_call old.graph c a b
          (room_true (total_size (after_call old.graph c).nodes) most_nodes s.1);
      of = refl;
      can = (s.0, s.1);
      is = refl;
    }) (at ∙ s.2) more

pub more_turned : (old mid new : Trace) (c : Pair) (h : Graph) → IsGraphOk old.graph
    → next_nest old.graph.nodes ≡ None → next_call old.graph.nodes ≡ Some c
    → IsSunkAt old.graph c (Some h) → mid.graph ≡ h
    → mid.rewrites ≡ old.rewrites ++ Sink c.flatten c.other ∷ []
    → IsMerged mid.graph new.graph → SinksOn mid new → IsTurned old (More new)
more_turned old mid new c h ok a b s at more m t = (
  step_taken old.graph h new.graph c ok
      (b, room_true (total_size (after_call old.graph c).nodes) most_nodes s.1, a) s.2
      (subst (λ (x : Graph). IsMerged x new.graph) at m),
  sinks_then old mid new (step_sinks old mid c h a b s at more) t,
)

-- ---- the end

pub ended_at : (g now h : Graph) (rs : List Rewrite) → IsReached g now → next_graph now ≡ None
    → IsSinking g rs now → IsSunk g h → IsSinking g rs h
ended_at g now h rs r e t s =
    subst (λ (x : Graph). IsSinking g rs x)
    (ends_once g now h (record { leads = r.leads; ends = e }) s) t
