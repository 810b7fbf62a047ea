-- The chain of merges and steps ends, in one graph alone.
use Rattle.std.proofs.Common.{◌≡◌, ℕ, ◌<◌, ◌≤◌, Bool, true, false, cond, List, Option, Some, None, zero, suc, refl, sym, ap, ◌∙◌, subst, arith, inl, inr, ◌⊎◌}
use Rattle.std.proofs.lemmas.Bool.{leb-true}
use Rattle.sink_laws.specs.of_exec_graph.Forests.{Forest}
use Rattle.sink_laws.specs.of_exec_graph.Meaning.{node_at}
use Rattle.sink_laws.specs.of_exec_graph.Wellformed.{IsGraphOk, most_nodes, total_size}
use Rattle.sink_laws.specs.of_exec_graph.declared.graph.Place.{Place}
use Rattle.sink_laws.specs.of_exec_graph.declared.graph.Graph.{Graph}
use Rattle.sink_laws.specs.Chain.{after_call, after_nest, forest_of, go, has_room, ins_of, next_by, next_call, next_graph, next_nest, sink_next, stay, IsSunk, SinksTo}
use Rattle.sink_laws.specs.declared.pair.Pair.{Pair}
use Rattle.sink_laws.proofs.Choosing.{next_call_can, next_nest_can, Leads-trans}
use Rattle.sink_laws.proofs.Steps.{IsGood-merge_step, IsGood-sink_step}
use Rattle.sink_weights.specs.Weights.{total_weight}
use Rattle.sink_weights.proofs.MergeLighter.{merge_lighter}
use Rattle.sink_weights.proofs.SinkLighter.{sink_lighter}

-- The graph is well-formed, and lighter.
pub record IsLess (g h : Graph) : Type 0 where
  pub ok : IsGraphOk h
  pub less : total_weight h < total_weight g

some_same : (g h : Graph) → Some g ≡ Some h → g ≡ h
some_same g h e = cc

pub after_nest_less : (g : Graph) (n : Pair) → IsGraphOk g → next_nest g.nodes ≡ Some n
    → IsLess g (after_nest g n)
after_nest_less g n ok h =
    let can = next_nest_can g ok n h in
    let ins : List Place = ins_of (node_at g.nodes n.flatten) in
    let es : List Place = ins_of (node_at g.nodes n.other) in
    record {
      ok = (IsGood-merge_step g n.flatten ins n.other es ok can).ok;
      less = merge_lighter g n.flatten ins n.other es ok can;
    }

after_call_less : (g : Graph) (p : Pair) → IsGraphOk g → next_call g.nodes ≡ Some p
    → total_size (after_call g p).nodes ≤ most_nodes → IsLess g (after_call g p)
after_call_less g p ok h room =
    let can = next_call_can g ok p h in
    let ins : List Place = ins_of (node_at g.nodes p.flatten) in
    let f : Forest = forest_of (node_at g.nodes p.other) in
    record {
      ok = (IsGood-sink_step g p.flatten p.other f ins ok can room).ok;
      less = sink_lighter g p.flatten p.other f ins ok can;
    }

room_less : (g h : Graph) (p : Pair) (b : Bool) → has_room g p ≡ b → IsGraphOk g
    → next_call g.nodes ≡ Some p → cond b (Some (after_call g p)) None ≡ Some h → IsLess g h
room_less g h p true r ok at e =
    subst (IsLess g) (some_same (after_call g p) h e)
    (after_call_less g p ok at (leb-true (total_size (after_call g p).nodes) most_nodes r))
room_less g h p false r ok at e = let bad : ⊥ = cc in absurd bad

call_less : (g h : Graph) (o : Option Pair) → next_call g.nodes ≡ o → IsGraphOk g
    → sink_next g o ≡ Some h → IsLess g h
call_less g h None at ok e = let bad : ⊥ = cc in absurd bad
call_less g h (Some p) at ok e = room_less g h p (has_room g p) refl ok at e

nest_less : (g h : Graph) (o : Option Pair) → next_nest g.nodes ≡ o → IsGraphOk g
    → next_by g o ≡ Some h → IsLess g h
nest_less g h None at ok e = call_less g h (next_call g.nodes) refl ok e
nest_less g h (Some n) at ok e =
    subst (IsLess g) (some_same (after_nest g n) h e) (after_nest_less g n ok at)

next_less : (g h : Graph) → IsGraphOk g → next_graph g ≡ Some h → IsLess g h
unfolding next_graph
next_less g h ok e = nest_less g h (next_nest g.nodes) refl ok e

ends_by : (k : ℕ) (g : Graph) → IsGraphOk g → total_weight g < k → (h : Graph) × IsSunk g h
ends_by zero g ok l = absurd (omega arith)
ends_by (suc k) g ok l =
    by (λ i a b. ends_by k i a b) (next_graph g) refl
  where
    by : ((i : Graph) → IsGraphOk i → total_weight i < k → (h : Graph) × IsSunk i h)
        → (o : Option Graph) → next_graph g ≡ o → (h : Graph) × IsSunk g h
    by f None e = (g, record { leads = stay g; ends = e })
    by f (Some i) e =
        let a : IsLess g i = next_less g i ok e in
        let lower : total_weight i < k = (let b = a.less in omega arith) in
        let r = f i a.ok lower in (
          r.0,
          record {
            leads = Leads-trans g i r.0 (go g g i (stay g) e) r.1.leads;
            ends = r.1.ends;
          },
        )

pub ends_somewhere : (g : Graph) → IsGraphOk g → (h : Graph) × IsSunk g h
ends_somewhere g ok = ends_by (suc (total_weight g)) g ok (omega arith)

-- ---- in one graph

-- A chain from g that does more than stay leads on from the graph that is next.
on_from : (g h z : Graph) → SinksTo g h → next_graph g ≡ Some z → SinksTo z h ⊎ (g ≡ h)
on_from g h z (stay x) e = inr refl
on_from g h z (go x y w l d) e = elim (on_from x y z l e) [
  | inl m ↦ inl (go z y w m d)
  | inr i ↦ (let same : z ≡ w = some_same z w (sym e ∙ ap next_graph i ∙ d) in
      inl (subst (SinksTo z) same (stay z)))
]

-- Of two graphs that chains from one graph lead to, one leads to the other.
one_way : (g h i : Graph) → SinksTo g h → SinksTo g i → SinksTo h i ⊎ SinksTo i h
one_way g h i (stay x) b = inl b
one_way g h i (go x y z a e) b = elim (one_way x y i a b) [
  | inl c ↦ (elim (on_from y i z c e) [
    | inl m ↦ inl m
    | inr j ↦ inr (subst (λ (u : Graph). SinksTo u z) j (go y y z (stay y) e))
  ])
  | inr c ↦ inr (go i y z c e)
]

stays : (g h : Graph) → SinksTo g h → next_graph g ≡ None → g ≡ h
stays g h (stay x) e = refl
stays g h (go x y z l d) e =
    let i : x ≡ y = stays x y l e in
    let bad : ⊥ = (let j : next_graph x ≡ next_graph y = ap next_graph i in cc) in absurd bad

pub ends_once : (g h i : Graph) → IsSunk g h → IsSunk g i → h ≡ i
ends_once g h i a b =
    elim (one_way g h i a.leads b.leads) [
      | inl l ↦ stays h i l a.ends
      | inr l ↦ sym (stays i h l b.ends)
    ]
