-- What is next in the chain is the least that could be, and each link of the chain may be made.
use Rattle.std.proofs.Common.{◌≡◌, ℕ, ◌≤◌, ◌⊎◌, Bool, true, false, cond, eqb, List, [], ◌∷◌, length, Option, Some, None, refl, sym, ap, ◌∙◌, subst, inl, inr}
use Rattle.std.proofs.lemmas.Bool.{eqb-true, false≢true, le-leb, leb-true}
use Rattle.graph_laws.specs.of_exec_graph.Forests.{Forest}
use Rattle.graph_laws.specs.of_exec_graph.Meaning.{place, node_at}
use Rattle.graph_laws.specs.of_exec_graph.Readers.{among, same_place}
use Rattle.graph_laws.specs.of_exec_graph.Wellformed.{IsGraphOk, most_nodes, total_size}
use Rattle.graph_laws.specs.of_exec_graph.declared.graph.Place.{Place}
use Rattle.graph_laws.specs.of_exec_graph.declared.graph.Node.{Node}
use Rattle.graph_laws.specs.of_exec_graph.declared.graph.Node.TheVariants.{Flatten, Pdo}
use Rattle.graph_laws.specs.of_exec_graph.declared.graph.Entry.{Entry}
use Rattle.graph_laws.specs.of_exec_graph.declared.graph.Graph.{Graph}
use Rattle.graph_laws.proofs.of_exec_graph.Bools.{or_cases}
use Rattle.graph_laws.proofs.of_exec_graph.Entries.{entry}
use Rattle.graph_laws.proofs.Lexicographic.{Le, le_not, le_self, le_trans, less_le, not_less}
use Rattle.sink_laws.specs.declared.pair.Pair.{Pair}
use Rattle.sink_laws.specs.Kept.{KeepsTypesAndSteps}
use Rattle.sink_laws.specs.Merging.{CanMerge, spliced}
use Rattle.sink_laws.specs.Sinking.{CanSink}
use Rattle.sink_laws.specs.Chain.{CanSinkPdo, CanNest, IsLeastPair, IsLink, SinksTo, after_call, after_nest, call_at, call_of, forest_of, go, has_room, ins_of, is_before, least_pair, lesser_pair, nest_at, nest_of, next_by, next_call, next_graph, next_nest, sink_next, stay}
use Rattle.sink_laws.proofs.Choosing.{IsKept-call, IsKept-nest, IsKept-refl, IsKept-trans, next_call_can, next_nest_can}
use Rattle.sink_laws.proofs.Unread.{same_true}

-- ---- a pair that is found is not behind x

abbrev pub Upto : Pair → Pair → Type 0
Upto p x = Le p.flatten p.other x.flatten x.other

pub record Below (o : Option Pair) (x : Pair) : Type 0 where
  pub pair : Pair
  pub is : o ≡ Some pair
  pub upto : Upto pair x

below_self : (x : Pair) → Below (Some x) x
below_self x = record { pair = x; is = refl; upto = le_self x.flatten x.other }

below_none : (x : Pair) → Below None x → ⊥
below_none x h = let e : None ≡ Some h.pair = h.is in cc

below_some : (n x : Pair) → Below (Some n) x → Upto n x
below_some n x h =
    let e : Some n ≡ Some h.pair = h.is in
    let same : h.pair ≡ n = cc in subst (λ (p : Pair). Upto p x) same h.upto

upto_trans : (a b x : Pair) → Upto a b → Upto b x → Upto a x
upto_trans a b x p q =
    le_trans a.flatten a.other b.flatten b.other x.flatten x.other p q

left_by : (a b x : Pair) (t : Bool) → is_before b a ≡ t → Upto a x
    → Below (cond t (Some b) (Some a)) x
left_by a b x true e h = record {
  pair = b;
  is = refl;
  upto = upto_trans b a x (less_le b.flatten b.other a.flatten a.other e) h;
}
left_by a b x false e h = record { pair = a; is = refl; upto = h }

right_by : (a b x : Pair) (t : Bool) → is_before b a ≡ t → Upto b x
    → Below (cond t (Some b) (Some a)) x
right_by a b x true e h = record { pair = b; is = refl; upto = h }
right_by a b x false e h = record {
  pair = a;
  is = refl;
  upto = upto_trans a b x (not_less a.flatten a.other b.flatten b.other e) h;
}

below_left : (a b : Option Pair) (x : Pair) → Below a x → Below (lesser_pair a b) x
below_left None b x h = absurd (below_none x h)
below_left (Some a) None x h = h
below_left (Some a) (Some b) x h = left_by a b x (is_before b a) refl (below_some a x h)

below_right : (a b : Option Pair) (x : Pair) → Below b x → Below (lesser_pair a b) x
below_right None b x h = h
below_right (Some a) None x h = absurd (below_none x h)
below_right (Some a) (Some b) x h = right_by a b x (is_before b a) refl (below_some b x h)

-- ---- along a list

abbrev AnyOf : {Y : Type 0} → (Y → Type 0) → List Y → Type 0
AnyOf P [] = ⊥
AnyOf P (y ∷ ys) = P y ⊎ AnyOf P ys

least_keeps : {Y : Type 0} (f : Y → Option Pair) (b : Option Pair) (ys : List Y) (x : Pair)
    → Below b x → Below (least_pair f b ys) x
least_keeps f b [] x h = h
least_keeps f b (y ∷ ys) x h = least_keeps f (lesser_pair b (f y)) ys x (below_left b (f y) x h)

least_takes : {Y : Type 0} (f : Y → Option Pair) (b : Option Pair) (ys : List Y) (x : Pair)
    → AnyOf (λ y. Below (f y) x) ys → Below (least_pair f b ys) x
least_takes f b [] x h = absurd h
least_takes f b (y ∷ ys) x (inl h) =
    least_keeps f (lesser_pair b (f y)) ys x (below_right b (f y) x h)
least_takes f b (y ∷ ys) x (inr h) = least_takes f (lesser_pair b (f y)) ys x h

any_by : (P : Entry → Type 0) (e : Entry) (es : List Entry) (n : ℕ) (x : Node) (b : Bool)
    → eqb e.number n ≡ b → cond b (Some e.node) (node_at es n) ≡ Some x → P (entry n x)
    → (node_at es n ≡ Some x → AnyOf P es) → P e ⊎ AnyOf P es
any_by P e es n x true i h p f =
    let node : e.node ≡ x = cc in
    let same : e ≡ entry n x =
    ap (λ (k : ℕ). entry k e.node) (eqb-true e.number n i) ∙ ap (entry n) node in
    inl (subst P (sym same) p)
any_by P e es n x false i h p f = inr (f h)

any_entry : (P : Entry → Type 0) (es : List Entry) (n : ℕ) (x : Node) → node_at es n ≡ Some x
    → P (entry n x) → AnyOf P es
any_entry P [] n x h p = let bad : ⊥ = cc in absurd bad
any_entry P (e ∷ es) n x h p =
    any_by P e es n x (eqb e.number n) refl h p (λ i. any_entry P es n x i p)

any_place : (P : Place → Type 0) (c : Place) (cs : List Place) → among c cs ≡ true → P c
    → AnyOf P cs
any_place P c [] h p = absurd (false≢true h)
any_place P c (d ∷ ds) h p =
    elim (or_cases (same_place c d) (among c ds) h) [
      | inl i ↦ inl (subst P (same_true c d i) p)
      | inr i ↦ inr (any_place P c ds i p)
    ]

-- ---- merges

nest_is : (n e : ℕ) (ins es : List Place) → length (spliced e es ins) ≤ most_nodes
    → nest_of n ins e (Some (Flatten es)) ≡ Some (record { flatten = n; other = e })
nest_is n e ins es l = rw (le-leb (length (spliced e es ins)) most_nodes l) refl

nest_found : (g : Graph) (x : Pair) (ins es : List Place)
    → CanMerge g x.flatten ins x.other es → Below (next_nest g.nodes) x
nest_found g x ins es can =
    let here : nest_of x.flatten ins x.other (node_at g.nodes x.other) ≡ Some x =
    ap (nest_of x.flatten ins x.other) can.inner
    ∙ nest_is x.flatten x.other ins es can.room in
    let inside : Below (nest_at g.nodes x.flatten (Flatten ins)) x =
    least_takes (λ (c : Place). nest_of x.flatten ins c.node (node_at g.nodes c.node)) None ins x
    (any_place (λ (c : Place).
    Below (nest_of x.flatten ins c.node (node_at g.nodes c.node)) x) (place x.other 0) ins
    can.nested (subst (λ (o : Option Pair). Below o x) (sym here) (below_self x))) in
    least_takes (λ (e : Entry). nest_at g.nodes e.number e.node) None g.nodes x
    (any_entry (λ (e : Entry). Below (nest_at g.nodes e.number e.node) x) g.nodes x.flatten
    (Flatten ins) can.outer inside)

pub nest_below : (g : Graph) (x : Pair) → CanNest g x → Below (next_nest g.nodes) x
nest_below g x can =
    nest_found g x (ins_of (node_at g.nodes x.flatten)) (ins_of (node_at g.nodes x.other))
    can

-- no pair that is found at or before x is behind it
not_behind : (n x : Pair) (o : Option Pair) → o ≡ Some n → Below o x → is_before x n ≡ false
not_behind n x o e h =
    le_not n.flatten n.other x.flatten x.other
    (below_some n x (subst (λ (p : Option Pair). Below p x) e h))

-- what is found is the least, where all that can be are at or behind it
pub least_of : (P : Pair → Type 0) (o : Option Pair) → ((x : Pair) → P x → Below o x) → (n : Pair)
    → o ≡ Some n → P n → IsLeastPair P n
least_of P o below n e is = record {
  is = is;
  least = λ x can. not_behind n x o e (below x can);
}

-- and where nothing is found, none can be
pub none_of : (P : Pair → Type 0) (o : Option Pair) → ((x : Pair) → P x → Below o x) → o ≡ None
    → (x : Pair) → P x → ⊥
none_of P o below e x can = below_none x (subst (λ (p : Option Pair). Below p x) e (below x can))

pub no_nest_left : (g : Graph) → next_nest g.nodes ≡ None → (x : Pair) → CanNest g x → ⊥
no_nest_left g = none_of (CanNest g) (next_nest g.nodes) (nest_below g)

-- ---- steps

call_found : (g : Graph) (x : Pair) (f : Forest) (ins : List Place)
    → CanSink g x.flatten x.other f ins → Below (next_call g.nodes) x
call_found g x f ins can =
    let here : call_at g.nodes x.other (Pdo (place x.flatten 0) f) ≡ Some x =
    ap (call_of x.flatten x.other) can.flatten in
    least_takes (λ (e : Entry). call_at g.nodes e.number e.node) None g.nodes x
    (any_entry (λ (e : Entry). Below (call_at g.nodes e.number e.node) x) g.nodes x.other
    (Pdo (place x.flatten 0) f) can.pdo
    (subst (λ (o : Option Pair). Below o x) (sym here) (below_self x)))

pub call_below : (g : Graph) (x : Pair) → CanSinkPdo g x → Below (next_call g.nodes) x
call_below g x can =
    call_found g x (forest_of (node_at g.nodes x.other)) (ins_of (node_at g.nodes x.flatten))
    can

-- ---- the chain

some_graph : (g h : Graph) → Some g ≡ Some h → g ≡ h
some_graph g h e = cc

room_by : (g h : Graph) (p : Pair) (b : Bool) → has_room g p ≡ b
    → cond b (Some (after_call g p)) None ≡ Some h
    → (total_size (after_call g p).nodes ≤ most_nodes) × (after_call g p ≡ h)
room_by g h p true r e = (
  leb-true (total_size (after_call g p).nodes) most_nodes r,
  some_graph (after_call g p) h e,
)
room_by g h p false r e = let bad : ⊥ = cc in absurd bad

call_link : (g h : Graph) (o : Option Pair) → next_call g.nodes ≡ o → IsGraphOk g
    → sink_next g o ≡ Some h → IsLink g h
call_link g h None at ok e = let bad : ⊥ = cc in absurd bad
call_link g h (Some p) at ok e =
    let r = room_by g h p (has_room g p) refl e in
    inr (
      p,
      next_call_can g ok p at,
      subst (λ (x : Graph). total_size x.nodes ≤ most_nodes) r.1 r.0,
      r.1,
    )

link_by : (g h : Graph) (o : Option Pair) → next_nest g.nodes ≡ o → IsGraphOk g
    → next_by g o ≡ Some h → IsLink g h
link_by g h None at ok e = call_link g h (next_call g.nodes) refl ok e
link_by g h (Some n) at ok e =
    inl (n, next_nest_can g ok n at, some_graph (after_nest g n) h e)

pub next_link : (g h : Graph) → IsGraphOk g → next_graph g ≡ Some h → IsLink g h
unfolding next_graph
next_link g h ok e = link_by g h (next_nest g.nodes) refl ok e

link_kept : (g h : Graph) → IsGraphOk g → IsLink g h → KeepsTypesAndSteps g h
link_kept g h ok (inl l) = subst (KeepsTypesAndSteps g) l.2 (IsKept-nest g l.0 ok l.1)
link_kept g h ok (inr l) =
    subst (KeepsTypesAndSteps g) l.3 (IsKept-call g l.0 ok l.1
    (subst (λ (x : Graph). total_size x.nodes ≤ most_nodes) (sym l.3) l.2))

pub kept_sunk : (g h : Graph) → IsGraphOk g → SinksTo g h → KeepsTypesAndSteps g h
kept_sunk g h ok (stay x) = IsKept-refl x ok
kept_sunk g h ok (go x y z l e) =
    let k : KeepsTypesAndSteps x y = kept_sunk x y ok l in
    IsKept-trans x y z k (link_kept y z k.good.ok (next_link y z k.good.ok e))
