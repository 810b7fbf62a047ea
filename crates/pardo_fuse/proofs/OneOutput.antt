-- Where each step has one output, its Pdo is its own part, and fusing takes Pdos by their numbers.
use Rattle.std.proofs.Common.{◌≡◌, ℕ, ◌≤◌, Bool, true, false, cond, eqb, List, [], ◌∷◌, ◌++◌, ◌||◌, map, Option, Some, None, refl, sym, ap, ◌∙◌, arith}
use Rattle.std.proofs.lemmas.Bool.{eqb-true, false≢true}
use Rattle.std.specs.List.{AllByRecursion}
use Rattle.flume_value.proofs.EachLemmas.{Each-weaker}
use Rattle.exec_graph.specs.Forests.{Label, Forest, Bare, Grow, Branch, new_out, numbered}
use Rattle.exec_graph.specs.Meaning.{node_at, reads, place, is_out, has_out, gives_at, IsThere}
use Rattle.exec_graph.specs.Wellformed.{IsBlockedOk, IsNodeOk}
use Rattle.exec_graph.specs.declared.graph.Place.{Place}
use Rattle.exec_graph.specs.declared.graph.Node.{Node}
use Rattle.exec_graph.specs.declared.graph.Node.TheVariants.{Source, Flatten, Pdo, Gbk, Barrier}
use Rattle.exec_graph.specs.declared.graph.Entry.{Entry}
use Rattle.exec_graph.specs.declared.graph.Graph.{Graph}
use Rattle.exec_graph.specs.declared.graph.Blocked.{Blocked}
use Rattle.exec_graph.proofs.Entries.{all_found, all_three}
use Rattle.exec_graph.proofs.Solving.{there_found}
use Rattle.graph_laws.specs.Joining.{reread}
use Rattle.graph_laws.specs.Single.{HasNarrowSteps, HasSingleOutputs, HasSteps, IsOneOutput, IsOneStep, IsUnfused, most_outputs, width}
use Rattle.pardo_fuse.specs.Readers.{cut_of}
use Rattle.pardo_fuse.specs.Fusing.{fused, least_of}
use Rattle.pardo_fuse.specs.Renumbering.{renumbered}
use Rattle.pardo_fuse.specs.SingleFusing.{fused_by}
use Rattle.pardo_fuse.specs.Parting.{part_number, sole_output, parts, parts_of_node, at_of, part_at, part_place, parted}
use Rattle.pardo_fuse.specs.Wellformed.{IsFusible}
use Rattle.pardo_fuse.proofs.Parting.{all_parts, first_number}
use Rattle.pardo_fuse.proofs.Rejoining.{joined_is}
use Rattle.pardo_fuse.proofs.Unparting.{part_same}

-- ---- such a graph can be fused

step_of_output : (f : Forest) → IsOneOutput f → IsOneStep f
step_of_output f s =
    let l : Label = s.label in
    let b : Branch = record {
      origin = l.origin;
      last = l.last;
      does = l.does;
      first = record { out = l.out; kids = Bare };
      more = [];
    } in
    record {
      step = b;
      alone = s.alone ∙ ap (λ (x : ℕ). let m : Label = record {
        origin = l.origin;
        last = l.last;
        does = l.does;
        at = x;
        out = l.out;
      } in Grow m Bare Bare) s.first;
      first = refl;
      more = tt;
    }

node_step : (x : Node) → HasSteps IsOneOutput x → HasSteps IsOneStep x
node_step (Pdo c f) a = step_of_output f a
node_step _ a = tt

node_width : (x : Node) → HasSteps IsOneOutput x → HasSteps (λ f. width f ≤ most_outputs) x
node_width (Pdo c f) a = let e : width f ≡ 1 = ap width a.alone in omega arith
node_width _ a = tt

pub unfused_single : (g : Graph) → HasSingleOutputs g → IsUnfused g
unfused_single g one = Each-weaker (λ (e : Entry). HasSteps IsOneOutput e.node)
    (λ (e : Entry). HasSteps IsOneStep e.node) (λ e a. node_step e.node a) g.nodes one

pub narrow_single : (g : Graph) → HasSingleOutputs g → HasNarrowSteps g
narrow_single g one = Each-weaker (λ (e : Entry). HasSteps IsOneOutput e.node)
    (λ (e : Entry). HasSteps (λ f. width f ≤ most_outputs) e.node) (λ e a. node_width e.node a)
    g.nodes one

pub fusible_single : (b : Blocked) → IsBlockedOk b → HasSingleOutputs b.graph → IsFusible b
fusible_single b ok one = record {
  ok = ok;
  unfused = unfused_single b.graph one;
  narrow = narrow_single b.graph one;
}

-- ---- and each Pdo is its own part

abbrev root_out : Forest → Option ℕ
root_out Bare = None
root_out (Grow l kids rest) = l.out

out_same : (o : Option ℕ) (j : ℕ) → new_out 0 o ≡ o → (is_out o j || (false || false)) ≡ true
    → j ≡ 0
out_same None j e h = absurd (false≢true h)
out_same (Some i) j e h =
    let z : 0 ≡ i = cc in
    sym (z ∙ eqb-true i j (pick (eqb i j) h))
  where
    pick : (t : Bool) → (t || (false || false)) ≡ true → t ≡ true
    pick true h = refl
    pick false h = absurd (false≢true h)

same_forest : (f : Forest) → (s : IsOneOutput f) → numbered 0 f ≡ f → sole_output s.label ≡ f
same_forest f s e = sym (ap (numbered 0) s.alone) ∙ e

-- A collection that is there stays where it is.
same_place_by : (b : Blocked) → IsBlockedOk b → HasSingleOutputs b.graph → (c : Place) (x : Node)
    → node_at b.graph.nodes c.node ≡ Some x → IsThere b.graph.nodes c → part_place b.graph c ≡ c
same_place_by b ok one c (Pdo d f) at t =
    let g : Graph = b.graph in
    let s = all_found (λ (e : Entry). HasSteps IsOneOutput e.node) g.nodes c.node
    (Pdo d f) at one in
    let n = all_found (λ (e : Entry). IsNodeOk g e.number e.node) g.nodes c.node
    (Pdo d f) at ok.ok.nodes in
    let l : Label = s.label in
    let same : new_out 0 l.out ≡ l.out =
    ap root_out (same_forest f s n.order ∙ s.alone) in
    let has : (is_out l.out c.out || (false || false)) ≡ true =
    sym (ap (has_out c.out) s.alone) ∙ sym (ap (λ (o : Option Node). gives_at o c.out) at) ∙ t in
    let zero : c.out ≡ 0 = out_same l.out c.out same has in
    ap (part_at g.next c) at
    ∙ ap (λ (x : Forest). place (part_number g.next c.node (at_of c.out x)) 0) s.alone
    ∙ ap (λ (x : ℕ). place (part_number g.next c.node x) 0)
    (choose (is_out l.out c.out) l.at s.first)
    ∙ ap (λ (x : ℕ). place x 0) (first_number g.next c.node)
    ∙ ap (place c.node) (sym zero)
  where
    choose : (t : Bool) (x : ℕ) → x ≡ 0 → cond t x 0 ≡ 0
    choose true x e = e
    choose false x e = refl
same_place_by b ok one c x at t = part_same b.graph c x at refl

same_part : (b : Blocked) → IsBlockedOk b → HasSingleOutputs b.graph → (c : Place)
    → IsThere b.graph.nodes c → part_place b.graph c ≡ c
same_part b ok one c t = let x = there_found b.graph.nodes c t in same_place_by b ok one c x.0 x.1 t

map_id : (b : Blocked) → IsBlockedOk b → HasSingleOutputs b.graph → (cs : List Place)
    → AllByRecursion (IsThere b.graph.nodes) cs → map (part_place b.graph) cs ≡ cs
map_id b ok one [] a = refl
map_id b ok one (c ∷ cs) a =
    let i = map_id b ok one cs a.1 in let e = same_part b ok one c a.0 in cc

part_self : (b : Blocked) → IsBlockedOk b → HasSingleOutputs b.graph → (n : ℕ) (x : Node)
    → HasSteps IsOneOutput x → IsNodeOk b.graph n x
    → AllByRecursion (IsThere b.graph.nodes) (reads x)
    → parts_of_node b.graph.next n (reread (part_place b.graph) x)
    ≡ (record { number = n; node = x }) ∷ []
part_self b ok one n (Source r) s a t = refl
part_self b ok one n (Flatten ins) s a t =
    ap (λ (cs : List Place). let d : Entry = record { number = n; node = Flatten cs } in d ∷ [])
    (map_id b ok one ins t)
part_self b ok one n (Pdo c f) s a t =
    let g : Graph = b.graph in
    let l : Label = s.label in
    ap (λ (x : Forest). parts g.next n (part_place g c) x) s.alone
    ∙ ap (λ (x : ℕ). let d : Entry = record {
      number = x;
      node = Pdo (part_place g c)
          (sole_output l);
    } in
    d ∷ [])
    (ap (part_number g.next n) s.first ∙ first_number g.next n)
    ∙ ap (λ (x : Place). let d : Entry = record { number = n; node = Pdo x (sole_output l) } in d ∷
    [])
    (same_part b ok one c t.0)
    ∙ ap (λ (x : Forest). let d : Entry = record { number = n; node = Pdo c x } in d ∷ [])
    (same_forest f s a.order)
part_self b ok one n (Gbk c o l k) s a t =
    ap (λ (x : Place). let d : Entry = record { number = n; node = Gbk x o l k } in d ∷ [])
    (same_part b ok one c t.0)
part_self b ok one n (Barrier ins o l z) s a t =
    ap (λ (cs : List Place). let d : Entry = record { number = n; node = Barrier cs o l z } in
    d ∷ [])
    (map_id b ok one ins t)

abbrev IsAll : Blocked → Entry → Type 0
IsAll b e = HasSteps IsOneOutput e.node × IsNodeOk b.graph e.number e.node
    × AllByRecursion (IsThere b.graph.nodes) (reads e.node)

parts_self : (b : Blocked) → IsBlockedOk b → HasSingleOutputs b.graph → (es : List Entry)
    → AllByRecursion (IsAll b) es → all_parts b.graph.next (part_place b.graph) es ≡ es
parts_self b ok one [] a = refl
parts_self b ok one (e ∷ es) a =
    ap (λ (l : List Entry). l ++ all_parts b.graph.next (part_place b.graph) es)
    (part_self b ok one e.number e.node a.0.0 a.0.1 a.0.2)
    ∙ ap (λ (l : List Entry). e ∷ l) (parts_self b ok one es a.1)

parted_single : (b : Blocked) → IsBlockedOk b → HasSingleOutputs b.graph → parted b ≡ b
parted_single b ok one =
    let g : Graph = b.graph in
    let all : AllByRecursion (IsAll b) g.nodes =
    all_three (λ (e : Entry). HasSteps IsOneOutput e.node)
    (λ (e : Entry). IsNodeOk g e.number e.node)
    (λ (e : Entry). AllByRecursion (IsThere g.nodes) (reads e.node)) (IsAll b)
    (λ e x y z. (x, y, z)) g.nodes one ok.ok.nodes ok.ok.founded.there in
    ap (λ (es : List Entry). let d : Blocked = record {
      graph = record { nodes = es; outputs = map (part_place g) g.outputs; next = g.next };
      marks = map (part_place g) b.marks;
    } in d) (parts_self b ok one g.nodes all)
    ∙ ap (λ (cs : List Place). let d : Blocked = record {
      graph = record { nodes = g.nodes; outputs = cs; next = g.next };
      marks = map (part_place g) b.marks;
    } in d) (map_id b ok one g.outputs ok.ok.founded.told)
    ∙ ap (λ (cs : List Place). let d : Blocked = record {
      graph = record { nodes = g.nodes; outputs = g.outputs; next = g.next };
      marks = cs;
    } in d) (map_id b ok one b.marks ok.marked)

-- With one output a step, fusing is what it is by the Pdos' numbers alone.
pub fused_single : (b : Blocked) → IsBlockedOk b → HasSingleOutputs b.graph
    → fused b ≡ renumbered (least_of (cut_of b)) (fused_by (cut_of b))
fused_single b ok one =
    ap (renumbered (least_of (cut_of b)))
    (joined_is b (fusible_single b ok one)
    ∙ ap (λ (d : Blocked). fused_by (cut_of d)) (parted_single b ok one))
