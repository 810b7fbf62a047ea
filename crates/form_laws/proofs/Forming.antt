-- What is formed of a graph carries it out.
use Rattle.std.proofs.Common.{◌≡◌, ℕ, Bool, true, false, cond, ◌||◌, List, [], ◌∷◌, ◌++◌, map, length, Option, Some, None, zero, suc, refl, sym, ◌∙◌, subst, inl, inr}
use Rattle.std.specs.List.{AllByRecursion as Each}
use Rattle.flume_value.proofs.EachLemmas.{Each-append, Each-map, Each-weaker}
use Rattle.exec_graph.specs.Forests.{Forest}
use Rattle.exec_graph.specs.Meaning.{IsSound, node_at}
use Rattle.exec_graph.specs.Wellformed.{HaveObjects, has_objects}
use Rattle.exec_graph.specs.declared.graph.Place.{Place}
use Rattle.exec_graph.specs.declared.graph.Node.{Node}
use Rattle.exec_graph.specs.declared.graph.Node.TheVariants.{Source, Flatten, Pdo, Gbk, Barrier}
use Rattle.exec_graph.specs.declared.graph.Entry.{Entry}
use Rattle.exec_graph.specs.declared.graph.Blocked.{Blocked}
use Rattle.exec_graph.proofs.Entries.{all_found}
use Rattle.exec_graph.proofs.Solving.{each_found}
use Rattle.plan_laws.specs.declared.operations.Operation.{Operation}
use Rattle.plan_laws.specs.declared.operations.Operation.TheVariants.{Flat}
use Rattle.plan_laws.specs.Operations.{DoAll, IsFlat, IsHonest, IsIn, gives_of, source_places}
use Rattle.plan_roles.specs.Mappers.{is_mapper, is_reducer, is_stage}
use Rattle.form_laws.specs.declared.ranked.Ranked.{Ranked}
use Rattle.form_laws.specs.Classes.{IsGbk}
use Rattle.form_laws.specs.Formed.{AreFormed, ordered_operations}
use Rattle.form_laws.specs.Operations.{all_alone, ranked_alone, alone_of, class_operation, class_ranked, operations, trivial}
use Rattle.form_laws.specs.Order.{Picked, ordered, ordered_by, picked_least}
use Rattle.form_laws.proofs.Classing.{AreParts, classes_part}
use Rattle.form_laws.proofs.Counting.{runs_once}
use Rattle.form_laws.proofs.Ordering.{pick_ok}
use Rattle.form_laws.proofs.Progress.{all_alone_so}
use Rattle.form_laws.proofs.Settling.{among_all, formed_ordered, formed_told}
use Rattle.form_laws.proofs.Standing.{class_honest, barrier_honest, trivial_honest}

-- ---- what holds of all operations holds of all in order
keep_by : (P : Operation → Type 0) (es : List Entry) (k : ℕ) (made : List Place)
    (xs : List Ranked) (o : Option Picked) → picked_least es made xs ≡ o
    → ((y : Ranked) → IsIn y xs → P y.does)
    → ((made : List Place) (ys : List Ranked) → ((y : Ranked) → IsIn y ys → P y.does)
    → Each P (ordered es k made ys))
    → Each P (ordered_by o (λ p. ordered es k (gives_of es p.op.does ++ made) p.rest))
keep_by P es k made xs None e h f = tt
keep_by P es k made xs (Some p) e h f =
    let q = pick_ok es made xs p e in (
      h p.op (q.from p.op (inl refl)),
      f (gives_of es p.op.does ++ made) p.rest (λ y i. h y (q.from y (inr i))),
    )

pub ordered_keep : (P : Operation → Type 0) (es : List Entry) (k : ℕ) (made : List Place)
    (xs : List Ranked) → ((y : Ranked) → IsIn y xs → P y.does) → Each P (ordered es k made xs)
unfolding ordered
ordered_keep P es zero made xs h = tt
ordered_keep P es (suc k) made xs h =
    keep_by P es k made xs (picked_least es made xs) refl h
    (λ made' ys i. ordered_keep P es k made' ys i)

-- ---- each stands for nodes
abbrev Honest : Blocked → Ranked → Type 0
Honest b y = IsHonest b.graph.nodes y.does

flat_honest : (b : Blocked) (n : ℕ) (ins : List Place) (s : Bool)
    → node_at b.graph.nodes n ≡ Some (Flatten ins)
    → Each (Honest b) (cond s (ranked_alone b n (Flat n) ∷ []) [])
flat_honest b n ins true h = (subst IsFlat (sym h) tt, tt)
flat_honest b n ins false h = tt

pdo_honest : (b : Blocked) (n : ℕ) (d : Place) (f : Forest) (s : Bool)
    → node_at b.graph.nodes n ≡ Some (Pdo d f)
    → Each (Honest b) (cond s [] (ranked_alone b n (trivial n f) ∷ []))
pdo_honest b n d f true h = tt
pdo_honest b n d f false h = (trivial_honest b.graph.nodes n d f h, tt)

node_honest : (b : Blocked) (n : ℕ) (x : Node) → node_at b.graph.nodes n ≡ Some x
    → has_objects b.graph.nodes x ≡ true → Each (Honest b) (alone_of b n x)
node_honest b n (Source r) h t = tt
node_honest b n (Gbk c o l k) h t = tt
node_honest b n (Barrier ins o l a) h t = (barrier_honest b.graph.nodes n ins o l a h t, tt)
node_honest b n (Flatten ins) h t = flat_honest b n ins (is_stage b n) h
node_honest b n (Pdo d f) h t = pdo_honest b n d f (is_mapper b n || is_reducer b n) h

all_honest : (b : Blocked) (cs : List (List ℕ)) → AreParts b cs → IsSound b.graph
    → Each (Honest b) (operations b cs)
all_honest b cs p ok =
    let es : List Entry = b.graph.nodes in
    Each-append (Honest b) (map (class_ranked b) cs) (all_alone b es)
    (Each-map (Honest b) (class_ranked b) cs
    (Each-weaker (Each (IsGbk b)) (λ ns. IsHonest es (class_operation b ns))
    (λ ns a. class_honest b ns ok a) cs p.gbks))
    (all_alone_so b (Honest b) es
    (Each-weaker (λ e. node_at es e.number ≡ Some e.node)
    (λ e. Each (Honest b) (alone_of b e.number e.node))
    (λ e h. node_honest b e.number e.node h
    (all_found (λ d. has_objects es d.node ≡ true) es e.number e.node h p.objects)) es
    (each_found es ok.differ)))

-- ---- the law
pub parts_do_all : (b : Blocked) (cs : List (List ℕ)) → AreParts b cs → IsSound b.graph
    → DoAll b.graph (ordered_operations b cs)
parts_do_all b cs p ok =
    let es : List Entry = b.graph.nodes in
    let ops : List Ranked = operations b cs in
    let o = formed_ordered b cs p ok in
    record {
      sound = ordered_keep (IsHonest es) es (length ops) (source_places es) ops
          (λ y i. among_all (Honest b) ops y (all_honest b cs p ok) i);
      ready = o.ready;
      told = formed_told b cs p ok;
      once = λ n h. o.runs n ∙ runs_once b cs p ok.differ n h;
    }

pub formed_do_all : (b : Blocked) (os : List Operation) → IsSound b.graph
    → HaveObjects b.graph.nodes → AreFormed b os → DoAll b.graph os
formed_do_all b os ok objects f =
    subst (DoAll b.graph) (sym f.ordered)
    (parts_do_all b f.classes (classes_part b f.classes objects f.classed) ok)
