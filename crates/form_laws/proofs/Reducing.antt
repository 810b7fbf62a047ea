-- Lifted Gbks have reducers.
use Rattle.std.proofs.Common.{◌≡◌, ℕ, Bool, true, false, cond, not, List, [], ◌∷◌, map, Option, Some, None, refl, sym, ap, ◌∙◌, subst, inl, inr}
use Rattle.std.proofs.lemmas.Bool.{false≢true}
use Rattle.std.specs.List.{AllByRecursion as Each}
use Rattle.combine_table.specs.declared.comb.Comb.{Comb}
use Rattle.exec_graph.specs.Meaning.{IsSound, node_at, place}
use Rattle.exec_graph.specs.Readers.{among, calls_on, is_held, readers, same_place}
use Rattle.exec_graph.specs.Wellformed.{IsBlockedOk, IsLiftedOk, IsNodeOk, is_lifted}
use Rattle.exec_graph.specs.declared.graph.Place.{Place}
use Rattle.exec_graph.specs.declared.graph.Node.{Node}
use Rattle.exec_graph.specs.declared.graph.Node.TheVariants.{Source, Flatten, Pdo, Gbk, Barrier}
use Rattle.exec_graph.specs.declared.graph.Entry.{Entry}
use Rattle.exec_graph.specs.declared.graph.Blocked.{Blocked}
use Rattle.exec_graph.proofs.Entries.{all_found}
use Rattle.exec_graph.proofs.Solving.{each_found}
use Rattle.exec_graph.proofs.Soundness.{IsSound-ok}
use Rattle.exec_graph.proofs.Bools.{not_true, or_cases}
use Rattle.plan_laws.specs.Operations.{IsPdoOn}
use Rattle.plan_laws.proofs.Running.{place_same}
use Rattle.plan_rules.specs.Fitting.{HasReducer, IsReduced}
use Rattle.plan_roles.specs.Reading.{sole_number, only_reader}
use Rattle.plan_roles.specs.Mappers.{is_mapper, maps_at, reducer_of, unless_mapper}
use Rattle.form_laws.specs.Operations.{gbk_with_reducer}
use Rattle.form_laws.proofs.Reading.{IsThat, calls_reads, those_all}
use Rattle.form_laws.proofs.Apartness.{false_and}

-- ---- lifted Gbks have reducers
among_each : (P : Place → Type 0) (c : Place) (cs : List Place) → Each P cs → among c cs ≡ true
    → P c
among_each P c [] a h = absurd (false≢true h)
among_each P c (d ∷ ds) a h =
    elim (or_cases (same_place c d) (among c ds) h) [
      | inl e ↦ subst P (sym (place_same c d e)) a.0
      | inr i ↦ among_each P c ds a.1 i
    ]

unmapped_by : (b : Blocked) (r : ℕ) (c : Place) (o : Option Node) → IsPdoOn c o
    → is_lifted (node_at b.graph.nodes c.node) ≡ true → maps_at b r o ≡ false
unmapped_by b r c None h l = absurd h
unmapped_by b r c (Some (Source s)) h l = absurd h
unmapped_by b r c (Some (Flatten ins)) h l = absurd h
unmapped_by b r c (Some (Gbk d o x k)) h l = absurd h
unmapped_by b r c (Some (Barrier ins x y d)) h l = absurd h
unmapped_by b r c (Some (Pdo d f)) h l =
    false_and (not (is_lifted (node_at b.graph.nodes d.node))) _
    (ap (λ (x : Place). not (is_lifted (node_at b.graph.nodes x.node))) h ∙ ap not l)

lifted_reducer : (b : Blocked) (n : ℕ) (c : Place) (o : ℕ) (l : Bool) (k : Comb) → IsBlockedOk b
    → node_at b.graph.nodes n ≡ Some (Gbk c o l (Some k)) → (r : ℕ) × (reducer_of b n ≡ Some r)
lifted_reducer b n c o l k ok h =
    let es : List Entry = b.graph.nodes in
    let at : Place = place n 0 in
    let lift : IsLiftedOk b.graph n k =
    all_found (λ e. IsNodeOk b.graph e.number e.node) es n (Gbk c o l (Some k)) h ok.ok.nodes in
    let yes : is_lifted (node_at es n) ≡ true = ap is_lifted h in
    let unmarked : among at b.marks ≡ false =
    not_true (among at b.marks) (λ m. false≢true
    (sym (among_each (λ c. is_lifted (node_at es c.node) ≡ false) at b.marks ok.unlifted m)
    ∙ yes)) in
    let unheld : is_held b.graph at ≡ false = rw (lift.uncollected, lift.untold) refl in
    let sound : IsSound b.graph = IsSound-ok b.graph ok.ok in
    let all : Each (IsThat es (calls_on at)) (lift.reader ∷ []) =
    subst (Each (IsThat es (calls_on at))) lift.alone
    (those_all es es (calls_on at) (each_found es sound.differ)) in
    let reads_it : IsPdoOn at (node_at es lift.reader) =
    subst (IsPdoOn at) (sym all.0.1) (calls_reads at all.0.0 all.0.2) in
    let unmapped : is_mapper b lift.reader ≡ false =
    unmapped_by b lift.reader at (node_at es lift.reader) reads_it yes in
    let only : only_reader b.graph at ≡ Some lift.reader =
    ap (λ (x : Bool). cond x None (sole_number (readers es at))) unheld
    ∙ ap sole_number lift.alone in (
      lift.reader,
      ap (λ (x : Bool). cond x None (unless_mapper b (only_reader b.graph at))) unmarked
          ∙ ap (unless_mapper b) only
          ∙ ap (λ (x : Bool). cond x None (Some lift.reader)) unmapped,
    )

has_reducer : (r : ℕ) (o : Option ℕ) → o ≡ Some r → HasReducer true o
has_reducer r o h = subst (HasReducer true) (sym h) tt

reduced_by : (b : Blocked) (n : ℕ) (o : Option Node) → IsBlockedOk b
    → node_at b.graph.nodes n ≡ o → HasReducer (is_lifted o) (reducer_of b n)
reduced_by b n None ok h = tt
reduced_by b n (Some (Source r)) ok h = tt
reduced_by b n (Some (Flatten ins)) ok h = tt
reduced_by b n (Some (Pdo c f)) ok h = tt
reduced_by b n (Some (Gbk c o l None)) ok h = tt
reduced_by b n (Some (Gbk c o l (Some k))) ok h =
    let r = lifted_reducer b n c o l k ok h in has_reducer r.0 (reducer_of b n) r.1
reduced_by b n (Some (Barrier ins o l a)) ok h = tt

pub all_reduced : (b : Blocked) (ns : List ℕ) → IsBlockedOk b
    → Each (IsReduced b.graph.nodes) (map (gbk_with_reducer b) ns)
all_reduced b [] ok = tt
all_reduced b (n ∷ ns) ok =
    (reduced_by b n (node_at b.graph.nodes n) ok refl, all_reduced b ns ok)
