-- What each operation reads is given by operations below it.
use Rattle.std.proofs.Common.{◌≡◌, ℕ, ◌*◌, ◌<◌, Bool, true, false, cond, eqb, ◌||◌, List, [], ◌∷◌, ◌++◌, map, Option, Some, None, suc, refl, sym, ap, ◌∙◌, subst, inl, inr}
use Rattle.std.proofs.lemmas.Bool.{false≢true}
use Rattle.std.specs.List.{flat_map, AllByRecursion as Each}
use Rattle.flume_value.proofs.EachLemmas.{Each-append, Each-both, Each-map, Each-weaker}
use Rattle.exec_graph.specs.Forests.{Forest}
use Rattle.exec_graph.specs.Meaning.{IsRankedBy, IsSound, IsThere, node_at, reads}
use Rattle.exec_graph.specs.Readers.{among}
use Rattle.exec_graph.specs.Wellformed.{has_objects}
use Rattle.exec_graph.specs.declared.graph.Act.{Act}
use Rattle.exec_graph.specs.declared.graph.Act.TheVariants.{SideInput, Operate, Singleton}
use Rattle.exec_graph.specs.declared.graph.Place.{Place}
use Rattle.exec_graph.specs.declared.graph.Node.{Node}
use Rattle.exec_graph.specs.declared.graph.Node.TheVariants.{Source, Flatten, Pdo, Gbk, Barrier}
use Rattle.exec_graph.specs.declared.graph.Entry.{Entry}
use Rattle.exec_graph.specs.declared.graph.Blocked.{Blocked}
use Rattle.exec_graph.proofs.Entries.{all_found}
use Rattle.exec_graph.proofs.Solving.{each_found, ranked_at}
use Rattle.exec_graph.proofs.Bools.{or_false}
use Rattle.plan_rules.proofs.of_graph_laws.ReadPlaces.{all_among}
use Rattle.plan_laws.specs.declared.operations.Operation.TheVariants.{Flat}
use Rattle.plan_laws.specs.declared.operations.Key.{Key}
use Rattle.plan_laws.specs.Operations.{channel_of, flat_inputs, read_through, pdo_channel, reading_reads, reads_of}
use Rattle.plan_roles.specs.Levels.{level}
use Rattle.plan_roles.specs.Mappers.{is_mapper, is_reducer, is_stage, read_key}
use Rattle.form_laws.specs.declared.ranked.Ranked.{Ranked}
use Rattle.form_laws.specs.Classes.{IsGbk, IsGbkAt, keys_at, keys_taken}
use Rattle.form_laws.specs.Operations.{all_alone, ranked_alone, alone_of, class_keys, class_level, class_ranked, barrier_does, barrier_ranked, operations, trivial}
use Rattle.form_laws.proofs.Classing.{AreParts, HasLevel}
use Rattle.form_laws.proofs.Standing.{inputs_there, uses_ok}
use Rattle.form_laws.proofs.Giving.{AllGiven, GivenBelow, KeyGiven, flat_given, key_given_by, barrier_given, pdo_given}

-- ---- all operations
gbk_keys : (b : Blocked) (cs : List (List ℕ)) → AreParts b cs → (w : ℕ) (r : ℕ → ℕ) (y : Ranked)
    (n : ℕ) (x : Option Node) → IsSound b.graph → IsRankedBy r b.graph.nodes
    → ((k : ℕ) → suc (r k) < w) → node_at b.graph.nodes n ≡ x → IsGbkAt x
    → y.rank ≡ 2 * level b.graph.nodes n → Each (KeyGiven b cs w r y) (keys_at b n x)
gbk_keys b cs p w r y n None ok ra wide h g rank = absurd g
gbk_keys b cs p w r y n (Some (Source s)) ok ra wide h g rank = absurd g
gbk_keys b cs p w r y n (Some (Flatten ins)) ok ra wide h g rank = absurd g
gbk_keys b cs p w r y n (Some (Pdo d f)) ok ra wide h g rank = absurd g
gbk_keys b cs p w r y n (Some (Gbk d o last k)) ok ra wide h g rank =
    let es : List Entry = b.graph.nodes in
    let t : IsThere es d =
    (all_found (λ e. Each (IsThere es) (reads e.node)) es n (Gbk d o last k) h ok.there).0 in
    Each-map (KeyGiven b cs w r y) (read_key b (level es n)) (read_through es d)
    (Each-both (λ c. among c (read_through es d) ≡ true) (IsThere es)
    (λ c. KeyGiven b cs w r y (read_key b (level es n) c))
    (λ c i u. key_given_by b cs p w r y n d o last k c (is_mapper b c.node)
    (eqb (suc (level es c.node)) (level es n)) ok ra wide h i u rank refl refl) (read_through es d)
    (all_among (λ c. among c (read_through es d) ≡ true) (read_through es d) (λ c i. i))
    (inputs_there es d (node_at es d.node) ok.there refl t))
gbk_keys b cs p w r y n (Some (Barrier ins o l a)) ok ra wide h g rank = absurd g

members_keys : (b : Blocked) (cs : List (List ℕ)) → AreParts b cs → (w : ℕ) (r : ℕ → ℕ)
    (y : Ranked) (ns : List ℕ) → IsSound b.graph → IsRankedBy r b.graph.nodes
    → ((k : ℕ) → suc (r k) < w)
    → Each (λ n. IsGbk b n × (y.rank ≡ 2 * level b.graph.nodes n)) ns
    → Each (KeyGiven b cs w r y) (flat_map (keys_taken b) ns)
members_keys b cs p w r y [] ok ra wide a = tt
members_keys b cs p w r y (n ∷ ns) ok ra wide a =
    Each-append (KeyGiven b cs w r y) (keys_taken b n) (flat_map (keys_taken b) ns)
    (gbk_keys b cs p w r y n (node_at b.graph.nodes n) ok ra wide refl a.0.0 a.0.1)
    (members_keys b cs p w r y ns ok ra wide a.1)

class_level_is : (b : Blocked) (x : ℕ) (ns : List ℕ) → Each (λ n. level b.graph.nodes n ≡ x) ns
    → Each (λ n. class_level b ns ≡ level b.graph.nodes n) ns
class_level_is b x [] a = tt
class_level_is b x (n ∷ ns) a =
    Each-weaker (λ k. level b.graph.nodes k ≡ x)
    (λ k. level b.graph.nodes n ≡ level b.graph.nodes k) (λ k h. a.0 ∙ sym h) (n ∷ ns) a

-- what all channels read
all_reads : (P : Place → Type 0) (es : List Entry) (ks : List Key)
    → Each (λ k. Each P (reading_reads (channel_of es k))) ks
    → Each P (flat_map reading_reads (map (channel_of es) ks))
all_reads P es [] a = tt
all_reads P es (k ∷ ks) a =
    Each-append P (reading_reads (channel_of es k))
    (flat_map reading_reads (map (channel_of es) ks)) a.0 (all_reads P es ks a.1)

class_given : (b : Blocked) (cs : List (List ℕ)) → AreParts b cs → (w : ℕ) (r : ℕ → ℕ)
    (ns : List ℕ) → IsSound b.graph → IsRankedBy r b.graph.nodes → ((k : ℕ) → suc (r k) < w)
    → Each (IsGbk b) ns → HasLevel b ns → AllGiven b cs w r (class_ranked b ns)
class_given b cs p w r ns ok ra wide a h =
    let es : List Entry = b.graph.nodes in
    let y : Ranked = class_ranked b ns in
    all_reads (GivenBelow b cs w r y) es (class_keys b ns)
    (uses_ok (KeyGiven b cs w r y) (flat_map (keys_taken b) ns)
    (members_keys b cs p w r y ns ok ra wide
    (Each-both (IsGbk b) (λ n. class_level b ns ≡ level es n)
    (λ n. IsGbk b n × (y.rank ≡ 2 * level es n)) (λ n g q. (g, ap (λ (k : ℕ). 2 * k) q)) ns a
    (class_level_is b h.0 ns h.1))))

-- ---- what stands by itself
flat_all : (b : Blocked) (cs : List (List ℕ)) → AreParts b cs → (w : ℕ) (r : ℕ → ℕ) (n : ℕ)
    (ins : List Place) → IsSound b.graph → IsRankedBy r b.graph.nodes
    → ((k : ℕ) → suc (r k) < w) → node_at b.graph.nodes n ≡ Some (Flatten ins)
    → is_stage b n ≡ true → Each (GivenBelow b cs w r (ranked_alone b n (Flat n))) ins
flat_all b cs p w r n ins ok ra wide h t =
    let es : List Entry = b.graph.nodes in
    Each-both (λ c. (among c ins ≡ true) × (r c.node < r n)) (IsThere es)
    (GivenBelow b cs w r (ranked_alone b n (Flat n)))
    (λ c i u. flat_given b cs p w r n ins c ok wide i.1 h t i.0 u) ins
    (Each-both (λ c. among c ins ≡ true) (λ (c : Place). r c.node < r n)
    (λ c. (among c ins ≡ true) × (r c.node < r n)) (λ c s q. (s, q)) ins
    (all_among (λ c. among c ins ≡ true) ins (λ c i. i)) (ranked_at r es n (Flatten ins) ra h))
    (all_found (λ e. Each (IsThere es) (reads e.node)) es n (Flatten ins) h ok.there)

flat_alone : (b : Blocked) (cs : List (List ℕ)) → AreParts b cs → (w : ℕ) (r : ℕ → ℕ) (n : ℕ)
    (ins : List Place) (s : Bool) → IsSound b.graph → IsRankedBy r b.graph.nodes
    → ((k : ℕ) → suc (r k) < w) → node_at b.graph.nodes n ≡ Some (Flatten ins)
    → is_stage b n ≡ s → Each (AllGiven b cs w r) (cond s (ranked_alone b n (Flat n) ∷ []) [])
flat_alone b cs p w r n ins false ok ra wide h t = tt
flat_alone b cs p w r n ins true ok ra wide h t = (
  subst (λ (o : Option Node). Each (GivenBelow b cs w r (ranked_alone b n (Flat n)))
      (flat_inputs o))
      (sym h) (flat_all b cs p w r n ins ok ra wide h t),
  tt,
)

pdo_alone : (b : Blocked) (cs : List (List ℕ)) → AreParts b cs → (w : ℕ) (r : ℕ → ℕ) (n : ℕ)
    (d : Place) (f : Forest) (s : Bool) → IsSound b.graph → IsRankedBy r b.graph.nodes
    → ((k : ℕ) → suc (r k) < w) → node_at b.graph.nodes n ≡ Some (Pdo d f)
    → (is_mapper b n || is_reducer b n) ≡ s
    → Each (AllGiven b cs w r) (cond s [] (ranked_alone b n (trivial n f) ∷ []))
pdo_alone b cs p w r n d f true ok ra wide h t = tt
pdo_alone b cs p w r n d f false ok ra wide h t =
    let y : Ranked = ranked_alone b n (trivial n f) in
    let q = or_false (is_mapper b n) (is_reducer b n) t in (
      (
          subst (λ (o : Option Node).
          Each (GivenBelow b cs w r y) (reading_reads (pdo_channel n o) ++ [])) (sym h) (
            pdo_given b cs p w r y n d f ok wide (ranked_at r b.graph.nodes n (Pdo d f) ra h).0 h
                (inl q.1) (inr (refl, refl)),
            tt,
          )
          ),
      tt,
    )

lone_reads : (es : List Entry) (n : ℕ) (ins : List Place) (o : ℕ) (l : Bool) (a : Act)
    → node_at es n ≡ Some (Barrier ins o l a) → has_objects es (Barrier ins o l a) ≡ true
    → reads_of es (barrier_does n a) ≡ ins
lone_reads es n [] o l (SideInput f) h t = absurd (false≢true t)
lone_reads es n (c ∷ []) o l (SideInput f) h t = absurd (false≢true t)
lone_reads es n (c ∷ (d ∷ [])) o l (SideInput f) h t =
    ap (λ (x : Option Node). reading_reads (pdo_channel n x) ++ []) h
lone_reads es n (c ∷ (d ∷ (e ∷ ds))) o l (SideInput f) h t = absurd (false≢true t)
lone_reads es n ins o l (Operate f) h t = ap flat_inputs h
lone_reads es n ins o l (Singleton k) h t = ap flat_inputs h

lone_alone : (b : Blocked) (cs : List (List ℕ)) → AreParts b cs → (w : ℕ) (r : ℕ → ℕ) (n : ℕ)
    (ins : List Place) (o : ℕ) (l : Bool) (a : Act) → IsSound b.graph
    → IsRankedBy r b.graph.nodes → ((k : ℕ) → suc (r k) < w)
    → node_at b.graph.nodes n ≡ Some (Barrier ins o l a) → AllGiven b cs w r (barrier_ranked b n a)
lone_alone b cs p w r n ins o l a ok ra wide h =
    let es : List Entry = b.graph.nodes in
    let x : Node = Barrier ins o l a in
    let has : has_objects es x ≡ true =
    all_found (λ e. has_objects es e.node ≡ true) es n x h p.objects in
    subst (Each (GivenBelow b cs w r (barrier_ranked b n a)))
    (sym (lone_reads es n ins o l a h has))
    (Each-both (λ c. (among c ins ≡ true) × (r c.node < r n)) (IsThere es)
    (GivenBelow b cs w r (barrier_ranked b n a))
    (λ c i u. barrier_given b cs p w r n ins o l a c ok wide i.1 h i.0 u) ins
    (Each-both (λ c. among c ins ≡ true) (λ (c : Place). r c.node < r n)
    (λ c. (among c ins ≡ true) × (r c.node < r n)) (λ c s q. (s, q)) ins
    (all_among (λ c. among c ins ≡ true) ins (λ c i. i)) (ranked_at r es n x ra h))
    (all_found (λ e. Each (IsThere es) (reads e.node)) es n x h ok.there))

node_alone : (b : Blocked) (cs : List (List ℕ)) → AreParts b cs → (w : ℕ) (r : ℕ → ℕ) (n : ℕ)
    (x : Node) → IsSound b.graph → IsRankedBy r b.graph.nodes → ((k : ℕ) → suc (r k) < w)
    → node_at b.graph.nodes n ≡ Some x → Each (AllGiven b cs w r) (alone_of b n x)
node_alone b cs p w r n (Source s) ok ra wide h = tt
node_alone b cs p w r n (Gbk d o last k) ok ra wide h = tt
node_alone b cs p w r n (Barrier ins o l a) ok ra wide h =
    (lone_alone b cs p w r n ins o l a ok ra wide h, tt)
node_alone b cs p w r n (Flatten ins) ok ra wide h =
    flat_alone b cs p w r n ins (is_stage b n) ok ra wide h refl
node_alone b cs p w r n (Pdo d f) ok ra wide h =
    pdo_alone b cs p w r n d f (is_mapper b n || is_reducer b n) ok ra wide h refl

pub all_alone_so : (b : Blocked) (P : Ranked → Type 0) (es : List Entry)
    → Each (λ e. Each P (alone_of b e.number e.node)) es → Each P (all_alone b es)
all_alone_so b P [] a = tt
all_alone_so b P (e ∷ es) a =
    Each-append P (alone_of b e.number e.node) (all_alone b es) a.0 (all_alone_so b P es a.1)

pub all_given : (b : Blocked) (cs : List (List ℕ)) → AreParts b cs → (w : ℕ) (r : ℕ → ℕ)
    → IsSound b.graph → IsRankedBy r b.graph.nodes → ((k : ℕ) → suc (r k) < w)
    → Each (AllGiven b cs w r) (operations b cs)
all_given b cs p w r ok ra wide =
    let es : List Entry = b.graph.nodes in
    Each-append (AllGiven b cs w r) (map (class_ranked b) cs) (all_alone b es)
    (Each-map (AllGiven b cs w r) (class_ranked b) cs
    (Each-both (Each (IsGbk b)) (HasLevel b) (λ ns. AllGiven b cs w r (class_ranked b ns))
    (λ ns a h. class_given b cs p w r ns ok ra wide a h) cs p.gbks p.level))
    (all_alone_so b (AllGiven b cs w r) es
    (Each-weaker (λ e. node_at es e.number ≡ Some e.node)
    (λ e. Each (AllGiven b cs w r) (alone_of b e.number e.node))
    (λ e h. node_alone b cs p w r e.number e.node ok ra wide h) es (each_found es ok.differ)))
