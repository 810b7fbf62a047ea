-- The channels of what is formed differ, and so does what passes through.
use Rattle.std.proofs.Common.{◌≡◌, ◌<◌, ℕ, Bool, true, false, cond, not, eqb, ◌&&◌, ◌||◌, List, [], ◌∷◌, ◌++◌, map, length, Option, Some, None, refl, sym, ap, ◌∙◌, subst, arith}
use Rattle.std.proofs.lemmas.Bool.{eqb-true, eq-eqb, false≢true}
use Rattle.std.proofs.lemmas.Map.Keys.{IsDistinct-cons, IsDistinct-from_apart}
use Rattle.std.specs.List.{flat_map, AllByRecursion as Each, IsDistinct, filter, list_any}
use Rattle.flume_value.proofs.EachLemmas.{Each-append, Each-map, Each-weaker}
use Rattle.exec_graph.specs.Forests.{Forest, Bare, Grow}
use Rattle.exec_graph.specs.Meaning.{HasOuts, IsSound, OutsDiffer, has_out, is_out, node_at, place}
use Rattle.exec_graph.specs.Readers.{same_place}
use Rattle.exec_graph.specs.Wellformed.{IsGraphOk, IsNodeOk}
use Rattle.exec_graph.specs.declared.graph.Place.{Place}
use Rattle.exec_graph.specs.declared.graph.Node.{Node}
use Rattle.exec_graph.specs.declared.graph.Node.TheVariants.{Source, Flatten, Pdo, Gbk, Barrier}
use Rattle.exec_graph.specs.declared.graph.Entry.{Entry}
use Rattle.exec_graph.specs.declared.graph.Blocked.{Blocked}
use Rattle.exec_graph.proofs.Entries.{all_found}
use Rattle.exec_graph.proofs.Bools.{not_true, or_left, or_right}
use Rattle.plan_rules.specs.of_exec_plan.Channels.{kept_out, outs_of}
use Rattle.plan_laws.specs.declared.operations.Key.{Key}
use Rattle.plan_laws.specs.declared.operations.Key.TheVariants.{Mapper, Whole}
use Rattle.plan_laws.specs.declared.operations.Grouped.{Grouped}
use Rattle.plan_laws.specs.Operations.{is_read_under, inputs_at}
use Rattle.plan_laws.proofs.Carrying.{outs_has}
use Rattle.plan_rules.specs.Fitting.{IsUsed, same_key, takes_key}
use Rattle.plan_roles.specs.Levels.{level}
use Rattle.plan_roles.specs.Mappers.{read_key, places_given, passes}
use Rattle.form_laws.specs.Classes.{IsGbk, IsGbkAt, keys_taken}
use Rattle.form_laws.specs.Operations.{class_keys, first_uses, gbk_with_reducer, key_passes, passes_at}
use Rattle.form_laws.proofs.Basics.{all_filtered, negated, all_kept as each_kept}
use Rattle.form_laws.proofs.Counting.{all_true}
use Rattle.form_laws.proofs.Standing.{at_passes, inputs_from, key_has, keys_are, passes_there}

-- ---- lists without repeats
abbrev Apart : {X : Type 0} → (X → X → Bool) → List X → Type 0
Apart e [] = Unit {0}
Apart e (x ∷ xs) = Each (λ y. e x y ≡ false) xs × Apart e xs

pub to_distinct : {X : Type 0} (e : X → X → Bool) (xs : List X) → Apart e xs → IsDistinct e xs
to_distinct e [] d = IsDistinct-from_apart e [] (λ i j d l h. absurd (omega arith))
to_distinct e (x ∷ xs) d = IsDistinct-cons e x xs d.0 (to_distinct e xs d.1)

distinct_by : {X : Type 0} (e : X → X → Bool) (f : X → Bool) (x : X) (xs : List X) (b : Bool)
    → Each (λ y. e x y ≡ false) (filter f xs) → Apart e (filter f xs)
    → Apart e (cond b (x ∷ filter f xs) (filter f xs))
distinct_by e f x xs true a d = (a, d)
distinct_by e f x xs false a d = d

distinct_kept : {X : Type 0} (e : X → X → Bool) (f : X → Bool) (xs : List X) → Apart e xs
    → Apart e (filter f xs)
distinct_kept e f [] d = tt
distinct_kept e f (x ∷ xs) d =
    distinct_by e f x xs (f x) (each_kept (λ y. e x y ≡ false) f xs d.0) (distinct_kept e f xs d.1)

distinct_append : {X : Type 0} (e : X → X → Bool) (xs ys : List X) → Apart e xs
    → Apart e ys → Each (λ x. Each (λ y. e x y ≡ false) ys) xs → Apart e (xs ++ ys)
distinct_append e [] ys d g a = g
distinct_append e (x ∷ xs) ys d g a = (
  Each-append (λ y. e x y ≡ false) xs ys d.0 a.0,
  distinct_append e xs ys d.1 g a.1,
)

-- ---- keys
pub uses_distinct : (ks : List Key) → Apart same_key (first_uses ks)
uses_distinct [] = tt
uses_distinct (k ∷ ks) = (
  Each-weaker (λ j. Unit {0} × (not (same_key k j) ≡ true)) (λ j. same_key k j ≡ false)
      (λ j h. negated (same_key k j) h.1) (filter (λ j. not (same_key k j)) (first_uses ks))
      (all_filtered (λ j. Unit {0}) (λ j. not (same_key k j)) (first_uses ks)
      (all_true (λ j. Unit {0}) (λ j. tt) (first_uses ks))),
  distinct_kept same_key (λ j. not (same_key k j)) (first_uses ks) (uses_distinct ks),
)

all_any : (f : Place → Place → Bool) (cs : List Place) → ((c : Place) → f c c ≡ true)
    → Each (λ c. list_any (f c) cs ≡ true) cs
all_any f [] h = tt
all_any f (c ∷ cs) h = (
  or_left (f c c) (list_any (f c) cs) (h c),
  Each-weaker (λ d. list_any (f d) cs ≡ true) (λ d. list_any (f d) (c ∷ cs) ≡ true)
      (λ d i. or_right (f d c) (list_any (f d) cs) i) cs (all_any f cs h),
)

node_used : (b : Blocked) (n : ℕ)
    → Each (λ k. takes_key b.graph.nodes k (gbk_with_reducer b n) ≡ true) (keys_taken b n)
node_used b n =
    let es : List Entry = b.graph.nodes in
    let l : ℕ = level es n in
    let ins : List Place = inputs_from es (node_at es n) in
    subst (Each (λ k. takes_key es k (gbk_with_reducer b n) ≡ true)) (sym (keys_are b n))
    (Each-map (λ k. takes_key es k (gbk_with_reducer b n) ≡ true) (read_key b l) ins
    (all_any (λ c d. is_read_under (read_key b l c) d) ins (key_has b l)))

pub class_used : (b : Blocked) (ns : List ℕ)
    → Each (IsUsed b.graph.nodes (map (gbk_with_reducer b) ns)) (flat_map (keys_taken b) ns)
class_used b [] = tt
class_used b (n ∷ ns) =
    let es : List Entry = b.graph.nodes in
    let all : List Grouped = map (gbk_with_reducer b) ns in
    Each-append (IsUsed es (gbk_with_reducer b n ∷ all)) (keys_taken b n)
    (flat_map (keys_taken b) ns)
    (Each-weaker (λ k. takes_key es k (gbk_with_reducer b n) ≡ true)
    (IsUsed es (gbk_with_reducer b n ∷ all))
    (λ k h. or_left (takes_key es k (gbk_with_reducer b n)) (list_any (takes_key es k) all) h)
    (keys_taken b n) (node_used b n))
    (Each-weaker (IsUsed es all) (IsUsed es (gbk_with_reducer b n ∷ all))
    (λ k h. or_right (takes_key es k (gbk_with_reducer b n)) (list_any (takes_key es k) all) h)
    (flat_map (keys_taken b) ns) (class_used b ns))

inputs_some : (b : Blocked) (c : Place) (o : Option Node) → IsGraphOk b.graph
    → node_at b.graph.nodes c.node ≡ o → 0 < length (inputs_at c o)
inputs_some b c None ok h = omega arith
inputs_some b c (Some (Source r)) ok h = omega arith
inputs_some b c (Some (Pdo d f)) ok h = omega arith
inputs_some b c (Some (Gbk d o l k)) ok h = omega arith
inputs_some b c (Some (Barrier ins o l a)) ok h = omega arith
inputs_some b c (Some (Flatten ins)) ok h =
    (all_found (λ e. IsNodeOk b.graph e.number e.node) b.graph.nodes c.node (Flatten ins) h
    ok.nodes).0

map_some : {X Y : Type 0} (f : X → Y) (xs : List X) → 0 < length xs → 0 < length (map f xs)
map_some f [] h = h
map_some f (x ∷ xs) h = omega arith

from_some : (b : Blocked) (o : Option Node) → IsGraphOk b.graph → IsGbkAt o
    → 0 < length (inputs_from b.graph.nodes o)
from_some b None ok g = absurd g
from_some b (Some (Source r)) ok g = absurd g
from_some b (Some (Flatten ins)) ok g = absurd g
from_some b (Some (Pdo c f)) ok g = absurd g
from_some b (Some (Gbk c o l k)) ok g =
    inputs_some b c (node_at b.graph.nodes c.node) ok refl
from_some b (Some (Barrier ins o l a)) ok g = absurd g

keys_some : (b : Blocked) (n : ℕ) → IsGraphOk b.graph → IsGbk b n → 0 < length (keys_taken b n)
keys_some b n ok g =
    let es : List Entry = b.graph.nodes in
    subst (λ (ks : List Key). 0 < length ks) (sym (keys_are b n))
    (map_some (read_key b (level es n)) (inputs_from es (node_at es n))
    (from_some b (node_at es n) ok g))

append_some : (xs ys : List Key) → 0 < length xs → 0 < length (xs ++ ys)
append_some [] ys h = absurd (omega arith)
append_some (x ∷ xs) ys h = omega arith

uses_some : (ks : List Key) → 0 < length ks → 0 < length (first_uses ks)
uses_some [] h = h
uses_some (k ∷ ks) h = omega arith

pub class_some : (b : Blocked) (ns : List ℕ) → IsGraphOk b.graph → Each (IsGbk b) ns → 0 < length ns
    → 0 < length (class_keys b ns)
class_some b [] ok a h = absurd (omega arith)
class_some b (n ∷ ns) ok a h =
    uses_some (keys_taken b n ++ flat_map (keys_taken b) ns)
    (append_some (keys_taken b n) (flat_map (keys_taken b) ns) (keys_some b n ok a.0))

-- ---- what passes through
apart_outs : (f g : ℕ → Bool) (xs ys : List ℕ) → Each (λ j. f j ≡ true) xs
    → Each (λ j. g j ≡ true) ys → ((j : ℕ) → f j ≡ true → g j ≡ false)
    → Each (λ x. Each (λ y. eqb x y ≡ false) ys) xs
apart_outs f g xs ys a c h =
    Each-weaker (λ j. f j ≡ true) (λ x. Each (λ y. eqb x y ≡ false) ys)
    (λ x i. Each-weaker (λ j. g j ≡ true) (λ y. eqb x y ≡ false)
    (λ y k. not_true (eqb x y) (λ e.
    false≢true (sym (h x i) ∙ ap g (eqb-true x y e) ∙ k))) ys c) xs a

kept_distinct : (o : Option ℕ) → Apart eqb (kept_out o)
kept_distinct None = tt
kept_distinct (Some j) = (tt, tt)

kept_is : (o : Option ℕ) → Each (λ j. is_out o j ≡ true) (kept_out o)
kept_is None = tt
kept_is (Some j) = (eq-eqb j j refl, tt)

outs_distinct : (f : Forest) → OutsDiffer f → Apart eqb (outs_of f)
outs_distinct Bare d = tt
outs_distinct (Grow l kids rest) d =
    distinct_append eqb (kept_out l.out) (outs_of kids ++ outs_of rest) (kept_distinct l.out)
    (distinct_append eqb (outs_of kids) (outs_of rest) (outs_distinct kids d.2)
    (outs_distinct rest d.3)
    (apart_outs (λ j. has_out j kids) (λ j. has_out j rest) (outs_of kids) (outs_of rest)
    (outs_has kids) (outs_has rest) d.1))
    (apart_outs (is_out l.out) (λ j. has_out j kids || has_out j rest) (kept_out l.out)
    (outs_of kids ++ outs_of rest) (kept_is l.out)
    (Each-append (λ j. (has_out j kids || has_out j rest) ≡ true) (outs_of kids) (outs_of rest)
    (Each-weaker (λ j. has_out j kids ≡ true) (λ j. (has_out j kids || has_out j rest) ≡ true)
    (λ j h. or_left (has_out j kids) (has_out j rest) h) (outs_of kids) (outs_has kids))
    (Each-weaker (λ j. has_out j rest ≡ true) (λ j. (has_out j kids || has_out j rest) ≡ true)
    (λ j h. or_right (has_out j kids) (has_out j rest) h) (outs_of rest) (outs_has rest))) d.0)

pub and_false : (a c : Bool) → c ≡ false → (a && c) ≡ false
and_false true c h = h
and_false false c h = refl

pub false_and : (a c : Bool) → a ≡ false → (a && c) ≡ false
false_and a c h = rw h refl

places_distinct : (n : ℕ) (js : List ℕ) → Apart eqb js
    → Apart same_place (map (place n) js)
places_distinct n [] d = tt
places_distinct n (j ∷ js) d = (
  Each-map (λ c. same_place (place n j) c ≡ false) (place n) js
      (Each-weaker (λ k. eqb j k ≡ false) (λ k. same_place (place n j) (place n k) ≡ false)
      (λ k h. and_false (eqb n n) (eqb j k) h) js d.0),
  places_distinct n js d.1,
)

pub outputs_distinct : (b : Blocked) (n : ℕ) (d : Place) (f : Forest) → IsSound b.graph
    → node_at b.graph.nodes n ≡ Some (Pdo d f) → Apart same_place (places_given n f)
outputs_distinct b n d f ok h =
    places_distinct n (outs_of f) (outs_distinct f
    (all_found (λ e. HasOuts e.node) b.graph.nodes n (Pdo d f) h ok.outs))

passes_distinct : (b : Blocked) (n : ℕ) (o : Option Node) → IsSound b.graph
    → node_at b.graph.nodes n ≡ o → Apart same_place (passes_at b n o)
passes_distinct b n o ok h =
    at_passes (Apart same_place) b n o tt
    (λ d f i. distinct_kept same_place (passes b) (places_given n f)
    (outputs_distinct b n d f ok (h ∙ i)))

others_apart : (b : Blocked) (n : ℕ) (ks : List Key)
    → Each (λ j. same_key (Mapper n) j ≡ false) ks
    → Each (λ c. eqb n c.node ≡ false) (flat_map (key_passes b) ks)
others_apart b n [] a = tt
others_apart b n (Whole c ∷ ks) a = others_apart b n ks a.1
others_apart b n (Mapper m ∷ ks) a =
    let es : List Entry = b.graph.nodes in
    let cs : List Place = passes_at b m (node_at es m) in
    Each-append (λ c. eqb n c.node ≡ false) cs (flat_map (key_passes b) ks)
    (Each-weaker _ (λ c. eqb n c.node ≡ false) (λ c h. ap (eqb n) h.0 ∙ a.0) cs
    (passes_there b m (node_at es m) refl))
    (others_apart b n ks a.1)

pub keys_distinct : (b : Blocked) (ks : List Key) → IsSound b.graph → Apart same_key ks
    → Apart same_place (flat_map (key_passes b) ks)
keys_distinct b [] ok d = tt
keys_distinct b (Whole c ∷ ks) ok d = keys_distinct b ks ok d.1
keys_distinct b (Mapper n ∷ ks) ok d =
    let es : List Entry = b.graph.nodes in
    let cs : List Place = passes_at b n (node_at es n) in
    let rest : List Place = flat_map (key_passes b) ks in
    distinct_append same_place cs rest (passes_distinct b n (node_at es n) ok refl)
    (keys_distinct b ks ok d.1)
    (Each-weaker _ (λ x. Each (λ y. same_place x y ≡ false) rest)
    (λ x h. Each-weaker (λ (y : Place). eqb n y.node ≡ false) (λ y. same_place x y ≡ false)
    (λ y i. false_and (eqb x.node y.node) (eqb x.out y.out)
    (ap (λ (m : ℕ). eqb m y.node) h.0 ∙ i)) rest (others_apart b n ks d.0)) cs
    (passes_there b n (node_at es n) refl))
