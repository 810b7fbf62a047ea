-- What mappers, reducers and stages are read by.
use Rattle.std.proofs.Common.{◌≡◌, ◌⊎◌, ◌++◌, ℕ, Bool, true, false, cond, not, ◌&&◌, ◌||◌, List, [], ◌∷◌, map, Option, Some, None, refl, sym, ap, ◌∙◌, subst, inl, inr}
use Rattle.std.proofs.lemmas.Bool.{eqb-true, false≢true}
use Rattle.std.specs.List.{AllByRecursion as Each, list_any}
use Rattle.flume_value.proofs.BoolLemmas.{both_true}
use Rattle.exec_graph.specs.Forests.{Forest, Bare, Grow}
use Rattle.exec_graph.specs.Meaning.{AllDiffer, IsThere, node_at, place, reads, has_out, is_out, gives_at}
use Rattle.exec_graph.specs.Readers.{among, any_node, calls_on, collects, is_held, readers, same_place, those}
use Rattle.exec_graph.specs.Wellformed.{is_lifted}
use Rattle.exec_graph.specs.declared.graph.Act.{Act}
use Rattle.exec_graph.specs.declared.graph.Place.{Place}
use Rattle.exec_graph.specs.declared.graph.Node.{Node}
use Rattle.exec_graph.specs.declared.graph.Node.TheVariants.{Source, Flatten, Pdo, Gbk, Barrier}
use Rattle.exec_graph.specs.declared.graph.Entry.{Entry}
use Rattle.exec_graph.specs.declared.graph.Blocked.{Blocked}
use Rattle.exec_graph.proofs.Entries.{entry}
use Rattle.exec_graph.proofs.Solving.{each_found}
use Rattle.exec_graph.proofs.Bools.{or_left, or_right, or_cases, or_false}
use Rattle.plan_rules.specs.of_exec_plan.Channels.{kept_out, outs_of}
use Rattle.plan_roles.specs.of_fusion_blocks.Feeding.{is_flatten_of}
use Rattle.plan_rules.proofs.of_graph_laws.ReadPlaces.{same_self}
use Rattle.plan_rules.proofs.of_graph_laws.Reading.{those_has}
use Rattle.plan_laws.proofs.Running.{place_same}
use Rattle.plan_laws.specs.Operations.{IsIn, IsPdo, IsReducer, IsPdoOn}
use Rattle.plan_roles.specs.Reading.{carries_on, goes_on, goes_past, sole_number, only_reader, works_on}
use Rattle.plan_roles.specs.Mappers.{feeds_unmarked, is_mapper, is_stage, maps, maps_at, places_given, reducer_of, unless_mapper}
use Rattle.form_laws.proofs.Basics.{any_found, none_found, negated}

-- ---- kinds of nodes
abbrev pub is_gbk : Node → Bool
is_gbk (Gbk c o l k) = true
is_gbk _ = false

abbrev pub is_pdo : Node → Bool
is_pdo (Pdo c f) = true
is_pdo _ = false

abbrev pub is_flatten : Node → Bool
is_flatten (Flatten ins) = true
is_flatten _ = false

-- ---- stages
-- a reader that is no Gbk works on it or is a Flatten
goes : (x : Node) (c : Place) → is_gbk x ≡ false → among c (reads x) ≡ true
    → (works_on c x || is_flatten_of c x) ≡ true
goes (Source r) c g h = absurd (false≢true h)
goes (Flatten ins) c g h = h
goes (Pdo d f) c g h = h
goes (Gbk d o l k) c g h = absurd (false≢true (sym g))
goes (Barrier ins o l a) c g h = or_left (among c ins) false h

pub read_on : (es : List Entry) (c : Place) (k : ℕ) (x : Node) → node_at es k ≡ Some x
    → among c (reads x) ≡ true → is_gbk x ≡ false → goes_on es c ≡ true
read_on es c k x e r g =
    any_found (λ e. works_on c e.node || is_flatten_of c e.node) es k x e (goes x c g r)

-- a Flatten that another node than a Gbk reads is a stage
pub stage_read : (b : Blocked) (n k : ℕ) (x : Node) → node_at b.graph.nodes k ≡ Some x
    → among (place n 0) (reads x) ≡ true → is_gbk x ≡ false → is_stage b n ≡ true
stage_read b n k x e r g =
    or_right (among (place n 0) b.graph.outputs) (goes_on b.graph.nodes (place n 0))
    (read_on b.graph.nodes (place n 0) k x e r g)

-- ---- reducers
-- what is known of a reducer
pub record Reduces (b : Blocked) (n r : ℕ) : Type 0 where
  pub unmapped : is_mapper b r ≡ false
  pub unheld : is_held b.graph (place n 0) ≡ false
  pub alone : readers b.graph.nodes (place n 0) ≡ r ∷ []

cond_none : (x : Bool) (o : Option ℕ) (r : ℕ) → cond x None o ≡ Some r
    → (x ≡ false) × (o ≡ Some r)
cond_none true o r h = let bad : ⊥ = cc in absurd bad
cond_none false o r h = (refl, h)

unless_is : (b : Blocked) (o : Option ℕ) (r : ℕ) → unless_mapper b o ≡ Some r
    → (o ≡ Some r) × (is_mapper b r ≡ false)
unless_is b None r h = let bad : ⊥ = cc in absurd bad
unless_is b (Some q) r h =
    let p = cond_none (is_mapper b q) (Some q) r h in
    let same : q ≡ r = (let e : Some q ≡ Some r = p.1 in cc) in
    (p.1, ap (is_mapper b) (sym same) ∙ p.0)

one_is : (ns : List ℕ) (r : ℕ) → sole_number ns ≡ Some r → ns ≡ r ∷ []
one_is [] r h = let bad : ⊥ = cc in absurd bad
one_is (n ∷ []) r h = let same : n ≡ r = cc in ap (λ (k : ℕ). k ∷ []) same
one_is (n ∷ m ∷ ns) r h = let bad : ⊥ = cc in absurd bad

reduces_so : (b : Blocked) (n r : ℕ) → reducer_of b n ≡ Some r → Reduces b n r
reduces_so b n r h =
    let c : Place = place n 0 in
    let p = cond_none (among c b.marks) (unless_mapper b (only_reader b.graph c)) r h in
    let q = unless_is b (only_reader b.graph c) r p.1 in
    let o = cond_none (is_held b.graph c) (sole_number (readers b.graph.nodes c)) r q.0 in
    record { unmapped = q.1; unheld = o.0; alone = one_is (readers b.graph.nodes c) r o.1 }

-- the reducer is the only reader
pub record IsOnly (b : Blocked) (r k : ℕ) (x : Node) : Type 0 where
  pub same : k ≡ r
  pub pdo : is_pdo x ≡ true
  pub mapper : is_mapper b r ≡ false

held_by : (b : Blocked) (c : Place) (k : ℕ) (x : Node) → is_held b.graph c ≡ false
    → node_at b.graph.nodes k ≡ Some x → collects c x ≡ true → ⊥
held_by b c k x h e i =
    let p = or_false (any_node (collects c) b.graph.nodes) (among c b.graph.outputs) h in
    false≢true (sym p.0 ∙ any_found (λ e. collects c e.node) b.graph.nodes k x e i)

one_reads : (c d : Place) → (same_place c d || false) ≡ true → same_place c d ≡ true
one_reads c d h =
    elim (or_cases (same_place c d) false h) [ inl e ↦ e | inr e ↦ absurd (false≢true e) ]

only_by : (b : Blocked) (n r k : ℕ) (x : Node) → Reduces b n r → node_at b.graph.nodes k ≡ Some x
    → among (place n 0) (reads x) ≡ true → IsOnly b r k x
only_by b n r k (Source s) h e i = absurd (false≢true i)
only_by b n r k (Flatten ins) h e i = absurd (held_by b (place n 0) k (Flatten ins) h.unheld e i)
only_by b n r k (Gbk d o l u) h e i =
    absurd (held_by b (place n 0) k (Gbk d o l u) h.unheld e (one_reads (place n 0) d i))
only_by b n r k (Barrier ins o l a) h e i =
    absurd (held_by b (place n 0) k (Barrier ins o l a) h.unheld e i)
only_by b n r k (Pdo d f) h e i = record {
  same = those_has (λ q. q ≡ r) (calls_on (place n 0)) b.graph.nodes k (Pdo d f) e
      (one_reads (place n 0) d i) (subst (Each (λ q. q ≡ r)) (sym h.alone) (refl, tt));
  pdo = refl;
  mapper = h.unmapped;
}

pub reducer_only : (b : Blocked) (n r k : ℕ) (x : Node) → reducer_of b n ≡ Some r
    → node_at b.graph.nodes k ≡ Some x → among (place n 0) (reads x) ≡ true → IsOnly b r k x
reducer_only b n r k x h e i = only_by b n r k x (reduces_so b n r h) e i

-- a script output is reduced by none
pub told_alone : (b : Blocked) (n r : ℕ) → reducer_of b n ≡ Some r
    → among (place n 0) b.graph.outputs ≡ true → ⊥
told_alone b n r h i =
    let p = or_false (any_node (collects (place n 0)) b.graph.nodes)
    (among (place n 0) b.graph.outputs) (reduces_so b n r h).unheld in
    false≢true (sym p.1 ∙ i)

-- the nodes that pass a test
abbrev pub IsThat : List Entry → (Node → Bool) → ℕ → Type 0
IsThat es t n = (x : Node) × (node_at es n ≡ Some x) × (t x ≡ true)

those_by : (all : List Entry) (t : Node → Bool) (e : Entry) (ns : List ℕ) (x : Bool)
    → t e.node ≡ x → node_at all e.number ≡ Some e.node → Each (IsThat all t) ns
    → Each (IsThat all t) (cond x (e.number ∷ ns) ns)
those_by all t e ns true h f a = ((e.node, f, h), a)
those_by all t e ns false h f a = a

pub those_all : (all es : List Entry) (t : Node → Bool)
    → Each (λ e. node_at all e.number ≡ Some e.node) es → Each (IsThat all t) (those t es)
those_all all [] t a = tt
those_all all (e ∷ es) t a =
    those_by all t e (those t es) (t e.node) refl a.0 (those_all all es t a.1)

pub calls_reads : (c : Place) (x : Node) → calls_on c x ≡ true → IsPdoOn c (Some x)
calls_reads c (Source r) h = absurd (false≢true h)
calls_reads c (Flatten ins) h = absurd (false≢true h)
calls_reads c (Gbk d o l k) h = absurd (false≢true h)
calls_reads c (Barrier ins o l a) h = absurd (false≢true h)
calls_reads c (Pdo d f) h = sym (place_same c d h)

reducer_by : (b : Blocked) (n : ℕ) (o : Option ℕ) → AllDiffer b.graph.nodes → reducer_of b n ≡ o
    → IsReducer b.graph.nodes n o
reducer_by b n None d h = tt
reducer_by b n (Some r) d h =
    let es : List Entry = b.graph.nodes in
    let c : Place = place n 0 in
    let all : Each (IsThat es (calls_on c)) (r ∷ []) =
    subst (Each (IsThat es (calls_on c))) (reduces_so b n r h).alone
    (those_all es es (calls_on c) (each_found es d)) in
    subst (IsPdoOn c) (sym all.0.1) (calls_reads c all.0.0 all.0.2)

-- the reducer reads the Gbk
pub reducer_ok : (b : Blocked) (n : ℕ) → AllDiffer b.graph.nodes
    → IsReducer b.graph.nodes n (reducer_of b n)
reducer_ok b n d = reducer_by b n (reducer_of b n) d refl

-- ---- mappers
pub mapper_pdo : (b : Blocked) (n : ℕ) (o : Option Node) → maps_at b n o ≡ true → IsPdo o
mapper_pdo b n None h = absurd (false≢true h)
mapper_pdo b n (Some (Source r)) h = absurd (false≢true h)
mapper_pdo b n (Some (Flatten ins)) h = absurd (false≢true h)
mapper_pdo b n (Some (Gbk c o x k)) h = absurd (false≢true h)
mapper_pdo b n (Some (Barrier ins o l a)) h = absurd (false≢true h)
mapper_pdo b n (Some (Pdo c f)) h = tt

pub record Maps (b : Blocked) (n : ℕ) (f : Forest) : Type 0 where
  pub fed : list_any (feeds_unmarked b) (places_given n f) ≡ true
  pub near : list_any (goes_past b.graph.nodes) (places_given n f) ≡ false

pub maps_so : (b : Blocked) (n : ℕ) (d : Place) (f : Forest) → maps b n (Pdo d f) ≡ true
    → Maps b n f
maps_so b n d f h =
    let fed : Bool = list_any (feeds_unmarked b) (places_given n f) in
    let past : Bool = list_any (goes_past b.graph.nodes) (places_given n f) in
    let p = both_true (not (is_lifted (node_at b.graph.nodes d.node))) (fed && not past) h in
    let q = both_true fed (not past) p.1 in
    record { fed = q.0; near = negated past q.1 }

none_in : (p : Place → Bool) (c : Place) (cs : List Place) → list_any p cs ≡ false → IsIn c cs
    → p c ≡ false
none_in p c [] h i = absurd i
none_in p c (d ∷ ds) h (inl e) = ap p (sym e) ∙ (or_false (p d) (list_any p ds) h).0
none_in p c (d ∷ ds) h (inr i) = none_in p c ds (or_false (p d) (list_any p ds) h).1 i

map_append_in : (n : ℕ) (xs ys : List ℕ) (c : Place)
    → IsIn c (map (place n) xs) ⊎ IsIn c (map (place n) ys) → IsIn c (map (place n) (xs ++ ys))
map_append_in n [] ys c (inl h) = absurd h
map_append_in n [] ys c (inr h) = h
map_append_in n (x ∷ xs) ys c (inl (inl h)) = inl h
map_append_in n (x ∷ xs) ys c (inl (inr h)) = inr (map_append_in n xs ys c (inl h))
map_append_in n (x ∷ xs) ys c (inr h) = inr (map_append_in n xs ys c (inr h))

kept_in : (n j : ℕ) (o : Option ℕ) → is_out o j ≡ true
    → IsIn (place n j) (map (place n) (kept_out o))
kept_in n j None h = absurd (false≢true h)
kept_in n j (Some k) h = inl (ap (place n) (eqb-true k j h))

-- an output that is kept is among the outputs
pub out_in : (n j : ℕ) (f : Forest) → has_out j f ≡ true → IsIn (place n j) (places_given n f)
out_in n j Bare h = absurd (false≢true h)
out_in n j (Grow t kids rest) h =
    map_append_in n (kept_out t.out) (outs_of kids ++ outs_of rest) (place n j)
    (elim (or_cases (is_out t.out j) (has_out j kids || has_out j rest) h) [
      | inl e ↦ inl (kept_in n j t.out e)
      | inr i ↦ inr (map_append_in n (outs_of kids) (outs_of rest) (place n j)
          (elim (or_cases (has_out j kids) (has_out j rest) i)
          [ inl e ↦ inl (out_in n j kids e) | inr e ↦ inr (out_in n j rest e) ]))
    ])

-- what a mapper gives goes past nobody
near_by : (b : Blocked) (c : Place) (o : Option Node) → node_at b.graph.nodes c.node ≡ o
    → gives_at o c.out ≡ true → maps_at b c.node o ≡ true → goes_past b.graph.nodes c ≡ false
near_by b c None e g m = absurd (false≢true m)
near_by b c (Some (Source r)) e g m = absurd (false≢true m)
near_by b c (Some (Flatten ins)) e g m = absurd (false≢true m)
near_by b c (Some (Gbk d o last k)) e g m = absurd (false≢true m)
near_by b c (Some (Barrier ins o l a)) e g m = absurd (false≢true m)
near_by b c (Some (Pdo d f)) e g m =
    none_in (goes_past b.graph.nodes) c (places_given c.node f) (maps_so b c.node d f m).near
    (out_in c.node c.out f g)

mapper_near : (b : Blocked) (c : Place) → IsThere b.graph.nodes c → is_mapper b c.node ≡ true
    → goes_past b.graph.nodes c ≡ false
mapper_near b c t m = near_by b c (node_at b.graph.nodes c.node) refl t m

-- no Pdo reads a mapper's output
pub mapper_unread : (b : Blocked) (p : ℕ) (c : Place) (f : Forest)
    → node_at b.graph.nodes p ≡ Some (Pdo c f) → IsThere b.graph.nodes c
    → is_mapper b c.node ≡ true → ⊥
mapper_unread b p c f h t m =
    let es : List Entry = b.graph.nodes in
    let n : carries_on es c (entry p (Pdo c f)) ≡ false =
    none_found (carries_on es c) es p (Pdo c f) (mapper_near b c t m) h in
    false≢true (sym n ∙ or_left (same_place c c) false (same_self c))

-- and nothing takes it whole
pub mapper_whole : (b : Blocked) (n : ℕ) (ins : List Place) (o : ℕ) (l : Bool) (a : Act) (c : Place)
    → node_at b.graph.nodes n ≡ Some (Barrier ins o l a) → among c ins ≡ true
    → IsThere b.graph.nodes c → is_mapper b c.node ≡ true → ⊥
mapper_whole b n ins o l a c h i t m =
    let es : List Entry = b.graph.nodes in
    let n' : carries_on es c (entry n (Barrier ins o l a)) ≡ false =
    none_found (carries_on es c) es n (Barrier ins o l a) (mapper_near b c t m) h in
    false≢true (sym n' ∙ or_left (among c ins) false i)

not_both : (a x : Bool) → (a && x) ≡ false → a ≡ true → x ≡ false
not_both true x h e = h
not_both false x h e = absurd (false≢true e)

-- a Flatten of a mapper's output is read by Gbks and script outputs alone
pub mapper_flat : (b : Blocked) (n : ℕ) (ins : List Place) (c : Place)
    → node_at b.graph.nodes n ≡ Some (Flatten ins) → among c ins ≡ true → IsThere b.graph.nodes c
    → is_mapper b c.node ≡ true → goes_on b.graph.nodes (place n 0) ≡ false
mapper_flat b n ins c h i t m =
    let es : List Entry = b.graph.nodes in
    let n' : carries_on es c (entry n (Flatten ins)) ≡ false =
    none_found (carries_on es c) es n (Flatten ins) (mapper_near b c t m) h in
    not_both (among c ins) (goes_on es (place n 0)) n' i
