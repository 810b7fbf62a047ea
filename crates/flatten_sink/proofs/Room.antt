-- How many nodes there are after a step.
use Rattle.std.proofs.Common.{◌≡◌, ℕ, ◌+◌, ◌-◌, ◌*◌, ◌<◌, ◌≤◌, ◌↔◌, Bool, true, false, cond, not, eqb, leb, ◌&&◌, ◌||◌, List, [], ◌∷◌, ◌++◌, length, map, Option, Some, None, is_some, zero, suc, refl, sym, ap, ◌∙◌, subst, arith}
use Rattle.std.proofs.lemmas.Bool.{eqb-true, leb-true, le-leb}
use Rattle.std.specs.List.{list_any, AllByRecursion}
use Rattle.flume_value.proofs.EachLemmas.{Each-weaker}
use Rattle.exec_graph.specs.Forests.{Forest, steps}
use Rattle.exec_graph.specs.Meaning.{place, node_at, AllDiffer}
use Rattle.exec_graph.specs.Readers.{same_place, among, any_node, uses, is_read}
use Rattle.exec_graph.specs.Wellformed.{IsGraphOk, IsNodeOk, size, total_size, most_nodes}
use Rattle.exec_graph.specs.declared.graph.Place.{Place}
use Rattle.exec_graph.specs.declared.graph.Node.{Node}
use Rattle.exec_graph.specs.declared.graph.Node.TheVariants.{Flatten, Pdo}
use Rattle.exec_graph.specs.declared.graph.Entry.{Entry}
use Rattle.exec_graph.specs.declared.graph.Graph.{Graph}
use Rattle.exec_graph.proofs.Entries.{entry, all_found}
use Rattle.exec_graph.proofs.Solving.{ranked_at}
use Rattle.exec_graph.proofs.Soundness.{differ_ascends}
use Rattle.sink_laws.specs.of_graph_laws.Joining.{set_node, without, reread_entry}
use Rattle.sink_laws.specs.Chain.{ins_of, forest_of, after_call, has_room, CanSinkPdo}
use Rattle.sink_laws.specs.Merging.{dropped}
use Rattle.sink_laws.specs.Sinking.{copies, copied, flattens, outputs_of, first_flatten, instead, rerouted, sunk_once, CanSink}
use Rattle.sink_laws.specs.declared.pair.Pair.{Pair}
use Rattle.sink_laws.proofs.Readership.{any_append, any_map, any_none}
use Rattle.sink_laws.proofs.Rerouting.{IsOutside, among_rerouted, not_copied, uses_rerouted, unlike, flattens_skip}
use Rattle.sink_laws.proofs.SinkFounded.{kept_nodes, first_nodes, last_nodes, kept_at, node_at-sunk_other}
use Rattle.flatten_sink.specs.inner.Places.{read_elsewhere}
use Rattle.flatten_sink.specs.inner.Turns.{IsAfter, size_or_none}
use Rattle.flatten_sink.specs.declared.rooms.After.{After}
use Rattle.sink_laws.proofs.of_graph_laws.Reading.{size_reread as size-reread}

-- ---- sizes

size-append : (xs ys : List Entry) → total_size (xs ++ ys) ≡ total_size xs + total_size ys
size-append [] ys = omega arith
size-append (x ∷ xs) ys = let i = size-append xs ys in omega arith

size-map : (r : Place → Place) (es : List Entry)
    → total_size (map (reread_entry r) es) ≡ total_size es
size-map r [] = refl
size-map r (e ∷ es) = let i = size-map r es in let j = size-reread r e.node in cc

size-copies : (n : ℕ) (f : Forest) (cs : List Place)
    → total_size (copies n f cs) ≡ length cs * steps f
size-copies n f [] = omega arith
size-copies n f (c ∷ cs) = let i = size-copies (n + 1) f cs in grind arith

size-flattens : (n first : ℕ) (ins : List Place) (j r : ℕ)
    → total_size (flattens n first ins j r) ≡ r
size-flattens n first ins j zero = refl
size-flattens n first ins j (suc r) =
    let i = size-flattens (n + 1) first ins (suc j) r in omega arith

size-without : (es : List Entry) (n : ℕ) (y : Node) → node_at es n ≡ Some y
    → total_size (without es n) + size y ≡ total_size es
size-without [] n y h = let bad : ⊥ = cc in absurd bad
size-without (e ∷ es) n y h = by (eqb e.number n) h (λ i. size-without es n y i)
  where
    by : (b : Bool) → cond b (Some e.node) (node_at es n) ≡ Some y
        → (node_at es n ≡ Some y → total_size (without es n) + size y ≡ total_size es)
        → total_size (cond b es (e ∷ without es n)) + size y ≡ total_size (e ∷ es)
    by true k f = let s : e.node ≡ y = cc in let z : size e.node ≡ size y = ap size s in omega arith
    by false k f = let i = f k in omega arith

size-set : (es : List Entry) (n : ℕ) (x y : Node) → node_at es n ≡ Some y
    → total_size (set_node es n x) + size y ≡ total_size es + size x
size-set [] n x y h = let bad : ⊥ = cc in absurd bad
size-set (e ∷ es) n x y h = by (eqb e.number n) h (λ i. size-set es n x y i)
  where
    by : (b : Bool) → cond b (Some e.node) (node_at es n) ≡ Some y
        → (node_at es n ≡ Some y
        → total_size (set_node es n x) + size y ≡ total_size es + size x)
        → total_size (cond b (entry n x ∷ es) (e ∷ set_node es n x)) + size y
        ≡ total_size (e ∷ es) + size x
    by true k f = let s : e.node ≡ y = cc in let z : size e.node ≡ size y = ap size s in omega arith
    by false k f = let i = f k in omega arith

size-first : (es : List Entry) (n next : ℕ) (ins : List Place) (k : ℕ) (y : Node)
    → node_at es n ≡ Some y
    → total_size (instead es n (first_flatten next ins k)) + size y + (k - 1)
    ≡ total_size es + k
size-first es n next ins zero y h = let i = size-without es n y h in omega arith
size-first es n next ins (suc k) y h =
    let i = size-set es n (Flatten (copied next 0 ins)) y h in omega arith

size-sunk : (g : Graph) (n p : ℕ) (f : Forest) (ins : List Place) → CanSink g n p f ins
    → total_size (sunk_once g p f ins).nodes + steps f
    ≡ total_size g.nodes + length ins * steps f + outputs_of f
size-sunk g n p f ins can =
    let base : ℕ = g.next + length ins in
    let y : Node = Pdo (rerouted p base (place n 0)) f in
    let a = size-append (first_nodes g p f ins) (copies g.next f ins ++ last_nodes g f ins) in
    let b = size-append (copies g.next f ins) (last_nodes g f ins) in
    let c = size-copies g.next f ins in
    let d = size-flattens base g.next ins 0 (outputs_of f - 1) in
    let e = size-first (kept_nodes g p ins) p g.next ins (outputs_of f) y
    (kept_at g n p f ins can) in
    let h = size-map (rerouted p base) g.nodes in
    summed (total_size (sunk_once g p f ins).nodes) (total_size (first_nodes g p f ins))
    (total_size (copies g.next f ins ++ last_nodes g f ins)) (total_size (copies g.next f ins))
    (total_size (last_nodes g f ins)) (length ins * steps f) (steps f)
    (total_size (kept_nodes g p ins)) (total_size g.nodes) (outputs_of f) a b c d e h
  where
    summed : (new first rest mid last prod s kept old k : ℕ) → new ≡ first + rest
        → rest ≡ mid + last → mid ≡ prod → last ≡ k - 1 → first + s + (k - 1) ≡ kept + k
        → kept ≡ old → new + s ≡ old + prod + k
    summed new first rest mid last prod s kept old k a b c d e h = omega arith

-- ---- who reads the Flatten after the step

others_by : (t : Node → Bool) (p : ℕ) (e : Entry) (es : List Entry) (b : Bool)
    → eqb e.number p ≡ b → AllByRecursion (λ d. d.number ≡ e.number → ⊥) es
    → any_node t (without es p) ≡ list_any (λ e. not (eqb e.number p) && t e.node) es
    → any_node t (cond b es (e ∷ without es p))
    ≡ ((not b && t e.node) || list_any (λ e. not (eqb e.number p) && t e.node) es)
others_by t p e es true i d h = all_others t p es
    (Each-weaker (λ (d : Entry). d.number ≡ e.number → ⊥) (λ d. d.number ≡ p → ⊥)
    (λ d f j. f (j ∙ sym (eqb-true e.number p i))) es d)
  where
    all_others : (t : Node → Bool) (p : ℕ) (es : List Entry)
        → AllByRecursion (λ d. d.number ≡ p → ⊥) es
        → any_node t es ≡ list_any (λ e. not (eqb e.number p) && t e.node) es
    all_others t p [] a = refl
    all_others t p (d ∷ ds) a =
        let z : eqb d.number p ≡ false = unlike d.number p a.0 in
        rw z (ap (λ b. t d.node || b) (all_others t p ds a.1))
others_by t p e es false i d h = ap (λ b. t e.node || b) h

any_others : (t : Node → Bool) (p : ℕ) (es : List Entry) → AllDiffer es
    → any_node t (without es p) ≡ list_any (λ e. not (eqb e.number p) && t e.node) es
any_others t p [] d = refl
any_others t p (e ∷ es) d =
    others_by t p e es (eqb e.number p) refl d.0 (any_others t p es d.1)

any_set_without : (t : Node → Bool) (es : List Entry) (n : ℕ) (x y : Node)
    → node_at es n ≡ Some y → t x ≡ false
    → any_node t (set_node es n x) ≡ any_node t (without es n)
any_set_without t [] n x y h i = refl
any_set_without t (e ∷ es) n x y h i =
    by (eqb e.number n) h (λ k. any_set_without t es n x y k i)
  where
    by : (b : Bool) → cond b (Some e.node) (node_at es n) ≡ Some y
        → (node_at es n ≡ Some y → any_node t (set_node es n x) ≡ any_node t (without es n))
        → any_node t (cond b (entry n x ∷ es) (e ∷ set_node es n x))
        ≡ any_node t (cond b es (e ∷ without es n))
    by true k f = rw i refl
    by false k f = ap (λ b. t e.node || b) (f k)

any_first : (t : Node → Bool) (es : List Entry) (n next : ℕ) (ins : List Place) (k : ℕ) (y : Node)
    → node_at es n ≡ Some y → ((i : ℕ) → t (Flatten (copied next i ins)) ≡ false)
    → any_node t (instead es n (first_flatten next ins k)) ≡ any_node t (without es n)
any_first t es n next ins zero y h i = refl
any_first t es n next ins (suc k) y h i =
    any_set_without t es n (Flatten (copied next 0 ins)) y h (i 0)

without-map : (r : Place → Place) (es : List Entry) (n : ℕ)
    → without (map (reread_entry r) es) n ≡ map (reread_entry r) (without es n)
without-map r [] n = refl
without-map r (e ∷ es) n = by (eqb e.number n) (without-map r es n)
  where
    by : (b : Bool)
        → without (map (reread_entry r) es) n ≡ map (reread_entry r) (without es n)
        → cond b (map (reread_entry r) es)
        (reread_entry r e ∷ without (map (reread_entry r) es) n)
        ≡ map (reread_entry r) (cond b es (e ∷ without es n))
    by true h = refl
    by false h = ap (λ l. reread_entry r e ∷ l) h

copies_other : (c : Place) (n : ℕ) (f : Forest) (cs : List Place)
    → AllByRecursion (λ d. same_place c d ≡ false) cs
    → AllByRecursion (λ e. uses c e.node ≡ false) (copies n f cs)
copies_other c n f [] a = tt
copies_other c n f (d ∷ ds) a =
    (let z : same_place c d ≡ false = a.0 in rw z refl, copies_other c (n + 1) f ds a.1)

read-sunk : (g : Graph) (n p : ℕ) (f : Forest) (ins : List Place) → IsGraphOk g
    → CanSink g n p f ins → is_read (sunk_once g p f ins) (place n 0) ≡ read_elsewhere g n p
read-sunk g n p f ins ok can =
    let base : ℕ = g.next + length ins in
    let c : Place = place n 0 in
    let t : Node → Bool = uses c in
    let r : ℕ → ℕ = ok.founded.ranked.0 in
    let up : r n < r p =
    (ranked_at r g.nodes p (Pdo (place n 0) f) ok.founded.ranked.1 can.pdo).0 in
    let low : n < g.next = all_found (λ e. e.number < g.next) g.nodes n (Flatten ins) can.flatten
    ok.founded.below in
    let o : IsOutside c p g.next = record {
      apart = λ e. let s : r n ≡ r p = ap r e in omega arith;
      below = low;
    } in
    let skip : (i : ℕ) → t (Flatten (copied g.next i ins)) ≡ false =
    λ i. not_copied c g.next i ins low in
    let not_in : AllByRecursion (λ d. same_place c d ≡ false) ins =
    Each-weaker (λ (d : Place). r d.node < r n) (λ d. same_place c d ≡ false)
    (λ d l. let z : eqb n d.node ≡ false = unlike n d.node
    (λ e. let s : r n ≡ r d.node = ap r e in omega arith) in rw z refl) ins
    (ranked_at r g.nodes n (Flatten ins) ok.founded.ranked.1 can.flatten) in
    let first : any_node t (first_nodes g p f ins)
    ≡ list_any (λ e. not (eqb e.number p) && t e.node) g.nodes =
    any_first t (kept_nodes g p ins) p g.next ins (outputs_of f)
    (Pdo (rerouted p base (place n 0)) f) (kept_at g n p f ins can) skip
    ∙ ap (any_node t) (without-map (rerouted p base) g.nodes p)
    ∙ any_map t (reread_entry (rerouted p base)) (without g.nodes p)
    (λ e. uses_rerouted c p g.next base e.node o (omega arith))
    ∙ any_others t p g.nodes (differ_ascends g.nodes ok.founded.ascends) in
    let mid : any_node t (copies g.next f ins) ≡ false =
    any_none t (copies g.next f ins) (copies_other c g.next f ins not_in) in
    let last : any_node t (last_nodes g f ins) ≡ false =
    any_none t (last_nodes g f ins)
    (flattens_skip t base g.next ins 0 (outputs_of f - 1) skip) in
    let outs = among_rerouted c p g.next base g.outputs o (omega arith) in
    rw outs (ap (λ b. b || among c g.outputs)
    (any_append t (first_nodes g p f ins) (copies g.next f ins ++ last_nodes g f ins)
    ∙ ap (λ b. any_node t (first_nodes g p f ins) || b)
    (any_append t (copies g.next f ins) (last_nodes g f ins) ∙ rw (mid, last) refl)
    ∙ nothing_more (any_node t (first_nodes g p f ins)) ∙ first))
  where
    nothing_more : (b : Bool) → (b || false) ≡ b
    nothing_more true = refl
    nothing_more false = refl

-- ---- the graph after the step

tidied_size : (h : Graph) (n : ℕ) (ins : List Place) (b : Bool)
    → node_at h.nodes n ≡ Some (Flatten ins)
    → total_size (cond b h (dropped h n)).nodes + cond b 0 1 ≡ total_size h.nodes
tidied_size h n ins true at = omega arith
tidied_size h n ins false at = size-without h.nodes n (Flatten ins) at

after_size : (g : Graph) (c : Pair) → IsGraphOk g → CanSinkPdo g c
    → total_size (after_call g c).nodes + cond (read_elsewhere g c.flatten c.other) 0 1
    + steps (forest_of (node_at g.nodes c.other))
    ≡ total_size g.nodes + length (ins_of (node_at g.nodes c.flatten))
    * steps (forest_of (node_at g.nodes c.other))
    + outputs_of (forest_of (node_at g.nodes c.other))
after_size g c ok can =
    let f : Forest = forest_of (node_at g.nodes c.other) in
    let ins : List Place = ins_of (node_at g.nodes c.flatten) in
    let h : Graph = sunk_once g c.other f ins in
    let r : ℕ → ℕ = ok.founded.ranked.0 in
    let up : r c.flatten < r c.other =
    (ranked_at r g.nodes c.other (Pdo (place c.flatten 0) f) ok.founded.ranked.1 can.pdo).0 in
    let at : node_at h.nodes c.flatten
    ≡ Some (Flatten (map (rerouted c.other (g.next + length ins)) ins)) =
    node_at-sunk_other g c.other c.flatten f ins (Flatten ins)
    (λ e. let s : r c.flatten ≡ r c.other = ap r e in omega arith) can.flatten in
    let a = tidied_size h c.flatten (map (rerouted c.other (g.next + length ins)) ins)
    (is_read h (place c.flatten 0)) at in
    let b = size-sunk g c.flatten c.other f ins can in
    subst (λ (t : Bool). total_size (after_call g c).nodes + cond t 0 1 + steps f
    ≡ total_size g.nodes + length ins * steps f + outputs_of f)
    (read-sunk g c.flatten c.other f ins ok can)
    (summed (total_size (after_call g c).nodes) (cond (is_read h (place c.flatten 0)) 0 1)
    (total_size h.nodes) (steps f) (total_size g.nodes) (length ins * steps f) (outputs_of f) a b)
  where
    summed : (after gone new s old prod k : ℕ) → after + gone ≡ new → new + s ≡ old + prod + k
        → after + gone + s ≡ old + prod + k
    summed after gone new s old prod k a b = omega arith

same_by : (r t : Bool) → (r ≡ true → t ≡ true) → (t ≡ true → r ≡ true) → r ≡ t
same_by true t f g = sym (f refl)
same_by false true f g = g refl
same_by false false f g = refl

-- The test that the code makes.
pub limited : (after gone s sum limit : ℕ) (r : Bool) → after + gone + s ≡ sum
    → limit ≡ most_nodes + s + gone → (r ≡ true) ↔ (sum ≤ limit) → r ≡ leb after most_nodes
limited after gone s sum limit r e l h =
    same_by r (leb after most_nodes)
    (λ i. let k : sum ≤ limit = h.0 i in le-leb after most_nodes (omega arith))
    (λ i. let k : after ≤ most_nodes = leb-true after most_nodes i in h.1 (omega arith))

-- ---- the test of the code

size_below : (es : List Entry) (n : ℕ) (y : Node) → node_at es n ≡ Some y
    → size y ≤ total_size es
size_below es n y h = let e = size-without es n y h in omega arith

pub few_steps : {g : Graph} {es : List Entry} {st : ℕ} (c : Pair) → IsGraphOk g → CanSinkPdo g c
    → es ≡ g.nodes → st ≡ size_or_none (node_at es c.other) → st ≤ most_nodes
few_steps {g} {es} {st} c ok can e s =
    let f : Forest = forest_of (node_at g.nodes c.other) in
    let a : st ≡ steps f = s ∙ ap (λ (l : List Entry). size_or_none (node_at l c.other)) e
    ∙ ap size_or_none can.pdo in
    let b : steps f ≤ total_size g.nodes =
    size_below g.nodes c.other (Pdo (place c.flatten 0) f) can.pdo in
    let d : total_size g.nodes ≤ most_nodes = ok.few in
    omega arith

pub few_inputs : {g : Graph} {es : List Entry} {ins : List Place} (c : Pair) → IsGraphOk g
    → CanSinkPdo g c → es ≡ g.nodes → ins ≡ ins_of (node_at es c.flatten) → length ins ≤ most_nodes
few_inputs {g} {es} {ins} c ok can e i =
    let at : (0 < length (ins_of (node_at g.nodes c.flatten)))
    × (length (ins_of (node_at g.nodes c.flatten)) ≤ most_nodes) =
    all_found (λ e. IsNodeOk g e.number e.node) g.nodes c.flatten
    (Flatten (ins_of (node_at g.nodes c.flatten))) can.flatten ok.nodes in
    subst (λ (l : List Place). length l ≤ most_nodes)
    (sym (i ∙ ap (λ (l : List Entry). ins_of (node_at l c.flatten)) e)) at.1

left : (after gone s sum limit n : ℕ) → after + gone + s ≡ sum → limit ≡ most_nodes + s + gone
    → n ≡ sum - (limit - most_nodes) → n ≡ after
left after gone s sum limit n e l h = omega arith

-- What the code has counted: the size of the graph, the steps and the outputs of the Pdo, the
-- inputs of the Flatten, and whether that is read elsewhere.
module _ {g : Graph} {es : List Entry} {all st outs limit : ℕ} {ins : List Place} {read : Bool}
    (c : Pair) (ok : IsGraphOk g) (can : CanSinkPdo g c) (e : es ≡ g.nodes)
    (a : all ≡ total_size es) (s : st ≡ size_or_none (node_at es c.other))
    (i : ins ≡ ins_of (node_at es c.flatten))
    (o : outs ≡ outputs_of (forest_of (node_at es c.other)))
    (w : read ≡ read_elsewhere g c.flatten c.other)
    (l : limit ≡ most_nodes + st + cond read 0 1) where
  steps_are : st ≡ steps (forest_of (node_at g.nodes c.other))
  steps_are =
      s ∙ ap (λ (l : List Entry). size_or_none (node_at l c.other)) e ∙ ap size_or_none can.pdo

  limit_is : limit ≡ most_nodes + steps (forest_of (node_at g.nodes c.other))
      + cond (read_elsewhere g c.flatten c.other) 0 1
  limit_is = l ∙ rw (steps_are, w) refl

  sum_is : total_size (after_call g c).nodes + cond (read_elsewhere g c.flatten c.other) 0 1
      + steps (forest_of (node_at g.nodes c.other)) ≡ all + length ins * st + outs
  sum_is =
      let f : Forest = forest_of (node_at g.nodes c.other) in
      let all_is : all ≡ total_size g.nodes = a ∙ ap total_size e in
      let ins_is : ins ≡ ins_of (node_at g.nodes c.flatten) =
      i ∙ ap (λ (l : List Entry). ins_of (node_at l c.flatten)) e in
      let outs_is : outs ≡ outputs_of f =
      o ∙ ap (λ (l : List Entry). outputs_of (forest_of (node_at l c.other))) e in
      let sum : all + length ins * st + outs
      ≡ total_size g.nodes + length (ins_of (node_at g.nodes c.flatten)) * steps f
      + outputs_of f = rw (all_is, ins_is, steps_are, outs_is) refl in
      after_size g c ok can ∙ sym sum

  pub room_is : (r : Bool) → (r ≡ true) ↔ (all + length ins * st + outs ≤ limit)
      → r ≡ has_room g c
  room_is r h =
      limited (total_size (after_call g c).nodes) (cond (read_elsewhere g c.flatten c.other) 0 1)
      (steps (forest_of (node_at g.nodes c.other))) (all + length ins * st + outs) limit r sum_is
      limit_is h

  pub size_is : (n : ℕ) → n ≡ all + length ins * st + outs - (limit - most_nodes)
      → n ≡ total_size (after_call g c).nodes
  size_is n h =
      left (total_size (after_call g c).nodes) (cond (read_elsewhere g c.flatten c.other) 0 1)
      (steps (forest_of (node_at g.nodes c.other))) (all + length ins * st + outs) limit n sum_is
      limit_is h

-- ---- what is answered

pub some_is : (g : Graph) (c : Pair) (o : Option After) → IsAfter g c o → is_some o ≡ has_room g c
some_is g c None h = sym h
some_is g c (Some a) h = sym h.room

-- Whether the Flatten is still read.
pub read_is : (g h : Graph) (c : Pair) (b : Bool) → IsGraphOk g → CanSinkPdo g c
    → h ≡ sunk_once g c.other (forest_of (node_at g.nodes c.other))
    (ins_of (node_at g.nodes c.flatten)) → b ≡ read_elsewhere g c.flatten c.other
    → b ≡ is_read h (place c.flatten 0)
read_is g h c b ok can e r =
    r ∙ sym (ap (λ (i : Graph). is_read i (place c.flatten 0)) e
    ∙ read-sunk g c.flatten c.other (forest_of (node_at g.nodes c.other))
    (ins_of (node_at g.nodes c.flatten)) ok can)
