-- The kids lead from the siblings to the fused graph.
use Rattle.std.proofs.Common.{◌≡◌, ℕ, ◌<◌, Bool, true, false, cond, ◌||◌, ◌&&◌, List, [], ◌∷◌, ◌++◌, Some, refl, sym, ap, ◌∙◌, subst}
use Rattle.std.proofs.lemmas.Bool.{eq-eqb, false≢true}
use Rattle.std.proofs.Math.Bool.{and-false}
use Rattle.std.proofs.lemmas.List.{append-nil}
use Rattle.std.proofs.Math.Path.{fun_ext}
use Rattle.std.specs.List.{AllByRecursion as Each}
use Rattle.exec_graph.specs.Forests.{Forest}
use Rattle.exec_graph.specs.declared.graph.Place.{Place}
use Rattle.exec_graph.specs.declared.graph.Node.{Node}
use Rattle.exec_graph.specs.declared.graph.Node.TheVariants.{Source, Flatten, Pdo, Gbk, Barrier}
use Rattle.exec_graph.specs.declared.graph.Entry.{Entry}
use Rattle.exec_graph.specs.declared.graph.Graph.{Graph}
use Rattle.exec_graph.specs.declared.graph.Blocked.{Blocked}
use Rattle.exec_graph.specs.Meaning.{place, node_at, reads, IsThere}
use Rattle.exec_graph.specs.Readers.{among, any_node, calls_on, readers, same_place, those}
use Rattle.exec_graph.proofs.Entries.{all_found}
use Rattle.pardo_fuse.specs.Readers.{Cut, cut_of, is_pdo, is_unmarked}
use Rattle.pardo_fuse.specs.Fusing.{fused_by_parents, is_first}
use Rattle.pardo_fuse.specs.SingleFusing.{CanFuse, fused_by, joined_nodes}
use Rattle.pardo_fuse.specs.Parting.{parted}
use Rattle.pardo_fuse.specs.Wellformed.{IsFusible}
use Rattle.pardo_fuse.proofs.Rejoining.{joined_is}
use Rattle.fuse_chain.proofs.Premises.{AscendsLow, CanChain, can_chain, low_last}
use Rattle.pardo_fuse.proofs.Chaining.{more_inner}
use Rattle.pardo_fuse.proofs.Once.{there_zero}
use Rattle.pardo_fuse.proofs.Places.{and_left, pdo_is, place_is, same_is, same_self}
use Rattle.pardo_fuse.proofs.Seeing.{any_at}
use Rattle.fuse_chain.specs.Cuts.{IsNextKid, siblings_of}
use Rattle.fuse_chain.specs.Numbers.{ReadsInner, numbers_after_kid, after_kids}
use Rattle.fuse_chain.specs.Rewrites.{ByKids, InOrder, IsKid, Kid, FusesTo, Fusion, is_sibling, other_of}
use Rattle.fuse_chain.proofs.CutStates.{any_two}
use Rattle.fuse_chain.proofs.KidSteps.{keeper_is, kid_of_cut}
use Rattle.fuse_chain.proofs.LeastSteps.{IsNumbering, next_numbering}
use Rattle.fuse_chain.proofs.Splits.{append_end, end, found_of, those_none}
use Rattle.fuse_chain.proofs.States.{graph_of}
use Rattle.pardo_fuse.proofs.Lifting.{those-append}

-- The outputs of which some of these Pdos, or none at all, are readers.
abbrev pub later : Blocked → List Entry → Cut
later b done = record {
  graph = b.graph;
  marks = b.marks;
  inner = λ c. is_unmarked b c
      && (any_node (calls_on c) done || cond (any_node (calls_on c) b.graph.nodes) false true);
}

abbrev pub cut_graph : Cut → Graph
cut_graph b = graph_of (joined_nodes b) b.graph.outputs b.graph.next

pub can_later : (b : Blocked) (done : List Entry) → CanFuse (cut_of b) → CanFuse (later b done)
can_later b done can = record {
  ok = can.ok;
  single = can.single;
  marked = can.marked;
  pdos = λ c h. and_left (is_pdo (node_at b.graph.nodes c.node))
      (cond (among c b.marks) false true)
      (and_left (is_unmarked b c) (any_node (calls_on c) done
      || cond (any_node (calls_on c) b.graph.nodes) false true) h);
}

same_cut : (g : Graph) (marks : List Place) (i j : Place → Bool) → ((c : Place) → i c ≡ j c)
    → (let x : Cut = record { graph = g; marks = marks; inner = i } in x)
    ≡ (let x : Cut = record { graph = g; marks = marks; inner = j } in x)
same_cut g marks i j h = ap (λ (k : Place → Bool). let x : Cut = record {
  graph = g;
  marks = marks;
  inner = k;
} in x) (fun_ext h)

-- ---- one node more
-- The node makes no output more inner.
pub stays : (b : Blocked) (done : List Entry) (e : Entry)
    → ((c : Place) → calls_on c e.node ≡ true → is_unmarked b c ≡ true
    → any_node (calls_on c) done ≡ true) → later b (end done e) ≡ later b done
stays b done e h = same_cut b.graph b.marks (later b (end done e)).inner (later b done).inner
    (λ c. ap (λ r. is_unmarked b c && (r || cond (any_node (calls_on c) b.graph.nodes) false true))
    (any_two (calls_on c) done (e ∷ []))
    ∙ by c (is_unmarked b c) (any_node (calls_on c) done) (calls_on c e.node)
    (cond (any_node (calls_on c) b.graph.nodes) false true) refl refl refl)
  where
    by : (c : Place) (u a t n : Bool) → is_unmarked b c ≡ u → any_node (calls_on c) done ≡ a
        → calls_on c e.node ≡ t → (u && ((a || (t || false)) || n)) ≡ (u && (a || n))
    by c false a t n i j k = refl
    by c true true t n i j k = refl
    by c true false true n i j k = absurd (false≢true (sym j ∙ h c k i))
    by c true false false n i j k = refl

-- The node is the first reader of an unmarked output.
pub grows : (b : Blocked) (done : List Entry) (e : Entry) (d : Place) (f : Forest)
    → e.node ≡ Pdo d f → place d.node 0 ≡ d → is_unmarked b d ≡ true
    → later b (end done e) ≡ more_inner (later b done) d.node
grows b done e d f is z u =
    same_cut b.graph b.marks (later b (end done e)).inner
    (more_inner (later b done) d.node).inner
    (λ c. ap (λ r. is_unmarked b c && (r || cond (any_node (calls_on c) b.graph.nodes) false true))
    (any_two (calls_on c) done (e ∷ []))
    ∙ ap (λ (x : Node). is_unmarked b c && ((any_node (calls_on c) done || (calls_on c x || false))
    || cond (any_node (calls_on c) b.graph.nodes) false true)) is
    ∙ by c (is_unmarked b c) (any_node (calls_on c) done) (same_place c d)
    (cond (any_node (calls_on c) b.graph.nodes) false true) refl refl
    ∙ ap (λ (y : Place). same_place c y || (later b done).inner c) (sym z))
  where
    by : (c : Place) (v a t n : Bool) → is_unmarked b c ≡ v → same_place c d ≡ t
        → (v && ((a || (t || false)) || n)) ≡ (t || (v && (a || n)))
    by c true true true n i k = refl
    by c true false true n i k = refl
    by c false a true n i k = absurd (false≢true (sym i
        ∙ ap (is_unmarked b) (same_is c d k) ∙ u))
    by c true true false n i k = refl
    by c true false false n i k = refl
    by c false a false n i k = refl

-- ---- the chain
pub record KidsFrom (b : Blocked) (done rest : List Entry) : Type 0 where
  pub rewrites : List Fusion
  pub all : Each (λ r. is_sibling r ≡ false) rewrites
  pub order : InOrder rewrites
  pub leads : FusesTo rewrites (cut_graph (later b done)) (cut_graph (later b b.graph.nodes))
  pub above : (low : ℕ) → Each (λ (d : Entry). d.number < b.graph.next → low < d.number) rest
      → Each (λ r. low < other_of r) rewrites
  pub inner : Each (λ r. ReadsInner b (other_of r)) rewrites
  pub numbered : (l : ℕ → ℕ) → IsNumbering (later b done) l
      → IsNumbering (later b b.graph.nodes) (after_kids rewrites l)

module _ (b : Blocked) (chain : CanChain b) where
  can : CanFuse (cut_of b)
  can = chain.can

  abbrev es : List Entry
  es = b.graph.nodes

  first_of : (done rest : List Entry) (e : Entry) (d : Place) (f : Forest)
      → es ≡ done ++ (e ∷ rest) → e.node ≡ Pdo d f
      → any_node (calls_on d) done ≡ false → is_first e.number (readers es d) ≡ true
  first_of done rest e d f split is none =
      ap (λ l. is_first e.number (readers l d)) split
      ∙ ap (is_first e.number) (those-append (calls_on d) done (e ∷ rest))
      ∙ ap (λ l. is_first e.number (l ++ those (calls_on d) (e ∷ rest)))
      (those_none (calls_on d) done none)
      ∙ ap (λ (x : Node). is_first e.number (cond (calls_on d x) (e.number ∷ readers rest d)
      (readers rest d))) is
      ∙ ap (λ r. is_first e.number (cond r (e.number ∷ readers rest d) (readers rest d)))
      (same_self d)
      ∙ eq-eqb e.number e.number refl

  outer_more : (done : List Entry) (d : Place) → any_node (calls_on d) done ≡ false
      → any_node (calls_on d) es ≡ true → (later b done).inner d ≡ false
  outer_more done d none read =
      ap (λ r. is_unmarked b d && (r || cond (any_node (calls_on d) es) false true)) none
      ∙ ap (λ r. is_unmarked b d && cond r false true) read
      ∙ and-false (is_unmarked b d)

  -- An unmarked output that is read.
  pdo_of : (d : Place) → is_unmarked b d ≡ true → is_pdo (node_at es d.node) ≡ true
  pdo_of d u = and_left (is_pdo (node_at es d.node)) (cond (among d b.marks) false true) u

  zero_of : (n : ℕ) (d : Place) (f : Forest) → node_at es n ≡ Some (Pdo d f)
      → is_unmarked b d ≡ true → place d.node 0 ≡ d
  zero_of n d f at u =
      let there : IsThere es d = (all_found (λ e. Each (IsThere es) (reads e.node)) es n (Pdo d f)
      at can.ok.there).0 in
      let q = pdo_is (node_at es d.node) (pdo_of d u) in
      place_is d d.node 0 refl (sym (there_zero (cut_of b) d q.0 q.1 can there q.2))

  more_of : (done rest : List Entry) (e : Entry) (d : Place) (f : Forest)
      → es ≡ done ++ (e ∷ rest) → e.node ≡ Pdo d f → is_unmarked b d ≡ true
      → any_node (calls_on d) done ≡ false → IsNextKid (later b done) d.node e.number
  more_of done rest e d f split is u none =
      let at : node_at es e.number ≡ Some (Pdo d f) = found_of es done rest e can.ok.differ split
      ∙ ap (λ (x : Node). Some x) is in
      let zero : place d.node 0 ≡ d = zero_of e.number d f at u in
      let read : any_node (calls_on d) es ≡ true = any_at (calls_on d) es e.number (Pdo d f) at
      (same_self d) in
      record {
        pdo = pdo_of d u;
        outer = subst (λ (y : Place). (later b done).inner y ≡ false) (sym zero)
            (outer_more done d none read);
        first = subst (λ (y : Place). is_first e.number (readers es y) ≡ true) (sym zero)
            (first_of done rest e d f split is none);
      }

  kids_skip : (done rest : List Entry) (e : Entry) → ((c : Place) → calls_on c e.node ≡ true
      → is_unmarked b c ≡ true → any_node (calls_on c) done ≡ true)
      → KidsFrom b (end done e) rest → KidsFrom b done (e ∷ rest)
  kids_skip done rest e h i = record {
    rewrites = i.rewrites;
    all = i.all;
    order = i.order;
    leads = subst (λ (k : Cut). FusesTo i.rewrites (cut_graph k) (cut_graph (later b es)))
        (stays b done e h) i.leads;
    above = λ low a. i.above low a.1;
    inner = i.inner;
    numbered = λ l x. i.numbered l
        (subst (λ (k : Cut). IsNumbering k l) (sym (stays b done e h)) x);
  }

  kids_more : (done rest : List Entry) (e : Entry) (d : Place) (f : Forest)
      → es ≡ done ++ (e ∷ rest) → e.node ≡ Pdo d f → is_unmarked b d ≡ true
      → any_node (calls_on d) done ≡ false
      → KidsFrom b (end done e) rest → KidsFrom b done (e ∷ rest)
  kids_more done rest e d f split is u none i =
      let step = kid_of_cut (later b done) d.node e.number (can_later b done can)
      (more_of done rest e d f split is u none) in
      let zero : place d.node 0 ≡ d = zero_of e.number d f
      (found_of es done rest e can.ok.differ split
      ∙ ap (λ (x : Node). Some x) is) u in
      let order : AscendsLow b.graph.next (e ∷ rest) = low_last b.graph.next done (e ∷ rest)
      (subst (AscendsLow b.graph.next) split chain.low) in
      let here : e.number < b.graph.next =
      chain.first e.number d (first_of done rest e d f split is none) in
      record {
        rewrites = Kid step.0 step.1 e.number ∷ i.rewrites;
        all = (refl, i.all);
        order = (i.above e.number (order.0 here), i.order);
        leads = (
          cut_graph (later b (end done e)),
          subst (λ (k : Cut). IsKid (cut_graph (later b done)) step.0 step.1 e.number
              (cut_graph k)) (sym (grows b done e d f is zero u)) step.2,
          i.leads,
        );
        above = λ low a. (a.0 here, i.above low a.1);
        inner = (
          record {
            source = d;
            forest = f;
            at = found_of es done rest e can.ok.differ split
                ∙ ap (λ (x : Node). Some x) is;
            inner = u;
          },
          i.inner,
        );
        numbered = λ l x. i.numbered (numbers_after_kid l step.0 e.number)
            (subst (λ (k : Cut). IsNumbering k (numbers_after_kid l step.0 e.number))
            (sym (grows b done e d f is zero u))
            (subst (λ (s : ℕ). IsNumbering (more_inner (later b done) d.node)
            (numbers_after_kid l s e.number))
            (sym (keeper_is (later b done) d.node e.number (can_later b done can)
            (more_of done rest e d f split is u none)))
            (next_numbering (later b done) d.node e.number (can_later b done can)
            (more_of done rest e d f split is u none) l x)));
      }

  kids_node : (done rest : List Entry) (e : Entry) → es ≡ done ++ (e ∷ rest)
      → (x : Node) → e.node ≡ x → KidsFrom b (end done e) rest → KidsFrom b done (e ∷ rest)
  kids_node done rest e split (Source r) is i = kids_skip done rest e (λ c h. absurd (false≢true
      (sym (ap (calls_on c) is) ∙ h))) i
  kids_node done rest e split (Flatten ins) is i = kids_skip done rest e (λ c h. absurd
      (false≢true (sym (ap (calls_on c) is) ∙ h))) i
  kids_node done rest e split (Pdo d f) is i =
      by (is_unmarked b d) (any_node (calls_on d) done) refl refl
    where
      same : (c : Place) → calls_on c e.node ≡ true → c ≡ d
      same c h = same_is c d (sym (ap (calls_on c) is) ∙ h)

      by : (u a : Bool) → is_unmarked b d ≡ u → any_node (calls_on d) done ≡ a
          → KidsFrom b done (e ∷ rest)
      by false a j k = kids_skip done rest e (λ c h v. absurd (false≢true (sym j
          ∙ ap (is_unmarked b) (sym (same c h)) ∙ v))) i
      by true true j k = kids_skip done rest e (λ c h v. ap (λ (y : Place). any_node (calls_on y)
          done) (same c h) ∙ k) i
      by true false j k = kids_more done rest e d f split is j k i
  kids_node done rest e split (Gbk c o l k) is i = kids_skip done rest e (λ c h. absurd
      (false≢true (sym (ap (calls_on c) is) ∙ h))) i
  kids_node done rest e split (Barrier ins o l a) is i = kids_skip done rest e (λ c h. absurd
      (false≢true (sym (ap (calls_on c) is) ∙ h))) i

  kids_from : (done rest : List Entry) → es ≡ done ++ rest → KidsFrom b done rest
  kids_from done [] split = record {
    rewrites = [];
    all = tt;
    order = tt;
    leads = ap (λ (l : List Entry). cut_graph (later b l)) (sym (split ∙ append-nil done));
    above = λ low a. tt;
    inner = tt;
    numbered = λ l x. subst (λ (ds : List Entry). IsNumbering (later b ds) l)
        (sym (split ∙ append-nil done)) x;
  }
  kids_from done (e ∷ rest) split = kids_node done rest e split e.node refl
      (kids_from (end done e) rest (split ∙ append_end done e rest))

  last_cut : later b es ≡ cut_of b
  last_cut = same_cut b.graph b.marks (later b es).inner (cut_of b).inner
      (λ c. by (is_unmarked b c) (any_node (calls_on c) es))
    where
      by : (u a : Bool) → (u && (a || cond a false true)) ≡ u
      by true true = refl
      by true false = refl
      by false a = refl

  all_kids : KidsFrom b [] es
  all_kids = kids_from [] es refl

  pub kids_last : ByKids (cut_graph (siblings_of b)) (cut_graph (cut_of b))
  kids_last =
      let i : KidsFrom b [] es = all_kids in
      record {
        rewrites = i.rewrites;
        all = i.all;
        order = i.order;
        leads = subst (λ (k : Cut). FusesTo i.rewrites (cut_graph (siblings_of b)) (cut_graph k))
            last_cut i.leads;
      }

  pub kids_numbered : (l : ℕ → ℕ) → IsNumbering (later b []) l
      → IsNumbering (cut_of b) (after_kids kids_last.rewrites l)
  unfolding kids_last all_kids
  kids_numbered l x =
      subst (λ (k : Cut). IsNumbering k (after_kids all_kids.rewrites l)) last_cut
      (all_kids.numbered l x)

  pub kids_inner : Each (λ r. ReadsInner b (other_of r)) kids_last.rewrites
  unfolding kids_last all_kids
  kids_inner = all_kids.inner

  kids_by : ByKids (cut_graph (siblings_of b)) (fused_by (cut_of b)).graph
  unfolding fused_by
  kids_by = kids_last

pub kids_lead : (b : Blocked) → IsFusible b
    → ByKids (fused_by (siblings_of (parted b))).graph (fused_by_parents b).graph
unfolding fused_by
kids_lead b fu = subst (λ (d : Blocked). ByKids (cut_graph (siblings_of (parted b))) d.graph)
    (sym (joined_is b fu)) (kids_by (parted b) (can_chain b fu))
