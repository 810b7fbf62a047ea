-- The siblings lead from a graph whose steps have several outputs to the one in which no two Pdos
-- read one collection: a Pdo takes all outputs of another one's step at once.
use Rattle.std.proofs.Common.{◌≡◌, ℕ, ◌%◌, Bool, true, false, cond, ◌&&◌, List, [], ◌∷◌, ◌++◌, map, Some, None, refl, sym, ap, ◌∙◌, subst}
use Rattle.std.proofs.Math.Bool.{and-false}
use Rattle.std.proofs.lemmas.List.{append-nil}
use Rattle.std.specs.List.{AllByRecursion as Each}
use Rattle.exec_graph.specs.Forests.{Forest, Bare}
use Rattle.exec_graph.specs.Meaning.{place, node_at, IsSound}
use Rattle.exec_graph.specs.Readers.{any_node, calls_on, is_read, readers, those}
use Rattle.exec_graph.specs.declared.graph.Place.{Place}
use Rattle.exec_graph.specs.declared.graph.Node.{Node}
use Rattle.exec_graph.specs.declared.graph.Node.TheVariants.{Source, Flatten, Pdo, Gbk, Barrier}
use Rattle.exec_graph.specs.declared.graph.Entry.{Entry}
use Rattle.exec_graph.specs.declared.graph.Graph.{Graph}
use Rattle.exec_graph.specs.declared.graph.Blocked.{Blocked}
use Rattle.graph_laws.specs.Joining.{reread}
use Rattle.graph_laws.specs.Kids.{kept_by}
use Rattle.pardo_fuse.specs.Fusing.{is_first}
use Rattle.pardo_fuse.specs.SingleFusing.{forest_reading, fused_by, Grown, joined_nodes, keeps_output, kids_of, planted, step_at}
use Rattle.pardo_fuse.specs.Parting.{parted, parts_of_node}
use Rattle.pardo_fuse.specs.Readers.{Cut, is_unmarked}
use Rattle.pardo_fuse.specs.Wellformed.{IsFusible}
use Rattle.pardo_fuse.proofs.Chaining.{grown_one}
use Rattle.pardo_fuse.proofs.Levels.{all_grown, grown_planted}
use Rattle.pardo_fuse.proofs.Once.{all_of}
use Rattle.pardo_fuse.proofs.PartedNodes.{can_fuse}
use Rattle.pardo_fuse.proofs.Places.{same_self}
use Rattle.pardo_fuse.proofs.Seeing.{any_at}
use Rattle.pardo_fuse.proofs.Unparting.{low}
use Rattle.fuse_chain.specs.Cuts.{siblings_of}
use Rattle.fuse_chain.specs.Rewrites.{BySiblings, FusesTo}
use Rattle.fuse_chain.proofs.Begun.{own_drawn, whole_graph, whole_reads, whole_state}
use Rattle.fuse_chain.proofs.CutStates.{joined_drawn, plan_of}
use Rattle.fuse_chain.proofs.KidChains.{can_later, cut_graph}
use Rattle.fuse_chain.proofs.KidSteps.{kept_alike}
use Rattle.fuse_chain.proofs.SideBySide.{bare, kept_read_by, reads_output, rooted}
use Rattle.fuse_chain.proofs.Partly.{found_in}
use Rattle.fuse_chain.proofs.Plans.{drawn_alike}
use Rattle.fuse_chain.proofs.Splits.{append_end, end, those_none}
use Rattle.fuse_chain.proofs.States.{IsState, graph_of, named_graph}
use Rattle.fuse_chain.proofs.Whole.{can, own, whole, scene}
use Rattle.fuse_chain.proofs.Done.{IsDone, StepsFrom, calls, done_graph, done_nodes, fresh_plan, from, other_plan, part_done}
use Rattle.fuse_chain.proofs.OneMore.{one_more}

module _ (b : Blocked) (fu : IsFusible b) where
  open (scene b) use {k, es, r, ps, outs}

  -- ---- the chain
  skip : (done rest : List Entry) (e : Entry)
      → ((q : ℕ) (c : Place) (h : Forest) → node_at ps q ≡ Some (Pdo c h)
      → part_done b (end done e) q c ≡ part_done b done q c)
      → IsDone b done → (IsDone b (end done e) → StepsFrom b (end done e) rest)
      → StepsFrom b done (e ∷ rest)
  skip done rest e same at f =
      let is : done_nodes b (end done e) ≡ done_nodes b done =
      drawn_alike (part_done b (end done e)) (part_done b done) ps (can_fuse b fu).ok.differ same in
      let i : StepsFrom b (end done e) rest = f (record {
        state = subst (λ l. IsState l outs) (sym is) at.state;
        sound = subst (λ l. IsSound (graph_of l outs k)) (sym is) at.sound;
        reads = λ v. ap (λ l. is_read (named_graph l outs) v) is ∙ at.reads v;
      }) in
      record {
        rewrites = i.rewrites;
        all = i.all;
        order = i.order;
        leads = subst (λ l. FusesTo i.rewrites (graph_of l outs k) (done_graph b es)) is i.leads;
        above = λ low a. i.above low a.1;
      }

  node_steps : (done rest : List Entry) (e : Entry) → es ≡ done ++ (e ∷ rest)
      → (x : Node) → e.node ≡ x → IsDone b done
      → (IsDone b (end done e) → StepsFrom b (end done e) rest)
      → StepsFrom b done (e ∷ rest)
  node_steps done rest e split (Source s) is at h = skip done rest e
      (other_plan b fu done rest e split
      (λ c. ap (λ (x : Node). those (calls_on c) (parts_of_node k e.number (reread r x))) is)
      (λ c t i. let bad : ⊥ = cc in absurd bad)) at h
  node_steps done rest e split (Flatten ins) is at h = skip done rest e
      (other_plan b fu done rest e split
      (λ c. ap (λ (x : Node). those (calls_on c) (parts_of_node k e.number (reread r x))) is)
      (λ c t i. let bad : ⊥ = cc in absurd bad)) at h
  node_steps done rest e split (Pdo d f) is at h = by (calls b done (r d)) refl
    where
      by : (ns : List ℕ) → calls b done (r d) ≡ ns → StepsFrom b done (e ∷ rest)
      by [] none = skip done rest e (fresh_plan b fu done rest e d f split is none) at h
      by (p ∷ more) some = one_more b fu done rest e d f split is p more some at h
  node_steps done rest e split (Gbk c o l m) is at h = skip done rest e
      (other_plan b fu done rest e split
      (λ c. ap (λ (x : Node). those (calls_on c) (parts_of_node k e.number (reread r x))) is)
      (λ c t i. let bad : ⊥ = cc in absurd bad)) at h
  node_steps done rest e split (Barrier ins o l a) is at h = skip done rest e
      (other_plan b fu done rest e split
      (λ c. ap (λ (x : Node). those (calls_on c) (parts_of_node k e.number (reread r x))) is)
      (λ c t i. let bad : ⊥ = cc in absurd bad)) at h

  steps_from : (done rest : List Entry) → es ≡ done ++ rest → IsDone b done
      → StepsFrom b done rest
  steps_from done [] split at = record {
    rewrites = [];
    all = tt;
    order = tt;
    leads = ap (done_graph b) (sym (split ∙ append-nil done));
    above = λ low a. tt;
  }
  steps_from done (e ∷ rest) split at = node_steps done rest e split e.node refl at
      (steps_from (end done e) rest (split ∙ append_end done e rest))

  begun : done_nodes b [] ≡ map (whole b) es
  begun = own_drawn b fu

  first_done : IsDone b []
  first_done = record {
    state = subst (λ l. IsState l outs) (sym begun) (whole_state b fu);
    sound = subst (λ l. IsSound (graph_of l outs k)) (sym begun)
        (subst IsSound (sym (whole_graph b fu)) (can b fu).ok);
    reads = λ v. ap (λ l. is_read (named_graph l outs) v) begun ∙ whole_reads b fu v;
  }

  abbrev cut : Cut
  cut = siblings_of (parted b)

  outer : (c : Place) → any_node (calls_on c) ps ≡ true → cut.inner c ≡ false
  outer c h = ap (λ t. is_unmarked (parted b) c && cond t false true) h
      ∙ and-false (is_unmarked (parted b) c)

  kids_none : (n : ℕ) → kids_of cut n ≡ []
  kids_none n = by (any_node (calls_on (place n 0)) ps) refl
    where
      empty : (t : Bool) (l : List ℕ) → l ≡ [] → cond t l [] ≡ []
      empty true l h = h
      empty false l h = refl

      by : (t : Bool) → any_node (calls_on (place n 0)) ps ≡ t → kids_of cut n ≡ []
      by true h = ap (λ s. cond s (readers ps (place n 0)) []) (outer (place n 0) h)
      by false h = empty (cut.inner (place n 0)) (readers ps (place n 0))
          (those_none (calls_on (place n 0)) ps h)

  bare_grown : (ns : List ℕ) → Each (λ n. Grown cut (kids_of cut n) (bare n)) ns
  bare_grown [] = tt
  bare_grown (n ∷ ns) = (
    subst (λ l. Grown cut l Bare) (sym (kids_none n)) tt,
    bare_grown ns,
  )

  forest_last : (c : Place) → rooted (parted b) (readers ps c) ≡ forest_reading cut c
  forest_last c =
      ap (kept_by (reads_output (parted b))) (grown_one cut (readers ps c)
      (planted (step_at cut) bare (readers ps c)) (all_of cut c)
      (grown_planted cut bare (readers ps c) (bare_grown (readers ps c)))
      (all_grown cut (can_later (parted b) [] (can_fuse b fu)) c))
      ∙ kept_alike (reads_output (parted b)) (keeps_output cut) (all_of cut c)
      (λ i h. sym (kept_read_by (parted b) (place i 0)))

  plan_last : (q : ℕ) (c : Place) (h : Forest) → node_at ps q ≡ Some (Pdo c h)
      → part_done b es q c ≡ plan_of cut q c
  plan_last q c h at =
      let w = from b fu q c h at in
      ap (λ t. cond t (cond (is_first q (readers ps c))
      (Some (rooted (parted b) (readers ps c))) None)
      (own b q c)) (found_in es (q % k) (Pdo w.0 w.1) w.2)
      ∙ ap (λ (t : Forest). cond (is_first q (readers ps c)) (Some t) None) (forest_last c)
      ∙ sym (ap (λ t. cond (cond t false (is_first q (readers ps c))) (Some (forest_reading cut c))
      None) (outer c (any_at (calls_on c) ps q (Pdo c h) at (same_self c))))

  nodes_last : done_nodes b es ≡ joined_nodes cut
  nodes_last = drawn_alike (part_done b es) (plan_of cut) ps (can_fuse b fu).ok.differ plan_last
      ∙ sym (joined_drawn cut)

  siblings_last : BySiblings b.graph (cut_graph cut)
  siblings_last =
      let i : StepsFrom b [] es = steps_from [] es refl first_done in
      record {
        rewrites = i.rewrites;
        all = i.all;
        order = i.order;
        leads = subst (λ (x : Graph). FusesTo i.rewrites x (cut_graph cut)) (whole_graph b fu)
            (subst (λ l. FusesTo i.rewrites (graph_of (map (whole b) es) outs k)
            (graph_of l outs k)) nodes_last
            (subst (λ l. FusesTo i.rewrites (graph_of l outs k) (done_graph b es)) begun i.leads));
      }

  pub steps_lead : BySiblings b.graph (fused_by (siblings_of (parted b))).graph
  unfolding fused_by
  steps_lead = siblings_last
