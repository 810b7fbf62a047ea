-- A Pdo that reads what one of the first nodes reads becomes a sibling of the first that does, with
-- all outputs of its step.
use Rattle.std.proofs.Common.{◌≡◌, ℕ, ◌%◌, ◌<◌, Bool, true, false, cond, eqb, List, ◌∷◌, ◌++◌, Some, None, refl, sym, ap, ◌∙◌, subst, arith, Option}
use Rattle.std.proofs.lemmas.Bool.{eqb-true, eq-eqb, false≢true, ne_eqb}
use Rattle.std.specs.List.{AllByRecursion as Each}
use Rattle.flume_value.proofs.EachLemmas.{Each-left}
use Rattle.exec_graph.specs.Forests.{Forest}
use Rattle.exec_graph.specs.Meaning.{place, node_at, IsSound}
use Rattle.exec_graph.specs.Readers.{is_read, same_place}
use Rattle.exec_graph.specs.Wellformed.{Ascends}
use Rattle.exec_graph.specs.declared.graph.Place.{Place}
use Rattle.exec_graph.specs.declared.graph.Node.TheVariants.{Pdo}
use Rattle.exec_graph.specs.declared.graph.Entry.{Entry}
use Rattle.exec_graph.specs.declared.graph.Blocked.{Blocked}
use Rattle.graph_laws.specs.Joining.{beside}
use Rattle.graph_laws.specs.Kids.{kept_by}
use Rattle.graph_laws.proofs.Kids.{sibling_sound}
use Rattle.pardo_fuse.specs.Fusing.{is_first}
use Rattle.pardo_fuse.specs.Parting.{parted}
use Rattle.pardo_fuse.specs.Readers.{cut_of}
use Rattle.pardo_fuse.specs.Wellformed.{IsFusible}
use Rattle.pardo_fuse.proofs.Parting.{all_parts, small_mod}
use Rattle.pardo_fuse.proofs.PartedNodes.{can_fuse}
use Rattle.pardo_fuse.proofs.PartedLeft.{first_low}
use Rattle.pardo_fuse.proofs.Places.{same_is}
use Rattle.pardo_fuse.proofs.Reading.{IsReader, all_readers}
use Rattle.pardo_fuse.proofs.Rejoining.{root_found}
use Rattle.pardo_fuse.proofs.Sites.{sites}
use Rattle.pardo_fuse.proofs.Unparting.{low, parts_found}
use Rattle.fuse_chain.specs.Rewrites.{IsSibling, Sibling}
use Rattle.fuse_chain.proofs.Begun.{own_later}
use Rattle.fuse_chain.proofs.SideBySide.{reads_output, rooted}
use Rattle.fuse_chain.proofs.NextStates.{next_state}
use Rattle.fuse_chain.proofs.Partly.{in_last, in_other, rooted_two}
use Rattle.fuse_chain.proofs.Plans.{IsNext, drawn_at, drawn_next}
use Rattle.fuse_chain.proofs.Rewriting.{sibling_join, sibling_step}
use Rattle.fuse_chain.proofs.SiblingSteps.{uses_alike}
use Rattle.fuse_chain.proofs.Splits.{ascends_last, below_last, end, is_in}
use Rattle.fuse_chain.proofs.States.{IsState, fused_in, graph_of, named_graph}
use Rattle.fuse_chain.proofs.Whole.{can, own, scene}
use Rattle.fuse_chain.proofs.Done.{IsDone, StepsFrom, at_q as last_at, below_done, calls, calls_here as last_calls, calls_mod, done_graph, done_nodes, elsewhere, in_each, mod_q as last_mod, out_q as last_out, part_done, parts_two, sites_q as last_sites, steps_done}

-- The plan of a Pdo that a step begins, as the step is done or not.
plan_in : (b : Blocked) (done : List Entry) (m : ℕ) (c : Place) (t : Bool)
    → m % b.graph.next ≡ m → is_in m done ≡ t
    → part_done b done m c ≡ cond t (cond (is_first m (calls b done c))
    (Some (rooted (parted b) (calls b done c))) None) (own b m c)
plan_in b done m c t begins is =
    let steps : Option Forest = cond (is_first m (calls b done c))
    (Some (rooted (parted b) (calls b done c))) None in
    ap (λ x. cond (is_in x done) steps (own b m c)) begins ∙ ap (λ x. cond x steps (own b m c)) is

module _ (b : Blocked) (fu : IsFusible b) where
  open (scene b) use {g, k, es, r, ps, outs}

  module _ (done rest : List Entry) (e : Entry) (d : Place) (f : Forest)
      (split : b.graph.nodes ≡ done ++ (e ∷ rest)) (is : e.node ≡ Pdo d f) where
    abbrev q : ℕ
    q = e.number

    at_q : node_at es q ≡ Some (Pdo d f)
    at_q = last_at b fu done rest e d f split is

    mod_q : q % k ≡ q
    mod_q = last_mod b fu done rest e d f split is

    out_q : is_in q done ≡ false
    out_q = last_out b fu done rest e d f split is

    calls_here : calls b (end done e) (r d) ≡ calls b done (r d) ++ sites g q
    calls_here = last_calls b fu done rest e d f split is

    -- p is the first that reads the same.
    module _ (p : ℕ) (more : List ℕ) (some : calls b done (r d) ≡ p ∷ more)
        (at : IsDone b done) where
      abbrev hs : List Entry
      hs = done_nodes b done

      abbrev first_steps : Forest
      first_steps = rooted (parted b) (p ∷ more)

      abbrev last_step : Forest
      last_step = rooted (parted b) (sites g q)

      abbrev keep : ℕ → Bool
      keep = reads_output (parted b)

      low_p : p < k
      low_p = first_low k p (r d) r done (below_done b fu done (e ∷ rest) split)
          (steps_done b fu done (e ∷ rest) split)
          (ap (is_first p) some ∙ eq-eqb p p refl)

      mod_p : p % k ≡ p
      mod_p = small_mod k p low_p

      near : IsReader (cut_of (parted b)) (r d) p
      near = (subst (Each (IsReader (cut_of (parted b)) (r d))) some
          (all_readers (cut_of (parted b)) (r d) (all_parts k r done)
          (Each-left (λ (h : Entry). node_at ps h.number ≡ Some h.node) (all_parts k r done)
          (all_parts k r (e ∷ rest))
          (subst (Each (λ (h : Entry). node_at ps h.number ≡ Some h.node))
          (ap (all_parts k r) split
          ∙ parts_two k r done (e ∷ rest)) (parts_found g (can b fu)))))).0

      p_in : is_in p done ≡ true
      p_in = ap (λ x. is_in x done) (sym mod_p)
          ∙ (subst (Each (λ m. is_in (m % k) done ≡ true)) some
          (calls_mod (λ n. is_in n done ≡ true) k r (r d) done
          (below_done b fu done (e ∷ rest) split)
          (in_each done))).0

      p_less : p < q
      p_less = subst (λ (x : ℕ). x < q) mod_p
          (subst (Each (λ m. m % k < q)) some
          (calls_mod (λ n. n < q) k r (r d) done (below_done b fu done (e ∷ rest) split)
          (below_last done e rest (subst Ascends split fu.ok.ok.founded.ascends)))).0

      differ : p ≡ q → ⊥
      differ i = let l = p_less in omega (arith, i)

      new : calls b (end done e) (r d) ≡ (p ∷ more) ++ sites g q
      new = calls_here ∙ ap (λ (l : List ℕ). l ++ sites g q) some

      plan_p : part_done b done p (r d) ≡ Some first_steps
      plan_p =
          plan_in b done p (r d) true mod_p p_in
          ∙ ap (λ l. cond (is_first p l) (Some (rooted (parted b) l)) None) some
          ∙ ap (λ x. cond x (Some first_steps) None) (eq-eqb p p refl)

      own_q : own b q (r d) ≡ Some last_step
      own_q =
          ap (λ x. cond (is_first q (sites g x)) (Some (rooted (parted b) (sites g x))) None) mod_q
          ∙ ap (λ l. cond (is_first q l) (Some last_step) None)
          (last_sites b fu done rest e d f split is)
          ∙ ap (λ x. cond x (Some last_step) None) (eq-eqb q q refl)

      plan_q : part_done b done q (r d) ≡ Some last_step
      plan_q = plan_in b done q (r d) false mod_q out_q ∙ own_q

      next_p : part_done b (end done e) p (r d) ≡ Some (rooted (parted b) ((p ∷ more) ++ sites g q))
      next_p =
          plan_in b (end done e) p (r d) true mod_p (in_other p done e differ ∙ p_in)
          ∙ ap (λ l. cond (is_first p l) (Some (rooted (parted b) l)) None) new
          ∙ ap (λ x. cond x (Some (rooted (parted b) ((p ∷ more) ++ sites g q))) None)
          (eq-eqb p p refl)

      next_other : (m : ℕ) → m % k ≡ q → (m ≡ p → ⊥) → part_done b (end done e) m (r d) ≡ None
      next_other m of_q apart =
          ap (λ x. cond (is_in x (end done e)) (cond (is_first m (calls b (end done e) (r d)))
          (Some (rooted (parted b) (calls b (end done e) (r d)))) None) (own b m (r d))) of_q
          ∙ ap (λ x. cond x (cond (is_first m (calls b (end done e) (r d)))
          (Some (rooted (parted b) (calls b (end done e) (r d)))) None) (own b m (r d)))
          (in_last done e)
          ∙ ap (λ l. cond (is_first m l) (Some (rooted (parted b) l)) None) new
          ∙ ap (λ x. cond x (Some (rooted (parted b) ((p ∷ more) ++ sites g q))) None)
          (ne_eqb m p apart)

      next_q : part_done b (end done e) q (r d) ≡ None
      next_q = next_other q mod_q (λ i. differ (sym i))

      others : (m : ℕ) (c : Place) (h : Forest) → node_at ps m ≡ Some (Pdo c h) → (m ≡ p → ⊥)
          → (m ≡ q → ⊥) → part_done b (end done e) m c ≡ part_done b done m c
      others m c h found_m not_p not_q = by (same_place c (r d)) (eqb (m % k) q) refl refl
        where
          by : (s t : Bool) → same_place c (r d) ≡ s → eqb (m % k) q ≡ t
              → part_done b (end done e) m c ≡ part_done b done m c
          by false t i j = elsewhere b fu done rest e d f split is m c h found_m i
          by true true i j =
              let of_q : m % k ≡ q = eqb-true (m % k) q j in
              let same : c ≡ r d = same_is c (r d) i in
              ap (part_done b (end done e) m) same ∙ next_other m of_q not_p
              ∙ sym (ap (λ x. cond (is_in x done) (cond (is_first m (calls b done c))
              (Some (rooted (parted b) (calls b done c))) None) (own b m c)) of_q
              ∙ ap (λ x. cond x (cond (is_first m (calls b done c))
              (Some (rooted (parted b) (calls b done c))) None) (own b m c)) out_q
              ∙ own_later b fu q m d f at_q of_q not_q c)
          by true false i j =
              let same : c ≡ r d = same_is c (r d) i in
              ap (λ x. cond x (cond (is_first m (calls b (end done e) c))
              (Some (rooted (parted b) (calls b (end done e) c))) None) (own b m c))
              (in_other (m % k) done e (λ z. false≢true (sym j ∙ eq-eqb (m % k) q z)))
              ∙ ap (λ l. cond (is_in (m % k) done)
              (cond (is_first m l) (Some (rooted (parted b) l)) None)
              (own b m c)) (ap (calls b (end done e)) same ∙ new)
              ∙ ap (λ x. cond (is_in (m % k) done)
              (cond x (Some (rooted (parted b) ((p ∷ more) ++ sites g q))) None) (own b m c))
              (ne_eqb m p not_p)
              ∙ sym (ap (λ l. cond (is_in (m % k) done)
              (cond (is_first m l) (Some (rooted (parted b) l)) None)
              (own b m c)) (ap (calls b done) same ∙ some)
              ∙ ap (λ x. cond (is_in (m % k) done) (cond x (Some first_steps) None) (own b m c))
              (ne_eqb m p not_p))

      here_q : (h : Forest) × (node_at ps q ≡ Some (Pdo (r d) h))
      here_q = root_found g (can b fu) q d f at_q

      next : IsNext ps (part_done b done) (part_done b (end done e)) p q (r d) (r d)
          (rooted (parted b) ((p ∷ more) ++ sites g q))
      next = record {
        near = near.0;
        far = here_q.0;
        keeper = near.1;
        other = here_q.1;
        differ = differ;
        was = (first_steps, plan_p);
        now = next_p;
        gone = next_q;
        others = others;
      }

      abbrev grew : Forest
      grew = kept_by keep (beside first_steps last_step)

      next_nodes : fused_in hs p q (r d) grew ≡ done_nodes b (end done e)
      next_nodes =
          ap (fused_in hs p q (r d)) (rooted_two (parted b) (p ∷ more) (sites g q))
          ∙ drawn_next ps (part_done b done) (part_done b (end done e)) p q (r d) (r d)
          (rooted (parted b) ((p ∷ more) ++ sites g q)) next
          (can_fuse b fu).ok.differ at.state.differ

      found_p : node_at hs p ≡ Some (Pdo (r d) first_steps)
      found_p = drawn_at (part_done b done) ps p (r d) near.0 first_steps near.1 plan_p

      found_q : node_at hs q ≡ Some (Pdo (r d) last_step)
      found_q = drawn_at (part_done b done) ps q (r d) here_q.0 last_step here_q.1 plan_q

      reads_new : (v : Place) → is_read (named_graph (fused_in hs p q (r d) grew) outs) v
          ≡ is_read (parted b).graph v
      reads_new v = uses_alike hs outs p q (r d) first_steps last_step grew v found_p found_q differ
          ∙ at.reads v

      step : IsSibling (done_graph b done) p q (graph_of (fused_in hs p q (r d) grew) outs k)
      step = sibling_step hs outs k p q (r d) first_steps last_step keep at.state at.sound
          found_p found_q p_less (λ i x. sym (reads_new (place i 0)))

      next_done : IsDone b (end done e)
      next_done = record {
        state = subst (λ l. IsState l outs) next_nodes
            (next_state hs outs p q (r d) (r d) first_steps last_step
            (beside first_steps last_step) keep
            at.state (sibling_join hs outs p q (r d) first_steps last_step at.state found_p found_q
            differ) (λ i x t. sym (reads_new (place i 0)) ∙ t));
        sound = subst (λ l. IsSound (graph_of l outs k)) next_nodes
            (subst IsSound step.is (sibling_sound (done_graph b done) p q step.source step.near
            step.far at.sound step.can).sound);
        reads = λ v. ap (λ l. is_read (named_graph l outs) v) (sym next_nodes) ∙ reads_new v;
      }

      pub one_more : (IsDone b (end done e) → StepsFrom b (end done e) rest)
          → StepsFrom b done (e ∷ rest)
      one_more h =
          let i : StepsFrom b (end done e) rest = h next_done in
          let order : Ascends (e ∷ rest) = ascends_last done (e ∷ rest)
          (subst Ascends split fu.ok.ok.founded.ascends) in
          record {
            rewrites = Sibling p q ∷ i.rewrites;
            all = (refl, i.all);
            order = (i.above q order.0, i.order);
            leads = (
              done_graph b (end done e),
              subst (λ l. IsSibling (done_graph b done) p q (graph_of l outs k)) next_nodes step,
              i.leads,
            );
            above = λ low a. (a.0, i.above low a.1);
          }
