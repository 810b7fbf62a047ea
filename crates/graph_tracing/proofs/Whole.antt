-- Siblings, and then kids, are all that fusing is.
use Rattle.std.proofs.Common.{◌≡◌, ℕ, ◌<◌, Bool, true, false, cond, ltb, List, [], ◌∷◌, ◌++◌, Option, Some, None, map, refl, sym, ap, ◌∙◌, subst, arith}
use Rattle.std.proofs.lemmas.Bool.{false≢true, ltb-true}
use Rattle.std.specs.List.{AllByRecursion as Each}
use Rattle.flume_value.proofs.EachLemmas.{Each-append, Each-both}
use Rattle.exec_graph.specs.Meaning.{IsSound, node_at}
use Rattle.exec_graph.specs.Readers.{those}
use Rattle.exec_graph.specs.Wellformed.{IsGraphOk}
use Rattle.exec_graph.specs.declared.graph.Blocked.{Blocked}
use Rattle.exec_graph.specs.declared.graph.Entry.{Entry}
use Rattle.exec_graph.specs.declared.graph.Graph.{Graph}
use Rattle.exec_graph.specs.declared.graph.Node.{Node}
use Rattle.exec_graph.specs.declared.graph.Node.TheVariants.{Source, Flatten, Pdo, Gbk, Barrier}
use Rattle.exec_graph.proofs.Entries.{all_found}
use Rattle.exec_graph.proofs.Solving.{each_found}
use Rattle.exec_graph.proofs.Soundness.{IsSound-ok}
use Rattle.pass_rewrites.specs.of_fuse_chain.Numbers.{KidsToLeast, ReadsInner, numbers_after_kid, after_kids, other_of_two}
use Rattle.pass_rewrites.specs.of_fuse_chain.Rewrites.{ByKids, BySiblings, InOrder, Kid, Sibling, FusesTo, Fusion, is_sibling, other_of}
use Rattle.pass_rewrites.proofs.of_fuse_chain.Keeping.{lead_good}
use Rattle.pass_rewrites.proofs.of_fuse_chain.LeastKids.{Stood, kids_to_least, stood_by_parents}
use Rattle.pass_rewrites.proofs.of_fuse_chain.LeastSteps.{two_twice}
use Rattle.pass_rewrites.proofs.of_fuse_chain.StepSiblings.{steps_lead}
use Rattle.graph_rewrites.specs.declared.rewrite.Rewrite.{Rewrite}
use Rattle.graph_rewrites.specs.declared.rewrite.Rewrite.TheVariants as rewrite
use Rattle.pardo_fuse.specs.Fusing.{fused, fused_by_parents, least_of}
use Rattle.pardo_fuse.specs.Parting.{part_place, parted}
use Rattle.pardo_fuse.specs.Readers.{cut_of, is_unmarked}
use Rattle.pardo_fuse.specs.Renumbering.{renumbered_graph}
use Rattle.pardo_fuse.specs.Wellformed.{IsFusible}
use Rattle.pardo_fuse.proofs.Fused.{IsBlockedOk-parents, same_numbers}
use Rattle.pardo_fuse.proofs.Hanging.{can_mark}
use Rattle.pardo_fuse.proofs.PartedMeaning.{there_node}
use Rattle.pardo_fuse.proofs.PartedNodes.{can_part}
use Rattle.pardo_fuse.proofs.Rejoining.{root_found}
use Rattle.pardo_fuse.proofs.Seeing.{leads_outer}
use Rattle.pardo_fuse.proofs.SiteKids.{unmarked_part}
use Rattle.pardo_fuse.proofs.Unparting.{other_found}
use Rattle.fusion_blocks.specs.Blocks.{unmarked}
use Rattle.pass_rewrites.specs.Passes.{as_rewrite, present_fusions}
use Rattle.pass_rewrites.proofs.LesserKids.{numbers_agree}
use Rattle.graph_tracing.specs.Fusions.{IsFusion}
use Rattle.graph_tracing.specs.Orders.{AreInOrder, Ascend, BehindKid, BehindSibling, had_after, with_formers}
use Rattle.graph_tracing.specs.Traces.{GoesOn, GoesUnder, IsTrace}
use Rattle.graph_tracing.specs.inner.Callers.{goes_in, kid_numbers}
use Rattle.graph_tracing.specs.inner.Waiting.{AreApart, AreGone, IsUnderway}
use Rattle.graph_tracing.specs.declared.trace.Trace.{Trace}
use Rattle.graph_tracing.proofs.Settled.{middle, middle_apart}
use Rattle.graph_tracing.proofs.Traces.{begun}
use Rattle.graph_tracing.proofs.Waiting.{IsHeld, Passes, all_made, go_from, go_passing, made_sound, numbers, others_held, rise_numbers, rise_those, still_held}

-- ---- their order

sibling_first : (n : ℕ) (rs : List Fusion) → Each (λ s. n < other_of s) rs
    → Each (λ s. is_sibling s ≡ true) rs → Each (BehindSibling n) (map as_rewrite rs)
sibling_first n [] up all = tt
sibling_first n (Kid p k q ∷ rs) up all = absurd (false≢true all.0)
sibling_first n (Sibling p q ∷ rs) up all = (up.0, sibling_first n rs up.1 all.1)

-- f tells the numbers before all kids of those by l
abbrev Tells : (ℕ → ℕ) → (ℕ → ℕ) → Type 0
Tells f l = (n : ℕ) → f (l n) ≡ n

tells_after : (f l : ℕ → ℕ) (p q : ℕ) → Tells f l
    → Tells (had_after f (l p) (l q)) (numbers_after_kid l p q)
tells_after f l p q told n = by (ltb (l q) (l p)) refl ∙ told n
  where
    by : (b : Bool) → ltb (l q) (l p) ≡ b
        → f (cond b (other_of_two (l p) (l q) (cond b (other_of_two (l p) (l q) (l n)) (l n)))
        (cond b (other_of_two (l p) (l q) (l n)) (l n)))
        ≡ f (l n)
    by true i =
        ap f (two_twice (l p) (l q) (l n)
        (λ e. let less : l q < l p = ltb-true (l q) (l p) i in omega arith))
    by false i = refl

-- the kids as they are shown: with the numbers before all of them
abbrev shown : (ℕ → ℕ) → (ℕ → ℕ) → List Fusion → List Rewrite
shown f l rs = with_formers f (map as_rewrite (present_fusions l rs))

kids_behind : (n : ℕ) (rs : List Fusion) (f l : ℕ → ℕ) → Each (λ s. is_sibling s ≡ false) rs
    → Each (BehindSibling n) (shown f l rs)
kids_behind n [] f l all = tt
kids_behind n (Kid p k q ∷ rs) f l all =
    (tt, kids_behind n rs (had_after f (l p) (l q)) (numbers_after_kid l p q) all.1)
kids_behind n (Sibling p q ∷ rs) f l all = absurd (false≢true (sym all.0))

kid_first : (n : ℕ) (rs : List Fusion) (f l : ℕ → ℕ) → Tells f l
    → Each (λ s. n < other_of s) rs → Each (λ s. is_sibling s ≡ false) rs
    → Each (BehindKid n) (shown f l rs)
kid_first n [] f l told up all = tt
kid_first n (Kid p k q ∷ rs) f l told up all = (
  subst (λ (x : ℕ). n < x) (sym (told q)) up.0,
  kid_first n rs (had_after f (l p) (l q)) (numbers_after_kid l p q) (tells_after f l p q told) up.1
      all.1,
)
kid_first n (Sibling p q ∷ rs) f l told up all = absurd (false≢true (sym all.0))

kids_order : (rs : List Fusion) (f l : ℕ → ℕ) → Tells f l → InOrder rs
    → Each (λ s. is_sibling s ≡ false) rs → Ascend (shown f l rs)
kids_order [] f l told o all = tt
kids_order (Kid p k q ∷ rs) f l told o all =
    let g : ℕ → ℕ = had_after f (l p) (l q) in
    let m : ℕ → ℕ = numbers_after_kid l p q in
    let later : Tells g m = tells_after f l p q told in (
      subst (λ (x : ℕ). Each (BehindKid x) (shown g m rs)) (sym (told q))
          (kid_first q rs g m later o.0 all.1),
      kids_order rs g m later o.1 all.1,
    )
kids_order (Sibling p q ∷ rs) f l told o all = absurd (false≢true (sym all.0))

-- siblings have the numbers that they had
siblings_shown : (f : ℕ → ℕ) (rs : List Fusion) (ks : List Rewrite)
    → Each (λ s. is_sibling s ≡ true) rs
    → with_formers f (map as_rewrite rs ++ ks) ≡ map as_rewrite rs ++ with_formers f ks
siblings_shown f [] ks all = refl
siblings_shown f (Kid p k q ∷ rs) ks all = absurd (false≢true all.0)
siblings_shown f (Sibling p q ∷ rs) ks all =
    ap (λ (xs : List Rewrite). rewrite.Sibling p q ∷ xs) (siblings_shown f rs ks all.1)

siblings_present : (l : ℕ → ℕ) (rs : List Fusion) → Each (λ s. is_sibling s ≡ true) rs
    → present_fusions l rs ≡ rs
siblings_present l [] all = refl
siblings_present l (Kid p k q ∷ rs) all = absurd (false≢true all.0)
siblings_present l (Sibling p q ∷ rs) all =
    ap (λ (xs : List Fusion). Sibling p q ∷ xs) (siblings_present l rs all.1)

both_order : (rs ks : List Fusion) → InOrder rs → Each (λ s. is_sibling s ≡ true) rs → InOrder ks
    → Each (λ s. is_sibling s ≡ false) ks
    → Ascend (map as_rewrite rs ++ shown (λ n. n) (λ n. n) ks)
both_order [] ks o all i kids = kids_order ks (λ n. n) (λ n. n) (λ n. refl) i kids
both_order (Kid p k q ∷ rs) ks o all i kids = absurd (false≢true all.0)
both_order (Sibling p q ∷ rs) ks o all i kids = (
  Each-append (BehindSibling q) (map as_rewrite rs) (shown (λ n. n) (λ n. n) ks)
      (sibling_first q rs o.0 all.1) (kids_behind q ks (λ n. n) (λ n. n) kids),
  both_order rs ks o.1 all.1 i kids,
)

-- ---- both parts

sound_kept : (rs : List Fusion) (g m : Graph) → FusesTo rs g m → IsSound g → IsSound m
sound_kept [] g m l ok = subst IsSound l ok
sound_kept (r ∷ rs) g m l ok = sound_kept rs l.0 m l.2 (made_sound r g l.0 l.1 ok)

-- what holds of each node that passes
those_each : (t : Node → Bool) (P : ℕ → Type 0) (all es : List Entry)
    → Each (λ e. node_at all e.number ≡ Some e.node) es
    → ((n : ℕ) (x : Node) → node_at all n ≡ Some x → t x ≡ true → P n)
    → Each P (those t es)
those_each t P all [] a h = tt
those_each t P all (e ∷ es) a h = by (t e.node) refl (those_each t P all es a.1 h)
  where
    by : (b : Bool) → t e.node ≡ b → Each P (those t es)
        → Each P (cond b (e.number ∷ those t es) (those t es))
    by true i r = (h e.number e.node a.0 i, r)
    by false i r = r

module _ (b : Blocked) (fu : IsFusible b) where
  abbrev es : List Entry
  es = b.graph.nodes

  abbrev pub last : Graph
  last = (fused_by_parents b).graph

  abbrev pub siblings : BySiblings b.graph (middle b)
  siblings = steps_lead b fu

  abbrev pub least_kids : KidsToLeast b
  least_kids = kids_to_least b fu

  abbrev pub kids : ByKids (middle b) last
  kids = least_kids.kids

  abbrev pub total : ℕ → ℕ
  total = after_kids kids.rewrites (λ n. n)

  abbrev pub first_part : List Rewrite
  first_part = map as_rewrite (present_fusions (λ n. n) siblings.rewrites)

  abbrev pub whole : List Rewrite
  whole = first_part ++ map as_rewrite (present_fusions (λ n. n) kids.rewrites)

  sound : IsSound b.graph
  sound = IsSound-ok b.graph fu.ok.ok

  sound_middle : IsSound (middle b)
  sound_middle = sound_kept siblings.rewrites b.graph (middle b) siblings.leads sound

  siblings_begin : (t : Trace) → t.graph ≡ b.graph → t.rewrites ≡ []
      → IsUnderway true (λ n. n) (after_kids siblings.rewrites (λ n. n)) t (middle b) (numbers es)
      first_part
  siblings_begin t at none = record {
    rest = siblings.rewrites;
    await = record {
      all = siblings.all;
      leads = subst (λ (x : Graph). FusesTo siblings.rewrites x (middle b)) (sym at) siblings.leads;
      some = go_from siblings.rewrites es siblings.order fu.ok.ok.founded.ascends
          (others_held siblings.rewrites b.graph (middle b) siblings.leads sound);
      rise = rise_numbers es fu.ok.ok.founded.ascends;
      sound = subst IsSound (sym at) sound;
    };
    written = ap (λ (xs : List Rewrite). xs ++ first_part) none;
    last = λ n. refl;
  }

  -- ---- the kids

  passes_by : (n : ℕ) (x : Node) → node_at es n ≡ Some x → ReadsInner (parted b) n
      → goes_in b x ≡ true
  passes_by n (Source r) at v =
      let both = sym (other_found b.graph (can_part b fu) n (Source r) at refl) ∙ v.at in
      let no : ⊥ = cc in absurd no
  passes_by n (Flatten ins) at v =
      let both = sym (other_found b.graph (can_part b fu) n (Flatten ins) at refl) ∙ v.at in
      let no : ⊥ = cc in absurd no
  passes_by n (Pdo c f) at v =
      let w = root_found b.graph (can_part b fu) n c f at in
      let both : Some (Pdo (part_place b.graph c) w.0) ≡ Some (Pdo v.source v.forest) =
      sym w.1 ∙ v.at in
      let same : part_place b.graph c ≡ v.source = cc in
      sym (unmarked_part b (can_mark b fu) c (there_node b.graph (can_part b fu) n (Pdo c f) at).0)
      ∙ ap (is_unmarked (parted b)) same ∙ v.inner
  passes_by n (Gbk c o k h) at v =
      let both = sym (other_found b.graph (can_part b fu) n (Gbk c o k h) at refl) ∙ v.at in
      let no : ⊥ = cc in absurd no
  passes_by n (Barrier ins o k h) at v =
      let both = sym (other_found b.graph (can_part b fu) n (Barrier ins o k h) at refl) ∙ v.at in
      let no : ⊥ = cc in absurd no

  all_pass : Each (λ r. Passes (goes_in b) es (other_of r)) kids.rewrites
  all_pass =
      Each-both (λ (r : Fusion). IsHeld (middle b).nodes (other_of r))
      (λ (r : Fusion). ReadsInner (parted b) (other_of r))
      (λ (r : Fusion). Passes (goes_in b) es (other_of r))
      (λ r h v.
      let held : IsHeld es (other_of r) =
      still_held siblings.rewrites b.graph (middle b) siblings.leads sound (other_of r) h in
      record { node = held.0; at = held.1; passes = passes_by (other_of r) held.0 held.1 v })
      kids.rewrites (others_held kids.rewrites (middle b) last kids.leads sound_middle)
      least_kids.inner

  kids_begin : (t : Trace) (l : ℕ → ℕ) → (l ≡ (λ n. n)) → t.graph ≡ middle b
      → t.rewrites ≡ first_part
      → IsUnderway false l total t last (kid_numbers b) whole
  kids_begin t l same at first = record {
    rest = kids.rewrites;
    await = record {
      all = kids.all;
      leads = subst (λ (x : Graph). FusesTo kids.rewrites x last) (sym at) kids.leads;
      some = go_passing (goes_in b) kids.rewrites es kids.order fu.ok.ok.founded.ascends all_pass;
      rise = rise_those (goes_in b) es fu.ok.ok.founded.ascends;
      sound = subst IsSound (sym at) sound_middle;
    };
    written =
        ap (λ (f : ℕ → ℕ). t.rewrites ++ map as_rewrite (present_fusions f kids.rewrites)) same
        ∙ ap (λ (xs : List Rewrite). xs ++ map as_rewrite (present_fusions (λ n. n) kids.rewrites))
        first;
    last = λ n. ap (λ (f : ℕ → ℕ). after_kids kids.rewrites f n) same;
  }

  -- none of those that become kids is there at the end
  gone_by : (n : ℕ) (x : Node) → node_at es n ≡ Some x → goes_in b x ≡ true
      → node_at last.nodes n ≡ None
  gone_by n (Source r) at h = absurd (false≢true h)
  gone_by n (Flatten ins) at h = absurd (false≢true h)
  gone_by n (Pdo c f) at h = by (node_at last.nodes n) refl
    where
      by : (o : Option Node) → node_at last.nodes n ≡ o → o ≡ None
      by None i = refl
      by (Some z) i =
          let s : Stood (cut_of b) n =
          all_found (λ (e : Entry). Stood (cut_of b) e.number) last.nodes n z i
          (stood_by_parents b fu) in
          let both : Some s.0 ≡ Some (Pdo c f) = sym s.1 ∙ at in
          let is : s.0 ≡ Pdo c f = cc in
          absurd (false≢true (sym (leads_outer (cut_of b) n c (s.2 c f is)) ∙ h))
  gone_by n (Gbk c o k i) at h = absurd (false≢true h)
  gone_by n (Barrier ins o k i) at h = absurd (false≢true h)

  pub all_gone : AreGone last (kid_numbers b)
  all_gone =
      those_each (goes_in b) (λ n. node_at last.nodes n ≡ None) es es
      (each_found es sound.differ) gone_by

  -- ---- all of it

  order_whole : AreInOrder whole
  order_whole =
      subst Ascend
      (sym (ap (λ (rs : List Fusion). with_formers (λ n. n)
      (map as_rewrite rs ++ map as_rewrite (present_fusions (λ n. n) kids.rewrites)))
      (siblings_present (λ n. n) siblings.rewrites siblings.all)
      ∙ siblings_shown (λ n. n) siblings.rewrites
      (map as_rewrite (present_fusions (λ n. n) kids.rewrites)) siblings.all))
      (both_order siblings.rewrites kids.rewrites siblings.order siblings.all kids.order kids.all)

  pub fusion_is : (old mid new : Trace) (l m : ℕ → ℕ) → old.graph ≡ b.graph
      → old.rewrites ≡ [] → (l ≡ (λ n. n)) → GoesOn 2 old mid → GoesUnder l m mid new
      → ((h : Graph) (f : ℕ → ℕ) (all : List Rewrite) → AreApart h
      → IsUnderway true (λ n. n) f old h (numbers es) all
      → IsUnderway true (λ n. n) f mid h [] all)
      → ((h : Graph) (f : ℕ → ℕ) (all : List Rewrite) → AreGone h (kid_numbers b)
      → IsUnderway false l f mid h (kid_numbers b) all
      → IsUnderway false m f new h [] all)
      → IsFusion b new.rewrites
  fusion_is old mid new l m at none same f h first second =
      let s = all_made true mid (middle b) first_part (λ n. n)
      (after_kids siblings.rewrites (λ n. n))
      (first (middle b) (after_kids siblings.rewrites (λ n. n)) first_part (middle_apart b fu)
      (siblings_begin old at none)) in
      let k = all_made false new last whole m total
      (second last total whole all_gone (kids_begin mid l same s.0 s.1)) in
      let ok : IsGraphOk (middle b) =
      (lead_good siblings.rewrites b.graph (middle b) fu.ok.ok siblings.leads).formed in
      let mine : renumbered_graph l mid.graph ≡ mid.graph =
      ap (renumbered_graph l) s.0
      ∙ ap (λ (x : Blocked). x.graph)
      (same_numbers (unmarked (middle b)) ok.founded.ascends l
      (λ n. ap (λ (e : ℕ → ℕ). e n) same))
      ∙ sym s.0 in
      let begins : IsTrace 2 b.graph mid.rewrites (renumbered_graph l mid.graph) =
      subst (λ (x : Graph). IsTrace 2 b.graph mid.rewrites x) (sym mine)
      (f b.graph (subst (λ (x : Graph). IsTrace 2 b.graph old.rewrites x) (sym at)
      (begun 2 b.graph old.rewrites none))) in
      let ended : renumbered_graph m new.graph ≡ (fused b).graph =
      ap (renumbered_graph m) k.0
      ∙ numbers_agree last (IsSound-ok last (IsBlockedOk-parents b fu).ok) m
      (least_of (cut_of b)) (λ n z held. k.2 n ∙ least_kids.numbers n z held) in
      record {
        traced = subst (λ (x : Graph). IsTrace 2 b.graph new.rewrites x) ended
            (h b.graph begins);
        order = subst AreInOrder (sym k.1) order_whole;
      }
