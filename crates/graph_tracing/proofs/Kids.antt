-- A kid more, and none.
use Rattle.std.proofs.Common.{◌≡◌, ℕ, ◌<◌, Bool, true, false, cond, eqb, List, [], ◌∷◌, ◌++◌, Some, None, map, refl, sym, ap, ap₂, ◌∙◌, subst, inl, inr, arith}
use Rattle.std.proofs.lemmas.Bool.{eq-eqb, eqb-true, false≢true, ne_eqb}
use Rattle.std.specs.List.{AllByRecursion as Each}
use Rattle.exec_graph.specs.Forests.{Forest}
use Rattle.exec_graph.specs.Meaning.{IsSound, node_at, place}
use Rattle.exec_graph.specs.Wellformed.{IsGraphOk}
use Rattle.exec_graph.specs.declared.graph.Graph.{Graph}
use Rattle.exec_graph.specs.declared.graph.Node.TheVariants.{Pdo}
use Rattle.exec_graph.specs.declared.graph.Place.{Place}
use Rattle.exec_graph.proofs.Soundness.{IsSound-ok, differ_ascends}
use Rattle.pass_rewrites.specs.of_fuse_chain.Numbers.{numbers_after_kid, after_kids, other_of_two}
use Rattle.pass_rewrites.specs.of_fuse_chain.Rewrites.{IsKid, Kid, Sibling, FusesTo, Fusion, is_sibling, other_of}
use Rattle.fusion_blocks.specs.Blocks.{unmarked}
use Rattle.graph_laws.specs.Kids.{with_kid}
use Rattle.graph_laws.proofs.Kids.{kid_formed}
use Rattle.graph_laws.proofs.Wellness.{reads_lower}
use Rattle.graph_rewrites.specs.Rewrites.{CanBeKid, forest_at, input_at, input_of, kid_under}
use Rattle.graph_rewrites.specs.declared.rewrite.Rewrite.{Rewrite}
use Rattle.graph_rewrites.specs.declared.rewrite.Rewrite.TheVariants as rewrite
use Rattle.pardo_fuse.specs.Readers.{is_pdo}
use Rattle.pardo_fuse.specs.Renumbering.{renumbered_graph}
use Rattle.pass_rewrites.specs.Passes.{as_rewrite, present_fusions}
use Rattle.pass_rewrites.proofs.LesserKids.{keeps_after, kid_allowed, kid_renumbered}
use Rattle.sink_laws.specs.Chain.{forest_of}
use Rattle.graph_tracing.specs.Traces.{GoesUnder, IsTrace}
use Rattle.graph_tracing.specs.inner.Numbers.{KeepsAll}
use Rattle.graph_tracing.specs.inner.Waiting.{GoFrom, IsUnderway, Rise}
use Rattle.graph_tracing.specs.declared.trace.Trace.{Trace}
use Rattle.graph_tracing.proofs.Keepers.{can_kid}
use Rattle.graph_tracing.proofs.Effects.{Calls}
use Rattle.graph_tracing.proofs.Traces.{one_more}
use Rattle.graph_tracing.proofs.Waiting.{await_rest, calls_kept, not_up_to, one_behind}

pub kid_ok : (g h : Graph) (p k q : ℕ) → IsGraphOk g → CanBeKid g p k q
    → h ≡ kid_under g p k q → IsGraphOk h
kid_ok g h p k q ok can is =
    subst IsGraphOk (sym is)
    (kid_formed g p k q (input_at g p) (forest_at g p) (forest_at g q) ok can)

-- the kid, as it is told of fusing
kid_of : (g : Graph) (p k q : ℕ) → CanBeKid g p k q → IsKid g p k q (kid_under g p k q)
kid_of g p k q can = record {
  source = input_at g p;
  near = forest_at g p;
  far = forest_at g q;
  can = can;
  is = refl;
}

pub kid_goes : (old new : Trace) (p k q : ℕ) (l m : ℕ → ℕ) → IsGraphOk old.graph → KeepsAll l
    → CanBeKid old.graph p k q → ((n : ℕ) → m n ≡ numbers_after_kid l p q n)
    → new.graph ≡ kid_under old.graph p k q
    → new.rewrites ≡ old.rewrites ++ rewrite.Kid (l p) k (l q) ∷ [] → GoesUnder l m old new
kid_goes old new p k q l m ok keeps can now at more g t =
    let h : Graph = kid_under old.graph p k q in
    let s : IsKid old.graph p k q h = kid_of old.graph p k q can in
    let sound : IsSound old.graph = IsSound-ok old.graph ok in
    subst (λ (xs : List Rewrite). IsTrace 2 g xs (renumbered_graph m new.graph)) (sym more)
    (subst (λ (x : Graph). IsTrace 2 g (old.rewrites ++ rewrite.Kid (l p) k (l q) ∷ [])
    (renumbered_graph m x)) (sym at)
    (subst (λ (f : ℕ → ℕ). IsTrace 2 g (old.rewrites ++ rewrite.Kid (l p) k (l q) ∷ [])
    (renumbered_graph f h)) (λ i. λ n. sym (now n) i)
    (one_more 2 g (renumbered_graph l old.graph) (renumbered_graph (numbers_after_kid l p q) h)
    old.rewrites (rewrite.Kid (l p) k (l q)) t refl
    (kid_allowed old.graph h l keeps sound p k q s)
    (ap unmarked (kid_renumbered old.graph h l keeps sound p k q s)))))

-- the kid is under the number of the Pdo that is read
kid_is : (g : Graph) (p k q : ℕ) (h : Graph) → IsKid g p k q h → kid_under g p k q ≡ h
kid_is g p k q h m =
    ap (λ (y : Place). with_kid g p k q y (forest_at g p) (forest_at g q))
    (ap input_of m.can.keeper)
    ∙ ap (λ (y : Forest). with_kid g p k q m.source y (forest_at g q))
    (ap forest_of m.can.keeper)
    ∙ ap (λ (y : Forest). with_kid g p k q m.source m.near y) (ap forest_of m.can.other)
    ∙ m.is

-- ---- a Pdo that goes is not there at the end

-- and one that stays is
there_after : (rs : List Fusion) (g m : Graph) (n : ℕ) (c : Place) → FusesTo rs g m
    → IsSound g → Calls g n c → Each (λ r. other_of r ≡ n → ⊥) rs
    → node_at m.nodes n ≡ None → ⊥
there_after rs g m n c l low x i gone =
    let k = calls_kept rs g m l low n n c x x i i in
    let both : None ≡ Some (Pdo k.0 k.1.0) = sym gone ∙ k.1.1 in
    let bad : ⊥ = cc in bad

module _ (t new : Trace) (m : Graph) (p k n : ℕ) (ns : List ℕ) (whole : List Rewrite)
    (l o total : ℕ → ℕ) (can : CanBeKid t.graph p k n) (gone : node_at m.nodes n ≡ None)
    (now : (i : ℕ) → o i ≡ numbers_after_kid l p n i) where
  abbrev g : Graph
  g = t.graph

  calls_n : Calls g n (place p k)
  calls_n = (forest_at g n, can.other)

  taken_by : (rs : List Fusion) → Each (λ r. is_sibling r ≡ false) rs → FusesTo rs g m
      → GoFrom rs (n ∷ ns) → Rise (n ∷ ns) → IsSound g
      → t.rewrites ++ map as_rewrite (present_fusions l rs) ≡ whole
      → ((i : ℕ) → after_kids rs l i ≡ total i) → new.graph ≡ kid_under g p k n
      → new.rewrites ≡ t.rewrites ++ rewrite.Kid (l p) k (l n) ∷ []
      → IsUnderway false o total new m ns whole
  taken_by [] all to go rise ok w z at more =
      absurd (there_after [] g m n (place p k) to ok calls_n tt gone)
  taken_by (r ∷ rs) all to (inr go) rise ok w z at more =
      absurd (there_after (r ∷ rs) g m n (place p k) to ok calls_n
      (not_up_to n n (r ∷ rs) ns go rise.0 (inr refl)) gone)
  taken_by (Sibling u q ∷ rs) all to (inl go) rise ok w z at more =
      absurd (false≢true (sym all.0))
  taken_by (Kid u j q ∷ rs) all to (inl go) rise ok w z at more =
      let s : IsKid g u j q to.0 = to.1 in
      let of_n : q ≡ n = go.0 in
      let both : Some (Pdo (place p k) (forest_at g n)) ≡ Some (Pdo (place u j) s.far) =
      sym can.other ∙ ap (node_at g.nodes) (sym of_n) ∙ s.can.other in
      let read : place p k ≡ place u j = cc in
      let of_p : p ≡ u = ap (λ (x : Place). x.node) read in
      let of_k : k ≡ j = ap (λ (x : Place). x.out) read in
      let next : new.graph ≡ to.0 =
      at ∙ ap (λ (x : ℕ). kid_under g x k n) of_p
      ∙ ap (λ (x : ℕ). kid_under g u x n) of_k
      ∙ ap (λ (x : ℕ). kid_under g u j x) (sym of_n) ∙ kid_is g u j q to.0 s in
      let later : ℕ → ℕ = numbers_after_kid l u q in
      let same : later ≡ o =
      ap₂ (λ (x y : ℕ). numbers_after_kid l x y) (sym of_p) of_n ∙ (λ i. λ e. sym (now e) i) in
      let rest : List Rewrite = map as_rewrite (present_fusions later rs) in
      record {
        rest = rs;
        await = await_rest false (Kid u j q) rs g to.0 new.graph m ns next s ok to.2 all.1 go.1
            rise.1;
        written =
            ap (λ (f : ℕ → ℕ). new.rewrites ++ map as_rewrite (present_fusions f rs)) (sym same)
            ∙ ap (λ (xs : List Rewrite). xs ++ rest) more
            ∙ one_behind t.rewrites rest (rewrite.Kid (l p) k (l n))
            ∙ ap (λ (x : ℕ). t.rewrites ++ rewrite.Kid (l x) k (l n) ∷ rest) of_p
            ∙ ap (λ (x : ℕ). t.rewrites ++ rewrite.Kid (l u) x (l n) ∷ rest) of_k
            ∙ ap (λ (x : ℕ). t.rewrites ++ rewrite.Kid (l u) j (l x) ∷ rest) (sym of_n)
            ∙ w;
        last = λ e. ap (λ (f : ℕ → ℕ). after_kids rs f e) (sym same) ∙ z e;
      }

  pub kid_taken : new.graph ≡ kid_under t.graph p k n
      → new.rewrites ≡ t.rewrites ++ rewrite.Kid (l p) k (l n) ∷ []
      → IsUnderway false l total t m (n ∷ ns) whole → IsUnderway false o total new m ns whole
  kid_taken at more u =
      taken_by u.rest u.await.all u.await.leads u.await.some u.await.rise u.await.sound u.written
      u.last at more

-- ---- none

left_by : (l total : ℕ → ℕ) (t : Trace) (m : Graph) (n : ℕ) (ns : List ℕ) (whole : List Rewrite)
    (rs : List Fusion)
    → Each (λ r. is_sibling r ≡ false) rs → FusesTo rs t.graph m
    → GoFrom rs (n ∷ ns) → Rise (n ∷ ns) → IsSound t.graph
    → t.rewrites ++ map as_rewrite (present_fusions l rs) ≡ whole
    → ((i : ℕ) → after_kids rs l i ≡ total i)
    → ((p k : ℕ) → CanBeKid t.graph p k n → ⊥)
    → IsUnderway false l total t m ns whole
left_by l total t m n ns whole [] all to go rise ok w z none = record {
  rest = [];
  await = record { all = all; leads = to; some = tt; rise = rise.1; sound = ok };
  written = w;
  last = z;
}
left_by l total t m n ns whole (Sibling u q ∷ rs) all to (inl go) rise ok w z none =
    absurd (false≢true (sym all.0))
left_by l total t m n ns whole (Kid u j q ∷ rs) all to (inl go) rise ok w z none =
    let s : IsKid t.graph u j q to.0 = to.1 in
    let can : CanBeKid t.graph u j q =
    can_kid t.graph u j q (ap is_pdo s.can.keeper) (s.far, s.can.other) in
    absurd (none u j (subst (CanBeKid t.graph u j) go.0 can))
left_by l total t m n ns whole (r ∷ rs) all to (inr go) rise ok w z none = record {
  rest = r ∷ rs;
  await = record { all = all; leads = to; some = go; rise = rise.1; sound = ok };
  written = w;
  last = z;
}

pub kid_left : (l total : ℕ → ℕ) (t : Trace) (m : Graph) (n : ℕ) (ns : List ℕ)
    (whole : List Rewrite)
    → ((p k : ℕ) → CanBeKid t.graph p k n → ⊥)
    → IsUnderway false l total t m (n ∷ ns) whole → IsUnderway false l total t m ns whole
kid_left l total t m n ns whole none u =
    left_by l total t m n ns whole u.rest u.await.all u.await.leads u.await.some u.await.rise
    u.await.sound u.written u.last none

-- ---- numbers

pub keeps_kid : (g : Graph) (p k q : ℕ) (l m : ℕ → ℕ) → IsGraphOk g → KeepsAll l
    → CanBeKid g p k q → ((n : ℕ) → m n ≡ numbers_after_kid l p q n) → KeepsAll m
keeps_kid g p k q l m ok keeps can now i j e =
    keeps_after g (kid_under g p k q) l keeps (IsSound-ok g ok) p k q (kid_of g p k q can) i j
    (sym (now i) ∙ e ∙ now j)

pub kid_apart : (g : Graph) (p k q : ℕ) → IsGraphOk g → CanBeKid g p k q → p ≡ q → ⊥
kid_apart g p k q ok can e =
    let r : ℕ → ℕ = ok.founded.ranked.0 in
    let low : r p < r q =
    reads_lower g q (place p k) (forest_at g q) r can.other ok.founded.ranked.1 in
    let same : r p ≡ r q = ap r e in
    omega arith
