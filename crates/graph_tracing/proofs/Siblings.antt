-- A sibling more, and none.
use Rattle.std.proofs.Common.{◌≡◌, ℕ, ◌<◌, true, List, [], ◌∷◌, ◌++◌, Some, map, refl, sym, ap, ◌∙◌, subst, inl, inr, arith}
use Rattle.std.proofs.lemmas.Bool.{false≢true}
use Rattle.std.specs.List.{AllByRecursion as Each}
use Rattle.exec_graph.specs.Forests.{Forest}
use Rattle.exec_graph.specs.Meaning.{IsSound, node_at}
use Rattle.exec_graph.specs.declared.graph.Graph.{Graph}
use Rattle.exec_graph.specs.declared.graph.Node.TheVariants.{Pdo}
use Rattle.exec_graph.specs.declared.graph.Place.{Place}
use Rattle.pass_rewrites.specs.of_fuse_chain.Numbers.{after_kids}
use Rattle.pass_rewrites.specs.of_fuse_chain.Rewrites.{IsSibling, Kid, Sibling, FusesTo, Fusion, is_sibling, other_of}
use Rattle.graph_laws.specs.Kids.{with_sibling}
use Rattle.graph_rewrites.specs.Rewrites.{CanBeSibling, after_sibling, forest_at, input_at, input_of}
use Rattle.graph_rewrites.specs.declared.rewrite.Rewrite.{Rewrite}
use Rattle.graph_rewrites.specs.declared.rewrite.Rewrite.TheVariants as rewrite
use Rattle.pass_rewrites.specs.Passes.{as_rewrite, present_fusions}
use Rattle.sink_laws.specs.Chain.{forest_of}
use Rattle.graph_tracing.specs.Traces.{GoesOn}
use Rattle.graph_tracing.specs.inner.Waiting.{AreApart, GoFrom, IsUnderway, Rise}
use Rattle.graph_tracing.specs.declared.trace.Trace.{Trace}
use Rattle.graph_tracing.proofs.Keepers.{can_pair}
use Rattle.graph_tracing.proofs.Effects.{Calls}
use Rattle.graph_tracing.proofs.Traces.{goes_more}
use Rattle.graph_tracing.proofs.Waiting.{await_rest, calls_kept, not_up_to, one_behind}

pub sibling_goes : (old new : Trace) (p q : ℕ) → p < q → CanBeSibling old.graph p q
    → new.graph ≡ after_sibling old.graph p q
    → new.rewrites ≡ old.rewrites ++ rewrite.Sibling p q ∷ [] → GoesOn 2 old new
sibling_goes old new p q less can at more =
    goes_more 2 old new (after_sibling old.graph p q) (rewrite.Sibling p q) refl (less, can) refl
    at more

sibling_is : (g : Graph) (p q : ℕ) (h : Graph) → IsSibling g p q h → after_sibling g p q ≡ h
sibling_is g p q h m =
    ap (λ (y : Place). with_sibling g p q y (forest_at g p) (forest_at g q))
    (ap input_of m.can.keeper)
    ∙ ap (λ (y : Forest). with_sibling g p q m.source y (forest_at g q))
    (ap forest_of m.can.keeper)
    ∙ ap (λ (y : Forest). with_sibling g p q m.source m.near y) (ap forest_of m.can.other)
    ∙ m.is

-- two that read one collection before do so at the end, where they stay
stay_apart : (rs : List Fusion) (g m : Graph) (a b : ℕ) (c : Place) → FusesTo rs g m
    → IsSound g → AreApart m → Calls g a c → Calls g b c
    → Each (λ r. other_of r ≡ a → ⊥) rs → Each (λ r. other_of r ≡ b → ⊥) rs → a ≡ b
stay_apart rs g m a b c l low apart x y i j =
    let k = calls_kept rs g m l low a b c x y i j in
    apart a b k.0 k.1.0 k.2.0 k.1.1 k.2.1

-- siblings change no number
abbrev as_is : ℕ → ℕ
as_is n = n

module _ (t new : Trace) (m : Graph) (p n : ℕ) (ns : List ℕ) (whole : List Rewrite)
    (total : ℕ → ℕ) (can : CanBeSibling t.graph p n) (less : p < n) (apart : AreApart m) where
  abbrev g : Graph
  g = t.graph

  abbrev c : Place
  c = input_at t.graph p

  calls_p : Calls g p c
  calls_p = (forest_at g p, can.keeper)

  calls_n : Calls g n c
  calls_n = (forest_at g n, can.other)

  -- it would not go otherwise
  must_go : (rs : List Fusion) → FusesTo rs g m → IsSound g
      → Each (λ r. other_of r ≡ p → ⊥) rs → Each (λ r. other_of r ≡ n → ⊥) rs → ⊥
  must_go rs l low i j =
      let same : p ≡ n = stay_apart rs g m p n c l low apart calls_p calls_n i j in omega arith

  -- and it goes to the Pdo that was found
  its_keeper : (k q : ℕ) (rs : List Fusion) (h : Graph) → q ≡ n → IsSibling g k q h
      → FusesTo (Sibling k q ∷ rs) g m → IsSound g
      → Each (λ r. other_of r ≡ p → ⊥) rs → Each (λ r. other_of r ≡ k → ⊥) rs → p ≡ k
  its_keeper k q rs h e s l low i j =
      let both : Some (Pdo s.source s.far) ≡ Some (Pdo c (forest_at g n)) =
      sym s.can.other ∙ ap (node_at g.nodes) e ∙ can.other in
      let same : s.source ≡ c = cc in
      let up : k < q = s.less in
      stay_apart (Sibling k q ∷ rs) g m p k c l low apart calls_p
      (s.near, s.can.keeper ∙ ap (λ (x : Place). Some (Pdo x s.near)) same)
      (λ z. omega arith, i) (λ z. omega arith, j)

  taken_by : (rs : List Fusion) → Each (λ r. is_sibling r ≡ true) rs → FusesTo rs g m
      → GoFrom rs (n ∷ ns) → Rise (n ∷ ns) → IsSound g
      → t.rewrites ++ map as_rewrite (present_fusions as_is rs) ≡ whole
      → ((i : ℕ) → after_kids rs as_is i ≡ total i) → new.graph ≡ after_sibling g p n
      → new.rewrites ≡ t.rewrites ++ rewrite.Sibling p n ∷ []
      → IsUnderway true as_is total new m ns whole
  taken_by [] all l go rise low w z at more = absurd (must_go [] l low tt tt)
  taken_by (r ∷ rs) all l (inr go) rise low w z at more =
      absurd (must_go (r ∷ rs) l low (not_up_to p n (r ∷ rs) ns go rise.0 (inl less))
      (not_up_to n n (r ∷ rs) ns go rise.0 (inr refl)))
  taken_by (Kid k j q ∷ rs) all l (inl go) rise low w z at more = absurd (false≢true all.0)
  taken_by (Sibling k q ∷ rs) all l (inl go) rise low w z at more =
      let s : IsSibling g k q l.0 = l.1 in
      let up : k < q = s.less in
      let of_n : q ≡ n = go.0 in
      let of_p : p ≡ k =
      its_keeper k q rs l.0 of_n s l low (not_up_to p n rs ns go.1 rise.0 (inl less))
      (not_up_to k n rs ns go.1 rise.0 (inl (omega arith))) in
      let next : new.graph ≡ l.0 =
      at ∙ ap (λ (x : ℕ). after_sibling g x n) of_p
      ∙ ap (λ (x : ℕ). after_sibling g k x) (sym of_n) ∙ sibling_is g k q l.0 s in
      record {
        rest = rs;
        await = await_rest true (Sibling k q) rs g l.0 new.graph m ns next s low l.2 all.1 go.1
            rise.1;
        written = ap (λ (xs : List Rewrite). xs ++ map as_rewrite (present_fusions as_is rs)) more
            ∙ one_behind t.rewrites (map as_rewrite (present_fusions as_is rs))
            (rewrite.Sibling p n)
            ∙ ap (λ (x : ℕ). t.rewrites ++ rewrite.Sibling x n ∷
            map as_rewrite (present_fusions as_is rs)) of_p
            ∙ ap (λ (x : ℕ). t.rewrites ++ rewrite.Sibling k x ∷
            map as_rewrite (present_fusions as_is rs)) (sym of_n)
            ∙ w;
        last = z;
      }

  pub sibling_taken : new.graph ≡ after_sibling t.graph p n
      → new.rewrites ≡ t.rewrites ++ rewrite.Sibling p n ∷ []
      → IsUnderway true as_is total t m (n ∷ ns) whole → IsUnderway true as_is total new m ns whole
  sibling_taken at more u =
      taken_by u.rest u.await.all u.await.leads u.await.some u.await.rise u.await.sound u.written
      u.last at more

-- ---- none

left_by : (total : ℕ → ℕ) (t : Trace) (m : Graph) (n : ℕ) (ns : List ℕ) (whole : List Rewrite)
    (rs : List Fusion)
    → Each (λ r. is_sibling r ≡ true) rs → FusesTo rs t.graph m → GoFrom rs (n ∷ ns)
    → Rise (n ∷ ns) → IsSound t.graph
    → t.rewrites ++ map as_rewrite (present_fusions as_is rs) ≡ whole
    → ((i : ℕ) → after_kids rs as_is i ≡ total i)
    → ((p : ℕ) → p < n → CanBeSibling t.graph p n → ⊥) → IsUnderway true as_is total t m ns whole
left_by total t m n ns whole [] all l go rise low w z none = record {
  rest = [];
  await = record { all = all; leads = l; some = tt; rise = rise.1; sound = low };
  written = w;
  last = z;
}
left_by total t m n ns whole (Kid k j q ∷ rs) all l (inl go) rise low w z none =
    absurd (false≢true all.0)
left_by total t m n ns whole (Sibling k q ∷ rs) all l (inl go) rise low w z none =
    let s : IsSibling t.graph k q l.0 = l.1 in
    let less : k < q = s.less in
    let of_n : q ≡ n = go.0 in
    let can : CanBeSibling t.graph k q =
    can_pair t.graph k q s.source (s.near, s.can.keeper) (s.far, s.can.other) s.can.differ in
    absurd (none k (omega arith) (subst (CanBeSibling t.graph k) of_n can))
left_by total t m n ns whole (r ∷ rs) all l (inr go) rise low w z none = record {
  rest = r ∷ rs;
  await = record { all = all; leads = l; some = go; rise = rise.1; sound = low };
  written = w;
  last = z;
}

pub sibling_left : (total : ℕ → ℕ) (t : Trace) (m : Graph) (n : ℕ) (ns : List ℕ)
    (whole : List Rewrite) → ((p : ℕ) → p < n → CanBeSibling t.graph p n → ⊥)
    → IsUnderway true as_is total t m (n ∷ ns) whole
    → IsUnderway true as_is total t m ns whole
sibling_left total t m n ns whole none u =
    left_by total t m n ns whole u.rest u.await.all u.await.leads u.await.some u.await.rise
    u.await.sound u.written u.last none
