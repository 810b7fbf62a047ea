-- Levels are the greatest numbers of Gbks on paths.
use Rattle.std.proofs.Common.{◌≡◌, ℕ, ◌+◌, ◌<◌, ◌≤◌, max, true, List, [], ◌∷◌, map, Some, ◌⊎◌, inl, inr, zero, suc, refl, sym, ap, ◌∙◌, subst, arith}
use Rattle.std.proofs.lemmas.Bool.{false≢true}
use Rattle.std.specs.List.{AllByRecursion}
use Rattle.exec_graph.specs.Meaning.{node_at, reads, IsRankedBy, IsThere}
use Rattle.exec_graph.specs.Readers.{among, same_place}
use Rattle.exec_graph.specs.Wellformed.{has_objects, IsGraphOk, IsNodeOk}
use Rattle.exec_graph.specs.Objects.{takes_such}
use Rattle.exec_graph.specs.declared.graph.Act.{Act}
use Rattle.exec_graph.specs.declared.graph.Act.TheVariants.{SideInput, Operate, Singleton}
use Rattle.exec_graph.specs.declared.graph.Place.{Place}
use Rattle.exec_graph.specs.declared.graph.Node.{Node}
use Rattle.exec_graph.specs.declared.graph.Node.TheVariants.{Source, Flatten, Pdo, Gbk, Barrier}
use Rattle.exec_graph.specs.declared.graph.Entry.{Entry}
use Rattle.exec_graph.specs.declared.graph.Graph.{Graph}
use Rattle.exec_graph.proofs.Bools.{or_else, or_left, or_right}
use Rattle.exec_graph.proofs.Entries.{all_found}
use Rattle.exec_graph.proofs.Solving.{ranked_at, there_found}
use Rattle.exec_graph.proofs.Bools.{within_or}
use Rattle.fusion_blocks.specs.inner.Tables.{AllThere}
use Rattle.fusion_blocks.proofs.Marking.{is_same, same_is}
use Rattle.plan_roles.specs.Levels.{HasLevels, IsPath, begins, goes, greatest_number, level, level_by, one_gbk}
use Rattle.plan_roles.proofs.Leveling.{level_found}
use Rattle.fusion_blocks.proofs.Blocking.{among_all}

among_below : (f : ℕ → ℕ) (c : Place) (cs : List Place) → among c cs ≡ true
    → f c.node ≤ greatest_number (map (λ (d : Place). f d.node) cs)
among_below f c [] h = absurd (false≢true h)
among_below f c (d ∷ cs) h =
    or_else (f c.node ≤ max (f d.node) (greatest_number (map (λ (d : Place). f d.node) cs)))
    (same_place c d) (among c cs) h
    (λ q. let e : f c.node ≡ f d.node = ap (λ (x : Place). f x.node) (same_is c d q) in omega arith)
    (λ q. let i = among_below f c cs q in omega arith)

-- no path has more Gbks
path_most : (es : List Entry) (r : ℕ → ℕ) → AllThere es → IsRankedBy r es → (n gbks : ℕ)
    → IsPath es n gbks → gbks ≤ level es n
path_most es r t ra n gbks (begins h) = omega arith
path_most es r t ra n gbks (goes {gbks = k} {x = x} c h i p) =
    let more = path_most es r t ra c.node k p in
    let most = among_below (level es) c (reads x) i in
    let e = level_found es r t ra n x h in omega arith

-- ---- some path has as many

-- a collection of the greatest
record IsGreatest (f : ℕ → ℕ) (cs : List Place) : Type 0 where
  pub place : Place
  pub is : among place cs ≡ true
  pub most : f place.node ≡ greatest_number (map (λ (d : Place). f d.node) cs)

first_greatest : (f : ℕ → ℕ) (c : Place) (cs : List Place)
    → greatest_number (map (λ (d : Place). f d.node) cs) ≤ f c.node → IsGreatest f (c ∷ cs)
first_greatest f c cs h = record {
  place = c;
  is = or_left (same_place c c) (among c cs) (is_same c c refl);
  most = omega arith;
}

later_greatest : (f : ℕ → ℕ) (c : Place) (cs : List Place) → IsGreatest f cs
    → f c.node ≤ greatest_number (map (λ (d : Place). f d.node) cs) → IsGreatest f (c ∷ cs)
later_greatest f c cs g h = let e = g.most in record {
  place = g.place;
  is = or_right (same_place g.place c) (among g.place cs) g.is;
  most = omega arith;
}

has_greatest : (f : ℕ → ℕ) (c : Place) (cs : List Place) → IsGreatest f (c ∷ cs)
has_greatest f c [] = first_greatest f c [] (omega arith)
has_greatest f c (d ∷ cs) =
    by (within_or (greatest_number (map (λ (e : Place). f e.node) (d ∷ cs))) (f c.node))
    (has_greatest f d cs)
  where
    by : (greatest_number (map (λ (e : Place). f e.node) (d ∷ cs)) < f c.node)
        ⊎ (f c.node ≤ greatest_number (map (λ (e : Place). f e.node) (d ∷ cs)))
        → IsGreatest f (d ∷ cs) → IsGreatest f (c ∷ d ∷ cs)
    by (inl h) g = first_greatest f c (d ∷ cs) (omega arith)
    by (inr h) g = later_greatest f c (d ∷ cs) g h

-- on from a collection of the greatest level
path_on : (es : List Entry) (n : ℕ) (x : Node) → node_at es n ≡ Some x
    → level es n ≡ level_by (level es) x → (g : IsGreatest (level es) (reads x))
    → IsPath es g.place.node (level es g.place.node) → IsPath es n (level es n)
path_on es n x h e g p = subst (IsPath es n) (ap (λ (k : ℕ). one_gbk x + k) g.most ∙ sym e)
    (goes g.place h g.is p)

-- there are paths to nodes of lower rank
abbrev HasPaths : Graph → (ℕ → ℕ) → ℕ → Type 0
HasPaths g r k = (n : ℕ) (x : Node) → r n < k → node_at g.nodes n ≡ Some x
    → IsPath g.nodes n (level g.nodes n)

-- a path through a collection of the greatest level
path_by : (g : Graph) (r : ℕ → ℕ) → IsGraphOk g → IsRankedBy r g.nodes → (k n : ℕ)
    → r n < suc k → HasPaths g r k → (x : Node) → node_at g.nodes n ≡ Some x
    → IsGreatest (level g.nodes) (reads x) → IsPath g.nodes n (level g.nodes n)
path_by g r ok ra k n l p x h m =
    let there : IsThere g.nodes m.place =
    among_all (IsThere g.nodes) m.place (reads x) m.is
    (all_found (λ e. AllByRecursion (IsThere g.nodes) (reads e.node)) g.nodes n x h
    ok.founded.there) in
    let lower : r m.place.node < r n =
    among_all (λ (d : Place). r d.node < r n) m.place (reads x) m.is
    (ranked_at r g.nodes n x ra h) in
    let found = there_found g.nodes m.place there in
    path_on g.nodes n x h (level_found g.nodes r ok.founded.there ra n x h) m
    (p m.place.node found.0 (omega arith) found.1)

-- nothing is made of no collections
nothing_taken : (a : Act) → takes_such a [] ≡ true → ⊥
nothing_taken (SideInput f) h = false≢true h
nothing_taken (Operate f) h = false≢true h
nothing_taken (Singleton k) h = false≢true h

path_of : (g : Graph) (r : ℕ → ℕ) → IsGraphOk g → IsRankedBy r g.nodes → (k n : ℕ)
    → r n < suc k → HasPaths g r k → (x : Node) → node_at g.nodes n ≡ Some x → IsNodeOk g n x
    → IsPath g.nodes n (level g.nodes n)
path_of g r ok ra k n l p (Source s) h w =
    let e : level g.nodes n ≡ 0 = level_found g.nodes r ok.founded.there ra n (Source s) h in
    subst (IsPath g.nodes n) (sym e) (begins h)
path_of g r ok ra k n l p (Flatten []) h w = let some : 0 < 0 = w.0 in absurd (omega arith)
path_of g r ok ra k n l p (Flatten (c ∷ cs)) h w =
    path_by g r ok ra k n l p (Flatten (c ∷ cs)) h (has_greatest (level g.nodes) c cs)
path_of g r ok ra k n l p (Pdo c f) h w =
    path_by g r ok ra k n l p (Pdo c f) h (has_greatest (level g.nodes) c [])
path_of g r ok ra k n l p (Gbk c o m q) h w =
    path_by g r ok ra k n l p (Gbk c o m q) h (has_greatest (level g.nodes) c [])
path_of g r ok ra k n l p (Barrier [] x y d) h w =
    absurd (nothing_taken d (all_found (λ e. has_objects g.nodes e.node ≡ true) g.nodes n
    (Barrier [] x y d) h ok.objects))
path_of g r ok ra k n l p (Barrier (c ∷ cs) x y d) h w =
    path_by g r ok ra k n l p (Barrier (c ∷ cs) x y d) h (has_greatest (level g.nodes) c cs)

path_through : (g : Graph) (r : ℕ → ℕ) → IsGraphOk g → IsRankedBy r g.nodes → (k : ℕ)
    → HasPaths g r k
path_through g r ok ra zero n x l h = absurd (omega arith)
path_through g r ok ra (suc k) n x l h =
    path_of g r ok ra k n l (path_through g r ok ra k) x h
    (all_found (λ e. IsNodeOk g e.number e.node) g.nodes n x h ok.nodes)

pub levels_are : (g : Graph) → IsGraphOk g → HasLevels g
levels_are g ok n x h =
    let r = ok.founded.ranked.0 in
    let ra = ok.founded.ranked.1 in (
      level_found g.nodes r ok.founded.there ra n x h,
      record {
        path = path_through g r ok ra (suc (r n)) n x (omega arith) h;
        most = path_most g.nodes r ok.founded.there ra n;
      },
    )
