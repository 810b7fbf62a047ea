-- To take the lesser number at each kid is to take the least number of each class.
use Rattle.std.proofs.Common.{◌≡◌, ℕ, ◌<◌, ◌≤◌, Bool, true, false, cond, ltb, ◌&&◌, List, [], ◌∷◌, ◌++◌, Some, refl, sym, ap, ◌∙◌, subst, arith}
use Rattle.std.specs.List.{AllByRecursion as Each}
use Rattle.std.proofs.Math.Bool.{and-false}
use Rattle.std.proofs.lemmas.Bool.{eqb-true, false≢true, ltb-false, ltb-true}
use Rattle.exec_graph.specs.Forests.{Label, Forest, Bare, Grow}
use Rattle.exec_graph.specs.Meaning.{IsThere, node_at, place, reads}
use Rattle.exec_graph.specs.Readers.{calls_on, readers}
use Rattle.exec_graph.specs.declared.graph.Place.{Place}
use Rattle.exec_graph.specs.declared.graph.Node.{Node}
use Rattle.exec_graph.specs.declared.graph.Node.TheVariants.{Source, Flatten, Pdo, Gbk, Barrier}
use Rattle.exec_graph.specs.declared.graph.Entry.{Entry}
use Rattle.exec_graph.specs.declared.graph.Blocked.{Blocked}
use Rattle.exec_graph.specs.declared.graph.Graph.{Graph}
use Rattle.exec_graph.proofs.Entries.{all_found, all_map}
use Rattle.exec_graph.proofs.Solving.{each_found}
use Rattle.exec_graph.proofs.Soundness.{differ_ascends}
use Rattle.graph_laws.proofs.Numbering.{label_old}
use Rattle.pardo_fuse.specs.Readers.{Cut, cut_of, is_pdo, is_unmarked}
use Rattle.pardo_fuse.specs.Fusing.{finished_entry, forest_over, fused_by_parents, is_first, joined_by, kept_nodes, kept_of, leads, least_number, least_at, least_of, members_over, moved_to}
use Rattle.pardo_fuse.specs.Parting.{part_place, parted}
use Rattle.pardo_fuse.specs.SingleFusing.{Grown, fused_by, kids_of}
use Rattle.pardo_fuse.specs.Wellformed.{IsFusible}
use Rattle.pardo_fuse.proofs.Hanging.{can_mark}
use Rattle.pardo_fuse.proofs.Levels.{all_grown}
use Rattle.pardo_fuse.proofs.Once.{AllGrown, all_of}
use Rattle.pardo_fuse.proofs.PartedNodes.{can_part}
use Rattle.pardo_fuse.proofs.Partition.{numbers}
use Rattle.pardo_fuse.proofs.Passing.{any_listed}
use Rattle.pardo_fuse.proofs.Rejoining.{joined_is, root_found}
use Rattle.pardo_fuse.proofs.Settling.{leads_first}
use Rattle.pardo_fuse.proofs.SiteKids.{leads_part}
use Rattle.pardo_fuse.proofs.Unparting.{CanPart, other_found}
use Rattle.fuse_chain.specs.Cuts.{siblings_of}
use Rattle.fuse_chain.specs.Numbers.{KidsToLeast, after_kids}
use Rattle.fuse_chain.specs.Rewrites.{ByKids, FusesTo}
use Rattle.fuse_chain.proofs.KidChains.{can_later, cut_graph, kids_inner, kids_last, kids_numbered, later}
use Rattle.fuse_chain.proofs.LeastParts.{class_counts}
use Rattle.fuse_chain.proofs.LeastSteps.{IsNumbering}
use Rattle.fuse_chain.proofs.Premises.{AscendsLow, CanChain, can_chain}
use Rattle.pardo_fuse.proofs.Members.{all_kept, least_same}

both : (t : Bool) (ns : List ℕ) → cond t ns ns ≡ ns
both true ns = refl
both false ns = refl

-- ---- siblings alone: each class is its readers, of which the first is the least
module _ (b : Blocked) (chain : CanChain b) where
  abbrev es : List Entry
  es = b.graph.nodes

  abbrev begun : Cut
  begun = later b []

  no_kids : (n : ℕ) → kids_of begun n ≡ []
  no_kids n = by (readers es (place n 0)) refl
    where
      c : Place
      c = place n 0

      by : (ns : List ℕ) → readers es c ≡ ns → cond (begun.inner c) (readers es c) [] ≡ []
      by [] e = ap (λ (l : List ℕ). cond (begun.inner c) l []) e ∙ both (begun.inner c) []
      by (q ∷ qs) e =
          ap (λ (t : Bool). cond t (readers es c) [])
          (ap (λ (t : Bool). is_unmarked b c && cond t false true)
          (any_listed (calls_on c) es q qs e)
          ∙ and-false (is_unmarked b c))

  flat : (ns : List ℕ) (f : Forest) → Grown begun ns f → numbers f ≡ ns
  flat [] Bare w = refl
  flat [] (Grow l kids rest) w = absurd w
  flat (n ∷ ns) Bare w = absurd w
  flat (n ∷ ns) (Grow l kids rest) w =
      let bare : numbers kids ≡ [] =
      none kids (subst (λ (ms : List ℕ). Grown begun ms kids) (no_kids n) w.1) in
      ap (λ (m : Label). label_old m.out ∷ (numbers kids ++ numbers rest)) w.0
      ∙ ap (λ (ks : List ℕ). n ∷ (ks ++ numbers rest)) bare
      ∙ ap (λ (ks : List ℕ). n ∷ ks) (flat ns rest w.2)
    where
      none : (k : Forest) → Grown begun [] k → numbers k ≡ []
      none Bare v = refl
      none (Grow m others more) v = absurd v

  -- none of those that read one collection is below the first
  behind : (m : ℕ) (c : Place) (ds : List Entry) → m < b.graph.next
      → Each (λ (d : Entry). d.number < b.graph.next → m < d.number) ds
      → Each (λ q. m ≤ q) (readers ds c)
  behind m c [] low a = tt
  behind m c (d ∷ ds) low a = by (calls_on c d.node) (behind m c ds low a.1)
    where
      one : (t : Bool) → ltb d.number b.graph.next ≡ t → m ≤ d.number
      one true i = let less : m < d.number = a.0 (ltb-true d.number b.graph.next i) in omega arith
      one false i = let high : b.graph.next ≤ d.number = ltb-false d.number b.graph.next i in
          omega arith

      by : (t : Bool) → Each (λ q. m ≤ q) (readers ds c)
          → Each (λ q. m ≤ q) (cond t (d.number ∷ readers ds c) (readers ds c))
      by true i = (one (ltb d.number b.graph.next) refl, i)
      by false i = i

  first_low : (m : ℕ) (c : Place) (ds : List Entry) → AscendsLow b.graph.next ds
      → m < b.graph.next → is_first m (readers ds c) ≡ true → Each (λ q. m ≤ q) (readers ds c)
  first_low m c [] u low h = absurd (false≢true h)
  first_low m c (d ∷ ds) u low h = by (calls_on c d.node) h (first_low m c ds u.1 low)
    where
      by : (t : Bool) → is_first m (cond t (d.number ∷ readers ds c) (readers ds c)) ≡ true
          → (is_first m (readers ds c) ≡ true → Each (λ q. m ≤ q) (readers ds c))
          → Each (λ q. m ≤ q) (cond t (d.number ∷ readers ds c) (readers ds c))
      by true i rest =
          let is : m ≡ d.number = eqb-true m d.number i in
          let under : d.number < b.graph.next = omega arith in
          subst (λ (k : ℕ). Each (λ q. k ≤ q) (d.number ∷ readers ds c)) (sym is)
          (omega arith, behind d.number c ds under (u.0 under))
      by false i rest = rest i

  begun_numbering : IsNumbering begun (λ n. n)
  begun_numbering = record {
    least = λ m e f at lead.
        let g : AllGrown begun = all_grown begun (can_later b [] chain.can) in
        let first : is_first m (readers es e) ≡ true = leads_first begun m e lead in
        sym (ap (least_number m) (flat (readers es e) (all_of begun e) (g e))
        ∙ least_same m (readers es e)
        (first_low m e es chain.low (chain.first m e first) first));
    others = λ m h. refl;
    apart = λ m i e. e;
  }

-- ---- what is left stood in the graph
abbrev pub Stood : Cut → ℕ → Type 0
Stood b n = (z : Node) × (node_at b.graph.nodes n ≡ Some z)
    × ((c : Place) (f : Forest) → z ≡ Pdo c f → leads b n c ≡ true)

stood_left : (b : Cut) (n : ℕ) (z : Node) → node_at b.graph.nodes n ≡ Some z
    → Each (λ (h : Entry). Stood b h.number) (kept_of b n z)
stood_left b n (Source r) at = ((Source r, at, λ c f e. let no : ⊥ = cc in absurd no), tt)
stood_left b n (Flatten ins) at = ((Flatten ins, at, λ c f e. let no : ⊥ = cc in absurd no), tt)
stood_left b n (Pdo d h) at = by (leads b n d) refl
  where
    by : (t : Bool) → leads b n d ≡ t → Each (λ (k : Entry). Stood b k.number)
        (cond t (record { number = n; node = Pdo d (forest_over b d) } ∷ []) [])
    by true i = (
      (
        Pdo d h,
        at,
        λ c f e. let same : d ≡ c = cc in ap (leads b n) (sym same) ∙ i,
      ),
      tt,
    )
    by false i = tt
stood_left b n (Gbk d o l k) at = ((Gbk d o l k, at, λ c f e. let no : ⊥ = cc in absurd no), tt)
stood_left b n (Barrier ins o l a) at =
    ((Barrier ins o l a, at, λ c f e. let no : ⊥ = cc in absurd no), tt)

pub stood_by_parents : (a : Blocked) → IsFusible a
    → Each (λ (h : Entry). Stood (cut_of a) h.number) (fused_by_parents a).graph.nodes
unfolding joined_by
stood_by_parents a fu =
    let b : Cut = cut_of a in
    let P : Entry → Type 0 = λ h. Stood b h.number in
    all_map (finished_entry (moved_to (kept_nodes b))) P P (λ h p. p) (kept_nodes b)
    (all_kept b (Stood b) (stood_left b) b.graph.nodes
    (each_found b.graph.nodes (differ_ascends b.graph.nodes fu.ok.ok.founded.ascends)))

-- ---- the numbers at the end
module _ (a : Blocked) (fu : IsFusible a) (l : ℕ → ℕ)
    (num : IsNumbering (cut_of (parted a)) l) where
  abbrev g : Graph
  g = a.graph

  can : CanPart g
  can = can_part a fu

  at_last : (n : ℕ) (z : Node) → node_at g.nodes n ≡ Some z
      → ((c : Place) (f : Forest) → z ≡ Pdo c f → leads (cut_of a) n c ≡ true)
      → l n ≡ least_of (cut_of a) n
  at_last n (Pdo c f) at lead =
      let t : IsThere g.nodes c =
      (all_found (λ e. Each (IsThere g.nodes) (reads e.node)) g.nodes n (Pdo c f) at
      fu.ok.ok.founded.there).0 in
      let leads_here : leads (cut_of a) n c ≡ true = lead c f refl in
      let w = root_found g can n c f at in
      num.least n (part_place g c) w.0 w.1 (leads_part a (can_mark a fu) n c t ∙ leads_here)
      ∙ sym (class_counts a fu c t n)
      ∙ sym (ap (least_at (cut_of a) n) at
      ∙ ap (λ (s : Bool). cond s (least_number n (members_over (cut_of a) c)) n) leads_here)
  at_last n x at lead =
      num.others n (ap is_pdo (other_found g can n x at refl))
      ∙ sym (ap (least_at (cut_of a) n) at)

last_numbers : (a : Blocked) → IsFusible a → (l : ℕ → ℕ) → IsNumbering (cut_of (parted a)) l
    → (n : ℕ) (z : Node) → node_at (fused_by_parents a).graph.nodes n ≡ Some z
    → l n ≡ least_of (cut_of a) n
last_numbers a fu l num n z at =
    let s : Stood (cut_of a) n =
    all_found (λ (h : Entry). Stood (cut_of a) h.number) (fused_by_parents a).graph.nodes n z
    at (stood_by_parents a fu) in
    at_last a fu l num n s.0 s.1 s.2

pub kids_to_least : (a : Blocked) → IsFusible a → KidsToLeast a
unfolding fused_by
kids_to_least a fu =
    let P : Blocked = parted a in
    let chain : CanChain P = can_chain a fu in
    let k : ByKids (cut_graph (siblings_of P)) (cut_graph (cut_of P)) = kids_last P chain in
    record {
      kids = record {
        rewrites = k.rewrites;
        all = k.all;
        order = k.order;
        leads = subst (λ (d : Blocked). FusesTo k.rewrites (cut_graph (siblings_of P)) d.graph)
            (sym (joined_is a fu)) k.leads;
      };
      numbers = last_numbers a fu (after_kids k.rewrites (λ n. n))
          (kids_numbered P chain (λ n. n) (begun_numbering P chain));
      inner = kids_inner P chain;
    }
