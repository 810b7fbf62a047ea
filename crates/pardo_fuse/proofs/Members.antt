-- The Pdos that become one: no Pdo becomes one with those of two collections, so the least numbers
-- keep nodes apart, and where readers come later no number changes.
use Rattle.std.proofs.Common.{◌≡◌, ℕ, ◌<◌, ◌≤◌, ◌⊎◌, inl, inr, Bool, true, false, cond, ltb, List, [], ◌∷◌, length, Option, Some, None, refl, sym, ap, ◌∙◌, subst, arith, zero, suc}
use Rattle.std.specs.List.{AllByRecursion as Each, flat_map}
use Rattle.std.proofs.lemmas.Bool.{eqb-true, false≢true, le-ltb, ltb-true}
use Rattle.flume_value.proofs.EachLemmas.{Each-append, Each-weaker}
use Rattle.exec_graph.specs.Forests.{Forest, Bare, Grow}
use Rattle.exec_graph.specs.Meaning.{AllDiffer, node_at, place}
use Rattle.exec_graph.specs.Readers.{calls_on, readers}
use Rattle.exec_graph.specs.Wellformed.{Ascends}
use Rattle.exec_graph.specs.declared.graph.Place.{Place}
use Rattle.exec_graph.specs.declared.graph.Node.{Node}
use Rattle.exec_graph.specs.declared.graph.Node.TheVariants.{Source, Flatten, Pdo, Gbk, Barrier}
use Rattle.exec_graph.specs.declared.graph.Entry.{Entry}
use Rattle.exec_graph.specs.declared.graph.Blocked.{Blocked}
use Rattle.exec_graph.proofs.Entries.{all_found, all_map}
use Rattle.exec_graph.proofs.Solving.{each_found}
use Rattle.pardo_fuse.specs.Readers.{Cut, cut_of, is_inner, is_pdo}
use Rattle.pardo_fuse.specs.Fusing.{finished_entry, fused_by_parents, forest_over, is_first, joined_by, kept_nodes, kept_of, kids_on, leads, least_number, least_at, least_of, lesser_number, members, members_over, moved_to, over_outs, step_in}
use Rattle.pardo_fuse.proofs.Once.{Found}
use Rattle.pardo_fuse.proofs.Reading.{IsReader, all_readers}
use Rattle.pardo_fuse.proofs.OtherNumbers.{AreApart}
use Rattle.pardo_fuse.proofs.Seeing.{leads_outer}
use Rattle.pardo_fuse.proofs.Settling.{first_only, leads_first}

-- ---- the least
picked : (P : ℕ → Type 0) (n q : ℕ) → P n → P q → P (lesser_number n q)
picked P n q p r = by (ltb q n)
  where
    by : (b : Bool) → P (cond b q n)
    by true = r
    by false = p

pub least_in : (P : ℕ → Type 0) (n : ℕ) (qs : List ℕ) → P n → Each P qs → P (least_number n qs)
least_in P n [] p a = p
least_in P n (q ∷ qs) p a = least_in P (lesser_number n q) qs (picked P n q p a.0) a.1

lesser_low : (n q : ℕ) → lesser_number n q ≤ n
lesser_low n q = by (ltb q n) refl
  where
    by : (b : Bool) → ltb q n ≡ b → cond b q n ≤ n
    by true i = let less : q < n = ltb-true q n i in omega arith
    by false i = omega arith

pub least_low : (n : ℕ) (qs : List ℕ) → least_number n qs ≤ n
least_low n [] = omega arith
least_low n (q ∷ qs) =
    let i = least_low (lesser_number n q) qs in let j = lesser_low n q in omega (arith, i, j)

pub least_same : (n : ℕ) (qs : List ℕ) → Each (λ q. n ≤ q) qs → least_number n qs ≡ n
least_same n [] a = refl
least_same n (q ∷ qs) a =
    ap (λ (b : Bool). least_number (cond b q n) qs) (le-ltb q n a.0) ∙ least_same n qs a.1

-- ---- what holds of all members
each_flat : (P Q : ℕ → Type 0) (f : ℕ → List ℕ) → ((n : ℕ) → Q n → Each P (f n)) → (ns : List ℕ)
    → Each Q ns → Each P (flat_map f ns)
each_flat P Q f h [] a = tt
each_flat P Q f h (n ∷ ns) a =
    Each-append P (f n) (flat_map f ns) (h n a.0) (each_flat P Q f h ns a.1)

over_each : (P : ℕ → Type 0) (over : Option ℕ → List ℕ) → ((o : Option ℕ) → Each P (over o))
    → (f : Forest) → Each P (over_outs over f)
over_each P over h Bare = tt
over_each P over h (Grow l kids more) =
    Each-append P (over l.out) (over_outs over more) (h l.out) (over_each P over h more)

-- what holds of those that read c, and of each that reads an output of one of which it holds
module _ (b : Cut) (P : ℕ → Type 0) (found : Found b b.graph.nodes)
    (step : (n : ℕ) (j : ℕ) (q : ℕ) → P n → is_inner b (place n j) ≡ true
    → IsReader b (place n j) q → P q) where
  kids_each : (n : ℕ) → P n → (o : Option ℕ) → Each P (kids_on b n o)
  kids_each n p None = tt
  kids_each n p (Some j) = by (is_inner b (place n j)) refl
    where
      by : (t : Bool) → is_inner b (place n j) ≡ t
          → Each P (cond t (readers b.graph.nodes (place n j)) [])
      by true i =
          Each-weaker (IsReader b (place n j)) P (λ q r. step n j q p i r)
          (readers b.graph.nodes (place n j)) (all_readers b (place n j) b.graph.nodes found)
      by false i = tt

  pub members_each : (k : ℕ) (ns : List ℕ) → Each P ns → Each P (members b k ns)
  unfolding members
  members_each zero ns a = tt
  members_each (suc k) ns a =
      each_flat P P (λ n. n ∷ over_outs (λ o. members b k (kids_on b n o))
      (step_in (node_at b.graph.nodes n)))
      (λ n p. (
        p,
        over_each P (λ o. members b k (kids_on b n o))
            (λ o. members_each k (kids_on b n o) (kids_each n p o))
            (step_in (node_at b.graph.nodes n)),
      )) ns a

-- ---- where a Pdo begins: what is read by it, or by the Pdo that it is fused into, and so on
abbrev pub start_at : Cut → (ℕ → Option Place) → Option Node → Option Place
start_at b up (Some (Pdo c f)) = cond (is_inner b c) (up c.node) (Some c)
start_at b up _ = None

unfoldable pub start : Cut → ℕ → ℕ → Option Place
start b zero n = None
start b (suc k) n = start_at b (start b k) (node_at b.graph.nodes n)

abbrev pub BeginsAt : Cut → Place → ℕ → Type 0
BeginsAt b c n = (k : ℕ) × (start b k n ≡ Some c)

one_start : (b : Cut) (j k n : ℕ) (c d : Place) → start b j n ≡ Some c → start b k n ≡ Some d
    → c ≡ d
unfolding start
one_start b zero k n c d h i = let no : ⊥ = cc in absurd no
one_start b (suc j) zero n c d h i = let no : ⊥ = cc in absurd no
one_start b (suc j) (suc k) n c d h i =
    by (node_at b.graph.nodes n) h i (λ m e f. one_start b j k m c d e f)
  where
    by : (o : Option Node) → start_at b (start b j) o ≡ Some c → start_at b (start b k) o ≡ Some d
        → ((m : ℕ) → start b j m ≡ Some c → start b k m ≡ Some d → c ≡ d) → c ≡ d
    by None h i rest = let no : ⊥ = cc in absurd no
    by (Some (Source r)) h i rest = let no : ⊥ = cc in absurd no
    by (Some (Flatten ins)) h i rest = let no : ⊥ = cc in absurd no
    by (Some (Pdo e f)) h i rest = at (is_inner b e) h i
      where
        at : (t : Bool) → cond t (start b j e.node) (Some e) ≡ Some c
            → cond t (start b k e.node) (Some e) ≡ Some d → c ≡ d
        at true p q = rest e.node p q
        at false p q =
            let first : e ≡ c = cc in let second : e ≡ d = cc in sym first ∙ second
    by (Some (Gbk e o l a)) h i rest = let no : ⊥ = cc in absurd no
    by (Some (Barrier ins o l a)) h i rest = let no : ⊥ = cc in absurd no

begins_pdo : (b : Cut) (c : Place) (n : ℕ) → BeginsAt b c n
    → is_pdo (node_at b.graph.nodes n) ≡ true
unfolding start
begins_pdo b c n (zero, h) = let no : ⊥ = cc in absurd no
begins_pdo b c n (suc k, h) = by (node_at b.graph.nodes n) h
  where
    by : (o : Option Node) → start_at b (start b k) o ≡ Some c → is_pdo o ≡ true
    by (Some (Pdo e f)) h = refl
    by _ h = let no : ⊥ = cc in absurd no

begins_here : (b : Cut) (c : Place) (n : ℕ) (f : Forest)
    → node_at b.graph.nodes n ≡ Some (Pdo c f) → is_inner b c ≡ false → BeginsAt b c n
unfolding start
begins_here b c n f at i = (
  1,
  ap (start_at b (start b 0)) at
      ∙ ap (λ (t : Bool). cond t (start b 0 c.node) (Some c)) i,
)

begins_step : (b : Cut) (c : Place) (n j q : ℕ) → BeginsAt b c n
    → is_inner b (place n j) ≡ true → IsReader b (place n j) q → BeginsAt b c q
unfolding start
begins_step b c n j q (k, h) i (f, at) = (
  suc k,
  ap (start_at b (start b k)) at
      ∙ ap (λ (t : Bool). cond t (start b k n) (Some (place n j))) i ∙ h,
)

-- ---- the Pdos that lead
pub record IsLeading (b : Cut) (n : ℕ) : Type 0 where
  pub source : Place
  pub forest : Forest
  pub at : node_at b.graph.nodes n ≡ Some (Pdo source forest)
  pub leads : leads b n source ≡ true

least_leading : (b : Cut) (n : ℕ) (w : IsLeading b n)
    → least_of b n ≡ least_number n (members_over b w.source)
least_leading b n w =
    ap (least_at b n) w.at
    ∙ ap (λ (t : Bool). cond t (least_number n (members_over b w.source)) n) w.leads

least_begins : (b : Cut) (n : ℕ) → Found b b.graph.nodes → (w : IsLeading b n)
    → BeginsAt b w.source (least_of b n)
least_begins b n found w =
    let outer : is_inner b w.source ≡ false = leads_outer b n w.source w.leads in
    subst (BeginsAt b w.source) (sym (least_leading b n w))
    (least_in (BeginsAt b w.source) n (members_over b w.source)
    (begins_here b w.source n w.forest w.at outer)
    (members_each b (BeginsAt b w.source) found
    (λ m j q p i r. begins_step b w.source m j q p i r) (length b.graph.nodes)
    (readers b.graph.nodes w.source)
    (Each-weaker (IsReader b w.source) (BeginsAt b w.source)
    (λ q (f, at). begins_here b w.source q f at outer) (readers b.graph.nodes w.source)
    (all_readers b w.source b.graph.nodes found))))

least_other : (b : Cut) (n : ℕ) (o : Option Node) → is_pdo o ≡ false → least_at b n o ≡ n
least_other b n (Some (Pdo c f)) h = absurd (false≢true (sym h))
least_other b n _ h = refl

pub low_least : (b : Cut) (n : ℕ) → least_of b n ≤ n
low_least b n = by (node_at b.graph.nodes n)
  where
    by : (o : Option Node) → least_at b n o ≤ n
    by (Some (Pdo c f)) = led (leads b n c)
      where
        led : (t : Bool) → cond t (least_number n (members_over b c)) n ≤ n
        led true = least_low n (members_over b c)
        led false = omega arith
    by _ = omega arith

-- ---- the nodes that are left
abbrev pub IsLeft : Cut → ℕ → Type 0
IsLeft b n = IsLeading b n ⊎ (is_pdo (node_at b.graph.nodes n) ≡ false)

of_left : (b : Cut) (n : ℕ) (z : Node) → node_at b.graph.nodes n ≡ Some z
    → Each (λ (h : Entry). IsLeft b h.number) (kept_of b n z)
of_left b n (Pdo c f) at = by (leads b n c) refl
  where
    by : (t : Bool) → leads b n c ≡ t → Each (λ (h : Entry). IsLeft b h.number)
        (cond t (record { number = n; node = Pdo c (forest_over b c) } ∷ []) [])
    by true i = (inl (record { source = c; forest = f; at = at; leads = i }), tt)
    by false i = tt
of_left b n _ at = (inr (ap is_pdo at), tt)

-- what holds of what is kept of each node holds of all
pub all_kept : (b : Cut) (P : ℕ → Type 0) → ((n : ℕ) (z : Node) → node_at b.graph.nodes n ≡ Some z
    → Each (λ (h : Entry). P h.number) (kept_of b n z)) → (es : List Entry) → Found b es
    → Each (λ (h : Entry). P h.number) (flat_map (λ (e : Entry). kept_of b e.number e.node) es)
all_kept b P one [] a = tt
all_kept b P one (e ∷ es) a =
    Each-append (λ (h : Entry). P h.number) (kept_of b e.number e.node)
    (flat_map (λ (d : Entry). kept_of b d.number d.node) es) (one e.number e.node a.0)
    (all_kept b P one es a.1)

left_by_parents : (a : Blocked) → AllDiffer a.graph.nodes
    → Each (λ h. IsLeft (cut_of a) h.number) (fused_by_parents a).graph.nodes
unfolding joined_by
left_by_parents a d =
    let b : Cut = cut_of a in
    let P : Entry → Type 0 = λ h. IsLeft b h.number in
    all_map (finished_entry (moved_to (kept_nodes b))) P P (λ h p. p) (kept_nodes b)
    (all_kept b (IsLeft b) (of_left b) b.graph.nodes (each_found b.graph.nodes d))

least_apart : (b : Cut) (n m : ℕ) → Found b b.graph.nodes → IsLeft b n → IsLeft b m
    → least_of b n ≡ least_of b m → n ≡ m
least_apart b n m found (inl v) (inl w) e =
    let p = least_begins b n found v in
    let q = least_begins b m found w in
    let same : v.source ≡ w.source =
    one_start b p.0 q.0 (least_of b n) v.source w.source p.1 (ap (start b q.0) e ∙ q.1) in
    first_only n m (readers b.graph.nodes w.source)
    (subst (λ (c : Place). is_first n (readers b.graph.nodes c) ≡ true) same
    (leads_first b n v.source v.leads)) (leads_first b m w.source w.leads)
least_apart b n m found (inl v) (inr j) e =
    let pdo : is_pdo (node_at b.graph.nodes (least_of b n)) ≡ true =
    begins_pdo b v.source (least_of b n) (least_begins b n found v) in
    let is : least_of b n ≡ m = e ∙ least_other b m (node_at b.graph.nodes m) j in
    absurd (false≢true (sym j ∙ ap (λ (k : ℕ). is_pdo (node_at b.graph.nodes k)) (sym is) ∙ pdo))
least_apart b n m found (inr i) (inl w) e =
    let pdo : is_pdo (node_at b.graph.nodes (least_of b m)) ≡ true =
    begins_pdo b w.source (least_of b m) (least_begins b m found w) in
    let is : least_of b m ≡ n = sym e ∙ least_other b n (node_at b.graph.nodes n) i in
    absurd (false≢true (sym i ∙ ap (λ (k : ℕ). is_pdo (node_at b.graph.nodes k)) (sym is) ∙ pdo))
least_apart b n m found (inr i) (inr j) e =
    sym (least_other b n (node_at b.graph.nodes n) i) ∙ e
    ∙ least_other b m (node_at b.graph.nodes m) j

pub apart_least : (a : Blocked) → AllDiffer a.graph.nodes
    → AreApart (least_of (cut_of a)) (fused_by_parents a).graph.nodes
apart_least a d n m y z at bt e =
    let b : Cut = cut_of a in
    let hs : List Entry = (fused_by_parents a).graph.nodes in
    let told = left_by_parents a d in
    least_apart b n m (each_found b.graph.nodes d)
    (all_found (λ (h : Entry). IsLeft b h.number) hs n y at told)
    (all_found (λ (h : Entry). IsLeft b h.number) hs m z bt told) e

-- ---- where each Pdo that is fused into one has the greater number
abbrev pub AreLater : Cut → Type 0
AreLater b = (n q j : ℕ) → is_inner b (place n j) ≡ true → IsReader b (place n j) q → n < q

first_least : (es : List Entry) (c : Place) (n : ℕ) → Ascends es
    → is_first n (readers es c) ≡ true → Each (λ q. n ≤ q) (readers es c)
first_least [] c n u h = absurd (false≢true h)
first_least (e ∷ es) c n u h = by (calls_on c e.node) h (first_least es c n u.1)
  where
    later : (ds : List Entry) → Each (λ d. e.number < d.number) ds
        → Each (λ q. e.number ≤ q) (readers ds c)
    later [] a = tt
    later (d ∷ ds) a = at (calls_on c d.node) (later ds a.1)
      where
        at : (t : Bool) → Each (λ q. e.number ≤ q) (readers ds c)
            → Each (λ q. e.number ≤ q) (cond t (d.number ∷ readers ds c) (readers ds c))
        at true i = (let less : e.number < d.number = a.0 in omega arith, i)
        at false i = i

    by : (t : Bool) → is_first n (cond t (e.number ∷ readers es c) (readers es c)) ≡ true
        → (is_first n (readers es c) ≡ true → Each (λ q. n ≤ q) (readers es c))
        → Each (λ q. n ≤ q) (cond t (e.number ∷ readers es c) (readers es c))
    by true i rest =
        let is : n ≡ e.number = eqb-true n e.number i in
        subst (λ (k : ℕ). Each (λ q. k ≤ q) (e.number ∷ readers es c)) (sym is)
        (omega arith, later es u.0)
    by false i rest = rest i

pub least_stays : (b : Cut) → Ascends b.graph.nodes → AllDiffer b.graph.nodes → AreLater b
    → (n : ℕ) → least_of b n ≡ n
least_stays b u d late n = by (node_at b.graph.nodes n)
  where
    by : (o : Option Node) → least_at b n o ≡ n
    by (Some (Pdo c f)) = led (leads b n c) refl
      where
        led : (t : Bool) → leads b n c ≡ t → cond t (least_number n (members_over b c)) n ≡ n
        led true i =
            least_same n (members_over b c)
            (members_each b (λ q. n ≤ q) (each_found b.graph.nodes d)
            (λ m j q most inner reads. let less : m < q = late m q j inner reads in
            let under : n ≤ m = most in omega arith)
            (length b.graph.nodes) (readers b.graph.nodes c)
            (first_least b.graph.nodes c n u (leads_first b n c i)))
        led false i = refl
    by _ = refl
