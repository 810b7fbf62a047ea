-- Levels by those of the nodes that a node reads.
use Rattle.std.proofs.Common.{◌≡◌, ℕ, ◌+◌, ◌<◌, ◌≤◌, List, [], ◌∷◌, map, length, Option, Some, None, zero, suc, refl, sym, ap, ◌∙◌, arith}
use Rattle.std.specs.List.{AllByRecursion}
use Rattle.flume_value.proofs.EachLemmas.{Each-weaker}
use Rattle.exec_graph.specs.Meaning.{node_at, reads, IsRankedBy}
use Rattle.exec_graph.specs.declared.graph.Act.TheVariants.{SideInput, Operate, Singleton}
use Rattle.exec_graph.specs.declared.graph.Place.{Place}
use Rattle.exec_graph.specs.declared.graph.Node.{Node}
use Rattle.exec_graph.specs.declared.graph.Node.TheVariants.{Source, Flatten, Pdo, Gbk, Barrier}
use Rattle.exec_graph.specs.declared.graph.Entry.{Entry}
use Rattle.exec_graph.proofs.Entries.{map_alike}
use Rattle.exec_graph.proofs.Solving.{lower_most, place_of, ranked_at, short_ranked}
use Rattle.fusion_blocks.specs.inner.Tables.{AllThere, IsBelow}
use Rattle.plan_roles.specs.Levels.{greatest_number, level, level_at, level_by, level_within, one_gbk}

level_next : (es : List Entry) (k n : ℕ)
    → level_within es (suc k) n ≡ level_at (level_within es k) (node_at es n)
unfolding level_within
level_next es k n = refl

level_first : (es : List Entry) (n : ℕ) → level_within es zero n ≡ 0
unfolding level_within
level_first es n = refl

pub level_is : (es : List Entry) (n : ℕ) → level es n ≡ level_within es (suc (length es)) n
unfolding level
level_is es n = refl

by_alike : (l m : ℕ → ℕ) (x : Node) → AllByRecursion (λ (c : Place). m c.node ≡ l c.node) (reads x)
    → level_by m x ≡ level_by l x
by_alike l m x a = ap (λ (ns : List ℕ). one_gbk x + greatest_number ns)
    (map_alike (λ (c : Place). l c.node) (λ (c : Place). m c.node) (reads x) a)

at_alike : (l m : ℕ → ℕ) (o : Option Node) → ((x : Node) → o ≡ Some x
    → AllByRecursion (λ (c : Place). m c.node ≡ l c.node) (reads x)) → level_at m o ≡ level_at l o
at_alike l m None f = refl
at_alike l m (Some x) f = by_alike l m x (f x refl)

-- more turns than the node's rank change nothing
stable : (r : ℕ → ℕ) (es : List Entry) → IsRankedBy r es → (k j n : ℕ) → r n < k → r n < j
    → level_within es k n ≡ level_within es j n
stable r es ra zero j n p q = absurd (omega arith)
stable r es ra (suc k) zero n p q = absurd (omega arith)
stable r es ra (suc k) (suc j) n p q =
    level_next es k n
    ∙ at_alike (level_within es j) (level_within es k) (node_at es n)
    (λ x h. Each-weaker (λ (d : Place). r d.node < r n)
    (λ (d : Place). level_within es k d.node ≡ level_within es j d.node)
    (λ d i. stable r es ra k j d.node (omega arith) (omega arith)) (reads x)
    (ranked_at r es n x ra h))
    ∙ sym (level_next es j n)

-- the level of a node is what it is by those of the nodes that it reads
pub level_found : (es : List Entry) (r : ℕ → ℕ) → AllThere es → IsRankedBy r es → (n : ℕ) (x : Node)
    → node_at es n ≡ Some x → level es n ≡ level_by (level es) x
level_found es r0 t ra0 n x h =
    let r : ℕ → ℕ = place_of r0 es in
    let ra : IsRankedBy r es = short_ranked r0 es es t ra0 in
    let top : r n ≤ length es = lower_most r0 es (r0 n) in
    level_is es n ∙ level_next es (length es) n ∙ ap (level_at (level_within es (length es))) h
    ∙ by_alike (level es) (level_within es (length es)) x
    (Each-weaker (λ (d : Place). r d.node < r n)
    (λ (d : Place). level_within es (length es) d.node ≡ level es d.node)
    (λ d i. stable r es ra (length es) (suc (length es)) d.node (omega arith) (omega arith)
    ∙ sym (level_is es d.node)) (reads x) (ranked_at r es n x ra h))

pub level_none : (es : List Entry) (n : ℕ) → node_at es n ≡ None → level es n ≡ 0
level_none es n h =
    level_is es n ∙ level_next es (length es) n ∙ ap (level_at (level_within es (length es))) h

-- ---- how great they are

greatest_most : (f : ℕ → ℕ) (b : ℕ) (cs : List Place)
    → AllByRecursion (λ (c : Place). f c.node ≤ b) cs
    → greatest_number (map (λ (c : Place). f c.node) cs) ≤ b
greatest_most f b [] a = omega arith
greatest_most f b (c ∷ cs) a =
    let i = greatest_most f b cs a.1 in let h : f c.node ≤ b = a.0 in omega arith

greatest_less : (f : ℕ → ℕ) (b : ℕ) (c : Place) (cs : List Place)
    → AllByRecursion (λ (d : Place). f d.node < b) (c ∷ cs)
    → greatest_number (map (λ (d : Place). f d.node) (c ∷ cs)) < b
greatest_less f b c [] a = let h : f c.node < b = a.0 in omega arith
greatest_less f b c (d ∷ ds) a =
    let h : f c.node < b = a.0 in let i = greatest_less f b d ds a.1 in omega arith

by_most : (f : ℕ → ℕ) (b : ℕ) (x : Node) → AllByRecursion (λ (c : Place). f c.node < b) (reads x)
    → level_by f x ≤ b
by_most f b (Source r) a = omega arith
by_most f b (Flatten ins) a =
    let i = greatest_most f b ins (Each-weaker (λ (c : Place). f c.node < b)
    (λ (c : Place). f c.node ≤ b) (λ c h. omega arith) ins a) in omega arith
by_most f b (Pdo c g) a = let h : f c.node < b = a.0 in omega arith
by_most f b (Gbk c o l k) a = let h : f c.node < b = a.0 in omega arith
by_most f b (Barrier [] x y d) a = omega arith
by_most f b (Barrier (c ∷ cs) x y (SideInput g)) a =
    let i = greatest_less f b c cs a in omega arith
by_most f b (Barrier (c ∷ cs) x y (Operate g)) a =
    let i = greatest_less f b c cs a in omega arith
by_most f b (Barrier (c ∷ cs) x y (Singleton k)) a =
    let i = greatest_less f b c cs a in omega arith

at_most : (f : ℕ → ℕ) (b : ℕ) (o : Option Node)
    → ((x : Node) → o ≡ Some x → AllByRecursion (λ (c : Place). f c.node < b) (reads x))
    → level_at f o ≤ b
at_most f b None h = omega arith
at_most f b (Some x) h = by_most f b x (h x refl)

within_most : (r : ℕ → ℕ) (es : List Entry) → IsRankedBy r es → (k n : ℕ)
    → level_within es k n ≤ r n
within_most r es ra zero n = let z = level_first es n in omega arith
within_most r es ra (suc k) n =
    let i = at_most (level_within es k) (r n) (node_at es n)
    (λ x h. Each-weaker (λ (d : Place). r d.node < r n)
    (λ (d : Place). level_within es k d.node < r n)
    (λ d i. let j = within_most r es ra k d.node in omega arith) (reads x)
    (ranked_at r es n x ra h)) in
    let e = level_next es k n in omega arith

-- a level is below the turns that are enough for its node
level_below : (es : List Entry) (turns n : ℕ) → IsBelow es turns n → level es n < turns
level_below es turns n b =
    let i = within_most b.rank es b.ranked (suc (length es)) n in
    let e = level_is es n in
    let h = b.below in omega arith

levels_below : (es : List Entry) (turns : ℕ) (cs : List Place)
    → AllByRecursion (λ (c : Place). IsBelow es turns c.node) cs → 0 < turns
    → greatest_number (map (λ (c : Place). level es c.node) cs) < turns
levels_below es turns [] a p = omega arith
levels_below es turns (c ∷ cs) a p =
    let h = level_below es turns c.node a.0 in
    let i = levels_below es turns cs a.1 p in omega arith

-- so there is room for one more
pub levels_small : (es : List Entry) (less bound : ℕ) (cs : List Place)
    → AllByRecursion (λ (c : Place). IsBelow es less c.node) cs → less + 1 ≤ bound → 1 < bound
    → greatest_number (map (λ (c : Place). level es c.node) cs) + 1 < bound
levels_small es less bound [] a p q = omega arith
levels_small es less bound (c ∷ cs) a p q =
    let h = level_below es less c.node a.0 in
    let i = levels_below es less (c ∷ cs) a (omega arith) in omega arith
