-- What an operation reads is a source, or given by an operation below it.
use Rattle.std.proofs.Common.{◌≡◌, ℕ, ◌+◌, ◌*◌, ◌<◌, ◌≤◌, ◌⊎◌, Bool, true, false, cond, not, eqb, ◌&&◌, List, [], ◌∷◌, map, Option, Some, None, suc, refl, sym, ap, ◌∙◌, arith, inl, inr}
use Rattle.std.proofs.lemmas.Bool.{eqb-true, eq-eqb, false≢true}
use Rattle.std.specs.List.{AllByRecursion as Each}
use Rattle.combine_table.specs.declared.comb.Comb.{Comb}
use Rattle.exec_graph.specs.Forests.{Forest}
use Rattle.exec_graph.specs.Meaning.{IsRankedBy, IsSound, IsThere, node_at, place, reads}
use Rattle.exec_graph.specs.Readers.{among, same_place}
use Rattle.exec_graph.specs.declared.graph.Act.{Act}
use Rattle.exec_graph.specs.declared.graph.Act.TheVariants.{SideInput, Operate, Singleton}
use Rattle.exec_graph.specs.declared.graph.Place.{Place}
use Rattle.exec_graph.specs.declared.graph.Node.{Node}
use Rattle.exec_graph.specs.declared.graph.Node.TheVariants.{Source, Flatten, Pdo, Gbk, Barrier}
use Rattle.exec_graph.specs.declared.graph.Entry.{Entry}
use Rattle.exec_graph.specs.declared.graph.Blocked.{Blocked}
use Rattle.exec_graph.proofs.Entries.{all_found}
use Rattle.exec_graph.proofs.Solving.{ranked_at, there_found}
use Rattle.exec_graph.proofs.Bools.{or_cases}
use Rattle.plan_laws.specs.declared.operations.Key.{Key}
use Rattle.plan_laws.specs.declared.operations.Key.TheVariants.{Mapper, Whole}
use Rattle.plan_laws.specs.declared.operations.Operation.TheVariants.{Flat}
use Rattle.plan_laws.specs.Operations.{IsIn, channel_of, gives_of, inputs_at, read_through, pdo_channel, reading_reads, reads_of, source_places}
use Rattle.plan_laws.proofs.Running.{place_same}
use Rattle.plan_roles.specs.Levels.{greatest_number, level, one_gbk}
use Rattle.plan_roles.specs.Reading.{goes_on}
use Rattle.plan_roles.specs.Mappers.{is_mapper, is_reducer, is_stage, maps_at}
use Rattle.form_laws.specs.declared.ranked.Ranked.{Ranked}
use Rattle.form_laws.specs.Operations.{ranked_alone, barrier_rank, barrier_ranked, operations}
use Rattle.form_laws.proofs.Basics.{one_among}
use Rattle.form_laws.proofs.Classing.{AreParts}
use Rattle.form_laws.proofs.Leveling.{levels_at}
use Rattle.form_laws.proofs.Measuring.{below, below_from, lower_rank, measure, same_rank}
use Rattle.form_laws.proofs.Meeting.{NotFlat, flat_met, barrier_met, not_flat, pdo_met, whole_met, whole_reader}
use Rattle.form_laws.proofs.Serving.{Served, ends_at, is_end, provide}
use Rattle.form_laws.proofs.Reading.{is_gbk, mapper_flat, mapper_unread, mapper_whole, read_on}
use Rattle.form_laws.proofs.Apartness.{and_false as false_right}

-- ---- what an operation reads is a source, or given by one below it
abbrev pub GivenBelow : Blocked → List (List ℕ) → ℕ → (ℕ → ℕ) → Ranked → Place → Type 0
GivenBelow b cs w r y c =
    IsIn c (source_places b.graph.nodes)
    ⊎ ((z : Ranked) × IsIn z (operations b cs) × IsIn c (gives_of b.graph.nodes z.does)
    × (below b.graph.nodes w r z y ≡ true))

abbrev pub AllGiven : Blocked → List (List ℕ) → ℕ → (ℕ → ℕ) → Ranked → Type 0
AllGiven b cs w r y = Each (GivenBelow b cs w r y) (reads_of b.graph.nodes y.does)

not_so : (a : Bool) → a ≡ true → not a ≡ false
not_so a h = rw h refl

either_way : (a : Bool) → (a ≡ false) ⊎ (a ≡ true)
either_way true = inr refl
either_way false = inl refl

-- a served collection that another node than a Gbk reads is not given by one that ends
not_end : (b : Blocked) (cs : List (List ℕ)) (c : Place) (s : Served b cs c) (k : ℕ) (x : Node)
    → node_at b.graph.nodes k ≡ Some x → among c (reads x) ≡ true → is_gbk x ≡ false
    → is_end b.graph.nodes s.by.does ≡ false
not_end b cs c s k x h i g =
    elim s.ends [
      | inl e ↦ e
      | inr e ↦ ap (is_end b.graph.nodes) e.0
          ∙ false_right (ends_at (node_at b.graph.nodes c.node))
          (not (goes_on b.graph.nodes (place c.node 0)))
          (not_so (goes_on b.graph.nodes (place c.node 0))
          (read_on b.graph.nodes (place c.node 0) k x h
          (ap (λ (d : Place). among d (reads x)) e.1 ∙ i) g))
    ]

given_below : (b : Blocked) (cs : List (List ℕ)) (w : ℕ) (r : ℕ → ℕ) (y : Ranked) (c : Place)
    → IsIn c (source_places b.graph.nodes) ⊎ Served b cs c
    → ((s : Served b cs c) → (is_end b.graph.nodes s.by.does ≡ false)
    × ((is_end b.graph.nodes y.does ≡ true) ⊎ (measure w r s.by < measure w r y)))
    → GivenBelow b cs w r y c
given_below b cs w r y c (inl h) f = inl h
given_below b cs w r y c (inr s) f =
    let p = f s in
    inr (s.by, s.among, s.gives, below_from b.graph.nodes w r s.by y p.0 p.1)

-- what a Pdo reads
pub pdo_given : (b : Blocked) (cs : List (List ℕ)) → AreParts b cs →
    (w : ℕ) (r : ℕ → ℕ) (y : Ranked)
    (n : ℕ) (d : Place) (f : Forest) → IsSound b.graph → ((k : ℕ) → suc (r k) < w)
    → r d.node < r n → node_at b.graph.nodes n ≡ Some (Pdo d f)
    → is_reducer b n ≡ false ⊎ is_mapper b n ≡ true
    → (suc (2 * level b.graph.nodes n) < y.rank)
    ⊎ ((y.rank ≡ suc (2 * level b.graph.nodes n)) × (y.number ≡ n)) → GivenBelow b cs w r y d
pdo_given b cs p w r y n d f ok wide rk h free bound =
    let es : List Entry = b.graph.nodes in
    let there : IsThere es d =
    (all_found (λ e. Each (IsThere es) (reads e.node)) es n (Pdo d f) h ok.there).0 in
    let x = there_found es d there in
    let un : (is_mapper b d.node ≡ true) → ⊥ = λ m. mapper_unread b n d f h there m in
    let lev : level es n ≡ level es d.node = levels_at b.graph n (Pdo d f) ok h in
    given_below b cs w r y d
    (provide b cs p d x.0 ok x.1 x.2 (pdo_met b n d f x.0 h x.1 x.2 free un)) (λ s. (
      not_end b cs d s n (Pdo d f) h (one_among d []) refl,
      inr (elim s.bound [
        | inl m ↦ absurd (un m.0)
        | inr q ↦ elim q [
          | inl t ↦ elim bound [
            | inl u ↦ lower_rank w r s.by y (wide s.by.number) (omega arith)
            | inr u ↦ let v : y.rank ≡ suc (2 * level es n) = u.0 in
                lower_rank w r s.by y (wide s.by.number) (omega arith)
          ]
          | inr t ↦ let tr : s.by.rank ≡ suc (2 * level es d.node) = t.0 in elim bound [
            | inl u ↦ lower_rank w r s.by y (wide s.by.number) (omega arith)
            | inr u ↦
                let v : y.rank ≡ suc (2 * level es n) = u.0 in
                let a : r s.by.number ≡ r d.node = ap r t.1 in
                let c : r y.number ≡ r n = ap r u.1 in
                same_rank w r s.by y (omega arith) (omega arith)
          ]
        ]
      ]),
    ))

-- ---- a Flatten
under_greatest : (l : ℕ → ℕ) (ins : List Place) (c : Place) → among c ins ≡ true
    → l c.node ≤ greatest_number (map (λ (d : Place). l d.node) ins)
under_greatest l [] c h = absurd (false≢true h)
under_greatest l (d ∷ ds) c h =
    elim (or_cases (same_place c d) (among c ds) h) [
      | inl e ↦
          let k : l c.node ≡ l d.node = ap (λ (x : Place). l x.node) (place_same c d e) in
          omega arith
      | inr i ↦ let k = under_greatest l ds c i in omega arith
    ]

pub flat_given : (b : Blocked) (cs : List (List ℕ)) → AreParts b cs → (w : ℕ) (r : ℕ → ℕ) (n : ℕ)
    (ins : List Place) (c : Place) → IsSound b.graph → ((k : ℕ) → suc (r k) < w)
    → r c.node < r n → node_at b.graph.nodes n ≡ Some (Flatten ins) → is_stage b n ≡ true
    → among c ins ≡ true → IsThere b.graph.nodes c
    → GivenBelow b cs w r (ranked_alone b n (Flat n)) c
flat_given b cs p w r n ins c ok wide rk h st i there =
    let es : List Entry = b.graph.nodes in
    let y : Ranked = ranked_alone b n (Flat n) in
    let x = there_found es c there in
    let lev : level es n ≡ greatest_number (map (λ (d : Place). level es d.node) ins) =
    levels_at b.graph n (Flatten ins) ok h in
    let top : level es c.node ≤ greatest_number (map (λ (d : Place). level es d.node) ins) =
    under_greatest (level es) ins c i in
    given_below b cs w r y c
    (provide b cs p c x.0 ok x.1 x.2 (flat_met b n ins c x.0 h st i x.2)) (λ s. (
      not_end b cs c s n (Flatten ins) h i refl,
      elim s.bound [
        | inl m ↦ inl
            (ap (λ (x : Option Node). ends_at x && not (goes_on es (place n 0))) h
            ∙ ap not (mapper_flat b n ins c h i there m.0))
        | inr q ↦ inr (elim q [
          | inl t ↦ lower_rank w r s.by y (wide s.by.number) (omega arith)
          | inr t ↦
              let tr : s.by.rank ≡ suc (2 * level es c.node) = t.0 in
              let a : r s.by.number ≡ r c.node = ap r t.1 in
              same_rank w r s.by y (omega arith) (omega arith)
        ])
      ],
    ))

-- ---- what takes collections whole
rank_over : (m x : ℕ) (ins : List Place) (o : ℕ) (l : Bool) (a : Act) (c : Place)
    → among c ins ≡ true → m ≡ one_gbk (Barrier ins o l a) + x → suc (2 * x) ≤ barrier_rank m a
rank_over m x [] o l a c i h = absurd (false≢true i)
rank_over m x (d ∷ ds) o l (SideInput f) c i h = omega arith
rank_over m x (d ∷ ds) o l (Operate f) c i h = omega arith
rank_over m x (d ∷ ds) o l (Singleton k) c i h = omega arith

pub barrier_given : (b : Blocked) (cs : List (List ℕ)) → AreParts b cs → (w : ℕ) (r : ℕ → ℕ) (n : ℕ)
    (ins : List Place) (o : ℕ) (l : Bool) (a : Act) (c : Place) → IsSound b.graph
    → ((k : ℕ) → suc (r k) < w) → r c.node < r n
    → node_at b.graph.nodes n ≡ Some (Barrier ins o l a) → among c ins ≡ true
    → IsThere b.graph.nodes c → GivenBelow b cs w r (barrier_ranked b n a) c
barrier_given b cs p w r n ins o l a c ok wide rk h i there =
    let es : List Entry = b.graph.nodes in
    let y : Ranked = barrier_ranked b n a in
    let x = there_found es c there in
    let most : ℕ = greatest_number (map (λ (d : Place). level es d.node) ins) in
    let over : suc (2 * most) ≤ barrier_rank (level es n) a =
    rank_over (level es n) most ins o l a c i (levels_at b.graph n (Barrier ins o l a) ok h) in
    let top : level es c.node ≤ most = under_greatest (level es) ins c i in
    let un : (is_mapper b c.node ≡ true) → ⊥ =
    λ m. mapper_whole b n ins o l a c h i there m in
    given_below b cs w r y c
    (provide b cs p c x.0 ok x.1 x.2 (barrier_met b n ins o l a c x.0 h i x.2 un)) (λ s. (
      not_end b cs c s n (Barrier ins o l a) h i refl,
      inr (elim s.bound [
        | inl m ↦ absurd (un m.0)
        | inr q ↦ elim q [
          | inl t ↦ lower_rank w r s.by y (wide s.by.number) (omega arith)
          | inr t ↦
              let tr : s.by.rank ≡ suc (2 * level es c.node) = t.0 in
              let d : r s.by.number ≡ r c.node = ap r t.1 in
              same_rank w r s.by y (omega arith) (omega arith)
        ]
      ]),
    ))

-- ---- a class
-- what a Gbk takes whole is of a lower level
input_level : (b : Blocked) (d c : Place) (o : Option Node) → IsSound b.graph
    → node_at b.graph.nodes d.node ≡ o → among c (inputs_at d o) ≡ true
    → level b.graph.nodes c.node ≤ level b.graph.nodes d.node
input_level b d c o ok e h =
    let es : List Entry = b.graph.nodes in
    elim (whole_reader es d c o e h) [
      | inl s ↦
          let k : level es d.node ≡ level es c.node = ap (λ (x : Place). level es x.node) s.0 in
          omega arith
      | inr s ↦
          let k : level es d.node ≡ greatest_number (map (λ (x : Place). level es x.node) s.0) =
          levels_at b.graph d.node (Flatten s.0) ok s.1 in
          let t = under_greatest (level es) s.0 c s.2 in
          omega arith
    ]

apart_rank : (a d n x y : ℕ) → n ≡ suc d → a ≤ d → (suc a ≡ n → ⊥) → x ≡ 2 * suc a → y ≡ 2 * n
    → x < y
apart_rank a d n x y h i f g k = omega arith

-- a Flatten that is served is no input of a Gbk by itself
flat_served : (b : Blocked) (cs : List (List ℕ)) (c : Place) (s : Served b cs c)
    → is_end b.graph.nodes s.by.does ≡ true → (x : Node)
    → node_at b.graph.nodes c.node ≡ Some x → (d : Place)
    → (d ≡ c) × NotFlat (node_at b.graph.nodes d.node) → ⊥
flat_served b cs c s e x h d u = not_flat x d c b.graph.nodes u h (s.flat e x h)

whole_given : (b : Blocked) (cs : List (List ℕ)) → AreParts b cs → (w : ℕ) (r : ℕ → ℕ) (y : Ranked)
    (n : ℕ) (d : Place) (o : ℕ) (last : Bool) (k : Option Comb) (c : Place) → IsSound b.graph
    → ((k : ℕ) → suc (r k) < w) → node_at b.graph.nodes n ≡ Some (Gbk d o last k)
    → among c (read_through b.graph.nodes d) ≡ true → IsThere b.graph.nodes c
    → y.rank ≡ 2 * level b.graph.nodes n
    → (is_mapper b c.node ≡ true → suc (level b.graph.nodes c.node) ≡ level b.graph.nodes n → ⊥)
    → GivenBelow b cs w r y c
whole_given b cs p w r y n d o last k c ok wide h i there rank other =
    let es : List Entry = b.graph.nodes in
    let x = there_found es c there in
    let lev : level es n ≡ suc (level es d.node) = levels_at b.graph n (Gbk d o last k) ok h in
    let top : level es c.node ≤ level es d.node =
    input_level b d c (node_at es d.node) ok refl i in
    given_below b cs w r y c
    (provide b cs p c x.0 ok x.1 x.2 (whole_met b n d o last k c x.0 h i x.1 x.2 other)) (λ s. (
      elim (either_way (is_end es s.by.does)) [
        | inl e ↦ e
        | inr e ↦ elim (whole_reader es d c (node_at es d.node) refl i) [
          | inl u ↦ absurd (flat_served b cs c s e x.0 x.1 d u)
          | inr u ↦ not_end b cs c s d.node (Flatten u.0) u.1 u.2 refl
        ]
      ],
      inr (lower_rank w r s.by y (wide s.by.number) (elim s.bound [
        | inl m ↦
            let ne : suc (level es c.node) ≡ level es n → ⊥ = other m.0 in
            let mr : s.by.rank ≡ 2 * suc (level es c.node) = m.1 in
            apart_rank (level es c.node) (level es d.node) (level es n) s.by.rank y.rank lev top ne
            mr rank
        | inr q ↦ elim q [
          | inl t ↦ omega arith
          | inr t ↦ let tr : s.by.rank ≡ suc (2 * level es c.node) = t.0 in omega arith
        ]
      ])),
    ))

mapper_given : (b : Blocked) (cs : List (List ℕ)) → AreParts b cs → (w : ℕ) (r : ℕ → ℕ)
    (y : Ranked) (m : ℕ) (o : Option Node) → IsSound b.graph → IsRankedBy r b.graph.nodes
    → ((k : ℕ) → suc (r k) < w) → node_at b.graph.nodes m ≡ o → maps_at b m o ≡ true
    → is_mapper b m ≡ true → suc (2 * level b.graph.nodes m) < y.rank
    → Each (GivenBelow b cs w r y) (reading_reads (pdo_channel m o))
mapper_given b cs p w r y m None ok ra wide h i j k = absurd (false≢true i)
mapper_given b cs p w r y m (Some (Source s)) ok ra wide h i j k = absurd (false≢true i)
mapper_given b cs p w r y m (Some (Flatten ins)) ok ra wide h i j k = absurd (false≢true i)
mapper_given b cs p w r y m (Some (Gbk d o last e)) ok ra wide h i j k = absurd (false≢true i)
mapper_given b cs p w r y m (Some (Barrier ins o l a)) ok ra wide h i j k = absurd (false≢true i)
mapper_given b cs p w r y m (Some (Pdo d f)) ok ra wide h i j k = (
  pdo_given b cs p w r y m d f ok wide (ranked_at r b.graph.nodes m (Pdo d f) ra h).0 h (inr j)
      (inl k),
  tt,
)

abbrev pub KeyGiven : Blocked → List (List ℕ) → ℕ → (ℕ → ℕ) → Ranked → Key → Type 0
KeyGiven b cs w r y k =
    Each (GivenBelow b cs w r y) (reading_reads (channel_of b.graph.nodes k))

pub key_given_by : (b : Blocked) (cs : List (List ℕ)) → AreParts b cs → (w : ℕ) (r : ℕ → ℕ)
    (y : Ranked) (n : ℕ) (d : Place) (o : ℕ) (last : Bool) (k : Option Comb) (c : Place)
    (s t : Bool) → IsSound b.graph → IsRankedBy r b.graph.nodes → ((k : ℕ) → suc (r k) < w)
    → node_at b.graph.nodes n ≡ Some (Gbk d o last k)
    → among c (read_through b.graph.nodes d) ≡ true → IsThere b.graph.nodes c
    → y.rank ≡ 2 * level b.graph.nodes n → is_mapper b c.node ≡ s
    → eqb (suc (level b.graph.nodes c.node)) (level b.graph.nodes n) ≡ t
    → KeyGiven b cs w r y (cond (s && t) (Mapper c.node) (Whole c))
key_given_by b cs p w r y n d o last k c true true ok ra wide h i there rank e f =
    let es : List Entry = b.graph.nodes in
    let s : suc (level es c.node) ≡ level es n =
    eqb-true (suc (level es c.node)) (level es n) f in
    mapper_given b cs p w r y c.node (node_at es c.node) ok ra wide refl e e (omega arith)
key_given_by b cs p w r y n d o last k c true false ok ra wide h i there rank e f =
    let es : List Entry = b.graph.nodes in (
      whole_given b cs p w r y n d o last k c ok wide h i there rank
          (λ m s. false≢true (sym f ∙ eq-eqb (suc (level es c.node)) (level es n) s)),
      tt,
    )
key_given_by b cs p w r y n d o last k c false t ok ra wide h i there rank e f = (
  whole_given b cs p w r y n d o last k c ok wide h i there rank
      (λ m s. false≢true (sym e ∙ m)),
  tt,
)
