-- What kids and siblings that are still to be made leave of the Pdos that stay.
use Rattle.std.proofs.Common.{◌≡◌, ℕ, ◌<◌, Bool, true, false, cond, eqb, List, [], ◌∷◌, ◌++◌, Option, Some, None, map, refl, sym, ap, ◌∙◌, subst, inl, inr, ◌⊎◌, arith, append_assoc}
use Rattle.std.proofs.lemmas.Bool.{eqb-true}
use Rattle.std.proofs.lemmas.List.{append-nil}
use Rattle.std.specs.List.{AllByRecursion as Each}
use Rattle.flume_value.proofs.EachLemmas.{Each-weaker}
use Rattle.exec_graph.specs.Forests.{Forest}
use Rattle.exec_graph.specs.Meaning.{AllDiffer, IsSound, node_at, place}
use Rattle.exec_graph.specs.Readers.{those}
use Rattle.exec_graph.specs.Wellformed.{Ascends}
use Rattle.exec_graph.specs.declared.graph.Entry.{Entry}
use Rattle.exec_graph.specs.declared.graph.Graph.{Graph}
use Rattle.exec_graph.specs.declared.graph.Node.{Node}
use Rattle.exec_graph.specs.declared.graph.Node.TheVariants.{Pdo}
use Rattle.exec_graph.specs.declared.graph.Place.{Place}
use Rattle.pass_rewrites.specs.of_fuse_chain.Numbers.{after_kids}
use Rattle.pass_rewrites.specs.of_fuse_chain.Rewrites.{InOrder, IsKid, IsSibling, Kid, Sibling, FusesTo, MakesByRewrite, Fusion, is_sibling, other_of}
use Rattle.graph_laws.specs.Joining.{beside, grafted, joined_into}
use Rattle.graph_laws.specs.Kids.{apart, even, named_by, odd, renewed}
use Rattle.graph_rewrites.specs.declared.rewrite.Rewrite.{Rewrite}
use Rattle.pass_rewrites.specs.Passes.{as_rewrite, present_fusions}
use Rattle.graph_laws.proofs.Kids.{kid_sound, sibling_sound}
use Rattle.graph_laws.proofs.Wellness.{reads_lower}
use Rattle.graph_tracing.specs.inner.Waiting.{Await, GoFrom, IsUnderway, Rise}
use Rattle.graph_tracing.specs.declared.trace.Trace.{Trace}
use Rattle.graph_tracing.proofs.Effects.{Calls, Takes, shift, taken_absent, taken_calls, taken_gone}

-- ---- one of them

-- what is read is of lower rank
below : (g : Graph) (ok : IsSound g) (n : ℕ) (c : Place) → Calls g n c
    → ok.ranked.0 c.node < ok.ranked.0 n
below g ok n c h = reads_lower g n c h.0 ok.ranked.0 h.1 ok.ranked.1

of_rank : (r : ℕ → ℕ) (m n : ℕ) → r m < r n → m ≡ n → ⊥
of_rank r m n less e = let same : r m ≡ r n = ap r e in omega arith

kid_takes : (g : Graph) (p k q : ℕ) (h : Graph) → IsSound g → (m : IsKid g p k q h)
    → Takes g p q m.source (place p k)
kid_takes g p k q h ok m =
    let r : ℕ → ℕ = ok.ranked.0 in
    let c_p : r m.source.node < r p = below g ok p m.source (m.near, m.can.keeper) in
    let p_q : r p < r q = below g ok q (place p k) (m.far, m.can.other) in
    record {
      keeper = (m.near, m.can.keeper);
      other = (m.far, m.can.other);
      differ = of_rank r p q p_q;
      not_own = of_rank r m.source.node p c_p;
      not_other = of_rank r m.source.node q (omega (arith, c_p, p_q));
    }

sibling_takes : (g : Graph) (p q : ℕ) (h : Graph) → IsSound g → (m : IsSibling g p q h)
    → Takes g p q m.source m.source
sibling_takes g p q h ok m =
    let r : ℕ → ℕ = ok.ranked.0 in
    record {
      keeper = (m.near, m.can.keeper);
      other = (m.far, m.can.other);
      differ = m.can.differ;
      not_own = of_rank r m.source.node p (below g ok p m.source (m.near, m.can.keeper));
      not_other = of_rank r m.source.node q (below g ok q m.source (m.far, m.can.other));
    }

-- a rewrite leaves a graph with a meaning
pub made_sound : (r : Fusion) (g h : Graph) → MakesByRewrite r g h → IsSound g → IsSound h
made_sound (Kid p k q) g h m ok =
    subst IsSound m.is (kid_sound g p k q m.source m.near m.far ok m.can).sound
made_sound (Sibling p q) g h m ok =
    subst IsSound m.is (sibling_sound g p q m.source m.near m.far ok m.can).sound

-- the Pdo q goes
pub record Effect (g h : Graph) (q : ℕ) : Type 0 where
  pub shift : Place → Place
  pub calls : (m : ℕ) (x : Place) → Calls g m x → (m ≡ q → ⊥) → Calls h m (shift x)
  pub absent : (m : ℕ) → node_at g.nodes m ≡ None → node_at h.nodes m ≡ None
  pub gone : AllDiffer g.nodes → node_at h.nodes q ≡ None
  pub read : Place
  pub there : Calls g q read

effect_of : (g : Graph) (p q : ℕ) (c d : Place) (near far new : Forest) → Takes g p q c d
    → Effect g (renewed (joined_into (apart g p q c d near far) p q c new) p c new) q
effect_of g p q c d near far new t = record {
  shift = shift g p q c d near far new t;
  calls = taken_calls g p q c d near far new t;
  absent = taken_absent g p q c d near far new t;
  gone = taken_gone g p q c d near far new t;
  read = d;
  there = t.other;
}

pub effect : (r : Fusion) (g h : Graph) → MakesByRewrite r g h → IsSound g
    → Effect g h (other_of r)
effect (Kid p k q) g h m low =
    subst (λ (x : Graph). Effect g x q) m.is
    (effect_of g p q m.source (place p k) m.near m.far
    (grafted (even k) (named_by odd m.far) (named_by even m.near)) (kid_takes g p k q h low m))
effect (Sibling p q) g h m low =
    subst (λ (x : Graph). Effect g x q) m.is
    (effect_of g p q m.source m.source m.near m.far
    (beside (named_by even m.near) (named_by odd m.far)) (sibling_takes g p q h low m))

-- ---- all of them

-- Two Pdos that stay read one collection where they did so before.
pub calls_kept : (rs : List Fusion) (g m : Graph) → FusesTo rs g m → IsSound g
    → (a b : ℕ) (c : Place) → Calls g a c → Calls g b c
    → Each (λ r. other_of r ≡ a → ⊥) rs → Each (λ r. other_of r ≡ b → ⊥) rs
    → (d : Place) × Calls m a d × Calls m b d
calls_kept [] g m l low a b c x y i j =
    (c, subst (λ (z : Graph). Calls z a c) l x, subst (λ (z : Graph). Calls z b c) l y)
calls_kept (r ∷ rs) g m l low a b c x y i j =
    let e : Effect g l.0 (other_of r) = effect r g l.0 l.1 low in
    calls_kept rs l.0 m l.2 (made_sound r g l.0 l.1 low) a b (e.shift c)
    (e.calls a c x (λ z. i.0 (sym z))) (e.calls b c y (λ z. j.0 (sym z))) i.1 j.1

-- what is still to be made behind the first of them, where a graph is what that makes
pub await_rest : (siblings : Bool) (r : Fusion) (rs : List Fusion) (g h now m : Graph)
    (ns : List ℕ) → now ≡ h → MakesByRewrite r g h → IsSound g → FusesTo rs h m
    → Each (λ s. is_sibling s ≡ siblings) rs → GoFrom rs ns → Rise ns
    → Await siblings now m ns rs
await_rest siblings r rs g h now m ns at made ok to all go rise = record {
  all = all;
  leads = subst (λ (x : Graph). FusesTo rs x m) (sym at) to;
  some = go;
  rise = rise;
  sound = subst IsSound (sym at) (made_sound r g h made ok);
}

pub one_behind : (xs ys : List Rewrite) (r : Rewrite) → (xs ++ r ∷ []) ++ ys ≡ xs ++ r ∷ ys
one_behind xs ys r = append_assoc xs (r ∷ []) ys

-- ---- the Pdos that go

above : (n : ℕ) (rs : List Fusion) (ns : List ℕ) → GoFrom rs ns → Each (λ m. n < m) ns
    → Each (λ r. n < other_of r) rs
above n [] ns go a = tt
above n (r ∷ rs) [] go a = absurd go
above n (r ∷ rs) (k ∷ ns) (inl e) a =
    (subst (λ (x : ℕ). n < x) (sym e.0) a.0, above n rs ns e.1 a.1)
above n (r ∷ rs) (k ∷ ns) (inr e) a = above n (r ∷ rs) ns e a.1

-- none of them is this one or a lower one
pub not_up_to : (low n : ℕ) (rs : List Fusion) (ns : List ℕ) → GoFrom rs ns
    → Each (λ m. n < m) ns → low < n ⊎ (low ≡ n) → Each (λ r. other_of r ≡ low → ⊥) rs
not_up_to low n rs ns go a le =
    Each-weaker (λ (r : Fusion). n < other_of r) (λ (r : Fusion). other_of r ≡ low → ⊥)
    (λ r up e. by r up e le) rs (above n rs ns go a)
  where
    by : (r : Fusion) → n < other_of r → other_of r ≡ low → low < n ⊎ (low ≡ n) → ⊥
    by r up e (inl less) = omega arith
    by r up e (inr same) = omega arith

-- ---- the beginning

-- a node has that number
abbrev pub IsHeld : List Entry → ℕ → Type 0
IsHeld es n = (x : Node) × (node_at es n ≡ Some x)

held_back : (g h : Graph) (q : ℕ) → Effect g h q → (n : ℕ) → IsHeld h.nodes n → IsHeld g.nodes n
held_back g h q e n at = by (node_at g.nodes n) refl
  where
    by : (o : Option Node) → node_at g.nodes n ≡ o → IsHeld g.nodes n
    by None i =
        let both : None ≡ Some at.0 = sym (e.absent n i) ∙ at.1 in
        let bad : ⊥ = cc in absurd bad
    by (Some x) i = (x, i)

pub others_held : (rs : List Fusion) (g m : Graph) → FusesTo rs g m → IsSound g
    → Each (λ r. IsHeld g.nodes (other_of r)) rs
others_held [] g m l low = tt
others_held (r ∷ rs) g m l low =
    let e : Effect g l.0 (other_of r) = effect r g l.0 l.1 low in (
      (Pdo e.read e.there.0, e.there.1),
      Each-weaker (λ (s : Fusion). IsHeld l.0.nodes (other_of s))
          (λ (s : Fusion). IsHeld g.nodes (other_of s))
          (λ s h. held_back g l.0 (other_of r) e (other_of s) h) rs
          (others_held rs l.0 m l.2 (made_sound r g l.0 l.1 low)),
    )

pub still_held : (rs : List Fusion) (g m : Graph) → FusesTo rs g m → IsSound g → (n : ℕ)
    → IsHeld m.nodes n → IsHeld g.nodes n
still_held [] g m l low n h = subst (λ (z : Graph). IsHeld z.nodes n) (sym l) h
still_held (r ∷ rs) g m l low n h =
    held_back g l.0 (other_of r) (effect r g l.0 l.1 low) n
    (still_held rs l.0 m l.2 (made_sound r g l.0 l.1 low) n h)

abbrev pub numbers : List Entry → List ℕ
numbers es = map (λ (e : Entry). e.number) es

held_split : (e : Entry) (es : List Entry) (n : ℕ) → IsHeld (e ∷ es) n
    → (e.number ≡ n) ⊎ IsHeld es n
held_split e es n h = by (eqb e.number n) refl h.1
  where
    by : (b : Bool) → eqb e.number n ≡ b → cond b (Some e.node) (node_at es n) ≡ Some h.0
        → (e.number ≡ n) ⊎ IsHeld es n
    by true i at = inl (eqb-true e.number n i)
    by false i at = inr (h.0, at)

-- a node behind the first has a greater number
held_above : (n : ℕ) (es : List Entry) (m : ℕ) → Each (λ d. n < d.number) es → IsHeld es m → n < m
held_above n [] m a h = let bad : ⊥ = (let at = h.1 in cc) in absurd bad
held_above n (d ∷ ds) m a h = by (held_split d ds m h) (λ there. held_above n ds m a.1 there)
  where
    by : (d.number ≡ m) ⊎ IsHeld ds m → (IsHeld ds m → n < m) → n < m
    by (inl same) f = subst (λ (x : ℕ). n < x) same a.0
    by (inr there) f = f there

-- what is above the first is among the others
behind : (e : Entry) (es : List Entry) (low : ℕ) (ss : List Fusion)
    → (e.number ≡ low) ⊎ (e.number < low) → Each (λ s. low < other_of s) ss
    → Each (λ s. IsHeld (e ∷ es) (other_of s)) ss → Each (λ s. IsHeld es (other_of s)) ss
behind e es low [] le up i = tt
behind e es low (s ∷ ss) le up i =
    (one (held_split e es (other_of s) i.0) le, behind e es low ss le up.1 i.1)
  where
    one : (e.number ≡ other_of s) ⊎ IsHeld es (other_of s)
        → (e.number ≡ low) ⊎ (e.number < low) → IsHeld es (other_of s)
    one (inl same) (inl at) = let u : low < other_of s = up.0 in absurd (omega arith)
    one (inl same) (inr at) = let u : low < other_of s = up.0 in absurd (omega arith)
    one (inr there) z = there

pub go_from : (rs : List Fusion) (es : List Entry) → InOrder rs → Ascends es
    → Each (λ r. IsHeld es (other_of r)) rs → GoFrom rs (numbers es)
go_from [] es o a h = tt
go_from (r ∷ rs) [] o a h = let bad : ⊥ = (let at = h.0.1 in cc) in bad
go_from (r ∷ rs) (e ∷ es) o a h =
    by (held_split e es (other_of r) h.0) (λ i. go_from rs es o.1 a.1 i)
    (λ i. go_from (r ∷ rs) es o a.1 i)
  where
    by : (e.number ≡ other_of r) ⊎ IsHeld es (other_of r)
        → (Each (λ s. IsHeld es (other_of s)) rs → GoFrom rs (numbers es))
        → (Each (λ s. IsHeld es (other_of s)) (r ∷ rs) → GoFrom (r ∷ rs) (numbers es))
        → GoFrom (r ∷ rs) (numbers (e ∷ es))
    by (inl same) f g = inl (sym same, f (behind e es (other_of r) rs (inl same) o.0 h.1))
    by (inr there) f g =
        inr (g (
          there,
          behind e es (other_of r) rs (inr (held_above e.number es (other_of r) a.0 there)) o.0 h.1,
        ))

pub rise_numbers : (es : List Entry) → Ascends es → Rise (numbers es)
rise_numbers [] a = tt
rise_numbers (e ∷ es) a = (over e es a.0, rise_numbers es a.1)
  where
    over : (e : Entry) (ds : List Entry) → Each (λ d. e.number < d.number) ds
        → Each (λ m. e.number < m) (numbers ds)
    over e [] b = tt
    over e (d ∷ ds) b = (b.0, over e ds b.1)

-- ---- those that pass a test

pub record Passes (t : Node → Bool) (es : List Entry) (n : ℕ) : Type 0 where
  pub node : Node
  pub at : node_at es n ≡ Some node
  pub passes : t node ≡ true

passes_split : (t : Node → Bool) (e : Entry) (es : List Entry) (n : ℕ) → Passes t (e ∷ es) n
    → ((e.number ≡ n) × (t e.node ≡ true)) ⊎ Passes t es n
passes_split t e es n h = by (eqb e.number n) refl h.at
  where
    by : (b : Bool) → eqb e.number n ≡ b → cond b (Some e.node) (node_at es n) ≡ Some h.node
        → ((e.number ≡ n) × (t e.node ≡ true)) ⊎ Passes t es n
    by true i at =
        let same : e.node ≡ h.node = cc in inl (eqb-true e.number n i, ap t same ∙ h.passes)
    by false i at = inr (record { node = h.node; at = at; passes = h.passes })

passes_above : (t : Node → Bool) (n : ℕ) (es : List Entry) (m : ℕ)
    → Each (λ d. n < d.number) es → Passes t es m → n < m
passes_above t n es m a h = held_above n es m a (h.node, h.at)

passing_behind : (t : Node → Bool) (e : Entry) (es : List Entry) (low : ℕ) (ss : List Fusion)
    → (e.number ≡ low) ⊎ (e.number < low) → Each (λ s. low < other_of s) ss
    → Each (λ s. Passes t (e ∷ es) (other_of s)) ss → Each (λ s. Passes t es (other_of s)) ss
passing_behind t e es low [] le up i = tt
passing_behind t e es low (s ∷ ss) le up i =
    (one (passes_split t e es (other_of s) i.0) le, passing_behind t e es low ss le up.1 i.1)
  where
    one : ((e.number ≡ other_of s) × (t e.node ≡ true)) ⊎ Passes t es (other_of s)
        → (e.number ≡ low) ⊎ (e.number < low) → Passes t es (other_of s)
    one (inl (same, y)) (inl at) = let u : low < other_of s = up.0 in absurd (omega arith)
    one (inl (same, y)) (inr at) = let u : low < other_of s = up.0 in absurd (omega arith)
    one (inr there) z = there

pub go_passing : (t : Node → Bool) (rs : List Fusion) (es : List Entry) → InOrder rs
    → Ascends es → Each (λ r. Passes t es (other_of r)) rs → GoFrom rs (those t es)
go_passing t [] es o a h = tt
go_passing t (r ∷ rs) [] o a h = let bad : ⊥ = (let at = h.0.at in cc) in bad
go_passing t (r ∷ rs) (e ∷ es) o a h =
    by (passes_split t e es (other_of r) h.0) (λ i. go_passing t rs es o.1 a.1 i)
    (λ i. go_passing t (r ∷ rs) es o a.1 i)
  where
    skip : (b : Bool) → GoFrom (r ∷ rs) (those t es)
        → GoFrom (r ∷ rs) (cond b (e.number ∷ those t es) (those t es))
    skip true g = inr g
    skip false g = g

    by : ((e.number ≡ other_of r) × (t e.node ≡ true)) ⊎ Passes t es (other_of r)
        → (Each (λ s. Passes t es (other_of s)) rs → GoFrom rs (those t es))
        → (Each (λ s. Passes t es (other_of s)) (r ∷ rs) → GoFrom (r ∷ rs) (those t es))
        → GoFrom (r ∷ rs) (cond (t e.node) (e.number ∷ those t es) (those t es))
    by (inl (same, y)) f g =
        subst (λ (b : Bool). GoFrom (r ∷ rs) (cond b (e.number ∷ those t es) (those t es)))
        (sym y)
        (inl (sym same, f (passing_behind t e es (other_of r) rs (inl same) o.0 h.1)))
    by (inr there) f g =
        skip (t e.node) (g (
          there,
          passing_behind t e es (other_of r) rs
              (inr (passes_above t e.number es (other_of r) a.0 there)) o.0 h.1,
        ))

pub rise_those : (t : Node → Bool) (es : List Entry) → Ascends es → Rise (those t es)
rise_those t [] a = tt
rise_those t (e ∷ es) a = by (t e.node) (rise_those t es a.1)
  where
    over : (ds : List Entry) → Each (λ d. e.number < d.number) ds
        → Each (λ m. e.number < m) (those t ds)
    over [] b = tt
    over (d ∷ ds) b = one (t d.node) (over ds b.1)
      where
        one : (s : Bool) → Each (λ m. e.number < m) (those t ds)
            → Each (λ m. e.number < m) (cond s (d.number ∷ those t ds) (those t ds))
        one true i = (b.0, i)
        one false i = i

    by : (b : Bool) → Rise (those t es) → Rise (cond b (e.number ∷ those t es) (those t es))
    by true i = (over es a.0, i)
    by false i = i

-- ---- the end

pub all_made : (siblings : Bool) (t : Trace) (m : Graph) (whole : List Rewrite)
    → (l total : ℕ → ℕ) → IsUnderway siblings l total t m [] whole
    → (t.graph ≡ m) × (t.rewrites ≡ whole) × ((n : ℕ) → l n ≡ total n)
all_made siblings t m whole l total u =
    by u.rest u.await.leads u.await.some u.written u.last
  where
    by : (rs : List Fusion) → FusesTo rs t.graph m → GoFrom rs []
        → t.rewrites ++ map as_rewrite (present_fusions l rs) ≡ whole
        → ((n : ℕ) → after_kids rs l n ≡ total n)
        → (t.graph ≡ m) × (t.rewrites ≡ whole) × ((n : ℕ) → l n ≡ total n)
    by [] to go w z = (to, sym (append-nil t.rewrites) ∙ w, z)
    by (r ∷ rs) to go w z = absurd go
