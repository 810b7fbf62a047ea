-- The test of narrow steps tells whether each Pdo has one step with few outputs.
use Rattle.std.proofs.Common.{◌≡◌, ℕ, ◌<◌, ◌≤◌, Bool, true, false, ◌&&◌, ltb, eqb, List, [], ◌∷◌, length, map, suc, refl, sym, ap, subst, ◌∙◌, arith}
use Rattle.std.proofs.lemmas.Bool.{false≢true}
use Rattle.std.proofs.lemmas.List.{length-map}
use Rattle.std.proofs.lemmas.Bool.Decides.{nat_tests}
use Rattle.std.specs.List.{AllByRecursion, list_all}
use Rattle.exec_graph.specs.Forests.{Branch, Forest, Bare, Grow, Twig, grown, limb, twigs}
use Rattle.exec_graph.specs.Twigs.{twig}
use Rattle.exec_graph.specs.declared.graph.Node.{Node}
use Rattle.exec_graph.specs.declared.graph.Place.{Place}
use Rattle.exec_graph.specs.declared.graph.Node.TheVariants.{Pdo}
use Rattle.exec_graph.specs.declared.graph.Entry.{Entry}
use Rattle.exec_graph.specs.declared.step.Output.{Output}
use Rattle.graph_laws.specs.Single.{HasSteps, IsOneStep, most_outputs, width}
use Rattle.pardo_fuse.specs.inner.Narrow.{IsNarrow, IsShort, is_bare, is_short, one_short}
use Rattle.pardo_fuse.proofs.Parting.{IsRow, row_of}
use Rattle.pardo_fuse.proofs.Places.{and_left, and_right}

-- ---- forests without steps

bare_is : (f : Forest) → is_bare f ≡ true → f ≡ Bare
bare_is Bare h = refl
bare_is (Grow l kids rest) h = absurd (false≢true h)

-- Steps by their number.
bare_count : (bs : List Branch) → is_bare (grown bs) ≡ eqb (length bs) 0
bare_count [] = refl
bare_count (b ∷ bs) = grind (arith, nat_tests)

bare_counts : (os : List Output)
    → list_all (λ (t : Twig). is_bare t.kids) (map twig os)
    ≡ list_all (λ (o : Output). eqb (length o.kids.items) 0) os
bare_counts [] = refl
bare_counts (o ∷ os) = rw (bare_count o.kids.items, bare_counts os) refl

-- ---- the test of a step, by its outputs

pub first_not_bare : (b : Branch) (ks : List Branch) (r : Bool) → b.first.kids ≡ grown ks
    → r ≡ eqb (length ks) 0 → r ≡ false → false ≡ is_short b
first_not_bare b ks r e f h =
    let z : is_bare b.first.kids ≡ false = ap is_bare e ∙ bare_count ks ∙ sym f ∙ h in
    sym (rw z refl)

and_false : (a c : Bool) → false ≡ (a && (false && c))
and_false true c = refl
and_false false c = refl

pub more_not_bare : (b : Branch) (os : List Output) (r : Bool) → b.more ≡ map twig os
    → r ≡ list_all (λ (o : Output). eqb (length o.kids.items) 0) os → r ≡ false → false ≡ is_short b
more_not_bare b os r e f h =
    let z : list_all (λ (t : Twig). is_bare t.kids) b.more ≡ false =
    ap (list_all (λ (t : Twig). is_bare t.kids)) e ∙ bare_counts os ∙ sym f ∙ h in
    and_false (is_bare b.first.kids) (ltb (length b.more) most_outputs)
    ∙ sym (ap (λ (q : Bool). is_bare b.first.kids && (q && ltb (length b.more) most_outputs)) z)

pub rest_bare : (b : Branch) (ks : List Branch) (os : List Output) (p q r : Bool)
    → b.first.kids ≡ grown ks → b.more ≡ map twig os → p ≡ eqb (length ks) 0 → p ≡ true
    → q ≡ list_all (λ (o : Output). eqb (length o.kids.items) 0) os → q ≡ true
    → r ≡ ltb (length os) 8 → r ≡ is_short b
rest_bare b ks os p q r d e f h g i j =
    let x : is_bare b.first.kids ≡ true = ap is_bare d ∙ bare_count ks ∙ sym f ∙ h in
    let y : list_all (λ (t : Twig). is_bare t.kids) b.more ≡ true =
    ap (list_all (λ (t : Twig). is_bare t.kids)) e ∙ bare_counts os ∙ sym g ∙ i in
    let z : length b.more ≡ length os = ap length e ∙ length-map os twig in
    j ∙ sym (rw (x, y, z) refl)

-- ---- one step

twigs_width : (b : Branch) (n : ℕ) (ts : List Twig) → width (twigs b n ts Bare) ≡ length ts
twigs_width b n [] = refl
twigs_width b n (t ∷ ts) = ap suc (twigs_width b (suc n) ts)

all_kids : (ts : List Twig) → list_all (λ (t : Twig). is_bare t.kids) ts ≡ true
    → AllByRecursion (λ (t : Twig). t.kids ≡ Bare) ts
all_kids [] h = tt
all_kids (t ∷ ts) h =
    let rest : Bool = list_all (λ (t : Twig). is_bare t.kids) ts in (
      bare_is t.kids (and_left (is_bare t.kids) rest h),
      all_kids ts (and_right (is_bare t.kids) rest h),
    )

short_is : (b : Branch) → is_short b ≡ true → IsShort (grown (b ∷ []))
short_is b h =
    let all : Bool = list_all (λ (t : Twig). is_bare t.kids) b.more in
    let few : Bool = ltb (length b.more) most_outputs in
    let r = and_right (is_bare b.first.kids) (all && few) h in
    let w = twigs_width b 1 b.more in
    let l : length b.more < 8 = let q = and_right all few r in grind (arith, nat_tests) in (
      record {
        step = b;
        alone = refl;
        first = bare_is b.first.kids (and_left (is_bare b.first.kids) (all && few) h);
        more = all_kids b.more (and_left all few r);
      },
      omega arith,
    )

kids_all : (b : Branch) (n : ℕ) (ts : List Twig) → IsRow n (twigs b n ts Bare)
    → list_all (λ (t : Twig). is_bare t.kids) ts ≡ true
kids_all b n [] r = refl
kids_all b n (t ∷ ts) r = rw (r.1, kids_all b (suc n) ts r.2) refl

is_short_of : (b : Branch) → IsShort (grown (b ∷ [])) → is_short b ≡ true
is_short_of b s =
    let r : IsRow 0 (grown (b ∷ [])) = row_of (grown (b ∷ [])) s.0 in
    let w = twigs_width b 1 b.more in
    let m : width (grown (b ∷ [])) ≤ 8 = s.1 in
    let l : length b.more < 8 = omega arith in
    let few : ltb (length b.more) most_outputs ≡ true = grind (arith, nat_tests) in
    rw (r.1, kids_all b 1 b.more r.2, few) refl

-- A step behind others is no further output of theirs.
not_row : (b c : Branch) (n : ℕ) (ts : List Twig) (rest : Forest)
    → IsRow (suc n) (twigs b (suc n) ts (limb c rest)) → ⊥
not_row b c n [] rest r = let e : 0 ≡ suc n = r.0 in absurd (omega arith)
not_row b c n (t ∷ ts) rest r = not_row b c (suc n) ts rest r.2

short_tells : (bs : List Branch) → (one_short bs ≡ true → IsShort (grown bs))
    × (IsShort (grown bs) → one_short bs ≡ true)
short_tells [] = (
  λ h. absurd (false≢true h),
  λ s. let e = s.0.alone in
      absurd (let bad : ⊥ = cc in bad),
)
short_tells (b ∷ []) = (short_is b, is_short_of b)
short_tells (b ∷ (c ∷ bs)) = (
  λ h. absurd (false≢true h),
  λ s. let r : IsRow 0 (grown (b ∷ (c ∷ bs))) = row_of (grown (b ∷ (c ∷ bs))) s.0 in
      absurd (not_row b c 0 b.more (grown bs) r.2),
)

-- ---- nodes

both : (x : Node) → IsNarrow x
    → HasSteps IsOneStep x × HasSteps (λ f. width f ≤ most_outputs) x
both (Pdo c f) h = h
both _ h = (tt, tt)

pub pdo_tells : (x : Node) (c : Place) (f : Forest) (bs : List Branch) (r : Bool) → x ≡ Pdo c f
    → grown bs ≡ f → r ≡ one_short bs → (r ≡ true → IsNarrow x) × (IsNarrow x → r ≡ true)
pdo_tells x c f bs r e g t = (
  λ h. subst IsNarrow (sym e) (subst IsShort g ((short_tells bs).0 (sym t ∙ h))),
  λ n. let s : IsNarrow (Pdo c f) = subst IsNarrow e n in
      t ∙ (short_tells bs).1 (subst IsShort (sym g) s),
)

all_both : (es : List Entry) → AllByRecursion (λ (e : Entry). IsNarrow e.node) es
    → AllByRecursion (λ (e : Entry). HasSteps IsOneStep e.node) es
    × AllByRecursion (λ (e : Entry). HasSteps (λ f. width f ≤ most_outputs) e.node) es
all_both [] h = (tt, tt)
all_both (e ∷ es) h =
    let p = both e.node h.0 in
    let q = all_both es h.1 in
    ((p.0, q.0), (p.1, q.1))
