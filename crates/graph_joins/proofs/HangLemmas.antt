-- What hangs on an output that had no steps.
use Rattle.std.proofs.Common.{◌≡◌, ◌<◌, ℕ, zero, suc, Bool, true, false, cond, eqb, ◌||◌, List, [], ◌∷◌, ◌++◌, map, set, length, get_or, Option, Some, None, refl, sym, ap, ap₂, subst, ◌∙◌, append_assoc, arith, inl, inr}
use Rattle.std.proofs.lemmas.Bool.{false≢true}
use Rattle.exec_graph.specs.Forests.{Branch, Forest, Bare, Grow, Label, Twig, grown, label_at, limb, twigs, with_out}
use Rattle.exec_graph.specs.Meaning.{OutsDiffer, has_out, is_out}
use Rattle.exec_graph.specs.Twigs.{twig}
use Rattle.exec_graph.specs.declared.step.Output.{Output}
use Rattle.exec_graph.proofs.Bools.{or_false}
use Rattle.graph_laws.specs.Joining.{beside, grafted}
use Rattle.graph_laws.specs.Kids.{kept_by}
use Rattle.graph_states.specs.States.{all_but}
use Rattle.graph_walks.specs.Outs.{out_list, outs}
use Rattle.graph_walks.specs.inner.Plants.{put_in}
use Rattle.graph_walks.proofs.Places.{holds, holds_outs}
use Rattle.graph_walks.proofs.Relabeling.{step_of}
use Rattle.graph_joins.specs.inner.Hangs.{Hangs}
use Rattle.graph_joins.specs.inner.Splices.{spliced}
use Rattle.graph_joins.proofs.PutLemmas.{put_kept}

-- ---- what is the same again

pub set_here : {X : Type 0} (xs : List X) (i : ℕ) (x y : X) → i < length xs → x ≡ get_or xs i x
    → y ≡ x → set xs i y ≡ xs
set_here [] i x y lt is e = let bad : ⊥ = omega arith in absurd bad
set_here (z ∷ xs) zero x y lt is e = ap (λ w. w ∷ xs) (e ∙ is)
set_here (z ∷ xs) (suc i) x y lt is e =
    ap (λ l. z ∷ l) (set_here xs i x y (omega arith) is e)

pub twigs_here : (os : List Output) (i : ℕ) (o y : Output) → i < length os
    → o ≡ get_or os i o → twig y ≡ twig o → map twig (set os i y) ≡ map twig os
twigs_here [] i o y lt is e = let bad : ⊥ = omega arith in absurd bad
twigs_here (z ∷ os) zero o y lt is e =
    ap (λ t. t ∷ map twig os) (e ∙ ap twig is)
twigs_here (z ∷ os) (suc i) o y lt is e =
    ap (λ l. twig z ∷ l) (twigs_here os i o y (omega arith) is e)

-- ---- the parts of forests

module _ (j : ℕ) (k : Bool) (g : Forest) where
  -- behind outputs of a step
  behind_twigs : (b : Branch) (n : ℕ) (ts : List Twig) (f h : Forest) → Hangs j k g f h
      → Hangs j k g (twigs b n ts f) (twigs b n ts h)
  behind_twigs b n [] f h x = x
  behind_twigs b n (t ∷ ts) f h x =
      inr (inr (refl, refl, behind_twigs b (suc n) ts f h x))

  -- on one of the outputs
  pub among_twigs : (b : Branch) (n : ℕ) (os : List Output) (i : ℕ) (o y : Output) (f : Forest)
      → i < length os → o ≡ get_or os i o
      → ((m : ℕ) (r : Forest) → Hangs j k g (Grow (label_at b m (twig o)) (twig o).kids r)
      (Grow (label_at b m (twig y)) (twig y).kids r))
      → Hangs j k g (twigs b n (map twig os) f) (twigs b n (map twig (set os i y)) f)
  among_twigs b n [] i o y f lt is h = let bad : ⊥ = omega arith in absurd bad
  among_twigs b n (p ∷ os) zero o y f lt is h =
      subst (λ (z : Output). Hangs j k g
      (Grow (label_at b n (twig z)) (twig z).kids (twigs b (suc n) (map twig os) f))
      (Grow (label_at b n (twig y)) (twig y).kids (twigs b (suc n) (map twig os) f))) is
      (h n (twigs b (suc n) (map twig os) f))
  among_twigs b n (p ∷ os) (suc i) o y f lt is h =
      inr (inr (refl, refl, among_twigs b (suc n) os i o y f (omega arith) is h))

  -- on one of the steps
  pub among_steps : (bs : List Branch) (i : ℕ) (b y : Branch) → i < length bs
      → b ≡ get_or bs i b → ((r : Forest) → Hangs j k g (limb b r) (limb y r))
      → Hangs j k g (grown bs) (grown (set bs i y))
  among_steps [] i b y lt is h = let bad : ⊥ = omega arith in absurd bad
  among_steps (c ∷ bs) zero b y lt is h =
      subst (λ (z : Branch). Hangs j k g (limb z (grown bs)) (limb y (grown bs))) is
      (h (grown bs))
  among_steps (c ∷ bs) (suc i) b y lt is h =
      behind_twigs c 0 (c.first ∷ c.more) (grown bs) (grown (set bs i y))
      (among_steps bs i b y (omega arith) is h)

  -- the same step with other outputs
  same_twigs : (b : Branch) (first : Twig) (more : List Twig) (n : ℕ) (ts : List Twig)
      (r : Forest) → twigs b n ts r ≡ twigs (step_of b first more) n ts r
  same_twigs b first more n [] r = refl
  same_twigs b first more n (t ∷ ts) r =
      ap (λ (f : Forest). Grow (label_at b n t) t.kids f) (same_twigs b first more (suc n) ts r)

  pub on_first : (b : Branch) (t : Twig) (r : Forest)
      → Hangs j k g (Grow (label_at b 0 b.first) b.first.kids (twigs b 1 b.more r))
      (Grow (label_at b 0 t) t.kids (twigs b 1 b.more r))
      → Hangs j k g (limb b r) (limb (step_of b t b.more) r)
  on_first b t r h =
      subst (λ (f : Forest). Hangs j k g (limb b r) (Grow (label_at b 0 t) t.kids f))
      (same_twigs b t b.more 1 b.more r) h

  pub on_more : (b : Branch) (ts : List Twig) (r : Forest)
      → Hangs j k g (twigs b 1 b.more r) (twigs b 1 ts r)
      → Hangs j k g (limb b r) (limb (step_of b b.first ts) r)
  on_more b ts r h =
      inr (inr (
        refl,
        refl,
        subst (λ (f : Forest). Hangs j k g (twigs b 1 b.more r) f)
            (same_twigs b b.first ts 1 ts r) h,
      ))

  -- on an output, of which the steps are others
  pub on_kids : (l : Label) (f h r : Forest) → Hangs j k g f h
      → Hangs j k g (Grow l f r) (Grow l h r)
  on_kids l f h r x = inr (inl (refl, x, refl))

  -- on the output itself
  pub on_output : (l : Label) (r : Forest) → is_out l.out j ≡ true
      → Hangs j k g (Grow l Bare r) (Grow (with_out (cond k l.out None) l) g r)
  on_output l r e = inl (e, refl, refl, refl, refl)

-- ---- what comes of it

grow_is : {l m : Label} {f h r s : Forest} → l ≡ m → f ≡ h → r ≡ s → Grow l f r ≡ Grow m h s
grow_is {m = m} {h = h} {r = r} e d c =
    ap₂ (λ (x : Label) (y : Forest). Grow x y r) e d ∙ ap (λ (z : Forest). Grow m h z) c

outs_of : {l m : Label} {f h r s : Forest} → l ≡ m → f ≡ h → r ≡ s
    → outs (Grow l f r) ≡ outs (Grow m h s)
outs_of e d c = ap outs (grow_is e d c)

or_mid : (a b : Bool) → (a || (true || b)) ≡ true
or_mid true b = refl
or_mid false b = refl

or_last : (a b : Bool) → (a || (b || true)) ≡ true
or_last true b = refl
or_last false true = refl
or_last false false = refl

no_out : (a b c : Bool) → (a ≡ true → (b || c) ≡ false) → (b || c) ≡ true → a ≡ false
no_out true b c f e = absurd (false≢true (sym (f refl) ∙ e))
no_out false b c f e = refl

no_kids : (a b : Bool) → (a ≡ true → b ≡ false) → b ≡ true → a ≡ false
no_kids true b f e = absurd (false≢true (sym (f refl) ∙ e))
no_kids false b f e = refl

or_true : (a b : Bool) → b ≡ true → (a || b) ≡ true
or_true true b e = refl
or_true false b e = e

module _ (j : ℕ) (k : Bool) (g : Forest) where
  hangs_has : (f h : Forest) → Hangs j k g f h → has_out j f ≡ true
  hangs_has Bare h x = absurd x
  hangs_has (Grow l kids rest) Bare x = absurd x
  hangs_has (Grow l kids rest) (Grow m over beyond) (inl x) =
      ap (λ (b : Bool). b || (has_out j kids || has_out j rest)) x.0
  hangs_has (Grow l kids rest) (Grow m over beyond) (inr (inl x)) =
      ap (λ (b : Bool). is_out l.out j || (b || has_out j rest)) (hangs_has kids over x.1)
      ∙ or_mid (is_out l.out j) (has_out j rest)
  hangs_has (Grow l kids rest) (Grow m over beyond) (inr (inr x)) =
      ap (λ (b : Bool). is_out l.out j || (has_out j kids || b)) (hangs_has rest beyond x.2)
      ∙ or_last (is_out l.out j) (has_out j kids)

  put_none : (f : Forest) → has_out j f ≡ false → put_in j k g f ≡ f
  put_none Bare h = refl
  put_none (Grow l kids rest) h =
      let a = or_false (is_out l.out j) (has_out j kids || has_out j rest) h in
      let b = or_false (has_out j kids) (has_out j rest) a.1 in
      grow_is (ap (λ (x : Bool). with_out (cond x (cond k l.out None) l.out) l) a.0)
      (ap (λ (x : Bool). cond x (beside kids g) (put_in j k g kids)) a.0
      ∙ put_none kids b.0)
      (ap₂ (λ (x y : Bool). cond (x || y) rest (put_in j k g rest)) a.0 b.0
      ∙ put_none rest b.1)

  hangs_in : (f h : Forest) → Hangs j k g f h → OutsDiffer f → h ≡ put_in j k g f
  hangs_in Bare h x d = absurd x
  hangs_in (Grow l kids rest) Bare x d = absurd x
  hangs_in (Grow l kids rest) (Grow m over beyond) (inl x) d =
      grow_is
      (x.2 ∙ ap (λ (b : Bool). with_out (cond b (cond k l.out None) l.out) l) (sym x.0))
      (x.3 ∙ ap (λ (f : Forest). beside f g) (sym x.1)
      ∙ ap (λ (b : Bool). cond b (beside kids g) (put_in j k g kids)) (sym x.0))
      (x.4 ∙ ap (λ (b : Bool). cond (b || has_out j kids) rest (put_in j k g rest)) (sym x.0))
  hangs_in (Grow l kids rest) (Grow m over beyond) (inr (inl x)) d =
      let on : has_out j kids ≡ true = hangs_has kids over x.1 in
      let off : is_out l.out j ≡ false = no_out (is_out l.out j) (has_out j kids)
      (has_out j rest) (d.0 j) (ap (λ (b : Bool). b || has_out j rest) on) in
      grow_is
      (x.0 ∙ ap (λ (b : Bool). with_out (cond b (cond k l.out None) l.out) l) (sym off))
      (hangs_in kids over x.1 d.2
      ∙ ap (λ (b : Bool). cond b (beside kids g) (put_in j k g kids)) (sym off))
      (x.2 ∙ sym (ap₂ (λ (a b : Bool). cond (a || b) rest (put_in j k g rest)) off on))
  hangs_in (Grow l kids rest) (Grow m over beyond) (inr (inr x)) d =
      let on : has_out j rest ≡ true = hangs_has rest beyond x.2 in
      let none : has_out j kids ≡ false = no_kids (has_out j kids) (has_out j rest) (d.1 j) on in
      let off : is_out l.out j ≡ false = no_out (is_out l.out j) (has_out j kids)
      (has_out j rest) (d.0 j) (or_true (has_out j kids) (has_out j rest) on) in
      grow_is
      (x.0 ∙ ap (λ (b : Bool). with_out (cond b (cond k l.out None) l.out) l) (sym off))
      (x.1 ∙ sym (put_none kids none)
      ∙ ap (λ (b : Bool). cond b (beside kids g) (put_in j k g kids)) (sym off))
      (hangs_in rest beyond x.2 d.3
      ∙ sym (ap₂ (λ (a b : Bool). cond (a || b) rest (put_in j k g rest)) off none))

  pub hangs_put : (f h : Forest) → Hangs j k g f h → OutsDiffer f → has_out j g ≡ false
      → h ≡ kept_by (all_but j k) (grafted j g f)
  hangs_put f h x d none = hangs_in f h x d ∙ put_kept j k g f d none

-- ---- the outputs, in preorder

module _ (j : ℕ) (k : Bool) where
  spliced_first : (xs ys zs : List ℕ) → holds xs j ≡ true
      → spliced j k ys xs ++ zs ≡ spliced j k ys (xs ++ zs)
  spliced_first [] ys zs h = absurd (false≢true h)
  spliced_first (x ∷ xs) ys zs h = by (eqb x j) h (spliced_first xs ys zs)
    where
      by : (b : Bool) → (b || holds xs j) ≡ true
          → (holds xs j ≡ true → spliced j k ys xs ++ zs ≡ spliced j k ys (xs ++ zs))
          → cond b (cond k (x ∷ []) [] ++ (ys ++ xs)) (x ∷ spliced j k ys xs) ++ zs
          ≡ cond b (cond k (x ∷ []) [] ++ (ys ++ (xs ++ zs))) (x ∷ spliced j k ys (xs ++ zs))
      by true e f =
          append_assoc (cond k (x ∷ []) []) (ys ++ xs) zs
          ∙ ap (λ (l : List ℕ). cond k (x ∷ []) [] ++ l) (append_assoc ys xs zs)
      by false e f = ap (λ (l : List ℕ). x ∷ l) (f e)

  spliced_last : (xs ys zs : List ℕ) → holds xs j ≡ false
      → xs ++ spliced j k ys zs ≡ spliced j k ys (xs ++ zs)
  spliced_last [] ys zs h = refl
  spliced_last (x ∷ xs) ys zs h = by (eqb x j) h (spliced_last xs ys zs)
    where
      by : (b : Bool) → (b || holds xs j) ≡ false
          → (holds xs j ≡ false → xs ++ spliced j k ys zs ≡ spliced j k ys (xs ++ zs))
          → x ∷ (xs ++ spliced j k ys zs)
          ≡ cond b (cond k (x ∷ []) [] ++ (ys ++ (xs ++ zs))) (x ∷ spliced j k ys (xs ++ zs))
      by true e f = absurd (false≢true (sym e))
      by false e f = ap (λ (l : List ℕ). x ∷ l) (f e)

  kept_out_list : (b : Bool) (i : ℕ) → out_list (cond b (Some i) None) ≡ cond b (i ∷ []) []
  kept_out_list true i = refl
  kept_out_list false i = refl

  out_spliced : (o : Option ℕ) (ys zs : List ℕ) → is_out o j ≡ true
      → out_list (cond k o None) ++ (ys ++ zs) ≡ spliced j k ys (out_list o ++ zs)
  out_spliced None ys zs h = absurd (false≢true h)
  out_spliced (Some i) ys zs h =
      ap (λ (l : List ℕ). l ++ (ys ++ zs)) (kept_out_list k i)
      ∙ ap (λ (b : Bool). cond b (cond k (i ∷ []) [] ++ (ys ++ zs)) (i ∷ spliced j k ys zs))
      (sym h)

  out_none : (o : Option ℕ) → is_out o j ≡ false → holds (out_list o) j ≡ false
  out_none None h = refl
  out_none (Some i) h = ap (λ (b : Bool). b || false) h

  pub hangs_outs : (g f h : Forest) → Hangs j k g f h → OutsDiffer f
      → outs h ≡ spliced j k (outs g) (outs f)
  hangs_outs g Bare h x d = absurd x
  hangs_outs g (Grow l kids rest) Bare x d = absurd x
  hangs_outs g (Grow l kids rest) (Grow m over beyond) (inl x) d =
      outs_of x.2 x.3 x.4
      ∙ out_spliced l.out (outs g) (outs rest) x.0
      ∙ ap (λ (f : Forest). spliced j k (outs g) (out_list l.out ++ (outs f ++ outs rest)))
      (sym x.1)
  hangs_outs g (Grow l kids rest) (Grow m over beyond) (inr (inl x)) d =
      let on : has_out j kids ≡ true = hangs_has j k g kids over x.1 in
      let off : is_out l.out j ≡ false = no_out (is_out l.out j) (has_out j kids)
      (has_out j rest) (d.0 j) (ap (λ (b : Bool). b || has_out j rest) on) in
      outs_of {f = over} x.0 refl x.2
      ∙ ap (λ (ns : List ℕ). out_list l.out ++ (ns ++ outs rest)) (hangs_outs g kids over x.1 d.2)
      ∙ ap (λ (ns : List ℕ). out_list l.out ++ ns)
      (spliced_first (outs kids) (outs g) (outs rest) (holds_outs kids j ∙ on))
      ∙ spliced_last (out_list l.out) (outs g) (outs kids ++ outs rest) (out_none l.out off)
  hangs_outs g (Grow l kids rest) (Grow m over beyond) (inr (inr x)) d =
      let on : has_out j rest ≡ true = hangs_has j k g rest beyond x.2 in
      let none : has_out j kids ≡ false =
      no_kids (has_out j kids) (has_out j rest) (d.1 j) on in
      let off : is_out l.out j ≡ false = no_out (is_out l.out j) (has_out j kids)
      (has_out j rest) (d.0 j) (or_true (has_out j kids) (has_out j rest) on) in
      outs_of {r = beyond} x.0 x.1 refl
      ∙ ap (λ (ns : List ℕ). out_list l.out ++ (outs kids ++ ns))
      (hangs_outs g rest beyond x.2 d.3)
      ∙ ap (λ (ns : List ℕ). out_list l.out ++ ns)
      (spliced_last (outs kids) (outs g) (outs rest) (holds_outs kids j ∙ none))
      ∙ spliced_last (out_list l.out) (outs g) (outs kids ++ outs rest) (out_none l.out off)
