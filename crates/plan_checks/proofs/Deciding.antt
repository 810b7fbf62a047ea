-- The tests of plans say what the rules say.
use Rattle.std.proofs.Common.{◌≡◌, ℕ, ◌+◌, ◌<◌, ◌≤◌, ◌^◌, Bool, true, false, cond, not, eqb, leb, ltb, ◌&&◌, ◌||◌, List, [], ◌∷◌, ◌++◌, length, get_or, drop, drop-cons, Option, Some, None, suc, refl, sym, ap, ◌∙◌, subst, arith, add-one}
use Rattle.std.proofs.lemmas.Bool.{eqb-true, eq-eqb, false≢true}
use Rattle.std.proofs.lemmas.Bool.Decides.{nat_tests}
use Rattle.std.specs.Bool.{Decides}
use Rattle.std.specs.List.{AllByRecursion, list_all, slice_get}
use Rattle.combine_table.specs.declared.comb.Comb.{Comb}
use Rattle.exec_graph.specs.Forests.{Label, Forest, Bare, Grow, next_after, after_out, new_label, new_out, numbered, with_out}
use Rattle.exec_graph.specs.Wellformed.{root_comb}
use Rattle.graph_checks.proofs.Combs.{comb_from, comb_to}
use Rattle.exec_plan.specs.declared.plan.PlanPlace.{PlanPlace}
use Rattle.exec_plan.specs.declared.plan.PlanPlace.TheVariants as at
use Rattle.exec_plan.specs.declared.plan.Take.{Take}
use Rattle.exec_plan.specs.declared.plan.InChannel.{InChannel}
use Rattle.exec_plan.specs.declared.plan.Grouping.{Grouping}
use Rattle.exec_plan.specs.declared.plan.OutChannel.{OutChannel}
use Rattle.exec_plan.specs.declared.plan.OutChannel.TheVariants.{Group, Pass}
use Rattle.exec_plan.specs.declared.plan.Mscr.{Mscr as Channels}
use Rattle.exec_plan.specs.declared.plan.Stage.{Stage}
use Rattle.exec_plan.specs.declared.plan.Stage.TheVariants.{Mscr, Flatten, Operate}
use Rattle.exec_plan.specs.declared.plan.Plan.{Plan}
use Rattle.exec_plan.specs.Wellformed.{AreOutChannels, AreStages, stage_has_objects, Exists, IsGroupOk, IsLiftOk, IsPlaceSoFar, IsMscrOk, IsNumbered, IsOutOk, IsPlanOk, IsStageOk, is_pass, most_channels, outputs_count_at, results_at, results_given}
use Rattle.exec_plan.specs.Meaning.{in_reads}
use Rattle.plan_checks.specs.inner.Counts.{out_from, outs_from, then_from}
use Rattle.plan_checks.specs.inner.Tests.{combines_by, exists_test, group_test, in_test, is_there, lift_test, made_test, mscr_test, numbered_test, out_test, outs_test, plan_test, stage_test, stages_test}

-- ---- tests of parts
and_decides : {P Q : Type 0} (a b : Bool) → Decides a P → Decides b Q → Decides (a && b) (P × Q)
and_decides true true d e = (λ h. (d.0 refl, e.0 refl), λ p. refl)
and_decides true false d e = (λ h. absurd (false≢true h), λ p. e.1 p.1)
and_decides false b d e = (λ h. absurd (false≢true h), λ p. d.1 p.0)

all_decides : {X : Type 0} (f : X → Bool) (P : X → Type 0) → ((x : X) → Decides (f x) (P x))
    → (xs : List X) → Decides (list_all f xs) (AllByRecursion P xs)
all_decides f P d [] = (λ h. tt, λ h. refl)
all_decides f P d (x ∷ xs) = and_decides (f x) (list_all f xs) (d x) (all_decides f P d xs)

as_decides : {P Q : Type 0} (a : Bool) → Decides a P → (P → Q) → (Q → P) → Decides a Q
as_decides a d f g = (λ h. f (d.0 h), λ q. d.1 (g q))

not_decides : (a : Bool) → Decides (not a) (a ≡ false)
not_decides true = (λ h. absurd (false≢true h), λ p. absurd (false≢true (sym p)))
not_decides false = (λ h. refl, λ p. refl)

less_decides : (a b : ℕ) → Decides (ltb a b) (a < b)
less_decides a b = grind (arith, nat_tests)

most_decides : (a b : ℕ) → Decides (leb a b) (a ≤ b)
most_decides a b = grind (arith, nat_tests)

same_decides : (a b : ℕ) → Decides (eqb a b) (a ≡ b)
same_decides a b = (λ h. eqb-true a b h, λ p. eq-eqb a b p)

-- ---- forests
kept_by : (n j k : ℕ) (b : Bool) → eqb j n ≡ b → cond b (Some (n + 1)) None ≡ Some k
    → (Some n ≡ Some j) × (k ≡ n + 1)
kept_by n j k true e h = (ap (λ (x : ℕ). Some x) (sym (eqb-true j n e)), cc)
kept_by n j k false e h = let bad : ⊥ = cc in absurd bad

out_kept : (n : ℕ) (o : Option ℕ) → (new_out n o ≡ o → out_from n o ≡ Some (after_out n o))
    × ((k : ℕ) → out_from n o ≡ Some k → (new_out n o ≡ o) × (k ≡ after_out n o))
out_kept n None = (λ h. refl, λ k h. (refl, cc))
out_kept n (Some j) = (
  λ h. let e : n ≡ j = cc in rw (eq-eqb j n (sym e)) refl,
  λ k h. kept_by n j k (eqb j n) refl h,
)

grow_parts : (l m : Label) (a b c d : Forest) → Grow l a b ≡ Grow m c d
    → (l ≡ m) × (a ≡ c) × (b ≡ d)
grow_parts l m a b c d h = (cc, cc, cc)

label_out : (n : ℕ) (l : Label) → new_out n l.out ≡ l.out → new_label n l ≡ l
label_out n l h = ap (λ (o : Option ℕ). with_out o l) h

numbered_found : (n : ℕ) (f : Forest) → numbered n f ≡ f → outs_from n f ≡ Some (next_after n f)
numbered_found n Bare h = refl
numbered_found n (Grow l kids rest) h =
    let p = grow_parts (new_label n l) l (numbered (after_out n l.out) kids)
    (numbered (next_after (after_out n l.out) kids) rest) kids rest h in
    let o : new_out n l.out ≡ l.out = ap (λ (m : Label). m.out) p.0 in
    rw ((out_kept n l.out).0 o) (rw (numbered_found (after_out n l.out) kids p.1)
    (numbered_found (next_after (after_out n l.out) kids) rest p.2))

found_then : (o : Option ℕ) (f : ℕ → Option ℕ) (k : ℕ) → then_from o f ≡ Some k
    → (i : ℕ) × (o ≡ Some i) × (f i ≡ Some k)
found_then None f k h = let bad : ⊥ = cc in absurd bad
found_then (Some i) f k h = (i, refl, h)

found_numbered : (n : ℕ) (f : Forest) (k : ℕ) → outs_from n f ≡ Some k
    → (numbered n f ≡ f) × (k ≡ next_after n f)
found_numbered n Bare k h = (refl, cc)
found_numbered n (Grow l kids rest) k h =
    let a = found_then (then_from (out_from n l.out) (λ k. outs_from k kids))
    (λ k. outs_from k rest) k h in
    let b = found_then (out_from n l.out) (λ k. outs_from k kids) a.0 a.1 in
    let o = (out_kept n l.out).1 b.0 b.1 in
    let x = found_numbered b.0 kids a.0 b.2 in
    let y = found_numbered a.0 rest k a.2 in
    let e : b.0 ≡ after_out n l.out = o.1 in
    let x' : numbered (after_out n l.out) kids ≡ kids =
    subst (λ (i : ℕ). numbered i kids ≡ kids) e x.0 in
    let e' : a.0 ≡ next_after (after_out n l.out) kids =
    x.1 ∙ ap (λ (i : ℕ). next_after i kids) e in
    let y' : numbered (next_after (after_out n l.out) kids) rest ≡ rest =
    subst (λ (i : ℕ). numbered i rest ≡ rest) e' y.0 in (
      ap (λ (m : Label). Grow m (numbered (after_out n l.out) kids)
          (numbered (next_after (after_out n l.out) kids) rest)) (label_out n l o.0)
          ∙ ap (λ (t : Forest). Grow l t (numbered (next_after (after_out n l.out) kids) rest)) x'
          ∙ ap (λ (t : Forest). Grow l kids t) y',
      y.1 ∙ ap (λ (i : ℕ). next_after i rest) e',
    )

there_decides : (n : ℕ) (f : Forest) (o : Option ℕ) → outs_from n f ≡ o
    → Decides (is_there o) (numbered n f ≡ f)
there_decides n f None e = (
  λ h. absurd (false≢true h),
  λ p. let bad : ⊥ = (let x : None ≡ Some (next_after n f) = sym e ∙ numbered_found n f p in cc) in
      absurd bad,
)
there_decides n f (Some k) e = (λ h. (found_numbered n f k e).0, λ p. refl)

numbered_decides : (f : Option Forest) → Decides (numbered_test f) (IsNumbered f)
numbered_decides None = (λ h. tt, λ p. refl)
numbered_decides (Some f) = there_decides 0 f (outs_from 0 f) refl

-- ---- combiners
combines_decides : (k : Comb) (o : Option Comb) → Decides (combines_by k o) (o ≡ Some k)
combines_decides k None = (λ h. absurd (false≢true h), λ p. let bad : ⊥ = cc in absurd bad)
combines_decides k (Some root) = (
  λ h. ap (λ (r : Comb). Some r) (comb_from root k h),
  λ p. ap (combines_by k) p ∙ comb_to k,
)

lift_decides : (k : Option Comb) (f : Option Forest) → Decides (lift_test k f) (IsLiftOk k f)
lift_decides None f = (λ h. tt, λ p. refl)
lift_decides (Some k) None = (λ h. absurd (false≢true h), λ p. absurd p)
lift_decides (Some k) (Some f) = combines_decides k (root_comb f)

-- ---- channels
exists_decides : (ins : List InChannel) (k : Take) → Decides (exists_test ins k) (Exists ins k)
exists_decides ins k = less_decides k.out (outputs_count_at (slice_get ins k.channel))

group_decides : (ins : List InChannel) (passed : Bool) (n : ℕ) (g : Grouping)
    → Decides (group_test ins passed n g) (IsGroupOk ins passed n g)
group_decides ins passed n g =
    let steps : Bool = numbered_test g.does && lift_test g.lifted g.does in
    let takes : Bool = list_all (exists_test ins) g.takes && steps in
    as_decides (group_test ins passed n g)
    (and_decides (not passed) (eqb g.first n && takes) (not_decides passed)
    (and_decides (eqb g.first n) takes (same_decides g.first n)
    (and_decides (list_all (exists_test ins) g.takes) steps
    (all_decides (exists_test ins) (Exists ins) (exists_decides ins) g.takes)
    (and_decides (numbered_test g.does) (lift_test g.lifted g.does) (numbered_decides g.does)
    (lift_decides g.lifted g.does)))))
    (λ p. record {
      before = p.0;
      first = p.1.0;
      takes = p.1.1.0;
      steps = p.1.1.1.0;
      lift = p.1.1.1.1;
    })
    (λ q. (q.before, (q.first, (q.takes, (q.steps, q.lift)))))

out_decides : (ins : List InChannel) (passed : Bool) (n : ℕ) (c : OutChannel)
    → Decides (out_test ins passed n c) (IsOutOk ins passed n c)
out_decides ins passed n (Group g) = group_decides ins passed n g
out_decides ins passed n (Pass k i) =
    and_decides (eqb i n) (exists_test ins k) (same_decides i n) (exists_decides ins k)

outs_decides : (ins : List InChannel) (passed : Bool) (n : ℕ) (cs : List OutChannel)
    → Decides (outs_test ins passed n cs) (AreOutChannels ins passed n cs)
outs_decides ins passed n [] = (λ h. tt, λ p. refl)
outs_decides ins passed n (c ∷ cs) =
    and_decides (out_test ins passed n c) (outs_test ins (passed || is_pass c) (n + results_given c)
    cs)
    (out_decides ins passed n c) (outs_decides ins (passed || is_pass c) (n + results_given c) cs)

pub outs_step : (ins : List InChannel) (passed q : Bool) (k i : ℕ) (outs : List OutChannel)
    (o : OutChannel) → i < length outs → o ≡ get_or outs i o → out_test ins passed k o ≡ true
    → q ≡ (passed || is_pass o)
    → outs_test ins q (k + results_given o) (drop (i + 1) outs)
    ≡ outs_test ins passed k (drop i outs)
outs_step ins passed q k i outs o lt at ok later =
    let d : drop i outs ≡ o ∷ drop (i + 1) outs = drop-cons outs i o lt
    ∙ ap (λ (x : OutChannel). x ∷ drop (suc i) outs) (sym at)
    ∙ ap (λ (n : ℕ). o ∷ drop n outs) (sym (add-one i)) in
    ap (λ (b : Bool). outs_test ins b (k + results_given o) (drop (i + 1) outs)) later
    ∙ sym (ap (outs_test ins passed k) d
    ∙ ap (λ (b : Bool). b && outs_test ins (passed || is_pass o) (k + results_given o)
    (drop (i + 1) outs)) ok)

-- ---- stages
made_decides : (n : ℕ) (before : List Stage) (c : PlanPlace)
    → Decides (made_test n before c) (IsPlaceSoFar n before c)
made_decides n before (at.Source i) = less_decides i n
made_decides n before (at.Result k i) = less_decides i (results_at before k)

in_decides : (n : ℕ) (before : List Stage) (c : InChannel)
    → Decides (in_test n before c)
    (AllByRecursion (IsPlaceSoFar n before) (in_reads c) × IsNumbered c.does)
in_decides n before c =
    and_decides (list_all (made_test n before) (in_reads c)) (numbered_test c.does)
    (all_decides (made_test n before) (IsPlaceSoFar n before) (made_decides n before) (in_reads c))
    (numbered_decides c.does)

both : {X : Type 0} (P Q : X → Type 0) (xs : List X) → AllByRecursion (λ x. P x × Q x) xs
    → AllByRecursion P xs × AllByRecursion Q xs
both P Q [] a = (tt, tt)
both P Q (x ∷ xs) a = let r = both P Q xs a.1 in ((a.0.0, r.0), (a.0.1, r.1))

apart : {X : Type 0} (P Q : X → Type 0) (xs : List X) → AllByRecursion P xs
    → AllByRecursion Q xs → AllByRecursion (λ x. P x × Q x) xs
apart P Q [] a b = tt
apart P Q (x ∷ xs) a b = ((a.0, b.0), apart P Q xs a.1 b.1)

mscr_decides : (n : ℕ) (before : List Stage) (m : Channels)
    → Decides (mscr_test n before m) (IsMscrOk n before m)
mscr_decides n before m =
    let P : InChannel → Type 0 = λ c. AllByRecursion (IsPlaceSoFar n before) (in_reads c) in
    let Q : InChannel → Type 0 = λ c. IsNumbered c.does in
    let outs : Bool = outs_test m.inputs false 0 m.outputs in
    let ins : Bool = list_all (in_test n before) m.inputs && outs in
    let few : Bool = leb (length m.outputs) most_channels && ins in
    as_decides (mscr_test n before m)
    (and_decides (ltb 0 (length m.inputs)) (leb (length m.inputs) most_channels && few)
    (less_decides 0 (length m.inputs))
    (and_decides (leb (length m.inputs) most_channels) few
    (most_decides (length m.inputs) most_channels)
    (and_decides (leb (length m.outputs) most_channels) ins
    (most_decides (length m.outputs) most_channels)
    (and_decides (list_all (in_test n before) m.inputs) outs
    (all_decides (in_test n before) (λ c. P c × Q c) (in_decides n before) m.inputs)
    (outs_decides m.inputs false 0 m.outputs)))))
    (λ p. let r = both P Q m.inputs p.1.1.1.0 in record {
      some = p.0;
      few_inputs = p.1.0;
      few_outputs = p.1.1.0;
      reads = r.0;
      steps = r.1;
      channels = p.1.1.1.1;
    })
    (λ q. (
      q.some,
      (
        q.few_inputs,
        (
          q.few_outputs,
          (
            apart P Q m.inputs q.reads q.steps,
            q.channels,
          ),
        ),
      ),
    ))

stage_decides : (n : ℕ) (before : List Stage) (s : Stage)
    → Decides (stage_test n before s) (IsStageOk n before s)
stage_decides n before (Mscr m) = mscr_decides n before m
stage_decides n before (Flatten takes) =
    all_decides (made_test n before) (IsPlaceSoFar n before) (made_decides n before) takes
stage_decides n before (Operate takes o l a) =
    all_decides (made_test n before) (IsPlaceSoFar n before) (made_decides n before) takes

stages_decides : (n : ℕ) (before ss : List Stage)
    → Decides (stages_test n before ss) (AreStages n before ss)
stages_decides n before [] = (λ h. tt, λ p. refl)
stages_decides n before (s ∷ ss) =
    and_decides (stage_test n before s) (stages_test n (before ++ s ∷ []) ss)
    (stage_decides n before s) (stages_decides n (before ++ s ∷ []) ss)

-- ---- plans
plan_decides : (p : Plan) → Decides (plan_test p) (IsPlanOk p)
plan_decides p =
    let some : Stage → Bool = stage_has_objects p.objects p.stages in
    let objects : Bool = list_all some p.stages in
    let few : Bool = ltb (length p.stages) (2 ^ 32) in
    let made : Bool = list_all (made_test p.sources p.stages) p.outputs in
    as_decides (plan_test p)
    (and_decides (stages_test p.sources [] p.stages) (made && (few && objects))
    (stages_decides p.sources [] p.stages)
    (and_decides made (few && objects)
    (all_decides (made_test p.sources p.stages) (IsPlaceSoFar p.sources p.stages)
    (made_decides p.sources p.stages) p.outputs)
    (and_decides few objects (less_decides (length p.stages) (2 ^ 32))
    (all_decides some (λ s. some s ≡ true) (λ s. (λ h. h, λ h. h)) p.stages))))
    (λ h. record { stages = h.0; outputs = h.1.0; few = h.1.1.0; objects = h.1.1.1 })
    (λ q. (q.stages, (q.outputs, (q.few, q.objects))))

pub plan_is_ok : (p : Plan) (r : Bool) → r ≡ plan_test p
    → (r ≡ true → IsPlanOk p) × (IsPlanOk p → r ≡ true)
plan_is_ok p r e = let d = plan_decides p in (λ h. d.0 (sym e ∙ h), λ q. e ∙ d.1 q)
