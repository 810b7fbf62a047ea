-- A well-typed block is sound: each output keeps the type that is told of it.
use Rattle.std.proofs.Common.{◌≡◌, ℕ, zero, suc, Option, Some, None, List, [], ◌∷◌, ◌++◌, length, slice_get, sym, subst, inl, inr}
use Rattle.std.specs.List.{AllByRecursion as Each}
use Rattle.std.specs.Prelude.{slice_set, replicate}
use Rattle.std.proofs.lemmas.List.Elements.{All-append, All-cons, All-nil}
use Rattle.flume_value.specs.declared.value.Value.{Value}
use Rattle.flume_types.specs.declared.types.Ty.{Ty}
use Rattle.flume_types.specs.declared.types.Ty.TheVariants as ty
use Rattle.flume_types.specs.Typing.{Has, AllHave, HaveTypes}
use Rattle.flume_types.proofs.PartLemmas.{Side, list_in, either_in}
use Rattle.dofn_eval.specs.declared.stmt.Stmt.{Stmt}
use Rattle.dofn_eval.specs.Outcome.{Outcome, Gives, Traps, Stuck, with_part}
use Rattle.flume_value.specs.Parts.{members_of, left_of, right_of}
use Rattle.dofn_eval.specs.Answer.{OutputsHave}
use Rattle.dofn_eval.specs.Operations.{chosen}
use Rattle.dofn_eval.specs.Meaning.{expression_value}
use Rattle.dofn_eval.specs.Run.{Emissions, Emits, emitted_to, each, for_each, side_of, by_side, run_statements}
use Rattle.dofn_eval.specs.Typed.{BlockTyped, done, lets, emits, chooses, loops, divides}
use Rattle.dofn_eval.proofs.MeaningLemmas.{run-Let, run-Emit, run-If, run-For, run-Case}
use Rattle.dofn_eval.proofs.SoundOutcomes.{Sound, sound_then, sound_part}
use Rattle.dofn_eval.proofs.SoundOperations.{sound_chosen}
use Rattle.dofn_eval.proofs.SoundExpressions.{sound}

-- ---- outputs

all_push_one : (t : Ty) (vs : List Value) (v : Value) → AllHave t vs → Has t v
    → AllHave t (vs ++ v ∷ [])
all_push_one t vs v h k = All-append (Has t) vs (v ∷ []) h
    (All-cons (Has t) v [] k (All-nil (Has t)))

-- behind the list of one output more
one_more : (u : Ty) (vs : List Value) (ts : List Ty) (o : Option (List Value))
    (g : List Value → Emissions) → AllHave u vs
    → Sound (OutputsHave ts) (with_part o (λ ws. Gives (g ws)))
    → Sound (OutputsHave (u ∷ ts)) (with_part o (λ ws. Gives (vs ∷ g ws)))
one_more u vs ts (Some ws) g h s = (h, s)
one_more u vs ts None g h s = absurd s

sound_emitted : (ts : List Ty) (out : Emissions) (n : ℕ) (t : Ty) (v : Value) → slice_get ts n
    ≡ Some t → OutputsHave ts out → Has t v → Sound (OutputsHave ts) (emitted_to n v out)
sound_emitted [] out n t v e h k = cc
sound_emitted (u ∷ ts) [] n t v e h k = absurd h
sound_emitted (u ∷ ts) (vs ∷ out) zero t v e h k = let same : t
    ≡ u = cc in (all_push_one u vs v h.0 (subst (λ r. Has r v) same k), h.1)
sound_emitted (u ∷ ts) (vs ∷ out) (suc n) t v e h k =
    one_more u vs ts (slice_get out n) (λ ws. slice_set out n (ws ++ v ∷ [])) h.0
    (sound_emitted ts out n t v e h.1 k)

pub none_yet : (ts : List Ty) → OutputsHave ts (replicate (length ts) [])
none_yet [] = tt
none_yet (t ∷ ts) = (All-nil (Has t), none_yet ts)

-- ---- blocks

abbrev SoundBody : Emits → Ty → List Ty → List Value → Type 0
SoundBody f u ts env = (v : Value) (out : Emissions) → Has u v → OutputsHave ts out
    → Sound (OutputsHave ts) (f (v ∷ env) out)

sound_turns : (f : Emits) (u : Ty) (ts : List Ty) (env : List Value) → SoundBody f u ts env
    → (xs : List Value) (out : Emissions) → Each (Has u) xs → OutputsHave ts out
    → Sound (OutputsHave ts) (each f xs env out)
sound_turns f u ts env s [] out h o = o
sound_turns f u ts env s (x ∷ xs) out h o =
    sound_then (OutputsHave ts) (OutputsHave ts) (f (x ∷ env) out) _ (s x out h.0 o)
    (λ more p. sound_turns f u ts env s xs more h.1 p)

sound_for : (f : Emits) (u : Ty) (ts : List Ty) (env : List Value) → SoundBody f u ts env
    → (o : Outcome Value) (out : Emissions) → Sound (Has (ty.List u)) o → OutputsHave ts out
    → Sound (OutputsHave ts) (for_each f o env out)
sound_for f u ts env s (Gives x) out h p =
    sound_part (Each (Has u)) (OutputsHave ts) (members_of x) _ (list_in x u h)
    (λ xs k. sound_turns f u ts env s xs out k p)
sound_for f u ts env s (Traps k) out h p = tt
sound_for f u ts env s Stuck out h p = absurd h

sound_side : (f g : Emits) (u w : Ty) (ts : List Ty) (env : List Value) → SoundBody f u ts env
    → SoundBody g w ts env → (l r : Option Value) (out : Emissions) → Side l r u w
    → OutputsHave ts out → Sound (OutputsHave ts) (side_of f g l r env out)
sound_side f g u w ts env s q l r out (x, inl (e, h)) p =
    subst (λ m. Sound (OutputsHave ts) (side_of f g m r env out)) (sym e) (s x out h p)
sound_side f g u w ts env s q l r out (x, inr (e, e', h)) p =
    subst (λ m. Sound (OutputsHave ts) (side_of f g m r env out)) (sym e)
    (subst (λ m. Sound (OutputsHave ts) (side_of f g None m env out)) (sym e') (q x out h p))

sound_case : (f g : Emits) (u w : Ty) (ts : List Ty) (env : List Value) → SoundBody f u ts env
    → SoundBody g w ts env → (o : Outcome Value) (out : Emissions) → Sound (Has (ty.Either u w)) o
    → OutputsHave ts out → Sound (OutputsHave ts) (by_side f g o env out)
sound_case f g u w ts env s q (Gives x) out h p =
    sound_side f g u w ts env s q (left_of x) (right_of x) out (either_in x u w h) p
sound_case f g u w ts env s q (Traps k) out h p = tt
sound_case f g u w ts env s q Stuck out h p = absurd h

pub sound_block : (scope : List Ty) (b : List Stmt) (ts : List Ty) (env : List Value)
    (out : Emissions) → BlockTyped scope b ts → HaveTypes scope env → OutputsHave ts out
    → Sound (OutputsHave ts) (run_statements b env out)
sound_block scope _ ts env out done k o = o
sound_block scope _ ts env out (lets {e = e} {rest = rest} {u = u} d r) k o =
    subst (Sound (OutputsHave ts)) (sym (run-Let e rest env out))
    (sound_then (Has u) (OutputsHave ts) (expression_value e env) _ (sound scope e u env d k)
    (λ v g. sound_block (u ∷ scope) rest ts (v ∷ env) out r (g, k) o))
sound_block scope _ ts env out (emits n {e = e} {rest = rest} {t = t} is d r) k o =
    subst (Sound (OutputsHave ts)) (sym (run-Emit n e rest env out))
    (sound_then (Has t) (OutputsHave ts) (expression_value e env) _ (sound scope e t env d k)
    (λ v g. sound_then (OutputsHave ts) (OutputsHave ts) (emitted_to n v out)
    (run_statements rest env)
    (sound_emitted ts out n t v is o g) (λ more m. sound_block scope rest ts env more r k m)))
sound_block scope _ ts env out (chooses {c = c} {a = a} {b = b} {rest = rest} d p q r) k o =
    subst (Sound (OutputsHave ts)) (sym (run-If c a b rest env out))
    (sound_then (OutputsHave ts) (OutputsHave ts)
    (chosen (expression_value c env) (run_statements a env out) (run_statements b env out)) _
    (sound_chosen (OutputsHave ts) (expression_value c env) _ _ (sound scope c ty.Bool env d k)
    (sound_block scope a ts env out p k o) (sound_block scope b ts env out q k o))
    (λ more m. sound_block scope rest ts env more r k m))
sound_block scope _ ts env out (loops {e = e} {a = a} {rest = rest} {u = u} d p r) k o =
    subst (Sound (OutputsHave ts)) (sym (run-For e a rest env out))
    (sound_then (OutputsHave ts) (OutputsHave ts) (for_each (run_statements a)
    (expression_value e env) env out) _
    (sound_for (run_statements a) u ts env (λ v more g m. sound_block (u ∷ scope) a ts (v ∷ env)
    more p (g, k)
    m) (expression_value e env) out (sound scope e (ty.List u) env d k) o)
    (λ more m. sound_block scope rest ts env more r k m))
sound_block scope _ ts env out
    (divides {e = e} {a = a} {b = b} {rest = rest} {u = u} {w = w} d p q r) k o =
    subst (Sound (OutputsHave ts)) (sym (run-Case e a b rest env out))
    (sound_then (OutputsHave ts) (OutputsHave ts) (by_side (run_statements a) (run_statements b)
    (expression_value e env) env out)
    _
    (sound_case (run_statements a) (run_statements b) u w ts env
    (λ v more g m. sound_block (u ∷ scope) a ts (v ∷ env) more p (g, k) m)
    (λ v more g m. sound_block (w ∷ scope) b ts (v ∷ env) more q (g, k) m) (expression_value e env)
    out
    (sound scope e (ty.Either u w) env d k) o)
    (λ more m. sound_block scope rest ts env more r k m))
