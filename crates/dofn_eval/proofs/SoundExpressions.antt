-- A well-typed expression is sound: it meets no operand of another type, and gives its own.
use Rattle.std.proofs.Common.{true, false, List, [], ◌∷◌, ◌++◌, sym, subst, append-nil, append_assoc}
use Rattle.std.specs.List.{AllByRecursion as Each}
use Rattle.flume_value.specs.declared.value.Value.{Value}
use Rattle.flume_types.specs.declared.types.Ty.{Ty}
use Rattle.flume_types.specs.declared.types.Ty.TheVariants as ty
use Rattle.flume_types.specs.Typing.{Has, HaveTypes, types_of}
use Rattle.flume_types.proofs.PartLemmas.{has_bool, has_list, has_record}
use Rattle.dofn_eval.specs.declared.expr.Expr.{Expr}
use Rattle.flume_value.proofs.EachLemmas.{Each-append}
use Rattle.dofn_eval.specs.Operations.{field_in, member_in, of_one, of_two}
use Rattle.dofn_eval.specs.Meaning.{part_values, expression_value}
use Rattle.dofn_eval.specs.Typed.{Typed, AllTyped, EachTyped, literal, variable, field, fields, members, unary, binary, and, or, index, pick, all_end, all_more, each_end, each_more}
use Rattle.dofn_eval.proofs.MeaningLemmas.{value_of-Literal, value_of-Variable, value_of-Field, value_of-Record, value_of-List, value_of-Unary, value_of-Binary, value_of-And, value_of-Or, value_of-Index, value_of-Pick}
use Rattle.dofn_eval.proofs.SoundOutcomes.{Sound, sound_then, sound_both}
use Rattle.dofn_eval.proofs.SoundOperations.{sound_one, sound_two, sound_slot, sound_field, sound_index, sound_chosen}

all_push : (ts : List Ty) (vs : List Value) (u : Ty) (v : Value) → HaveTypes ts vs → Has u v
    → HaveTypes (ts ++ u ∷ []) (vs ++ v ∷ [])
all_push [] [] u v h k = (k, tt)
all_push (t ∷ ts) [] u v h k = absurd h
all_push [] (w ∷ vs) u v h k = absurd h
all_push (t ∷ ts) (w ∷ vs) u v h k = (h.0, all_push ts vs u v h.1 k)

each_push : (t : Ty) (xs : List Value) (v : Value) → Each (Has t) xs → Has t v
    → Each (Has t) (xs ++ v ∷ [])
each_push t xs v h k = Each-append (Has t) xs (v ∷ []) h (k, tt)

mutual
  pub sound : (scope : List Ty) (e : Expr) (t : Ty) (env : List Value) → Typed scope e t
      → HaveTypes scope env → Sound (Has t) (expression_value e env)
  sound scope _ t env (literal v h) k = subst (Sound (Has t)) (sym (value_of-Literal v env)) h
  sound scope _ t env (variable i h) k =
      subst (Sound (Has t)) (sym (value_of-Variable i env)) (sound_slot scope env i t k h)
  sound scope _ _ env (field {a = a} fs i {f = f} d h) k =
      subst (Sound (Has f.ty)) (sym (value_of-Field a i env))
      (sound_then (Has (ty.Rec fs)) (Has f.ty) (expression_value a env) (field_in i)
      (sound scope a (ty.Rec fs) env d k) (λ x g. sound_field fs i f x h g))
  sound scope _ _ env (fields {es = es} fs d) k =
      subst (Sound (Has (ty.Rec fs))) (sym (value_of-Record es env))
      (sound_then (HaveTypes (types_of fs)) (Has (ty.Rec fs))
      (part_values expression_value es env []) _
      (sound_all scope es (types_of fs) env [] [] d k tt) (λ xs p. has_record fs xs p))
  sound scope _ _ env (members {es = es} {t = t} d) k =
      subst (Sound (Has (ty.List t))) (sym (value_of-List es env))
      (sound_then (Each (Has t)) (Has (ty.List t)) (part_values expression_value es env []) _
      (sound_each scope es t env [] d k tt) (λ xs p. has_list t xs p))
  sound scope _ t env (unary {op = op} {a = a} {u = u} o d) k =
      subst (Sound (Has t)) (sym (value_of-Unary op a env))
      (sound_then (Has u) (Has t) (expression_value a env) (of_one op) (sound scope a u env d k)
      (λ x g. sound_one op u t x o g))
  sound scope _ t env (binary {op = op} {a = a} {b = b} {u = u} {w = w} o d e) k =
      subst (Sound (Has t)) (sym (value_of-Binary op a b env))
      (sound_both (Has u) (Has w) (Has t) (expression_value a env) (expression_value b env)
      (of_two op)
      (sound scope a u env d k) (sound scope b w env e k)
      (λ x y g h. sound_two op u w t x y o g h))
  sound scope _ _ env (and {a = a} {b = b} d e) k =
      subst (Sound (Has ty.Bool)) (sym (value_of-And a b env))
      (sound_chosen (Has ty.Bool) (expression_value a env) _ _ (sound scope a ty.Bool env d k)
      (sound scope b ty.Bool env e k) (has_bool false))
  sound scope _ _ env (or {a = a} {b = b} d e) k =
      subst (Sound (Has ty.Bool)) (sym (value_of-Or a b env))
      (sound_chosen (Has ty.Bool) (expression_value a env) _ _ (sound scope a ty.Bool env d k)
      (has_bool true) (sound scope b ty.Bool env e k))
  sound scope _ t env (index {a = a} {b = b} d e) k =
      subst (Sound (Has t)) (sym (value_of-Index a b env))
      (sound_both (Has (ty.List t)) (Has ty.Int) (Has t) (expression_value a env)
      (expression_value b env) member_in
      (sound scope a (ty.List t) env d k) (sound scope b ty.Int env e k)
      (λ x y g h. sound_index t x y g h))
  sound scope _ t env (pick {c = c} {a = a} {b = b} d e f) k =
      subst (Sound (Has t)) (sym (value_of-Pick c a b env))
      (sound_chosen (Has t) (expression_value c env) _ _ (sound scope c ty.Bool env d k)
      (sound scope a t env e k) (sound scope b t env f k))

  sound_all : (scope : List Ty) (es : List Expr) (ts : List Ty) (env : List Value) (ds : List Ty)
      (made : List Value) → AllTyped scope es ts → HaveTypes scope env → HaveTypes ds made
      → Sound (HaveTypes (ds ++ ts)) (part_values expression_value es env made)
  sound_all scope _ _ env ds made all_end k d =
      subst (λ us. HaveTypes us made) (sym (append-nil ds)) d
  sound_all scope _ _ env ds made (all_more {ts = ts} {es = es} {e = e} {t = t} h rest) k d =
      sound_then (Has t) (HaveTypes (ds ++ t ∷ ts)) (expression_value e env) _
      (sound scope e t env h k)
      (λ v g. subst (λ us. Sound (HaveTypes us) (part_values expression_value es env
      (made ++ v ∷ [])))
      (append_assoc ds (t ∷ []) ts)
      (sound_all scope es ts env (ds ++ t ∷ []) (made ++ v ∷ []) rest k (all_push ds made t v d g)))

  sound_each : (scope : List Ty) (es : List Expr) (t : Ty) (env : List Value) (made : List Value)
      → EachTyped scope es t → HaveTypes scope env → Each (Has t) made
      → Sound (Each (Has t)) (part_values expression_value es env made)
  sound_each scope _ t env made each_end k d = d
  sound_each scope _ t env made (each_more {es = es} {e = e} h rest) k d =
      sound_then (Has t) (Each (Has t)) (expression_value e env) _ (sound scope e t env h k)
      (λ v g. sound_each scope es t env (made ++ v ∷ []) rest k (each_push t made v d g))
