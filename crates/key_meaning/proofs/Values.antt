-- The line of an expression has no part in what it gives.
use Rattle.std.proofs.Common.{◌≡◌, ℕ, List, [], ◌∷◌, ◌++◌, map, Ok, Err, refl, sym, ap, ◌∙◌, subst}
use Rattle.flume_value.specs.declared.value.Value.{Value}
use Rattle.flume_value.specs.declared.value.Value.TheVariants as value
use Rattle.flume_types.specs.declared.types.Ty.{Ty}
use Rattle.flume_types.specs.declared.types.Ty.TheVariants as ty
use Rattle.flume_grammar.specs.declared.tree.Expr.{Expr, Expr-F, out-Expr, roll-Expr}
use Rattle.flume_grammar.specs.declared.tree.Expr.{out-roll-Expr, map-Expr, ind-Expr, fold_out-Expr}
use Rattle.dofn_eval.specs.Outcome.{Outcome, Gives, then, then_both}
use Rattle.dofn_eval.specs.Operations.{chosen, member_in, of_one}
use Rattle.dofn_eval.proofs.MeaningLemmas.{then_same}
use Rattle.written_types.specs.Answer.{Checked}
use Rattle.written_types.specs.Named.{Named}
use Rattle.written_types.specs.Written.{whole_type}
use Rattle.expression_types.specs.Operators.{concat, unary_slot, operator, side_slot}
use Rattle.expression_types.specs.Types.{either_of, index_type, unary_type}
use Rattle.expression_check.specs.Given.{Environment, Thing, all_given, dotted_thing, given_in, layer_given}
use Rattle.expression_check.specs.Given.{list_of_things, operated_thing, recorded, tagged, typed, valued, with_type}
use Rattle.key_meaning.proofs.Lines.{found, found_whole}

with_found : (r q : Checked Ty) (f g : Ty → Outcome Thing) → found r ≡ found q
    → ((t : Ty) → f t ≡ g t) → with_type r f ≡ with_type q g
with_found (Ok x) (Ok y) f g same rest =
    let e : x ≡ y = cc in
    rest x ∙ ap g e
with_found (Ok x) (Err e) f g same rest = cc
with_found (Err e) (Ok y) f g same rest = cc
with_found (Err e) (Err d) f g same rest = refl

module _ (line other : ℕ) (known : Named Ty) where
  abbrev SameValue : Expr → Type 0
  SameValue e =
      (env : Environment) → given_in line known e env ≡ given_in other known e env

  abbrev plain : (e : Expr) × SameValue e → Expr
  plain p = p.0

  abbrev Meaning : Type 0
  Meaning = Environment → Outcome Thing

  abbrev here : Expr → Meaning
  here = given_in line known

  abbrev there : Expr → Meaning
  there = given_in other known

  same_parts : (parts : List ((e : Expr) × SameValue e)) (env : Environment) (types : List Ty)
      (values : List Value)
      → all_given (λ m. m) (map here (map plain parts)) env types values
      ≡ all_given (λ m. m) (map there (map plain parts)) env types values
  same_parts [] env types values = refl
  same_parts (p ∷ parts) env types values =
      let rest = λ (x : Thing).
      all_given (λ m. m) (map here (map plain parts)) env (types ++ x.0 ∷ [])
      (values ++ x.1 ∷ []) in
      let rest_ = λ (x : Thing).
      all_given (λ m. m) (map there (map plain parts)) env (types ++ x.0 ∷ [])
      (values ++ x.1 ∷ []) in
      ap (λ (o : Outcome Thing). then o rest) (p.1 env)
      ∙ then_same (there p.0 env) rest rest_
      (λ x. same_parts parts env (types ++ x.0 ∷ []) (values ++ x.1 ∷ []))

  abbrev AtForm : Environment → Expr-F Expr → Type 0
  AtForm env z =
      layer_given line known (λ m. m) (map-Expr Expr Meaning here z) env
      ≡ layer_given other known (λ m. m) (map-Expr Expr Meaning there z) env

  by_form : (y : Expr-F ((e : Expr) × SameValue e)) (env : Environment)
      → AtForm env (map-Expr ((e : Expr) × SameValue e) Expr plain y)
  by_form (Expr-F.Number digits) env = refl
  by_form (Expr-F.Text text) env = refl
  by_form (Expr-F.Bool b) env = refl
  by_form (Expr-F.Name name) env = refl
  by_form (Expr-F.Empty written) env =
      with_found (whole_type line written known) (whole_type other written known)
      (λ t. Gives (ty.List t, value.List [])) (λ t. Gives (ty.List t, value.List []))
      (found_whole line other written known) (λ t. refl)
  by_form (Expr-F.Unary op e) env =
      ap (λ (o : Outcome Thing).
      then o (λ x. typed (unary_type op x.0) (of_one (unary_slot op) x.1))) (e.1 env)
  by_form (Expr-F.Binary op a b) env = λ i. operated_thing (operator op) (a.1 env i) (b.1 env i)
  by_form (Expr-F.Field e name) env =
      ap (λ (o : Outcome Thing). then o (dotted_thing name)) (e.1 env)
  by_form (Expr-F.Index a b) env =
      λ i. then_both (a.1 env i) (b.1 env i)
      (λ x y. typed (index_type x.0 y.0) (member_in x.1 y.1))
  by_form (Expr-F.Record names parts) env =
      ap (λ o. then o (recorded names)) (same_parts parts env [] [])
  by_form (Expr-F.List parts) env = ap (λ o. then o list_of_things) (same_parts parts env [] [])
  by_form (Expr-F.Side side written e) env =
      with_found (whole_type line written known) (whole_type other written known)
      (λ t. then (here e.0 env) (λ x. tagged (either_of side t x.0) (of_one (side_slot side) x.1)))
      (λ t. then (there e.0 env) (λ x. tagged (either_of side t x.0) (of_one (side_slot side) x.1)))
      (found_whole line other written known)
      (λ t. ap (λ (o : Outcome Thing).
      then o (λ x. tagged (either_of side t x.0) (of_one (side_slot side) x.1)))
      (e.1 env))
  by_form (Expr-F.Concat a b) env = λ i. operated_thing concat (a.1 env i) (b.1 env i)
  by_form (Expr-F.Pick c a b) env =
      λ i. chosen (valued (c.1 env i)) (a.1 env i) (b.1 env i)

  from_form : (e : Expr) (env : Environment) → AtForm env (out-Expr e)
      → given_in line known e env ≡ given_in other known e env
  from_form e env same =
      ap (λ (f : Meaning). f env) (fold_out-Expr Meaning (layer_given line known (λ m. m)) e)
      ∙ same
      ∙ ap (λ (f : Meaning). f env)
      (sym (fold_out-Expr Meaning (layer_given other known (λ m. m)) e))

  pub same_value : (e : Expr) → SameValue e
  same_value =
      ind-Expr SameValue
      (λ x y same env. from_form (roll-Expr x) env
      (subst (AtForm env) (same ∙ sym (out-roll-Expr x)) (by_form y env)))
