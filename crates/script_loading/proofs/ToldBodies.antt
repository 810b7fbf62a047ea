-- Each body keeps the rules or has a first fault with its line.
use Rattle.std.proofs.Common.{ℕ, List, [], ◌∷◌, map, length, slice_get, sym, subst, ◌∙◌}
use Rattle.std.specs.Prelude.{is_some, nat_eq, not}
use Rattle.std.specs.List.{list_all}
use Rattle.flume_types.specs.declared.types.Ty.{Ty, out-Ty}
use Rattle.flume_types.specs.declared.types.Ty.TheVariants as ty
use Rattle.flume_grammar.specs.declared.tree.Expr.{Expr, Expr-F, out-Expr, roll-Expr}
use Rattle.flume_grammar.specs.declared.tree.Expr.{out-roll-Expr, map-Expr, ind-Expr, fold_out-Expr}
use Rattle.flume_grammar.specs.declared.tree.Body.{Body, Body-F, out-Body, roll-Body}
use Rattle.flume_grammar.specs.declared.tree.Body.{out-roll-Body, map-Body, ind-Body, fold_out-Body}
use Rattle.flume_grammar.specs.declared.fault.ScriptKind.TheVariants.{BadNumber, Mistyped}
use Rattle.flume_grammar.specs.declared.fault.ScriptKind.TheVariants.{Twice, Unknown}
use Rattle.int_text.specs.Ints.{int_of_text}
use Rattle.written_types.specs.Answer.{Checked}
use Rattle.written_types.specs.Named.{Named, find, fresh}
use Rattle.written_types.specs.Written.{whole_type}
use Rattle.expression_types.specs.Sight.{Sight, with_name}
use Rattle.expression_types.specs.Fields.{are_different, named_field, typed_fields, member_type}
use Rattle.expression_types.specs.Fields.{record_fields, side_types}
use Rattle.expression_types.specs.Operators.{operator, concat}
use Rattle.expression_types.specs.Types.{is_bool, is_same, either_of, place_under, record_type}
use Rattle.expression_types.specs.Types.{list_type, unary_type, binary_type, index_type}
use Rattle.expression_types.specs.Types.{pick_type}
use Rattle.expression_check.specs.Types.{all_types, layer_type, type_of}
use Rattle.script_program.specs.of_body_check.Bodies.{after_all, layer_after, sight_after, at_start, body_of}
use Rattle.script_program.specs.of_body_check.Outputs.{output_written}
use Rattle.script_loading.proofs.ToldLemmas.{IsTold, told-then, told-test, told-option}
use Rattle.script_loading.proofs.ToldLemmas.{told-found, told-kept}
use Rattle.script_loading.proofs.ToldLemmas.{told-shallow, told-whole}

-- ---- expressions

module _ (line : ℕ) where
  told-place : (name : List ℕ) (t : Ty) → IsTold (place_under line name t)
  told-place name t =
      told-found line Mistyped (record_fields t) _
      (λ fields. told-option line Unknown (named_field name 0 fields))

  told-record : (names : List (List ℕ)) (types : List Ty) → IsTold (record_type line names types)
  told-record names types =
      told-kept line Twice (are_different names) _
      (λ new. told-kept line Mistyped (nat_eq (length names) (length types)) _
      (λ as_many. told-shallow line (ty.Rec (typed_fields names types))))

  told-list : (types : List Ty) → IsTold (list_type line types)
  told-list [] = tt
  told-list (t ∷ types) =
      told-kept line Mistyped (list_all (is_same t) types) _
      (λ same. told-shallow line (ty.List t))

  abbrev ToldExpr : Expr → Type 0
  ToldExpr e = (s : Sight) → IsTold (type_of line e s)

  abbrev plain : (e : Expr) × ToldExpr e → Expr
  plain p = p.0

  abbrev Meaning : Type 0
  Meaning = Sight → Checked Ty

  told-types : (parts : List ((e : Expr) × ToldExpr e)) (s : Sight)
      → IsTold (all_types (λ m. m) (map (type_of line) (map plain parts)) s)
  told-types [] s = tt
  told-types (p ∷ parts) s =
      told-then (type_of line p.0 s) _ (p.1 s)
      (λ t. told-then (all_types (λ m. m) (map (type_of line) (map plain parts)) s) _
      (told-types parts s) (λ ts. tt))

  abbrev AtForm : Sight → Expr-F Expr → Type 0
  AtForm s z =
      IsTold (layer_type line (λ m. m) (map-Expr Expr Meaning (type_of line) z) s)

  by_form : (y : Expr-F ((e : Expr) × ToldExpr e)) (s : Sight)
      → AtForm s (map-Expr ((e : Expr) × ToldExpr e) Expr plain y)
  by_form (Expr-F.Number digits) s =
      told-found line BadNumber (int_of_text digits) _ (λ n. tt)
  by_form (Expr-F.Text text) s = tt
  by_form (Expr-F.Bool b) s = tt
  by_form (Expr-F.Name name) s = told-option line Unknown (find name s.names)
  by_form (Expr-F.Empty written) s =
      told-then (whole_type line written s.known) _ (told-whole line written s.known)
      (λ t. told-shallow line (ty.List t))
  by_form (Expr-F.Unary op e) s =
      told-then (type_of line e.0 s) _ (e.1 s)
      (λ t. told-option line Mistyped (unary_type op t))
  by_form (Expr-F.Binary op a b) s =
      told-then (type_of line a.0 s) _ (a.1 s)
      (λ t. told-then (type_of line b.0 s) _ (b.1 s)
      (λ u. told-option line Mistyped (binary_type (operator op) t u)))
  by_form (Expr-F.Field e name) s =
      told-then (type_of line e.0 s) _ (e.1 s)
      (λ t. told-then (place_under line name t) _ (told-place name t) (λ at. tt))
  by_form (Expr-F.Index a b) s =
      told-then (type_of line a.0 s) _ (a.1 s)
      (λ t. told-then (type_of line b.0 s) _ (b.1 s)
      (λ u. told-option line Mistyped (index_type t u)))
  by_form (Expr-F.Record names parts) s =
      told-then (all_types (λ m. m) (map (type_of line) (map plain parts)) s) _
      (told-types parts s) (λ types. told-record names types)
  by_form (Expr-F.List parts) s =
      told-then (all_types (λ m. m) (map (type_of line) (map plain parts)) s) _
      (told-types parts s) (λ types. told-list types)
  by_form (Expr-F.Side side written e) s =
      told-then (whole_type line written s.known) _ (told-whole line written s.known)
      (λ other. told-then (type_of line e.0 s) _ (e.1 s)
      (λ t. told-shallow line (either_of side other t)))
  by_form (Expr-F.Concat a b) s =
      told-then (type_of line a.0 s) _ (a.1 s)
      (λ t. told-then (type_of line b.0 s) _ (b.1 s)
      (λ u. told-option line Mistyped (binary_type concat t u)))
  by_form (Expr-F.Pick c a b) s =
      told-then (type_of line c.0 s) _ (c.1 s)
      (λ t. told-then (type_of line a.0 s) _ (a.1 s)
      (λ u. told-then (type_of line b.0 s) _ (b.1 s)
      (λ w. told-option line Mistyped (pick_type t u w))))

  from_form : (e : Expr) (s : Sight) → AtForm s (out-Expr e) → IsTold (type_of line e s)
  from_form e s told =
      subst (λ (f : Meaning). IsTold (f s))
      (sym (fold_out-Expr Meaning (layer_type line (λ m. m)) e)) told

  told-expr : (e : Expr) → ToldExpr e
  told-expr =
      ind-Expr ToldExpr
      (λ x y same s. from_form (roll-Expr x) s
      (subst (AtForm s) (same ∙ sym (out-roll-Expr x)) (by_form y s)))

-- ---- statements

pub told-fresh : {A : Type 0} (line : ℕ) (name : List ℕ) (names : Named A)
    → IsTold (fresh line name names)
told-fresh line name names = told-test line Twice (not (is_some (find name names)))

module _ (gives : List Ty) where
  abbrev ToldBody : Body → Type 0
  ToldBody b = (s : Sight) → IsTold (sight_after gives b s)

  abbrev bare : (b : Body) × ToldBody b → Body
  bare p = p.0

  abbrev Seen : Type 0
  Seen = Sight → Checked Sight

  abbrev run : List ((b : Body) × ToldBody b) → Sight → Checked Sight
  run bs s = after_all (λ m. m) (map (sight_after gives) (map bare bs)) s

  told-block : (bs : List ((b : Body) × ToldBody b)) (s : Sight) → IsTold (run bs s)
  told-block [] s = tt
  told-block (p ∷ bs) s =
      told-then (sight_after gives p.0 s) _ (p.1 s) (λ next. told-block bs next)

  abbrev AtBody : Sight → Body-F Body → Type 0
  AtBody s z =
      IsTold (layer_after gives (λ m. m) (map-Body Body Seen (sight_after gives) z) s)

  by_body : (y : Body-F ((b : Body) × ToldBody b)) (s : Sight)
      → AtBody s (map-Body ((b : Body) × ToldBody b) Body bare y)
  by_body (Body-F.Let line name e) s =
      told-then (fresh line name s.names) _ (told-fresh line name s.names)
      (λ new. told-then (type_of line e s) _ (told-expr line e s) (λ t. tt))
  by_body (Body-F.Emit line to e) s =
      told-found line BadNumber (output_written (length gives) to) _
      (λ output. told-found line BadNumber (slice_get gives output) _
      (λ wanted. told-then (type_of line e s) _ (told-expr line e s)
      (λ t. told-kept line Mistyped (is_same t wanted) _ (λ same. tt))))
  by_body (Body-F.If line e a b) s =
      told-then (type_of line e s) _ (told-expr line e s)
      (λ t. told-kept line Mistyped (is_bool (out-Ty t)) _
      (λ test. told-then (run a s) _ (told-block a s)
      (λ left. told-then (run b s) _ (told-block b s) (λ right_. tt))))
  by_body (Body-F.For line name e block) s =
      told-then (fresh line name s.names) _ (told-fresh line name s.names)
      (λ new. told-then (type_of line e s) _ (told-expr line e s)
      (λ t. told-found line Mistyped (member_type t) _
      (λ member. told-then (run block (with_name name member s)) _
      (told-block block (with_name name member s)) (λ inner. tt))))
  by_body (Body-F.Case line e left a right_ b) s =
      told-then (type_of line e s) _ (told-expr line e s)
      (λ t. told-found line Mistyped (side_types t) _
      (λ sides. told-then (fresh line left s.names) _ (told-fresh line left s.names)
      (λ new. told-then (run a (with_name left sides.0 s)) _
      (told-block a (with_name left sides.0 s))
      (λ on_left. told-then (fresh line right_ s.names) _ (told-fresh line right_ s.names)
      (λ also. told-then (run b (with_name right_ sides.1 s)) _
      (told-block b (with_name right_ sides.1 s)) (λ on_right. tt))))))

  from_body : (b : Body) (s : Sight) → AtBody s (out-Body b) → IsTold (sight_after gives b s)
  from_body b s told =
      subst (λ (f : Seen). IsTold (f s))
      (sym (fold_out-Body Seen (layer_after gives (λ m. m)) b)) told

  told-statement : (b : Body) → ToldBody b
  told-statement =
      ind-Body ToldBody
      (λ x y same s. from_body (roll-Body x) s
      (subst (AtBody s) (same ∙ sym (out-roll-Body x)) (by_body y s)))

  told-all : (bs : List Body) (s : Sight) → IsTold (after_all (sight_after gives) bs s)
  told-all [] s = tt
  told-all (b ∷ bs) s =
      told-then (sight_after gives b s) _ (told-statement b s) (λ next. told-all bs next)

pub told-body : (known : Named Ty) (argument : List ℕ) (takes : Ty) (gives : List Ty)
    (body : List Body) → IsTold (body_of known argument takes gives body)
told-body known argument takes gives body =
    told-then (after_all (sight_after gives) body (at_start known argument takes)) _
    (told-all gives body (at_start known argument takes)) (λ end. tt)
