-- The slots of each form, by those of its parts.
use Rattle.std.proofs.Common.{◌≡◌, ℕ, Bool, Ok, List, [], ◌∷◌, ◌++◌, map, refl, ap, ◌∙◌}
use Rattle.flume_value.specs.declared.value.Value.TheVariants as value
use Rattle.type_table.specs.of_flume_types.declared.types.Ty.{Ty}
use Rattle.type_table.specs.of_flume_types.declared.types.Ty.TheVariants as ty
use Rattle.flume_grammar.specs.declared.tree.Unary.{Unary}
use Rattle.flume_grammar.specs.declared.tree.Binary.{Binary}
use Rattle.flume_grammar.specs.declared.tree.Side.{Side}
use Rattle.flume_grammar.specs.declared.tree.Type as tree
use Rattle.flume_grammar.specs.declared.tree.Expr.{Expr, Expr-F, out-Expr, map-Expr, fold_out-Expr}
use Rattle.flume_grammar.specs.declared.tree.Expr.TheVariants as parsed
use Rattle.int_text.specs.Ints.{int_of_text}
use Rattle.dofn_eval.specs.declared.expr.Expr.{Expr as Slots}
use Rattle.dofn_eval.specs.declared.expr.Expr.TheVariants as expr
use Rattle.expression_types.specs.of_written_types.Answer.{Checked, ◌>>=◌}
use Rattle.expression_types.proofs.of_written_types.FailsLemmas.{bind-same}
use Rattle.expression_types.specs.Operators.{operator, concat}
use Rattle.expression_types.specs.Sight.{Sight}
use Rattle.expression_check.specs.Slots.{SlotsAndType, literal, variable, empty, fields, members_slots, all_slots, unary_slots, field_slots, record_slots, list_slots, two_slots, index_slots, pick_slots, side_slots, layer_slots, slots_of}

all_mapped : {X : Type 0} (f : X → Sight → Checked SlotsAndType) (xs : List X) (s : Sight)
    (slots : List Slots) (types : List Ty)
    → all_slots (λ m. m) (map f xs) s slots types ≡ all_slots f xs s slots types
all_mapped f [] s slots types = refl
all_mapped f (x ∷ xs) s slots types =
    bind-same (f x s) _ _ (λ y. all_mapped f xs s (slots ++ y.0 ∷ []) (types ++ y.1 ∷ []))

module _ (line : ℕ) where
  mapped : (f : Expr → Sight → Checked SlotsAndType) (x : Expr-F Expr) (s : Sight)
      → layer_slots line (λ m. m) (map-Expr Expr (Sight → Checked SlotsAndType) f x) s
      ≡ layer_slots line f x s
  mapped f (Expr-F.Record names parts) s =
      ap (λ o. o >>= λ all. fields line names all) (all_mapped f parts s [] [])
  mapped f (Expr-F.List parts) s =
      ap (λ o. o >>= λ all. members_slots line all) (all_mapped f parts s [] [])
  mapped f _ s = refl

  -- the slots of an expression of this form
  pub slots_at : (e : Expr) (x : Expr-F Expr) (s : Sight) → out-Expr e ≡ x
      → slots_of line e s ≡ layer_slots line (slots_of line) x s
  slots_at e x s is =
      ap (λ f. f s) (fold_out-Expr (Sight → Checked SlotsAndType) (layer_slots line (λ m. m)) e)
      ∙ mapped (slots_of line) (out-Expr e) s ∙ ap (λ y. layer_slots line (slots_of line) y s) is

  pub slots-Number : (digits : List ℕ) (s : Sight)
      → slots_of line (parsed.Number digits) s ≡ literal line (int_of_text digits)
  slots-Number digits s = slots_at _ _ s (parsed.outs-Number digits)

  pub slots-Text : (text : List ℕ) (s : Sight)
      → slots_of line (parsed.Text text) s ≡ Ok (expr.Literal (value.Text text), ty.Text)
  slots-Text text s = slots_at _ _ s (parsed.outs-Text text)

  pub slots-Bool : (b : Bool) (s : Sight)
      → slots_of line (parsed.Bool b) s ≡ Ok (expr.Literal (value.Bool b), ty.Bool)
  slots-Bool b s = slots_at _ _ s (parsed.outs-Bool b)

  pub slots-Name : (name : List ℕ) (s : Sight)
      → slots_of line (parsed.Name name) s ≡ variable line name s.names
  slots-Name name s = slots_at _ _ s (parsed.outs-Name name)

  pub slots-Empty : (written : tree.Type) (s : Sight)
      → slots_of line (parsed.Empty written) s ≡ empty line written s
  slots-Empty written s = slots_at _ _ s (parsed.outs-Empty written)

  pub slots-Unary : (op : Unary) (e : Expr) (s : Sight)
      → slots_of line (parsed.Unary op e) s ≡ unary_slots line (slots_of line) op e s
  slots-Unary op e s = slots_at _ _ s (parsed.outs-Unary op e)

  pub slots-Binary : (op : Binary) (a b : Expr) (s : Sight)
      → slots_of line (parsed.Binary op a b) s
      ≡ two_slots line (slots_of line) (operator op) a b s
  slots-Binary op a b s = slots_at _ _ s (parsed.outs-Binary op a b)

  pub slots-Field : (e : Expr) (name : List ℕ) (s : Sight)
      → slots_of line (parsed.Field e name) s ≡ field_slots line (slots_of line) e name s
  slots-Field e name s = slots_at _ _ s (parsed.outs-Field e name)

  pub slots-Index : (a b : Expr) (s : Sight)
      → slots_of line (parsed.Index a b) s ≡ index_slots line (slots_of line) a b s
  slots-Index a b s = slots_at _ _ s (parsed.outs-Index a b)

  pub slots-Record : (names : List (List ℕ)) (parts : List Expr) (s : Sight)
      → slots_of line (parsed.Record names parts) s
      ≡ record_slots line (slots_of line) names parts s
  slots-Record names parts s = slots_at _ _ s (parsed.outs-Record names parts)

  pub slots-List : (parts : List Expr) (s : Sight)
      → slots_of line (parsed.List parts) s ≡ list_slots line (slots_of line) parts s
  slots-List parts s = slots_at _ _ s (parsed.outs-List parts)

  pub slots-Side : (side : Side) (written : tree.Type) (e : Expr) (s : Sight)
      → slots_of line (parsed.Side side written e) s
      ≡ side_slots line (slots_of line) side written e s
  slots-Side side written e s = slots_at _ _ s (parsed.outs-Side side written e)

  pub slots-Concat : (a b : Expr) (s : Sight)
      → slots_of line (parsed.Concat a b) s ≡ two_slots line (slots_of line) concat a b s
  slots-Concat a b s = slots_at _ _ s (parsed.outs-Concat a b)

  pub slots-Pick : (c a b : Expr) (s : Sight)
      → slots_of line (parsed.Pick c a b) s ≡ pick_slots line (slots_of line) c a b s
  slots-Pick c a b s = slots_at _ _ s (parsed.outs-Pick c a b)

pub ruleset slots_rules = (
  slots-Number,
  slots-Text,
  slots-Bool,
  slots-Name,
  slots-Empty,
  slots-Unary,
  slots-Binary,
  slots-Field,
  slots-Index,
  slots-Record,
  slots-List,
  slots-Side,
  slots-Concat,
  slots-Pick,
)
