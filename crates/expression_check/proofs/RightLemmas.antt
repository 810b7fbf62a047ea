-- The slots of an expression have its type, and give what it gives.
use Rattle.std.proofs.Common.{ℕ, Ok, Err, List, [], ◌∷◌, map, refl, sym, ◌∙◌, subst}
use Rattle.type_table.specs.of_flume_types.declared.types.Ty.{Ty}
use Rattle.flume_grammar.specs.declared.tree.Side.{Side}
use Rattle.flume_grammar.specs.declared.tree.Expr.{Expr, Expr-F, out-Expr, roll-Expr, out-roll-Expr, map-Expr, ind-Expr}
use Rattle.int_text.specs.Ints.{int_of_text}
use Rattle.dofn_eval.specs.declared.expr.Expr.{Expr as Slots}
use Rattle.dofn_eval.specs.Outcome.{then}
use Rattle.dofn_eval.specs.Operations.{of_one}
use Rattle.expression_types.specs.of_written_types.Answer.{Checked, ◌>>=◌}
use Rattle.expression_types.specs.of_written_types.Written.{shallow, whole_type}
use Rattle.expression_types.specs.Sight.{Newest, Sight}
use Rattle.expression_types.specs.Operators.{operator, concat, side_slot}
use Rattle.expression_types.specs.Types.{either_of}
use Rattle.expression_check.specs.Types.{all_types, layer_type, type_of}
use Rattle.expression_check.specs.Given.{tagged, with_type, all_given, layer_given, given_in}
use Rattle.expression_check.specs.Slots.{SlotsAndType, all_slots, sided, layer_slots, slots_of}
use Rattle.expression_check.specs.Right.{IsRight, IsRightExpr}
use Rattle.expression_check.proofs.FormLemmas.{type_of-step, given_in-step}
use Rattle.expression_check.proofs.SlotLemmas.{slots_at}
use Rattle.expression_check.proofs.OutcomeLemmas.{Giving}
use Rattle.expression_check.proofs.OperationLemmas.{right_unary, right_side, right_binary, right_index, right_pick}
use Rattle.expression_check.proofs.NameLemmas.{right_name, right_field, number_by, text_right, bool_right, empty_by}
use Rattle.expression_check.proofs.PartsLemmas.{AreRight, no_parts, parts_more, right_record, right_list}

-- ---- every form

module _ (line : ℕ) where
  abbrev RightExpr : Expr → Type 0
  RightExpr e = (s : Sight) → IsRightExpr line e s

  abbrev plain : (e : Expr) × RightExpr e → Expr
  plain p = p.0

  right_all : (es : List ((e : Expr) × RightExpr e)) (s : Sight) (ks : List Slots) (ts : List Ty)
      → AreRight s.names ks ts (all_slots (slots_of line) (map plain es) s ks ts)
      (all_types (type_of line) (map plain es) s) (all_given (given_in line s.known) (map plain es))
  right_all [] s ks ts = no_parts s.names ks ts
  right_all (p ∷ es) s ks ts =
      parts_more s.names ks ts (slots_of line p.0 s) (type_of line p.0 s)
      (given_in line s.known p.0)
      (λ ks' ts'. all_slots (slots_of line) (map plain es) s ks' ts')
      (all_types (type_of line) (map plain es) s) (all_given (given_in line s.known) (map plain es))
      (p.1 s) (right_all es s)

  written_by : (o : Checked Ty) (side : Side) (names : Newest Ty) (found : Checked SlotsAndType)
      (type : Checked Ty) (given : Giving) → IsRight names found type given
      → IsRight names (o >>= λ other. found >>= λ x. sided line side other x)
      (o >>= λ other. type >>= λ t. shallow line (either_of side other t))
      (λ env. with_type o (λ other. then (given env)
      (λ x. tagged (either_of side other x.0) (of_one (side_slot side) x.1))))
  written_by (Err f) side names found type given h = refl
  written_by (Ok other) side names found type given h =
      right_side line side other names found type given h

  by_form : (y : Expr-F ((e : Expr) × RightExpr e)) (s : Sight)
      → IsRight s.names
      (layer_slots line (slots_of line) (map-Expr ((e : Expr) × RightExpr e) Expr plain y) s)
      (layer_type line (type_of line) (map-Expr ((e : Expr) × RightExpr e) Expr plain y) s)
      (λ env. layer_given line s.known (given_in line s.known)
      (map-Expr ((e : Expr) × RightExpr e) Expr plain y) env)
  by_form (Expr-F.Number digits) s = number_by line (int_of_text digits) s.names
  by_form (Expr-F.Text text) s = text_right text s.names
  by_form (Expr-F.Bool b) s = bool_right b s.names
  by_form (Expr-F.Name name) s = right_name line name s.names
  by_form (Expr-F.Empty written) s = empty_by line (whole_type line written s.known) s.names
  by_form (Expr-F.Unary op e) s =
      right_unary line op s.names _ _ (given_in line s.known e.0) (e.1 s)
  by_form (Expr-F.Binary op a b) s =
      right_binary line (operator op) s.names _ _ _ _ (given_in line s.known a.0)
      (given_in line s.known b.0) (a.1 s) (b.1 s)
  by_form (Expr-F.Field e name) s =
      right_field line name s.names _ _ (given_in line s.known e.0) (e.1 s)
  by_form (Expr-F.Index a b) s =
      right_index line s.names _ _ _ _ (given_in line s.known a.0) (given_in line s.known b.0)
      (a.1 s) (b.1 s)
  by_form (Expr-F.Record names parts) s =
      right_record line names s.names _ _ (all_given (given_in line s.known) (map plain parts))
      (right_all parts s [] [])
  by_form (Expr-F.List parts) s =
      right_list line s.names _ _ (all_given (given_in line s.known) (map plain parts))
      (right_all parts s [] [])
  by_form (Expr-F.Side side written e) s =
      written_by (whole_type line written s.known) side s.names _ _ (given_in line s.known e.0)
      (e.1 s)
  by_form (Expr-F.Concat a b) s =
      right_binary line concat s.names _ _ _ _ (given_in line s.known a.0)
      (given_in line s.known b.0) (a.1 s) (b.1 s)
  by_form (Expr-F.Pick c a b) s =
      right_pick line s.names _ _ _ _ _ _ (given_in line s.known c.0) (given_in line s.known a.0)
      (given_in line s.known b.0) (c.1 s) (a.1 s) (b.1 s)

  abbrev AtForm : Sight → Expr-F Expr → Type 0
  AtForm s z =
      IsRight s.names (layer_slots line (slots_of line) z s) (layer_type line (type_of line) z s)
      (λ env. layer_given line s.known (given_in line s.known) z env)

  abbrev AsFound : Newest Ty → Checked SlotsAndType × Checked Ty × Giving → Type 0
  AsFound names q = IsRight names q.0 q.1 q.2

  from_form : (e : Expr) (s : Sight) → AtForm s (out-Expr e) → IsRightExpr line e s
  from_form e s h =
      subst (AsFound s.names)
      (λ i. (
        sym (slots_at line e (out-Expr e) s refl) i,
        sym (type_of-step line e s) i,
        λ env. sym (given_in-step line s.known e env) i,
      )) h

  pub right : (e : Expr) → RightExpr e
  right =
      ind-Expr RightExpr
      (λ x y is s. from_form (roll-Expr x) s
      (subst (AtForm s) (is ∙ sym (out-roll-Expr x)) (by_form y s)))
