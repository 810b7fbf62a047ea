-- The slots of operations are right where those of their operands are.
use Rattle.std.proofs.Common.{◌≡◌, ℕ, true, false, Some, Ok, Err, List, sym, ap, ◌∙◌, subst}
use Rattle.flume_value.specs.declared.value.Value.{Value}
use Rattle.flume_value.specs.declared.value.Value.TheVariants as value
use Rattle.type_table.specs.of_flume_types.declared.types.Ty.{Ty}
use Rattle.flume_grammar.specs.declared.fault.ScriptKind.TheVariants.{Mistyped}
use Rattle.flume_grammar.specs.declared.tree.Unary.{Unary}
use Rattle.flume_grammar.specs.declared.tree.Side.{Side}
use Rattle.dofn_eval.specs.declared.expr.Expr.{Expr as Slots}
use Rattle.dofn_eval.specs.declared.expr.Expr.TheVariants as expr
use Rattle.dofn_eval.specs.Outcome.{Gives, then, then_both}
use Rattle.dofn_eval.specs.Operations.{of_one, of_two, member_in, chosen}
use Rattle.dofn_eval.specs.Meaning.{expression_value}
use Rattle.dofn_eval.specs.Typed as typing
use Rattle.dofn_eval.proofs.MeaningLemmas.{value_of-Unary, value_of-Binary, value_of-And, value_of-Or, value_of-Index, value_of-Pick}
use Rattle.expression_types.specs.of_written_types.Answer.{Checked, ◌>>=◌, or_fault}
use Rattle.expression_types.specs.of_written_types.Written.{shallow}
use Rattle.expression_types.specs.declared.operator.Operator.{Operator}
use Rattle.expression_types.specs.declared.operator.Operator.TheVariants.{And, Or, Two}
use Rattle.expression_types.specs.Sight.{Newest}
use Rattle.expression_types.specs.Operators.{unary_slot, side_slot}
use Rattle.expression_types.specs.Types.{unary_type, binary_type, index_type, pick_type, either_of}
use Rattle.expression_check.specs.Given.{tagged, typed, valued, operated_thing}
use Rattle.expression_check.specs.Slots.{SlotsAndType, operation, unary, binary, index, sided, pick}
use Rattle.expression_check.specs.Right.{types, IsRight}
use Rattle.expression_types.proofs.TypeLemmas.{there_is, shallow_is, unary_typed, bools_are, two_typed, index_is, pick_is, side_typed}
use Rattle.expression_check.proofs.OutcomeLemmas.{Giving, tagged_both, tagged_chosen, same_one, right_made}

-- ---- operations

module _ (line : ℕ) where
  pub right_unary : (op : Unary) (names : Newest Ty) (o : Checked SlotsAndType) (type : Checked Ty)
      (given : Giving) → IsRight names o type given
      → IsRight names (o >>= λ x. unary line op x)
      (type >>= λ t. or_fault line Mistyped (unary_type op t))
      (λ env. then (given env) (λ x. typed (unary_type op x.0) (of_one (unary_slot op) x.1)))
  right_unary op names (Err f) type given h =
      ap (λ o. o >>= λ t. or_fault line Mistyped (unary_type op t)) h
  right_unary op names (Ok x) type given h =
      right_made names (expr.Unary (unary_slot op) x.0) (or_fault line Mistyped (unary_type op x.1))
      _ _
      (ap (λ o. o >>= λ t. or_fault line Mistyped (unary_type op t)) h.0)
      (λ u e. let is = there_is line Mistyped (unary_type op x.1) u e in (
        typing.unary (unary_typed op x.1 u is) h.1,
        same_one names x.0 x.1 u _ (of_one (unary_slot op)) given (expr.Unary (unary_slot op) x.0)
            h.2
            (λ v. ap (λ w. typed w (of_one (unary_slot op) v)) is)
            (value_of-Unary (unary_slot op) x.0),
      ))

  pub right_side : (s : Side) (other : Ty) (names : Newest Ty) (o : Checked SlotsAndType)
      (type : Checked Ty)
      (given : Giving) → IsRight names o type given
      → IsRight names (o >>= λ x. sided line s other x)
      (type >>= λ t. shallow line (either_of s other t))
      (λ env. then (given env) (λ x. tagged (either_of s other x.0) (of_one (side_slot s) x.1)))
  right_side s other names (Err f) type given h =
      ap (λ o. o >>= λ t. shallow line (either_of s other t)) h
  right_side s other names (Ok x) type given h =
      right_made names (expr.Unary (side_slot s) x.0) (shallow line (either_of s other x.1)) _ _
      (ap (λ o. o >>= λ t. shallow line (either_of s other t)) h.0)
      (λ u e. let is = shallow_is line (either_of s other x.1) u e in (
        typing.unary (side_typed s other x.1 u is) h.1,
        same_one names x.0 x.1 u _ (of_one (side_slot s)) given (expr.Unary (side_slot s) x.0) h.2
            (λ v. ap (λ w. tagged w (of_one (side_slot s) v)) is)
            (value_of-Unary (side_slot s) x.0),
      ))

-- two operands
-- `and`, `or`: the second gives a bool, and so does the whole
bool_typed : (op : Operator) (scope : List Ty) (a b : Slots) (t u w : Ty)
    → binary_type op t u ≡ Some w → typing.Typed scope a t → typing.Typed scope b u
    → typing.Typed scope (operation op a b) w
bool_typed And scope a b t u w e h k =
    let p = bools_are t u w e in
    subst (typing.Typed scope (expr.And a b)) p.2
    (typing.and (subst (typing.Typed scope a) p.0 h) (subst (typing.Typed scope b) p.1 k))
bool_typed Or scope a b t u w e h k =
    let p = bools_are t u w e in
    subst (typing.Typed scope (expr.Or a b)) p.2
    (typing.or (subst (typing.Typed scope a) p.0 h) (subst (typing.Typed scope b) p.1 k))
bool_typed (Two op) scope a b t u w e h k = typing.binary (two_typed op t u w e) h k

operated_same : (op : Operator) (a b : Slots) (t u w : Ty) → binary_type op t u ≡ Some w
    → (vs : List Value)
    → operated_thing op (tagged t (expression_value a vs)) (tagged u (expression_value b vs))
    ≡ tagged w (expression_value (operation op a b) vs)
operated_same And a b t u w e vs =
    let p = bools_are t u w e in
    (λ i. chosen (valued (tagged t (expression_value a vs)))
    (tagged ((p.1 ∙ p.2) i) (expression_value b vs))
    (tagged (p.2 i) (Gives (value.Bool false))))
    ∙ tagged_chosen t w (expression_value a vs) (expression_value b vs) (Gives (value.Bool false))
    ∙ ap (tagged w) (sym (value_of-And a b vs))
operated_same Or a b t u w e vs =
    let p = bools_are t u w e in
    (λ i. chosen (valued (tagged t (expression_value a vs)))
    (tagged (p.2 i) (Gives (value.Bool true)))
    (tagged ((p.1 ∙ p.2) i) (expression_value b vs)))
    ∙ tagged_chosen t w (expression_value a vs) (Gives (value.Bool true)) (expression_value b vs)
    ∙ ap (tagged w) (sym (value_of-Or a b vs))
operated_same (Two op) a b t u w e vs =
    tagged_both t u w (expression_value a vs) (expression_value b vs) _ (of_two op)
    (λ v x. ap (λ o. typed o (of_two op v x)) e) ∙ ap (tagged w) (sym (value_of-Binary op a b vs))

abbrev paired : Checked SlotsAndType → Checked SlotsAndType → Checked (SlotsAndType × SlotsAndType)
paired o p = o >>= λ x. p >>= λ y. Ok (x, y)

module _ (line : ℕ) where
  pub right_binary : (op : Operator) (names : Newest Ty) (o p : Checked SlotsAndType)
      (s r : Checked Ty)
      (g h : Giving) → IsRight names o s g → IsRight names p r h
      → IsRight names (paired o p >>= λ both. binary line op both.0 both.1)
      (s >>= λ t. r >>= λ u. or_fault line Mistyped (binary_type op t u))
      (λ env. operated_thing op (g env) (h env))
  right_binary op names (Err f) p s r g h a b =
      ap (λ o. o >>= λ t. r >>= λ u. or_fault line Mistyped (binary_type op t u)) a
  right_binary op names (Ok x) (Err f) s r g h a b =
      λ i. a.0 i >>= λ t. b i >>= λ u. or_fault line Mistyped (binary_type op t u)
  right_binary op names (Ok x) (Ok y) s r g h a b =
      right_made names (operation op x.0 y.0) (or_fault line Mistyped (binary_type op x.1 y.1)) _ _
      (λ i. a.0 i >>= λ t. b.0 i >>= λ u. or_fault line Mistyped (binary_type op t u))
      (λ w e. let is = there_is line Mistyped (binary_type op x.1 y.1) w e in (
        bool_typed op (types names) x.0 y.0 x.1 y.1 w is a.1 b.1,
        λ vs. (λ i. operated_thing op (a.2 vs i) (b.2 vs i))
            ∙ operated_same op x.0 y.0 x.1 y.1 w is vs,
      ))

  pub right_index : (names : Newest Ty) (o p : Checked SlotsAndType) (s r : Checked Ty)
      (g h : Giving)
      → IsRight names o s g → IsRight names p r h
      → IsRight names (paired o p >>= λ both. index line both.0 both.1)
      (s >>= λ t. r >>= λ u. or_fault line Mistyped (index_type t u))
      (λ env. then_both (g env) (h env) (λ x y. typed (index_type x.0 y.0) (member_in x.1 y.1)))
  right_index names (Err f) p s r g h a b =
      ap (λ o. o >>= λ t. r >>= λ u. or_fault line Mistyped (index_type t u)) a
  right_index names (Ok x) (Err f) s r g h a b =
      λ i. a.0 i >>= λ t. b i >>= λ u. or_fault line Mistyped (index_type t u)
  right_index names (Ok x) (Ok y) s r g h a b =
      right_made names (expr.Index x.0 y.0) (or_fault line Mistyped (index_type x.1 y.1)) _ _
      (λ i. a.0 i >>= λ t. b.0 i >>= λ u. or_fault line Mistyped (index_type t u))
      (λ w e. let is = there_is line Mistyped (index_type x.1 y.1) w e in
      let q = index_is x.1 y.1 w is in (
        typing.index (subst (typing.Typed (types names) x.0) q.0 a.1)
            (subst (typing.Typed (types names) y.0) q.1 b.1),
        λ vs. (λ i. then_both (a.2 vs i) (b.2 vs i)
            (λ x y. typed (index_type x.0 y.0) (member_in x.1 y.1)))
            ∙ tagged_both x.1 y.1 w (expression_value x.0 vs) (expression_value y.0 vs) _ member_in
            (λ v u. ap (λ o. typed o (member_in v u)) is)
            ∙ ap (tagged w) (sym (value_of-Index x.0 y.0 vs)),
      ))

  pub right_pick : (names : Newest Ty) (n o p : Checked SlotsAndType) (q s r : Checked Ty)
      (f g h : Giving)
      → IsRight names n q f → IsRight names o s g → IsRight names p r h
      → IsRight names (n >>= λ c. paired o p >>= λ both. pick line c both.0 both.1)
      (q >>= λ t. s >>= λ u. r >>= λ w. or_fault line Mistyped (pick_type t u w))
      (λ env. chosen (valued (f env)) (g env) (h env))
  right_pick names (Err e) o p q s r f g h c a b =
      ap (λ o. o >>= λ t. s >>= λ u. r >>= λ w. or_fault line Mistyped (pick_type t u w)) c
  right_pick names (Ok z) (Err e) p q s r f g h c a b =
      λ i. c.0 i >>= λ t. a i >>= λ u. r >>= λ w. or_fault line Mistyped (pick_type t u w)
  right_pick names (Ok z) (Ok x) (Err e) q s r f g h c a b =
      λ i. c.0 i >>= λ t. a.0 i >>= λ u. b i >>= λ w. or_fault line Mistyped (pick_type t u w)
  right_pick names (Ok z) (Ok x) (Ok y) q s r f g h c a b =
      right_made names (expr.Pick z.0 x.0 y.0) (or_fault line Mistyped (pick_type z.1 x.1 y.1)) _ _
      (λ i. c.0 i >>= λ t. a.0 i >>= λ u. b.0 i >>= λ w. or_fault line Mistyped (pick_type t u w))
      (λ w e. let m = pick_is z.1 x.1 y.1 w (there_is line Mistyped
      (pick_type z.1 x.1 y.1) w e) in (
        typing.pick (subst (typing.Typed (types names) z.0) m.0 c.1)
            (subst (typing.Typed (types names) x.0) m.2 a.1)
            (subst (typing.Typed (types names) y.0) (sym m.1 ∙ m.2) b.1),
        λ vs. (λ i. chosen (valued (c.2 vs i)) (a.2 vs i) (b.2 vs i))
            ∙ (λ i. chosen (valued (tagged z.1 (expression_value z.0 vs)))
            (tagged (m.2 i) (expression_value x.0 vs)) (tagged ((sym m.1 ∙ m.2) i)
            (expression_value y.0 vs)))
            ∙ tagged_chosen z.1 w (expression_value z.0 vs) (expression_value x.0 vs)
            (expression_value y.0 vs)
            ∙ ap (tagged w) (sym (value_of-Pick z.0 x.0 y.0 vs)),
      ))
