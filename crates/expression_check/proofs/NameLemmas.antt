-- The slots of names, fields and literals are right.
use Rattle.std.proofs.Common.{◌≡◌, ℕ, suc, ◌+◌, ℤ, Bool, true, false, cond, Option, Some, None, Ok, Err, List, [], ◌∷◌, slice_get, arith, refl, sym, ap, ◌∙◌, subst}
use Rattle.std.specs.Str.{bytes_eq}
use Rattle.flume_value.specs.declared.value.Value.{Value}
use Rattle.flume_value.specs.declared.value.Value.TheVariants as value
use Rattle.type_table.specs.of_flume_types.declared.types.Ty.{Ty}
use Rattle.type_table.specs.of_flume_types.declared.types.Ty.TheVariants as ty
use Rattle.type_table.specs.of_flume_types.declared.types.Field.{Field}
use Rattle.type_table.proofs.of_flume_types.PartLemmas.{has_int, has_bool, has_text}
use Rattle.flume_grammar.specs.declared.fault.ScriptKind.TheVariants.{Unknown, BadNumber, Mistyped}
use Rattle.dofn_eval.specs.declared.expr.Expr.{Expr as Slots}
use Rattle.dofn_eval.specs.declared.expr.Expr.TheVariants as expr
use Rattle.dofn_eval.specs.Outcome.{Outcome, Gives, then, with_part}
use Rattle.dofn_eval.specs.Operations.{field_in}
use Rattle.dofn_eval.specs.Typed as typing
use Rattle.dofn_eval.proofs.MeaningLemmas.{value_of-Literal, value_of-Variable, value_of-Field, value_of-List}
use Rattle.expression_types.specs.of_written_types.Answer.{Checked, ◌>>=◌, or_fault}
use Rattle.expression_types.specs.of_written_types.Named.{find}
use Rattle.expression_types.specs.of_written_types.Written.{shallow}
use Rattle.expression_types.specs.Sight.{Newest}
use Rattle.expression_types.specs.Fields.{record_fields, named_field}
use Rattle.expression_types.specs.Types.{place_under}
use Rattle.expression_check.specs.Given.{Thing, tagged, with_type, dotted_thing}
use Rattle.expression_types.specs.Places.{further, place_in}
use Rattle.expression_check.specs.Slots.{SlotsAndType, literal, variable, field}
use Rattle.expression_check.specs.Right.{types, bound, IsRight}
use Rattle.expression_types.proofs.TypeLemmas.{there_is, shallow_is, record_type_is}
use Rattle.expression_check.proofs.OutcomeLemmas.{Giving, same_one, right_made}

-- ---- names

abbrev IsPlaced : Newest Ty → Option (ℕ × Ty) → Option Ty → Giving → Type 0
IsPlaced names None type given = type ≡ None
IsPlaced names (Some at) type given =
    (type ≡ Some at.1) × (slice_get (types names) at.0 ≡ Some at.1)
    × ((vs : List Value)
    → given (bound names vs) ≡ tagged at.1 (with_part (slice_get vs at.0) Gives))

module _ (name : List ℕ) where
  abbrev looked : Giving
  looked env = with_part (find name env) Gives

  one_more : (other : List ℕ) (t : Ty) (names : Newest Ty) (o : Option (ℕ × Ty))
      → bytes_eq name other ≡ false → IsPlaced names o (find name names) looked
      → IsPlaced ((other, t) ∷ names) (further 1 o) (find name ((other, t) ∷ names)) looked
  one_more other t names None e h = ap (λ b. cond b (Some t) (find name names)) e ∙ h
  one_more other t names (Some (i, u)) e h =
      let next : i + 1 ≡ suc i = omega arith in
      subst
      (λ j. IsPlaced ((other, t) ∷ names) (Some (j, u)) (find name ((other, t) ∷ names)) looked)
      (sym next) (ap (λ b. cond b (Some t) (find name names)) e ∙ h.0, h.1, later)
    where
      later : (vs : List Value)
          → looked (bound ((other, t) ∷ names) vs)
          ≡ tagged u (with_part (slice_get vs (suc i)) Gives)
      later [] = refl
      later (v ∷ vs) =
          ap (λ b. with_part (cond b (Some (t, v)) (find name (bound names vs))) Gives) e ∙ h.2 vs

  newest : (other : List ℕ) (t : Ty) (names : Newest Ty) → bytes_eq name other ≡ true
      → (vs : List Value)
      → looked (bound ((other, t) ∷ names) vs) ≡ tagged t (with_part (slice_get vs 0) Gives)
  newest other t names e [] = refl
  newest other t names e (v ∷ vs) =
      ap (λ b. with_part (cond b (Some (t, v)) (find name (bound names vs))) Gives) e

  placed_by : (b : Bool) (other : List ℕ) (t : Ty) (names : Newest Ty) → bytes_eq name other ≡ b
      → IsPlaced names (place_in name names) (find name names) looked
      → IsPlaced ((other, t) ∷ names) (cond b (Some (0, t)) (further 1 (place_in name names)))
      (find name ((other, t) ∷ names)) looked
  placed_by true other t names e h =
      (ap (λ b. cond b (Some t) (find name names)) e, refl, newest other t names e)
  placed_by false other t names e h = one_more other t names (place_in name names) e h

  placed : (names : Newest Ty) → IsPlaced names (place_in name names) (find name names) looked
  placed [] = refl
  placed ((other, t) ∷ names) =
      placed_by (bytes_eq name other) other t names refl (placed names)

from_placed : (line : ℕ) (names : Newest Ty) (o : Option (ℕ × Ty)) (type : Option Ty)
    (given : Giving) → IsPlaced names o type given
    → IsRight names (or_fault line Unknown o >>= λ at. Ok (expr.Variable at.0, at.1))
    (or_fault line Unknown type) given
from_placed line names None type given h = ap (or_fault line Unknown) h
from_placed line names (Some at) type given h = (
  ap (or_fault line Unknown) h.0,
  typing.variable at.0 h.1,
  λ vs. h.2 vs ∙ ap (tagged at.1) (sym (value_of-Variable at.0 vs)),
)

pub right_name : (line : ℕ) (name : List ℕ) (names : Newest Ty)
    → IsRight names (variable line name names) (or_fault line Unknown (find name names))
    (λ env. with_part (find name env) Gives)
right_name line name names =
    from_placed line names (place_in name names) (find name names) _ (placed name names)

-- ---- fields

-- the field at the place has the type
field_placed : (name : List ℕ) (from : ℕ) (fs : List (Field Ty)) (at : ℕ × Ty)
    → named_field name from fs ≡ Some at
    → (j : ℕ) × (f : Field Ty) × (at.0 ≡ from + j) × (slice_get fs j ≡ Some f) × (f.ty ≡ at.1)
field_placed name from [] at e = cc
field_placed name from (f ∷ fs) at e =
    field_by (bytes_eq name f.name) (field_placed name (suc from) fs at) e
  where
    field_by : (b : Bool)
        → (named_field name (suc from) fs ≡ Some at → (j : ℕ) × (g : Field Ty)
        × (at.0 ≡ suc from + j) × (slice_get fs j ≡ Some g) × (g.ty ≡ at.1))
        → cond b (Some (from, f.ty)) (named_field name (suc from) fs) ≡ Some at
        → (j : ℕ) × (g : Field Ty) × (at.0 ≡ from + j) × (slice_get (f ∷ fs) j ≡ Some g)
        × (g.ty ≡ at.1)
    field_by true rest e =
        let is : (from, f.ty) ≡ at = cc in
        let start : at.0 ≡ from + 0 = omega (arith, ap (λ p. p.0) is) in
        (0, f, start, refl, ap (λ p. p.1) is)
    field_by false rest e =
        let p = rest e in
        let next : at.0 ≡ from + suc p.0 = omega (arith, p.2) in
        (suc p.0, p.1, next, p.3, p.4)

field_typed : (scope : List Ty) (k : Slots) (t : Ty) (name : List ℕ) (at : ℕ × Ty)
    (fs : List (Field Ty)) → record_fields t ≡ Some fs → named_field name 0 fs ≡ Some at
    → typing.Typed scope k t → typing.Typed scope (expr.Field k at.0) at.1
field_typed scope k t name at fs r e h =
    let p = field_placed name 0 fs at e in
    let place : p.0 ≡ at.0 = omega (arith, p.2) in
    subst (λ i. typing.Typed scope (expr.Field k i) at.1) place
    (subst (typing.Typed scope (expr.Field k p.0)) p.4
    (typing.field fs p.0 {f = p.1} (subst (typing.Typed scope k) (record_type_is t fs r) h) p.3))

under_is : (line : ℕ) (name : List ℕ) (r : Option (List (Field Ty))) (at : ℕ × Ty)
    → (or_fault line Mistyped r >>= λ fs. or_fault line Unknown (named_field name 0 fs)) ≡ Ok at
    → (fs : List (Field Ty)) × (r ≡ Some fs) × (named_field name 0 fs ≡ Some at)
under_is line name None at e = cc
under_is line name (Some fs) at e = (fs, refl, there_is line Unknown (named_field name 0 fs) at e)

abbrev part_of : List ℕ → Value → List (Field Ty) → Outcome Thing
part_of name v fs = with_part (named_field name 0 fs) (λ at. tagged at.1 (field_in at.0 v))

pub right_field : (line : ℕ) (name : List ℕ) (names : Newest Ty) (o : Checked SlotsAndType)
    (type : Checked Ty) (given : Giving) → IsRight names o type given
    → IsRight names (o >>= λ x. field line name x)
    (type >>= λ t. place_under line name t >>= λ at. Ok at.1)
    (λ env. then (given env) (dotted_thing name))
right_field line name names (Err f) type given h =
    ap (λ o. o >>= λ t. place_under line name t >>= λ at. Ok at.1) h
right_field line name names (Ok x) type given h = field_by (place_under line name x.1) refl
  where
    field_by : (c : Checked (ℕ × Ty)) → place_under line name x.1 ≡ c
        → IsRight names (c >>= λ at. Ok (expr.Field x.0 at.0, at.1))
        (type >>= λ t. place_under line name t >>= λ at. Ok at.1)
        (λ env. then (given env) (dotted_thing name))
    field_by (Err f) e =
        ap (λ o. o >>= λ t. place_under line name t >>= λ at. Ok at.1) h.0
        ∙ ap (λ o. o >>= λ at. Ok at.1) e
    field_by (Ok at) e =
        let p = under_is line name (record_fields x.1) at e in (
          ap (λ o. o >>= λ t. place_under line name t >>= λ at. Ok at.1) h.0
              ∙ ap (λ o. o >>= λ at. Ok at.1) e,
          field_typed (types names) x.0 x.1 name at p.0 p.1 p.2 h.1,
          same_one names x.0 x.1 at.1 (dotted_thing name) (field_in at.0) given
              (expr.Field x.0 at.0) h.2
              (λ v. ap (λ r. with_part r (part_of name v)) p.1
              ∙ ap (λ o. with_part o (λ at. tagged at.1 (field_in at.0 v))) p.2)
              (value_of-Field x.0 at.0),
        )

-- ---- literals

literal_right : (v : Value) (t : Ty) (names : Newest Ty) → typing.Has t v
    → IsRight names (Ok (expr.Literal v, t)) (Ok t) (λ env. Gives (t, v))
literal_right v t names has =
    (refl, typing.literal v has, λ vs. ap (tagged t) (sym (value_of-Literal v vs)))

pub number_by : (line : ℕ) (o : Option ℤ) (names : Newest Ty)
    → IsRight names (literal line o) (or_fault line BadNumber o >>= λ n. Ok ty.Int)
    (λ env. with_part o (λ n. Gives (ty.Int, value.Int n)))
number_by line None names = refl
number_by line (Some n) names = literal_right (value.Int n) ty.Int names (has_int n)

pub text_right : (text : List ℕ) (names : Newest Ty)
    → IsRight names (Ok (expr.Literal (value.Text text), ty.Text)) (Ok ty.Text)
    (λ env. Gives (ty.Text, value.Text text))
text_right text names = literal_right (value.Text text) ty.Text names (has_text text)

pub bool_right : (b : Bool) (names : Newest Ty)
    → IsRight names (Ok (expr.Literal (value.Bool b), ty.Bool)) (Ok ty.Bool)
    (λ env. Gives (ty.Bool, value.Bool b))
bool_right b names = literal_right (value.Bool b) ty.Bool names (has_bool b)

pub empty_by : (line : ℕ) (w : Checked Ty) (names : Newest Ty)
    → IsRight names ((w >>= λ m. shallow line (ty.List m)) >>= λ t. Ok (expr.List [], t))
    (w >>= λ m. shallow line (ty.List m))
    (λ env. with_type w (λ t. Gives (ty.List t, value.List [])))
empty_by line (Err f) names = refl
empty_by line (Ok m) names =
    right_made names (expr.List []) (shallow line (ty.List m)) _ _ refl
    (λ t e. let is = shallow_is line (ty.List m) t e in (
      subst (typing.Typed (types names) (expr.List [])) is (typing.members typing.each_end),
      λ vs. ap (λ u. tagged u (Gives (value.List []))) is
          ∙ ap (tagged t) (sym (value_of-List [] vs)),
    ))
