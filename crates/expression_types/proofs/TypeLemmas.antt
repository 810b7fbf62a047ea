-- What types are where the types of forms are found.
use Rattle.std.proofs.Common.{◌≡◌, ◌⊎◌, ℕ, Bool, true, false, ◌&&◌, cond, Option, Some, None, Ok, List, inl, inr, refl, sym, ap, ◌∙◌, subst}
use Rattle.flume_value.proofs.BoolLemmas.{both_true}
use Rattle.flume_types.specs.declared.types.Ty.{Ty, Ty-F, out-Ty, roll-Ty, roll-out-Ty}
use Rattle.flume_types.specs.declared.types.Ty.TheVariants as ty
use Rattle.flume_types.specs.declared.types.Field.{Field}
use Rattle.flume_types.proofs.SameLemmas.{tells_apart}
use Rattle.flume_grammar.specs.declared.fault.ScriptKind.{ScriptKind}
use Rattle.flume_grammar.specs.declared.tree.Unary.{Unary}
use Rattle.flume_grammar.specs.declared.tree.Unary.TheVariants as unary
use Rattle.flume_grammar.specs.declared.tree.Side.{Side}
use Rattle.flume_grammar.specs.declared.tree.Side.TheVariants as side
use Rattle.dofn_eval.specs.declared.expr.Binary.{Binary as Operation}
use Rattle.dofn_eval.specs.declared.expr.Binary.TheVariants as operation
use Rattle.dofn_eval.specs.Typed.{UnaryTyped, BinaryTyped, negates, inverts, counts_members, counts_bytes, splits, writes, reads, lefts, rights, computes, compares, joins_texts, joins_lists}
use Rattle.written_types.specs.Answer.{◌>>=◌, unless, or_fault}
use Rattle.written_types.specs.Written.{shallow}
use Rattle.expression_types.specs.Fields.{fields_layer, member_layer, side_layer, record_fields, member_type, side_types}
use Rattle.expression_types.specs.Types.{is_same, is_int, is_bool, is_text, is_long, unary_type, two_type, bools_type, index_type, pick_type, either_of}
use Rattle.expression_types.specs.Operators.{unary_slot, side_slot}

-- ---- what was found

where_is : {A : Type 0} (b : Bool) (r w : A) → cond b (Some r) None ≡ Some w
    → (b ≡ true) × (r ≡ w)
where_is true r w e = (refl, cc)
where_is false r w e = cc

pub there_is : {A : Type 0} (line : ℕ) (kind : ScriptKind) (o : Option A) (x : A)
    → or_fault line kind o ≡ Ok x → o ≡ Some x
there_is line kind None x e = cc
there_is line kind (Some y) x e =
    let same : y ≡ x = cc in
    ap Some same

unless_is : {A : Type 0} (line : ℕ) (kind : ScriptKind) (b : Bool) (r w : A)
    → (unless line kind b >>= λ met. Ok r) ≡ Ok w → r ≡ w
unless_is line kind true r w e = cc
unless_is line kind false r w e = cc

pub shallow_is : (line : ℕ) (r w : Ty) → shallow line r ≡ Ok w → r ≡ w
shallow_is line r w e = unless_is line _ _ r w e

-- ---- a type by its level

from_out : (t u : Ty) → out-Ty t ≡ out-Ty u → t ≡ u
from_out t u e = sym (roll-out-Ty t) ∙ ap roll-Ty e ∙ roll-out-Ty u

list_at : (t m : Ty) (x : Ty-F Ty) → out-Ty t ≡ x → member_layer x ≡ Some m → t ≡ ty.List m
list_at t m (Ty-F.List n) e h =
    let is : n ≡ m = cc in
    from_out t (ty.List m) (e ∙ ap Ty-F.List is ∙ sym (ty.outs-List m))
list_at t m _ e h = cc

pub list_type_is : (t m : Ty) → member_type t ≡ Some m → t ≡ ty.List m
list_type_is t m h = list_at t m (out-Ty t) refl h

either_at : (t : Ty) (sides : Ty × Ty) (x : Ty-F Ty) → out-Ty t ≡ x
    → side_layer x ≡ Some sides → t ≡ ty.Either sides.0 sides.1
either_at t sides (Ty-F.Either l r) e h =
    let is : (l, r) ≡ sides = cc in
    from_out t (ty.Either sides.0 sides.1)
    (e ∙ (λ i. Ty-F.Either (is i).0 (is i).1) ∙ sym (ty.outs-Either sides.0 sides.1))
either_at t sides _ e h = cc

pub either_type_is : (t : Ty) (sides : Ty × Ty) → side_types t ≡ Some sides
    → t ≡ ty.Either sides.0 sides.1
either_type_is t sides h = either_at t sides (out-Ty t) refl h

record_at : (t : Ty) (fs : List (Field Ty)) (x : Ty-F Ty) → out-Ty t ≡ x
    → fields_layer x ≡ Some fs → t ≡ ty.Rec fs
record_at t fs (Ty-F.Rec gs) e h =
    let is : gs ≡ fs = cc in
    from_out t (ty.Rec fs) (e ∙ ap Ty-F.Rec is ∙ sym (ty.outs-Rec fs))
record_at t fs _ e h = cc

pub record_type_is : (t : Ty) (fs : List (Field Ty)) → record_fields t ≡ Some fs → t ≡ ty.Rec fs
record_type_is t fs h = record_at t fs (out-Ty t) refl h

int_at : (t : Ty) (x : Ty-F Ty) → out-Ty t ≡ x → is_int x ≡ true → t ≡ ty.Int
int_at t Ty-F.Int e h = from_out t ty.Int (e ∙ sym ty.outs-Int)
int_at t _ e h = cc

int_is : (t : Ty) → is_int (out-Ty t) ≡ true → t ≡ ty.Int
int_is t h = int_at t (out-Ty t) refl h

bool_at : (t : Ty) (x : Ty-F Ty) → out-Ty t ≡ x → is_bool x ≡ true → t ≡ ty.Bool
bool_at t Ty-F.Bool e h = from_out t ty.Bool (e ∙ sym ty.outs-Bool)
bool_at t _ e h = cc

pub bool_is : (t : Ty) → is_bool (out-Ty t) ≡ true → t ≡ ty.Bool
bool_is t h = bool_at t (out-Ty t) refl h

text_at : (t : Ty) (x : Ty-F Ty) → out-Ty t ≡ x → is_text x ≡ true → t ≡ ty.Text
text_at t Ty-F.Text e h = from_out t ty.Text (e ∙ sym ty.outs-Text)
text_at t _ e h = cc

text_is : (t : Ty) → is_text (out-Ty t) ≡ true → t ≡ ty.Text
text_is t h = text_at t (out-Ty t) refl h

-- a text or a list
abbrev IsLong : Ty → Type 0
IsLong t = (t ≡ ty.Text) ⊎ ((m : Ty) × (t ≡ ty.List m))

long_at : (t : Ty) (x : Ty-F Ty) → out-Ty t ≡ x → is_long x ≡ true → IsLong t
long_at t Ty-F.Text e h = inl (from_out t ty.Text (e ∙ sym ty.outs-Text))
long_at t (Ty-F.List m) e h = inr (m, from_out t (ty.List m) (e ∙ sym (ty.outs-List m)))
long_at t _ e h = cc

long_is : (t : Ty) → is_long (out-Ty t) ≡ true → IsLong t
long_is t h = long_at t (out-Ty t) refl h

-- ---- operations

at_types : (op : Unary) (s r t u : Ty) → UnaryTyped (unary_slot op) s r → t ≡ s → r ≡ u
    → UnaryTyped (unary_slot op) t u
at_types op s r t u h a b =
    subst (λ v. UnaryTyped (unary_slot op) v u) (sym a) (subst (UnaryTyped (unary_slot op) s) b h)

counts : (t u : Ty) → ty.Int ≡ u → IsLong t → UnaryTyped (unary_slot unary.Len) t u
counts t u r (inl e) = at_types unary.Len ty.Text ty.Int t u counts_bytes e r
counts t u r (inr (m, e)) = at_types unary.Len (ty.List m) ty.Int t u (counts_members m) e r

-- an operation that is tested for the type that it takes
tested : (op : Unary) (s r t u : Ty) (test : Bool) → (test ≡ true → t ≡ s)
    → UnaryTyped (unary_slot op) s r → cond test (Some r) None ≡ Some u
    → UnaryTyped (unary_slot op) t u
tested op s r t u test is h e =
    let p = where_is test r u e in at_types op s r t u h (is p.0) p.1

pub unary_typed : (op : Unary) (t u : Ty) → unary_type op t ≡ Some u
    → UnaryTyped (unary_slot op) t u
unary_typed unary.Not t u = tested unary.Not ty.Bool ty.Bool t u _ (bool_is t) inverts
unary_typed unary.Negate t u = tested unary.Negate ty.Int ty.Int t u _ (int_is t) negates
unary_typed unary.Len t u =
    λ e. let p = where_is (is_long (out-Ty t)) ty.Int u e in counts t u p.1 (long_is t p.0)
unary_typed unary.Words t u =
    tested unary.Words ty.Text (ty.List ty.Text) t u _ (text_is t) splits
unary_typed unary.Text t u = tested unary.Text ty.Int ty.Text t u _ (int_is t) writes
unary_typed unary.Number t u = tested unary.Number ty.Text ty.Int t u _ (text_is t) reads

pub bools_are : (t u w : Ty) → bools_type t u ≡ Some w
    → (t ≡ ty.Bool) × (u ≡ ty.Bool) × (ty.Bool ≡ w)
bools_are t u w e =
    let p = where_is (is_bool (out-Ty t) && is_bool (out-Ty u)) ty.Bool w e in
    let q = both_true (is_bool (out-Ty t)) (is_bool (out-Ty u)) p.0 in
    (bool_is t q.0, bool_is u q.1, p.1)

at_both : (op : Operation) (s r x t u w : Ty) → BinaryTyped op s r x
    → (t ≡ s) × (u ≡ r) × (x ≡ w) → BinaryTyped op t u w
at_both op s r x t u w h p =
    subst (λ v. BinaryTyped op v u w) (sym p.0)
    (subst (λ v. BinaryTyped op s v w) (sym p.1) (subst (BinaryTyped op s r) p.2 h))

joins : (t u w : Ty) → u ≡ t → t ≡ w → IsLong t → BinaryTyped operation.Concat t u w
joins t u w s r (inl e) =
    at_both operation.Concat ty.Text ty.Text ty.Text t u w joins_texts (e, s ∙ e, sym e ∙ r)
joins t u w s r (inr (m, e)) =
    at_both operation.Concat (ty.List m) (ty.List m) (ty.List m) t u w (joins_lists m)
    (e, s ∙ e, sym e ∙ r)

pub two_typed : (op : Operation) (t u w : Ty) → two_type op t u ≡ Some w → BinaryTyped op t u w
two_typed (operation.Arithmetic op) t u w e =
    let p = where_is (is_int (out-Ty t) && is_int (out-Ty u)) ty.Int w e in
    let q = both_true (is_int (out-Ty t)) (is_int (out-Ty u)) p.0 in
    at_both (operation.Arithmetic op) ty.Int ty.Int ty.Int t u w (computes op)
    (int_is t q.0, int_is u q.1, p.1)
two_typed (operation.Comparison op) t u w e =
    let p = where_is (is_same t u) ty.Bool w e in
    at_both (operation.Comparison op) t t ty.Bool t u w (compares op t)
    (refl, sym (tells_apart t u p.0), p.1)
two_typed operation.Concat t u w e =
    let p = where_is (is_same t u && is_long (out-Ty t)) t w e in
    let q = both_true (is_same t u) (is_long (out-Ty t)) p.0 in
    joins t u w (sym (tells_apart t u q.0)) p.1 (long_is t q.1)

pub index_is : (t u w : Ty) → index_type t u ≡ Some w → (t ≡ ty.List w) × (u ≡ ty.Int)
index_is t u w e = index_at (is_int (out-Ty u)) refl e
  where
    index_at : (b : Bool) → is_int (out-Ty u) ≡ b → cond b (member_type t) None ≡ Some w
        → (t ≡ ty.List w) × (u ≡ ty.Int)
    index_at true s e = (list_type_is t w e, int_is u s)
    index_at false s e = cc

pub pick_is : (t u w x : Ty) → pick_type t u w ≡ Some x → (t ≡ ty.Bool) × (u ≡ w) × (u ≡ x)
pick_is t u w x e =
    let p = where_is (is_bool (out-Ty t) && is_same u w) u x e in
    let q = both_true (is_bool (out-Ty t)) (is_same u w) p.0 in
    (bool_is t q.0, tells_apart u w q.1, p.1)

pub side_typed : (s : Side) (other t w : Ty) → either_of s other t ≡ w
    → UnaryTyped (side_slot s) t w
side_typed side.Left other t w e = subst (UnaryTyped (side_slot side.Left) t) e (lefts t other)
side_typed side.Right other t w e = subst (UnaryTyped (side_slot side.Right) t) e (rights other t)
