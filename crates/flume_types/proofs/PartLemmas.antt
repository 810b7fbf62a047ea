-- What a value of a type holds, and the types of values that are made.
use Rattle.std.proofs.Common.{◌≡◌, ◌⊎◌, ℕ, ℤ, Bool, true, Option, Some, None, List, [], ◌∷◌, inl, inr, refl, sym, ap, ◌∙◌}
use Rattle.std.specs.List.{AllByRecursion, list_all}
use Rattle.flume_value.specs.declared.value.Value.{Value, Value-F, out-Value}
use Rattle.flume_value.specs.declared.value.Value.TheVariants as variant
use Rattle.flume_value.specs.Parts.{int_layer, bool_layer, text_layer, list_layer, record_layer, left_layer, right_layer, int_of, bool_of, text_of, members_of, fields_of, left_of, right_of}
use Rattle.flume_value.proofs.BoolLemmas.{both_true, and_both}
use Rattle.flume_value.proofs.EachLemmas.{each_passes, all_pass}
use Rattle.flume_types.specs.declared.types.Ty.{Ty, Ty-F, out-Ty}
use Rattle.flume_types.specs.declared.types.Ty.TheVariants as ty
use Rattle.flume_types.specs.declared.types.Field.{Field}
use Rattle.flume_types.specs.Typing.{Has, HaveTypes, each_has, layer_has, has_type, types_of}
use Rattle.flume_types.proofs.TypingLemmas.{has_type-step, has_type-List, has_type-Rec}

-- the value has a part of the kind asked for, and P holds of it
abbrev pub Part : {A : Type 0} → Option A → (A → Type 0) → Type 0
Part {A} o P = (a : A) × (o ≡ Some a) × P a

-- what a value of a type is at its first level
pub at_level : (v : Value) (t : Ty) (u : Ty-F Ty) → out-Ty t ≡ u → Has t v
    → layer_has has_type (out-Value v) u ≡ true
at_level v t u e h = sym (has_type-step v t ∙ ap (layer_has has_type (out-Value v)) e) ∙ h

-- ---- the values of a list and of a record

each_from_all : (t : Ty) (xs : List Value)
    → list_all (λ v. has_type v t) xs ≡ true → AllByRecursion (Has t) xs
each_from_all t xs h = each_passes (λ v. has_type v t) xs h

all_from_each : (t : Ty) (xs : List Value)
    → AllByRecursion (Has t) xs → list_all (λ v. has_type v t) xs ≡ true
all_from_each t xs h = all_pass (λ v. has_type v t) xs h

have_from_fields : (fields : List (Field Ty)) (xs : List Value)
    → each_has has_type xs fields ≡ true → HaveTypes (types_of fields) xs
have_from_fields [] [] h = tt
have_from_fields (f ∷ fs) [] h = cc
have_from_fields [] (x ∷ xs) h = cc
have_from_fields (f ∷ fs) (x ∷ xs) h =
    let both = both_true (has_type x f.ty) (each_has has_type xs fs) h in
    (both.0, have_from_fields fs xs both.1)

fields_from_have : (fields : List (Field Ty)) (xs : List Value)
    → HaveTypes (types_of fields) xs → each_has has_type xs fields ≡ true
fields_from_have [] [] h = refl
fields_from_have (f ∷ fs) [] h = absurd h
fields_from_have [] (x ∷ xs) h = absurd h
fields_from_have (f ∷ fs) (x ∷ xs) h =
    and_both (has_type x f.ty) (each_has has_type xs fs) h.0 (fields_from_have fs xs h.1)

-- ---- the part of a value of each type

int_layer_of : (x : Value-F Value) → layer_has has_type x Ty-F.Int ≡ true
    → Part (int_layer x) (λ _. Unit {0})
int_layer_of (Value-F.Int n) h = (n, refl, tt)
int_layer_of _ h = cc

bool_layer_of : (x : Value-F Value) → layer_has has_type x Ty-F.Bool ≡ true
    → Part (bool_layer x) (λ _. Unit {0})
bool_layer_of (Value-F.Bool b) h = (b, refl, tt)
bool_layer_of _ h = cc

text_layer_of : (x : Value-F Value) → layer_has has_type x Ty-F.Text ≡ true
    → Part (text_layer x) (λ _. list_layer x ≡ None)
text_layer_of (Value-F.Text s) h = (s, refl, refl)
text_layer_of _ h = cc

list_layer_of : (x : Value-F Value) (t : Ty) → layer_has has_type x (Ty-F.List t) ≡ true
    → Part (list_layer x) (λ xs. list_all (λ v. has_type v t) xs ≡ true)
list_layer_of (Value-F.List xs) t h = (xs, refl, h)
list_layer_of _ t h = cc

record_layer_of : (x : Value-F Value) (fs : List (Field Ty))
    → layer_has has_type x (Ty-F.Rec fs) ≡ true
    → Part (record_layer x) (λ xs. each_has has_type xs fs ≡ true)
record_layer_of (Value-F.Rec xs) fs h = (xs, refl, h)
record_layer_of _ fs h = cc

-- the content of an either is a left side of the one type, or a right side of the other
abbrev pub Side : Option Value → Option Value → Ty → Ty → Type 0
Side l r t u = (x : Value) × (((l ≡ Some x) × Has t x) ⊎ ((l ≡ None) × (r ≡ Some x) × Has u x))

either_layer_of : (x : Value-F Value) (t u : Ty) → layer_has has_type x (Ty-F.Either t u) ≡ true
    → Side (left_layer x) (right_layer x) t u
either_layer_of (Value-F.Left x) t u h = (x, inl (refl, h))
either_layer_of (Value-F.Right x) t u h = (x, inr (refl, refl, h))
either_layer_of _ t u h = cc

pub int_in : (v : Value) → Has ty.Int v → Part (int_of v) (λ _. Unit {0})
int_in v h = int_layer_of (out-Value v) (at_level v ty.Int Ty-F.Int ty.outs-Int h)

pub bool_in : (v : Value) → Has ty.Bool v → Part (bool_of v) (λ _. Unit {0})
bool_in v h = bool_layer_of (out-Value v) (at_level v ty.Bool Ty-F.Bool ty.outs-Bool h)

pub text_in : (v : Value) → Has ty.Text v → Part (text_of v) (λ _. members_of v ≡ None)
text_in v h = text_layer_of (out-Value v) (at_level v ty.Text Ty-F.Text ty.outs-Text h)

-- the members of a list, each of the members' type
pub list_in : (v : Value) (t : Ty) → Has (ty.List t) v
    → Part (members_of v) (AllByRecursion (Has t))
list_in v t h =
    let p = list_layer_of (out-Value v) t
    (at_level v (ty.List t) (Ty-F.List t) (ty.outs-List t) h) in
    (p.0, p.1, each_from_all t p.0 p.2)

-- the fields of a record, each of its field's type
pub record_in : (v : Value) (fs : List (Field Ty)) → Has (ty.Rec fs) v
    → Part (fields_of v) (HaveTypes (types_of fs))
record_in v fs h =
    let p = record_layer_of (out-Value v) fs
    (at_level v (ty.Rec fs) (Ty-F.Rec fs) (ty.outs-Rec fs) h) in
    (p.0, p.1, have_from_fields fs p.0 p.2)

pub either_in : (v : Value) (t u : Ty) → Has (ty.Either t u) v → Side (left_of v) (right_of v) t u
either_in v t u h =
    either_layer_of (out-Value v) t u
    (at_level v (ty.Either t u) (Ty-F.Either t u) (ty.outs-Either t u) h)

-- ---- values that are made

pub has_int : (n : ℤ) → Has ty.Int (variant.Int n)
has_int n =
    has_type-step (variant.Int n) ty.Int
    ∙ (λ i. layer_has has_type (variant.outs-Int n i) (ty.outs-Int i))

pub has_bool : (b : Bool) → Has ty.Bool (variant.Bool b)
has_bool b =
    has_type-step (variant.Bool b) ty.Bool
    ∙ (λ i. layer_has has_type (variant.outs-Bool b i) (ty.outs-Bool i))

pub has_text : (s : List ℕ) → Has ty.Text (variant.Text s)
has_text s =
    has_type-step (variant.Text s) ty.Text
    ∙ (λ i. layer_has has_type (variant.outs-Text s i) (ty.outs-Text i))

pub has_list : (t : Ty) (xs : List Value)
    → AllByRecursion (Has t) xs → Has (ty.List t) (variant.List xs)
has_list t xs h = has_type-List xs t ∙ all_from_each t xs h

pub has_record : (fs : List (Field Ty)) (xs : List Value)
    → HaveTypes (types_of fs) xs → Has (ty.Rec fs) (variant.Rec xs)
has_record fs xs h = has_type-Rec xs fs ∙ fields_from_have fs xs h
