-- What types are that are tables, lists or the same.
use Rattle.std.proofs.Common.{◌≡◌, Bool, true, false, ◌&&◌, List, [], ◌∷◌, Some, None, codes, if◌then◌else◌, refl, sym, ap, ◌∙◌}
use Rattle.std.specs.Str.{bytes_eq}
use Rattle.std.specs.Cmp.Lexicographic.{same_text}
use Rattle.flume_value.proofs.BoolLemmas.{both_true}
use Rattle.flume_types.specs.declared.types.Ty.{Ty, Ty-F, out-Ty, roll-Ty, roll-out-Ty}
use Rattle.flume_types.specs.declared.types.Ty.TheVariants as ty
use Rattle.flume_types.specs.declared.types.Field.{Field}
use Rattle.flume_types.specs.Equality.{type_eq}
use Rattle.flume_types.specs.Tables.{table_of}
use Rattle.flume_types.proofs.SameLemmas.{ty_eq-Decides}
use Rattle.script_rules.specs.Operations.{Pair, key_and_value, pair_in, member_type_in}

pub same-types : (t u : Ty) → type_eq t u ≡ true → t ≡ u
same-types t u e = (ty_eq-Decides t u).0 e

pub out-same : (t u : Ty) → out-Ty t ≡ out-Ty u → t ≡ u
out-same t u e = sym (roll-out-Ty t) ∙ ap roll-Ty e ∙ roll-out-Ty u

-- ---- tables

abbrev as_pair : Field Ty → Field Ty → Pair
as_pair key value = record { key = key.ty; value = value.ty }

named-pair : (key value : Field Ty) (test : Bool) (pair : Pair)
    → (test ≡ true → ty.Rec (key ∷ value ∷ []) ≡ table_of key.ty value.ty)
    → (if test then Some (as_pair key value) else None)
    ≡ Some pair
    → ty.Rec (key ∷ value ∷ []) ≡ table_of pair.key pair.value
named-pair key value true pair named e =
    let same : as_pair key value ≡ pair = cc in
    named refl ∙ ap (λ (p : Pair). table_of p.key p.value) same
named-pair key value false pair named e = cc

as-table : (key value : Field Ty)
    → (bytes_eq key.name (codes "key") && bytes_eq value.name (codes "value")) ≡ true
    → ty.Rec (key ∷ value ∷ []) ≡ table_of key.ty value.ty
as-table key value e =
    let names =
    both_true (bytes_eq key.name (codes "key")) (bytes_eq value.name (codes "value")) e in
    let key_is : key.name ≡ codes "key" = same_text key.name (codes "key") (sym names.0) in
    let value_is : value.name ≡ codes "value" =
    same_text value.name (codes "value") (sym names.1) in
    λ i.
    ty.Rec
    (record { name = key_is i; ty = key.ty } ∷ record { name = value_is i; ty = value.ty } ∷ [])

fields-pair : (fields : List (Field Ty)) (pair : Pair) → key_and_value fields ≡ Some pair
    → ty.Rec fields ≡ table_of pair.key pair.value
fields-pair (key ∷ value ∷ []) pair e =
    named-pair key value (bytes_eq key.name (codes "key") && bytes_eq value.name (codes "value"))
    pair (as-table key value) e
fields-pair [] pair e = cc
fields-pair (key ∷ []) pair e = cc
fields-pair (key ∷ value ∷ more ∷ fields) pair e = cc

layer-pair : (x : Ty-F Ty) (t : Ty) (pair : Pair) → out-Ty t ≡ x → pair_in x ≡ Some pair
    → t ≡ table_of pair.key pair.value
layer-pair (Ty-F.Rec fields) t pair is e =
    out-same t (ty.Rec fields) (is ∙ sym (ty.outs-Rec fields)) ∙ fields-pair fields pair e
layer-pair Ty-F.Int t pair is e = cc
layer-pair Ty-F.Bool t pair is e = cc
layer-pair Ty-F.Text t pair is e = cc
layer-pair (Ty-F.List part) t pair is e = cc
layer-pair (Ty-F.Either left right) t pair is e = cc

pub is-table : (t : Ty) (pair : Pair) → pair_in (out-Ty t) ≡ Some pair
    → t ≡ table_of pair.key pair.value
is-table t pair e = layer-pair (out-Ty t) t pair refl e

-- ---- lists

layer-member : (x : Ty-F Ty) (t member : Ty) → out-Ty t ≡ x → member_type_in x ≡ Some member
    → t ≡ ty.List member
layer-member (Ty-F.List part) t member is e =
    let same : part ≡ member = cc in
    out-same t (ty.List part) (is ∙ sym (ty.outs-List part)) ∙ ap ty.List same
layer-member Ty-F.Int t member is e = cc
layer-member Ty-F.Bool t member is e = cc
layer-member Ty-F.Text t member is e = cc
layer-member (Ty-F.Rec fields) t member is e = cc
layer-member (Ty-F.Either left right) t member is e = cc

pub is-list : (t member : Ty) → member_type_in (out-Ty t) ≡ Some member → t ≡ ty.List member
is-list t member e = layer-member (out-Ty t) t member refl e
