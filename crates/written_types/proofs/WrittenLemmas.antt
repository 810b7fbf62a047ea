-- The equations of `written`, and a loop's step over the fields of a record.
use Rattle.std.proofs.Common.{◌≡◌, ℕ, ◌+◌, ◌<◌, ◌≤◌, ◌⊎◌, inl, inr, not, List, [], ◌∷◌, ◌++◌, length, map, drop, get_or, Ok, refl, sym, ap, ◌∙◌}
use Rattle.std.proofs.lemmas.List.{drop_all}
use Rattle.flume_types.specs.declared.types.Ty.{Ty}
use Rattle.flume_types.specs.declared.types.Ty.TheVariants as ty
use Rattle.flume_types.specs.declared.types.Field.{Field}
use Rattle.flume_grammar.specs.declared.tree.Type as tree
use Rattle.flume_grammar.specs.declared.tree.Type.TheVariants as form
use Rattle.flume_grammar.specs.declared.fault.ScriptKind.TheVariants.{Twice}
use Rattle.flume_grammar.specs.declared.fault.ScriptFault.{ScriptFault}
use Rattle.type_table.specs.declared.shape.Part.{Part}
use Rattle.type_table.specs.Table.{field_at, AreWithin, Extends}
use Rattle.type_table.proofs.FlatLemmas.{drop-item}
use Rattle.written_types.specs.Answer.{Checked, ◌>>=◌, Fails, unless}
use Rattle.written_types.specs.Named.{Named}
use Rattle.written_types.specs.Written.{has_field, fields_behind, layer_written, written}
use Rattle.written_types.proofs.FailsLemmas.{bind-same, Fails-first, Fails-same}
use Rattle.written_types.proofs.NamedLemmas.{push-same}

-- ---- equations

fields-mapped : {X Y : Type 0} (line : ℕ) (g : Y → Named Ty → Checked Ty) (h : X → Y)
    (fields : List (Field Ty)) (names : List (List ℕ)) (types : List X) (known : Named Ty)
    → fields_behind line g fields names (map h types) known
    ≡ fields_behind line (λ x. g (h x)) fields names types known
fields-mapped line g h fields [] types known = refl
fields-mapped line g h fields (name ∷ names) [] known = refl
fields-mapped line g h fields (name ∷ names) (type ∷ types) known =
    bind-same (unless line Twice (not (has_field name fields))) _ _ (λ new.
    bind-same (g (h type) known) _ _ (λ t.
    fields-mapped line g h (fields ++ record { name = name; ty = t } ∷ []) names types known))

layer-mapped : (line : ℕ) (f : tree.Type → Named Ty → Checked Ty) (x : tree.Type-F tree.Type)
    (known : Named Ty)
    → layer_written line (λ m. m) (tree.map-Type tree.Type (Named Ty → Checked Ty) f x) known
    ≡ layer_written line f x known
layer-mapped line f (tree.Type-F.Record names types) known =
    ap (λ r. r >>= λ fields. Ok (ty.Rec fields))
    (fields-mapped line (λ m. m) f [] names types known)
layer-mapped line f _ known = refl

written-step : (line : ℕ) (type : tree.Type) (known : Named Ty)
    → written line type known ≡ layer_written line (written line) (tree.out-Type type) known
written-step line type known =
    ap (λ f. f known)
    (tree.fold_out-Type (Named Ty → Checked Ty) (layer_written line (λ m. m)) type)
    ∙ layer-mapped line (written line) (tree.out-Type type) known

written-Record : (line : ℕ) (names : List (List ℕ)) (types : List tree.Type) (known : Named Ty)
    → written line (form.Record names types) known
    ≡ (fields_behind line (written line) [] names types known >>= λ fields. Ok (ty.Rec fields))
written-Record line names types known =
    written-step line (form.Record names types) known
    ∙ ap (λ x. layer_written line (written line) x known) (form.outs-Record names types)

-- a record, whose names and types are borrowed
pub written-fields : (line : ℕ) (type : tree.Type) (names used_names : List (List ℕ))
    (types used_types : List tree.Type) (known : Named Ty)
    → type ≡ form.Record names types → used_names ≡ names → used_types ≡ types
    → written line type known
    ≡ (fields_behind line (written line) [] used_names used_types known
    >>= λ fields. Ok (ty.Rec fields))
written-fields line type names used_names types used_types known is names_is types_is =
    ap (λ type. written line type known) is ∙ written-Record line names types known
    ∙ sym (λ j. fields_behind line (written line) [] (names_is j) (types_is j) known
    >>= λ fields. Ok (ty.Rec fields))

-- ---- fields, one by one

module _ (line : ℕ) (fields : List (Field Ty)) (names : List (List ℕ)) (types : List tree.Type)
    (known : Named Ty) (i : ℕ) where
  abbrev rest : Checked (List (Field Ty))
  rest = fields_behind line (written line) fields (drop i names) (drop i types) known

  pub no-more : (length names ≤ i) ⊎ (length types ≤ i) → rest ≡ Ok fields
  no-more h =
      elim h [
        | inl out ↦
            ap (λ names. fields_behind line (written line) fields names (drop i types) known)
            (drop_all i names out)
        | inr out ↦
            ap (λ types. fields_behind line (written line) fields (drop i names) types known)
            (drop_all i types out)
            ∙ no-types (drop i names)
      ]
    where
      no-types : (names : List (List ℕ))
          → fields_behind line (written line) fields names [] known ≡ Ok fields
      no-types [] = refl
      no-types (name ∷ names) = refl

  module _ (name : List ℕ) (type : tree.Type) (name_in : i < length names)
      (type_in : i < length types) (name_is : name ≡ get_or names i name)
      (type_is : type ≡ get_or types i type) where
    after : Ty → Checked (List (Field Ty))
    after t =
        fields_behind line (written line) (fields ++ record { name = name; ty = t } ∷ [])
        (drop (i + 1) names) (drop (i + 1) types) known

    taken : rest
        ≡ (unless line Twice (not (has_field name fields))
        >>= λ new. (written line type known >>= after))
    unfolding after
    taken = λ j.
        fields_behind line (written line) fields (drop-item names i name name_in name_is j)
        (drop-item types i type type_in type_is j) known

    pub name-fails : (e : ScriptFault) → Fails e (unless line Twice (not (has_field name fields)))
        → Fails e rest
    name-fails e h = Fails-same e rest _ taken (Fails-first e _ _ h)

    pub goes-on : (t : Ty) → unless line Twice (not (has_field name fields)) ≡ Ok tt
        → written line type known ≡ Ok t
        → rest
        ≡ fields_behind line (written line) (fields ++ record { name = name; ty = t } ∷ [])
        (drop (i + 1) names) (drop (i + 1) types) known
    unfolding after
    goes-on t new is =
        taken ∙ ap (λ r. r >>= λ new. (written line type known >>= after)) new
        ∙ ap (λ r. r >>= after) is

-- ---- types more

pub field-more : (old new : List Ty) → Extends old new → (parts after : List Part) (part : Part)
    → after ≡ parts ++ part ∷ [] → AreWithin (length old) parts
    → map (field_at new) after ≡ map (field_at old) parts ++ field_at new part ∷ []
field-more old new more =
    push-same (field_at new) (field_at old) (λ (part : Part). part.ty < length old)
    (λ part in_ i. record { name = part.name; ty = more.same part.ty in_ i })
