-- What types are meant where they are written, or the first fault from the left.
use Rattle.std.specs.Prelude.{ℕ, Bool, List, [], ◌∷◌, ◌++◌, Ok, not, nat_le}
use Rattle.std.specs.List.{list_any}
use Rattle.std.specs.Str.{bytes_eq}
use Rattle.flume_types.specs.declared.types.Ty.{Ty}
use Rattle.flume_types.specs.declared.types.Ty.TheVariants as ty
use Rattle.flume_types.specs.declared.types.Field.{Field}
use Rattle.flume_types.specs.Depth.{depth_of}
use Rattle.flume_types.specs.Tables.{table_of}
use Rattle.flume_grammar.specs.declared.tree.Type as tree
use Rattle.flume_grammar.specs.declared.fault.ScriptKind.TheVariants.{Unknown, Twice, TooDeep}
use Rattle.written_types.specs.Answer.{Checked, ◌>>=◌, unless, or_fault}
use Rattle.written_types.specs.Named.{Named, find}

-- whether one of the fields has the name
abbrev pub has_field : List ℕ → List (Field Ty) → Bool
has_field name fields = list_any (λ field. bytes_eq name field.name) fields

-- each fault is told on this line
module _ (line : ℕ) where
  -- the fields of a record behind those so far: each name another, then its type, where f gives it
  abbrev pub fields_behind : {X : Type 0} → (X → Named Ty → Checked Ty) → List (Field Ty)
      → List (List ℕ) → List X → Named Ty → Checked (List (Field Ty))
  fields_behind f fields [] types known = Ok fields
  fields_behind f fields (name ∷ names) [] known = Ok fields
  fields_behind f fields (name ∷ names) (type ∷ types) known = do
    new ← unless line Twice (not (has_field name fields))
    t ← f type known
    fields_behind f (fields ++ record { name = name; ty = t } ∷ []) names types known

  -- the type that each form means, where f gives those of its parts
  abbrev pub layer_written : {X : Type 0} → (X → Named Ty → Checked Ty) → tree.Type-F X
      → Named Ty → Checked Ty
  layer_written f tree.Type-F.Int known = Ok ty.Int
  layer_written f tree.Type-F.Bool known = Ok ty.Bool
  layer_written f tree.Type-F.Text known = Ok ty.Text
  layer_written f (tree.Type-F.Named name) known = or_fault line Unknown (find name known)
  layer_written f (tree.Type-F.List part) known = do
    t ← f part known
    Ok (ty.List t)
  layer_written f (tree.Type-F.Either left right) known = do
    t ← f left known
    u ← f right known
    Ok (ty.Either t u)
  layer_written f (tree.Type-F.Table key value) known = do
    t ← f key known
    u ← f value known
    Ok (table_of t u)
  layer_written f (tree.Type-F.Record names types) known = do
    fields ← fields_behind f [] names types known
    Ok (ty.Rec fields)

  -- the type that is written, where names stand for these types
  abbrev pub written : tree.Type → Named Ty → Checked Ty
  written = tree.fold-Type (Named Ty → Checked Ty) (layer_written (λ m. m))

  -- the type, where it is at most 8 deep
  abbrev pub shallow : Ty → Checked Ty
  shallow t = do
    low ← unless line TooDeep (nat_le (depth_of t) 8)
    Ok t

  -- the type that is written, where it is at most 8 deep once names are replaced
  abbrev pub whole_type : tree.Type → Named Ty → Checked Ty
  whole_type type known = do
    t ← written type known
    shallow t
