-- Each type as it is written is known or has a first fault with its line: want of memory is no
-- answer of a definition.
use Rattle.std.proofs.Common.{ℕ, Bool, true, false, not, Option, Some, None, Ok, Err, List, []}
use Rattle.std.proofs.Common.{◌∷◌, ◌++◌, map, nat_le, sym, subst, ◌∙◌}
use Rattle.std.specs.Prelude.{⊤}
use Rattle.flume_types.specs.Depth.{depth_of}
use Rattle.flume_types.specs.declared.types.Field.{Field}
use Rattle.flume_types.specs.declared.types.Ty.{Ty}
use Rattle.flume_grammar.specs.declared.tree.Type as tree
use Rattle.flume_grammar.specs.declared.fault.ScriptFault.TheVariants.{Refused, Memory}
use Rattle.flume_grammar.specs.declared.fault.ScriptKind.{ScriptKind}
use Rattle.flume_grammar.specs.declared.fault.ScriptKind.TheVariants.{Twice, TooDeep, Unknown}
use Rattle.written_types.specs.Answer.{Checked, ◌>>=◌, unless, or_fault}
use Rattle.written_types.specs.Named.{Named, find}
use Rattle.written_types.specs.Written.{has_field, fields_behind, layer_written, written}
use Rattle.written_types.specs.Written.{shallow, whole_type}

-- there is a result, or a fault with its line
abbrev pub IsTold : {A : Type 0} → Checked A → Type 0
IsTold (Ok x) = ⊤
IsTold (Err (Refused line kind)) = ⊤
IsTold (Err Memory) = ⊥

pub told-then : {A B : Type 0} (r : Checked A) (f : A → Checked B) → IsTold r
    → ((x : A) → IsTold (f x)) → IsTold (r >>= f)
told-then (Ok x) f told rest = rest x
told-then (Err (Refused line kind)) f told rest = tt
told-then (Err Memory) f told rest = absurd told

pub told-test : (line : ℕ) (kind : ScriptKind) (test : Bool) → IsTold (unless line kind test)
told-test line kind true = tt
told-test line kind false = tt

pub told-option : {A : Type 0} (line : ℕ) (kind : ScriptKind) (o : Option A)
    → IsTold (or_fault line kind o)
told-option line kind None = tt
told-option line kind (Some x) = tt

pub told-kept : {B : Type 0} (line : ℕ) (kind : ScriptKind) (test : Bool)
    (f : Unit {0} → Checked B) → ((u : Unit {0}) → IsTold (f u))
    → IsTold (unless line kind test >>= f)
told-kept line kind test f rest =
    told-then (unless line kind test) f (told-test line kind test) rest

pub told-found : {A B : Type 0} (line : ℕ) (kind : ScriptKind) (o : Option A) (f : A → Checked B)
    → ((x : A) → IsTold (f x)) → IsTold (or_fault line kind o >>= f)
told-found line kind o f rest =
    told-then (or_fault line kind o) f (told-option line kind o) rest

module _ (line : ℕ) where
  pub told-shallow : (t : Ty) → IsTold (shallow line t)
  told-shallow t = told-kept line TooDeep (nat_le (depth_of t) 8) (λ low. Ok t) (λ low. tt)

  abbrev ToldType : tree.Type → Type 0
  ToldType type = (known : Named Ty) → IsTold (written line type known)

  abbrev plain : (type : tree.Type) × ToldType type → tree.Type
  plain p = p.0

  abbrev Meaning : Type 0
  Meaning = Named Ty → Checked Ty

  told-fields : (types : List ((type : tree.Type) × ToldType type)) (fields : List (Field Ty))
      (names : List (List ℕ)) (known : Named Ty)
      → IsTold (fields_behind line (λ m. m) fields names
      (map (written line) (map plain types)) known)
  told-fields types fields [] known = tt
  told-fields [] fields (name ∷ names) known = tt
  told-fields (p ∷ types) fields (name ∷ names) known =
      told-kept line Twice (not (has_field name fields)) _
      (λ new. told-then (written line p.0 known) _ (p.1 known)
      (λ t. told-fields types (fields ++ record { name = name; ty = t } ∷ []) names known))

  abbrev AtForm : Named Ty → tree.Type-F tree.Type → Type 0
  AtForm known z =
      IsTold (layer_written line (λ m. m) (tree.map-Type tree.Type Meaning (written line) z) known)

  by_form : (y : tree.Type-F ((type : tree.Type) × ToldType type)) (known : Named Ty)
      → AtForm known (tree.map-Type ((type : tree.Type) × ToldType type) tree.Type plain y)
  by_form tree.Type-F.Int known = tt
  by_form tree.Type-F.Bool known = tt
  by_form tree.Type-F.Text known = tt
  by_form (tree.Type-F.Named name) known = told-option line Unknown (find name known)
  by_form (tree.Type-F.List part) known =
      told-then (written line part.0 known) _ (part.1 known) (λ t. tt)
  by_form (tree.Type-F.Either left right_) known =
      told-then (written line left.0 known) _ (left.1 known)
      (λ t. told-then (written line right_.0 known) _ (right_.1 known) (λ u. tt))
  by_form (tree.Type-F.Table key value) known =
      told-then (written line key.0 known) _ (key.1 known)
      (λ t. told-then (written line value.0 known) _ (value.1 known) (λ u. tt))
  by_form (tree.Type-F.Record names types) known =
      told-then
      (fields_behind line (λ m. m) [] names (map (written line) (map plain types)) known) _
      (told-fields types [] names known) (λ fields. tt)

  from_form : (type : tree.Type) (known : Named Ty) → AtForm known (tree.out-Type type)
      → IsTold (written line type known)
  from_form type known told =
      subst (λ (f : Meaning). IsTold (f known))
      (sym (tree.fold_out-Type Meaning (layer_written line (λ m. m)) type)) told

  told-written : (type : tree.Type) → ToldType type
  told-written =
      tree.ind-Type ToldType
      (λ x y same known. from_form (tree.roll-Type x) known
      (subst (AtForm known) (same ∙ sym (tree.out-roll-Type x)) (by_form y known)))

  pub told-whole : (type : tree.Type) (known : Named Ty) → IsTold (whole_type line type known)
  told-whole type known =
      told-then (written line type known) _ (told-written type known) (λ t. told-shallow t)
