-- The lines on which types are written have no part in what they mean.
use Rattle.std.proofs.Common.{◌≡◌, ℕ, Bool, true, false, not, List, [], ◌∷◌, ◌++◌, map, Option, Some, None, Ok, Err, refl, sym, ap, ◌∙◌, subst, nat_le}
use Rattle.flume_types.specs.declared.types.Ty.{Ty}
use Rattle.flume_types.specs.declared.types.Ty.TheVariants as ty
use Rattle.flume_types.specs.declared.types.Field.{Field}
use Rattle.flume_types.specs.Depth.{depth_of}
use Rattle.flume_types.specs.Tables.{table_of}
use Rattle.flume_grammar.specs.declared.tree.Type as tree
use Rattle.flume_grammar.specs.declared.fault.ScriptKind.{ScriptKind}
use Rattle.flume_grammar.specs.declared.fault.ScriptKind.TheVariants.{Twice, TooDeep, Unknown}
use Rattle.written_types.specs.Answer.{Checked, ◌>>=◌, or_fault, unless}
use Rattle.written_types.specs.Named.{Named, find}
use Rattle.written_types.specs.Written.{fields_behind, has_field, layer_written, shallow, whole_type, written}

-- ---- what is found, without its fault

abbrev pub found : {A : Type 0} → Checked A → Option A
found (Ok x) = Some x
found (Err e) = None

pub found_then : {A B : Type 0} (r q : Checked A) (f g : A → Checked B) → found r ≡ found q
    → ((x : A) → found (f x) ≡ found (g x)) → found (r >>= f) ≡ found (q >>= g)
found_then (Ok x) (Ok y) f g same rest =
    let e : x ≡ y = cc in
    rest x ∙ ap (λ z. found (g z)) e
found_then (Ok x) (Err e) f g same rest = cc
found_then (Err e) (Ok y) f g same rest = cc
found_then (Err e) (Err d) f g same rest = refl

pub found_same : {A : Type 0} (r q : Checked A) (x y : A) → found r ≡ found q → r ≡ Ok x
    → q ≡ Ok y → x ≡ y
found_same r q x y same here there =
    let both : Some x ≡ Some y = sym (ap found here) ∙ same ∙ ap found there in
    cc

pub found_option : {A : Type 0} (line other : ℕ) (kind : ScriptKind) (o : Option A)
    → found (or_fault line kind o) ≡ found (or_fault other kind o)
found_option line other kind None = refl
found_option line other kind (Some x) = refl

pub found_test : (line other : ℕ) (kind : ScriptKind) (test : Bool)
    → found (unless line kind test) ≡ found (unless other kind test)
found_test line other kind true = refl
found_test line other kind false = refl

-- ---- types as they are written

module _ (line other : ℕ) where
  found_shallow : (t : Ty) → found (shallow line t) ≡ found (shallow other t)
  found_shallow t =
      found_then (unless line TooDeep (nat_le (depth_of t) 8))
      (unless other TooDeep (nat_le (depth_of t) 8)) (λ low. Ok t) (λ low. Ok t)
      (found_test line other TooDeep (nat_le (depth_of t) 8)) (λ low. refl)

  abbrev FoundType : tree.Type → Type 0
  FoundType type =
      (known : Named Ty) → found (written line type known) ≡ found (written other type known)

  abbrev plain : (type : tree.Type) × FoundType type → tree.Type
  plain p = p.0

  abbrev Meaning : Type 0
  Meaning = Named Ty → Checked Ty

  found_fields : (types : List ((type : tree.Type) × FoundType type)) (fields : List (Field Ty))
      (names : List (List ℕ)) (known : Named Ty)
      → found (fields_behind line (λ m. m) fields names
      (map (written line) (map plain types)) known)
      ≡ found (fields_behind other (λ m. m) fields names
      (map (written other) (map plain types)) known)
  found_fields types fields [] known = refl
  found_fields [] fields (name ∷ names) known = refl
  found_fields (p ∷ types) fields (name ∷ names) known =
      let here = λ (t : Ty).
      fields_behind line (λ m. m) (fields ++ record { name = name; ty = t } ∷ []) names
      (map (written line) (map plain types)) known in
      let there = λ (t : Ty).
      fields_behind other (λ m. m) (fields ++ record { name = name; ty = t } ∷ []) names
      (map (written other) (map plain types)) known in
      found_then (unless line Twice (not (has_field name fields)))
      (unless other Twice (not (has_field name fields)))
      (λ new. written line p.0 known >>= here) (λ new. written other p.0 known >>= there)
      (found_test line other Twice (not (has_field name fields)))
      (λ new. found_then (written line p.0 known) (written other p.0 known) here there
      (p.1 known)
      (λ t. found_fields types (fields ++ record { name = name; ty = t } ∷ []) names known))

  abbrev AtForm : Named Ty → tree.Type-F tree.Type → Type 0
  AtForm known z =
      found (layer_written line (λ m. m) (tree.map-Type tree.Type Meaning (written line) z) known)
      ≡ found
      (layer_written other (λ m. m) (tree.map-Type tree.Type Meaning (written other) z) known)

  by_form : (y : tree.Type-F ((type : tree.Type) × FoundType type)) (known : Named Ty)
      → AtForm known (tree.map-Type ((type : tree.Type) × FoundType type) tree.Type plain y)
  by_form tree.Type-F.Int known = refl
  by_form tree.Type-F.Bool known = refl
  by_form tree.Type-F.Text known = refl
  by_form (tree.Type-F.Named name) known = found_option line other Unknown (find name known)
  by_form (tree.Type-F.List part) known =
      found_then (written line part.0 known) (written other part.0 known)
      (λ t. Ok (ty.List t)) (λ t. Ok (ty.List t)) (part.1 known) (λ t. refl)
  by_form (tree.Type-F.Either left right_) known =
      found_then (written line left.0 known) (written other left.0 known)
      (λ t. written line right_.0 known >>= λ u. Ok (ty.Either t u))
      (λ t. written other right_.0 known >>= λ u. Ok (ty.Either t u)) (left.1 known)
      (λ t. found_then (written line right_.0 known) (written other right_.0 known)
      (λ u. Ok (ty.Either t u)) (λ u. Ok (ty.Either t u)) (right_.1 known) (λ u. refl))
  by_form (tree.Type-F.Table key value) known =
      found_then (written line key.0 known) (written other key.0 known)
      (λ t. written line value.0 known >>= λ u. Ok (table_of t u))
      (λ t. written other value.0 known >>= λ u. Ok (table_of t u)) (key.1 known)
      (λ t. found_then (written line value.0 known) (written other value.0 known)
      (λ u. Ok (table_of t u)) (λ u. Ok (table_of t u)) (value.1 known) (λ u. refl))
  by_form (tree.Type-F.Record names types) known =
      found_then
      (fields_behind line (λ m. m) [] names (map (written line) (map plain types)) known)
      (fields_behind other (λ m. m) [] names (map (written other) (map plain types)) known)
      (λ fields. Ok (ty.Rec fields)) (λ fields. Ok (ty.Rec fields))
      (found_fields types [] names known) (λ fields. refl)

  from_form : (type : tree.Type) (known : Named Ty) → AtForm known (tree.out-Type type)
      → found (written line type known) ≡ found (written other type known)
  from_form type known same =
      ap (λ (f : Meaning). found (f known))
      (tree.fold_out-Type Meaning (layer_written line (λ m. m)) type)
      ∙ same
      ∙ ap (λ (f : Meaning). found (f known))
      (sym (tree.fold_out-Type Meaning (layer_written other (λ m. m)) type))

  found_written : (type : tree.Type) → FoundType type
  found_written =
      tree.ind-Type FoundType
      (λ x y same known. from_form (tree.roll-Type x) known
      (subst (AtForm known) (same ∙ sym (tree.out-roll-Type x)) (by_form y known)))

  pub found_whole : (type : tree.Type) (known : Named Ty)
      → found (whole_type line type known) ≡ found (whole_type other type known)
  found_whole type known =
      found_then (written line type known) (written other type known) (shallow line)
      (shallow other) (found_written type known) found_shallow
