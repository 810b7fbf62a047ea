-- The statements of two scripts side by side: those that belong to a key are the same in both.
use Rattle.std.proofs.Common.{◌≡◌, ℕ, Bool, true, false, ◌||◌, List, [], ◌∷◌, if◌then◌else◌, refl, sym, ap, ◌∙◌}
use Rattle.std.specs.Prelude.{⊤}
use Rattle.std.specs.List.{list_any}
use Rattle.std.specs.Str.{bytes_eq}
use Rattle.flume_grammar.specs.declared.tree.Form.{Form}
use Rattle.flume_grammar.specs.declared.tree.Form.TheVariants as form
use Rattle.flume_grammar.specs.declared.tree.Statement.{Statement}
use Rattle.script_keys.specs.Outlines.{outline_of}
use Rattle.script_keys.specs.Rests.{belongs, belongs_by, defines, holds_name, is_defined, is_named, names_before, name_alone, rested_on, with_named}
use Rattle.script_keys.specs.declared.outline.Outline.{Outline}
use Rattle.script_keys.specs.declared.outline.Outline.TheVariants as outline
use Rattle.script_keys.specs.declared.rests.Names.{Names}
use Rattle.statement_law.specs.Lineless.{statement_lineless}
use Rattle.statement_law.specs.Outlined.{outlines_of}
use Rattle.statement_law.proofs.Blanks.{outlines_alike}
use Rattle.key_meaning.proofs.Keeping.{bytes_itself, has_left}
use Rattle.key_meaning.proofs.Standing.{neither, or-later, same_bytes}

-- where it is an input, its file is the same
abbrev pub HasSameFile : (List ℕ → Type 0) → Form → Type 0
HasSameFile SameFile (form.Input own type file) = SameFile file
HasSameFile SameFile _ = ⊤

-- a statement belongs to the key of the collection of that name
abbrev pub is_kept : List ℕ → List Statement → Statement → Bool
is_kept name others statement = belongs name (outlines_of others) (outline_of statement.form)

module _ (SameFile : List ℕ → Type 0) (name : List ℕ) where
  -- one statement of the one script, of the other, or of both, but for lines
  pub data Aligned : List Statement → List Statement → Type 0 where
    ended : Aligned [] []
    left : {s : Statement} {ss rs : List Statement} → is_kept name ss s ≡ false → Aligned ss rs
        → Aligned (s ∷ ss) rs
    right_ : {r : Statement} {ss rs : List Statement} → is_kept name rs r ≡ false → Aligned ss rs
        → Aligned ss (r ∷ rs)
    kept : {s r : Statement} {ss rs : List Statement} → is_kept name ss s ≡ true
        → statement_lineless s ≡ statement_lineless r → HasSameFile SameFile s.form → Aligned ss rs
        → Aligned (s ∷ ss) (r ∷ rs)

-- ---- outlines

if_false : {A : Type 0} (b : Bool) (x y : A) → b ≡ false → (if b then x else y) ≡ y
if_false true x y is = cc
if_false false x y is = refl

pub if_true : {A : Type 0} (b : Bool) (x y : A) → b ≡ true → (if b then x else y) ≡ x
if_true true x y is = refl
if_true false x y is = cc

abbrev head_of : Outline → List Outline → Outline
head_of it [] = it
head_of it (first ∷ others) = first

same_outline : (s r : Statement) → statement_lineless s ≡ statement_lineless r
    → outline_of s.form ≡ outline_of r.form
same_outline s r same =
    ap (head_of (outline_of s.form))
    (outlines_alike (s ∷ []) (r ∷ []) (ap (λ x. x ∷ []) same))

-- what does not belong to a key defines none of its names
pub away_named : (names : Names) (found : Bool) (it : Outline) → belongs_by names found it ≡ false
    → is_named names it ≡ false
away_named names found outline.Type away = refl
away_named names found _ away = away

pub away_names : (names : Names) (found : Bool) (it : Outline) → belongs_by names found it ≡ false
    → names_before names it ≡ names
away_names names found it away =
    if_false (is_named names it) (with_named names it) names (away_named names found it away)

-- more names
pub record IsWider (names more : Names) : Type 0 where
  pub collections : (own : List ℕ) → holds_name names.collections own ≡ true
      → holds_name more.collections own ≡ true
  pub functions : (own : List ℕ) → holds_name names.functions own ≡ true
      → holds_name more.functions own ≡ true

wider_by : (names : Names) (it : Outline) (b : Bool)
    → IsWider names (if b then with_named names it else names)
wider_by names it false = record { collections = λ own is. is; functions = λ own is. is }
wider_by names (outline.Let own reads calls) true = record {
  collections = has_left names.collections reads;
  functions = has_left names.functions calls;
}
wider_by names _ true = record { collections = λ own is. is; functions = λ own is. is }

pub wider : (names : Names) (it : Outline) → IsWider names (names_before names it)
wider names it = wider_by names it (is_named names it)

module _ (name : List ℕ) where
  -- the collection itself is always among the names
  has_itself : (others : List Outline) → holds_name (rested_on name others).collections name ≡ true
  has_itself [] = λ i. bytes_itself name i || false
  has_itself (it ∷ others) =
      (wider (rested_on name others) it).collections name (has_itself others)

  some_defined : (names own : List (List ℕ)) → holds_name names name ≡ true
      → holds_name own name ≡ true
      → list_any (holds_name names) own ≡ true
  some_defined names [] is among = cc
  some_defined names (first ∷ own) is among =
      by (some_defined names own is) (bytes_eq first name) refl among
    where
      by : (holds_name own name ≡ true → list_any (holds_name names) own ≡ true) → (b : Bool)
          → bytes_eq first name ≡ b → (b || holds_name own name) ≡ true
          → (holds_name names first || list_any (holds_name names) own) ≡ true
      by further true same later =
          (λ i. holds_name names (same_bytes first name same i) || list_any (holds_name names) own)
          ∙ (λ i. is i || list_any (holds_name names) own)
      by further false same later =
          or-later (holds_name names first) (list_any (holds_name names) own) (further later)

  defined_named : (names : Names) (it : Outline) → holds_name names.collections name ≡ true
      → defines it name ≡ true → is_named names it ≡ true
  defined_named names outline.Type is it = cc
  defined_named names (outline.Input own file) is it =
      ap (holds_name names.collections) (same_bytes own name it) ∙ is
  defined_named names (outline.Function own) is it = cc
  defined_named names (outline.Let own reads calls) is it =
      some_defined names.collections own is it
  defined_named names outline.Output is it = cc

  -- what does not belong does not define it
  not_defined : (others : List Outline) (it : Outline) → belongs name others it ≡ false
      → defines it name ≡ false
  not_defined others it away = by (defines it name) refl
    where
      by : (b : Bool) → defines it name ≡ b → b ≡ false
      by false is = refl
      by true is =
          let named = defined_named (rested_on name others) it (has_itself others) is in
          let none = away_named (rested_on name others) (is_defined name others) it away in
          let e : true ≡ false = sym named ∙ none in
          cc

  only_defined : (own : List (List ℕ)) → list_any (holds_name (name ∷ [])) own ≡ true
      → holds_name own name ≡ true
  only_defined [] is = cc
  only_defined (first ∷ own) is =
      by (only_defined own) (bytes_eq name first) refl is
    where
      by : (list_any (holds_name (name ∷ [])) own ≡ true → holds_name own name ≡ true) → (b : Bool)
          → bytes_eq name first ≡ b
          → ((b || false) || list_any (holds_name (name ∷ [])) own) ≡ true
          → (bytes_eq first name || holds_name own name) ≡ true
      by further true same later =
          λ i. (ap (λ n. bytes_eq first n) (same_bytes name first same) ∙ bytes_itself first) i
          || holds_name own name
      by further false same later =
          or-later (bytes_eq first name) (holds_name own name) (further later)

  one_defined : (own : List ℕ) → (bytes_eq name own || false) ≡ true → bytes_eq own name ≡ true
  one_defined own is = by (bytes_eq name own) refl is
    where
      by : (b : Bool) → bytes_eq name own ≡ b → (b || false) ≡ true → bytes_eq own name ≡ true
      by true same later = ap (λ n. bytes_eq own n) (same_bytes name own same) ∙ bytes_itself own
      by false same later = cc

  -- among itself alone
  named_defined : (it : Outline) → is_named (name_alone name) it ≡ true → defines it name ≡ true
  named_defined outline.Type is = cc
  named_defined (outline.Input own file) is = one_defined own is
  named_defined (outline.Function own) is = cc
  named_defined (outline.Let own reads calls) is = only_defined own is
  named_defined outline.Output is = cc

  -- behind it nothing else is rested on
  not_yet : (others : List Outline) → is_defined name others ≡ false
      → rested_on name others ≡ name_alone name
  not_yet [] none = refl
  not_yet (it ∷ others) none =
      let both_ = neither (defines it name) (is_defined name others) none in
      ap (λ ns. names_before ns it) (not_yet others both_.1)
      ∙ if_false (is_named (name_alone name) it) (with_named (name_alone name) it) (name_alone name)
      (by (is_named (name_alone name) it) refl both_.0)
    where
      by : (b : Bool) → is_named (name_alone name) it ≡ b → defines it name ≡ false → b ≡ false
      by false is away = refl
      by true is away =
          let e : true ≡ false = sym (named_defined it is) ∙ away in
          cc

  kept_by : (others : List Outline) (it : Outline)
      → is_named (rested_on name others) it ≡ true → is_defined name (it ∷ others) ≡ true
  kept_by others it named = by (is_defined name others) refl
    where
      by : (b : Bool) → is_defined name others ≡ b → (defines it name || b) ≡ true
      by true is = or-later (defines it name) true refl
      by false is =
          let e = named_defined it
          (ap (λ ns. is_named ns it) (sym (not_yet others is)) ∙ named) in
          λ i. e i || false

  -- what belongs to a key is the collection, or stands before it
  pub kept_defined : (others : List Outline) (it : Outline) → belongs name others it ≡ true
      → is_defined name (it ∷ others) ≡ true
  kept_defined others outline.Type is = is
  kept_defined others (outline.Input own file) is = kept_by others (outline.Input own file) is
  kept_defined others (outline.Function own) is = kept_by others (outline.Function own) is
  kept_defined others (outline.Let own reads calls) is =
      kept_by others (outline.Let own reads calls) is
  kept_defined others outline.Output is = cc

-- ---- side by side

module _ (SameFile : List ℕ → Type 0) (name : List ℕ) where
  -- both rest on the same names
  pub same_names : {ss rs : List Statement} → Aligned SameFile name ss rs
      → rested_on name (outlines_of ss) ≡ rested_on name (outlines_of rs)
  same_names ended = refl
  same_names (left {s} {ss} {rs} away others) =
      away_names (rested_on name (outlines_of ss)) (is_defined name (outlines_of ss))
      (outline_of s.form) away
      ∙ same_names others
  same_names (right_ {r} {ss} {rs} away others) =
      same_names others
      ∙ sym (away_names (rested_on name (outlines_of rs)) (is_defined name (outlines_of rs))
      (outline_of r.form) away)
  same_names (kept {s} {r} {ss} {rs} is same file others) =
      λ i. names_before (same_names others i) (same_outline s r same i)

  -- the collection is still to come in both, or in none
  pub same_defined : {ss rs : List Statement} → Aligned SameFile name ss rs
      → is_defined name (outlines_of ss) ≡ is_defined name (outlines_of rs)
  same_defined ended = refl
  same_defined (left {s} {ss} {rs} away others) =
      (λ i. not_defined name (outlines_of ss) (outline_of s.form) away i
      || is_defined name (outlines_of ss))
      ∙ same_defined others
  same_defined (right_ {r} {ss} {rs} away others) =
      same_defined others
      ∙ sym (λ i. not_defined name (outlines_of rs) (outline_of r.form) away i
      || is_defined name (outlines_of rs))
  same_defined (kept {s} {r} {ss} {rs} is same file others) =
      λ i. defines (same_outline s r same i) name || same_defined others i
