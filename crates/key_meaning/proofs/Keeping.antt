-- A statement that both scripts have, but for lines, adds what is alike to states that are.
use Rattle.std.proofs.Common.{◌≡◌, ℕ, ◌+◌, Bool, true, false, not, ◌||◌, List, [], ◌∷◌, ◌++◌, length, Option, Some, None, is_some, Ok, refl, sym, ap, ◌∙◌, subst, arith, append-nil}
use Rattle.std.specs.List.{AllByRecursion as Each}
use Rattle.std.specs.Str.{bytes_eq}
use Rattle.std.proofs.lemmas.List.Folds.{list_any-append}
use Rattle.std.proofs.lemmas.Slice.Eq.{bytes_eq-Decides}
use Rattle.flume_types.specs.Columns.{input_columns_of}
use Rattle.flume_types.specs.declared.column.Column.{Column}
use Rattle.flume_types.specs.declared.types.Ty.{Ty}
use Rattle.flume_grammar.specs.declared.tree.Type as tree
use Rattle.flume_grammar.specs.declared.tree.Operation.{Operation}
use Rattle.flume_grammar.specs.declared.fault.ScriptKind.TheVariants.{NotFlat, Twice}
use Rattle.written_types.specs.Answer.{or_fault}
use Rattle.written_types.specs.Named.{Named, find, fresh}
use Rattle.written_types.specs.Written.{whole_type}
use Rattle.script_keys.specs.Rests.{holds_name}
use Rattle.script_keys.specs.declared.rests.Names.{Names}
use Rattle.script_program.specs.Limits.{most_collections}
use Rattle.script_program.specs.declared.made.Made.TheVariants as made
use Rattle.script_program.specs.Script.{Making, State, with_node, with_statement, with_named_type}
use Rattle.direct_meaning.specs.of_script_rules.Rules as spec
use Rattle.direct_meaning.proofs.of_script_rules.CheckedLemmas.{both, holds, ok-same}
use Rattle.key_meaning.proofs.Adding.{Added, Asked, named_added, nodes_added}
use Rattle.key_meaning.proofs.Alike.{IsAlike, Pairs, input}
use Rattle.key_meaning.proofs.Finding.{agree}
use Rattle.key_meaning.proofs.Lines.{found, found_same, found_whole}
use Rattle.key_meaning.proofs.Lists.{along}
use Rattle.key_meaning.proofs.Standing.{same_bytes}

-- ---- names, and more of them

pub has_left : (names more : List (List ℕ)) (name : List ℕ) → holds_name names name ≡ true
    → holds_name (names ++ more) name ≡ true
has_left names more name is =
    list_any-append (λ own. bytes_eq own name) names more ∙ (λ i. is i || holds_name more name)

pub has_right : (names more : List (List ℕ)) (name : List ℕ) → holds_name more name ≡ true
    → holds_name (names ++ more) name ≡ true
has_right names more name is =
    list_any-append (λ own. bytes_eq own name) names more ∙ by (holds_name names name) is
  where
    by : (b : Bool) → holds_name more name ≡ true → (b || holds_name more name) ≡ true
    by true e = refl
    by false e = e

pub bytes_itself : (name : List ℕ) → bytes_eq name name ≡ true
bytes_itself name = (bytes_eq-Decides name name).1 refl

pub each_more : (names more own : List (List ℕ))
    → ((name : List ℕ) → holds_name names name ≡ true → holds_name more name ≡ true)
    → Each (λ name. holds_name names name ≡ true) own
    → Each (λ name. holds_name more name ≡ true) own
each_more names more [] wider each = tt
each_more names more (name ∷ own) wider each =
    (wider name each.0, each_more names more own wider each.1)

-- each is among them
pub each_itself : (names : List (List ℕ)) → Each (λ name. holds_name names name ≡ true) names
each_itself [] = tt
each_itself (name ∷ names) = (
  (λ i. bytes_itself name i || holds_name names name),
  each_more names (name ∷ names) names (λ own is. has_right (name ∷ []) names own is)
      (each_itself names),
)

-- for fewer names
pub alike_fewer : (SameFile : List ℕ → Type 0) (names fewer : Names) (pairs : Pairs) (s r : State)
    → ((name : List ℕ) → holds_name fewer.collections name ≡ true → holds_name names.collections
    name ≡ true)
    → ((name : List ℕ) → holds_name fewer.functions name ≡ true → holds_name names.functions name ≡
    true)
    → IsAlike SameFile names pairs s r → IsAlike SameFile fewer pairs s r
alike_fewer SameFile names fewer pairs s r wider wider_functions alike = record {
  collections = λ name is. alike.collections name (wider name is);
  functions = λ name is. alike.functions name (wider_functions name is);
  paired = alike.paired;
}

-- ---- what a statement adds

-- so many collections more on both sides, which are alike, and the same types
pub record Grown (SameFile : List ℕ → Type 0) (names : Names) (pairs : Pairs)
    (s r after behind : State) : Type 0 where
  pub many : ℕ
  pub here : length after.nodes ≡ length s.nodes + many
  pub there : length behind.nodes ≡ length r.nodes + many
  pub alike : IsAlike SameFile names
      (pairs ++ along (length s.nodes) (length r.nodes) many) after behind
  pub types : after.types ≡ behind.types

pub grown_at : (SameFile : List ℕ → Type 0) (names : Names) (pairs : Pairs) (s r a x b y : State)
    → a ≡ x → b ≡ y → Grown SameFile names pairs s r a b → Grown SameFile names pairs s r x y
grown_at SameFile names pairs s r a x b y here there grown =
    subst (λ c. Grown SameFile names pairs s r x c) there
    (subst (λ c. Grown SameFile names pairs s r c b) here grown)

module _ (SameFile : List ℕ → Type 0) (names : Names) (pairs : Pairs) (s r : State)
    (alike : IsAlike SameFile names pairs s r) (types : s.types ≡ r.types) (line other : ℕ) where
  -- a type is the same
  pub same_type : (type : tree.Type) (t u : Ty) → whole_type line type s.types ≡ Ok t
      → whole_type other type r.types ≡ Ok u → t ≡ u
  same_type type t u e f =
      found_same (whole_type line type s.types) (whole_type other type r.types) t u
      (ap (λ known. found (whole_type line type known)) types
      ∙ found_whole line other type r.types) e f

  -- nothing of collections and functions
  pub nothing_grown : (after behind : State) → after.nodes ≡ s.nodes → behind.nodes ≡ r.nodes
      → IsAlike SameFile names pairs after behind → after.types ≡ behind.types
      → Grown SameFile names pairs s r after behind
  nothing_grown after behind here there alike_ types_ = record {
    many = 0;
    here = omega (arith, ap length here);
    there = omega (arith, ap length there);
    alike =
        subst (λ p. IsAlike SameFile names p after behind) (sym (append-nil pairs)) alike_;
    types = types_;
  }

  pub type_grown : (name : List ℕ) (type : tree.Type) (after behind : State)
      → spec.rule_type line name type s ≡ Ok after
      → spec.rule_type other name type r ≡ Ok behind
      → Grown SameFile names pairs s r after behind
  type_grown name type after behind e f =
      let new = both (fresh line name s.types) _ after e in
      let new_ = both (fresh other name r.types) _ behind f in
      let t = both (whole_type line type s.types) _ after new.then in
      let u = both (whole_type other type r.types) _ behind new_.then in
      let here = with_named_type name t.part s in
      let there = with_named_type name u.part r in
      let alike_ : IsAlike SameFile names pairs here there = record {
        collections = alike.collections;
        functions = alike.functions;
        paired = alike.paired;
      } in
      grown_at SameFile names pairs s r here after there behind (ok-same here after t.then)
      (ok-same there behind u.then)
      (nothing_grown here there refl refl alike_
      (λ i. types i ++ (name, same_type type t.part u.part t.first u.first i) ∷ []))

  pub fresh-none : {A : Type 0} (at : ℕ) (name : List ℕ) (known : Named A) (u : Unit {0})
      → fresh at name known ≡ Ok u → find name known ≡ None
  fresh-none at name known u e =
      by (find name known) (holds at Twice (not (is_some (find name known))) u e)
    where
      by : {A : Type 0} (o : Option A) → not (is_some o) ≡ true → o ≡ None
      by None is = refl
      by (Some x) is = cc

  one-name : (own name : List ℕ) → (bytes_eq name own || false) ≡ true → name ≡ own
  one-name own name is = same_bytes name own (by (bytes_eq name own) is)
    where
      by : (b : Bool) → (b || false) ≡ true → b ≡ true
      by true e = refl
      by false e = cc

  added_grown : (after behind : State) → after.types ≡ behind.types
      → Added SameFile names pairs s r after behind → Grown SameFile names pairs s r after behind
  added_grown after behind types_ added = record {
    many = added.many;
    here = added.here;
    there = added.there;
    alike = added.alike;
    types = types_;
  }

  pub input_grown : (name : List ℕ) (type : tree.Type) (file : List ℕ) → SameFile file
      → (after behind : State) → spec.rule_input line name type file s ≡ Ok after
      → spec.rule_input other name type file r ≡ Ok behind
      → Grown SameFile names pairs s r after behind
  input_grown name type file same after behind e f =
      let few = both (spec.room line 1 most_collections s.nodes) _ after e in
      let few_ = both (spec.room other 1 most_collections r.nodes) _ behind f in
      let new = both (fresh line name s.names) _ after few.then in
      let new_ = both (fresh other name r.names) _ behind few_.then in
      let t = both (whole_type line type s.types) _ after new.then in
      let u = both (whole_type other type r.types) _ behind new_.then in
      let columns = both (or_fault line NotFlat (input_columns_of t.part)) _ after t.then in
      let columns_ = both (or_fault other NotFlat (input_columns_of u.part)) _ behind u.then in
      let types_ = same_type type t.part u.part t.first u.first in
      let all : columns.part ≡ columns_.part =
      agree line other NotFlat (input_columns_of t.part) (input_columns_of u.part) columns.part
      columns_.part (ap input_columns_of types_) columns.first columns_.first in
      let making : Making = record { made = made.Input file columns.part; type = t.part } in
      let making_ : Making = record { made = made.Input file columns.part; type = u.part } in
      let here = with_node name making s in
      let there = with_node name making_ r in
      grown_at SameFile names pairs s r here after there behind (ok-same here after columns.then)
      (ap (λ (c : List Column).
      with_node name (record { made = made.Input file c; type = u.part }) r) all
      ∙ ok-same (with_node name (record { made = made.Input file columns_.part; type = u.part }) r)
      behind columns_.then)
      (added_grown here there types
      (nodes_added SameFile names pairs s r alike (name ∷ []) (making ∷ []) (making_ ∷ []) refl
      (record { type = types_; how = input same }, tt)
      (omega arith, tt)
      (λ own is. ap (λ n. find n s.names) (one-name name own is)
      ∙ fresh-none line name s.names new.part new.first)
      (λ own is. ap (λ n. find n r.names) (one-name name own is)
      ∙ fresh-none other name r.names new_.part new_.first)))

  pub let_grown : (own : List (List ℕ)) (by : Operation) → Asked SameFile names by
      → (after behind : State) → spec.rule_let line own by s ≡ Ok after
      → spec.rule_let other own by r ≡ Ok behind → after.types ≡ s.types
      → behind.types ≡ r.types → Grown SameFile names pairs s r after behind
  let_grown own by asked after behind e f here there =
      let few = both (spec.room line (length own) most_collections s.nodes) _ after e in
      let few_ = both (spec.room other (length own) most_collections r.nodes) _ behind f in
      added_grown after behind
      (here ∙ types ∙ sym there)
      (named_added SameFile names pairs s r alike line other own by asked after behind few.then
      few_.then)
