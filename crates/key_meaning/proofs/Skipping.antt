-- A statement that defines none of some names leaves what these stand for as it is.
use Rattle.std.proofs.Common.{◌≡◌, ℕ, Bool, true, false, cond, ◌||◌, List, [], ◌∷◌, ◌++◌, length, Option, Some, None, Ok, slice_get, refl, sym, ap, ◌∙◌, subst, append-nil, ◌⊎◌, inl, inr, ⊎_elim}
use Rattle.std.specs.List.{Contains, list_any}
use Rattle.std.proofs.lemmas.List.Elements.{Contains-push_cases}
use Rattle.std.specs.Map.{keys_of}
use Rattle.std.specs.Str.{bytes_eq}
use Rattle.flume_types.specs.Columns.{columns_of, input_columns_of}
use Rattle.flume_grammar.specs.declared.tree.Type as tree
use Rattle.flume_grammar.specs.declared.tree.Form.{Form}
use Rattle.flume_grammar.specs.declared.tree.Form.TheVariants as form
use Rattle.flume_grammar.specs.declared.tree.Function.{Function as WrittenFunction}
use Rattle.flume_grammar.specs.declared.tree.Operation.{Operation}
use Rattle.flume_grammar.specs.declared.tree.Repeat.{Repeat as WrittenRepeat}
use Rattle.flume_grammar.specs.declared.fault.ScriptKind.TheVariants.{NotFlat}
use Rattle.written_types.specs.Answer.{or_fault}
use Rattle.written_types.specs.Named.{Named, find, fresh}
use Rattle.written_types.specs.Written.{whole_type}
use Rattle.script_keys.specs.Outlines.{outline_of}
use Rattle.script_keys.specs.Rests.{holds_name, is_named}
use Rattle.script_keys.specs.declared.rests.Names.{Names}
use Rattle.script_program.specs.Limits.{most_collections, most_files}
use Rattle.script_program.specs.declared.made.Made.TheVariants as made
use Rattle.script_program.specs.declared.made.Output.{Output}
use Rattle.script_program.specs.declared.made.Standing.{Standing}
use Rattle.script_program.specs.declared.made.Standing.TheVariants.{Collection}
use Rattle.script_program.specs.Script.{Function, Making, Node, State, function_from, given, node_from, with_output, with_named_type}
use Rattle.direct_meaning.specs.of_script_rules.Operations.{operand_named}
use Rattle.direct_meaning.specs.of_script_rules.Repeats.{last_gives, unrolled}
use Rattle.direct_meaning.specs.of_script_rules.Rules as spec
use Rattle.direct_meaning.proofs.of_script_rules.CheckedLemmas.{both, ok-same}
use Rattle.direct_meaning.proofs.of_script_rules.FoundLemmas.{ruled}
use Rattle.direct_meaning.proofs.of_script_laws.BodyLemmas.{has-named}
use Rattle.direct_meaning.proofs.of_script_laws.PlaceLemmas.{front-kept, mapped-kept}
use Rattle.direct_meaning.proofs.of_script_laws.RepeatLemmas.{has-turns}
use Rattle.direct_meaning.specs.of_script_laws.WellFormed.{function_at}
use Rattle.direct_meaning.specs.of_script_rules.Operations.{made_by}
use Rattle.key_meaning.proofs.Alike.{FunctionsMeet, IsAlike, Meet, Pairs, SameCallee, number_for, node_more, stands}
use Rattle.key_meaning.proofs.Finding.{is_read}
use Rattle.key_meaning.proofs.Repeating.{named_more, names_behind}
use Rattle.key_meaning.proofs.Standing.{found_first, found_later, hidden, names_are, neither, none_given, none_standing, other_name, other_names, standing, stands_more}

-- ---- what statements define

-- the names of collections
abbrev pub own_names : Form → List (List ℕ)
own_names (form.Input name type file) = name ∷ []
own_names (form.Let names by) = names
own_names (form.Repeat names written) = names
own_names _ = []

-- the names of functions
abbrev pub own_functions : Form → List (List ℕ)
own_functions (form.Function function) = function.name ∷ []
own_functions _ = []

abbrev pub is_type : Form → Bool
is_type (form.Type name type) = true
is_type _ = false

-- what a statement adds; no other name stands for any of it
pub record Adds (form : Form) (s after : State) : Type 0 where
  pub more : Named Node
  pub nodes : after.nodes ≡ s.nodes ++ more
  pub added : Named Function
  pub functions : after.functions ≡ s.functions ++ added
  pub rest : Named Standing
  pub names : after.names ≡ s.names ++ rest
  pub none : (name : List ℕ) → list_any (bytes_eq name) (own_names form) ≡ false
      → stands name rest ≡ None
  pub none_function : (name : List ℕ) → list_any (bytes_eq name) (own_functions form) ≡ false
      → find name added ≡ None
  pub types : is_type form ≡ false → after.types ≡ s.types
  pub outputs : (entry : List ℕ × Output) → Contains after.outputs entry
      → Contains s.outputs entry ⊎ (stands entry.1.name s.names ≡ Some entry.1.reads)

none-of : {A : Type 0} (b : Bool) (x : A) → b ≡ false → cond b (Some x) None ≡ None
none-of true x is = cc
none-of false x is = refl

none-stands : (b : Bool) (k : ℕ) → b ≡ false
    → number_for (cond b (Some (Collection k)) None) ≡ None
none-stands true k is = cc
none-stands false k is = refl

-- nothing of collections, functions and names
same_adds : (form : Form) (s after : State) → after.nodes ≡ s.nodes
    → after.functions ≡ s.functions → after.names ≡ s.names
    → (is_type form ≡ false → after.types ≡ s.types)
    → ((entry : List ℕ × Output) → Contains after.outputs entry
    → Contains s.outputs entry ⊎ (stands entry.1.name s.names ≡ Some entry.1.reads))
    → Adds form s after
same_adds form s after nodes functions names types outputs = record {
  more = [];
  nodes = nodes ∙ sym (append-nil s.nodes);
  added = [];
  functions = functions ∙ sym (append-nil s.functions);
  rest = [];
  names = names ∙ sym (append-nil s.names);
  none = λ name away. refl;
  none_function = λ name away. refl;
  types = types;
  outputs = outputs;
}

-- the same outputs
old_outputs : (s after : State) → after.outputs ≡ s.outputs → (entry : List ℕ × Output)
    → Contains after.outputs entry
    → Contains s.outputs entry ⊎ (stands entry.1.name s.names ≡ Some entry.1.reads)
old_outputs s after same entry among = inl (subst (λ l. Contains l entry) same among)

module _ (line : ℕ) (s after : State) where
  type_adds : (name : List ℕ) (type : tree.Type) → spec.rule_type line name type s ≡ Ok after
      → Adds (form.Type name type) s after
  type_adds name type e =
      let new = both (fresh line name s.types) _ after e in
      let t = both (whole_type line type s.types) _ after new.then in
      subst (Adds (form.Type name type) s) (ok-same _ after t.then)
      (same_adds (form.Type name type) s (with_named_type name t.part s) refl refl refl (λ is. cc)
      (λ entry among. inl among))

  input_adds : (name : List ℕ) (type : tree.Type) (file : List ℕ)
      → spec.rule_input line name type file s ≡ Ok after → Adds (form.Input name type file) s after
  input_adds name type file e =
      let few = both (spec.room line 1 most_collections s.nodes) _ after e in
      let new = both (fresh line name s.names) _ after few.then in
      let t = both (whole_type line type s.types) _ after new.then in
      let columns = both (or_fault line NotFlat (input_columns_of t.part)) _ after t.then in
      let making : Making =
      record { made = made.Input file columns.part; type = t.part } in
      subst (Adds (form.Input name type file) s) (ok-same _ after columns.then) (record {
        more = (name, node_from s.statements making) ∷ [];
        nodes = refl;
        added = [];
        functions = sym (append-nil s.functions);
        rest = (name, Collection (length s.nodes)) ∷ [];
        names = refl;
        none = λ own away.
            none-stands (bytes_eq own name) (length s.nodes)
            (neither (bytes_eq own name) false away).0;
        none_function = λ own away. refl;
        types = λ is. refl;
        outputs = λ entry among. inl among;
      })

  function_adds : (function : WrittenFunction) → spec.rule_function line function s ≡ Ok after
      → Adds (form.Function function) s after
  function_adds function e =
      let it = ruled line function s after e in
      subst (Adds (form.Function function) s) it.is (record {
        more = [];
        nodes = sym (append-nil s.nodes);
        added = (function.name, function_from function it.signature s) ∷ [];
        functions = refl;
        rest = [];
        names = sym (append-nil s.names);
        none = λ own away. refl;
        none_function = λ own away.
            none-of (bytes_eq own function.name) (function_from function it.signature s)
            (neither (bytes_eq own function.name) false away).0;
        types = λ is. refl;
        outputs = λ entry among. inl among;
      })

  let_adds : (names : List (List ℕ)) (by : Operation) → spec.rule_let line names by s ≡ Ok after
      → Adds (form.Let names by) s after
  let_adds names by e =
      let few = both (spec.room line (length names) most_collections s.nodes) _ after e in
      let it = has-named line s after names by few.then in
      let new = both (spec.all_fresh line (keys_of s.names) names) _ after few.then in
      let makings = both (made_by line by s) _ after new.then in
      let fit = both (spec.all_fit line (length names) makings.part) _ after makings.then in
      let same = ok-same _ after fit.then in
      record {
        more = it.has.lets;
        nodes = it.has.nodes;
        added = [];
        functions = it.has.functions ∙ sym (append-nil s.functions);
        rest = standing names makings.part (length s.nodes);
        names = ap (λ (t : State). t.names) (sym same) ∙ names_are names makings.part s;
        none = λ name away. none_standing name names makings.part (length s.nodes) away;
        none_function = λ name away. refl;
        types = λ is. (named_more line names by s after few.then).types;
        outputs = old_outputs s after it.has.outputs;
      }

  repeat_adds : (names : List (List ℕ)) (written : WrittenRepeat)
      → spec.rule_repeat line names written s ≡ Ok after → Adds (form.Repeat names written) s after
  repeat_adds names written e =
      let it = both (spec.repeated line names written s) _ after e in
      let has = has-turns line names written s it.part (length s.names) it.first in
      let names_ = names_behind line names written s it.part it.first in
      let behind = spec.with_repeat it.part.repeat (length s.names) it.part.behind in
      subst (Adds (form.Repeat names written) s) (ok-same behind after it.then) (record {
        more = unrolled it.part.repeat;
        nodes = has.nodes;
        added = [];
        functions = has.functions ∙ sym (append-nil s.functions);
        rest = given (last_gives it.part.repeat) (hidden names ++ names_.rest);
        names = names_.naming;
        none = λ name away.
            none_given name names (last_gives it.part.repeat) names_.rest names_.many away;
        none_function = λ name away. refl;
        types = λ is. names_.typing;
        outputs = old_outputs s behind has.outputs;
      })

  output_adds : (name file : List ℕ) → spec.rule_output line name file s ≡ Ok after
      → Adds (form.Output name file) s after
  output_adds name file e =
      let few = both (spec.room line 1 most_files s.outputs) _ after e in
      let one = both (operand_named line name s) _ after few.then in
      let columns = both (or_fault line NotFlat (columns_of one.part.type)) _ after one.then in
      let new = both (fresh line file s.outputs) _ after columns.then in
      let output : Output =
      record { name = name; reads = one.part.number; columns = columns.part } in
      subst (Adds (form.Output name file) s) (ok-same _ after new.then)
      (same_adds (form.Output name file) s (with_output file output s) refl refl refl (λ is. refl)
      (λ entry among.
      ⊎_elim (λ (old : Contains s.outputs entry). inl old)
      (λ (new : (file, output) ≡ entry).
      inr
      (subst (λ (x : List ℕ × Output). stands x.1.name s.names ≡ Some x.1.reads) new
      (is_read line s name one.part one.first).stand))
      (Contains-push_cases s.outputs (file, output) entry among)))

  pub rule_adds : (form : Form) → spec.rule line form s ≡ Ok after → Adds form s after
  rule_adds (form.Type name type) e = type_adds name type e
  rule_adds (form.Input name type file) e = input_adds name type file e
  rule_adds (form.Function function) e = function_adds function e
  rule_adds (form.Let names by) e = let_adds names by e
  rule_adds (form.Repeat names written) e = repeat_adds names written e
  rule_adds (form.Output name file) e = output_adds name file e

-- ---- names that are not defined

-- a name that is rested on is none of a statement that defines none of these
pub not_own : (names : Names) (it : Form) → is_named names (outline_of it) ≡ false
    → (name : List ℕ) → holds_name names.collections name ≡ true
    → list_any (bytes_eq name) (own_names it) ≡ false
not_own names (form.Type own type) away name is = refl
not_own names (form.Input own type file) away name is =
    λ i. other_name names.collections name own is away i || false
not_own names (form.Function function) away name is = refl
not_own names (form.Let own by) away name is = other_names names.collections name own is away
not_own names (form.Repeat own written) away name is =
    other_names names.collections name own is away
not_own names (form.Output own file) away name is = refl

not_function : (names : Names) (it : Form) → is_named names (outline_of it) ≡ false
    → (name : List ℕ) → holds_name names.functions name ≡ true
    → list_any (bytes_eq name) (own_functions it) ≡ false
not_function names (form.Type own type) away name is = refl
not_function names (form.Input own type file) away name is = refl
not_function names (form.Function function) away name is =
    λ i. other_name names.functions name function.name is away i || false
not_function names (form.Let own by) away name is = refl
not_function names (form.Repeat own written) away name is = refl
not_function names (form.Output own file) away name is = refl

-- ---- behind what a statement adds

-- a state behind another, in which these names stand for what they stood for
pub record Keeps (names : Names) (s after : State) : Type 0 where
  pub collections : (name : List ℕ) → holds_name names.collections name ≡ true
      → stands name after.names ≡ stands name s.names
  pub functions : (name : List ℕ) → holds_name names.functions name ≡ true
      → find name after.functions ≡ find name s.functions
  pub nodes : (k : ℕ) (entry : List ℕ × Node) → slice_get s.nodes k ≡ Some entry
      → slice_get after.nodes k ≡ Some entry
  pub called : (k : ℕ) (function : Function) → function_at s.functions k ≡ Some function
      → function_at after.functions k ≡ Some function

pub keeps_all : (names : Names) (s : State) → Keeps names s s
keeps_all names s = record {
  collections = λ name is. refl;
  functions = λ name is. refl;
  nodes = λ k entry at. at;
  called = λ k function at. at;
}

-- behind a statement that defines none of the names
pub keeps_others : (names : Names) (form : Form) (s after : State)
    → is_named names (outline_of form) ≡ false → Adds form s after → Keeps names s after
keeps_others names form s after away adds = record {
  collections = λ name is.
      ap (stands name) adds.names
      ∙ stands_more name s.names adds.rest (adds.none name (not_own names form away name is));
  functions = λ name is. ap (find name) adds.functions ∙ by name is (find name s.functions) refl;
  nodes = λ k entry is.
      ap (λ ns. slice_get ns k) adds.nodes ∙ front-kept s.nodes adds.more k entry is;
  called = λ k function is.
      ap (λ fs. function_at fs k) adds.functions
      ∙ mapped-kept (λ (entry : List ℕ × Function). entry.1) s.functions adds.added k function is;
}
  where
    by : (name : List ℕ) → holds_name names.functions name ≡ true → (o : Option Function)
        → find name s.functions ≡ o
        → find name (s.functions ++ adds.added) ≡ find name s.functions
    by name own (Some x) is = found_first name s.functions adds.added x is ∙ sym is
    by name own None is =
        found_later name s.functions adds.added is
        ∙ adds.none_function name (not_function names form away name own) ∙ sym is

-- callees are the same still
pub callee_more : (functions others functions_more others_more : Named Function)
    → ((k : ℕ) (function : Function) → function_at functions k ≡ Some function
    → function_at functions_more k ≡ Some function)
    → ((k : ℕ) (function : Function) → function_at others k ≡ Some function
    → function_at others_more k ≡ Some function)
    → (f g : ℕ) → SameCallee functions others f g
    → SameCallee functions_more others_more f g
callee_more functions others functions_more others_more keep keep_others f g same = record {
  function = same.function;
  calls = keep f same.function same.calls;
  other = same.other;
  calls_other = keep_others g same.other same.calls_other;
  same = same.same;
}

-- states are alike still where both keep what the names stand for
pub still_alike : (SameFile : List ℕ → Type 0) (names : Names) (pairs : Pairs)
    (s r after behind : State) → Keeps names s after → Keeps names r behind
    → IsAlike SameFile names pairs s r → IsAlike SameFile names pairs after behind
still_alike SameFile names pairs s r after behind one other alike = record {
  collections = λ name is.
      subst (λ o. Meet pairs o (stands name behind.names)) (sym (one.collections name is))
      (subst (Meet pairs (stands name s.names)) (sym (other.collections name is))
      (alike.collections name is));
  functions = λ name is.
      subst (λ o. FunctionsMeet o (find name behind.functions)) (sym (one.functions name is))
      (subst (FunctionsMeet (find name s.functions)) (sym (other.functions name is))
      (alike.functions name is));
  paired = λ a b among.
      node_more SameFile pairs pairs s.functions r.functions after.functions behind.functions
      (λ c d same. same)
      (callee_more s.functions r.functions after.functions behind.functions one.called
      other.called)
      s.nodes after.nodes r.nodes behind.nodes one.nodes other.nodes a b (alike.paired a b among);
}
