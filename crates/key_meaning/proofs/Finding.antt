-- A name that is found in two states that are alike stands there for collections, or functions,
-- that are alike.
use Rattle.std.proofs.Common.{◌≡◌, ℕ, true, List, [], ◌∷◌, ◌++◌, Option, Some, None, Ok, slice_get, option_and_then, refl, sym, ap, ◌∙◌, subst}
use Rattle.std.specs.List.{AllByRecursion as Each, AllZip}
use Rattle.std.specs.Option.{option_map}
use Rattle.flume_grammar.specs.declared.fault.ScriptKind.{ScriptKind}
use Rattle.flume_grammar.specs.declared.fault.ScriptKind.TheVariants.{Unknown}
use Rattle.written_types.specs.Answer.{or_fault}
use Rattle.written_types.specs.Named.{Named, find}
use Rattle.script_keys.specs.Rests.{holds_name}
use Rattle.script_keys.specs.declared.rests.Names.{Names}
use Rattle.script_program.specs.Kinds.{gives_object}
use Rattle.script_program.specs.declared.made.Standing.{Standing}
use Rattle.script_program.specs.declared.made.Standing.TheVariants.{Collection, Hidden}
use Rattle.script_program.specs.Script.{Callee, Function, Node, Operand, State, operand_of, name_place}
use Rattle.direct_meaning.specs.of_script_rules.Operations.{callee, operand_named, collections_behind, operand_numbers}
use Rattle.direct_meaning.proofs.of_script_rules.CheckedLemmas.{both, ok-same, there}
use Rattle.direct_meaning.specs.of_script_laws.WellFormed.{function_at}
use Rattle.direct_meaning.proofs.of_script_laws.PlaceLemmas.{found-at}
use Rattle.key_meaning.proofs.Alike.{FunctionsMeet, IsAlike, Meet, Paired, Pairs, SameCallee, SameFunction, number_for, same_kind, stands}
use Rattle.direct_meaning.proofs.PlaceLemmas.{zip_more}

pub some_same : {A : Type 0} (o : Option A) (x y : A) → o ≡ Some x → o ≡ Some y → x ≡ y
some_same o x y here there_ =
    let same : Some x ≡ Some y = sym here ∙ there_ in
    cc

-- what is there in both is the same
pub agree : {A : Type 0} (line other : ℕ) (kind : ScriptKind) (o p : Option A) (x y : A) → o ≡ p
    → or_fault line kind o ≡ Ok x → or_fault other kind p ≡ Ok y → x ≡ y
agree line other kind o p x y same here there_ =
    some_same p x y (sym same ∙ there line kind o x here) (there other kind p y there_)

-- ---- a collection by its name

abbrev as_operand : ℕ → List ℕ × Node → Operand
as_operand number entry = record {
  number = number;
  type = entry.1.type;
  is_object = gives_object entry.1.made;
}

-- the collection of a name
pub record Read (nodes : Named Node) (names : Named Standing) (name : List ℕ) (one : Operand)
    : Type 0 where
  pub stand : stands name names ≡ Some one.number
  pub entry : List ℕ × Node
  pub at : slice_get nodes one.number ≡ Some entry
  pub type : entry.1.type ≡ one.type
  pub kind : gives_object entry.1.made ≡ one.is_object

number-read : (nodes : Named Node) (names : Named Standing) (name : List ℕ) (number : ℕ)
    (one : Operand) → stands name names ≡ Some number → (o : Option (List ℕ × Node))
    → slice_get nodes number ≡ o → option_map (as_operand number) o ≡ Some one
    → Read nodes names name one
number-read nodes names name number one stand None at e = cc
number-read nodes names name number one stand (Some entry) at e =
    let same : as_operand number entry ≡ one = cc in
    subst (Read nodes names name) same
    (record { stand = stand; entry = entry; at = at; type = refl; kind = refl })

standing-read : (nodes : Named Node) (names : Named Standing) (name : List ℕ) (one : Operand)
    (o : Option Standing) → find name names ≡ o
    → option_and_then (operand_of nodes) o ≡ Some one → Read nodes names name one
standing-read nodes names name one None is e = cc
standing-read nodes names name one (Some (Collection number)) is e =
    number-read nodes names name number one (ap number_for is) (slice_get nodes number) refl e
standing-read nodes names name one (Some Hidden) is e = cc

pub is_read : (line : ℕ) (s : State) (name : List ℕ) (one : Operand)
    → operand_named line name s ≡ Ok one → Read s.nodes s.names name one
is_read line s name one e =
    standing-read s.nodes s.names name one (find name s.names) refl (there line Unknown _ one e)

-- a pair that a name stands for
pub meet_some : (pairs : Pairs) (n m : Option ℕ) (a b : ℕ) → n ≡ Some a → m ≡ Some b
    → Meet pairs n m → Paired pairs a b
meet_some pairs n m a b here there_ meet =
    subst (Meet pairs (Some a)) there_ (subst (λ o. Meet pairs o m) here meet)

pub record OperandAlike (pairs : Pairs) (one other : Operand) : Type 0 where
  pub number : Paired pairs one.number other.number
  pub type : one.type ≡ other.type
  pub kind : one.is_object ≡ other.is_object

-- ---- a function by its name

abbrev as_callee : Named Function → List ℕ → Function → Callee
as_callee functions name function = record {
  number = name_place name functions;
  takes = function.signature.takes;
  gives = function.signature.gives;
}

record Called (functions : Named Function) (name : List ℕ) (one : Callee) : Type 0 where
  pub function : Function
  pub is : find name functions ≡ Some function
  pub calls : function_at functions one.number ≡ Some function
  pub takes : one.takes ≡ function.signature.takes
  pub gives : one.gives ≡ function.signature.gives

function-called : (functions : Named Function) (name : List ℕ) (one : Callee)
    (o : Option Function) → find name functions ≡ o
    → option_map (as_callee functions name) o ≡ Some one → Called functions name one
function-called functions name one None is e = cc
function-called functions name one (Some function) is e =
    let same : as_callee functions name function ≡ one = cc in
    subst (Called functions name) same
    (record {
      function = function;
      is = is;
      calls = found-at name functions function is;
      takes = refl;
      gives = refl;
    })

is_called : (line : ℕ) (s : State) (name : List ℕ) (one : Callee)
    → callee line name s ≡ Ok one → Called s.functions name one
is_called line s name one e =
    function-called s.functions name one (find name s.functions) refl
    (there line Unknown _ one e)

functions_some : (o p : Option Function) (f g : Function) → o ≡ Some f → p ≡ Some g
    → FunctionsMeet o p → SameFunction f g
functions_some o p f g here there_ meet =
    subst (FunctionsMeet (Some f)) there_ (subst (λ x. FunctionsMeet x p) here meet)

pub record CalleeAlike (functions others : Named Function) (one other : Callee) : Type 0 where
  pub same : SameCallee functions others one.number other.number
  pub takes : one.takes ≡ other.takes
  pub gives : one.gives ≡ other.gives

-- ---- in two states that are alike

module _ (SameFile : List ℕ → Type 0) (names : Names) (pairs : Pairs) (s r : State)
    (alike : IsAlike SameFile names pairs s r) (line other : ℕ) where
  pub found_alike : (name : List ℕ) → holds_name names.collections name ≡ true → (one two : Operand)
      → operand_named line name s ≡ Ok one → operand_named other name r ≡ Ok two
      → OperandAlike pairs one two
  found_alike name is one two e f =
      let here = is_read line s name one e in
      let there_ = is_read other r name two f in
      let pair =
      meet_some pairs (stands name s.names) (stands name r.names) one.number two.number
      here.stand there_.stand (alike.collections name is) in
      let node = alike.paired one.number two.number pair in
      let first = some_same (slice_get s.nodes one.number) here.entry node.entry here.at
      node.here in
      let second = some_same (slice_get r.nodes two.number) there_.entry node.other there_.at
      node.there in
      record {
        number = pair;
        type =
            sym here.type ∙ ap (λ (x : List ℕ × Node). x.1.type) first
            ∙ node.alike.type
            ∙ sym (ap (λ (x : List ℕ × Node). x.1.type) second) ∙ there_.type;
        kind =
            sym here.kind ∙ ap (λ (x : List ℕ × Node). gives_object x.1.made) first
            ∙ same_kind SameFile pairs s.functions r.functions node.alike.how
            ∙ sym (ap (λ (x : List ℕ × Node). gives_object x.1.made) second) ∙ there_.kind;
      }

  pub called_alike : (name : List ℕ) → holds_name names.functions name ≡ true → (one two : Callee)
      → callee line name s ≡ Ok one → callee other name r ≡ Ok two
      → CalleeAlike s.functions r.functions one two
  called_alike name is one two e f =
      let here = is_called line s name one e in
      let there_ = is_called other r name two f in
      let same =
      functions_some (find name s.functions) (find name r.functions) here.function
      there_.function here.is there_.is (alike.functions name is) in
      record {
        same = record {
          function = here.function;
          calls = here.calls;
          other = there_.function;
          calls_other = there_.calls;
          same = same;
        };
        takes = here.takes ∙ (λ i. (same.signature i).takes) ∙ sym there_.takes;
        gives = here.gives ∙ (λ i. (same.signature i).gives) ∙ sym there_.gives;
      }

  -- several, behind those so far
  pub all_alike : (asked : List (List ℕ))
      → Each (λ name. holds_name names.collections name ≡ true) asked
      → (found others : List Operand) → AllZip (OperandAlike pairs) found others
      → (all more : List Operand) → collections_behind line found asked s ≡ Ok all
      → collections_behind other others asked r ≡ Ok more
      → AllZip (OperandAlike pairs) all more
  all_alike [] are found others zipped all more e f =
      subst (λ l. AllZip (OperandAlike pairs) l more) (ok-same found all e)
      (subst (λ l. AllZip (OperandAlike pairs) found l) (ok-same others more f) zipped)
  all_alike (name ∷ asked) are found others zipped all more e f =
      let one = both (operand_named line name s) _ all e in
      let two = both (operand_named other name r) _ more f in
      all_alike asked are.1 (found ++ one.part ∷ []) (others ++ two.part ∷ [])
      (zip_more (OperandAlike pairs) found others one.part two.part zipped
      (found_alike name are.0 one.part two.part one.first two.first)) all more one.then two.then

pub numbers_alike : (pairs : Pairs) (all more : List Operand)
    → AllZip (OperandAlike pairs) all more
    → AllZip (Paired pairs) (operand_numbers all) (operand_numbers more)
numbers_alike pairs [] [] zipped = tt
numbers_alike pairs [] (two ∷ more) zipped = absurd zipped
numbers_alike pairs (one ∷ all) [] zipped = absurd zipped
numbers_alike pairs (one ∷ all) (two ∷ more) zipped =
    (zipped.0.number, numbers_alike pairs all more zipped.1)
