-- An operand is the collection of its number, a callee the function of its number.
use Rattle.std.proofs.Common.{◌≡◌, ℕ, List}
use Rattle.std.proofs.Common.{Option, Some, None, option_and_then, Ok}
use Rattle.std.proofs.Common.{slice_get, refl, ap, subst}
use Rattle.std.specs.Option.{option_map}
use Rattle.flume_grammar.specs.declared.fault.ScriptKind.TheVariants.{Unknown}
use Rattle.script_rules.specs.of_written_types.Named.{Named, find}
use Rattle.script_rules.specs.of_script_program.Script.{Function, Node, State, Operand, Callee, name_place}
use Rattle.script_rules.specs.of_script_program.Script.{operand_at, operand_of}
use Rattle.script_rules.specs.of_script_program.Kinds.{gives_object}
use Rattle.script_rules.specs.of_script_program.declared.made.Standing.{Standing}
use Rattle.script_rules.specs.of_script_program.declared.made.Standing.TheVariants.{Collection, Hidden}
use Rattle.script_rules.specs.Operations as spec
use Rattle.script_laws.specs.WellFormed.{members_at, function_at, object_at}
use Rattle.script_rules.proofs.CheckedLemmas.{there}
use Rattle.script_laws.proofs.PlaceLemmas.{meaning, found-at}

-- what an option is mapped from
record From {A B : Type 0} (f : A → B) (o : Option A) (y : B) : Type 0 where
  pub part : A
  pub is : o ≡ Some part
  pub gives : f part ≡ y

from : {A B : Type 0} (f : A → B) (o : Option A) (y : B) → option_map f o ≡ Some y → From f o y
from f None y e = cc
from f (Some x) y e = record { part = x; is = refl; gives = cc }

meant-as : {A B : Type 0} (g : A → B) (o : Option (List ℕ × A)) (x : A) → meaning o ≡ Some x
    → option_map (λ (entry : List ℕ × A). g entry.1) o ≡ Some (g x)
meant-as g None x e = cc
meant-as g (Some entry) x e =
    let same : entry.1 ≡ x = cc in
    ap (λ y. Some (g y)) same

abbrev called : Named Function → List ℕ → Function → Callee
called functions name function = record {
  number = name_place name functions;
  takes = function.signature.takes;
  gives = function.signature.gives;
}

-- a callee is the function of its number
pub record IsCallee (functions : Named Function) (callee : Callee) : Type 0 where
  pub function : Function
  pub calls : function_at functions callee.number ≡ Some function
  pub takes : callee.takes ≡ function.signature.takes
  pub gives : callee.gives ≡ function.signature.gives

-- an operand is the collection of its number
pub record IsRead (nodes : Named Node) (operand : Operand) : Type 0 where
  pub members : members_at nodes operand.number ≡ Some operand.type
  pub kind : object_at nodes operand.number ≡ Some operand.is_object

number-read : (nodes : Named Node) (number : ℕ) (operand : Operand)
    → operand_at nodes number ≡ Some operand → IsRead nodes operand
number-read nodes number operand e =
    let found =
    from
    (λ (entry : List ℕ × Node). record {
      number = number;
      type = entry.1.type;
      is_object = gives_object entry.1.made;
    })
    (slice_get nodes number) operand e in
    subst (IsRead nodes) found.gives (record {
      members = ap (option_map (λ (entry : List ℕ × Node). entry.1.type)) found.is;
      kind = ap (option_map (λ (entry : List ℕ × Node). gives_object entry.1.made)) found.is;
    })

standing-read : (nodes : Named Node) (standing : Standing) (operand : Operand)
    → operand_of nodes standing ≡ Some operand → IsRead nodes operand
standing-read nodes (Collection number) operand e = number-read nodes number operand e
standing-read nodes Hidden operand e = cc

name-read : (nodes : Named Node) (o : Option Standing) (operand : Operand)
    → option_and_then (operand_of nodes) o ≡ Some operand → IsRead nodes operand
name-read nodes None operand e = cc
name-read nodes (Some standing) operand e = standing-read nodes standing operand e

module _ (line : ℕ) (s : State) where
  pub is-read : (name : List ℕ) (operand : Operand) → spec.operand_named line name s ≡ Ok operand
      → IsRead s.nodes operand
  is-read name operand e =
      name-read s.nodes (find name s.names) operand (there line Unknown _ operand e)

  pub is-callee : (name : List ℕ) (callee : Callee) → spec.callee line name s ≡ Ok callee
      → IsCallee s.functions callee
  is-callee name callee e =
      let found =
      from (called s.functions name) (find name s.functions) callee
      (there line Unknown _ callee e) in
      subst (IsCallee s.functions) found.gives (record {
        function = found.part;
        calls =
            meant-as (λ (function : Function). function)
            (slice_get s.functions (name_place name s.functions)) found.part
            (found-at name s.functions found.part found.is);
        takes = refl;
        gives = refl;
      })
