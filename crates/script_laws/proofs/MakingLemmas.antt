-- What an operation makes: one collection that fits, or the outputs of a call.
use Rattle.std.proofs.Common.{◌≡◌, ℕ, Bool, true, false, not, List, [], ◌∷◌, Ok, Some, refl, ap}
use Rattle.std.proofs.Common.{◌∙◌}
use Rattle.std.specs.Prelude.{⊤}
use Rattle.flume_grammar.specs.declared.fault.ScriptKind.TheVariants.{Mistyped}
use Rattle.script_rules.specs.of_written_types.Named.{Named}
use Rattle.script_rules.specs.of_script_program.declared.made.Made.{Made}
use Rattle.script_rules.specs.of_script_program.declared.made.Made.TheVariants as made
use Rattle.script_rules.specs.of_script_program.Script.{Function, Making, Node, Operand}
use Rattle.script_rules.specs.Operations as spec
use Rattle.script_laws.specs.WellFormed.{Fits, ReadsKinds, function_at, members_at, object_at}
use Rattle.script_rules.proofs.CheckedLemmas.{holds}
use Rattle.script_laws.proofs.OperandLemmas.{IsRead}

-- by an operation other than a call
abbrev pub IsOther : Made → Type 0
IsOther (made.Input file columns) = ⊥
IsOther (made.Do source function output) = ⊥
IsOther (made.Saved is_object call) = ⊥
IsOther _ = ⊤

-- what is made behind these fits
pub record MakingFits (functions : Named Function) (nodes : Named Node)
    (making : Making) : Type 0 where
  pub fits : Fits functions nodes making.made making.type
  pub other : IsOther making.made
  pub kinds : ReadsKinds nodes making.made

-- one collection, which fits behind these
pub record IsAlone (functions : Named Function) (nodes : Named Node)
    (makings : List Making) : Type 0 where
  pub making : Making
  pub are : makings ≡ making ∷ []
  pub makes : MakingFits functions nodes making
  pub open makes use *

-- the outputs of a call
pub record AreOutputs (functions : Named Function) (nodes : Named Node)
    (makings : List Making) : Type 0 where
  pub source : ℕ
  pub called : ℕ
  pub function : Function
  pub calls : function_at functions called ≡ Some function
  pub takes : members_at nodes source ≡ Some function.signature.takes
  pub plain : object_at nodes source ≡ Some false
  pub are : makings ≡ spec.outputs_from source called 0 function.signature.gives

-- ---- collections that are no objects

not-true : (b : Bool) → not b ≡ true → b ≡ false
not-true true e = cc
not-true false e = refl

module _ (nodes : Named Node) where
  pub plain-is : (source : Operand) → IsRead nodes source → not source.is_object ≡ true
      → object_at nodes source.number ≡ Some false
  plain-is source reads is = reads.kind ∙ ap Some (not-true source.is_object is)

  pub plain-read : (line : ℕ) (source : Operand) (u : Unit {0}) → IsRead nodes source
      → spec.plain line source ≡ Ok u → object_at nodes source.number ≡ Some false
  plain-read line source u reads e = plain-is source reads (holds line Mistyped _ u e)
