-- The meaning of a call: what a body emits where names stand for values, by one equation for each
-- form of statement. `emit to N` emits to output N, counted from 1, and `emit` to the first.
use Rattle.std.specs.Prelude.{ℕ, Option, Some, None, List, [], ◌∷◌, length, replicate}
use Rattle.flume_value.specs.declared.value.Value.{Value}
use Rattle.flume_value.specs.Parts.{members_of, left_of, right_of}
use Rattle.flume_types.specs.declared.types.Ty.{Ty}
use Rattle.flume_grammar.specs.declared.tree.Body.{Body, Body-F, fold-Body}
use Rattle.dofn_eval.specs.Outcome.{Outcome, Gives, Stuck, then, with_part}
pub use Rattle.dofn_eval.specs.Outcome.{run_all}
use Rattle.dofn_eval.specs.Operations.{chosen}
use Rattle.dofn_eval.specs.Run.{Emissions, emitted_to}
use Rattle.expression_check.specs.of_written_types.Named.{Named}
use Rattle.expression_check.specs.of_expression_types.Fields.{member_type, side_types}
use Rattle.expression_check.specs.Given.{Thing, Environment, valued, given_in}
use Rattle.body_check.specs.Outputs.{output_written}

-- what a statement finds and leaves: what names stand for, the newest first, and what was emitted
-- to each output
pub record NameState : Type 0 where
  pub env : Environment
  pub out : Emissions

abbrev pub state : Environment → Emissions → NameState
state env out = record { env = env; out = out }

-- what a block emits in an environment, behind what was emitted so far
abbrev pub Emits : Type 0
Emits = Environment → Emissions → Outcome Emissions

-- what a block names ends with it
abbrev pub block : {X : Type 0} → (X → NameState → Outcome NameState) → List X → Emits
block f xs env out = then (run_all f xs (state env out)) (λ s. Gives s.out)

-- a block for each member in order, which the name stands for
abbrev pub each : Emits → List ℕ → Ty → List Value → Emits
each f name type [] env out = Gives out
each f name type (x ∷ xs) env out =
    then (f ((name, (type, x)) ∷ env) out) (each f name type xs env)

-- `for name in thing { .. }`
abbrev pub for_each : Emits → List ℕ → Thing → Emits
for_each f name thing env out =
    with_part (member_type thing.0) (λ type.
    with_part (members_of thing.1) (λ members. each f name type members env out))

-- the block of the side that there is, whose content the name stands for
abbrev pub side : Emits → List ℕ → Emits → List ℕ → Ty × Ty → Option Value → Option Value → Emits
side f left g right types (Some x) y env out = f ((left, (types.0, x)) ∷ env) out
side f left g right types None (Some y) env out = g ((right, (types.1, y)) ∷ env) out
side f left g right types None None env out = Stuck

-- `case thing left name { .. } right name { .. }`
abbrev pub by_side : Emits → List ℕ → Emits → List ℕ → Thing → Emits
by_side f left g right thing env out =
    with_part (side_types thing.0)
    (λ types. side f left g right types (left_of thing.1) (right_of thing.1) env out)

-- one value more behind what was emitted to the output that the `emit` is to
abbrev pub emitted_behind : Option (List ℕ) → Value → Emissions → Outcome Emissions
emitted_behind to x out =
    with_part (output_written (length out) to) (λ output. emitted_to output x out)

-- goes on with the names from before
abbrev pub after : Environment → Outcome Emissions → Outcome NameState
after env o = then o (λ out. Gives (state env out))

-- names of types stand for these
module _ (known : Named Ty) where
  -- what each form of statement emits, where f says what the statements of its blocks emit
  abbrev pub layer_emitted : {X : Type 0} → (X → NameState → Outcome NameState) →
      Body-F X → NameState → Outcome NameState
  layer_emitted f (Body-F.Let line name e) s =
      then (given_in line known e s.env) (λ x. Gives (state ((name, x) ∷ s.env) s.out))
  layer_emitted f (Body-F.Emit line to e) s =
      after s.env (then (given_in line known e s.env) (λ x. emitted_behind to x.1 s.out))
  layer_emitted f (Body-F.If line e a b) s =
      after s.env
      (chosen (valued (given_in line known e s.env))
      (block f a s.env s.out) (block f b s.env s.out))
  layer_emitted f (Body-F.For line name e body) s =
      after s.env
      (then (given_in line known e s.env) (λ x. for_each (block f body) name x s.env s.out))
  layer_emitted f (Body-F.Case line e left a right b) s =
      after s.env
      (then (given_in line known e s.env)
      (λ x. by_side (block f a) left (block f b) right x s.env s.out))

  abbrev pub emitted_in : Body → NameState → Outcome NameState
  emitted_in = fold-Body (NameState → Outcome NameState) (layer_emitted (λ m. m))

  -- the meaning of a call: the emissions of the body, one list for each of so many outputs, with
  -- the argument, of its type, under its name
  abbrev pub means : ℕ → List ℕ → Ty → List Body → Value → Outcome Emissions
  means outputs argument takes body x =
      block emitted_in body ((argument, (takes, x)) ∷ []) (replicate outputs [])
