-- What a function of objects gives, by the values of the objects.
use Rattle.std.proofs.Common.{◌≡◌, ℕ, List, Option, None, Some, sym, ap, ◌∙◌}
use Rattle.std.specs.Prelude.{IfOk, Result, Ok, Err}
use Rattle.flume_value.specs.declared.value.Value.{Value}
use Rattle.flume_collection.specs.declared.trap.Trap.{Trap}
use Rattle.flume_collection.specs.Calls.{Called}
use Rattle.flume_collection.specs.Collection.{Collection}
use Rattle.exec_graph.specs.declared.graph.Act.TheVariants as act
use Rattle.exec_graph.specs.Objects.{act_result, argument, none_of, one_answer, operated_on, values_in}
use Rattle.exec_graph.specs.World.{World}
use Rattle.exec_graph.proofs.Barriers.{barrier_operate}
use Rattle.operate_step.specs.Results.{object_of}

pub none_made : (w : World) (o f : ℕ) (objects : List Collection) → values_in objects ≡ None
    → act_result w o (act.Operate f) objects ≡ none_of objects
none_made w o f objects none =
    barrier_operate w o f objects
    ∙ ap (λ (vs : Option (List Value)). operated_on w o f vs objects) none

-- it is what the call on the argument answers
answer_made : (w : World) (called : ℕ → Value → Called) (o f : ℕ) (vs : List Value)
    (objects : List Collection) → w.called ≡ called → values_in objects ≡ Some vs
    → act_result w o (act.Operate f) objects
    ≡ one_answer o (argument vs) (called f (argument vs))
answer_made w called o f vs objects same found =
    barrier_operate w o f objects
    ∙ ap (λ (x : Option (List Value)). operated_on w o f x objects) found
    ∙ ap (λ (c : ℕ → Value → Called). one_answer o (argument vs) (c f (argument vs))) same

pub made_is : {E : Type 0} (w : World) (called : ℕ → Value → Called) (o f : ℕ) (vs : List Value)
    (objects : List Collection) → w.called ≡ called → values_in objects ≡ Some vs → (x : Value)
    → x ≡ argument vs → (r : Result (Result Value Trap) E)
    → IfOk r (λ made. one_answer o x (called f x) ≡ object_of made)
    → IfOk r (λ made. act_result w o (act.Operate f) objects ≡ object_of made)
made_is w called o f vs objects same found x is (Err fault) e = tt
made_is w called o f vs objects same found x is (Ok made) e =
    answer_made w called o f vs objects same found
    ∙ ap (λ (y : Value). one_answer o y (called f y)) (sym is) ∙ e
