use Rattle.sink_laws.specs.Chain.{CanSinkPdo, CanNest, next_call, next_nest}
use Rattle.sink_laws.proofs.Choosing.{next_call_can, next_nest_can}
use Rattle.sink_laws.proofs.Nexts.{call_below, least_of, nest_below, no_nest_left, none_of}
use Rattle.sink_laws.proofs.laws.next_law.Goals as goal

pub returns-clause-nest : goal.returns-clause-nest
returns-clause-nest c = λ g n ok e.
    least_of (CanNest g) (next_nest g.nodes) (nest_below g) n e (next_nest_can g ok n e)

pub returns-clause-no_nest : goal.returns-clause-no_nest
returns-clause-no_nest c = no_nest_left

pub returns-clause-call : goal.returns-clause-call
returns-clause-call c = λ g p ok e.
    least_of (CanSinkPdo g) (next_call g.nodes) (call_below g) p e (next_call_can g ok p e)

pub returns-clause-no_call : goal.returns-clause-no_call
returns-clause-no_call c = λ g. none_of (CanSinkPdo g) (next_call g.nodes) (call_below g)
