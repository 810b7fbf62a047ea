use Rattle.std.proofs.Common.{length}
use Rattle.operation_check.proofs.operation.made_by.Goals as goal

pub returns-in-Combine-clause-within : goal.returns-in-Combine-clause-within
returns-in-Combine-clause-within c =
    c.alone-in-Combine.ensures.within (length c.combination.new.state.types)
    c.combination.ensures.within

pub returns-in-Flatten-clause-within : goal.returns-in-Flatten-clause-within
returns-in-Flatten-clause-within c =
    c.alone-in-Flatten.ensures.within (length c.args.state.now.types) c.flatten.ensures.within

pub returns-in-Count-clause-within : goal.returns-in-Count-clause-within
returns-in-Count-clause-within c =
    c.alone-in-Count.ensures.within (length c.counted.new.state.types) c.counted.ensures.within

pub returns-in-Join-clause-within : goal.returns-in-Join-clause-within
returns-in-Join-clause-within c =
    c.alone-in-Join.ensures.within (length c.joined.new.state.types) c.joined.ensures.within

pub returns-in-Top-clause-within : goal.returns-in-Top-clause-within
returns-in-Top-clause-within c =
    c.alone-in-Top.ensures.within (length c.args.state.now.types) c.greatest.ensures.within

pub returns-in-CombineAll-clause-within : goal.returns-in-CombineAll-clause-within
returns-in-CombineAll-clause-within c =
    c.alone-in-CombineAll.ensures.within (length c.combined_whole.new.state.types)
    c.combined_whole.ensures.within

pub returns-in-Operate-clause-within : goal.returns-in-Operate-clause-within
returns-in-Operate-clause-within c =
    c.alone-in-Operate.ensures.within (length c.args.state.now.types) c.operated.ensures.within

pub returns-in-DoWith-clause-within : goal.returns-in-DoWith-clause-within
returns-in-DoWith-clause-within c =
    c.alone-in-DoWith.ensures.within (length c.args.state.now.types)
    c.done_beside.ensures.within
