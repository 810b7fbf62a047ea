use Rattle.flatten_sink.proofs.Prefix.{below_next}
use Rattle.flatten_sink.proofs.ends.last_end.Goals as goal

pub returns : goal.returns
returns c = λ n. below_next c.args.graph.now n c.requires
