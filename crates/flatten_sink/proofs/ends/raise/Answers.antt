use Rattle.std.specs.Prelude.{nat_eq}
use Rattle.std.specs.HashMap.{get}
use Rattle.flatten_sink.proofs.KnownEnds.{raised_put}
use Rattle.flatten_sink.proofs.ends.raise.Goals as goal

pub returns : goal.returns
returns c = raised_put (get nat_eq c.args.ends.now) (get nat_eq c.put_end.new.ends) c.args.node
    c.args.end c.higher-end.result c.end_so_far.result c.higher-end.ensures c.end_so_far.ensures
    c.in_ok-put_end.ensures
