use Rattle.std.proofs.Common.{◌∙◌}
use Rattle.flatten_sink.proofs.Prefix.{gathers_front}
use Rattle.flatten_sink.proofs.finding.is_gathered.Goals as goal

pub returns : goal.returns
returns c =
    c.any_gathers.ensures
    ∙ gathers_front c.args.nodes.now c.front.result.now c.args.pdo c.args.end
    c.first_from-count.result c.requires.end c.first_from-count.ensures c.front.ensures
