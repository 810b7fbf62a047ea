use Rattle.std.proofs.Common.{◌∙◌}
use Rattle.flatten_sink.proofs.Prefix.{others_front}
use Rattle.flatten_sink.proofs.finding.others_use_below.Goals as goal

pub returns : goal.returns
returns c =
    c.others_use.ensures
    ∙ others_front c.args.nodes.now c.front.result.now c.args.flatten c.args.pdo c.args.end
    c.first_from-count.result c.requires.end c.first_from-count.ensures c.front.ensures
