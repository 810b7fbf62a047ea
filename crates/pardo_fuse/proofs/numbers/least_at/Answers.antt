use Rattle.std.proofs.Common.{sym, ap, ◌∙◌, Some}
use Rattle.exec_graph.specs.declared.graph.Node.{Node}
use Rattle.pardo_fuse.specs.Readers.{cut_of}
use Rattle.pardo_fuse.specs.Fusing.{least_at}
use Rattle.pardo_fuse.proofs.numbers.least_at.Goals as goal

pub returns-in-Pdo : goal.returns-in-Pdo
returns-in-Pdo c =
    c.least_over.ensures
    ∙ sym (ap (λ (z : Node). least_at (cut_of c.args.blocked.now) c.args.number (Some z))
    c.in-Pdo.is)
