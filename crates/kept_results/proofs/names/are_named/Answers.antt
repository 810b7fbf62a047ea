use Rattle.std.proofs.Common.{arith, sym}
use Rattle.kept_results.proofs.NameLemmas.{named-length}
use Rattle.kept_results.proofs.names.are_named.Goals as goal

pub returns-then-sizes-names : goal.returns-then-sizes-names
returns-then-sizes-names c =
    sym (named-length c.args.sizes.now c.args.names.now (omega arith))
