use Rattle.flume_grammar.specs.Limits.{the_limits}
use Rattle.flume_grammar.proofs.Fair.{fair}
use Rattle.flume_grammar.proofs.Parsed.{one_tree}
use Rattle.flume_grammar.proofs.FirstFault.{one_fault, no_fault, either_}
use Rattle.flume_grammar.proofs.law.script_law.Goals as goal

pub returns-clause-one_tree : goal.returns-clause-one_tree
returns-clause-one_tree c = one_tree

pub returns-clause-either : goal.returns-clause-either
returns-clause-either c = either_ the_limits fair

pub returns-clause-not_both : goal.returns-clause-not_both
returns-clause-not_both c = no_fault the_limits fair

pub returns-clause-one_fault : goal.returns-clause-one_fault
returns-clause-one_fault c = one_fault the_limits fair
