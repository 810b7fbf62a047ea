use Rattle.flume_grammar.proofs.Answered.{one_ast, some_answer, not_both, one_refusal}
use Rattle.flume_grammar.proofs.law.answer_law.Goals as goal

pub returns-clause-one_tree : goal.returns-clause-one_tree
returns-clause-one_tree c = one_ast

pub returns-clause-either : goal.returns-clause-either
returns-clause-either c = some_answer

pub returns-clause-not_both : goal.returns-clause-not_both
returns-clause-not_both c = not_both

pub returns-clause-one_fault : goal.returns-clause-one_fault
returns-clause-one_fault c = one_refusal
