use Rattle.std.proofs.Common.{List, subst}
use Rattle.flume_grammar.specs.declared.tree.Statement.{Statement}
use Rattle.direct_meaning.specs.of_script_rules.Rules.{script_of}
use Rattle.written_types.specs.Answer.{Gives}
use Rattle.made_rows.proofs.Checked.{checked, only_memory}
use Rattle.made_rows.proofs.program.checked.Goals as goal

pub returns-clause-script : goal.returns-clause-script
returns-clause-script c =
    checked (λ program. program.script) c.check.result
    (subst (λ (l : List Statement). Gives (λ program. program.script) c.check.result (script_of l))
    c.in_ok-tree.ensures c.check.ensures)

pub returns-clause-memory : goal.returns-clause-memory
returns-clause-memory c =
    only_memory (λ program. program.script) c.check.result
    (subst (λ (l : List Statement). Gives (λ program. program.script) c.check.result (script_of l))
    c.in_ok-tree.ensures c.check.ensures)
