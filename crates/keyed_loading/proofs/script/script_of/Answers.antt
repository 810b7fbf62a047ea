use Rattle.std.proofs.Common.{◌∙◌, ap, length, sym, Ok}
use Rattle.std.proofs.lemmas.List.{length-map}
use Rattle.flume_grammar.specs.declared.tree.Statement.{Statement}
use Rattle.script_keys.specs.Outlines.{outline_of}
use Rattle.script_loading.proofs.of_script_laws.RuleLemmas.{unsaved, well-formed}
use Rattle.script_loading.proofs.ProgramLemmas.{checked_ready}
use Rattle.statement_law.specs.Outlined.{outlines_of}
use Rattle.keyed_loading.proofs.script.script_of.Goals as goal

pub returns-clause-keyed : goal.returns-clause-keyed
returns-clause-keyed c =
    let accepts = c.in_ok-ast.ensures.accepted in
    rw c.new.ensures
    (record {
      ast = c.in_ok-ast.ast;
      list = accepts.0;
      cut = accepts.1;
      spelled = accepts.2;
      checked = c.in_ok-program.ensures;
      outlined = c.in_ok-outlines.ensures ∙ ap outlines_of c.as_slice.ensures;
      texted = c.in_ok-texts.ensures accepts.0 accepts.1;
    })

pub returns-clause-many : goal.returns-clause-many
returns-clause-many c =
    let accepts = c.in_ok-ast.ensures.accepted in
    let statements = c.in_ok-ast.ast.statements in
    ap length (c.in_ok-texts.ensures accepts.0 accepts.1)
    ∙ c.statement_law.ensures.texts c.args.bytes.now accepts.0 statements accepts.1 accepts.2
    ∙ sym
    (ap length (c.in_ok-outlines.ensures ∙ ap outlines_of c.as_slice.ensures)
    ∙ length-map statements (λ (statement : Statement). outline_of statement.form))

pub new-requires-clause-well_formed : goal.new-requires-clause-well_formed
new-requires-clause-well_formed c =
    well-formed c.in_ok-ast.ast.statements c.in_ok-program.program.script c.in_ok-program.ensures

pub returns-clause-written : goal.returns-clause-written
returns-clause-written c =
    rw c.new.ensures
    (unsaved c.in_ok-ast.ast.statements c.in_ok-program.program.script c.in_ok-program.ensures)

pub new-requires-clause-ready : goal.new-requires-clause-ready
new-requires-clause-ready c =
    checked_ready (λ program. program.script) c.args.bytes.now c.in_ok-ast.ast
    (Ok c.in_ok-program.program) c.in_ok-ast.ensures.accepted c.in_ok-program.ensures
