use Rattle.script_loading.proofs.ready.ReadyProgram.as_program.Goals as goal

pub returns-clause-graph : goal.returns-clause-graph
returns-clause-graph c =
    c.graph_law.ensures.well_formed c.self.inside.program.script c.self.invariant.0
    c.self.invariant.1.short
