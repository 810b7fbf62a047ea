use Rattle.kept_results.proofs.FitLemmas.{unsorted_tells, untyped_tells}
use Rattle.script_program.specs.Program.{node_in}
use Rattle.kept_results.proofs.fitting.are_members_of.Goals as goal
use Rattle.kept_results.proofs.fitting.are_members_of.Goals.{else-all_have, then-all_have}

pub returns-else-ascend : goal.returns-else-ascend
returns-else-ascend c =
    let node = node_in c.args.types.now c.args.node.now in
    let members = c.args.members.now in
    elim c.if-all_have.branch [
      | then-all_have w ↦
          unsorted_tells node members c.if-all_have.value c.if-ascend.false w.ascend.result
          w.ascend.ensures w.value-is
      | else-all_have w ↦
          untyped_tells node members c.if-all_have.value c.if-ascend.false c.all_have.result
          c.all_have.ensures w.if-all_have.false
    ]
