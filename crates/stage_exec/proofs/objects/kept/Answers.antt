use Rattle.std.proofs.Common.{refl}
use Rattle.exec_graph.specs.Objects.{untrapped}
use Rattle.stage_exec.proofs.objects.kept.Goals as goal

pub returns-in_ok-one_list-in-Ok : goal.returns-in_ok-one_list-in-Ok
returns-in_ok-one_list-in-Ok c w =
    rw c.in-Ok.is
    (record {
      lists = c.in_ok-one_list-in-Ok.ensures;
      calm = refl;
      grown = c.add_object.ensures w (untrapped c.in-Ok.members) c.len.ensures;
    })
