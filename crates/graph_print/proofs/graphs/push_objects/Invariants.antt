use Rattle.std.proofs.Common.{◌≡◌, ◌++◌, drop}
use Rattle.std.specs.List.{flat_map}
use Rattle.graph_print.specs.GraphText.{object_text}
use Rattle.graph_print.proofs.graphs.push_objects.Given as goal

abbrev pub invariant-loop-object : goal.invariant-loop-object
invariant-loop-object l =
    l.text.items ++ flat_map object_text (drop l.object-index l.objects)
    ≡ l.initial.text.items ++ flat_map object_text l.objects
