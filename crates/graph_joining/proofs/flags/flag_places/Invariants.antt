use Rattle.std.proofs.Common.{◌≡◌, ℕ, ◌||◌, drop, map}
use Rattle.exec_graph.specs.Meaning.{place}
use Rattle.exec_graph.specs.Readers.{among}
use Rattle.graph_walks.specs.Outs.{flag}
use Rattle.graph_joining.specs.inner.Apart.{place_by}
use Rattle.graph_joining.proofs.flags.flag_places.Given as goal

abbrev pub invariant-loop-c : goal.invariant-loop-c
invariant-loop-c l = (j : ℕ)
    → (flag l.flags.items j
    || among (place l.by.number j) (map (place_by l.by) (drop l.c-index l.places)))
    ≡ (flag l.fn.flags.items j || among (place l.by.number j) (map (place_by l.by) l.places))
