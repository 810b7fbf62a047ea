use Rattle.std.proofs.Common.{◌≡◌, ℕ, get_or}
use Rattle.graph_walks.specs.Outs.{place_of}
use Rattle.graph_walks.proofs.TableTurns.{place_from}
use Rattle.graph_walks.proofs.tables.number_table.Given as goal

-- what has no place yet has one among those that are left
abbrev pub invariant-loop-place : goal.invariant-loop-place
invariant-loop-place l =
    (j : ℕ) → place_from l.outs l.place l.count (get_or l.table.items j l.count) j
    ≡ place_of l.outs j
