-- Where the outputs of two nodes are while they become one.
use Rattle.std.specs.Prelude.{ℕ, ◌==◌, cond, slice_index_or}
use Rattle.exec_graph.specs.Meaning.{place}
use Rattle.exec_graph.specs.declared.graph.Place.{Place}
use Rattle.graph_laws.specs.Kids.{even, moved_out, odd}
use Rattle.graph_joining.specs.declared.moves.Apart.{Apart}
use Rattle.graph_joining.specs.declared.moves.Placed.{Placed}

-- those of p under even numbers and those of q under odd ones, all as outputs of n
abbrev pub apart_place : ℕ → ℕ → ℕ → Place → Place
apart_place p q n c =
    cond (c.node == p) (place n (even c.out)) (cond (c.node == q) (place n (odd c.out)) c)

abbrev pub place_by : Apart → Place → Place
place_by a c = apart_place a.keeper a.other a.number c

-- the number that is of no node then
abbrev pub gone_by : Apart → ℕ
gone_by a = cond (a.number == a.keeper) a.other a.keeper

-- then under the numbers of a table, and what is not in it under another
abbrev pub rule_of : Placed → Place → Place
rule_of m c =
    moved_out m.apart.number (λ j. slice_index_or m.table.items j m.count) (place_by m.apart c)
