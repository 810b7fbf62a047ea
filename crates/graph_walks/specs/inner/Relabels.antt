-- Forests whose outputs have other numbers, or none, step by step as they are held.
use Rattle.std.specs.Prelude.{ℕ, map, Option}
use Rattle.graph_laws.specs.of_exec_graph.Forests.{Forest, Bare, Grow, Branch, Twig, with_out}

abbrev pub relabelled : (Option ℕ → Option ℕ) → Forest → Forest
relabelled r Bare = Bare
relabelled r (Grow l kids rest) =
    Grow (with_out (r l.out) l) (relabelled r kids) (relabelled r rest)

abbrev pub relabelled_twig : (Option ℕ → Option ℕ) → Twig → Twig
relabelled_twig r t = record { out = r t.out; kids = relabelled r t.kids }

abbrev pub relabelled_branch : (Option ℕ → Option ℕ) → Branch → Branch
relabelled_branch r b = record {
  origin = b.origin;
  last = b.last;
  does = b.does;
  first = relabelled_twig r b.first;
  more = map (relabelled_twig r) b.more;
}
