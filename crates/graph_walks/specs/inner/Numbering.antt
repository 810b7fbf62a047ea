-- Outputs numbered one behind the other, step by step as they are held.
use Rattle.std.specs.Prelude.{ℕ, List, [], ◌∷◌, ◌++◌}
use Rattle.std.specs.List.{flat_map}
use Rattle.graph_laws.specs.of_exec_graph.Forests.{Branch, Twig, next_after, after_out, new_out, numbered}
use Rattle.graph_walks.specs.Outs.{out_list, outs}

-- each under the numbers behind those of the ones before it
abbrev pub numbered_all : {X : Type 0} → (ℕ → X → X) → (ℕ → X → ℕ) → ℕ → List X → List X
numbered_all one behind n [] = []
numbered_all one behind n (x ∷ xs) = one n x ∷ numbered_all one behind (behind n x) xs

-- ---- an output with the steps on it

abbrev pub numbered_twig : ℕ → Twig → Twig
numbered_twig n t =
    record { out = new_out n t.out; kids = numbered (after_out n t.out) t.kids }

abbrev pub after_twig : ℕ → Twig → ℕ
after_twig n t = next_after (after_out n t.out) t.kids

abbrev pub twig_outs : Twig → List ℕ
twig_outs t = out_list t.out ++ outs t.kids

-- ---- outputs of a step

abbrev pub numbered_twigs : ℕ → List Twig → List Twig
numbered_twigs n ts = numbered_all numbered_twig after_twig n ts

abbrev pub after_twigs : ℕ → List Twig → ℕ
after_twigs n [] = n
after_twigs n (t ∷ ts) = after_twigs (after_twig n t) ts

abbrev pub twigs_outs : List Twig → List ℕ
twigs_outs ts = flat_map twig_outs ts

-- ---- steps

abbrev pub numbered_branch : ℕ → Branch → Branch
numbered_branch n b = record {
  origin = b.origin;
  last = b.last;
  does = b.does;
  first = numbered_twig n b.first;
  more = numbered_twigs (after_twig n b.first) b.more;
}

abbrev pub after_branch : ℕ → Branch → ℕ
after_branch n b = after_twigs (after_twig n b.first) b.more

abbrev pub branch_outs : Branch → List ℕ
branch_outs b = twig_outs b.first ++ twigs_outs b.more

abbrev pub numbered_branches : ℕ → List Branch → List Branch
numbered_branches n bs = numbered_all numbered_branch after_branch n bs

abbrev pub branches_outs : List Branch → List ℕ
branches_outs bs = flat_map branch_outs bs
