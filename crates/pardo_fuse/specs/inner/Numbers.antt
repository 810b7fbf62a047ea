-- Under which number each node stands after fusing, as a table says it.
use Rattle.std.specs.Prelude.{ℕ, ◌+◌, ◌==◌, ltb, cond, List, [], ◌∷◌, Option, Some, None, nat_eq}
use Rattle.std.specs.HashMap.{HashMap, get}
use Rattle.exec_graph.specs.declared.graph.Entry.{Entry}
use Rattle.pardo_fuse.specs.Readers.{Cut}
use Rattle.pardo_fuse.specs.Fusing.{kids_on, least_at, members}

abbrev pub number_or : Option ℕ → ℕ → ℕ
number_or None n = n
number_or (Some m) n = m

abbrev pub number_in : {S : Type 0} → HashMap ℕ ℕ S → ℕ → ℕ
number_in m n = number_or (get nat_eq m n) n

-- the number of the node n, which is among these
abbrev pub least_from : Cut → List Entry → ℕ → ℕ
least_from b [] n = n
least_from b (e ∷ es) n = cond (e.number == n) (least_at b e.number (Some e.node))
    (least_from b es n)

-- the Pdos in the trees on an output of Pdo n
abbrev pub members_at : Cut → ℕ → ℕ → Option ℕ → List ℕ
members_at b k n o = members b k (kids_on b n o)

-- how many nodes stand before the first of a greater number
abbrev pub place_before : ℕ → List Entry → ℕ
place_before n [] = 0
place_before n (d ∷ ds) = cond (ltb n d.number) 0 (place_before n ds + 1)
