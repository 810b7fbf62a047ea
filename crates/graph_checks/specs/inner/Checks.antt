-- The tests of nodes, one for each kind.
use Rattle.std.specs.Prelude.{◌≡◌, ℕ, ◌<◌, ◌^◌, ◌==◌, nat_lt, nat_eq, not, ◌&&◌, Bool, true, false, cond, List, [], ◌∷◌, length, Option, Some, None}
use Rattle.std.specs.List.{list_all}
use Rattle.std.specs.HashMap.{HashMap, get}
use Rattle.combine_table.specs.declared.comb.Comb.{Comb}
use Rattle.combine_table.specs.contracts.comb.CombPartialEq.TheImpl as combs
use Rattle.exec_graph.specs.declared.graph.Place.{Place}
use Rattle.exec_graph.specs.declared.graph.Node.{Node}
use Rattle.exec_graph.specs.declared.graph.Node.TheVariants.{Flatten, Pdo, Gbk}
use Rattle.exec_graph.specs.declared.graph.Entry.{Entry}
use Rattle.exec_graph.specs.declared.graph.Graph.{Graph}
use Rattle.exec_graph.specs.declared.spots.Spot.{Spot}
use Rattle.graph_checks.specs.declared.callers.Callers.{Callers}
use Rattle.graph_checks.specs.declared.callers.Callers.TheVariants.{One, Several}
use Rattle.exec_graph.specs.Meaning.{place}
use Rattle.exec_graph.specs.Forests.{after_out}
use Rattle.exec_graph.specs.Readers.{calls_on, is_held, is_read}
use Rattle.exec_graph.specs.Wellformed.{comb_at, most_nodes}
use Rattle.exec_graph.specs.Places.{code}
use Rattle.exec_graph.specs.Spots.{spots}

-- ---- flattens
abbrev pub flatten_ok : Node → Bool
flatten_ok (Flatten ins) = nat_lt 0 (length ins) && not (nat_lt most_nodes (length ins))
flatten_ok _ = true

-- ---- forests
abbrev pub is_next : ℕ → Option ℕ → Bool
is_next n None = true
is_next n (Some j) = j == n

-- whether the outputs that are kept have the numbers from n on, in order
abbrev pub in_order : ℕ → List Spot → Bool
in_order n [] = true
in_order n (s ∷ ss) = is_next n s.out && in_order (after_out n s.out) ss

abbrev pub out_read : Graph → ℕ → Option ℕ → Bool
out_read g n None = true
out_read g n (Some j) = is_read g (place n j)

-- whether each of the outputs of node n is read
abbrev pub all_read : Graph → ℕ → List Spot → Bool
all_read g n ss = list_all (λ s. out_read g n s.out) ss

abbrev pub forest_ok : Graph → ℕ → Node → Bool
forest_ok g n (Pdo c f) = in_order 0 (spots f) && all_read g n (spots f)
forest_ok g n _ = true

-- ---- lifted groups

abbrev pub more_callers : Option Callers → Option Comb → Callers
more_callers None root = One root
more_callers (Some callers) root = Several

-- the Pdos that read c, after those that were seen
abbrev pub callers_from : Option Callers → List Entry → Place → Option Callers
callers_from seen [] c = seen
callers_from seen (e ∷ es) c =
    callers_from
    (cond (calls_on c e.node) (Some (more_callers seen (comb_at (Some e.node)))) seen) es c

-- the map has the Pdos that read each collection
abbrev pub HasCallers : {S : Type 0} → HashMap ℕ Callers S → (Place → Option Callers) → Type 0
HasCallers m f = (c : Place) → c.out < 2 ^ 32 → get nat_eq m (code c) ≡ f c

-- whether the only caller's only root combines like that
abbrev pub called_by : Comb → Option Callers → Bool
called_by k (Some (One (Some root))) = (combs.ghosts).eq root k
called_by k _ = false

abbrev pub lifted_ok : Graph → ℕ → Node → Bool
lifted_ok g n (Gbk c o l (Some k)) =
    not (is_held g (place n 0)) && called_by k (callers_from None g.nodes (place n 0))
lifted_ok g n _ = true
