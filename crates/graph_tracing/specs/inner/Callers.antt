-- Which Pdo becomes part of which, as tests.
use Rattle.std.specs.Prelude.{◌≡◌, ℕ, ◌<◌, ◌^◌, nat_eq, nat_lt, ◌&&◌, Bool, true, false, cond, List, [], ◌∷◌, Option, Some, None}
use Rattle.std.specs.HashMap.{HashMap, get}
use Rattle.exec_graph.specs.Meaning.{node_at}
use Rattle.exec_graph.specs.Places.{code}
use Rattle.exec_graph.specs.Readers.{among, calls_on, those}
use Rattle.exec_graph.specs.declared.graph.Blocked.{Blocked}
use Rattle.exec_graph.specs.declared.graph.Entry.{Entry}
use Rattle.exec_graph.specs.declared.graph.Node.{Node}
use Rattle.exec_graph.specs.declared.graph.Node.TheVariants.{Source, Flatten, Pdo, Gbk, Barrier}
use Rattle.exec_graph.specs.declared.graph.Place.{Place}
use Rattle.pardo_fuse.specs.Readers.{is_pdo}

-- the first Pdo that reads c
abbrev pub first_caller : Place → List Entry → Option ℕ
first_caller c [] = None
first_caller c (e ∷ es) = cond (calls_on c e.node) (Some e.number) (first_caller c es)

-- the map tells it of each collection
abbrev pub HasFirsts : {S : Type 0} → HashMap ℕ ℕ S → List Entry → Type 0
HasFirsts m es = (c : Place) → c.out < 2 ^ 32 → get nat_eq m (code c) ≡ first_caller c es

abbrev pub or_else : Option ℕ → Option ℕ → Option ℕ
or_else None o = o
or_else (Some p) o = Some p

-- if it is below q
abbrev pub below : ℕ → Option ℕ → Option ℕ
below q None = None
below q (Some p) = cond (nat_lt p q) (Some p) None

-- the first Pdo that reads what the Pdo q reads, if it is below that
abbrev pub keeper_by : List Entry → ℕ → Option Node → Option ℕ
keeper_by es q None = None
keeper_by es q (Some (Source r)) = None
keeper_by es q (Some (Flatten ins)) = None
keeper_by es q (Some (Pdo c f)) = below q (first_caller c es)
keeper_by es q (Some (Gbk c o l k)) = None
keeper_by es q (Some (Barrier ins o l a)) = None

abbrev pub keeper_in : List Entry → ℕ → Option ℕ
keeper_in es q = keeper_by es q (node_at es q)

-- what the Pdo reads, if that is of a Pdo
abbrev pub read_by : List Entry → Option Node → Option Place
read_by es None = None
read_by es (Some (Source r)) = None
read_by es (Some (Flatten ins)) = None
read_by es (Some (Pdo c f)) = cond (is_pdo (node_at es c.node)) (Some c) None
read_by es (Some (Gbk c o l k)) = None
read_by es (Some (Barrier ins o l a)) = None

-- what the Pdo q reads, if that is of a Pdo
abbrev pub read_in : List Entry → ℕ → Option Place
read_in es q = read_by es (node_at es q)

-- whether c is an output of a Pdo among these nodes, and not among the marks
abbrev pub unmarked_by : List Entry → List Place → Place → Bool
unmarked_by es marks c = is_pdo (node_at es c.node) && cond (among c marks) false true

-- whether the node is a Pdo that reads such an output
abbrev pub goes_by : List Entry → List Place → Node → Bool
goes_by es marks (Source r) = false
goes_by es marks (Flatten ins) = false
goes_by es marks (Pdo c f) = unmarked_by es marks c
goes_by es marks (Gbk c o l k) = false
goes_by es marks (Barrier ins o l a) = false

abbrev pub goes_in : Blocked → Node → Bool
goes_in b x = goes_by b.graph.nodes b.marks x

-- the Pdos that become kids, where they are still there
abbrev pub kid_numbers : Blocked → List ℕ
kid_numbers b = those (goes_in b) b.graph.nodes
