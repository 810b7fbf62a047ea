-- The names of the outputs of joined nodes: the code of each former collection that is kept, and
-- where it is then.
use Rattle.std.specs.Prelude.{◌≡◌, ℕ, ◌+◌, ◌<◌, ◌^◌, ◌==◌, true, cond, List, [], ◌∷◌, ◌++◌, Option, Some, None, nat_eq}
use Rattle.std.specs.List.{flat_map, AllByRecursion}
use Rattle.std.specs.HashMap.{HashMap, get}
use Rattle.exec_graph.specs.Forests.{Forest, Bare, Grow, next_after, after_out}
use Rattle.exec_graph.specs.Meaning.{node_at, place}
use Rattle.exec_graph.specs.Places.{code}
use Rattle.exec_graph.specs.declared.graph.Place.{Place}
use Rattle.exec_graph.specs.declared.graph.Node.{Node}
use Rattle.exec_graph.specs.declared.graph.Node.TheVariants.{Pdo}
use Rattle.exec_graph.specs.declared.graph.Entry.{Entry}
use Rattle.pardo_fuse.specs.Readers.{Cut}
use Rattle.pardo_fuse.specs.Fusing.{forest_over, hanging, hung, kids_on, leads, step_in, with_numbers}
use Rattle.pardo_fuse.specs.declared.names.Name.{Name}

-- how many outputs of steps, whether they are kept or not
abbrev pub labels : Forest → ℕ
labels Bare = 0
labels (Grow l kids rest) = 1 + (labels kids + labels rest)

-- ---- names

abbrev pub out_names : ℕ → ℕ → Option ℕ → List Name
out_names h s None = []
out_names h s (Some j) = record { former = j; place = place h s } ∷ []

-- of a forest of node h that is numbered from s on
abbrev pub names_from : ℕ → ℕ → Forest → List Name
names_from h s Bare = []
names_from h s (Grow l kids rest) =
    out_names h s l.out
    ++ (names_from h (after_out s l.out) kids
    ++ names_from h (next_after (after_out s l.out) kids) rest)

abbrev pub left_names : Cut → ℕ → Node → List Name
left_names b n (Pdo c f) = cond (leads b n c) (names_from n 0 (forest_over b c)) []
left_names b n _ = []

abbrev pub all_names : Cut → List Name
all_names b = flat_map (λ e. left_names b e.number e.node) b.graph.nodes

-- where a former collection is by these names
abbrev pub by_name : List Name → Place → Place
by_name [] c = c
by_name (x ∷ xs) c = cond (x.former == code c) x.place (by_name xs c)

abbrev pub place_or : Option Place → Place → Place
place_or None c = c
place_or (Some p) c = p

abbrev pub by_index : {S : Type 0} → HashMap ℕ Place S → Place → Place
by_index m c = place_or (get nat_eq m (code c)) c

-- ---- trees

-- what stands over an output of Pdo n
abbrev pub over_at : Cut → ℕ → ℕ → Option ℕ → Forest
over_at b k n o = hanging b k (kids_on b n o)

-- outputs of Pdo n with what stands over them
abbrev pub trees_at : Cut → ℕ → ℕ → Forest → Forest
trees_at b k n f = hung b n (over_at b k n) f Bare

abbrev pub steps_at : Cut → ℕ → Forest
steps_at b n = step_in (node_at b.graph.nodes n)

-- the outputs of a forest of node h have been named
pub record IsNamed (h : ℕ) (f : Forest) (s t : ℕ) (old new : List Name) : Type 0 where
  pub next : t ≡ next_after s f
  pub names : new ≡ old ++ names_from h s f

-- and that of one output, with those of what stands over it
pub record IsTreeNamed (h : ℕ) (o : Option ℕ) (kids : Forest) (s t : ℕ) (old new : List Name)
    : Type 0 where
  pub next : t ≡ next_after (after_out s o) kids
  pub names : new ≡ old ++ (out_names h s o ++ names_from h (after_out s o) kids)

-- ---- nodes that are left

abbrev pub numbered_entry : Entry → Entry
numbered_entry h = record { number = h.number; node = with_numbers h.node }

-- the outputs of a forest that is left can be numbered
abbrev pub LeadsShort : Cut → ℕ → Node → Type 0
LeadsShort b n (Pdo c f) =
    leads b n c ≡ true
    → labels (forest_over b c) < 2 ^ 32
LeadsShort b n _ = Unit {0}

abbrev pub AllShort : Cut → List Entry → Type 0
AllShort b es = AllByRecursion (λ e. LeadsShort b e.number e.node) es
