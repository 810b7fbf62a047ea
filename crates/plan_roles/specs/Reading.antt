-- Who reads a collection, as far as forming asks for it.
use Rattle.std.specs.Prelude.{ℕ, ◌==◌, not, ◌&&◌, ◌||◌, Bool, false, cond, List, [], ◌∷◌, Option, Some, None}
use Rattle.std.proofs.Common.{suc}
use Rattle.std.specs.List.{list_any}
use Rattle.exec_graph.specs.Meaning.{place}
use Rattle.exec_graph.specs.Readers.{among, any_node, is_held, readers, same_place}
use Rattle.exec_graph.specs.declared.graph.Place.{Place}
use Rattle.exec_graph.specs.declared.graph.Node.{Node}
use Rattle.exec_graph.specs.declared.graph.Node.TheVariants.{Source, Flatten, Pdo, Gbk, Barrier}
use Rattle.exec_graph.specs.declared.graph.Entry.{Entry}
use Rattle.exec_graph.specs.declared.graph.Graph.{Graph}
use Rattle.fusion_blocks.specs.Feeding.{is_flatten_of}
use Rattle.plan_laws.specs.Operations.{read_through}
use Rattle.plan_roles.specs.Levels.{level}

-- ---- groups

-- whether the node is a Gbk of c, or of a Flatten of c
abbrev pub takes : List Entry → Place → Node → Bool
takes es c (Source r) = false
takes es c (Flatten ins) = false
takes es c (Pdo d f) = false
takes es c (Gbk d o l k) = same_place c d || among c (read_through es d)
takes es c (Barrier ins o l a) = false

-- whether c feeds a Gbk whose level passes the test
abbrev pub feeds_level : List Entry → (ℕ → Bool) → Place → Bool
feeds_level es p c = list_any (λ e. takes es c e.node && p (level es e.number)) es

-- whether c feeds a Gbk of the next level after that of the node that gives it
abbrev pub feeds_next : List Entry → Place → Bool
feeds_next es c = feeds_level es (λ k. k == suc (level es c.node)) c

-- whether c feeds a Gbk of another level
abbrev pub feeds_other : List Entry → Place → Bool
feeds_other es c = feeds_level es (λ k. not (k == suc (level es c.node))) c

-- ---- Pdos and Flattens

-- whether the node reads c, and is a Pdo or takes it whole
abbrev pub works_on : Place → Node → Bool
works_on c (Source r) = false
works_on c (Flatten ins) = false
works_on c (Pdo d f) = same_place c d
works_on c (Gbk d o l k) = false
works_on c (Barrier ins o l a) = among c ins

-- whether a node reads c that is neither a source nor a Gbk
abbrev pub goes_on : List Entry → Place → Bool
goes_on es c = any_node (λ x. works_on c x || is_flatten_of c x) es

-- whether the entry works on c, or is a Flatten of c that is read by another than a Gbk or a script
-- output
abbrev pub carries_on : List Entry → Place → Entry → Bool
carries_on es c e = works_on c e.node || (is_flatten_of c e.node && goes_on es (place e.number 0))

-- whether some reader of c is neither a Gbk, nor a script output, nor a Flatten whose every reader
-- is a Gbk or a script output
abbrev pub goes_past : List Entry → Place → Bool
goes_past es c = list_any (carries_on es c) es

-- ---- one reader

abbrev pub sole_number : List ℕ → Option ℕ
sole_number [] = None
sole_number (n ∷ []) = Some n
sole_number (n ∷ m ∷ ns) = None

-- the Pdo that is the only reader of c
abbrev pub only_reader : Graph → Place → Option ℕ
only_reader g c = cond (is_held g c) None (sole_number (readers g.nodes c))
