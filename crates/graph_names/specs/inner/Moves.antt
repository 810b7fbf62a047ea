-- Where what is read is read by a rule.
use Rattle.std.specs.Prelude.{ℕ, Bool, false, cond, Option, Some, None, nat_eq}
use Rattle.std.specs.HashMap.{HashMap, get}
use Rattle.exec_graph.specs.Meaning.{place}
use Rattle.exec_graph.specs.declared.graph.Place.{Place}
use Rattle.pardo_fuse.specs.Parting.{part_number}
use Rattle.graph_names.specs.declared.moves.Move.{Move}
use Rattle.graph_names.specs.declared.moves.Move.TheVariants.{ToNames, ToPlaces}

abbrev pub is_so : Option Bool → Bool
is_so None = false
is_so (Some b) = b

abbrev pub pdo_in : {S : Type 0} → HashMap ℕ Bool S → ℕ → Bool
pdo_in m n = is_so (get nat_eq m n)

-- an output of a Pdo is told by its name
abbrev pub place_under : {S : Type 0} → HashMap ℕ Bool S → ℕ → Place → Place
place_under m k c = cond (pdo_in m c.node) (place (part_number k c.node c.out) 0) c

abbrev pub place_or : Option Place → Place → Place
place_or None c = c
place_or (Some d) c = d

-- a name is told by where its output is
abbrev pub place_in : {S : Type 0} → HashMap ℕ Place S → Place → Place
place_in m c = place_or (get nat_eq m c.node) c

abbrev pub move_of : Move → Place → Place
move_of (ToNames pdos next) c = place_under pdos next c
move_of (ToPlaces places) c = place_in places c
