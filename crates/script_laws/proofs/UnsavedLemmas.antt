-- What statements make is nothing that an earlier run has kept.
use Rattle.std.proofs.Common.{ℕ, zero, suc, ◌+◌, List, [], ◌∷◌, ◌++◌, length, map}
use Rattle.std.specs.List.{AllByRecursion as Each}
use Rattle.flume_value.proofs.EachLemmas.{Each-append}
use Rattle.script_rules.specs.of_written_types.Named.{Named}
use Rattle.script_rules.specs.of_script_program.declared.made.Made.{Made}
use Rattle.script_rules.specs.of_script_program.declared.made.Made.TheVariants as made
use Rattle.script_rules.specs.of_script_program.Saved.{IsUnsaved}
use Rattle.script_rules.specs.of_script_program.Script.{Node}
use Rattle.script_rules.specs.Repeats.{Repeat, copied_let, nodes_left, made_from_others, turn_gives}
use Rattle.script_rules.specs.Repeats.{turn_nodes, turn_to}
use Rattle.script_laws.specs.Fitting.{AreInPlace, IsInPlace}
use Rattle.script_laws.proofs.NewLemmas.{how_made}

-- none of these is kept
abbrev pub AreUnsaved : Named Node → Type 0
AreUnsaved nodes = Each (λ entry. IsUnsaved entry.1.made) nodes

pub both-unsaved : (nodes more : Named Node) → AreUnsaved nodes → AreUnsaved more
    → AreUnsaved (nodes ++ more)
both-unsaved nodes more first second =
    Each-append (λ (entry : List ℕ × Node). IsUnsaved entry.1.made) nodes more first second

-- ---- lets that stand where they may

place-unsaved : (place : ℕ) (how : Made) → IsInPlace place how → IsUnsaved how
place-unsaved place (made.Saved is_object call) here = here
place-unsaved place _ here = tt

pub places-unsaved : (place : ℕ) (nodes : Named Node) → AreInPlace place (map how_made nodes)
    → AreUnsaved nodes
places-unsaved place [] here = tt
places-unsaved place (entry ∷ nodes) here = (
  place-unsaved place entry.1.made here.0,
  places-unsaved (suc place) nodes here.1,
)

-- ---- copies of them

copy-unsaved : (to : ℕ → ℕ) (how : Made) → IsUnsaved how → IsUnsaved (made_from_others to how)
copy-unsaved to (made.Saved is_object call) own = own
copy-unsaved to _ own = tt

copies-unsaved : (turn : ℕ) (to : ℕ → ℕ) (nodes : Named Node) → AreUnsaved nodes
    → AreUnsaved (map (copied_let turn to) nodes)
copies-unsaved turn to [] own = tt
copies-unsaved turn to (entry ∷ nodes) own =
    (copy-unsaved to entry.1.made own.0, copies-unsaved turn to nodes own.1)

module _ (repeat : Repeat) (own : AreUnsaved repeat.body) where
  pub turns-unsaved : (left turn : ℕ) (entering : List ℕ) (start : ℕ)
      → AreUnsaved (nodes_left repeat left turn entering start)
  turns-unsaved zero turn entering start = tt
  turns-unsaved (suc left) turn entering start =
      let given = turn_gives repeat entering start in
      let next = start + length repeat.body in
      both-unsaved (turn_nodes repeat entering start turn)
      (nodes_left repeat left (suc turn) given next)
      (copies-unsaved turn (turn_to repeat entering start) repeat.body own)
      (turns-unsaved left (suc turn) given next)
