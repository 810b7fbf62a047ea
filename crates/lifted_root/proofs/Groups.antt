-- The groups of pairs, and the accumulators that stand for the pairs, merged by key.
use Rattle.std.proofs.Common.{◌≡◌, suc, List, [], ◌∷◌, length, map, refl, sym, ap, ◌∙◌}
use Rattle.std.specs.Prelude.{Ok}
use Rattle.flume_value.specs.declared.value.Value.{Value}
use Rattle.bag_groups.specs.Groups.{grouped}
use Rattle.bag_groups.specs.Pairs.{pairs_of}
use Rattle.combine_table.specs.declared.comb.Comb.{Comb}
use Rattle.partial_tables.specs.Merges.{StandFor, finished_each, merged_by_key}
use Rattle.partial_tables.proofs.Merged.{merged-accumulated}
use Rattle.partial_tables.proofs.Finishing.{finished-accumulated}
use Rattle.exec_graph.specs.Calls.{called}
use Rattle.exec_graph.specs.declared.step.Does.TheVariants as does
use Rattle.exec_graph.specs.World.{World}
use Rattle.task_lists.specs.Outs.{answers_of}
use Rattle.task_lists.proofs.Answered.{groups_answered}
use Rattle.lifted_root.specs.Lifted.{partial_answer}

map_twice : (c : Comb) (ps : List (Value × Value))
    → map (partial_answer c) ps ≡ answers_of (finished_each c ps)
map_twice c [] = refl
map_twice c (p ∷ ps) = ap (λ l. partial_answer c p ∷ l) (map_twice c ps)

-- what the root answers of the keys is what it answers of their groups
pub merged_answers : (w : World) (c : Comb) (partials : List (Value × Value)) (pairs : List Value)
    → StandFor c partials (pairs_of pairs)
    → map (partial_answer c) (merged_by_key c partials)
    ≡ map (called w (does.Combine c)) (grouped pairs)
merged_answers w c partials pairs stands =
    map_twice c (merged_by_key c partials)
    ∙ ap (λ l. answers_of (finished_each c l))
    (merged-accumulated c partials (pairs_of pairs) stands)
    ∙ ap answers_of (finished-accumulated c pairs)
    ∙ groups_answered w c pairs

map-length : {X Y : Type 0} (f : X → Y) (xs : List X) → length (map f xs) ≡ length xs
map-length f [] = refl
map-length f (x ∷ xs) = ap (λ n. suc n) (map-length f xs)

pub same_length : {X Y Z : Type 0} (f : X → Z) (g : Y → Z) (xs : List X) (ys : List Y)
    → map f xs ≡ map g ys → length xs ≡ length ys
same_length f g xs ys e = sym (map-length f xs) ∙ ap length e ∙ map-length g ys

-- any world: what a combination answers is the same in all
abbrev pub any_world : World
any_world = record { rows = λ r. []; called = λ f x. Ok [] }
