-- A join is what its five nodes give.
use Rattle.std.proofs.Common.{◌≡◌, ℕ, Bool, true, false, cond, List, [], ◌∷◌, ◌++◌, Option, Some, None, refl, ap, ◌∙◌, append-nil}
use Rattle.std.specs.List.{flat_map}
use Rattle.std.specs.Option.{option_map, option_to_list}
use Rattle.bag_groups.specs.Combining.{group_of}
use Rattle.bag_groups.specs.Pairs.{pair, parts_of}
use Rattle.bag_groups.specs.Groups.{grouped}
use Rattle.bag_groups.proofs.Grouping.{grouped-bag_of}
use Rattle.bag_step_laws.specs.Derived.{lefts, marked_pairs, marked_left, marked_right, rights, split_sides as split_of}
use Rattle.bag_step_laws.proofs.Sides.{split-marked}
use Rattle.bag_steps.specs.Joins.{joined, sides}
use Rattle.bag_steps.proofs.RowOrder.{joined-IsSorted}
use Rattle.flume_value.proofs.BagLemmas.{bag_of-settled, bag_of-sum}
use Rattle.flume_collection.specs.Sets.{put_new}
use Rattle.flume_collection.proofs.Members.{set_sum}
use Rattle.flume_collection.proofs.Orders.{trap_order}
use Rattle.flume_value.specs.Bag.{bag_of}
use Rattle.flume_value.specs.declared.value.Value.{Value}
use Rattle.flume_value.specs.declared.value.Value.TheVariants as value
use Rattle.flume_collection.specs.declared.trap.Trap.{Trap}
use Rattle.flume_collection.specs.Collection.{Collection, by_key, together, unless_trapped}
use Rattle.flume_collection.specs.Traps.{trap_le, trap_set}
use Rattle.flume_collection.proofs.Together.{same_collection}
use Rattle.exec_graph.specs.Derived.{left_tagged, right_tagged, split, with_sides, with_value}
use Rattle.exec_graph.specs.Meaning.{through}
use Rattle.exec_graph.specs.World.{World}
use Rattle.exec_graph.specs.declared.step.Does.TheVariants as does
use Rattle.exec_graph.proofs.StepFacts.{called_is}
use Rattle.direct_meaning.specs.Direct.{joined_collections}
use Rattle.build_law.proofs.Passing.{only_label, through_given}

with_marked : (f : Value → Value) (o : Option (Value × Value))
    → with_value f o ≡ option_to_list (option_map (λ it. pair it.0 (f it.1)) o)
with_marked f None = refl
with_marked f (Some parts) = refl

left_marked : left_tagged ≡ marked_left
left_marked = λ i x. with_marked value.Left (parts_of x) i

right_marked : right_tagged ≡ marked_right
right_marked = λ i x. with_marked value.Right (parts_of x) i

split_sides : (o : Option (Value × List Value))
    → with_sides o
    ≡ option_to_list
    (option_map (λ group. pair group.0 (sides (lefts group.1) (rights group.1))) o)
split_sides None = refl
split_sides (Some group) = refl

split_same : split ≡ split_of
split_same = λ i x. split_sides (group_of x) i

-- the members of both sides, told apart
abbrev pub both_tagged : List Value → List Value → List Value
both_tagged left right =
    bag_of (bag_of (flat_map left_tagged left) ++ (bag_of (flat_map right_tagged right) ++ []))

tagged_grouped : (left right : List Value)
    → grouped (both_tagged left right) ≡ grouped (marked_pairs left right)
tagged_grouped left right =
    ap (λ ys. grouped (bag_of (bag_of (flat_map left_tagged left) ++ ys)))
    (append-nil (bag_of (flat_map right_tagged right)))
    ∙ ap grouped (bag_of-sum (flat_map left_tagged left) (flat_map right_tagged right))
    ∙ grouped-bag_of (flat_map left_tagged left ++ flat_map right_tagged right)
    ∙ (λ i. grouped (flat_map (left_marked i) left ++ flat_map (right_marked i) right))

split_joined : (left right : List Value)
    → bag_of (flat_map split (grouped (both_tagged left right))) ≡ joined left right
split_joined left right =
    ap bag_of
    ((λ i. flat_map (split_same i) (tagged_grouped left right i)) ∙ split-marked left right)
    ∙ bag_of-settled (joined left right) (joined-IsSorted left right)

-- ---- where a trap is behind a side

with_put : (t u : Trap) (us vs : List Trap) (b : List Value) (p q : Bool)
    → unless_trapped (cond p (cond q (u ∷ us) (t ∷ (u ∷ us))) (u ∷ vs)) b ≡ []
with_put t u us vs b true true = refl
with_put t u us vs b true false = refl
with_put t u us vs b false q = refl

unless_put : (t : Trap) (us : List Trap) (b : List Value)
    → unless_trapped (put_new trap_le t us) b ≡ []
unless_put t [] b = refl
unless_put t (u ∷ us) b =
    with_put t u us (put_new trap_le t us) b (trap_le t u) (trap_le u t)

unless_set : (ts : List Trap) (b : List Value)
    → unless_trapped (trap_set ts) b ≡ unless_trapped ts b
unless_set [] b = refl
unless_set (t ∷ ts) b = unless_put t (trap_set ts) b

split_unless : (ts : List Trap) (groups rows : List Value)
    → bag_of (flat_map split groups) ≡ rows
    → bag_of (flat_map split (unless_trapped ts groups)) ≡ unless_trapped ts rows
split_unless [] groups rows h = h
split_unless (t ∷ ts) groups rows h = refl

-- both sides, each under its traps
abbrev pub sides_together : Collection → Collection → Collection
sides_together a b =
    together
    (record { bag = bag_of (flat_map left_tagged a.bag); traps = trap_set a.traps }
    ∷ record { bag = bag_of (flat_map right_tagged b.bag); traps = trap_set b.traps } ∷ [])

traps_together : (xs ys : List Trap) → trap_set xs ≡ xs → trap_set ys ≡ ys
    → trap_set (trap_set xs ++ (trap_set ys ++ [])) ≡ trap_set (xs ++ ys)
traps_together xs ys h k =
    (λ i. trap_set (h i ++ (k i ++ []))) ∙ ap (λ zs. trap_set (xs ++ zs)) (append-nil ys)

pub join_is : (w : World) (n : ℕ) (a b : Collection)
    → trap_set a.traps ≡ a.traps → trap_set b.traps ≡ b.traps
    → through w (only_label n true does.Split)
    (by_key
    (together
    (through w (only_label n false does.TagLeft) a
    ∷ through w (only_label n false does.TagRight) b ∷ [])))
    ≡ joined_collections a b
join_is w n a b h k =
    ap (λ c. through w (only_label n true does.Split) (by_key c))
    (λ i. together
    (through_given w n false does.TagLeft left_tagged (called_is does.TagLeft w) a i
    ∷ through_given w n false does.TagRight right_tagged (called_is does.TagRight w) b i ∷ []))
    ∙ through_given w n true does.Split split (called_is does.Split w) (by_key (sides_together a b))
    ∙ same_collection _ _ _ _
    (ap (λ c. bag_of (flat_map split c))
    (ap (λ ts. unless_trapped ts (grouped (both_tagged a.bag b.bag)))
    (traps_together a.traps b.traps h k)
    ∙ unless_set (a.traps ++ b.traps) (grouped (both_tagged a.bag b.bag)))
    ∙ split_unless (a.traps ++ b.traps) (grouped (both_tagged a.bag b.bag))
    (joined a.bag b.bag) (split_joined a.bag b.bag))
    (ap trap_set (traps_together a.traps b.traps h k)
    ∙ set_sum trap_le trap_order [] (a.traps ++ b.traps))
