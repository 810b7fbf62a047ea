-- What map tasks give the channels of their stage, and what is gathered of it.
use Rattle.std.specs.Prelude.{◌≡◌, ℕ, List, [], ◌∷◌, ◌++◌, Option, Some, None, option_and_then, option_map, slice_get}
use Rattle.std.specs.List.{AllZip}
use Rattle.flume_value.specs.declared.value.Value.{Value}
use Rattle.bag_groups.specs.Pairs.{pairs_of}
use Rattle.combine_table.specs.declared.comb.Comb.{Comb}
use Rattle.partial_tables.specs.Tables.{Pairs}
use Rattle.partial_tables.specs.Merges.{StandFor}
use Rattle.shuffle_parts.specs.declared.out.Sent.{Sent}
use Rattle.shuffle_parts.specs.declared.out.Sent.TheVariants.{Passed, Grouped, Combined}
use Rattle.shuffle_parts.specs.declared.out.MapOut.{MapOut}
use Rattle.shuffle_parts.specs.Partitions.{in_parts}

-- what the out has for the channel r
abbrev pub sent_at : ℕ → MapOut → Option Sent
sent_at r out = slice_get out.sent r

-- the values of what a channel was given through which values pass
abbrev pub passed_in : Sent → Option (List Value)
passed_in (Passed values) = Some values
passed_in _ = None

-- the pairs in partition p of what a channel that groups was given, where it has that partition
abbrev pub pairs_in : ℕ → Sent → Option (List Value)
pairs_in p (Grouped parts) = slice_get parts p
pairs_in p _ = None

-- the accumulators in partition p of what a channel that combines was given, where it has it
abbrev pub partials_in : ℕ → Sent → Option Pairs
partials_in p (Combined parts) = slice_get parts p
partials_in p _ = None

-- those that the out has for the channel r
abbrev pub passed_at : ℕ → MapOut → Option (List Value)
passed_at r out = option_and_then passed_in (sent_at r out)

abbrev pub pairs_at : ℕ → ℕ → MapOut → Option (List Value)
pairs_at r p out = option_and_then (pairs_in p) (sent_at r out)

abbrev pub partials_at : ℕ → ℕ → MapOut → Option Pairs
partials_at r p out = option_and_then (partials_in p) (sent_at r out)

-- ---- of all outs, in order of tasks

-- what f finds in each, one after another, where it finds something in each
abbrev pub all_found : {X Y : Type 0} → (X → Option (List Y)) → List X → Option (List Y)
all_found f [] = Some []
all_found f (x ∷ xs) =
    option_and_then (λ here. option_map (λ rest. here ++ rest) (all_found f xs)) (f x)

abbrev pub all_passed : List MapOut → ℕ → Option (List Value)
all_passed outs r = all_found (passed_at r) outs

abbrev pub all_pairs : List MapOut → ℕ → ℕ → Option (List Value)
all_pairs outs r p = all_found (pairs_at r p) outs

abbrev pub all_partials : List MapOut → ℕ → ℕ → Option Pairs
all_partials outs r p = all_found (partials_at r p) outs

-- ---- what is right to give

-- the pairs, by the partition of their keys
abbrev pub ArePairsOf : ℕ → Option Sent → List Value → Type 0
ArePairsOf n (Some (Grouped parts)) pairs = parts ≡ in_parts n pairs
ArePairsOf n _ pairs = ⊥

-- for each partition accumulators that stand for its pairs
abbrev pub ArePartialsOf : Comb → ℕ → Option Sent → List Value → Type 0
ArePartialsOf c n (Some (Combined parts)) pairs =
    AllZip (λ partials part. StandFor c partials (pairs_of part)) parts (in_parts n pairs)
ArePartialsOf c n _ pairs = ⊥
