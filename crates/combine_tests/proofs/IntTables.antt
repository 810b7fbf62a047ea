-- Tables of ints, and keys without values.
use Rattle.std.proofs.Common.{◌≡◌, ℤ, List, [], ap, sym, subst, ◌∙◌}
use Rattle.flume_value.specs.declared.value.Value.{Value}
use Rattle.flume_value.specs.declared.value.Value.TheVariants as variant
use Rattle.flume_types.specs.declared.types.Ty.TheVariants as ty
use Rattle.flume_types.specs.Tables.{table_of}
use Rattle.flume_types.specs.Typing.{Has}
use Rattle.flume_types.proofs.PartLemmas.{has_int, has_list}
use Rattle.bag_groups.specs.Pairs.{pair}
use Rattle.combine_table.specs.declared.comb.Comb.{Comb}
use Rattle.keyed_steps.specs.Keyed.{IsGroup}
use Rattle.keyed_steps.specs.Types.{TakesType}
use Rattle.keyed_steps.proofs.TypedFacts.{Has-pair, group_suits}

pub ints_have : (m n : ℤ) (p : Value) → p ≡ pair (variant.Int m) (variant.Int n)
    → Has (table_of ty.Int ty.Int) p
ints_have m n p e =
    subst (Has (table_of ty.Int ty.Int)) (sym e)
    (Has-pair ty.Int ty.Int (variant.Int m) (variant.Int n) (has_int m) (has_int n))

-- a key without values
pub none_suits : (comb : Comb) (n : ℤ) (vs : List Value) (g : Value) → TakesType comb ty.Int
    → vs ≡ [] → g ≡ pair (variant.Int n) (variant.List vs) → IsGroup comb g
none_suits comb n vs g takes none e =
    group_suits comb ty.Int ty.Int takes g
    (subst (Has (table_of ty.Int (ty.List ty.Int)))
    (sym (e ∙ ap (λ l. pair (variant.Int n) (variant.List l)) none))
    (Has-pair ty.Int (ty.List ty.Int) (variant.Int n) (variant.List []) (has_int n)
    (has_list ty.Int [] tt)))
