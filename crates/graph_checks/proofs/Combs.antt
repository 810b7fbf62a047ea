-- The test of two combiners says whether they are the same.
use Rattle.std.proofs.Common.{◌≡◌, true, refl, ap}
use Rattle.std.proofs.lemmas.Bool.{eqb-true, eq-eqb}
use Rattle.combine_table.specs.declared.comb.Comb.{Comb}
use Rattle.combine_table.specs.declared.comb.Comb.TheVariants as by
use Rattle.combine_table.specs.contracts.comb.CombPartialEq.TheImpl as combs

pub comb_from : (a b : Comb) → (combs.ghosts).eq a b ≡ true → a ≡ b
comb_from by.Sum by.Sum e = refl
comb_from by.Count by.Count e = refl
comb_from by.Min by.Min e = refl
comb_from by.Max by.Max e = refl
comb_from by.All by.All e = refl
comb_from by.Any by.Any e = refl
comb_from (by.Top m) (by.Top n) e = ap by.Top (eqb-true m n e)
comb_from by.Mean by.Mean e = refl
comb_from by.Distinct by.Distinct e = refl
comb_from _ _ e = cc

pub comb_to : (a : Comb) → (combs.ghosts).eq a a ≡ true
comb_to by.Sum = refl
comb_to by.Count = refl
comb_to by.Min = refl
comb_to by.Max = refl
comb_to by.All = refl
comb_to by.Any = refl
comb_to (by.Top n) = eq-eqb n n refl
comb_to by.Mean = refl
comb_to by.Distinct = refl
