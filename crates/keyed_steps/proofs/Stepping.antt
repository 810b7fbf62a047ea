-- How pairs of a key and a list are combined one after the other.
use Rattle.std.proofs.Common.{◌≡◌, ◌<◌, ◌≤◌, ◌+◌, ℕ, zero, suc, List, [], ◌∷◌, ◌++◌, get_or, take, length, map, refl, sym, ap, ◌∙◌, subst, arith}
use Rattle.std.specs.List.{flat_map}
use Rattle.std.proofs.lemmas.List.Elements.{All-from_recursion}
use Rattle.std.proofs.lemmas.List.Sorted.{All-permutation, IsPermutation-sym}
use Rattle.std.proofs.lemmas.List.{map-append, take_all, take_more}
use Rattle.flume_value.specs.declared.fault.Kind.{Kind}
use Rattle.flume_value.specs.declared.value.Value.{Value}
use Rattle.flume_value.specs.Bag.{bag_of}
use Rattle.flume_value.proofs.BagLemmas.{Each-bag_of, IsPermutation-bag_of, bag_of-sum}
use Rattle.flume_value.proofs.EachLemmas.{each_from}
use Rattle.flume_types.specs.declared.types.Ty.{Ty}
use Rattle.flume_types.specs.declared.types.Ty.TheVariants as ty
use Rattle.flume_types.specs.Tables.{table_of}
use Rattle.flume_types.specs.Typing.{AllHave, Has}
use Rattle.bag_groups.specs.Pairs.{key_of}
use Rattle.bag_groups.specs.Combining.{combined_each, groups_in, traps_of_each}
use Rattle.bag_groups.proofs.CombiningLemmas.{combined_each-append, given, one_given, traps_of_each-append}
use Rattle.combine_table.specs.declared.comb.Comb.{Comb}
use Rattle.combine_table.specs.Combinations.{combined}
use Rattle.keyed_steps.specs.declared.fault.KeyFault.{KeyFault}
use Rattle.keyed_steps.specs.declared.fault.KeyFault.TheVariants.{Trap, Memory}
use Rattle.keyed_steps.specs.Keyed.{IsFirst}
use Rattle.keyed_steps.specs.Types.{gives_type}
use Rattle.keyed_steps.proofs.TypedFacts.{combined_pairs_have}

abbrev pub pairs_at : Comb → List Value → List Value
pairs_at comb gs = combined_each (combined comb) gs

abbrev pub traps_at : Comb → List Value → List (Kind × Value)
traps_at comb gs = traps_of_each (combined comb) gs

-- none of the groups traps, and they come to the values
pub record ComeTo (comb : Comb) (gs vs : List Value) : Type 0 where
  pub pairs : pairs_at comb gs ≡ bag_of vs
  pub traps : traps_at comb gs ≡ []
  pub keys : map key_of vs ≡ map key_of gs

come_more : (comb : Comb) (gs vs : List Value) (g v : Value) → ComeTo comb gs vs
    → pairs_at comb (g ∷ []) ≡ v ∷ [] → ComeTo comb (gs ++ g ∷ []) (vs ++ v ∷ [])
come_more comb gs vs g v c e =
    let one = one_given (combined comb) g v e in
    record {
      pairs = combined_each-append (combined comb) gs (g ∷ [])
          ∙ (λ i. bag_of (c.pairs i ++ e i)) ∙ bag_of-sum vs (v ∷ []);
      traps = traps_of_each-append (combined comb) gs (g ∷ []) ∙ (λ i. c.traps i ++ one.1 i);
      keys = map-append key_of vs (v ∷ []) ∙ (λ i. c.keys i ++ one.0 i ∷ [])
          ∙ sym (map-append key_of gs (g ∷ []));
    }

-- the loop's step
pub come_further : (comb : Comb) (gs vs grown : List Value) (i : ℕ) (g v : Value) → i < length gs
    → g ≡ get_or gs i g → ComeTo comb (take i gs) vs → pairs_at comb (g ∷ []) ≡ v ∷ []
    → grown ≡ vs ++ v ∷ [] → ComeTo comb (take (i + 1) gs) grown
come_further comb gs vs grown i g v within at c e is =
    let more : take (i + 1) gs ≡ take i gs ++ g ∷ []
    = take_more gs i g within ∙ ap (λ x. take i gs ++ x ∷ []) (sym at) in
    subst (λ l. ComeTo comb l grown) (sym more)
    (subst (ComeTo comb (take i gs ++ g ∷ [])) (sym is) (come_more comb (take i gs) vs g v c e))

pub come_all : (comb : Comb) (gs vs : List Value) (i : ℕ) → length gs ≤ i
    → ComeTo comb (take i gs) vs → ComeTo comb gs vs
come_all comb gs vs i end c = subst (λ l. ComeTo comb l vs) (take_all i gs end) c

-- ---- the first trap

first_ahead : (xs ys : List (Kind × Value)) (fault : KeyFault) → IsFirst xs fault
    → IsFirst (xs ++ ys) fault
first_ahead xs ys Memory h = tt
first_ahead [] ys (Trap kind key) h = cc
first_ahead (x ∷ xs) ys (Trap kind key) h = h

none_left : (xs ys : List (Kind × Value)) → xs ++ ys ≡ [] → (xs ≡ []) × (ys ≡ [])
none_left [] ys e = (refl, e)
none_left (x ∷ xs) ys e = cc

trap_ahead : (comb : Comb) (gs : List Value) (i : ℕ) (d : Value) (fault : KeyFault)
    → i < length gs → traps_at comb (take i gs) ≡ []
    → IsFirst (traps_at comb (get_or gs i d ∷ [])) fault → IsFirst (traps_at comb gs) fault
trap_ahead comb [] i d fault within none h = absurd (omega arith)
trap_ahead comb (g ∷ gs) zero d fault within none h =
    subst (λ l. IsFirst l fault) (sym (traps_of_each-append (combined comb) (g ∷ []) gs))
    (first_ahead (traps_at comb (g ∷ [])) (traps_at comb gs) fault h)
trap_ahead comb (g ∷ gs) (suc i) d fault within none h =
    let left = none_left (traps_at comb (g ∷ [])) (traps_at comb (take i gs))
    (sym (traps_of_each-append (combined comb) (g ∷ []) (take i gs)) ∙ none) in
    subst (λ l. IsFirst l fault)
    (sym (traps_of_each-append (combined comb) (g ∷ []) gs
    ∙ ap (λ l. l ++ traps_at comb gs) left.0))
    (trap_ahead comb gs i d fault (omega arith) left.1 h)

pub first_trap : (comb : Comb) (gs vs : List Value) (i : ℕ) (g : Value) (fault : KeyFault)
    → i < length gs → g ≡ get_or gs i g → ComeTo comb (take i gs) vs
    → IsFirst (traps_at comb (g ∷ [])) fault → IsFirst (traps_at comb gs) fault
first_trap comb gs vs i g fault within at c h =
    trap_ahead comb gs i g fault within c.traps
    (subst (λ x. IsFirst (traps_at comb (x ∷ [])) fault) at h)

-- ---- the types

pub come_typed : (comb : Comb) (gs vs : List Value) → ComeTo comb gs vs → (key value : Ty)
    → AllHave (table_of key (ty.List value)) gs → AllHave (table_of key (gives_type comb value)) vs
come_typed comb gs vs c key value all =
    let P = Has (table_of key (gives_type comb value)) in
    let made = flat_map (given (combined comb)) (groups_in gs) in
    All-permutation P (bag_of vs) vs (IsPermutation-sym vs (bag_of vs) (IsPermutation-bag_of vs))
    (subst (AllHave (table_of key (gives_type comb value))) c.pairs
    (All-from_recursion P (bag_of made) (Each-bag_of P made
    (combined_pairs_have comb key value gs
    (each_from (Has (table_of key (ty.List value))) gs all)))))
