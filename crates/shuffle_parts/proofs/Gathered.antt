-- What is gathered of outs that have what is right.
use Rattle.std.proofs.Common.{◌≡◌, ◌<◌, ◌+◌, ℕ, Option, Some, None, List, [], ◌∷◌, ◌++◌, refl, sym, ap, ◌∙◌, subst, arith}
use Rattle.std.specs.Prelude.{IsSomeAnd, option_and_then, slice_get}
use Rattle.std.specs.List.{AllZip, flat_map}
use Rattle.std.proofs.lemmas.List.Elements.{filter-append, filter_map-append}
use Rattle.flume_value.specs.declared.value.Value.{Value}
use Rattle.bag_groups.specs.Pairs.{parts_of, pairs_of}
use Rattle.combine_table.specs.declared.comb.Comb.{Comb}
use Rattle.partial_tables.specs.Merges.{StandFor}
use Rattle.partial_tables.proofs.Standing.{stands_none, stands_both}
use Rattle.shuffle_parts.specs.declared.out.Sent.{Sent}
use Rattle.shuffle_parts.specs.declared.out.Sent.TheVariants.{Passed, Grouped, Combined}
use Rattle.shuffle_parts.specs.declared.out.MapOut.{MapOut}
use Rattle.shuffle_parts.specs.Partitions.{falls_in, pairs_in_part}
use Rattle.shuffle_parts.specs.Outs.{sent_at, pairs_at, pairs_in, partials_at, partials_in, all_pairs, all_partials, ArePairsOf, ArePartialsOf}
use Rattle.partial_tables.specs.Tables.{Pairs}
use Rattle.shuffle_parts.proofs.Finding.{found_both}
use Rattle.shuffle_parts.proofs.Ranged.{get_ranged, zip_at}
use Rattle.shuffle_parts.proofs.Parting.{Stands}

pairs_found : (n p : ℕ) (o : Option Sent) (pairs : List Value) → p < n → ArePairsOf n o pairs
    → option_and_then (pairs_in p) o ≡ Some (pairs_in_part n p pairs)
pairs_found n p None pairs l h = absurd h
pairs_found n p (Some (Passed values)) pairs l h = absurd h
pairs_found n p (Some (Combined parts)) pairs l h = absurd h
pairs_found n p (Some (Grouped parts)) pairs l h =
    let here : 0 + p ≡ p = omega arith in
    ap (λ ps. slice_get ps p) h
    ∙ get_ranged (λ q. pairs_in_part n q pairs) 0 n p l
    ∙ ap (λ q. Some (pairs_in_part n q pairs)) here

pub all_pairs-are : (n r p : ℕ) (outs : List MapOut) (given : List (List Value)) → p < n
    → AllZip (λ out pairs. ArePairsOf n (sent_at r out) pairs) outs given
    → all_pairs outs r p ≡ Some (pairs_in_part n p (flat_map (λ pairs. pairs) given))
all_pairs-are n r p [] [] l h = refl
all_pairs-are n r p [] (pairs ∷ given) l h = absurd h
all_pairs-are n r p (out ∷ outs) [] l h = absurd h
all_pairs-are n r p (out ∷ outs) (pairs ∷ given) l h =
    let rest = flat_map (λ (l : List Value). l) given in
    found_both (pairs_at r p) out outs (pairs_in_part n p pairs) (pairs_in_part n p rest)
    (pairs_found n p (sent_at r out) pairs l h.0) (all_pairs-are n r p outs given l h.1)
    ∙ ap Some (sym (filter-append (falls_in n p) pairs rest))

partials_found : (c : Comb) (n p : ℕ) (o : Option Sent) (pairs : List Value) → p < n
    → ArePartialsOf c n o pairs
    → (partials : Pairs) × (option_and_then (partials_in p) o ≡ Some partials)
    × StandFor c partials (pairs_of (pairs_in_part n p pairs))
partials_found c n p None pairs l h = absurd h
partials_found c n p (Some (Passed values)) pairs l h = absurd h
partials_found c n p (Some (Grouped parts)) pairs l h = absurd h
partials_found c n p (Some (Combined parts)) pairs l h =
    let here : 0 + p ≡ p = omega arith in
    let at = zip_at (Stands c) parts (λ q. pairs_in_part n q pairs) 0 n p h l in
    (at.0, at.1, subst (λ q. StandFor c at.0 (pairs_of (pairs_in_part n q pairs))) here at.2)

all_partials-found : (c : Comb) (n r p : ℕ) (outs : List MapOut)
    (given : List (List Value)) → p < n
    → AllZip (λ out pairs. ArePartialsOf c n (sent_at r out) pairs) outs given
    → (partials : Pairs) × (all_partials outs r p ≡ Some partials)
    × StandFor c partials (pairs_of (pairs_in_part n p (flat_map (λ pairs. pairs) given)))
all_partials-found c n r p [] [] l h = ([], refl, stands_none c)
all_partials-found c n r p [] (pairs ∷ given) l h = absurd h
all_partials-found c n r p (out ∷ outs) [] l h = absurd h
all_partials-found c n r p (out ∷ outs) (pairs ∷ given) l h =
    let rest = flat_map (λ (l : List Value). l) given in
    let both = ap pairs_of (filter-append (falls_in n p) pairs rest)
    ∙ filter_map-append parts_of (pairs_in_part n p pairs) (pairs_in_part n p rest) in
    let one = partials_found c n p (sent_at r out) pairs l h.0 in
    let more = all_partials-found c n r p outs given l h.1 in (
      one.0 ++ more.0,
      found_both (partials_at r p) out outs one.0 more.0 one.1 more.1,
      subst (StandFor c (one.0 ++ more.0)) (sym both)
          (stands_both c one.0 (pairs_of (pairs_in_part n p pairs)) more.0
          (pairs_of (pairs_in_part n p rest)) one.2 more.2),
    )

pub all_partials-stand : (c : Comb) (n r p : ℕ) (outs : List MapOut)
    (given : List (List Value)) → p < n
    → AllZip (λ out pairs. ArePartialsOf c n (sent_at r out) pairs) outs given
    → IsSomeAnd (all_partials outs r p)
    (λ partials. StandFor c partials (pairs_of (pairs_in_part n p
    (flat_map (λ pairs. pairs) given))))
all_partials-stand c n r p outs given l h =
    let it = all_partials-found c n r p outs given l h in
    subst (λ o. IsSomeAnd o
    (λ partials. StandFor c partials (pairs_of (pairs_in_part n p
    (flat_map (λ pairs. pairs) given)))))
    (sym it.1) it.2
