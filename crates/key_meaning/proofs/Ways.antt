-- What is made of collections that are alike is alike, way by way.
use Rattle.std.proofs.Common.{◌≡◌, ℕ, pos, List, [], ◌∷◌, ◌++◌, map, Option, Some, None, Result, Ok, Err, option_and_then, refl, ap, ◌∙◌, subst}
use Rattle.std.specs.Prelude.{⊤}
use Rattle.std.specs.List.{AllZip, flat_map}
use Rattle.std.specs.Option.{option_map}
use Rattle.bag_groups.specs.Combining.{combined_each, traps_of_each}
use Rattle.bag_groups.specs.Groups.{grouped}
use Rattle.bag_steps.specs.Counts.{counted, counted_traps}
use Rattle.bag_steps.specs.Joins.{joined}
use Rattle.combine_table.specs.Combinations.{combined, greatest}
use Rattle.combine_table.specs.declared.comb.Comb.{Comb}
use Rattle.flume_value.specs.Bag.{bag_of}
use Rattle.flume_value.specs.declared.fault.Kind.{Kind}
use Rattle.flume_value.specs.declared.fault.Kind.TheVariants as kind
use Rattle.flume_value.specs.declared.value.Value.{Value}
use Rattle.flume_value.specs.declared.value.Value.TheVariants as value
use Rattle.flume_collection.proofs.Members.{at_head, not_in_none}
use Rattle.flume_collection.specs.Calls.{Called, emissions, trap_named, trap_of}
use Rattle.flume_collection.specs.Collection.{Collection, by_key, together}
use Rattle.flume_collection.specs.Traps.{trap_set}
use Rattle.flume_collection.specs.declared.trap.Trap.{Trap}
use Rattle.script_program.specs.Script.{Function}
use Rattle.direct_meaning.specs.Calls.{answer_of, called_by, answers_on}
use Rattle.direct_meaning.specs.Direct.{combined_by, counts_behind, done_by, joined_collections, top_by}
use Rattle.direct_meaning.specs.Objects.{answer_beside, answered_once, argument_of, called_once, done_beside, done_on, naming, nothing_behind, object_as, emission_on, only, operated_by, operated_on, value_of, object_values, whole_behind}
use Rattle.key_meaning.proofs.Alike.{Paired, Pairs, SameFunction}
use Rattle.key_meaning.proofs.Calls.{same_answer}
use Rattle.key_meaning.proofs.Traps.{TrapsAlike, append_alike, flat_alike, map_alike, no_traps, one_alike, set_alike, unless_alike}

abbrev pub Table : Type 0
Table = List (Option Collection)

-- answers that are the same, called on each
calls_same : (f g : Value → Option Called) → ((x : Value) → f x ≡ g x) → (bag : List Value)
    → answers_on f bag ≡ answers_on g bag
calls_same f g same [] = refl
calls_same f g same (x ∷ bag) =
    λ i. option_and_then
    (λ called. option_map (λ calls. called ∷ calls) (calls_same f g same bag i))
    (same x i)

-- neither is there, or both are, and are related
abbrev pub NoneOrBoth : {A : Type 0} → (A → A → Type 0) → Option A → Option A → Type 0
NoneOrBoth R None None = ⊤
NoneOrBoth R None (Some y) = ⊥
NoneOrBoth R (Some x) None = ⊥
NoneOrBoth R (Some x) (Some y) = R x y

-- what is so of none, and of two that are related
pub none_or_both : {A : Type 0} (R : A → A → Type 0) (P : Option A → Option A → Type 0)
    → P None None → ((x y : A) → R x y → P (Some x) (Some y)) → (o p : Option A)
    → NoneOrBoth R o p → P o p
none_or_both R P none both None None related = none
none_or_both R P none both None (Some y) related = absurd related
none_or_both R P none both (Some x) None related = absurd related
none_or_both R P none both (Some x) (Some y) related = both x y related

module _ (pairs : Pairs) where
  -- the same members, and traps that are the same by pairs
  pub record CollectionAlike (c d : Collection) : Type 0 where
    pub bag : c.bag ≡ d.bag
    pub traps : TrapsAlike pairs c.traps d.traps

  abbrev pub OptionAlike : Option Collection → Option Collection → Type 0
  OptionAlike = NoneOrBoth CollectionAlike

  abbrev pub ListsAlike : Option (List Collection) → Option (List Collection) → Type 0
  ListsAlike = NoneOrBoth (AllZip CollectionAlike)

  -- what is made of one collection
  pub by_one : (f g : Collection → Collection)
      → ((c d : Collection) → CollectionAlike c d → CollectionAlike (f c) (g d))
      → (o p : Option Collection) → OptionAlike o p
      → OptionAlike (option_map f o) (option_map g p)
  by_one f g =
      none_or_both CollectionAlike (λ o p. OptionAlike (option_map f o) (option_map g p)) tt

  pub if_any : (f g : Collection → Option Collection)
      → ((c d : Collection) → CollectionAlike c d → OptionAlike (f c) (g d))
      → (o p : Option Collection) → OptionAlike o p
      → OptionAlike (option_and_then f o) (option_and_then g p)
  if_any f g =
      none_or_both CollectionAlike
      (λ o p. OptionAlike (option_and_then f o) (option_and_then g p)) tt

  -- ---- one equation for each way

  pub key_alike : (c d : Collection) → CollectionAlike c d → CollectionAlike (by_key c) (by_key d)
  key_alike c d alike = record {
    bag =
        unless_alike pairs c.traps d.traps alike.traps (grouped c.bag) (grouped d.bag)
        (ap grouped alike.bag);
    traps = alike.traps;
  }

  pub top_alike : (many : ℕ) (c d : Collection) → CollectionAlike c d
      → CollectionAlike (top_by many c) (top_by many d)
  top_alike many c d alike = record {
    bag =
        unless_alike pairs c.traps d.traps alike.traps (greatest many c.bag) (greatest many d.bag)
        (ap (greatest many) alike.bag);
    traps = alike.traps;
  }

  pub joined_alike : (a b c d : Collection) → CollectionAlike a b → CollectionAlike c d
      → CollectionAlike (joined_collections a c) (joined_collections b d)
  joined_alike a b c d first second =
      let both = append_alike pairs a.traps b.traps c.traps d.traps first.traps second.traps in
      record {
        bag =
            unless_alike pairs (a.traps ++ c.traps) (b.traps ++ d.traps) both
            (joined a.bag c.bag) (joined b.bag d.bag)
            (λ i. joined (first.bag i) (second.bag i));
        traps = set_alike pairs (a.traps ++ c.traps) (b.traps ++ d.traps) both;
      }

  all_traps : (cs ds : List Collection) → AllZip CollectionAlike cs ds
      → TrapsAlike pairs (flat_map (λ (c : Collection). c.traps) cs)
      (flat_map (λ (c : Collection). c.traps) ds)
  all_traps [] [] zipped = no_traps pairs
  all_traps [] (d ∷ ds) zipped = absurd zipped
  all_traps (c ∷ cs) [] zipped = absurd zipped
  all_traps (c ∷ cs) (d ∷ ds) zipped =
      append_alike pairs c.traps d.traps (flat_map (λ (x : Collection). x.traps) cs)
      (flat_map (λ (x : Collection). x.traps) ds) zipped.0.traps (all_traps cs ds zipped.1)

  module _ (a b : ℕ) (first : Paired pairs a b) where
    pub combined_alike : (by : Comb) (c d : Collection) → CollectionAlike c d
        → CollectionAlike (combined_by a by c) (combined_by b by d)
    combined_alike by c d alike =
        let own = traps_of_each (combined by) c.bag in
        let own_ = traps_of_each (combined by) d.bag in
        let same : own ≡ own_ = ap (traps_of_each (combined by)) alike.bag in
        record {
          bag = ap (combined_each (combined by)) alike.bag;
          traps =
              set_alike pairs (c.traps ++ map (trap_named a) own)
              (d.traps ++ map (trap_named b) own_)
              (append_alike pairs c.traps d.traps (map (trap_named a) own) (map (trap_named b) own_)
              alike.traps
              (subst (λ l. TrapsAlike pairs (map (trap_named a) own) (map (trap_named b) l)) same
              (map_alike pairs a b first own)));
        }

    pub counts_alike : (ts us : List Trap) → TrapsAlike pairs ts us → (x y : List Value) → x ≡ y
        → CollectionAlike (counts_behind a ts x) (counts_behind b us y)
    counts_alike [] [] alike x y same = record {
      bag = ap counted same;
      traps =
          subst
          (λ l. TrapsAlike pairs (trap_set (map (trap_named a) (counted_traps x)))
          (trap_set (map (trap_named b) (counted_traps l)))) same
          (set_alike pairs (map (trap_named a) (counted_traps x))
          (map (trap_named b) (counted_traps x)) (map_alike pairs a b first (counted_traps x)));
    }
    counts_alike [] (u ∷ us) alike x y same =
        absurd (let it = alike.back u (at_head u us) in not_in_none it.0 it.1)
    counts_alike (t ∷ ts) [] alike x y same =
        absurd (let it = alike.forth t (at_head t ts) in not_in_none it.0 it.1)
    counts_alike (t ∷ ts) (u ∷ us) alike x y same = record { bag = refl; traps = alike }

    pub wholes_alike : (ts us : List Trap) → TrapsAlike pairs ts us → (x y : Result Value Kind)
        → x ≡ y → CollectionAlike (whole_behind a ts x) (whole_behind b us y)
    wholes_alike [] [] alike (Ok v) y same =
        subst (λ z. CollectionAlike (whole_behind a [] (Ok v)) (whole_behind b [] z)) same
        (record { bag = refl; traps = no_traps pairs })
    wholes_alike [] [] alike (Err why) y same =
        subst (λ z. CollectionAlike (whole_behind a [] (Err why)) (whole_behind b [] z)) same
        (record {
          bag = refl;
          traps = one_alike pairs a b first (why, value.Int (pos 0));
        })
    wholes_alike [] (u ∷ us) alike x y same =
        absurd (let it = alike.back u (at_head u us) in not_in_none it.0 it.1)
    wholes_alike (t ∷ ts) [] alike x y same =
        absurd (let it = alike.forth t (at_head t ts) in not_in_none it.0 it.1)
    wholes_alike (t ∷ ts) (u ∷ us) alike x y same = record { bag = refl; traps = alike }

    -- ---- calls

    call_traps : (called : Called) → TrapsAlike pairs (trap_of a called) (trap_of b called)
    call_traps (Ok outputs) = no_traps pairs
    call_traps (Err trap) = one_alike pairs a b first trap

    called_alike : (output : ℕ) (ts us : List Trap) → TrapsAlike pairs ts us
        → (calls : List Called)
        → CollectionAlike (called_by a output ts calls) (called_by b output us calls)
    called_alike output ts us alike calls = record {
      bag = refl;
      traps =
          set_alike pairs (ts ++ flat_map (trap_of a) calls) (us ++ flat_map (trap_of b) calls)
          (append_alike pairs ts us (flat_map (trap_of a) calls) (flat_map (trap_of b) calls) alike
          (flat_alike pairs (trap_of a) (trap_of b) call_traps calls));
    }

    any_called : (output : ℕ) (ts us : List Trap) → TrapsAlike pairs ts us
        → (o p : Option (List Called)) → o ≡ p
        → OptionAlike (option_map (called_by a output ts) o)
        (option_map (called_by b output us) p)
    any_called output ts us alike None p same =
        subst (λ x. OptionAlike None (option_map (called_by b output us) x)) same tt
    any_called output ts us alike (Some calls) p same =
        subst
        (λ x. OptionAlike (Some (called_by a output ts calls))
        (option_map (called_by b output us) x)) same
        (called_alike output ts us alike calls)

    pub done_alike : (output : ℕ) (f g : Function) → SameFunction f g → (c d : Collection)
        → CollectionAlike c d → OptionAlike (done_by a output f c) (done_by b output g d)
    done_alike output f g same c d alike =
        any_called output c.traps d.traps alike.traps (answers_on (answer_of f) c.bag)
        (answers_on (answer_of g) d.bag)
        (calls_same (answer_of f) (answer_of g) (same_answer f g same) c.bag
        ∙ ap (answers_on (answer_of g)) alike.bag)

    -- ---- objects

    value_same : (c d : Collection) → CollectionAlike c d → value_of c ≡ value_of d
    value_same c d alike =
        ap only (unless_alike pairs c.traps d.traps alike.traps c.bag d.bag alike.bag)

    values_same : (cs ds : List Collection) → AllZip CollectionAlike cs ds
        → object_values cs ≡ object_values ds
    values_same [] [] zipped = refl
    values_same [] (d ∷ ds) zipped = absurd zipped
    values_same (c ∷ cs) [] zipped = absurd zipped
    values_same (c ∷ cs) (d ∷ ds) zipped =
        λ i. option_and_then (λ v. option_map (λ vs. v ∷ vs) (values_same cs ds zipped.1 i))
        (value_same c d zipped.0 i)

    nothing_alike : (cs ds : List Collection) → AllZip CollectionAlike cs ds
        → CollectionAlike (nothing_behind cs) (nothing_behind ds)
    nothing_alike cs ds zipped = record {
      bag = refl;
      traps =
          set_alike pairs (flat_map (λ (c : Collection). c.traps) cs)
          (flat_map (λ (c : Collection). c.traps) ds) (all_traps cs ds zipped);
    }

    answer_alike : (x : Value) (called : Called)
        → CollectionAlike (object_as (answered_once a x called))
        (object_as (answered_once b x called))
    answer_alike x (Ok outputs) = by (only (emissions 0 (Ok outputs)))
      where
        by : (o : Option Value)
            → CollectionAlike (object_as (emission_on a x o)) (object_as (emission_on b x o))
        by (Some v) = record { bag = refl; traps = no_traps pairs }
        by None = record { bag = refl; traps = one_alike pairs a b first (kind.NotOne, x) }
    answer_alike x (Err trap) = record { bag = refl; traps = one_alike pairs a b first trap }

    once_alike : (x : Value) (o p : Option Called) → o ≡ p
        → OptionAlike (option_map (λ called. object_as (answered_once a x called)) o)
        (option_map (λ called. object_as (answered_once b x called)) p)
    once_alike x None p same =
        subst
        (λ z. OptionAlike None (option_map (λ called. object_as (answered_once b x called)) z)) same
        tt
    once_alike x (Some called) p same =
        subst
        (λ z. OptionAlike (Some (object_as (answered_once a x called)))
        (option_map (λ called. object_as (answered_once b x called)) z)) same
        (answer_alike x called)

    pub operated_alike : (f g : Function) → SameFunction f g → (cs ds : List Collection)
        → AllZip CollectionAlike cs ds
        → OptionAlike (operated_by a (answer_of f) cs) (operated_by b (answer_of g) ds)
    operated_alike f g same cs ds zipped =
        by (object_values cs) (object_values ds) (values_same cs ds zipped)
      where
        by : (o p : Option (List Value)) → o ≡ p
            → OptionAlike (operated_on a (answer_of f) o cs) (operated_on b (answer_of g) p ds)
        by None p e =
            subst (λ z. OptionAlike (Some (nothing_behind cs)) (operated_on b (answer_of g) z ds)) e
            (nothing_alike cs ds zipped)
        by (Some vs) p e =
            subst
            (λ z. OptionAlike (called_once a (answer_of f) (argument_of vs))
            (operated_on b (answer_of g) z ds)) e
            (once_alike (argument_of vs) (answer_of f (argument_of vs))
            (answer_of g (argument_of vs)) (same_answer f g same (argument_of vs)))

    pub beside_alike : (f g : Function) → SameFunction f g → (c d object object_ : Collection)
        → CollectionAlike c d → CollectionAlike object object_
        → OptionAlike (done_beside a (answer_of f) c object)
        (done_beside b (answer_of g) d object_)
    beside_alike f g same c d object object_ alike beside =
        by (value_of object) (value_of object_) (value_same object object_ beside)
      where
        by : (o p : Option Value) → o ≡ p
            → OptionAlike (done_on a (answer_of f) o c object)
            (done_on b (answer_of g) p d object_)
        by None p e =
            subst
            (λ z. OptionAlike (Some (nothing_behind (c ∷ object ∷ [])))
            (done_on b (answer_of g) z d object_)) e
            (nothing_alike (c ∷ object ∷ []) (d ∷ object_ ∷ []) (alike, (beside, tt)))
        by (Some v) p e =
            subst
            (λ z. OptionAlike (done_on a (answer_of f) (Some v) c object)
            (done_on b (answer_of g) z d object_)) e
            (any_called 0 c.traps d.traps alike.traps
            (answers_on (answer_beside (answer_of f) v) c.bag)
            (answers_on (answer_beside (answer_of g) v) d.bag)
            (calls_same (answer_beside (answer_of f) v) (answer_beside (answer_of g) v)
            (λ x. ap (option_map (naming x)) (same_answer f g same (value.Rec (x ∷ v ∷ []))))
            c.bag
            ∙ ap (answers_on (answer_beside (answer_of g) v)) alike.bag))

  pub together_alike : (cs ds : List Collection) → AllZip CollectionAlike cs ds
      → CollectionAlike (together cs) (together ds)
  together_alike cs ds zipped = record {
    bag = ap bag_of (bags cs ds zipped);
    traps =
        set_alike pairs (flat_map (λ (c : Collection). c.traps) cs)
        (flat_map (λ (c : Collection). c.traps) ds) (all_traps cs ds zipped);
  }
    where
      bags : (cs ds : List Collection) → AllZip CollectionAlike cs ds
          → flat_map (λ (c : Collection). c.bag) cs ≡ flat_map (λ (c : Collection). c.bag) ds
      bags [] [] zipped = refl
      bags [] (d ∷ ds) zipped = absurd zipped
      bags (c ∷ cs) [] zipped = absurd zipped
      bags (c ∷ cs) (d ∷ ds) zipped = λ i. zipped.0.bag i ++ bags cs ds zipped.1 i
