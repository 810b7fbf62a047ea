-- What is kept of what is made of the values of objects, and whose traps these are.
use Rattle.std.proofs.Common.{◌≡◌, ◌||◌, ℕ, List, [], ◌∷◌, ◌++◌, Option, Some, None, refl, sym, ap, ◌∙◌, append-nil}
use Rattle.std.specs.Prelude.{Result, option_map}
use Rattle.std.specs.List.{flat_map}
use Rattle.flume_value.specs.declared.fault.Kind.{Kind}
use Rattle.flume_value.specs.declared.value.Value.{Value}
use Rattle.flume_collection.specs.Calls.{Called}
use Rattle.flume_collection.specs.Collection.{Collection}
use Rattle.flume_collection.specs.Traps.{trap_set}
use Rattle.flume_collection.specs.declared.trap.Trap.{Trap}
use Rattle.direct_meaning.proofs.KeepLemmas.{among_made, called_kept, called_own, known_own, nothing_among, set_known_own}
use Rattle.direct_meaning.proofs.StandLemmas.{HasOwn, all_traps}
use Rattle.direct_meaning.proofs.TrapLemmas.{AreAmong, among-append, traps-append, traps-set}
use Rattle.direct_meaning.specs.Calls.{called_by, answers_on}
use Rattle.direct_meaning.specs.Direct.{made_at}
use Rattle.direct_meaning.specs.Objects.{answer_beside, argument_of, called_once, done_on, nothing_behind, object_as, operated_on, whole_behind, whole_value}
use Rattle.direct_meaning.specs.declared.kept.Kept.{Kept}
use Rattle.direct_meaning.specs.inner.Kept.{Keeps, has_traps, unless_behind}
use Rattle.direct_meaning.specs.inner.Objects.{IsAnyNew, IsDoneOn, IsNothing, IsOperatedOn}
use Rattle.direct_meaning.specs.inner.Slots.{traps_on}

-- ---- all members combined

pub whole_kept : (origin : ℕ) (traps : List Trap) (whole : Result Value Kind) (result : Kept)
    → result.members
    ≡ unless_behind (has_traps traps) (object_as (whole_value origin whole)).bag
    → result.trapped
    ≡ (has_traps traps || has_traps (object_as (whole_value origin whole)).traps)
    → Keeps result (whole_behind origin traps whole)
whole_kept origin [] whole result members trapped =
    record { members = members; trapped = trapped }
whole_kept origin (trap ∷ traps) whole result members trapped =
    record { members = members; trapped = trapped }

pub whole_own : (table : List (Option Collection)) (origin : ℕ) (traps : List Trap)
    (whole : Result Value Kind) → AreAmong (all_traps table) traps
    → HasOwn table
    (unless_behind (has_traps traps) (object_as (whole_value origin whole)).traps)
    (whole_behind origin traps whole)
whole_own table origin [] whole among = refl
whole_own table origin (trap ∷ traps) whole among =
    known_own table (whole_behind origin (trap ∷ traps) whole) among

-- ---- what comes of a step

-- what is kept is kept of the collection that is made, whose own traps are found
pub record Comes (table : List (Option Collection)) (made : Option Collection) (result : Kept)
    (before after : List Trap) : Type 0 where
  pub collection : Collection
  pub made_so : made ≡ Some collection
  pub keeps : Keeps result collection
  pub own : List Trap
  pub found : after ≡ before ++ own
  pub has : HasOwn table own collection

-- nothing behind collections whose traps are known
nothing_comes : (table : List (Option Collection)) (cs : List Collection) (result : Kept)
    (before after : List Trap) → AreAmong (all_traps table) (flat_map (λ c. c.traps) cs)
    → IsNothing (has_traps (flat_map (λ c. c.traps) cs)) result before after
    → Comes table (Some (nothing_behind cs)) result before after
nothing_comes table cs result before after among nothing =
    let traps = flat_map (λ (c : Collection). c.traps) cs in
    record {
      collection = nothing_behind cs;
      made_so = refl;
      keeps = record {
        members = nothing.members;
        trapped = nothing.behind ∙ sym (traps-set traps);
      };
      own = [];
      found = nothing.found ∙ sym (append-nil before);
      has = set_known_own table traps (trap_set traps) among refl;
    }

new_comes : (table : List (Option Collection)) (given : Option Collection) (result : Kept)
    (before after : List Trap) → IsAnyNew given result before after
    → Comes table given result before after
new_comes table None result before after new = absurd new
new_comes table (Some c) result before after new = record {
  collection = c;
  made_so = refl;
  keeps = new.keeps;
  own = c.traps;
  found = new.found;
  has = refl;
}

-- ---- operate

pub operated_comes : (table : List (Option Collection)) (origin : ℕ)
    (answer : Value → Option Called) (cs : List Collection) (values : Option (List Value))
    (result : Kept) (before after : List Trap)
    → AreAmong (all_traps table) (flat_map (λ c. c.traps) cs)
    → IsOperatedOn origin answer (has_traps (flat_map (λ c. c.traps) cs)) values result before
    after
    → Comes table (operated_on origin answer values cs) result before after
operated_comes table origin answer cs None result before after among done =
    nothing_comes table cs result before after among done
operated_comes table origin answer cs (Some vs) result before after among done =
    new_comes table (called_once origin answer (argument_of vs)) result before after done

-- ---- do .. with

both_trapped : (a b : List Trap) → (has_traps a || has_traps b) ≡ has_traps (a ++ (b ++ []))
both_trapped a b =
    ap (λ (l : List Trap). has_traps a || has_traps l) (sym (append-nil b))
    ∙ sym (traps-append a (b ++ []))

module _ (table : List (Option Collection)) (source other origin : ℕ)
    (answer : Value → Option Called) (c object : Collection) (held beside : Kept)
    (made : made_at table source ≡ Some c) (made_object : made_at table other ≡ Some object)
    (keeps : Keeps held c) (keeps_object : Keeps beside object) (result : Kept)
    (before after : List Trap) where
  pub done_comes : (v : Option Value)
      → ((x : Value) → v ≡ Some x
      → (calls : List Called) × (answers_on (answer_beside answer x) c.bag ≡ Some calls))
      → IsDoneOn origin answer (held.trapped || beside.trapped) v held result before after
      → Comes table (done_on origin answer v c object) result before after
  done_comes None calls done =
      nothing_comes table (c ∷ object ∷ []) result before after
      (among-append (all_traps table) c.traps (object.traps ++ [])
      (among_made table source c made)
      (among-append (all_traps table) object.traps [] (among_made table other object made_object)
      (nothing_among (all_traps table))))
      (record {
        members = done.members;
        behind = done.behind
            ∙ ((λ i. keeps.trapped i || keeps_object.trapped i)
            ∙ both_trapped c.traps object.traps);
        found = done.found;
      })
  done_comes (Some v) calls done =
      let all = calls v refl in
      let by = answer_beside answer v in
      record {
        collection = called_by origin 0 c.traps all.0;
        made_so = ap (option_map (called_by origin 0 c.traps)) all.1;
        keeps = called_kept origin 0 by all.0 result held c before after keeps all.1 done;
        own = traps_on origin by held.members;
        found = done.found;
        has = called_own table source origin 0 by all.0 held c made keeps all.1;
      }
