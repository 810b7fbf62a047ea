-- Each trap that is behind what a script needs still is one of the script.
use Rattle.std.proofs.Common.{◌≡◌, ℕ, zero, suc, Bool, true, false, List, [], ◌∷◌, ◌++◌, Option, Some, None, refl, sym, ◌∙◌, subst, ⊎_elim}
use Rattle.std.specs.List.{Contains, flat_map}
use Rattle.std.proofs.lemmas.List.Elements.{Contains-append_cases, Contains-append_left, Contains-append_right}
use Rattle.flume_collection.proofs.Members.{not_in_none, set_members}
use Rattle.flume_collection.proofs.Orders.{trap_order}
use Rattle.flume_collection.specs.Collection.{Collection}
use Rattle.flume_collection.specs.Traps.{trap_le, trap_set}
use Rattle.flume_collection.specs.declared.trap.Trap.{Trap}
use Rattle.script_program.specs.Needed.{is_needed}
use Rattle.script_program.specs.Script.{Script}
use Rattle.direct_meaning.specs.Direct.{made_at, traps_behind, traps_of}
use Rattle.saved_meaning.specs.Found.{IsSame, where_needed}
use Rattle.saved_meaning.proofs.Going.{Table}

-- the trap is behind the collection of that number
record IsBehind (table : Table) (t : Trap) : Type 0 where
  pub number : ℕ
  pub collection : Collection
  pub is : made_at table number ≡ Some collection
  pub among : Contains collection.traps t

next-behind : (o : Option Collection) (table : Table) (t : Trap) → IsBehind table t
    → IsBehind (o ∷ table) t
next-behind o table t it = record {
  number = suc it.number;
  collection = it.collection;
  is = it.is;
  among = it.among;
}

here-behind : (o : Option Collection) (table : Table) (t : Trap) → Contains (traps_behind o) t
    → IsBehind (o ∷ table) t
here-behind None table t among = absurd (not_in_none t among)
here-behind (Some c) table t among =
    record { number = 0; collection = c; is = refl; among = among }

behind : (table : Table) (t : Trap) → Contains (flat_map traps_behind table) t → IsBehind table t
behind [] t among = absurd (not_in_none t among)
behind (o ∷ table) t among =
    ⊎_elim (λ (here : Contains (traps_behind o) t). here-behind o table t here)
    (λ there. next-behind o table t (behind table t there))
    (Contains-append_cases (traps_behind o) (flat_map traps_behind table) t among)

among-all : (table : Table) (t : Trap) (n : ℕ) (c : Collection) → made_at table n ≡ Some c
    → Contains c.traps t → Contains (flat_map traps_behind table) t
among-all [] t n c is among = cc
among-all (None ∷ table) t zero c is among = cc
among-all (Some d ∷ table) t zero c is among =
    let e : d ≡ c = cc in
    Contains-append_left d.traps (flat_map traps_behind table) t
    (subst (λ (x : Collection). Contains x.traps t) (sym e) among)
among-all (o ∷ table) t (suc n) c is among =
    Contains-append_right (traps_behind o) (flat_map traps_behind table) t
    (among-all table t n c is among)

needed-is : (b : Bool) (o : Option Collection) (c : Collection) → where_needed b o ≡ Some c
    → o ≡ Some c
needed-is true o c is = is
needed-is false o c is = cc

pub still-trapped : (script : Script) (table own : Table) → IsSame script table own → (t : Trap)
    → Contains (traps_of own) t → Contains (traps_of table) t
still-trapped script table own same t among =
    let it = behind own t
    ((set_members trap_le trap_order (flat_map traps_behind own) t).0 among) in
    (set_members trap_le trap_order (flat_map traps_behind table) t).1
    (among-all table t it.number it.collection
    (needed-is (is_needed script it.number) (made_at table it.number) it.collection
    (sym (same it.number) ∙ it.is))
    it.among)
