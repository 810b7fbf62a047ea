-- Traps that are the same but for the numbers of their collections.
use Rattle.std.proofs.Common.{◌≡◌, ℕ, List, [], ◌∷◌, ◌++◌, map, refl, subst, ⊎_elim}
use Rattle.std.specs.List.{Contains, flat_map}
use Rattle.std.proofs.lemmas.List.Elements.{Contains-append_cases, Contains-append_left, Contains-append_right}
use Rattle.flume_value.specs.declared.fault.Kind.{Kind}
use Rattle.flume_value.specs.declared.value.Value.{Value}
use Rattle.flume_collection.proofs.Members.{at_head, head_or_tail, not_in_none, set_members}
use Rattle.flume_collection.proofs.Orders.{trap_order}
use Rattle.flume_collection.specs.Calls.{trap_named}
use Rattle.flume_collection.specs.Collection.{unless_trapped}
use Rattle.flume_collection.specs.Traps.{trap_le, trap_set}
use Rattle.flume_collection.specs.declared.trap.Trap.{Trap}
use Rattle.key_meaning.proofs.Alike.{Paired, Pairs}
use Rattle.key_meaning.specs.Same.{AreAmong}

module _ (R : Trap → Trap → Type 0) where
  none_among : (others : List Trap) → AreAmong R [] others
  none_among others trap is = absurd (not_in_none trap is)

  one_among : (t u : Trap) → R t u → AreAmong R (t ∷ []) (u ∷ [])
  one_among t u same trap is =
      ⊎_elim
      (λ (e : t ≡ trap). (u, at_head u [], subst (λ v. R v u) e same))
      (λ (behind : Contains [] trap). absurd (not_in_none trap behind))
      (head_or_tail t [] trap is)

  append_among : (ts us more others : List Trap) → AreAmong R ts us → AreAmong R more others
      → AreAmong R (ts ++ more) (us ++ others)
  append_among ts us more others first second trap is =
      ⊎_elim
      (λ (here : Contains ts trap).
      let it = first trap here in
      (it.0, Contains-append_left us others it.0 it.1, it.2))
      (λ (behind : Contains more trap).
      let it = second trap behind in
      (it.0, Contains-append_right us others it.0 it.1, it.2))
      (Contains-append_cases ts more trap is)

  set_among : (ts us : List Trap) → AreAmong R ts us → AreAmong R (trap_set ts) (trap_set us)
  set_among ts us among trap is =
      let it = among trap ((set_members trap_le trap_order ts trap).0 is) in
      (it.0, (set_members trap_le trap_order us it.0).1 it.1, it.2)

  flat_among : {A : Type 0} (f g : A → List Trap) → ((x : A) → AreAmong R (f x) (g x))
      → (xs : List A) → AreAmong R (flat_map f xs) (flat_map g xs)
  flat_among f g each [] = none_among []
  flat_among f g each (x ∷ xs) =
      append_among (f x) (g x) (flat_map f xs) (flat_map g xs) (each x) (flat_among f g each xs)

  map_among : {A : Type 0} (f g : A → Trap) → ((x : A) → R (f x) (g x)) → (xs : List A)
      → AreAmong R (map f xs) (map g xs)
  map_among f g each [] = none_among []
  map_among f g each (x ∷ xs) =
      append_among (f x ∷ []) (g x ∷ []) (map f xs) (map g xs) (one_among (f x) (g x) (each x))
      (map_among f g each xs)

-- ---- by pairs

module _ (pairs : Pairs) where
  pub record TrapAlike (trap other : Trap) : Type 0 where
    pub origin : Paired pairs trap.origin other.origin
    pub element : trap.element ≡ other.element
    pub kind : trap.kind ≡ other.kind

  abbrev pub Back : Trap → Trap → Type 0
  Back other trap = TrapAlike trap other

  -- each of one list is among the other
  pub record TrapsAlike (ts us : List Trap) : Type 0 where
    pub forth : AreAmong TrapAlike ts us
    pub back : AreAmong Back us ts

  pub no_traps : TrapsAlike [] []
  no_traps = record { forth = none_among TrapAlike []; back = none_among Back [] }

  pub append_alike : (ts us more others : List Trap) → TrapsAlike ts us → TrapsAlike more others
      → TrapsAlike (ts ++ more) (us ++ others)
  append_alike ts us more others first second = record {
    forth = append_among TrapAlike ts us more others first.forth second.forth;
    back = append_among Back us ts others more first.back second.back;
  }

  pub set_alike : (ts us : List Trap) → TrapsAlike ts us → TrapsAlike (trap_set ts) (trap_set us)
  set_alike ts us alike = record {
    forth = set_among TrapAlike ts us alike.forth;
    back = set_among Back us ts alike.back;
  }

  pub named_alike : (a b : ℕ) → Paired pairs a b → (it : Kind × Value)
      → TrapAlike (trap_named a it) (trap_named b it)
  named_alike a b is it = record { origin = is; element = refl; kind = refl }

  pub one_alike : (a b : ℕ) → Paired pairs a b → (it : Kind × Value)
      → TrapsAlike (trap_named a it ∷ []) (trap_named b it ∷ [])
  one_alike a b is it = record {
    forth = one_among TrapAlike (trap_named a it) (trap_named b it) (named_alike a b is it);
    back = one_among Back (trap_named b it) (trap_named a it) (named_alike a b is it);
  }

  pub map_alike : (a b : ℕ) → Paired pairs a b → (its : List (Kind × Value))
      → TrapsAlike (map (trap_named a) its) (map (trap_named b) its)
  map_alike a b is its = record {
    forth = map_among TrapAlike (trap_named a) (trap_named b) (named_alike a b is) its;
    back = map_among Back (trap_named b) (trap_named a) (named_alike a b is) its;
  }

  pub flat_alike : {A : Type 0} (f g : A → List Trap) → ((x : A) → TrapsAlike (f x) (g x))
      → (xs : List A) → TrapsAlike (flat_map f xs) (flat_map g xs)
  flat_alike f g each xs = record {
    forth = flat_among TrapAlike f g (λ x. (each x).forth) xs;
    back = flat_among Back g f (λ x. (each x).back) xs;
  }

  -- there is none in the one where there is none in the other
  pub unless_alike : (ts us : List Trap) → TrapsAlike ts us → (x y : List Value) → x ≡ y
      → unless_trapped ts x ≡ unless_trapped us y
  unless_alike [] [] alike x y same = same
  unless_alike [] (u ∷ us) alike x y same =
      absurd (let it = alike.back u (at_head u us) in not_in_none it.0 it.1)
  unless_alike (t ∷ ts) [] alike x y same =
      absurd (let it = alike.forth t (at_head t ts) in not_in_none it.0 it.1)
  unless_alike (t ∷ ts) (u ∷ us) alike x y same = refl
