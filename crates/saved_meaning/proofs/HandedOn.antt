-- Traps are handed on: where a collection has none, those that it is made of have none.
use Rattle.std.proofs.Common.{◌≡◌, ℕ, zero, suc, ◌-◌, ◌<◌, List, [], ◌∷◌, ◌++◌, length, Option, Some, None, refl, sym, ap, ◌∙◌, subst, arith, ⊎_elim}
use Rattle.std.specs.List.{Contains, flat_map}
use Rattle.std.specs.Option.{option_and_then, option_map}
use Rattle.flume_value.specs.declared.fault.Kind.{Kind}
use Rattle.flume_value.specs.declared.value.Value.{Value}
use Rattle.std.specs.Prelude.{Result}
use Rattle.combine_table.specs.Combinations.{combined}
use Rattle.flume_collection.proofs.Members.{head_or_tail, no_members, not_in_none}
use Rattle.flume_collection.proofs.Orders.{trap_order}
use Rattle.flume_collection.specs.Calls.{Called}
use Rattle.flume_collection.specs.Collection.{Collection, by_key, together, unless_trapped}
use Rattle.flume_collection.specs.Traps.{trap_le, trap_set}
use Rattle.flume_collection.specs.declared.trap.Trap.{Trap}
use Rattle.script_program.specs.declared.made.Made.{Made}
use Rattle.script_program.specs.declared.made.Made.TheVariants as made
use Rattle.script_program.specs.Needed.{operands}
use Rattle.script_program.specs.Script.{Function, Script}
use Rattle.direct_meaning.specs.of_script_laws.WellFormed.{function_at}
use Rattle.direct_meaning.proofs.DoneLemmas.{has_done}
use Rattle.direct_meaning.specs.Calls.{answer_of, called_by, answers_on}
use Rattle.direct_meaning.specs.Direct.{all_made, combined_by, counted_by, counts_behind, done_beside_at, joined_at, joined_collections, made_as, made_at, operated_at, top_by}
use Rattle.direct_meaning.specs.Objects.{answer_beside, combined_whole, done_beside, done_on, nothing_behind, only, operated_by, operated_on, value_of, object_values, whole_behind}
use Rattle.saved_meaning.proofs.Tables.{and_then_some, map_some}

-- ---- sets of traps

front-none : (xs ys : List Trap) → xs ++ ys ≡ [] → xs ≡ []
front-none [] ys e = refl
front-none (x ∷ xs) ys e = cc

back-none : (xs ys : List Trap) → xs ++ ys ≡ [] → ys ≡ []
back-none [] ys e = e
back-none (x ∷ xs) ys e = cc

pub none-in : (xs : List Trap) → trap_set xs ≡ [] → xs ≡ []
none-in xs e = no_members trap_le trap_order xs e

-- a collection of that number is made, and has no traps where another has none
pub record Hands (table : List (Option Collection)) (n : ℕ) (c : Collection) : Type 0 where
  pub own : Collection
  pub is : made_at table n ≡ Some own
  pub none : c.traps ≡ [] → own.traps ≡ []

module _ (table : List (Option Collection)) where
  one-source : (source n : ℕ) (c d : Collection) → made_at table source ≡ Some d
      → (c.traps ≡ [] → d.traps ≡ []) → Contains (source ∷ []) n → Hands table n c
  one-source source n c d is none reads =
      ⊎_elim
      (λ (e : source ≡ n).
      subst (λ m. Hands table m c) e (record { own = d; is = is; none = none }))
      (λ there. absurd (not_in_none n there)) (head_or_tail source [] n reads)

  two-sources : (left second n : ℕ) (c d e : Collection) → made_at table left ≡ Some d
      → made_at table second ≡ Some e → (c.traps ≡ [] → d.traps ≡ [])
      → (c.traps ≡ [] → e.traps ≡ []) → Contains (left ∷ second ∷ []) n → Hands table n c
  two-sources left second n c d e is also none neither reads =
      ⊎_elim
      (λ (same : left ≡ n).
      subst (λ m. Hands table m c) same (record { own = d; is = is; none = none }))
      (λ there. one-source second n c e also neither there)
      (head_or_tail left (second ∷ []) n reads)

  -- all of some
  many-sources : (numbers : List ℕ) (cs : List Collection) (c : Collection)
      → all_made table numbers ≡ Some cs
      → (c.traps ≡ [] → flat_map (λ (d : Collection). d.traps) cs ≡ []) → (n : ℕ)
      → Contains numbers n → Hands table n c
  many-sources [] cs c is none n reads = absurd (not_in_none n reads)
  many-sources (number ∷ numbers) cs c is none n reads =
      let (d, first, rest) =
      and_then_some (λ d. option_map (λ ds. d ∷ ds) (all_made table numbers))
      (made_at table number) cs is in
      let (ds, others, whole) = map_some (λ ds. d ∷ ds) (all_made table numbers) cs rest in
      let split : c.traps ≡ [] → d.traps ++ flat_map (λ (x : Collection). x.traps) ds ≡ [] =
      λ e. ap (flat_map (λ (x : Collection). x.traps)) whole ∙ none e in
      ⊎_elim
      (λ (same : number ≡ n).
      subst (λ m. Hands table m c) same (record {
        own = d;
        is = first;
        none = λ e. front-none d.traps (flat_map (λ (x : Collection). x.traps) ds) (split e);
      }))
      (λ there.
      many-sources numbers ds c others
      (λ e. back-none d.traps (flat_map (λ (x : Collection). x.traps) ds) (split e)) n there)
      (head_or_tail number numbers n reads)

-- ---- each way in which a collection is made

front-of-set : (xs ys : List Trap) (c : Collection) → trap_set (xs ++ ys) ≡ c.traps
    → c.traps ≡ [] → xs ≡ []
front-of-set xs ys c e none = front-none xs ys (none-in (xs ++ ys) (e ∙ none))

counted-none : (origin : ℕ) (traps : List Trap) (bag : List Value)
    → (counts_behind origin traps bag).traps ≡ [] → traps ≡ []
counted-none origin [] bag e = refl
counted-none origin (trap ∷ traps) bag e = e

whole-none : (origin : ℕ) (traps : List Trap) (whole : Result Value Kind)
    → (whole_behind origin traps whole).traps ≡ [] → traps ≡ []
whole-none origin [] whole e = refl
whole-none origin (trap ∷ traps) whole e = e

-- an object with a value has no traps
value-none : (c : Collection) (v : Value) → value_of c ≡ Some v → c.traps ≡ []
value-none c v is = by c.traps c.bag is
  where
    by : (traps : List Trap) (bag : List Value) → only (unless_trapped traps bag) ≡ Some v
        → traps ≡ []
    by [] bag e = refl
    by (trap ∷ traps) bag e = cc

values-none : (cs : List Collection) (vs : List Value) → object_values cs ≡ Some vs
    → flat_map (λ (d : Collection). d.traps) cs ≡ []
values-none [] vs is = refl
values-none (c ∷ cs) vs is =
    let (v, first, rest) =
    and_then_some (λ v. option_map (λ us. v ∷ us) (object_values cs)) (value_of c) vs is in
    let (us, others, whole) = map_some (λ us. v ∷ us) (object_values cs) vs rest in
    (λ i. value-none c v first i ++ values-none cs us others i)

operated-none : (origin : ℕ) (answer : Value → Option Called) (cs : List Collection)
    (c : Collection) → operated_by origin answer cs ≡ Some c → c.traps ≡ []
    → flat_map (λ (d : Collection). d.traps) cs ≡ []
operated-none origin answer cs c is none = by (object_values cs) refl is
  where
    by : (o : Option (List Value)) → object_values cs ≡ o
        → operated_on origin answer o cs ≡ Some c
        → flat_map (λ (d : Collection). d.traps) cs ≡ []
    by (Some vs) values is = values-none cs vs values
    by None values is =
        let e : nothing_behind cs ≡ c = cc in
        none-in (flat_map (λ (d : Collection). d.traps) cs)
        (ap (λ (x : Collection). x.traps) e ∙ none)

-- what is made beside an object has the traps of both
beside-none : (origin : ℕ) (answer : Value → Option Called) (d e c : Collection)
    → done_beside origin answer d e ≡ Some c → c.traps ≡ []
    → (d.traps ≡ []) × (e.traps ≡ [])
beside-none origin answer d e c is none = by (value_of e) refl is
  where
    by : (o : Option Value) → value_of e ≡ o → done_on origin answer o d e ≡ Some c
        → (d.traps ≡ []) × (e.traps ≡ [])
    by (Some v) value is =
        let (calls, all, same) =
        map_some (called_by origin 0 d.traps) (answers_on (answer_beside answer v) d.bag) c is in (
          front-of-set d.traps _ c (ap (λ (x : Collection). x.traps) same) none,
          value-none e v value,
        )
    by None value is =
        let same : nothing_behind (d ∷ e ∷ []) ≡ c = cc in
        let both = none-in (flat_map (λ (x : Collection). x.traps) (d ∷ e ∷ []))
        (ap (λ (x : Collection). x.traps) same ∙ none) in (
          front-none d.traps (e.traps ++ []) both,
          front-none e.traps [] (back-none d.traps (e.traps ++ []) both),
        )

module _ (script : Script) (number : ℕ) (table : List (Option Collection))
    (rows : List (List Value)) (c : Collection) where
  by-function : (source called output n : ℕ)
      → made_as script number (made.Do source called output) rows table ≡ Some c
      → Contains (source ∷ []) n → Hands table n c
  by-function source called output n h reads =
      let it = has_done script table (number - output) source called output c h in
      one-source table source n c it.from it.read
      (front-of-set it.from.traps _ c (ap (λ (x : Collection). x.traps) it.is)) reads

  by-map : (f : Collection → Collection) (source n : ℕ)
      → option_map f (made_at table source) ≡ Some c
      → ((d : Collection) → (f d).traps ≡ [] → d.traps ≡ [])
      → Contains (source ∷ []) n → Hands table n c
  by-map f source n h none reads =
      let (d, read, is) = map_some f (made_at table source) c h in
      one-source table source n c d read
      (λ e. none d (ap (λ (x : Collection). x.traps) is ∙ e)) reads

  by-joining : (left second n : ℕ) → joined_at left second table ≡ Some c
      → Contains (left ∷ second ∷ []) n → Hands table n c
  by-joining left second n h reads =
      let (a, left_read, rest) =
      and_then_some (λ a. option_map (joined_collections a) (made_at table second))
      (made_at table left) c h
      in
      let (b, second_read, is) = map_some (joined_collections a) (made_at table second) c rest in
      let both : c.traps ≡ [] → a.traps ++ b.traps ≡ [] =
      λ e. none-in (a.traps ++ b.traps) (ap (λ (x : Collection). x.traps) is ∙ e) in
      two-sources table left second n c a b left_read second_read
      (λ e. front-none a.traps b.traps (both e)) (λ e. back-none a.traps b.traps (both e)) reads

  -- of what a function makes
  by-callee : (called n : ℕ) (makes : Function → Option Collection)
      → ((function : Function) → makes function ≡ Some c → Hands table n c)
      → option_and_then makes (function_at script.functions called) ≡ Some c → Hands table n c
  by-callee called n makes hands h =
      let (function, calls_it, made_so) =
      and_then_some makes (function_at script.functions called) c h in
      hands function made_so

  by-operating : (objects : List ℕ) (called n : ℕ)
      → made_as script number (made.Operate objects called) rows table ≡ Some c
      → Contains objects n → Hands table n c
  by-operating objects called n h reads =
      by-callee called n (λ function. operated_at number function objects table)
      (λ function done.
      let (cs, read, is) =
      and_then_some (operated_by number (answer_of function)) (all_made table objects) c done in
      many-sources table objects cs c read (operated-none number (answer_of function) cs c is) n
      reads) h

  by-beside : (source called object n : ℕ)
      → made_as script number (made.DoWith source called object) rows table ≡ Some c
      → Contains (source ∷ object ∷ []) n → Hands table n c
  by-beside source called object n h reads =
      by-callee called n (λ function. done_beside_at number function source object table)
      (λ function done.
      let (d, read, rest) =
      and_then_some (λ d. option_and_then (done_beside number (answer_of function) d)
      (made_at table object)) (made_at table source) c done in
      let (e, value_read, is) =
      and_then_some (done_beside number (answer_of function) d) (made_at table object) c rest in
      two-sources table source object n c d e read value_read
      (λ none. (beside-none number (answer_of function) d e c is none).0)
      (λ none. (beside-none number (answer_of function) d e c is none).1) reads) h

  pub hands-on : (how : Made) (n : ℕ) → made_as script number how rows table ≡ Some c
      → Contains (operands how) n → Hands table n c
  hands-on (made.Input file columns) n h reads = absurd (not_in_none n reads)
  hands-on (made.Do source called output) n h reads = by-function source called output n h reads
  hands-on (made.Group source) n h reads = by-map by_key source n h (λ d e. e) reads
  hands-on (made.Combine source by) n h reads =
      by-map (combined_by number by) source n h
      (λ d e. front-none d.traps _ (none-in _ e)) reads
  hands-on (made.Flatten sources) n h reads =
      let (cs, read, is) = map_some together (all_made table sources) c h in
      many-sources table sources cs c read
      (λ e. none-in (flat_map (λ (d : Collection). d.traps) cs)
      (ap (λ (x : Collection). x.traps) is ∙ e)) n reads
  hands-on (made.Count source) n h reads =
      by-map (counted_by number) source n h (λ d e. counted-none number d.traps d.bag e) reads
  hands-on (made.Join left right_) n h reads = by-joining left right_ n h reads
  hands-on (made.Top many source) n h reads = by-map (top_by many) source n h (λ d e. e) reads
  hands-on (made.CombineAll source by) n h reads =
      by-map (combined_whole number by) source n h
      (λ d e. whole-none number d.traps (combined by d.bag) e) reads
  hands-on (made.Operate objects called) n h reads = by-operating objects called n h reads
  hands-on (made.DoWith source called object) n h reads =
      by-beside source called object n h reads
  hands-on (made.Saved is_object call) n h reads = absurd (not_in_none n reads)
