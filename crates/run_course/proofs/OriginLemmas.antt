-- Each trap of a script is of one of its collections.
use Rattle.std.proofs.Common.{◌≡◌, ℕ, suc, zero, ◌+◌, ◌-◌, ◌<◌, ◌≤◌, Bool, true, false, List, [], ◌∷◌, ◌++◌, length, map, Option, Some, None, Ok, Err, if◌then◌else◌, sym, refl, subst, arith, ⊎_elim, length-append}
use Rattle.std.specs.Prelude.{⊤, Result, option_and_then, pos}
use Rattle.std.specs.List.{Contains, flat_map}
use Rattle.std.specs.Option.{option_map}
use Rattle.std.proofs.lemmas.List.Elements.{Contains-append_cases}
use Rattle.bag_groups.specs.Combining.{traps_of_each}
use Rattle.bag_steps.specs.Counts.{counted_traps}
use Rattle.combine_table.specs.Combinations.{combined}
use Rattle.flume_collection.proofs.Members.{head_or_tail, not_in_none, set_members}
use Rattle.flume_collection.proofs.Orders.{trap_order}
use Rattle.flume_collection.specs.Calls.{Called, emissions, trap_named, trap_of}
use Rattle.flume_collection.specs.Collection.{Collection}
use Rattle.flume_collection.specs.Traps.{trap_le, trap_set}
use Rattle.flume_collection.specs.declared.trap.Trap.{Trap}
use Rattle.flume_value.specs.declared.fault.Kind.{Kind}
use Rattle.flume_value.specs.declared.fault.Kind.TheVariants as kind
use Rattle.flume_value.specs.declared.value.Value.{Value}
use Rattle.flume_value.specs.declared.value.Value.TheVariants as value
use Rattle.script_loading.specs.of_direct_meaning.Calls.{answer_of, answers_on}
use Rattle.script_loading.specs.of_direct_meaning.Direct as spec
use Rattle.script_loading.specs.of_direct_meaning.Objects.{answer_beside, answered_once, argument_of, done_on, nothing_behind, object_as, emission_on, only, operated_on, value_of, object_values, whole_behind}
use Rattle.script_program.specs.declared.made.Made.{Made}
use Rattle.script_program.specs.declared.made.Made.TheVariants as made
use Rattle.script_program.specs.Script.{Node, Script}
use Rattle.script_program.specs.Sources.{in_order}
use Rattle.script_loading.specs.of_script_laws.WellFormed.{function_at}
use Rattle.script_program.specs.Needed.{is_needed}
use Rattle.written_types.specs.Named.{Named}
use Rattle.run_course.specs.Written.{CollectionTable}

-- ---- traps below a number

-- these traps are of collections below a number
abbrev pub Below : ℕ → List Trap → Type 0
Below n traps = (trap : Trap) → Contains traps trap → trap.origin < n

none_below : (n : ℕ) → Below n []
none_below n trap is = absurd (not_in_none trap is)

one_below : (n : ℕ) (first : Trap) (traps : List Trap) → first.origin < n → Below n traps
    → Below n (first ∷ traps)
one_below n first traps below all trap is =
    ⊎_elim (λ (same : first ≡ trap). subst (λ (t : Trap). t.origin < n) same below)
    (all trap) (head_or_tail first traps trap is)

both_below : (n : ℕ) (xs ys : List Trap) → Below n xs → Below n ys → Below n (xs ++ ys)
both_below n xs ys first second trap is =
    ⊎_elim (first trap) (second trap) (Contains-append_cases xs ys trap is)

set_below : (n : ℕ) (traps : List Trap) → Below n traps → Below n (trap_set traps)
set_below n traps all trap is = all trap ((set_members trap_le trap_order traps trap).0 is)

more_below : (n m : ℕ) (traps : List Trap) → n ≤ m → Below n traps → Below m traps
more_below n m traps more all trap is = let below = all trap is in omega arith

each_below : {A : Type 0} (n : ℕ) (f : A → List Trap) (xs : List A) → ((x : A)
    → Below n (f x))
    → Below n (flat_map f xs)
each_below n f [] all = none_below n
each_below n f (x ∷ xs) all = both_below n (f x) (flat_map f xs) (all x) (each_below n f xs all)

named_below : (n origin : ℕ) (pairs : List (Kind × Value)) → origin < n
    → Below n (map (trap_named origin) pairs)
named_below n origin [] below = none_below n
named_below n origin (pair ∷ pairs) below =
    one_below n (trap_named origin pair) (map (trap_named origin) pairs) below
    (named_below n origin pairs below)

call_below : (n origin : ℕ) → origin < n → (call : Called) → Below n (trap_of origin call)
call_below n origin below (Ok outputs) = none_below n
call_below n origin below (Err pair) =
    one_below n (trap_named origin pair) [] below (none_below n)

-- ---- tables

-- the traps behind what is made are of collections below a number
abbrev AreBelow : ℕ → CollectionTable → Type 0
AreBelow n [] = ⊤
AreBelow n (None ∷ table) = AreBelow n table
AreBelow n (Some c ∷ table) = Below n c.traps × AreBelow n table

push_made : (n : ℕ) (table : CollectionTable) (c : Collection) → AreBelow n table → Below n c.traps
    → AreBelow n (table ++ Some c ∷ [])
push_made n [] c all own = (own, tt)
push_made n (None ∷ table) c all own = push_made n table c all own
push_made n (Some d ∷ table) c all own = (all.0, push_made n table c all.1 own)

push_none : (n : ℕ) (table : CollectionTable) → AreBelow n table → AreBelow n (table ++ None ∷ [])
push_none n [] all = tt
push_none n (None ∷ table) all = push_none n table all
push_none n (Some d ∷ table) all = (all.0, push_none n table all.1)

more_made : (n m : ℕ) (table : CollectionTable) → n ≤ m → AreBelow n table → AreBelow m table
more_made n m [] more all = tt
more_made n m (None ∷ table) more all = more_made n m table more all
more_made n m (Some c ∷ table) more all =
    (more_below n m c.traps more all.0, more_made n m table more all.1)

at_below : (n : ℕ) (table : CollectionTable) (number : ℕ) (c : Collection) → AreBelow n table
    → spec.made_at table number ≡ Some c → Below n c.traps
at_below n [] number c all is = absurd (cc)
at_below n (None ∷ table) zero c all is = absurd (cc)
at_below n (Some d ∷ table) zero c all is =
    let same : d ≡ c = cc in subst (λ (x : Collection). Below n x.traps) same all.0
at_below n (None ∷ table) (suc number) c all is = at_below n table number c all is
at_below n (Some d ∷ table) (suc number) c all is = at_below n table number c all.1 is

behind_below : (n : ℕ) (table : CollectionTable) → AreBelow n table
    → Below n (flat_map spec.traps_behind table)
behind_below n [] all = none_below n
behind_below n (None ∷ table) all = behind_below n table all
behind_below n (Some c ∷ table) all =
    both_below n c.traps (flat_map spec.traps_behind table) all.0 (behind_below n table all.1)

-- ---- what is made

-- what an option is mapped from
mapped : {A B : Type 0} (f : A → B) (o : Option A) (y : B) → option_map f o ≡ Some y
    → (x : A) × (o ≡ Some x) × (f x ≡ y)
mapped f None y e = absurd (cc)
mapped f (Some x) y e = (x, refl, cc)

bound : {A B : Type 0} (f : A → Option B) (o : Option A) (y : B) → option_and_then f o
    ≡ Some y
    → (x : A) × (o ≡ Some x) × (f x ≡ Some y)
bound f None y e = absurd (cc)
bound f (Some x) y e = (x, refl, e)

abbrev Own : ℕ → Collection → Type 0
Own n c = Below (suc n) c.traps

as_own : (n : ℕ) (c d : Collection) → c ≡ d → Own n c → Own n d
as_own n c d same own = subst (Own n) same own

behind_own : (n : ℕ) (table : CollectionTable) (number : ℕ) (c : Collection) → AreBelow n table
    → spec.made_at table number ≡ Some c → Below (suc n) c.traps
behind_own n table number c all is =
    more_below n (suc n) c.traps (omega arith) (at_below n table number c all is)

all_below : (n : ℕ) (table : CollectionTable) (numbers : List ℕ) (cs : List Collection)
    → AreBelow n table
    → spec.all_made table numbers ≡ Some cs → Below (suc n) (flat_map (λ c. c.traps) cs)
all_below n table [] cs all is =
    let same : ◌≡◌ {A = List Collection} [] cs = cc in
    subst (λ (l : List Collection). Below (suc n) (flat_map (λ c. c.traps) l)) same
    (none_below (suc n))
all_below n table (number ∷ numbers) cs all is =
    let (c, at, rest) = bound _ (spec.made_at table number) cs is in
    let (others, found, same) = mapped _ (spec.all_made table numbers) cs rest in
    subst (λ (l : List Collection). Below (suc n) (flat_map (λ c. c.traps) l)) same
    (both_below (suc n) c.traps (flat_map (λ (d : Collection). d.traps) others)
    (behind_own n table number c all at) (all_below n table numbers others all found))

counts_below : (n : ℕ) (traps : List Trap) (bag : List Value) → Below (suc n) traps
    → Own n (spec.counts_behind n traps bag)
counts_below n [] bag all =
    set_below (suc n) (map (trap_named n) (counted_traps bag))
    (named_below (suc n) n (counted_traps bag) (omega arith))
counts_below n (trap ∷ traps) bag all = all

calls_below : (n origin output : ℕ) (answer : Value → Option Called) (c d : Collection)
    → origin ≤ n → Below (suc n) c.traps
    → option_map (spec.called_by origin output c.traps) (answers_on answer c.bag) ≡ Some d
    → Own n d
calls_below n origin output answer c d low all is =
    let (calls, made, same) = mapped _ (answers_on answer c.bag) d is in
    let own = flat_map (trap_of origin) calls in
    as_own n _ d same
    (set_below (suc n) (c.traps ++ own) (both_below (suc n) c.traps own all
    (each_below (suc n) (trap_of origin) calls (call_below (suc n) origin (omega arith)))))

-- ---- objects

nothing_below : (n : ℕ) (cs : List Collection) → Below (suc n) (flat_map (λ c. c.traps) cs)
    → Own n (nothing_behind cs)
nothing_below n cs all = set_below (suc n) (flat_map (λ (c : Collection). c.traps) cs) all

whole_below : (n : ℕ) (traps : List Trap) (whole : Result Value Kind) → Below (suc n) traps
    → Own n (whole_behind n traps whole)
whole_below n [] (Ok v) all = none_below (suc n)
whole_below n [] (Err why) all =
    one_below (suc n) (trap_named n (why, value.Int (pos 0))) [] (omega arith)
    (none_below (suc n))
whole_below n (trap ∷ traps) whole all = all

one_of_below : (n : ℕ) (x : Value) (one : Option Value) → Own n (object_as (emission_on n x one))
one_of_below n x (Some v) = none_below (suc n)
one_of_below n x None =
    one_below (suc n) (trap_named n (kind.NotOne, x)) [] (omega arith) (none_below (suc n))

once_below : (n : ℕ) (x : Value) (called : Called) → Own n (object_as (answered_once n x called))
once_below n x (Ok outputs) = one_of_below n x (only (emissions 0 (Ok outputs)))
once_below n x (Err trap) =
    one_below (suc n) (trap_named n trap) [] (omega arith) (none_below (suc n))

operated_below : (n : ℕ) (answer : Value → Option Called) (cs : List Collection)
    (values : Option (List Value)) (d : Collection)
    → Below (suc n) (flat_map (λ c. c.traps) cs) → operated_on n answer values cs ≡ Some d
    → Own n d
operated_below n answer cs (Some vs) d all is =
    let (called, made, same) = mapped _ (answer (argument_of vs)) d is in
    as_own n _ d same (once_below n (argument_of vs) called)
operated_below n answer cs None d all is =
    let same : nothing_behind cs ≡ d = cc in
    as_own n (nothing_behind cs) d same (nothing_below n cs all)

beside_below : (n : ℕ) (answer : Value → Option Called) (c object : Collection)
    (v : Option Value) (d : Collection) → Below (suc n) c.traps → Below (suc n) object.traps
    → done_on n answer v c object ≡ Some d → Own n d
beside_below n answer c object (Some v) d first second is =
    calls_below n n 0 (answer_beside answer v) c d (omega arith) first is
beside_below n answer c object None d first second is =
    let same : nothing_behind (c ∷ object ∷ []) ≡ d = cc in
    as_own n (nothing_behind (c ∷ object ∷ [])) d same
    (nothing_below n (c ∷ object ∷ [])
    (both_below (suc n) c.traps (object.traps ++ []) first
    (both_below (suc n) object.traps [] second (none_below (suc n)))))

-- ---- by each way in which a collection is made

own_below : (script : Script) (n : ℕ) (by : Made) (inputs : List (List Value))
    (table : CollectionTable) (d : Collection) → AreBelow n table
    → spec.made_as script n by inputs table ≡ Some d → Own n d
own_below script n (made.Input file columns) [] table d all is = absurd (cc)
own_below script n (made.Input file columns) (rows ∷ inputs) table d all is =
    let same : spec.rows_as rows ≡ d = cc in
    as_own n (spec.rows_as rows) d same (none_below (suc n))
own_below script n (made.Do source called output) inputs table d all is =
    let (function, at, rest) = bound _ (function_at script.functions called) d is in
    let (c, found, does) = bound _ (spec.made_at table source) d rest in
    calls_below n (n - output) output (answer_of function) c d (omega arith)
    (behind_own n table source c all found) does
own_below script n (made.Group source) inputs table d all is =
    let (c, found, same) = mapped _ (spec.made_at table source) d is in
    as_own n _ d same (behind_own n table source c all found)
own_below script n (made.Combine source by) inputs table d all is =
    let (c, found, same) = mapped _ (spec.made_at table source) d is in
    let own = traps_of_each (combined by) c.bag in
    as_own n _ d same
    (set_below (suc n) (c.traps ++ map (trap_named n) own)
    (both_below (suc n) c.traps (map (trap_named n) own) (behind_own n table source c all found)
    (named_below (suc n) n own (omega arith))))
own_below script n (made.Flatten sources) inputs table d all is =
    let (cs, found, same) = mapped _ (spec.all_made table sources) d is in
    as_own n _ d same
    (set_below (suc n) (flat_map (λ c. c.traps) cs) (all_below n table sources cs all found))
own_below script n (made.Count source) inputs table d all is =
    let (c, found, same) = mapped _ (spec.made_at table source) d is in
    as_own n _ d same (counts_below n c.traps c.bag (behind_own n table source c all found))
own_below script n (made.Join left right) inputs table d all is =
    let (a, found, rest) = bound _ (spec.made_at table left) d is in
    let (b, other, same) = mapped _ (spec.made_at table right) d rest in
    as_own n _ d same
    (set_below (suc n) (a.traps ++ b.traps) (both_below (suc n) a.traps b.traps
    (behind_own n table left a all found) (behind_own n table right b all other)))
own_below script n (made.Top many source) inputs table d all is =
    let (c, found, same) = mapped _ (spec.made_at table source) d is in
    as_own n _ d same (behind_own n table source c all found)
own_below script n (made.CombineAll source by) inputs table d all is =
    let (c, found, same) = mapped _ (spec.made_at table source) d is in
    as_own n _ d same
    (whole_below n c.traps (combined by c.bag) (behind_own n table source c all found))
own_below script n (made.Operate objects called) inputs table d all is =
    let (function, at, rest) = bound _ (function_at script.functions called) d is in
    let (cs, found, does) = bound _ (spec.all_made table objects) d rest in
    operated_below n (answer_of function) cs (object_values cs) d
    (all_below n table objects cs all found) does
own_below script n (made.DoWith source called object) inputs table d all is =
    let (function, at, rest) = bound _ (function_at script.functions called) d is in
    let (c, found, more) = bound _ (spec.made_at table source) d rest in
    let (o, other, does) = bound _ (spec.made_at table object) d more in
    beside_below n (answer_of function) c o (value_of o) d (behind_own n table source c all found)
    (behind_own n table object o all other) does
own_below script n (made.Saved is_object call) [] table d all is = absurd (cc)
own_below script n (made.Saved is_object call) (rows ∷ inputs) table d all is =
    let same : spec.rows_as rows ≡ d = cc in
    as_own n (spec.rows_as rows) d same (none_below (suc n))

-- ---- all collections

record Stands (nodes : Named Node) (table made : CollectionTable) : Type 0 where
  pub long : length made ≡ length table + length nodes
  pub below : AreBelow (length made) made

pushed : (table : CollectionTable) (o : Option Collection) → length (table ++ o ∷ [])
    ≡ suc (length table)
pushed table o = omega (arith, length-append table (o ∷ []))

-- what is so of what stands behind these
abbrev Goes : Script → Named Node → CollectionTable → Type 0
Goes script nodes made = (others : List (List Value)) (longer : CollectionTable)
    → AreBelow (length longer) longer → spec.collections script nodes others longer
    ≡ Some made
    → Stands nodes longer made

one_more : (script : Script) (entry : List ℕ × Node) (nodes : Named Node)
    (table made : CollectionTable) (o : Option Collection) (others : List (List Value))
    → Goes script nodes made
    → AreBelow (suc (length table)) (table ++ o ∷ [])
    → spec.collections script nodes others (table ++ o ∷ []) ≡ Some made
    → Stands (entry ∷ nodes) table made
one_more script entry nodes table made o others goes below is =
    let it = goes others (table ++ o ∷ [])
    (subst (λ (n : ℕ). AreBelow n (table ++ o ∷ [])) (sym (pushed table o)) below) is in
    let long = it.long in
    let one = pushed table o in
    record { long = omega arith; below = it.below }

-- going on behind a node, where it is needed or not
abbrev next : Bool → Script → List ℕ × Node → Named Node → List (List Value) → CollectionTable
    →
    Option CollectionTable
next needed script entry nodes inputs table =
    if needed
    then option_and_then (λ c.
    spec.collections script nodes (spec.inputs_behind entry.1.made inputs) (table ++ Some c ∷ []))
    (spec.made_as script (length table) entry.1.made inputs table)
    else spec.collections script nodes inputs (table ++ None ∷ [])

behind : (script : Script) (entry : List ℕ × Node) (nodes : Named Node)
    (inputs : List (List Value)) (table made : CollectionTable) → AreBelow (length table) table
    → Goes script nodes made → (needed : Bool) → next needed script entry nodes inputs table
    ≡ Some made
    → Stands (entry ∷ nodes) table made
behind script entry nodes inputs table made all goes true is =
    let (c, own, rest)
    = bound _ (spec.made_as script (length table) entry.1.made inputs table) made is in
    one_more script entry nodes table made (Some c) (spec.inputs_behind entry.1.made inputs) goes
    (push_made (suc (length table)) table c
    (more_made (length table) (suc (length table)) table (omega arith) all)
    (own_below script (length table) entry.1.made inputs table c all own)) rest
behind script entry nodes inputs table made all goes false is =
    one_more script entry nodes table made None inputs goes
    (push_none (suc (length table)) table
    (more_made (length table) (suc (length table)) table (omega arith) all)) is

stands : (script : Script) (nodes : Named Node) (inputs : List (List Value))
    (table made : CollectionTable) → AreBelow (length table) table
    → spec.collections script nodes inputs table ≡ Some made
    → Stands nodes table made
stands script [] [] table made all is =
    let same : table ≡ made = cc in
    subst (λ (t : CollectionTable). Stands [] table t) same
    (record { long = omega arith; below = all })
stands script [] (rows ∷ inputs) table made all is = absurd (cc)
stands script (entry ∷ nodes) inputs table made all is =
    behind script entry nodes inputs table made all
    (λ others longer. stands script nodes others longer made)
    (is_needed script (length table)) is

-- each trap of a script is of one of its collections
pub origins : (script : Script) (inputs : List (List Value)) (made : CollectionTable)
    → spec.meaning script inputs ≡ Some made
    → Below (length script.nodes) (spec.traps_of made)
origins script inputs made is =
    let it = stands script script.nodes (in_order script inputs) [] made tt is in
    let long = it.long in
    set_below (length script.nodes) (flat_map spec.traps_behind made)
    (behind_below (length script.nodes) made
    (more_made (length made) (length script.nodes) made (omega arith) it.below))
