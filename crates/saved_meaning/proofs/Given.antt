-- What is given to a script in which some collections are kept ones are lists of its sources.
use Rattle.std.proofs.Common.{◌≡◌, ℕ, zero, suc, ◌+◌, Bool, true, false, List, [], ◌∷◌, ◌++◌, length, Option, Some, None, if◌then◌else◌, slice_get, refl, sym, ap, ◌∙◌, subst, arith, append_assoc, length-append}
use Rattle.std.specs.Prelude.{IfSome, IsSomeAnd}
use Rattle.std.specs.List.{AllByRecursion as Each, AllZip, filter, flat_map}
use Rattle.flume_types.specs.declared.column.Column.{Column}
use Rattle.flume_types.specs.declared.types.Ty.{Ty}
use Rattle.flume_value.specs.declared.value.Value.{Value}
use Rattle.flume_collection.specs.Collection.{Collection}
use Rattle.written_types.specs.Named.{Named}
use Rattle.script_program.specs.declared.made.Made.{Made}
use Rattle.script_program.specs.declared.made.Made.TheVariants as made
use Rattle.script_program.specs.Kinds.{gives_object}
use Rattle.script_program.specs.Needed.{holds_number, is_needed, collections_numbered}
use Rattle.script_program.specs.Saved.{IsUnsaved, saved_as, saved_among, saved_node, with_saved}
use Rattle.script_program.specs.Script.{Node, Script}
use Rattle.direct_meaning.specs.of_script_laws.WellFormed.{IsWellFormed}
use Rattle.direct_meaning.proofs.PlainLemmas.{flat-if, more_if}
use Rattle.direct_meaning.specs.Direct.{inputs_behind, made_at}
use Rattle.direct_meaning.specs.Inputs.{AreLists, IsListOf, Sourced, sourced_by}
use Rattle.direct_meaning.specs.Made.{AreMade, IsCollectionOf, IsMadeFor, IsObjectFor}
use Rattle.direct_meaning.specs.Objects.{IsObject, members_behind}
use Rattle.saved_meaning.specs.Found.{MayBeFound, bag_or_none}
use Rattle.saved_meaning.proofs.Going.{Lists, Table, later, own_list, none_first, rows_left, to_come}
use Rattle.saved_meaning.proofs.SameMakes.{IsNoSource, Kind, input, kind_of, other, saved}
use Rattle.saved_meaning.proofs.StillNeeded.{needed-before}

-- ---- what is kept is a list of its source

zip-at : (R : List ℕ × Node → Collection → Type 0) (nodes : Named Node) (table : Table)
    → AllZip (λ entry o. IfSome o (R entry)) nodes table → (n : ℕ) (entry : List ℕ × Node)
    (c : Collection) → slice_get nodes n ≡ Some entry → made_at table n ≡ Some c → R entry c
zip-at R [] [] all n entry c there is = cc
zip-at R [] (d ∷ table) all n entry c there is = absurd all
zip-at R (first ∷ nodes) [] all n entry c there is = absurd all
zip-at R (first ∷ nodes) (None ∷ table) all zero entry c there is = cc
zip-at R (first ∷ nodes) (Some d ∷ table) all zero entry c there is =
    let e : first ≡ entry = cc in
    let f : d ≡ c = cc in
    subst (λ x. R x c) e (subst (R first) f all.0)
zip-at R (first ∷ nodes) (d ∷ table) all (suc n) entry c there is =
    zip-at R nodes table all.1 n entry c there is

record Sound (o : Option Collection) : Type 0 where
  pub collection : Collection
  pub is : o ≡ Some collection
  pub none : collection.traps ≡ []

sound : (o : Option Collection) → IsSomeAnd o (λ c. c.traps ≡ []) → Sound o
sound None h = absurd h
sound (Some c) h = record { collection = c; is = refl; none = h }

module _ (script : Script) (table : Table) (are : AreMade script script.nodes table) where
  pub kept-list : (n : ℕ) (entry : List ℕ × Node) → slice_get script.nodes n ≡ Some entry
      → MayBeFound table n
      → IsListOf (record { type = entry.1.type; is_object = gives_object entry.1.made })
      (bag_or_none (made_at table n))
  kept-list n entry there is_sound =
      let it = sound (made_at table n) is_sound in
      let c = it.collection in
      let made_ =
      zip-at (λ e d. IsCollectionOf e.1.type d) script.nodes table are.each n entry c there it.is in
      let object =
      zip-at (λ e d. gives_object e.1.made ≡ true → IsObject d) script.nodes table are.objects n
      entry c there it.is in
      subst
      (λ o. IsListOf (record { type = entry.1.type; is_object = gives_object entry.1.made })
      (bag_or_none o)) (sym it.is)
      (record {
        typed = made_.typed;
        one = λ yes_. object yes_ ∙ ap members_behind it.none;
      })

-- ---- one collection more

module _ (own others : List Sourced) (rest : Lists) where
  abbrev made_if : Bool → Made → Made
  made_if kept how = if kept then saved_as how else how

  abbrev Given : Bool → Bool → Made → Ty → List Value → Lists → Type 0
  Given still kept how type members rows =
      AreLists (more_if still (sourced_by (made_if kept how) type) others)
      (own_list still kept members how rows ++ rest)

  input-given : (needed still kept : Bool) (file : List ℕ) (columns : List Column) (type : Ty)
      (members : List Value) (rows : Lists) → (still ≡ true → needed ≡ true)
      → (kept ≡ true → IsListOf (record { type = type; is_object = false }) members)
      → AreLists (more_if needed (sourced_by (made.Input file columns) type) own) rows
      → (AreLists own (rows_left needed (made.Input file columns) rows) → AreLists others rest)
      → Given still kept (made.Input file columns) type members rows
  input-given true still kept file columns type members [] both is have behind = absurd have
  input-given true true true file columns type members (list ∷ rows) both is have behind =
      (is refl, behind have.1)
  input-given true true false file columns type members (list ∷ rows) both is have behind =
      (have.0, behind have.1)
  input-given true false kept file columns type members (list ∷ rows) both is have behind =
      behind have.1
  input-given false true kept file columns type members rows both is have behind =
      let e = both refl in cc
  input-given false false kept file columns type members rows both is have behind = behind have

  other-given : (still kept : Bool) (how : Made) → IsNoSource how → (type : Ty)
      → (members : List Value) (rows : Lists)
      → (kept ≡ true → IsListOf (record { type = type; is_object = gives_object how }) members)
      → AreLists others rest → Given still kept how type members rows
  other-given true true how none type members rows is behind = (is refl, behind)
  other-given true false how none type members rows is behind =
      subst (λ l. AreLists (sourced_by how type ++ others) (l ++ rest))
      (sym (none_first how none.others rows))
      (subst (λ l. AreLists (l ++ others) rest) (sym (none.sourced type)) behind)
  other-given false kept how none type members rows is behind = behind

  without : (needed : Bool) (how : Made) → IsNoSource how → (type : Ty) (rows : Lists)
      → AreLists (more_if needed (sourced_by how type) own) rows
      → AreLists own (rows_left needed how rows)
  without true how none type rows have =
      subst (AreLists own) (sym (none.behind rows))
      (subst (λ l. AreLists (l ++ own) rows) (none.sourced type) have)
  without false how none type rows have = have

  given : (needed still kept : Bool) {how : Made} → Kind how → IsUnsaved how → (type : Ty)
      → (members : List Value) (rows : Lists) → (still ≡ true → needed ≡ true)
      → (kept ≡ true → IsListOf (record { type = type; is_object = gives_object how }) members)
      → AreLists (more_if needed (sourced_by how type) own) rows
      → (AreLists own (rows_left needed how rows) → AreLists others rest)
      → Given still kept how type members rows
  given needed still kept (input file columns) un type members rows both is have behind =
      input-given needed still kept file columns type members rows both is have behind
  given needed still kept (saved is_object call) un type members rows both is have behind =
      absurd un
  given needed still kept (other how none) un type members rows both is have behind =
      other-given still kept how none type members rows is
      (behind (without needed how none type rows have))

-- ---- all

at_seam : (before nodes : Named Node) (entry : List ℕ × Node) (n : ℕ) → length before ≡ n
    → slice_get (before ++ entry ∷ nodes) n ≡ Some entry
at_seam [] nodes entry zero size = refl
at_seam [] nodes entry (suc n) size = absurd (omega arith)
at_seam (first ∷ before) nodes entry zero size = absurd (omega arith)
at_seam (first ∷ before) nodes entry (suc n) size = at_seam before nodes entry n (omega arith)

module _ (script : Script) (well : IsWellFormed script) (found : List ℕ) (all : Table)
    (lists : (n : ℕ) (entry : List ℕ × Node) → slice_get script.nodes n ≡ Some entry
    → holds_number found n ≡ true
    → IsListOf (record { type = entry.1.type; is_object = gives_object entry.1.made })
    (bag_or_none (made_at all n))) where
  abbrev to : Script
  to = later script found all

  abbrev sourced_in : Script → ℕ → Named Node → List Sourced
  sourced_in own n nodes =
      flat_map (λ it. sourced_by it.1.1.made it.1.1.type)
      (filter (λ it. is_needed own it.0) (collections_numbered n nodes))

  abbrev AllGiven : Named Node → Type 0
  AllGiven nodes = (before : Named Node) → before ++ nodes ≡ script.nodes
      → Each (λ entry. IsUnsaved entry.1.made) nodes
      → (n : ℕ) → length before ≡ n → (rows : Lists)
      → AreLists (sourced_in script n nodes) rows
      → AreLists (sourced_in to n (saved_among found n nodes))
      (to_come script found all n nodes rows)

  sourced-saved : (b : Bool) (entry : List ℕ × Node)
      → sourced_by (if b then (entry.0, saved_node entry.1) else entry).1.made
      (if b then (entry.0, saved_node entry.1) else entry).1.type
      ≡ sourced_by (if b then saved_as entry.1.made else entry.1.made) entry.1.type
  sourced-saved true entry = refl
  sourced-saved false entry = refl

  pub all-given : (nodes : Named Node) → AllGiven nodes
  all-given [] before split un n place [] have = tt
  all-given [] before split un n place (list ∷ rows) have = absurd have
  all-given (entry ∷ nodes) before split un n place rows have =
      let how = entry.1.made in
      let needed = is_needed script n in
      let still = is_needed to n in
      let b = holds_number found n in
      let saved_nodes = saved_among found (suc n) nodes in
      let own = sourced_in script (suc n) nodes in
      let others = sourced_in to (suc n) saved_nodes in
      let entry_ : List ℕ × Node = if b then (entry.0, saved_node entry.1) else entry in
      let there : slice_get script.nodes n ≡ Some entry =
      ap (λ (l : Named Node). slice_get l n) (sym split) ∙ at_seam before nodes entry n place in
      let mine =
      flat-if (λ (x : ℕ × (List ℕ × Node)). sourced_by x.1.1.made x.1.1.type) needed (n, entry)
      (filter (λ it. is_needed script it.0) (collections_numbered (suc n) nodes)) in
      let theirs =
      flat-if (λ (x : ℕ × (List ℕ × Node)). sourced_by x.1.1.made x.1.1.type) still (n, entry_)
      (filter (λ it. is_needed to it.0) (collections_numbered (suc n) saved_nodes))
      ∙ ap (λ l. more_if still l others) (sourced-saved b entry) in
      subst (λ l. AreLists l (to_come script found all n (entry ∷ nodes) rows)) (sym theirs)
      (given own others (to_come script found all (suc n) nodes (rows_left needed how rows))
      needed still b (kind_of how) un.0 entry.1.type (bag_or_none (made_at all n)) rows
      (needed-before script well found n)
      (lists n entry there)
      (subst (λ l. AreLists l rows) mine have)
      (λ left.
      all-given nodes (before ++ entry ∷ [])
      (append_assoc before (entry ∷ []) nodes ∙ split) un.1 (suc n)
      (omega (arith, place, length-append before (entry ∷ []))) (rows_left needed how rows) left))
