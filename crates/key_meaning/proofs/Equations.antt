-- Of each collection that a script needs: what it is made of, and the rows that an input is read
-- from.
use Rattle.std.proofs.Common.{◌≡◌, ℕ, zero, suc, ◌+◌, Bool, true, false, cond, List, [], ◌∷◌, ◌++◌, length, Option, Some, None, slice_get, refl, sym, ap, ◌∙◌, subst, arith}
use Rattle.std.specs.List.{filter, flat_map}
use Rattle.flume_value.specs.declared.value.Value.{Value}
use Rattle.flume_types.specs.declared.column.Column.{Column}
use Rattle.flume_types.specs.declared.types.Ty.{Ty}
use Rattle.flume_collection.specs.Collection.{Collection}
use Rattle.outside.specs.declared.file.File.{File}
use Rattle.written_types.specs.Named.{Named}
use Rattle.script_program.specs.declared.made.Made.{Made}
use Rattle.script_program.specs.declared.made.Made.TheVariants as made
use Rattle.script_program.specs.Needed.{is_needed, collections_numbered}
use Rattle.script_program.specs.Script.{Node, Script}
use Rattle.direct_meaning.proofs.GrowLemmas.{Begins, begun_end, grows, longer, next, shorter}
use Rattle.direct_meaning.specs.Direct.{collections, inputs_behind, made_as, made_at}
use Rattle.direct_meaning.specs.Inputs.{Wanted, wanted_by}
use Rattle.key_meaning.proofs.Ways.{Table}
use Rattle.key_meaning.proofs.Sources.{ArePlain, IsPlain, rows_behind}
use Rattle.key_meaning.specs.Keyed.{AllHaveRowsIn, FilesHaveRows}

abbrev pub Lists : Type 0
Lists = List (List Value)

-- what an input is, behind which these lists are left
pub record IsFrom (files : List File) (wanted : Wanted) (left : Lists) : Type 0 where
  pub rows : List Value
  pub rest : Lists
  pub is : left ≡ rows ∷ rest
  pub has : FilesHaveRows files wanted rows

module _ (script : Script) (files : List File) where
  -- what the nodes from a number on want
  abbrev pub wanted_from : ℕ → Named Node → List Wanted
  wanted_from n nodes =
      flat_map (λ it. wanted_by it.1.1.made it.1.1.type)
      (filter (λ it. is_needed script it.0) (collections_numbered n nodes))

  -- the same, where the first is needed or not
  abbrev wanted_if : Bool → ℕ → List ℕ × Node → Named Node → List Wanted
  wanted_if needed n entry nodes =
      flat_map (λ it. wanted_by it.1.1.made it.1.1.type)
      (cond needed ((n, entry) ∷ filter (λ it. is_needed script it.0)
      (collections_numbered (suc n) nodes))
      (filter (λ it. is_needed script it.0) (collections_numbered (suc n) nodes)))

  rows_here : (how : Made) (type : Ty) (more : List Wanted) (inputs : Lists)
      → AllHaveRowsIn files (wanted_by how type ++ more) inputs → (file : List ℕ)
      (columns : List Column) → how ≡ made.Input file columns
      → IsFrom files (record { file = file; type = type }) inputs
  rows_here how type more inputs have file columns is =
      by inputs
      (subst (λ h. AllHaveRowsIn files (wanted_by h type ++ more) inputs) is have)
    where
      by : (inputs : Lists)
          → AllHaveRowsIn files (wanted_by (made.Input file columns) type ++ more) inputs
          → IsFrom files (record { file = file; type = type }) inputs
      by [] have = absurd have
      by (rows ∷ inputs) have =
          record { rows = rows; rest = inputs; is = refl; has = have.0 }

  -- what a collection is made of, and that it is
  pub record Stood (whole : Table) (number : ℕ) (how : Made) (type : Ty) : Type 0 where
    pub front : Table
    pub left : Lists
    pub begins : Begins front whole
    pub long : length front ≡ number
    pub collection : Collection
    pub made_so : made_as script number how left front ≡ Some collection
    pub is : made_at whole number ≡ Some collection
    pub rows : (file : List ℕ) (columns : List Column) → how ≡ made.Input file columns
        → IsFrom files (record { file = file; type = type }) left

  here_stands : (entry : List ℕ × Node) (nodes : Named Node) (needed : Bool)
      (made_ : Option Collection) (inputs : Lists) (table whole : Table) → needed ≡ true
      → made_as script (length table) entry.1.made inputs table ≡ made_
      → next script needed made_ entry nodes inputs table ≡ Some whole
      → AllHaveRowsIn files (wanted_if needed (length table) entry nodes) inputs
      → Stood whole (length table) entry.1.made entry.1.type
  here_stands entry nodes true None inputs table whole needed made_so is have = cc
  here_stands entry nodes true (Some c) inputs table whole needed made_so is have =
      let grown =
      grows script nodes (inputs_behind entry.1.made inputs) (table ++ Some c ∷ []) whole is in
      record {
        front = table;
        left = inputs;
        begins = shorter table whole (Some c) grown;
        long = refl;
        collection = c;
        made_so = made_so;
        is = begun_end table whole (Some c) grown;
        rows =
            rows_here entry.1.made entry.1.type (wanted_from (suc (length table)) nodes) inputs
            have;
      }
  here_stands entry nodes false made_ inputs table whole needed made_so is have = cc

  abbrev AllStand : Named Node → Type 0
  AllStand nodes =
      ArePlain nodes → (inputs : Lists) (table whole : Table)
      → collections script nodes inputs table ≡ Some whole
      → AllHaveRowsIn files (wanted_from (length table) nodes) inputs → (i number : ℕ)
      → number ≡ length table + i → (entry : List ℕ × Node) → slice_get nodes i ≡ Some entry
      → is_needed script number ≡ true → Stood whole number entry.1.made entry.1.type

  next_stand : (first : List ℕ × Node) (nodes : Named Node) → AllStand nodes
      → IsPlain first.1.made → ArePlain nodes → (needed : Bool)
      (made_ : Option Collection) (inputs : Lists) (table whole : Table)
      → next script needed made_ first nodes inputs table ≡ Some whole
      → AllHaveRowsIn files (wanted_if needed (length table) first nodes) inputs → (i number : ℕ)
      → number ≡ suc (length table + i) → (entry : List ℕ × Node)
      → slice_get nodes i ≡ Some entry → is_needed script number ≡ true
      → Stood whole number entry.1.made entry.1.type
  next_stand first nodes stand plain others true None inputs table whole is have i number at entry
      there needed =
      cc
  next_stand first nodes stand plain others true (Some c) inputs table whole is have i number at
      entry there
      needed =
      let long = longer table (Some c) in
      stand others (inputs_behind first.1.made inputs) (table ++ Some c ∷ []) whole is
      (subst (λ n. AllHaveRowsIn files (wanted_from n nodes) (inputs_behind first.1.made inputs))
      (sym long)
      (rows_behind files first.1.made first.1.type (wanted_from (suc (length table)) nodes) inputs
      plain have))
      i number (omega (arith, at, long)) entry there needed
  next_stand first nodes stand plain others false made_ inputs table whole is have i number at
      entry there
      needed =
      let long = longer table None in
      stand others inputs (table ++ None ∷ []) whole is
      (subst (λ n. AllHaveRowsIn files (wanted_from n nodes) inputs) (sym long) have) i number
      (omega (arith, at, long)) entry there needed

  all_stand : (nodes : Named Node) → AllStand nodes
  all_stand [] plain inputs table whole is have i number at entry there needed = cc
  all_stand (first ∷ nodes) plain inputs table whole is have zero number at entry there needed =
      let same : first ≡ entry = cc in
      let here : length table ≡ number = omega (arith, at) in
      subst (λ (e : List ℕ × Node). Stood whole number e.1.made e.1.type) same
      (subst (λ n. Stood whole n first.1.made first.1.type) here
      (here_stands first nodes (is_needed script (length table))
      (made_as script (length table) first.1.made inputs table) inputs table whole
      (ap (is_needed script) here ∙ needed) refl is have))
  all_stand (first ∷ nodes) plain inputs table whole is have (suc i) number at entry there needed =
      next_stand first nodes (all_stand nodes) plain.0 plain.1 (is_needed script (length table))
      (made_as script (length table) first.1.made inputs table) inputs table whole is have i number
      (omega (arith, at)) entry there needed

  pub stood : ArePlain script.nodes → (inputs : Lists) (whole : Table)
      → collections script script.nodes inputs [] ≡ Some whole
      → AllHaveRowsIn files (wanted_from 0 script.nodes) inputs → (number : ℕ)
      (entry : List ℕ × Node) → slice_get script.nodes number ≡ Some entry
      → is_needed script number ≡ true → Stood whole number entry.1.made entry.1.type
  stood plain inputs whole is have number entry there needed =
      all_stand script.nodes plain inputs [] whole is have number number (omega arith) entry there
      needed
