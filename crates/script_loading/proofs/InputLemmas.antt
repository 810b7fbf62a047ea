-- The inputs of a script, node by node.
use Rattle.std.proofs.Common.{◌≡◌, ℕ, suc, zero, ◌+◌, ◌<◌, Bool, true, false, List, [], ◌∷◌, ◌++◌, drop, length, Option, Some, None, slice_get, ap, sym, ◌∙◌, refl, subst, append_assoc, append-nil, arith}
use Rattle.std.specs.Option.{option_map}
use Rattle.std.specs.Prelude.{Ok}
use Rattle.std.proofs.lemmas.List.{drop_all}
use Rattle.std.proofs.lemmas.Option.{get_or_from_slice_get, slice_get_within}
use Rattle.csv_rows.specs.Rows.{rows_of}
use Rattle.flume_types.specs.declared.types.Ty.{Ty}
use Rattle.build_law.specs.of_direct_meaning.Inputs.{HaveRows, Wanted, inputs_of, wanted_by}
use Rattle.script_program.specs.Needed.{is_needed}
use Rattle.flume_types.specs.Columns.{input_columns_of}
use Rattle.flume_types.specs.Typing.{AllHave}
use Rattle.flume_types.specs.declared.column.Column.{Column}
use Rattle.flume_value.specs.declared.value.Value.{Value}
use Rattle.outside.specs.declared.file.File.{File as NamedBytes}
use Rattle.script_program.specs.declared.made.Made.{Made}
use Rattle.script_program.specs.declared.made.Made.TheVariants as made
use Rattle.script_program.specs.Script.{Function, Node, Script}
use Rattle.build_law.specs.of_script_laws.WellFormed.{AllFit, Fits, IsWellFormed}
use Rattle.written_types.specs.Named.{Named}
use Rattle.script_loading.specs.Loads.{AllHaveRows}
use Rattle.script_loading.specs.inner.Reading.{HoldsBelow, IsNeededInput, inputs_at, inputs_from}
use Rattle.script_loading.specs.Ready.{IsNamedMade, IsReady}

abbrev Told : Type 0
Told = Option (List NamedBytes)

abbrev Entry : Type 0
Entry = List ℕ × Node

-- the input that a node is
abbrev wanted : Entry → List Wanted
wanted entry = wanted_by entry.1.made entry.1.type

-- rows that files have are of the types of their inputs, where decoded rows have their type
pub typed_rows : (told : Told)
    → ((bytes : List ℕ) (ty : Ty) (rows : List Value) → rows_of bytes ty ≡ Some (Ok rows)
    → AllHave ty rows)
    → (inputs : List Wanted) (rows : List (List Value)) → AllHaveRows told inputs rows
    → HaveRows inputs rows
typed_rows told typed [] [] all = tt
typed_rows told typed [] (r ∷ rows) all = absurd all
typed_rows told typed (w ∷ inputs) [] all = absurd all
typed_rows told typed (w ∷ inputs) (r ∷ rows) all =
    (typed all.0.0 w.type r all.0.2, typed_rows told typed inputs rows all.1)

-- ---- the inputs from a node on

dropped : {A : Type 0} (xs : List A) (k : ℕ) (x : A) → slice_get xs k ≡ Some x
    → drop k xs ≡ x ∷ drop (suc k) xs
dropped [] k x is = absurd (cc)
dropped (y ∷ xs) zero x is = let same : y ≡ x = cc in ap (λ h. h ∷ xs) same
dropped (y ∷ xs) (suc k) x is = dropped xs k x is

pub at_unneeded : (script : Script) (number : ℕ) → is_needed script number ≡ false
    → inputs_at script number ≡ []
at_unneeded script number is = rw is refl

at_needed : (script : Script) (number : ℕ) (entry : Entry)
    → slice_get script.nodes number ≡ Some entry → is_needed script number ≡ true
    → inputs_at script number ≡ wanted entry
at_needed script number entry found is = rw (is, found) refl

split_here : (script : Script) (number : ℕ) (entry : Entry) (nodes : Named Node) (needed : Bool)
    → slice_get script.nodes number ≡ Some entry → is_needed script number ≡ needed
    → inputs_from script number (entry ∷ nodes)
    ≡ inputs_at script number ++ inputs_from script (suc number) nodes
split_here script number entry nodes true found is = rw (is, found) refl
split_here script number entry nodes false found is = rw is refl

-- some node stands below the end
there : (nodes : Named Node) (number : ℕ) → number < length nodes
    → (entry : Entry) × (slice_get nodes number ≡ Some entry)
there [] number within = absurd (omega arith)
there (entry ∷ nodes) zero within = (entry, refl)
there (entry ∷ nodes) (suc number) within = there nodes number (omega arith)

-- they are its own and those behind it
pub its_split : (script : Script) (number : ℕ) → number < length script.nodes
    → inputs_from script number (drop number script.nodes)
    ≡ inputs_at script number ++ inputs_from script (suc number) (drop (suc number) script.nodes)
its_split script number within =
    let at = there script.nodes number within in
    ap (inputs_from script number) (dropped script.nodes number at.0 at.1)
    ∙ split_here script number at.0 (drop (suc number) script.nodes) (is_needed script number) at.1
    refl

all_done : (script : Script) (done : List Wanted)
    → inputs_of script
    ≡ done ++ inputs_from script (length script.nodes) (drop (length script.nodes) script.nodes)
    → inputs_of script ≡ done
all_done script done is =
    is
    ∙ (ap (λ (nodes : Named Node). done ++ inputs_from script (length script.nodes) nodes)
    (drop_all (length script.nodes) script.nodes (omega arith)) ∙ append-nil done)

-- what holds below a number holds below the next, if it is kept where the inputs there are added
pub below_more : (P Q : List Wanted → Type 0) (script : Script) (number : ℕ)
    → number < length script.nodes → HoldsBelow P script number
    → ((done : List Wanted) → P done → Q (done ++ inputs_at script number))
    → HoldsBelow Q script (number + 1)
below_more P Q script number within holds more =
    let own = inputs_at script number in
    let behind = inputs_from script (suc number) (drop (suc number) script.nodes) in
    let same : suc number ≡ number + 1 = omega arith in
    subst (λ (n : ℕ). HoldsBelow Q script n) same (
      holds.0 ++ own,
      holds.1 ∙ (ap (λ l. holds.0 ++ l) (its_split script number within)
          ∙ sym (append_assoc holds.0 own behind)),
      more holds.0 holds.2,
    )

-- what holds below the last number holds of all
pub below_all : (P : List Wanted → Type 0) (script : Script) (number : ℕ)
    → number ≡ length script.nodes → HoldsBelow P script number → P (inputs_of script)
below_all P script number last holds =
    let all = subst (λ (n : ℕ). HoldsBelow P script n) last holds in
    subst P (sym (all_done script all.0 all.1)) all.2

-- ---- the columns of an input

input_fits : (functions : Named Function) (before nodes : Named Node) (number : ℕ) (entry : Entry)
    (file : List ℕ) (columns : List Column) → AllFit functions before nodes
    → slice_get nodes number ≡ Some entry → entry.1.made ≡ made.Input file columns
    → input_columns_of entry.1.type ≡ Some columns
input_fits functions before [] number entry file columns fits found is = absurd (cc)
input_fits functions before (e ∷ nodes) zero entry file columns fits found is =
    let same : e ≡ entry = cc in
    let first = subst (λ (m : Made). Fits functions before m entry.1.type) is
    (subst (λ (x : Entry). Fits functions before x.1.made x.1.type) same fits.0) in
    first
input_fits functions before (e ∷ nodes) (suc number) entry file columns fits found is =
    input_fits functions (before ++ e ∷ []) nodes number entry file columns fits.1 found is

columns_fit : (script : Script) (number : ℕ) (entry : Entry) (file : List ℕ)
    (columns : List Column) → IsWellFormed script → slice_get script.nodes number ≡ Some entry
    → entry.1.made ≡ made.Input file columns → input_columns_of entry.1.type ≡ Some columns
columns_fit script number entry file columns well found is =
    input_fits script.functions [] script.nodes number entry file columns well.nodes found is

-- what stands at a number's place
at_place : (nodes : Named Node) (number : ℕ) (node : Node)
    → option_map (λ (entry : Entry). entry.1) (slice_get nodes number) ≡ Some node
    → (entry : Entry) × (slice_get nodes number ≡ Some entry) × (entry.1 ≡ node)
at_place nodes number node is = by (slice_get nodes number) is
  where
    by : (found : Option Entry) → option_map (λ (entry : Entry). entry.1) found ≡ Some node
        → (entry : Entry) × (found ≡ Some entry) × (entry.1 ≡ node)
    by None e = absurd (cc)
    by (Some entry) e = (entry, refl, cc)

-- ---- the input that a node is

-- the node of that number, where it is needed
at_node : (script : Script) (number : ℕ) (node : Node) → is_needed script number ≡ true
    → option_map (λ (entry : Entry). entry.1) (slice_get script.nodes number) ≡ Some node
    → inputs_at script number ≡ wanted_by node.made node.type
at_node script number node needed found =
    let at = at_place script.nodes number node found in
    at_needed script number at.0 at.1 needed
    ∙ ap (λ (n : Node). wanted_by n.made n.type) at.2

its_file : (script : Script) (number : ℕ) (entry : Entry) → IsReady script
    → slice_get script.nodes number ≡ Some entry → IsNamedMade entry.1.made
its_file script number entry ready found =
    subst (λ (e : Entry). IsNamedMade e.1.made)
    (get_or_from_slice_get script.nodes number entry entry found)
    (ready.reads number entry (slice_get_within script.nodes number entry found))

pub input_needed : (script : Script) (number : ℕ) (node : Node) (file : List ℕ)
    (columns shown : List Column) → IsWellFormed script → IsReady script
    → is_needed script number ≡ true
    → option_map (λ (entry : Entry). entry.1) (slice_get script.nodes number) ≡ Some node
    → node.made ≡ made.Input file columns → shown ≡ columns
    → IsNeededInput script number file shown
input_needed script number node file columns shown well ready needed found is same =
    let at = at_place script.nodes number node found in
    let made_so = ap (λ (n : Node). n.made) at.2 ∙ is in record {
      type = at.0.1.type;
      fits = columns_fit script number at.0 file columns well at.1 made_so ∙ ap Some (sym same);
      wanted = at_needed script number at.0 at.1 needed
          ∙ ap (λ (m : Made). wanted_by m at.0.1.type) made_so;
      named = subst IsNamedMade made_so (its_file script number at.0 ready at.1);
    }

-- what is no input wants none
other_made : (by : Made) (type : Ty)
    → ((file : List ℕ) (columns : List Column) → by ≡ made.Input file columns → ⊥)
    → wanted_by by type ≡ []
other_made (made.Input file columns) type other = absurd (other file columns refl)
other_made (made.Do source function output) type other = refl
other_made (made.Group source) type other = refl
other_made (made.Combine source by) type other = refl
other_made (made.Flatten sources) type other = refl
other_made (made.Count source) type other = refl
other_made (made.Join left right) type other = refl
other_made (made.Top many source) type other = refl
other_made (made.CombineAll source by) type other = refl
other_made (made.Operate objects function) type other = refl
other_made (made.DoWith source function object) type other = refl
other_made (made.Saved is_object call) type other = refl

pub at_other : (script : Script) (number : ℕ) (node : Node) → is_needed script number ≡ true
    → option_map (λ (entry : Entry). entry.1) (slice_get script.nodes number) ≡ Some node
    → ((file : List ℕ) (columns : List Column) → node.made ≡ made.Input file columns → ⊥)
    → inputs_at script number ≡ []
at_other script number node needed found other =
    at_node script number node needed found ∙ other_made node.made node.type other
