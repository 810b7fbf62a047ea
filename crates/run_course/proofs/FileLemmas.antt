-- The files of outputs, from the members that these read.
use Rattle.std.proofs.Common.{◌≡◌, ℕ, suc, zero, ◌+◌, ◌<◌, List, [], ◌∷◌, ◌++◌, length, take, Option, Some, None, slice_get, ap, sym, ◌∙◌, refl, subst, arith}
use Rattle.std.specs.Prelude.{IsSome, IsUtf8}
use Rattle.std.proofs.lemmas.Option.{get_or_from_slice_get, slice_get_within}
use Rattle.std.specs.List.{All, AllByRecursion, AllZip}
use Rattle.std.specs.Option.{option_map}
use Rattle.std.proofs.lemmas.List.Elements.{recursion_from_All}
use Rattle.csv_rows.specs.Text.{table_text}
use Rattle.script_loading.specs.of_direct_meaning.Direct.{made_at}
use Rattle.script_loading.specs.of_direct_meaning.Evaluated.{AreWritten as Holds, bag_at}
use Rattle.flume_collection.specs.Collection.{Collection}
use Rattle.flume_value.specs.declared.value.Value.{Value}
use Rattle.outside.specs.Saves.{FailsAt}
use Rattle.outside.specs.declared.file.File.{File as NamedBytes}
use Rattle.run_texts.specs.Texts.{NamedOutput}
use Rattle.script_program.specs.declared.made.Output.{Output}
use Rattle.script_program.specs.Script.{Script}
use Rattle.run_course.specs.Answers.{FailsAtFile}
use Rattle.run_course.specs.Written.{CollectionTable, file_of, files_of}
use Rattle.script_loading.specs.Ready.{IsReady}
use Rattle.run_course.specs.inner.Course.{AreFiles, HaveMembers, IsFileOf, file_with}

abbrev Bags : Type 0
Bags = List (Option (List Value))

pub same_some : {A : Type 0} (o : Option A) (a b : A) → o ≡ Some a → o ≡ Some b → a ≡ b
same_some {A = A} o a b first second = let same : Some a ≡ Some b = sym first ∙ second in cc

-- an output's file has the members of the collection that it reads
pub file_from : (table : CollectionTable) (output : NamedOutput) (collection : Collection)
    → made_at table output.1.reads ≡ Some collection
    → file_of table output ≡ Some (file_with output collection.bag)
file_from table output collection reads =
    ap (option_map (λ (c : Collection). file_with output c.bag)) reads

-- each output that is held reads members
pub ready : (script : Script) (table : CollectionTable) (bags : Bags)
    → All (λ (entry : NamedOutput). Holds script table bags entry.1) script.outputs
    → HaveMembers script bags
ready script table bags all =
    λ place other within. subst IsSome (sym (all place other within).bag) refl

file_made : (script : Script) (table : CollectionTable) (bags : Bags) (output : NamedOutput)
    (file : NamedBytes) → Holds script table bags output.1 → IsFileOf bags output file
    → file_of table output ≡ Some file
file_made script table bags output file held is =
    let bag : held.collection.bag ≡ is.0
    = same_some (bag_at bags output.1.reads) held.collection.bag is.0 held.bag is.1 in
    file_from table output held.collection held.reads
    ∙ ap Some (ap (file_with output) bag ∙ sym is.2)

files_by : (script : Script) (table : CollectionTable) (bags : Bags) (outputs : List NamedOutput)
    (files : List NamedBytes)
    → AllByRecursion (λ (entry : NamedOutput). Holds script table bags entry.1) outputs
    → AreFiles bags outputs files → files_of table outputs ≡ Some files
files_by script table bags [] [] all are = refl
files_by script table bags [] (file ∷ files) all are = absurd are
files_by script table bags (output ∷ outputs) [] all are = absurd are
files_by script table bags (output ∷ outputs) (file ∷ files) all are =
    rw (
      file_made script table bags output file all.0 are.0,
      files_by script table bags outputs files all.1 are.1,
    )
    refl

pub files_made : (script : Script) (table : CollectionTable) (bags : Bags) (files : List NamedBytes)
    → All (λ (entry : NamedOutput). Holds script table bags entry.1) script.outputs
    → AreFiles bags script.outputs files → files_of table script.outputs ≡ Some files
files_made script table bags files all are =
    files_by script table bags script.outputs files
    (recursion_from_All (λ (entry : NamedOutput). Holds script table bags entry.1) script.outputs
    all) are

-- ---- one output

-- what is under a number
abbrev Under : {B : Type 0} → (NamedOutput → B) → List NamedOutput → ℕ → B → Type 0
Under f outputs number x = option_map f (slice_get outputs number) ≡ Some x

under : {B : Type 0} (f : NamedOutput → B) (outputs : List NamedOutput) (number : ℕ) (x : B)
    (output : NamedOutput) → slice_get outputs number ≡ Some output → Under f outputs number x
    → f output ≡ x
under f outputs number x output found is =
    same_some (option_map f (slice_get outputs number)) (f output) x (ap (option_map f) found) is

-- an output that reads these members has their file
pub file_of_bag : (bags : Bags) (outputs : List NamedOutput) (number : ℕ) (own : Output)
    (bag : List Value) (file : NamedBytes)
    → Under (λ (entry : NamedOutput). entry.1) outputs number own
    → bag_at bags own.reads ≡ Some bag
    → ((output : NamedOutput) → slice_get outputs number ≡ Some output
    → file ≡ file_with output bag)
    → (output : NamedOutput) → slice_get outputs number ≡ Some output
    → IsFileOf bags output file
file_of_bag bags outputs number own bag file owns held is output found =
    let second : output.1 ≡ own
    = under (λ (entry : NamedOutput). entry.1) outputs number own output found owns in
    (bag, ap (λ (o : Output). bag_at bags o.reads) second ∙ held, is output found)

pub name_ready : (script : Script) (number : ℕ) (name : List ℕ) → IsReady script
    → Under (λ (entry : NamedOutput). entry.0) script.outputs number name → IsUtf8 name
name_ready script number name ready named = by (slice_get script.outputs number) refl named
  where
    by : (found : Option NamedOutput) → slice_get script.outputs number ≡ found
        → option_map (λ (entry : NamedOutput). entry.0) found ≡ Some name → IsUtf8 name
    by None is e = absurd (cc)
    by (Some output) is e =
        let same : output.0 ≡ name = cc in
        subst (λ (n : List ℕ). IsUtf8 n) same
        (subst (λ (o : NamedOutput). IsUtf8 o.0)
        (get_or_from_slice_get script.outputs number output output is)
        (ready.writes number output (slice_get_within script.outputs number output is)))

-- ---- one file more

zip_more : {A B : Type 0} (R : A → B → Type 0) (xs : List A) (ys : List B) (i : ℕ) (x : A) (y
    : B)
    → slice_get xs i ≡ Some x → AllZip R (take i xs) ys → R x y
    → AllZip R (take (suc i) xs) (ys ++ y ∷ [])
zip_more R [] ys i x y found all own = absurd (cc)
zip_more R (z ∷ xs) [] zero x y found all own =
    let same : z ≡ x = cc in (subst (λ a. R a y) (sym same) own, tt)
zip_more R (z ∷ xs) (w ∷ ys) zero x y found all own = absurd all
zip_more R (z ∷ xs) [] (suc i) x y found all own = absurd all
zip_more R (z ∷ xs) (w ∷ ys) (suc i) x y found all own =
    (all.0, zip_more R xs ys i x y found all.1 own)

pub there : (outputs : List NamedOutput) (number : ℕ) → number < length outputs
    → (output : NamedOutput) × (slice_get outputs number ≡ Some output)
there [] number within = absurd (omega arith)
there (output ∷ outputs) zero within = (output, refl)
there (output ∷ outputs) (suc number) within = there outputs number (omega arith)

pub more_files : (bags : Bags) (outputs : List NamedOutput) (number : ℕ)
    (files all : List NamedBytes) (file : NamedBytes) → number < length outputs
    → AreFiles bags (take number outputs) files
    → ((output : NamedOutput) → slice_get outputs number ≡ Some output
    → IsFileOf bags output file)
    → all ≡ files ++ file ∷ [] → AreFiles bags (take (number + 1) outputs) all
more_files bags outputs number files all file within are is longer =
    let at = there outputs number within in
    let next : suc number ≡ number + 1 = omega arith in
    subst (λ (n : ℕ). AreFiles bags (take n outputs) all) next
    (subst (λ (l : List NamedBytes). AreFiles bags (take (suc number) outputs) l) (sym longer)
    (zip_more (IsFileOf bags) outputs files number at.0 file at.1 are (is at.0 at.1)))
