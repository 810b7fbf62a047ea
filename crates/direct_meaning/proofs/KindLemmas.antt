-- What is read as an object is one.
use Rattle.std.proofs.Common.{◌≡◌, ℕ, zero, suc, true, List, [], ◌∷◌, ◌++◌, map, Some, slice_get, refl, sym, ◌∙◌, subst, append_assoc, append-nil}
use Rattle.std.specs.List.{AllByRecursion as Each}
use Rattle.script_laws.specs.of_written_types.Named.{Named}
use Rattle.script_program.specs.declared.made.Made.{Made}
use Rattle.script_program.specs.Kinds.{gives_object, values_read}
use Rattle.script_program.specs.Needed.{made_of}
use Rattle.script_program.specs.Script.{Node, Script}
use Rattle.script_laws.proofs.PlaceLemmas.{mapped-kept}
use Rattle.script_laws.specs.WellFormed.{AllReadKinds, Fits, IsWellFormed, ReadsKinds, object_at}

abbrev pub AreObjects : Named Node → List ℕ → Type 0
AreObjects before numbers = Each (λ number. object_at before number ≡ Some true) numbers

-- ---- where it stands

kinds_at : (front before rest : Named Node) (entry : List ℕ × Node)
    → AllReadKinds front (before ++ entry ∷ rest) → ReadsKinds (front ++ before) entry.1.made
kinds_at front [] rest entry kinds =
    subst (λ (l : Named Node). ReadsKinds l entry.1.made) (sym (append-nil front)) kinds.0
kinds_at front (first ∷ before) rest entry kinds =
    subst (λ (l : Named Node). ReadsKinds l entry.1.made) (append_assoc front (first ∷ []) before)
    (kinds_at (front ++ first ∷ []) before rest entry kinds.1)

-- those whose values a node of a well-formed script reads are objects
pub objects_read : (script : Script) → IsWellFormed script → (before rest : Named Node)
    (entry : List ℕ × Node) → before ++ entry ∷ rest ≡ script.nodes
    → Fits script.functions before entry.1.made entry.1.type
    → AreObjects before (values_read entry.1.made)
objects_read script well before rest entry split fits =
    let whole : AllReadKinds [] (before ++ entry ∷ rest)
    = subst (AllReadKinds []) (sym split) well.kinds in
    (kinds_at [] before rest entry whole).values

-- ---- in the whole script

in_whole : (before rest : Named Node) (numbers : List ℕ) → AreObjects before numbers
    → AreObjects (before ++ rest) numbers
in_whole before rest [] objects = tt
in_whole before rest (number ∷ numbers) objects = (
  mapped-kept (λ (entry : List ℕ × Node). gives_object entry.1.made) before rest number true
      objects.0,
  in_whole before rest numbers objects.1,
)

objects_from : (all before nodes : Named Node) → before ++ nodes ≡ all → AllReadKinds before nodes
    → (place : ℕ) (how : Made) → slice_get (map (λ entry. entry.1.made) nodes) place ≡ Some how
    → AreObjects all (values_read how)
objects_from all before [] split kinds place how found = cc
objects_from all before (entry ∷ nodes) split kinds zero how found =
    let same : entry.1.made ≡ how = cc in
    subst (λ (m : Made). AreObjects all (values_read m)) same
    (subst (λ (l : Named Node). AreObjects l (values_read entry.1.made)) split
    (in_whole before (entry ∷ nodes) (values_read entry.1.made) kinds.0.values))
objects_from all before (entry ∷ nodes) split kinds (suc place) how found =
    objects_from all (before ++ entry ∷ []) nodes
    (append_assoc before (entry ∷ []) nodes ∙ split) kinds.1 place how found

-- the same of the node of a number
pub objects_at : (script : Script) → IsWellFormed script → (number : ℕ) (how : Made)
    → slice_get (made_of script) number ≡ Some how → AreObjects script.nodes (values_read how)
objects_at script well number how found =
    objects_from script.nodes [] script.nodes refl well.kinds number how found
