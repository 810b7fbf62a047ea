-- What is asked for, as keys tell it: each is a collection that an output of the script names, over
-- the files of its inputs. What stands under its key in a sound cache is what the script means.
use Rattle.std.proofs.Common.{◌≡◌, ◌∙◌, ℕ, suc, Bool, true, false, eqb, List, [], ◌∷◌, ◌++◌, Option, Some, None, if◌then◌else◌, refl, sym, ap, subst, arith, true≢false, ⊎_elim}
use Rattle.std.specs.Prelude.{IfSome, IsSome, IsSomeAnd}
use Rattle.std.specs.List.{AllByRecursion as Each, Contains}
use Rattle.std.specs.Str.{bytes_eq}
use Rattle.std.proofs.lemmas.Bool.{eqb-true}
use Rattle.std.proofs.lemmas.Slice.Eq.{bytes_eq-Decides}
use Rattle.cache_store.specs.Entries.{found_in}
use Rattle.cache_store.specs.declared.entry.CacheEntry.{CacheEntry}
use Rattle.flume_collection.specs.Collection.{Collection}
use Rattle.flume_collection.proofs.Members.{at_head, at_tail, head_or_tail, not_in_none}
use Rattle.flume_value.proofs.ApartLemmas.{canonical-tells}
use Rattle.flume_value.proofs.EachLemmas.{Each-map, Each-weaker}
use Rattle.flume_value.specs.declared.value.Value.{Value}
use Rattle.kept_results.specs.Asked.{asked_as, asked_nodes, name_read}
use Rattle.kept_results.specs.Kept.{AreFound, IsFound}
use Rattle.kept_results.specs.Keyed.{key_at}
use Rattle.kept_results.specs.Lists.{HasMembers, found_of}
use Rattle.kept_results.specs.of_direct_meaning.Direct.{made_at, meaning}
use Rattle.kept_results.specs.of_direct_meaning.Inputs.{Wanted, inputs_of}
use Rattle.kept_results.specs.of_saved_meaning.Found.{MayBeFound as IsClean, bag_or_none}
use Rattle.kept_results.proofs.SameLemmas.{saved_same}
use Rattle.kept_results.proofs.Steps.{asked_from}
use Rattle.key_meaning.specs.Keyed.{AllHaveRowsIn as TheyHaveRows, HasKeyLength, Keyed, Working, key}
use Rattle.key_meaning.specs.Rested.{rested_sizes}
use Rattle.keyed_loading.specs.Files.{AreFilesOf, IsFileOf}
use Rattle.outside.specs.Files.{bytes_of}
use Rattle.outside.specs.declared.file.File.{File}
use Rattle.run_course.specs.of_script_loading.Loads.{AllHaveRows}
use Rattle.run_course.specs.Written.{CollectionTable}
use Rattle.saved_results.specs.Saved.{saved_value}
use Rattle.saved_results.specs.declared.saved.Saved.{Saved}
use Rattle.script_keys.specs.Keys.{collection_key, key_parts_from}
use Rattle.script_program.specs.declared.made.Output.{Output}
use Rattle.script_program.specs.Script.{Node, Script}
use Rattle.written_types.specs.Named.{Named}
use Rattle.cached_course.specs.Looked.{AreKeyedOutputs}
use Rattle.cached_course.specs.Sound.{AreSound, IsValueOf, what_is_saved, value_of_kept}

-- ---- the files of inputs

module _ (told : List File) where
  first_held : (w : Wanted) (f : File) (fs : List File) (name bytes : List ℕ)
      → IsFileOf (Some told) w f
      → (bytes_of fs name ≡ Some bytes → bytes_of told name ≡ Some bytes) → (b : Bool)
      → bytes_eq f.name name ≡ b → (if b then Some f.bytes else bytes_of fs name) ≡ Some bytes
      → bytes_of told name ≡ Some bytes
  first_held w f fs name bytes own others true same e =
      let here : f.name ≡ name = (bytes_eq-Decides f.name name).0 same in
      ap (bytes_of told) (sym here ∙ own.name) ∙ own.loads.0 ∙ e
  first_held w f fs name bytes own others false apart e = others e

  -- what is found of a name is what is told
  pub held_file : (inputs : List Wanted) (files : List File) → AreFilesOf (Some told) inputs files
      → (name bytes : List ℕ) → bytes_of files name ≡ Some bytes
      → bytes_of told name ≡ Some bytes
  held_file [] [] are name bytes e = cc
  held_file [] (f ∷ fs) are name bytes e = absurd are
  held_file (w ∷ ws) [] are name bytes e = absurd are
  held_file (w ∷ ws) (f ∷ fs) are name bytes e =
      first_held w f fs name bytes are.0 (held_file ws fs are.1 name bytes) (bytes_eq f.name name)
      refl e

  some_first : (b : Bool) (bytes : List ℕ) (o : Option (List ℕ)) → IsSome o
      → IsSome (if b then Some bytes else o)
  some_first true bytes o some = refl
  some_first false bytes o some = some

  own_first : (b : Bool) (bytes : List ℕ) (o : Option (List ℕ)) → b ≡ true
      → IsSome (if b then Some bytes else o)
  own_first true bytes o is = refl
  own_first false bytes o is = cc is

  -- and each input has a file
  pub some_files : (inputs : List Wanted) (files : List File) → AreFilesOf (Some told) inputs files
      → Each (λ (w : Wanted). IsSome (bytes_of files w.file)) inputs
  some_files [] files are = tt
  some_files (w ∷ ws) [] are = absurd are
  some_files (w ∷ ws) (f ∷ fs) are = (
    own_first (bytes_eq f.name w.file) f.bytes (bytes_of fs w.file)
        ((bytes_eq-Decides f.name w.file).1 are.0.name),
    Each-weaker (λ (x : Wanted). IsSome (bytes_of fs x.file))
        (λ (x : Wanted). IsSome (bytes_of (f ∷ fs) x.file))
        (λ x some. some_first (bytes_eq f.name x.file) f.bytes (bytes_of fs x.file) some) ws
        (some_files ws fs are.1),
  )

  pub short_files : (inputs : List Wanted) (files : List File) → AreFilesOf (Some told) inputs files
      → Each (λ (f : File). HasKeyLength f.bytes) files
  short_files [] [] are = tt
  short_files [] (f ∷ fs) are = absurd are
  short_files (w ∷ ws) [] are = absurd are
  short_files (w ∷ ws) (f ∷ fs) are =
      let long = are.0.loads.1 in (omega (arith, long), short_files ws fs are.1)

  -- these have the rows of the inputs
  module _ (files : List File)
      (held : (name bytes : List ℕ) → bytes_of files name ≡ Some bytes
      → bytes_of told name ≡ Some bytes) where
    same_file : (name bytes : List ℕ) → bytes_of told name ≡ Some bytes → (o : Option (List ℕ))
        → bytes_of files name ≡ o → IsSome o → bytes_of files name ≡ Some bytes
    same_file name bytes is None at some = absurd (true≢false (sym some))
    same_file name bytes is (Some x) at some =
        let both : Some x ≡ Some bytes = sym (held name x at) ∙ is in at ∙ both

    pub they_have : (inputs : List Wanted) (rows : List (List Value))
        → Each (λ (w : Wanted). IsSome (bytes_of files w.file)) inputs
        → AllHaveRows (Some told) inputs rows → TheyHaveRows files inputs rows
    they_have [] [] some have = tt
    they_have [] (own ∷ rows) some have = absurd have
    they_have (w ∷ ws) [] some have = absurd have
    they_have (w ∷ ws) (own ∷ rows) some have = (
      (
        have.0.0,
        same_file w.file have.0.0 have.0.1.0 (bytes_of files w.file) refl some.0,
        have.0.2,
      ),
      they_have ws rows some.1 have.1,
    )

-- ---- outputs

pub each_at : {A : Type 0} (P : A → Type 0) (xs : List A) (x : A) → Each P xs → Contains xs x → P x
each_at P [] x all among = absurd (not_in_none x among)
each_at P (y ∷ ys) x all among =
    ⊎_elim (λ (same : y ≡ x). subst P same all.0)
    (λ (behind : Contains ys x). each_at P ys x all.1 behind) (head_or_tail y ys x among)

-- the first output that reads a collection, under its name
pub record IsFirst (outputs : Named Output) (it : ℕ × List ℕ) : Type 0 where
  pub output : List ℕ × Output
  pub among : Contains outputs output
  pub reads : output.1.reads ≡ it.0
  pub name : output.1.name ≡ it.1

first_behind : (entry : List ℕ × Output) (outputs : Named Output) (it : ℕ × List ℕ)
    → IsFirst outputs it → IsFirst (entry ∷ outputs) it
first_behind entry outputs it first = record {
  output = first.output;
  among = at_tail entry outputs first.output first.among;
  reads = first.reads;
  name = first.name;
}

first_of : (entry : List ℕ × Output) (outputs : Named Output) (it : ℕ × List ℕ)
    → (name_read outputs it.0 ≡ Some it.1 → IsFirst outputs it) → (b : Bool)
    → eqb entry.1.reads it.0 ≡ b
    → (if b then Some entry.1.name else name_read outputs it.0) ≡ Some it.1
    → IsFirst (entry ∷ outputs) it
first_of entry outputs it others true same e = record {
  output = entry;
  among = at_head entry outputs;
  reads = eqb-true entry.1.reads it.0 same;
  name = cc e;
}
first_of entry outputs it others false apart e =
    first_behind entry outputs it (others e)

first_reads : (outputs : Named Output) (it : ℕ × List ℕ) → name_read outputs it.0 ≡ Some it.1
    → IsFirst outputs it
first_reads [] it e = cc
first_reads (entry ∷ outputs) it e =
    first_of entry outputs it (first_reads outputs it) (eqb entry.1.reads it.0) refl e

-- each that is asked for is read under its name
one_named : (outputs : Named Output) (n : ℕ) (nodes : Named Node)
    → Each (λ (it : ℕ × List ℕ). name_read outputs it.0 ≡ Some it.1)
    (asked_from outputs (suc n) nodes)
    → (o : Option (List ℕ)) → name_read outputs n ≡ o
    → Each (λ (it : ℕ × List ℕ). name_read outputs it.0 ≡ Some it.1)
    (asked_as n o ++ asked_from outputs (suc n) nodes)
one_named outputs n nodes rest None is = rest
one_named outputs n nodes rest (Some name) is = (is, rest)

asked_named : (outputs : Named Output) (n : ℕ) (nodes : Named Node)
    → Each (λ (it : ℕ × List ℕ). name_read outputs it.0 ≡ Some it.1) (asked_from outputs n nodes)
asked_named outputs n [] = tt
asked_named outputs n (entry ∷ nodes) =
    one_named outputs n nodes (asked_named outputs (suc n) nodes) (name_read outputs n) refl

-- ---- keys

module _ (told : List File) (name : List ℕ) (script : Script) (asked : List (ℕ × List ℕ))
    (is : AreKeyedOutputs (Some told) name script asked) (rows : List (List Value))
    (have : AllHaveRows (Some told) (inputs_of script) rows) (made : CollectionTable)
    (means : meaning script rows ≡ Some made) where
  -- the script, over the files of its inputs
  abbrev pub work_here : Working
  work_here = record {
    bytes = is.loaded.0;
    tokens = is.loaded.2.list;
    cut = is.loaded.2.cut;
    statements = is.loaded.2.ast.statements;
    spelled = is.loaded.2.spelled;
    texts_short = subst (Each HasKeyLength) is.loaded.2.texted is.texts_short;
    script = script;
    checked = is.loaded.2.checked;
    files = is.files;
    files_short = short_files told (inputs_of script) is.files is.inputs;
    rows = rows;
    read = they_have told is.files (held_file told (inputs_of script) is.files is.inputs)
        (inputs_of script) rows (some_files told (inputs_of script) is.files is.inputs) have;
    made = made;
    means = means;
  }

  -- one of its outputs
  abbrev pub keyed_here : (output : List ℕ × Output) → Contains script.outputs output → Keyed
  keyed_here output among = record {
    work = work_here;
    file = output.0;
    output = output.1;
    asked = among;
    short = each_at (λ (it : List ℕ × Output). HasKeyLength it.1.name) script.outputs output
        is.names_short among;
  }

  key_here : (output : List ℕ × Output) (among : Contains script.outputs output)
      → key_at is.outlines is.texts is.files output.1.name ≡ key (keyed_here output among)
  key_here output among =
      λ i. collection_key is.files
      (key_parts_from output.1.name (is.loaded.2.outlined i) (is.loaded.2.texted i))
      output.1.name

  -- what is asked for is the collection of an output, under its key
  pub record IsKeyedBy (it : ℕ × List ℕ) : Type 0 where
    pub output : List ℕ × Output
    pub among : Contains script.outputs output
    pub reads : output.1.reads ≡ it.0
    pub key_is : it.1 ≡ key (keyed_here output among)

  keyed_by : (it : ℕ × List ℕ) → IsFirst script.outputs it
      → IsKeyedBy (it.0, key_at is.outlines is.texts is.files it.1)
  keyed_by it first = record {
    output = first.output;
    among = first.among;
    reads = first.reads;
    key_is = ap (key_at is.outlines is.texts is.files) (sym first.name)
        ∙ key_here first.output first.among;
  }

  pub all_keyed : Each IsKeyedBy asked
  all_keyed =
      subst (Each IsKeyedBy) (sym is.keyed)
      (Each-map IsKeyedBy
      (λ (it : ℕ × List ℕ). (it.0, key_at is.outlines is.texts is.files it.1))
      (asked_nodes script)
      (Each-weaker (λ (it : ℕ × List ℕ). name_read script.outputs it.0 ≡ Some it.1)
      (λ (it : ℕ × List ℕ). IsKeyedBy (it.0, key_at is.outlines is.texts is.files it.1))
      (λ it named. keyed_by it (first_reads script.outputs it named)) (asked_nodes script)
      (asked_named script.outputs 0 script.nodes)))

  -- ---- what a sound cache has under them

  -- what was found is what the script means, without a trap
  pub record IsMeantBy (it : ℕ × Saved) : Type 0 where
    pub collection : Collection
    pub made_is : made_at made it.0 ≡ Some collection
    pub clean : collection.traps ≡ []
    pub saved : it.1 ≡ what_is_saved collection (rested_sizes script made it.0)

  module _ (entries : List CacheEntry) (sound : AreSound entries) where
    value_there : (it : ℕ × List ℕ) (own : IsKeyedBy it) (bytes : List ℕ)
        → found_in entries it.1 ≡ Some bytes → IsValueOf (keyed_here own.output own.among) bytes
    value_there it own bytes at =
        subst (λ (o : Option (List ℕ)). IfSome o (IsValueOf (keyed_here own.output own.among)))
        (ap (found_in entries) (sym own.key_is) ∙ at)
        (sound (keyed_here own.output own.among))

    meant_by : (it : ℕ × List ℕ) (saved : Saved) → IsKeyedBy it
        → IsFound script it.0 it.1 entries saved → IsMeantBy (it.0, saved)
    meant_by it saved own found =
        let value = value_there it own found.0 found.1 in
        let written = found.2 in
        let same = canonical-tells (saved_value saved)
        (value_of_kept (keyed_here own.output own.among) value.collection) written.held value.held
        (sym written.bytes_are ∙ value.bytes) in
        record {
          collection = value.collection;
          made_is = ap (made_at made) (sym own.reads) ∙ value.made;
          clean = value.clean;
          saved = saved_same saved
              (what_is_saved value.collection (rested_sizes script made own.output.1.reads)) same
              ∙ ap (λ n. what_is_saved value.collection (rested_sizes script made n)) own.reads;
        }

    all_meant : (some : List (ℕ × List ℕ)) (looked : List (Option Saved)) → Each IsKeyedBy some
        → AreFound script entries some looked → Each IsMeantBy (found_of some looked)
    all_meant [] [] keyed are = tt
    all_meant [] (found ∷ looked) keyed are = absurd are
    all_meant (it ∷ some) [] keyed are = absurd are
    all_meant (it ∷ some) (None ∷ looked) keyed are = all_meant some looked keyed.1 are.1
    all_meant (it ∷ some) (Some saved ∷ looked) keyed are = (
      meant_by it saved keyed.0 are.0,
      all_meant some looked keyed.1 are.1,
    )

    pub found_meant : (looked : List (Option Saved)) → AreFound script entries asked looked
        → Each IsMeantBy (found_of asked looked)
    found_meant looked are = all_meant asked looked all_keyed are

  -- ---- as saved_meaning has it

  pub has_members : (it : ℕ × Saved) → IsMeantBy it → HasMembers made it
  has_members it meant =
      ap bag_or_none meant.made_is ∙ ap (λ (x : Saved). x.members) (sym meant.saved)

  pub is_clean : (it : ℕ × Saved) → IsMeantBy it → IsClean made it.0
  is_clean it meant =
      subst (λ (o : Option Collection). IsSomeAnd o (λ c. c.traps ≡ [])) (sym meant.made_is)
      meant.clean
