-- A collection that an output of an accepted script over files names, its key, and when it is the
-- same as another.
use Rattle.std.specs.Prelude.{◌≡◌, ◌<◌, ◌^◌, ℕ, List, [], ◌∷◌, Option, Some, Ok, length, ⊤}
use Rattle.std.specs.List.{AllByRecursion, Contains}
use Rattle.flume_value.specs.declared.value.Value.{Value}
use Rattle.flume_grammar.specs.Grammar.{IsScript}
use Rattle.flume_grammar.specs.Limits.{the_limits}
use Rattle.flume_grammar.specs.declared.tree.Statement.{Statement}
use Rattle.flume_tokens.specs.Tokens.{tokens_of}
use Rattle.flume_tokens.specs.declared.token.TokenList.{TokenList}
use Rattle.flume_collection.specs.Collection.{Collection}
use Rattle.outside.specs.Files.{bytes_of}
use Rattle.outside.specs.declared.file.File.{File}
use Rattle.csv_rows.specs.Rows.{rows_of}
use Rattle.script_program.specs.declared.made.Output.{Output}
use Rattle.script_program.specs.Script.{Script}
use Rattle.direct_meaning.specs.of_script_rules.Rules.{script_of}
use Rattle.direct_meaning.specs.of_script_laws.WellFormed.{members_at, object_at}
use Rattle.direct_meaning.specs.Direct.{made_at, meaning}
use Rattle.direct_meaning.specs.Inputs.{Wanted, inputs_of}
use Rattle.script_keys.specs.Keys.{collection_key, key_parts_from}
use Rattle.statement_law.specs.Outlined.{outlines_of}
use Rattle.statement_texts.specs.Texts.{texts_of}
use Rattle.key_meaning.specs.Rested.{rested_sizes}
use Rattle.key_meaning.specs.Same.{IsSameCollection}

-- ---- rows

-- the file of an input has these rows
abbrev pub FilesHaveRows : List File → Wanted → List Value → Type 0
FilesHaveRows files wanted rows =
    (bytes : List ℕ) × (bytes_of files wanted.file ≡ Some bytes)
    × (rows_of bytes wanted.type ≡ Some (Ok rows))

-- the same of several inputs, in order
abbrev pub AllHaveRowsIn : List File → List Wanted → List (List Value) → Type 0
AllHaveRowsIn files [] [] = ⊤
AllHaveRowsIn files [] (rows ∷ others) = ⊥
AllHaveRowsIn files (wanted ∷ inputs) [] = ⊥
AllHaveRowsIn files (wanted ∷ inputs) (rows ∷ others) =
    FilesHaveRows files wanted rows × AllHaveRowsIn files inputs others

-- ---- what is keyed

-- bytes whose length a key can say
abbrev pub HasKeyLength : List ℕ → Type 0
HasKeyLength bytes = length bytes < 2 ^ 64

-- A script that is accepted, over files: what it means over the rows of the inputs that it needs.
pub record Working : Type 0 where
  pub bytes : List ℕ
  pub tokens : TokenList
  pub cut : tokens_of bytes ≡ Ok tokens
  pub statements : List Statement
  pub spelled : IsScript the_limits tokens.items statements
  pub texts_short : AllByRecursion HasKeyLength (texts_of tokens.items)
  pub script : Script
  pub checked : script_of statements ≡ Ok script
  pub files : List File
  pub files_short : AllByRecursion (λ file. HasKeyLength file.bytes) files
  pub rows : List (List Value)
  pub read : AllHaveRowsIn files (inputs_of script) rows
  pub made : List (Option Collection)
  pub means : meaning script rows ≡ Some made

-- An output of such a script, under the name of its file.
pub record Keyed : Type 0 where
  pub work : Working
  pub file : List ℕ
  pub output : Output
  pub asked : Contains work.script.outputs (file, output)
  pub short : HasKeyLength output.name

-- the key of the collection that it reads
abbrev pub key : Keyed → List ℕ
key it =
    collection_key it.work.files
    (key_parts_from it.output.name (outlines_of it.work.statements) (texts_of it.work.tokens.items))
    it.output.name

-- ---- when two are the same

-- The collections that two outputs read are of one name, one type and one kind, they are made, have
-- the same members and traps, and rest on collections of the same names and sizes, in one order.
pub record IsSameFor (one other : Keyed) : Type 0 where
  pub name : one.output.name ≡ other.output.name
  pub type : members_at one.work.script.nodes one.output.reads
      ≡ members_at other.work.script.nodes other.output.reads
  pub kind : object_at one.work.script.nodes one.output.reads
      ≡ object_at other.work.script.nodes other.output.reads
  pub here : Collection
  pub there : Collection
  pub made_here : made_at one.work.made one.output.reads ≡ Some here
  pub made_there : made_at other.work.made other.output.reads ≡ Some there
  pub same : IsSameCollection one.work.script.nodes other.work.script.nodes here there
  pub sizes : rested_sizes one.work.script one.work.made one.output.reads
      ≡ rested_sizes other.work.script other.work.made other.output.reads
