-- Scripts as they are written: their sources are inputs, and they are well formed with any one of
-- their outputs alone.
use Rattle.std.proofs.Common.{◌≡◌, ℕ, List, [], ◌∷◌, ◌++◌, Option, Some, Ok, sym, ap, ◌∙◌, arith}
use Rattle.std.specs.List.{AllByRecursion as Each, Contains}
use Rattle.std.proofs.lemmas.List.Elements.{All-contains, All-cons, All-nil}
use Rattle.flume_value.specs.declared.value.Value.{Value}
use Rattle.flume_types.specs.declared.types.Ty.{Ty}
use Rattle.flume_grammar.specs.declared.tree.Statement.{Statement}
use Rattle.flume_collection.specs.Collection.{Collection}
use Rattle.outside.specs.declared.file.File.{File}
use Rattle.written_types.specs.Named.{Named}
use Rattle.script_program.specs.declared.made.Made.{Made}
use Rattle.script_program.specs.declared.made.Made.TheVariants as made
use Rattle.script_program.specs.declared.made.Output.{Output}
use Rattle.script_program.specs.Saved.{IsUnsaved}
use Rattle.script_program.specs.Script.{Node, Script}
use Rattle.direct_meaning.specs.of_script_rules.Rules.{script_of}
use Rattle.direct_meaning.proofs.of_script_laws.RuleLemmas.{unsaved}
use Rattle.direct_meaning.specs.of_script_laws.WellFormed.{HasColumns, IsWellFormed}
use Rattle.direct_meaning.proofs.PlainLemmas.{plain-order}
use Rattle.direct_meaning.specs.Direct.{collections, inputs_behind, meaning}
use Rattle.direct_meaning.specs.Inputs.{Wanted, wanted_by}
use Rattle.key_meaning.specs.Keyed.{AllHaveRowsIn}

abbrev pub IsPlain : Made → Type 0
IsPlain = IsUnsaved

abbrev pub ArePlain : Named Node → Type 0
ArePlain nodes = Each (λ entry. IsPlain entry.1.made) nodes

-- what is left of rows behind a collection
pub rows_behind : (files : List File) (how : Made) (type : Ty) (more : List Wanted)
    (inputs : List (List Value)) → IsPlain how
    → AllHaveRowsIn files (wanted_by how type ++ more) inputs
    → AllHaveRowsIn files more (inputs_behind how inputs)
rows_behind files (made.Input file columns) type more [] plain have = absurd have
rows_behind files (made.Input file columns) type more (rows ∷ inputs) plain have = have.1
rows_behind files (made.Saved is_object call) type more inputs plain have = absurd plain
rows_behind files _ type more inputs plain have = have

-- scripts that are accepted
pub written_plain : (statements : List Statement) (script : Script)
    → script_of statements ≡ Ok script → ArePlain script.nodes
written_plain = unsaved

-- their meaning is over rows as they stand
pub plain_meaning : (script : Script) → ArePlain script.nodes → (rows : List (List Value))
    (table : List (Option Collection)) → meaning script rows ≡ Some table
    → collections script script.nodes rows [] ≡ Some table
plain_meaning script plain rows table e =
    ap (λ lists. collections script script.nodes lists []) (sym (plain-order script plain rows)) ∙ e

-- ---- the script with one output alone

abbrev pub alone : Script → List ℕ × Output → Script
alone script output = record script { outputs = output ∷ [] }

pub alone_well : (script : Script) (output : List ℕ × Output) → Contains script.outputs output
    → IsWellFormed script → IsWellFormed (alone script output)
alone_well script output among well = record {
  functions = well.functions;
  gives = well.gives;
  nodes = well.nodes;
  kinds = well.kinds;
  calls = well.calls;
  outputs =
      All-cons (λ (entry : List ℕ × Output). HasColumns script.nodes entry.1) output []
      (All-contains (λ (entry : List ℕ × Output). HasColumns script.nodes entry.1) script.outputs
      output well.outputs among)
      (All-nil (λ (entry : List ℕ × Output). HasColumns script.nodes entry.1));
  some = omega arith;
  few = well.few;
}
