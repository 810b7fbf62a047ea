-- The keys of the collections that are asked for.
use Rattle.std.specs.Prelude.{ℕ, List, map}
use Rattle.outside.specs.declared.file.File.{File}
use Rattle.script_keys.specs.Keys.{collection_key, key_parts_from}
use Rattle.script_keys.specs.declared.outline.Outline.{Outline}
use Rattle.script_program.specs.Script.{Script}
use Rattle.kept_results.specs.Asked.{asked_nodes}

-- of a script whose statements are that to keys and have these texts, over these files
module _ (outlines : List Outline) (texts : List (List ℕ)) (files : List File) where
  -- the key of the collection of a name
  abbrev pub key_at : List ℕ → List ℕ
  key_at name = collection_key files (key_parts_from name outlines texts) name

  -- the numbers of the collections that are asked for, in order, and the key of each
  abbrev pub keyed_nodes : Script → List (ℕ × List ℕ)
  keyed_nodes script = map (λ it. (it.0, key_at it.1)) (asked_nodes script)
