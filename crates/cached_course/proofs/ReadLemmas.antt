-- How far a call came that has looked for what was kept, in the words of the run without a cache.
use Rattle.std.proofs.Common.{ℕ, List, Option, None}
use Rattle.cache_store.specs.Seen.{SeenCache}
use Rattle.command_words.specs.declared.words.Command.TheVariants.{Run}
use Rattle.outside.specs.declared.file.File.{File}
use Rattle.run_course.specs.Asked.{AskOn}
use Rattle.run_course.specs.of_script_loading.Accepted.{Accepted}
use Rattle.script_keys.specs.declared.outline.Outline.{Outline}
use Rattle.script_program.specs.Script.{Script}
use Rattle.keyed_loading.specs.Keyed.{IsKeyed}
use Rattle.cached_course.specs.Answers.{HasLooked}

-- bytes of a keyed script are accepted as it
pub accepted : (bytes : List ℕ) (script : Script) (outlines : List Outline) (texts : List (List ℕ))
    → IsKeyed bytes script outlines texts → Accepted bytes script
accepted bytes script outlines texts it = (it.ast, (it.list, it.cut, it.spelled), it.checked)

pub looked_reads : (words : List (List ℕ)) (told : Option (List File)) (cache later : SeenCache)
    (it : HasLooked words told cache later) → AskOn words told (Run it.settings None) it.script
looked_reads words told cache later it =
    let loaded = it.of_script.loaded in (
      it.name,
      loaded.0,
      it.asks,
      loaded.1,
      accepted loaded.0 it.script it.of_script.outlines it.of_script.texts loaded.2,
    )
