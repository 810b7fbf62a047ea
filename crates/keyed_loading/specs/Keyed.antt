-- A script as it is loaded for keys.
use Rattle.std.specs.Prelude.{◌≡◌, ℕ, List, Option, Ok}
use Rattle.flume_grammar.specs.Grammar.{IsScript}
use Rattle.flume_grammar.specs.Limits.{the_limits}
use Rattle.flume_grammar.specs.declared.tree.Ast.{Ast}
use Rattle.flume_tokens.specs.Tokens.{tokens_of}
use Rattle.flume_tokens.specs.declared.token.TokenList.{TokenList}
use Rattle.outside.specs.declared.file.File.{File}
use Rattle.script_rules.specs.Rules.{script_of}
use Rattle.script_keys.specs.declared.outline.Outline.{Outline}
use Rattle.script_loading.specs.Limits.{script_limit}
use Rattle.script_loading.specs.Loads.{Loads}
use Rattle.script_program.specs.Script.{Script}
use Rattle.statement_law.specs.Outlined.{outlines_of}
use Rattle.statement_texts.specs.Texts.{texts_of}

-- the bytes are accepted as this script, whose statements are that to keys and have these texts
pub record IsKeyed (bytes : List ℕ) (script : Script) (outlines : List Outline)
    (texts : List (List ℕ)) : Type 0 where
  pub ast : Ast
  pub list : TokenList
  pub cut : tokens_of bytes ≡ Ok list
  pub spelled : IsScript the_limits list.items ast.statements
  pub checked : script_of ast.statements ≡ Ok script
  pub outlined : outlines ≡ outlines_of ast.statements
  pub texted : texts ≡ texts_of list.items

-- the file of that name has such bytes
abbrev pub LoadsKeyed : Option (List File) → List ℕ → Script → List Outline → List (List ℕ)
    → Type 0
LoadsKeyed told name script outlines texts =
    (bytes : List ℕ) × Loads told name script_limit bytes × IsKeyed bytes script outlines texts
