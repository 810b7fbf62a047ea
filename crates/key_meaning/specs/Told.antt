-- What texts tell of the statements of scripts.
use Rattle.std.specs.Prelude.{◌≡◌, ℕ, List, Ok, Some, length, slice_get}
use Rattle.flume_grammar.specs.Grammar.{IsScript}
use Rattle.flume_grammar.specs.Limits.{the_limits}
use Rattle.flume_grammar.specs.declared.tree.Statement.{Statement}
use Rattle.flume_tokens.specs.Tokens.{tokens_of}
use Rattle.flume_tokens.specs.declared.token.TokenList.{TokenList}
use Rattle.statement_law.specs.Lineless.{statement_lineless}
use Rattle.statement_texts.specs.Texts.{texts_of}

-- There is a text for each statement, and statements with one text are the same but for lines.
pub record AboutTexts : Type 0 where
  pub texts : (bytes : List ℕ) (list : TokenList) (statements : List Statement)
      → tokens_of bytes ≡ Ok list → IsScript the_limits list.items statements
      → length (texts_of list.items) ≡ length statements
  pub same : (bytes more : List ℕ) (list other : TokenList) (ss rs : List Statement) (j k : ℕ)
      (s r : Statement) (text : List ℕ) → tokens_of bytes ≡ Ok list
      → IsScript the_limits list.items ss → tokens_of more ≡ Ok other
      → IsScript the_limits other.items rs → slice_get (texts_of list.items) j ≡ Some text
      → slice_get ss j ≡ Some s → slice_get (texts_of other.items) k ≡ Some text
      → slice_get rs k ≡ Some r → statement_lineless s ≡ statement_lineless r
