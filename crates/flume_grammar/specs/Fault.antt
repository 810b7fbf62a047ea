-- The first fault of some tokens.
use Rattle.std.specs.Prelude.{◌≡◌, ℕ, List, [], ◌∷◌, ◌++◌}
use Rattle.flume_tokens.specs.declared.token.Token.{Token}
use Rattle.flume_tokens.specs.declared.token.TokenList.{TokenList}
use Rattle.flume_grammar.specs.declared.fault.ScriptKind.{ScriptKind}
use Rattle.flume_grammar.specs.declared.fault.ScriptKind.TheVariants.{Syntax, TooDeep, TooMany}
use Rattle.flume_grammar.specs.declared.tree.Statement.{Statement}
use Rattle.flume_grammar.specs.Limits.{Limits, IsBelow, deeper, longer}
use Rattle.flume_grammar.specs.Grammar.{IsScript}

-- a script within the limits begins with these tokens
abbrev pub IsBeginning : Limits → List Token → Type 0
IsBeginning limits ts =
    (others : List Token) × (ss : List Statement) × IsScript limits (ts ++ others) ss

-- the tokens are a script within the limits
abbrev pub IsWholeScript : Limits → List Token → Type 0
IsWholeScript limits ts = (ss : List Statement) × IsScript limits ts ss

-- Why tokens are no beginning within the limits.
abbrev pub IsWhy : ScriptKind → Limits → List Token → Type 0
-- they are none within any higher limits
IsWhy Syntax limits ts = (more : Limits) → IsBelow limits more → IsBeginning more ts → ⊥
-- with one more level they are
IsWhy TooDeep limits ts = IsBeginning (deeper limits) ts
-- with one more part they are
IsWhy TooMany limits ts = IsBeginning (longer limits) ts
IsWhy _ limits ts = ⊥

-- The first fault of some tokens is on this line, and of this kind.
pub data IsFault (limits : Limits) (list : TokenList) (line : ℕ) (kind : ScriptKind) : Type 0 where
  -- at a token: those before it are a beginning, and with it they are none
  token : (before : List Token) (here : Token) (behind : List Token)
      → list.items ≡ before ++ here ∷ behind
      → here.line ≡ line
      → IsBeginning limits before
      → (IsBeginning limits (before ++ here ∷ []) → ⊥)
      → IsWhy kind limits (before ++ here ∷ [])
      → IsFault limits list line kind
  -- at the end, on the last line: all are a beginning, and no script, nor one within any higher
  -- limits
  end : list.last_line ≡ line
      → kind ≡ Syntax
      → IsBeginning limits list.items
      → (IsWholeScript limits list.items → ⊥)
      → ((more : Limits) → IsBelow limits more → IsWholeScript more list.items → ⊥)
      → IsFault limits list line kind
