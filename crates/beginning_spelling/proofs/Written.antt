-- Beginnings that can be spelled are beginnings that bytes have.
use Rattle.std.proofs.Common.{◌≡◌, List, ◌++◌, Ok, subst}
use Rattle.std.specs.Prelude.{IsUtf8}
use Rattle.flume_tokens.specs.declared.token.Token.{Token}
use Rattle.flume_tokens.specs.Tokens.{tokens_from}
use Rattle.flume_grammar.specs.Limits.{Limits}
use Rattle.flume_grammar.specs.Fault.{IsBeginning, IsWholeScript}
use Rattle.flume_grammar.specs.Grammar.{IsScript}
use Rattle.token_spelling.specs.Spellable.{AreSpellable}
use Rattle.token_spelling.specs.Spelled.{spelled}
use Rattle.beginning_spelling.specs.Beginning.{HaveTokens, IsWrittenBeginning}
use Rattle.beginning_spelling.proofs.FilledScripts.{script_filled}
use Rattle.beginning_spelling.proofs.PlainTokens.{plan, behind, stay, spelled_behind}

-- a script stays one with plain tokens behind those that stay
whole_behind : (limits : Limits) (ts others : List Token) → IsWholeScript limits (ts ++ others)
    → IsWholeScript limits (ts ++ behind 1 ts others)
whole_behind limits ts others (ss, h) =
    let (q, rs, k) = script_filled limits h (plan 1 ts) in
    (rs, subst (λ us. IsScript limits us rs) (stay 1 ts others) k)

module _ (cut : (ts : List Token) → AreSpellable ts → tokens_from 0 1 (spelled ts) ≡ Ok ts)
    (text : (ts : List Token) → AreSpellable ts → IsUtf8 (spelled ts)) where
  pub have_tokens : (ts : List Token) → AreSpellable ts → HaveTokens (spelled ts) ts
  have_tokens ts h = (text ts h, cut ts h)

  pub written : (limits : Limits) (ts : List Token) → AreSpellable ts → IsBeginning limits ts
      → IsWrittenBeginning limits ts
  written limits ts h (others, ss, k) =
      let us = ts ++ behind 1 ts others in (
        spelled us,
        behind 1 ts others,
        have_tokens us (spelled_behind ts others h),
        whole_behind limits ts others (ss, k),
      )

pub only : (limits : Limits) (ts : List Token) → IsWrittenBeginning limits ts
    → IsBeginning limits ts
only limits ts (bytes, others, h, w) = (others, w.0, w.1)
