-- Statements and scripts that are read are in the grammar.
use Rattle.std.proofs.Common.{◌≡◌, ℕ, List, [], ◌∷◌, Option, Some, None, IfSome, Ok, ap, ◌∙◌}
use Rattle.flume_tokens.specs.declared.token.Token.{Token}
use Rattle.flume_tokens.specs.declared.token.TokenKind.TheVariants as kind
use Rattle.flume_tokens.specs.declared.keyword.Keyword.{Keyword}
use Rattle.flume_tokens.specs.declared.keyword.Keyword.TheVariants as keyword
use Rattle.flume_grammar.specs.declared.start.StatementStart.{StatementStart}
use Rattle.flume_grammar.specs.declared.tree.Statement.{Statement}
use Rattle.flume_grammar.specs.inner.Out.{one}
use Rattle.flume_grammar.specs.inner.Reading.{of_keyword}
use Rattle.flume_grammar.specs.inner.Statements as s
use Rattle.flume_grammar.specs.Grammar as g
use Rattle.flume_grammar.specs.Terminals.{keyword_token}
use Rattle.flume_grammar.specs.Grammar.{IsStatement, AreStatements, IsScript}
use Rattle.flume_grammar.proofs.Sound.{bound, gave, moved_by, one_token}
use Rattle.flume_grammar.proofs.SoundLoops.{kept_list}
use Rattle.flume_grammar.specs.Limits.{Limits}
use Rattle.flume_grammar.proofs.Fair.{IsFair}
use Rattle.flume_grammar.proofs.SoundTokens.{of_kind, by_keyword}
use Rattle.flume_grammar.proofs.SoundForms.{Shows, s_type, s_input_form, s_let_form, s_output, s_function}

module _ (limits : Limits) (fair : IsFair limits) where
  lined_inv : (t : Token) (o : Option StatementStart) (z : StatementStart × ℕ)
      → s.with_line t o ≡ Ok z → (o ≡ Some z.0) × (t.line ≡ z.1)
  lined_inv t None z q = cc
  lined_inv t (Some r) z q = let e : (r, t.line) ≡ z = cc in
      (ap (λ (y : StatementStart × ℕ). Some y.0) e, ap (λ (y : StatementStart × ℕ). y.1) e)

  s_form : (k : Keyword)
      → IfSome (s.keyword_statement k) (λ z. Shows limits fair k (s.form_at limits z))
  s_form keyword.Type = s_type limits fair
  s_form keyword.Input = s_input_form limits fair
  s_form keyword.Fn = s_function limits fair
  s_form keyword.Let = s_let_form limits fair
  s_form keyword.Output = s_output limits fair
  s_form _ = tt

  s_statement : (ts : List Token) (x : Statement) (us : List Token)
      → s.statement_at limits ts ≡ Ok (x, us) → IsStatement limits ts us x
  s_statement ts x us q =
      let a = bound (one s.statement_start ts) _ x us q in
      let t = one_token s.statement_start ts a.got a.rest a.part in
      let i = lined_inv t.token (of_keyword s.keyword_statement t.token.kind) a.got t.gives in
      let k = by_keyword s.keyword_statement (λ j z. Shows limits fair j (s.form_at limits z))
      s_form
      t.token.kind a.got.0 i.0 in
      let c = bound (s.form_at limits a.got.0 a.rest) _ x us a.after in
      let y : Statement = record { line = a.got.1; form = c.got } in
      let v = gave y x c.rest us c.after in
      moved_by (IsStatement limits) (keyword_token k.0 a.got.1 ∷ a.rest) ts c.rest us y x
      (t.is ∙ ap (λ z. z ∷ a.rest) (of_kind t.token (kind.Keyword k.0) k.1 ∙ ap (keyword_token k.0)
      i.1))
      v.1 v.0 (k.2 a.got.1 a.rest c.got c.rest c.part)

  -- what is read to the end is a script
  pub sound_script : (ts : List Token) (ss : List Statement) → s.script_at limits ts ≡ Ok (ss, [])
      → IsScript limits ts ss
  sound_script ts ss q =
      kept_list s.is_more (s.statement_at limits) (AreStatements limits)
      (λ os xs vs x us h e. g.some h (s_statement vs x us e)) ts ss [] g.none_ q
