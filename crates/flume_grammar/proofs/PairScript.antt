-- Statements and scripts within limits and within higher ones.
use Rattle.std.proofs.Common.{ℕ, ◌+◌, length, length-append, List, [], ◌∷◌, ◌++◌, Option, Some, None, refl, arith}
use Rattle.flume_tokens.specs.declared.token.Token.{Token}
use Rattle.flume_tokens.specs.declared.keyword.Keyword.TheVariants as keyword
use Rattle.flume_tokens.specs.declared.sign.Sign.TheVariants as sign
use Rattle.flume_grammar.specs.declared.fault.ScriptKind.TheVariants.{Syntax}
use Rattle.flume_grammar.specs.declared.start.StatementStart.{StatementStart}
use Rattle.flume_grammar.specs.declared.start.StatementStart.TheVariants as stating
use Rattle.flume_grammar.specs.declared.tree.Statement.{Statement}
use Rattle.flume_grammar.specs.inner.Out.{give, bind, one}
use Rattle.flume_grammar.specs.inner.Reading.{number_at, numbered, of_keyword}
use Rattle.flume_grammar.specs.Parts.{Tree}
use Rattle.flume_grammar.specs.inner.Types.{whole_type}
use Rattle.flume_grammar.specs.inner.Bodies.{whole_block}
use Rattle.flume_grammar.specs.inner.Statements as s
use Rattle.flume_grammar.specs.Terminals.{keyword_token}
use Rattle.flume_grammar.specs.Limits.{Limits}
use Rattle.flume_grammar.proofs.Fair.{IsFair}
use Rattle.flume_grammar.proofs.Open.{any, free, within}
use Rattle.flume_grammar.proofs.OpenTokens.{owns_option, token, no_comma}
use Rattle.flume_grammar.proofs.OpenScript as o_scripts
use Rattle.flume_grammar.proofs.OpenScript.{settled}
use Rattle.flume_grammar.proofs.OpenBodies.{other_than, unscaled, opening}
use Rattle.flume_grammar.proofs.Depths.{each_after, each_give}
use Rattle.flume_grammar.proofs.Pair.{Kinds, Raise, Plain}
use Rattle.flume_grammar.proofs.PairThen.{IsPair, pair_wider, pair_then, pair_loop}
use Rattle.flume_grammar.proofs.PairTokens.{Growth, plain_ok, plain_fault, plain_option, pair_token, pair_name, pair_text, pair_sign, pair_keyword, pair_commas}
use Rattle.flume_grammar.proofs.PairTypes.{pair_whole}
use Rattle.flume_grammar.proofs.PairLets.{none_settled, settled_given, comma_given, r_names, r_let}
use Rattle.flume_grammar.proofs.PairBodies.{pair_optional_in, pair_numbered, whole_given, r_whole}

module _ (K : Kinds) (limits more : Limits) (fair : IsFair limits) (fair_more : IsFair more)
    (growth : Growth K limits more) where
  r_scale : IsPair K unscaled unscaled (numbered keyword.Scale) (numbered keyword.Scale)
  r_scale =
      pair_optional_in K keyword.Scale
      (λ _ us. bind (one number_at us) (λ n vs. give (Some n) vs))
      (λ _ us. bind (one number_at us) (λ n vs. give (Some n) vs)) None unscaled
      (within unscaled (other_than keyword.Scale) (λ k i. i.0))
      (pair_numbered K growth.syntax_ keyword.Scale)

  w : IsPair K any any (whole_type limits) (whole_type more)
  w = pair_whole K limits more fair fair_more growth

  r_type : (types : List Tree)
      → IsPair K any any (λ us. bind (whole_type limits us) (λ t vs. give (types ++ t ∷ []) vs))
      (λ us. bind (whole_type more us) (λ t vs. give (types ++ t ∷ []) vs))
  r_type types = pair_then K any any any (whole_type limits) (whole_type more) _ _ w
      (λ t. whole_given K limits more fair fair_more growth _)

  r_more_types : IsPair K no_comma no_comma (s.more_types limits) (s.more_types more)
  r_more_types =
      pair_commas K growth.syntax_ no_comma any (free no_comma)
      (λ k i. i)
      (λ (types : List Tree). 1 + length types) limits.outputs more.outputs growth.outputs
      (λ types _ us. bind (whole_type limits us) (λ t vs. give (types ++ t ∷ []) vs))
      (λ types _ us. bind (whole_type more us) (λ t vs. give (types ++ t ∷ []) vs))
      (λ types _. r_type types)
      (λ types _. each_after _ (whole_type limits) _
      (λ t. each_give _ _ (let i = length-append types (t ∷ []) in omega (arith, i))))
      [] fair.outputs

  r_signature : IsPair K any no_comma (s.signature limits) (s.signature more)
  r_signature =
      pair_sign K growth.syntax_ any no_comma sign.Open _ _ tt
      (λ _. pair_name K growth.syntax_ any no_comma _ _ tt
      (λ x. pair_sign K growth.syntax_ any no_comma sign.Colon _ _
      tt
      (λ _. pair_then K any any no_comma (whole_type limits) (whole_type more) _ _ w (λ a.
      pair_sign K growth.syntax_ any no_comma sign.Close _ _ tt
      (λ _. pair_sign K growth.syntax_ any no_comma sign.Arrow _ _
      tt
      (λ _. pair_then K any any no_comma (whole_type limits) (whole_type more) _ _ w (λ c.
      pair_wider K no_comma any no_comma _ _ (free no_comma)
      (pair_then K no_comma no_comma no_comma (s.more_types limits) (s.more_types more) _ _
      r_more_types (λ cs. comma_given K _)))))))))

  r_function : IsPair K any settled (s.function_form limits) (s.function_form more)
  r_function =
      pair_name K growth.syntax_ any settled _ _ tt
      (λ f. pair_then K any no_comma settled (s.signature limits) (s.signature more) _ _
      r_signature
      (λ g.
      pair_wider K unscaled no_comma settled _ _ (within unscaled no_comma (λ k i. i.1))
      (pair_then K unscaled unscaled settled (numbered keyword.Scale) (numbered keyword.Scale) _ _
      r_scale (λ n.
      pair_then K unscaled any settled (whole_block limits) (whole_block more) _ _
      (pair_wider K opening unscaled any (whole_block limits) (whole_block more)
      (within opening unscaled (λ k i. i.1)) (r_whole K limits more fair fair_more growth))
      (λ x. none_settled K _)))))

  r_form : (x : StatementStart) → IsPair K any settled (s.form_at limits x) (s.form_at more x)
  r_form stating.Type =
      pair_name K growth.syntax_ any settled _ _ tt
      (λ x. pair_sign K growth.syntax_ any settled sign.Assign _ _
      tt
      (λ _. pair_then K any any settled (whole_type limits) (whole_type more) _ _ w
      (λ t. none_settled K _)))
  r_form stating.Input =
      pair_name K growth.syntax_ any settled _ _ tt
      (λ x. pair_sign K growth.syntax_ any settled sign.Colon _ _
      tt
      (λ _. pair_then K any any settled (whole_type limits) (whole_type more) _ _ w (λ t.
      pair_keyword K growth.syntax_ any settled keyword.From _ _
      tt
      (λ _. pair_text K growth.syntax_ any settled _ _ tt
      (λ f. none_settled K _)))))
  r_form stating.Function = r_function
  r_form stating.Let =
      pair_then K any no_comma settled s.names s.names _ _
      (r_names K limits more fair fair_more growth)
      (λ xs. pair_sign K growth.syntax_ no_comma settled
      sign.Assign _ _ refl
      (λ _. pair_then K any any settled (one s.let_start) (one s.let_start) _ _
      (pair_token K growth.syntax_ any s.let_start
      (token any s.let_start (λ t. owns_option t (of_keyword s.keyword_let t.kind))
      (keyword_token keyword.Group 1) _ refl tt)
      (λ t. plain_option K growth.syntax_ t
      (of_keyword s.keyword_let t.kind)))
      (λ z. r_let K limits more fair fair_more growth xs z)))
  r_form stating.Output =
      pair_name K growth.syntax_ any settled _ _ tt
      (λ x. pair_keyword K growth.syntax_ any settled keyword.To _
      _ tt
      (λ _. pair_text K growth.syntax_ any settled _ _ tt
      (λ f. none_settled K _)))

  plain_statement : (t : Token) (x : Option StatementStart) → Plain K t (s.with_line t x)
  plain_statement t (Some x) = plain_ok K t (x, t.line)
  plain_statement t None = plain_fault K t Syntax growth.syntax_

  r_named : (x : StatementStart × ℕ)
      → IsPair {A = Statement} K any settled
      (λ ts. bind (s.form_at limits x.0 ts) (λ f us. give (record { line = x.1; form = f }) us))
      (λ ts. bind (s.form_at more x.0 ts) (λ f us. give (record { line = x.1; form = f }) us))
  r_named x = pair_then K any settled settled (s.form_at limits x.0) (s.form_at more x.0) _ _
      (r_form x.0) (λ f. settled_given K _)

  r_statement : IsPair K any settled (s.statement_at limits) (s.statement_at more)
  r_statement =
      pair_then K any any settled (one s.statement_start) (one s.statement_start) _ _
      (pair_token K growth.syntax_ any s.statement_start
      (token any s.statement_start
      (λ t. o_scripts.owns_statement limits fair t (of_keyword s.keyword_statement t.kind))
      (keyword_token keyword.Output 1) _ refl tt)
      (λ t. plain_statement t (of_keyword s.keyword_statement t.kind)))
      r_named

  r_next_statement : (ss : List Statement)
      → IsPair K any settled (s.next_statement limits ss) (s.next_statement more ss)
  r_next_statement ss = pair_then K any settled settled (s.statement_at limits)
      (s.statement_at more) _ _ r_statement (λ x. settled_given K _)

  pub raise_statements : Raise K (s.script_at limits) (s.script_at more)
  raise_statements =
      (pair_loop K (o_scripts.nothing limits fair) settled s.is_more (s.next_statement limits)
      (s.next_statement more) (λ ss. Unit {0}) (λ ss. Unit {0})
      (o_scripts.statement_turns limits fair) (o_scripts.statement_turns more fair_more)
      (λ ss i. tt) (λ ss ts i e. (r_next_statement ss).raise ts) [] tt).raise
