-- Pieces of statements that are read by themselves.
use Rattle.std.specs.Prelude.{ℕ, List}
use Rattle.flume_tokens.specs.declared.keyword.Keyword.{Keyword}
use Rattle.flume_tokens.specs.declared.sign.Sign.TheVariants.{Arrow, Close, Colon}
use Rattle.flume_tokens.specs.declared.token.Token.{Token}
use Rattle.flume_grammar.specs.Limits.{Limits}
use Rattle.flume_grammar.specs.Parts.{Tree}
use Rattle.flume_grammar.specs.inner.Out.{Out, give, bind, one}
use Rattle.flume_grammar.specs.inner.Reading.{keyword_at, sign_at, text_at}
use Rattle.flume_grammar.specs.inner.Types.{whole_type}
use Rattle.flume_grammar.specs.inner.Statements.{more_types, names}

-- the file behind this keyword
abbrev pub file : Keyword → List Token → Out (List ℕ)
file word ts = bind (one (keyword_at word) ts) (λ _ us. one text_at us)

-- one name or more behind this keyword
abbrev pub names_behind : Keyword → List Token → Out (List (List ℕ))
names_behind word ts = bind (one (keyword_at word) ts) (λ _ us. names us)

module _ (limits : Limits) (argument : List ℕ) where
  -- after the parameter, of this name and type: `-> type, ..`
  abbrev pub after_parameter : Tree → List Token → Out (List ℕ × Tree × Tree × List Tree)
  after_parameter takes ts =
      bind (one (sign_at Arrow) ts) (λ _ us. bind (whole_type limits us) (λ gives vs.
      bind (more_types limits vs) (λ more ws. give (argument, takes, gives, more) ws)))

  -- after the name of the argument: `: type) -> type, ..`
  abbrev pub after_argument : List Token → Out (List ℕ × Tree × Tree × List Tree)
  after_argument ts =
      bind (one (sign_at Colon) ts) (λ _ us. bind (whole_type limits us) (λ takes vs.
      bind (one (sign_at Close) vs) (λ _ ws. after_parameter takes ws)))
