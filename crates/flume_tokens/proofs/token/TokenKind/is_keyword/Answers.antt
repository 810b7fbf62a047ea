use Rattle.std.proofs.Common.{◌≡◌, true, sym, ap, ◌∙◌, rules}
use denote.Enum.Bare.{same_true}
use Rattle.flume_tokens.specs.contracts.keyword.Keyword as keyword_type
use Rattle.flume_tokens.specs.declared.token.TokenKind.TheVariants as kind
use Rattle.flume_tokens.proofs.token.TokenKind.is_keyword.Goals as goal

pub returns-in-Keyword : goal.returns-in-Keyword
returns-in-Keyword c =
    let equal : c.eq.result ≡ true = search rules in (
      λ told.
          c.in-Keyword.is
          ∙ ap kind.Keyword
          (same_true keyword_type.the_type (search rules) c.in-Keyword.k c.args.keyword
          (sym c.eq.ensures ∙ equal)),
      λ same. search rules,
    )
