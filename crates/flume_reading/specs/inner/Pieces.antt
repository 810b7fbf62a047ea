-- What was read, with what follows it.
use Rattle.std.specs.Prelude.{ℕ, List}
use Rattle.flume_tokens.specs.declared.keyword.Keyword.{Keyword}
use Rattle.flume_tokens.specs.declared.sign.Sign.{Sign}
use Rattle.flume_tokens.specs.declared.sign.Sign.TheVariants.{Colon}
use Rattle.flume_tokens.specs.declared.token.Token.{Token}
use Rattle.flume_grammar.specs.inner.Out.{Out, give, bind, one}
use Rattle.flume_grammar.specs.inner.Reading.{keyword_at, name_at, sign_at, word_at}

-- what was read, where this sign ends it
abbrev pub ended : {A : Type 0} → Sign → A → List Token → Out A
ended end a ts = bind (one (sign_at end) ts) (λ _ us. give a us)

-- what was read, where this keyword follows
abbrev pub followed : {A : Type 0} → Keyword → A → List Token → Out A
followed word a ts = bind (one (keyword_at word) ts) (λ _ us. give a us)

-- what was read, and the name behind it
abbrev pub with_name : {A : Type 0} → A → List Token → Out (A × List ℕ)
with_name a ts = bind (one name_at ts) (λ x us. give (a, x) us)

-- a field's name, and the colon after it
abbrev pub field_name : List Token → Out (List ℕ)
field_name ts = bind (one word_at ts) (λ w us. ended Colon w us)
