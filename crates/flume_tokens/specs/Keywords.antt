-- The reserved words.
use Rattle.std.specs.Prelude.{ℕ, List, [], ◌∷◌, Option, codes, find}
use Rattle.std.specs.Str.{bytes_eq}
use Rattle.flume_tokens.specs.declared.keyword.Keyword.{Keyword}
use Rattle.flume_tokens.specs.declared.keyword.Keyword.TheVariants as keyword

-- how a keyword is spelled
abbrev pub keyword_spelling : Keyword → List ℕ
keyword_spelling keyword.Type = codes "type"
keyword_spelling keyword.Input = codes "input"
keyword_spelling keyword.Fn = codes "fn"
keyword_spelling keyword.Let = codes "let"
keyword_spelling keyword.Output = codes "output"
keyword_spelling keyword.From = codes "from"
keyword_spelling keyword.To = codes "to"
keyword_spelling keyword.Scale = codes "scale"
keyword_spelling keyword.Do = codes "do"
keyword_spelling keyword.Group = codes "group"
keyword_spelling keyword.Combine = codes "combine"
keyword_spelling keyword.By = codes "by"
keyword_spelling keyword.Flatten = codes "flatten"
keyword_spelling keyword.Count = codes "count"
keyword_spelling keyword.Join = codes "join"
keyword_spelling keyword.Top = codes "top"
keyword_spelling keyword.Sum = codes "sum"
keyword_spelling keyword.Min = codes "min"
keyword_spelling keyword.Max = codes "max"
keyword_spelling keyword.All = codes "all"
keyword_spelling keyword.Any = codes "any"
keyword_spelling keyword.Mean = codes "mean"
keyword_spelling keyword.Distinct = codes "distinct"
keyword_spelling keyword.Int = codes "int"
keyword_spelling keyword.Bool = codes "bool"
keyword_spelling keyword.Text = codes "text"
keyword_spelling keyword.List = codes "list"
keyword_spelling keyword.Either = codes "either"
keyword_spelling keyword.Table = codes "table"
keyword_spelling keyword.If = codes "if"
keyword_spelling keyword.Else = codes "else"
keyword_spelling keyword.For = codes "for"
keyword_spelling keyword.In = codes "in"
keyword_spelling keyword.Emit = codes "emit"
keyword_spelling keyword.Case = codes "case"
keyword_spelling keyword.Left = codes "left"
keyword_spelling keyword.Right = codes "right"
keyword_spelling keyword.True = codes "true"
keyword_spelling keyword.False = codes "false"
keyword_spelling keyword.And = codes "and"
keyword_spelling keyword.Or = codes "or"
keyword_spelling keyword.Not = codes "not"
keyword_spelling keyword.Len = codes "len"
keyword_spelling keyword.Words = codes "words"
keyword_spelling keyword.Concat = codes "concat"
keyword_spelling keyword.Number = codes "number"
keyword_spelling keyword.Pick = codes "pick"
keyword_spelling keyword.Empty = codes "empty"
keyword_spelling keyword.Repeat = codes "repeat"
keyword_spelling keyword.As = codes "as"
keyword_spelling keyword.Give = codes "give"
keyword_spelling keyword.Combineall = codes "combineall"
keyword_spelling keyword.Operate = codes "operate"
keyword_spelling keyword.With = codes "with"

abbrev pub keywords : List Keyword
keywords = keyword.Type ∷ keyword.Input ∷ keyword.Fn ∷ keyword.Let ∷ keyword.Output ∷ keyword.From ∷
    keyword.To ∷ keyword.Scale ∷ keyword.Do ∷ keyword.Group ∷ keyword.Combine ∷ keyword.By ∷
    keyword.Flatten ∷ keyword.Count ∷ keyword.Join ∷ keyword.Top ∷ keyword.Sum ∷ keyword.Min ∷
    keyword.Max ∷ keyword.All ∷ keyword.Any ∷ keyword.Mean ∷ keyword.Distinct ∷ keyword.Int ∷
    keyword.Bool ∷ keyword.Text ∷ keyword.List ∷ keyword.Either ∷ keyword.Table ∷ keyword.If ∷
    keyword.Else ∷ keyword.For ∷ keyword.In ∷ keyword.Emit ∷ keyword.Case ∷ keyword.Left ∷
    keyword.Right ∷ keyword.True ∷ keyword.False ∷ keyword.And ∷ keyword.Or ∷ keyword.Not ∷
    keyword.Len ∷ keyword.Words ∷ keyword.Concat ∷ keyword.Number ∷ keyword.Pick ∷
    keyword.Empty ∷ keyword.Repeat ∷ keyword.As ∷ keyword.Give ∷ keyword.Combineall ∷
    keyword.Operate ∷ keyword.With ∷ []

-- the keyword that a word is
unfoldable pub keyword_of : List ℕ → Option Keyword
keyword_of word = find (λ k. bytes_eq (keyword_spelling k) word) keywords
