use Rattle.std.proofs.Common.{◌≡◌, Some, refl}
use Rattle.flume_tokens.specs.declared.keyword.Keyword.{Keyword}
use Rattle.flume_tokens.specs.declared.keyword.Keyword.TheVariants as keyword
use Rattle.flume_tokens.specs.Keywords.{keyword_spelling, keyword_of}
use Rattle.flume_tokens.proofs.keyword.keyword_law.Goals as goal

reads : (k : Keyword) → keyword_of (keyword_spelling k) ≡ Some k
unfolding keyword_of
reads keyword.Type = refl
reads keyword.Input = refl
reads keyword.Fn = refl
reads keyword.Let = refl
reads keyword.Output = refl
reads keyword.From = refl
reads keyword.To = refl
reads keyword.Scale = refl
reads keyword.Do = refl
reads keyword.Group = refl
reads keyword.Combine = refl
reads keyword.By = refl
reads keyword.Flatten = refl
reads keyword.Count = refl
reads keyword.Join = refl
reads keyword.Top = refl
reads keyword.Sum = refl
reads keyword.Min = refl
reads keyword.Max = refl
reads keyword.All = refl
reads keyword.Any = refl
reads keyword.Mean = refl
reads keyword.Distinct = refl
reads keyword.Int = refl
reads keyword.Bool = refl
reads keyword.Text = refl
reads keyword.List = refl
reads keyword.Either = refl
reads keyword.Table = refl
reads keyword.If = refl
reads keyword.Else = refl
reads keyword.For = refl
reads keyword.In = refl
reads keyword.Emit = refl
reads keyword.Case = refl
reads keyword.Left = refl
reads keyword.Right = refl
reads keyword.True = refl
reads keyword.False = refl
reads keyword.And = refl
reads keyword.Or = refl
reads keyword.Not = refl
reads keyword.Len = refl
reads keyword.Words = refl
reads keyword.Concat = refl
reads keyword.Number = refl
reads keyword.Pick = refl
reads keyword.Empty = refl
reads keyword.Repeat = refl
reads keyword.As = refl
reads keyword.Give = refl
reads keyword.Combineall = refl
reads keyword.Operate = refl
reads keyword.With = refl

pub returns : goal.returns
returns c = reads
