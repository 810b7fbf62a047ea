-- Statements of a script.
use Rattle.std.specs.Prelude.{ℕ, ◌+◌, length, is_some, List, [], ◌∷◌, ◌++◌, Bool, Option, Some, None, option_map, if◌then◌else◌, Result, Ok, Err}
use Rattle.flume_tokens.specs.declared.keyword.Keyword.{Keyword}
use Rattle.flume_tokens.specs.declared.keyword.Keyword.TheVariants as keyword
use Rattle.flume_tokens.specs.declared.sign.Sign.TheVariants as sign
use Rattle.flume_tokens.specs.declared.token.Token.{Token}
use Rattle.flume_grammar.specs.declared.fault.ScriptKind.TheVariants.{Syntax}
use Rattle.flume_grammar.specs.declared.fault.Stop.{Stop}
use Rattle.flume_grammar.specs.declared.start.OperationStart.{OperationStart}
use Rattle.flume_grammar.specs.declared.start.OperationStart.TheVariants as begin
use Rattle.flume_grammar.specs.declared.start.LetStart.{LetStart}
use Rattle.flume_grammar.specs.declared.start.LetStart.TheVariants as letting
use Rattle.flume_grammar.specs.declared.start.CombinerStart.{CombinerStart}
use Rattle.flume_grammar.specs.declared.start.CombinerStart.TheVariants as combining
use Rattle.flume_grammar.specs.declared.start.StatementStart.{StatementStart}
use Rattle.flume_grammar.specs.declared.start.StatementStart.TheVariants as start
use Rattle.flume_grammar.specs.declared.tree.Combiner.{Combiner}
use Rattle.flume_grammar.specs.declared.tree.Combiner.TheVariants as combiner
use Rattle.flume_grammar.specs.declared.tree.Operation.{Operation}
use Rattle.flume_grammar.specs.declared.tree.Operation.TheVariants as operation
use Rattle.flume_grammar.specs.declared.tree.TurnLet.{TurnLet}
use Rattle.flume_grammar.specs.declared.tree.Repeat.{Repeat}
use Rattle.flume_grammar.specs.declared.tree.Form.{Form}
use Rattle.flume_grammar.specs.declared.tree.Form.TheVariants as form
use Rattle.flume_grammar.specs.declared.tree.Statement.{Statement}
use Rattle.flume_grammar.specs.inner.Out.{Out, give, bind, at, one, next, all_of}
use Rattle.flume_grammar.specs.inner.Reading.{sign_at, keyword_at, is_keyword, is_at_keyword, name_at, number_at, text_at, comma_at, or_syntax, of_keyword, numbered}
use Rattle.flume_grammar.specs.Parts.{Tree}
use Rattle.flume_grammar.specs.inner.Types.{at_comma, whole_type}
use Rattle.flume_grammar.specs.inner.Bodies.{whole_block}
use Rattle.flume_grammar.specs.Limits.{Limits}

-- ---- operations

abbrev pub keyword_operation : Keyword → Option OperationStart
keyword_operation keyword.Do = Some begin.Do
keyword_operation keyword.Group = Some begin.Group
keyword_operation keyword.Combine = Some begin.Combine
keyword_operation keyword.Flatten = Some begin.Flatten
keyword_operation keyword.Count = Some begin.Count
keyword_operation keyword.Join = Some begin.Join
keyword_operation keyword.Top = Some begin.Top
keyword_operation keyword.Combineall = Some begin.CombineAll
keyword_operation keyword.Operate = Some begin.Operate
keyword_operation _ = None

abbrev pub operation_start : Token → Result OperationStart Stop
operation_start t = or_syntax t (of_keyword keyword_operation t.kind)

-- what stands behind the `=` of a let: a repeat, or an operation
abbrev pub keyword_let : Keyword → Option LetStart
keyword_let keyword.Repeat = Some letting.Repeat
keyword_let k = option_map letting.Plain (keyword_operation k)

abbrev pub let_start : Token → Result LetStart Stop
let_start t = or_syntax t (of_keyword keyword_let t.kind)

abbrev pub keyword_combiner : Keyword → Option CombinerStart
keyword_combiner keyword.Sum = Some (combining.Whole combiner.Sum)
keyword_combiner keyword.Count = Some (combining.Whole combiner.Count)
keyword_combiner keyword.Min = Some (combining.Whole combiner.Min)
keyword_combiner keyword.Max = Some (combining.Whole combiner.Max)
keyword_combiner keyword.All = Some (combining.Whole combiner.All)
keyword_combiner keyword.Any = Some (combining.Whole combiner.Any)
keyword_combiner keyword.Top = Some combining.Top
keyword_combiner keyword.Mean = Some (combining.Whole combiner.Mean)
keyword_combiner keyword.Distinct = Some (combining.Whole combiner.Distinct)
keyword_combiner _ = None

abbrev pub combiner_start : Token → Result CombinerStart Stop
combiner_start t = or_syntax t (of_keyword keyword_combiner t.kind)

abbrev pub after_combiner : CombinerStart → List Token → Out Combiner
after_combiner (combining.Whole c) ts = give c ts
after_combiner combining.Top ts = bind (one number_at ts) (λ n us. give (combiner.Top n) us)

abbrev pub combiner_at : List Token → Out Combiner
combiner_at ts = bind (one combiner_start ts) (λ s us. after_combiner s us)

-- a collection, and the combiner behind it
abbrev pub by_combiner : List Token → Out (List ℕ × Combiner)
by_combiner ts =
    bind (one name_at ts) (λ c us. bind (one (keyword_at keyword.By) us)
    (λ _ vs. bind (combiner_at vs) (λ k ws. give (c, k) ws)))

abbrev pub object : List Token → Out (Option (List ℕ))
object ts = bind (one name_at ts) (λ o us. give (Some o) us)

-- the object behind `with`, where that stands next
abbrev pub beside : List Token → Out (Option (List ℕ))
beside ts = if is_at_keyword keyword.With (next ts) then bind (one (keyword_at keyword.With) ts)
    (λ _ us. object us) else give None ts

-- a function of a collection's members, beside an object or alone
abbrev pub applied : List ℕ → List ℕ → Option (List ℕ) → Operation
applied c f (Some o) = operation.DoWith c f o
applied c f None = operation.Do c f

abbrev pub apply : List Token → Out Operation
apply ts =
    bind (one name_at ts) (λ c us. bind (one name_at us)
    (λ f vs. bind (beside vs) (λ o ws. give (applied c f o) ws)))

abbrev pub join : List Token → Out Operation
join ts =
    bind (one name_at ts) (λ a us. bind (one (sign_at sign.Comma) us)
    (λ _ vs. bind (one name_at vs) (λ b ws. give (operation.Join a b) ws)))

-- ---- statements

abbrev pub keyword_statement : Keyword → Option StatementStart
keyword_statement keyword.Type = Some start.Type
keyword_statement keyword.Input = Some start.Input
keyword_statement keyword.Fn = Some start.Function
keyword_statement keyword.Let = Some start.Let
keyword_statement keyword.Output = Some start.Output
keyword_statement _ = None

abbrev pub with_line : Token → Option StatementStart → Result (StatementStart × ℕ) Stop
with_line t (Some s) = Ok (s, t.line)
with_line t None = Err (at t Syntax)

abbrev pub statement_start : Token → Result (StatementStart × ℕ) Stop
statement_start t = with_line t (of_keyword keyword_statement t.kind)

abbrev pub next_name : List (List ℕ) → List Token → Out (List (List ℕ))
next_name xs ts =
    bind (one (sign_at sign.Comma) ts)
    (λ _ us. bind (one name_at us) (λ x vs. give (xs ++ x ∷ []) vs))

-- one name or more
abbrev pub names : List Token → Out (List (List ℕ))
names ts = bind (one name_at ts) (λ x us. all_of at_comma next_name (x ∷ []) us)

-- what enters a repeat's first turn, and its names in the body, behind the number of turns
abbrev pub repeat_head : List Token → Out (List ℕ × List (List ℕ) × List (List ℕ))
repeat_head ts =
    bind (one number_at ts) (λ n us. bind (one (keyword_at keyword.From) us)
    (λ _ vs. bind (names vs) (λ xs ws. bind (one (keyword_at keyword.As) ws)
    (λ _ ps. bind (names ps) (λ ys qs. give (n, xs, ys) qs)))))

-- the line on which a let begins
abbrev pub line_of_let : Token → Result ℕ Stop
line_of_let t = if is_keyword keyword.Let t.kind then Ok t.line else Err (at t Syntax)

abbrev pub at_let : List TurnLet → List Token → Bool
at_let ls ts = is_at_keyword keyword.Let (next ts)

abbrev pub output_form : List Token → Out Form
output_form ts =
    bind (one name_at ts) (λ x us. bind (one (keyword_at keyword.To) us)
    (λ _ vs. bind (one text_at vs) (λ f ws. give (form.Output x f) ws)))

abbrev pub is_more : List Statement → List Token → Bool
is_more ss ts = is_some (next ts)

module _ (limits : Limits) where
  abbrev pub next_input : List (List ℕ) → List Token → Out (List (List ℕ))
  next_input xs ts = bind (one (comma_at (length xs) limits.inputs) ts)
      (λ _ us. bind (one name_at us) (λ x vs. give (xs ++ x ∷ []) vs))

  -- one name or more, at most as many as the limit
  abbrev pub inputs : List Token → Out (List (List ℕ))
  inputs ts = bind (one name_at ts) (λ x us. all_of at_comma next_input (x ∷ []) us)

  abbrev pub operate : List Token → Out Operation
  operate ts =
      bind (inputs ts) (λ xs us. bind (one (keyword_at keyword.By) us)
      (λ _ vs. bind (one name_at vs) (λ f ws. give (operation.Operate xs f) ws)))

  abbrev pub after_begin : OperationStart → List Token → Out Operation
  after_begin begin.Do ts = apply ts
  after_begin begin.Group ts = bind (one name_at ts) (λ c us. give (operation.Group c) us)
  after_begin begin.Combine ts =
      bind (by_combiner ts) (λ x us. give (operation.Combine x.0 x.1) us)
  after_begin begin.Flatten ts = bind (inputs ts) (λ xs us. give (operation.Flatten xs) us)
  after_begin begin.Count ts = bind (one name_at ts) (λ c us. give (operation.Count c) us)
  after_begin begin.Join ts = join ts
  after_begin begin.Top ts =
      bind (one number_at ts) (λ n us. bind (one name_at us) (λ c vs. give (operation.Top n c) vs))
  after_begin begin.CombineAll ts =
      bind (by_combiner ts) (λ x us. give (operation.CombineAll x.0 x.1) us)
  after_begin begin.Operate ts = operate ts

  abbrev pub operation_at : List Token → Out Operation
  operation_at ts = bind (one operation_start ts) (λ s us. after_begin s us)

  -- ---- repeats

  abbrev pub turn_let : List Token → Out TurnLet
  turn_let ts =
      bind (one line_of_let ts) (λ n us. bind (names us) (λ xs vs.
      bind (one (sign_at sign.Assign) vs) (λ _ ws. bind (operation_at ws)
      (λ o ps. give (record { line = n; names = xs; by = o }) ps))))

  abbrev pub next_let : List TurnLet → List Token → Out (List TurnLet)
  next_let ls ts = bind (turn_let ts) (λ l us. give (ls ++ l ∷ []) us)

  -- the lets of a body
  abbrev pub turn_lets : List Token → Out (List TurnLet)
  turn_lets ts = all_of at_let next_let [] ts

  -- the lets of a repeat's body, and what it gives
  abbrev pub repeat_body : List Token → Out (List TurnLet × List (List ℕ))
  repeat_body ts =
      bind (one (sign_at sign.OpenBrace) ts)
      (λ _ us. bind (turn_lets us) (λ ls vs. bind (one (keyword_at keyword.Give) vs)
      (λ _ ws. bind (names ws) (λ xs ps. bind (one (sign_at sign.CloseBrace) ps)
      (λ _ qs. give (ls, xs) qs)))))

  -- what stands behind `repeat`
  abbrev pub repeat_at : List Token → Out Repeat
  repeat_at ts =
      bind (repeat_head ts) (λ h us. bind (repeat_body us) (λ b vs.
      give (record { turns = h.0; from = h.1; entering = h.2; lets = b.0; gives = b.1 }) vs))

  abbrev pub type_form : List Token → Out Form
  type_form ts =
      bind (one name_at ts) (λ x us. bind (one (sign_at sign.Assign) us)
      (λ _ vs. bind ((whole_type limits) vs) (λ t ws. give (form.Type x t) ws)))

  abbrev pub input_form : List Token → Out Form
  input_form ts =
      bind (one name_at ts) (λ x us. bind (one (sign_at sign.Colon) us)
      (λ _ vs. bind ((whole_type limits) vs) (λ t ws. bind (one (keyword_at keyword.From) ws)
      (λ _ xs.
      bind (one text_at xs) (λ f ys. give (form.Input x t f) ys)))))

  abbrev pub next_type : List Tree → List Token → Out (List Tree)
  next_type types ts = bind (one (comma_at (1 + length types) limits.outputs) ts)
      (λ _ us. bind ((whole_type limits) us) (λ t vs. give (types ++ t ∷ []) vs))

  -- the types of further outputs
  abbrev pub more_types : List Token → Out (List Tree)
  more_types ts = all_of at_comma next_type [] ts

  -- the argument, its type, and the types of the outputs
  abbrev pub signature : List Token → Out (List ℕ × Tree × Tree × List Tree)
  signature ts =
      bind (one (sign_at sign.Open) ts)
      (λ _ us. bind (one name_at us) (λ x vs. bind (one (sign_at sign.Colon) vs)
      (λ _ ws. bind ((whole_type limits) ws) (λ a xs.
      bind (one (sign_at sign.Close) xs) (λ _ ys. bind (one (sign_at sign.Arrow) ys)
      (λ _ zs. bind ((whole_type limits) zs) (λ b os. bind (more_types os)
      (λ bs ps. give (x, a, b, bs) ps))))))))

  abbrev pub function_form : List Token → Out Form
  function_form ts =
      bind (one name_at ts)
      (λ f us. bind (signature us)
      (λ g vs. bind (numbered keyword.Scale vs) (λ n ws. bind ((whole_block limits) ws) (λ b xs.
      give (form.Function (record {
        name = f;
        argument = g.0;
        takes = g.1;
        gives = g.2;
        more = g.3;
        scale =
            n;
        body = b;
      })) xs))))

  -- a let of these names, by what begins behind its `=`
  abbrev pub after_let : List (List ℕ) → LetStart → List Token → Out Form
  after_let xs (letting.Plain s) ts = bind (after_begin s ts) (λ o us. give (form.Let xs o) us)
  after_let xs letting.Repeat ts = bind (repeat_at ts) (λ r us. give (form.Repeat xs r) us)

  abbrev pub let_form : List Token → Out Form
  let_form ts =
      bind (names ts) (λ xs us. bind (one (sign_at sign.Assign) us)
      (λ _ vs. bind (one let_start vs) (λ s ws. after_let xs s ws)))

  abbrev pub form_at : StatementStart → List Token → Out Form
  form_at start.Type ts = type_form ts
  form_at start.Input ts = input_form ts
  form_at start.Function ts = function_form ts
  form_at start.Let ts = let_form ts
  form_at start.Output ts = output_form ts

  abbrev pub statement_at : List Token → Out Statement
  statement_at ts =
      bind (one statement_start ts)
      (λ s us. bind (form_at s.0 us) (λ f vs. give (record { line = s.1; form = f }) vs))

  abbrev pub next_statement : List Statement → List Token → Out (List Statement)
  next_statement ss ts = bind (statement_at ts) (λ s us. give (ss ++ s ∷ []) us)

  -- all statements up to the end
  abbrev pub script_at : List Token → Out (List Statement)
  script_at ts = all_of is_more next_statement [] ts
