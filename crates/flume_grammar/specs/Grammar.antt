-- The grammar, as relations between tokens and trees. Each takes the tokens, those that are left
-- after what is read, what is read, and how deep it is. The limits are those of depth and of parts.
use Rattle.std.specs.Prelude.{◌≡◌, ℕ, ◌+◌, ◌≤◌, max, length, List, [], ◌∷◌, ◌++◌, true, false, Option, Some, None}
use Rattle.flume_tokens.specs.declared.keyword.Keyword.{Keyword}
use Rattle.flume_tokens.specs.declared.keyword.Keyword.TheVariants as keyword
use Rattle.flume_tokens.specs.declared.sign.Sign.TheVariants as sign
use Rattle.flume_tokens.specs.declared.token.Token.{Token}
use Rattle.flume_grammar.specs.declared.parts.Parts.{Parts}
use Rattle.flume_grammar.specs.declared.tree.Unary.{Unary}
use Rattle.flume_grammar.specs.declared.tree.Unary.TheVariants as unary
use Rattle.flume_grammar.specs.declared.tree.Binary.{Binary}
use Rattle.flume_grammar.specs.declared.tree.Side.{Side}
use Rattle.flume_grammar.specs.declared.tree.Side.TheVariants as side
use Rattle.flume_grammar.specs.declared.tree.Type.TheVariants as type_tree
use Rattle.flume_grammar.specs.declared.tree.Expr.{Expr}
use Rattle.flume_grammar.specs.declared.tree.Expr.TheVariants as tree
use Rattle.flume_grammar.specs.declared.tree.Body.{Body}
use Rattle.flume_grammar.specs.declared.tree.Body.TheVariants as body
use Rattle.flume_grammar.specs.declared.tree.Combiner.{Combiner}
use Rattle.flume_grammar.specs.declared.tree.Combiner.TheVariants as combiner
use Rattle.flume_grammar.specs.declared.tree.Operation.{Operation}
use Rattle.flume_grammar.specs.declared.tree.Operation.TheVariants as operation
use Rattle.flume_grammar.specs.declared.tree.TurnLet.{TurnLet}
use Rattle.flume_grammar.specs.declared.tree.Repeat.{Repeat}
use Rattle.flume_grammar.specs.declared.tree.Form.TheVariants as form
use Rattle.flume_grammar.specs.declared.tree.Statement.{Statement}
use Rattle.flume_grammar.specs.Terminals.{word_of, keyword_token, mark, name_token, number_token, text_token}
use Rattle.flume_grammar.specs.Parts.{Tree, none, with_named_part}
use Rattle.flume_grammar.specs.Operators.{operator_of, rank, left_rank}
use Rattle.flume_grammar.specs.Limits.{Limits}

-- the calls with one argument
abbrev pub unary_call : Keyword → Option Unary
unary_call keyword.Len = Some unary.Len
unary_call keyword.Words = Some unary.Words
unary_call keyword.Text = Some unary.Text
unary_call keyword.Number = Some unary.Number
unary_call _ = None

abbrev pub side_keyword : Keyword → Option Side
side_keyword keyword.Left = Some side.Left
side_keyword keyword.Right = Some side.Right
side_keyword _ = None

-- comb = "sum" | "count" | "min" | "max" | "all" | "any" | "top" num | "mean" | "distinct"
pub data IsCombiner : List Token → List Token → Combiner → Type 0 where
  sum : {n : ℕ} {ts : List Token} → IsCombiner (keyword_token keyword.Sum n ∷ ts) ts combiner.Sum
  count : {n : ℕ} {ts : List Token}
      → IsCombiner (keyword_token keyword.Count n ∷ ts) ts combiner.Count
  min : {n : ℕ} {ts : List Token} → IsCombiner (keyword_token keyword.Min n ∷ ts) ts combiner.Min
  max_ : {n : ℕ} {ts : List Token} → IsCombiner (keyword_token keyword.Max n ∷ ts) ts combiner.Max
  all : {n : ℕ} {ts : List Token} → IsCombiner (keyword_token keyword.All n ∷ ts) ts combiner.All
  any : {n : ℕ} {ts : List Token} → IsCombiner (keyword_token keyword.Any n ∷ ts) ts combiner.Any
  top : {digits : List ℕ} {n m : ℕ} {ts : List Token}
      → IsCombiner (keyword_token keyword.Top n ∷ number_token digits m ∷ ts) ts
      (combiner.Top digits)
  mean : {n : ℕ} {ts : List Token} → IsCombiner (keyword_token keyword.Mean n ∷ ts) ts combiner.Mean
  distinct : {n : ℕ} {ts : List Token}
      → IsCombiner (keyword_token keyword.Distinct n ∷ ts) ts combiner.Distinct

-- name { "," name }
pub data AreNames : List Token → List Token → List (List ℕ) → Type 0 where
  one : {x : List ℕ} {n : ℕ} {ts : List Token} → AreNames (name_token x n ∷ ts) ts (x ∷ [])
  more : {x : List ℕ} {xs : List (List ℕ)} {n m : ℕ} {ts us : List Token}
      → AreNames ts (mark sign.Comma m ∷ name_token x n ∷ us) xs → AreNames ts us (xs ++ x ∷ [])

-- [ "scale" num ], [ "to" num ]: the number behind this keyword, where it stands there
pub data IsOptionalNumber (k : Keyword) : List Token → List Token → Option (List ℕ) → Type 0 where
  absent : {ts : List Token} → IsOptionalNumber k ts ts None
  present : {digits : List ℕ} {n m : ℕ} {ts : List Token}
      → IsOptionalNumber k (keyword_token k n ∷ number_token digits m ∷ ts) ts (Some digits)

module _ (limits : Limits) where
  mutual
    -- type = "int" | "bool" | "text" | "list" "<" type ">" | "either" "<" type "," type ">"
    --      | "table" "<" type "," type ">" | "{" word ":" type { "," word ":" type } "}" | name
    pub data IsType : List Token → List Token → Tree → ℕ → Type 0 where
      int : {n : ℕ} {ts : List Token} → IsType (keyword_token keyword.Int n ∷ ts) ts type_tree.Int 1
      bool : {n : ℕ} {ts : List Token}
          → IsType (keyword_token keyword.Bool n ∷ ts) ts type_tree.Bool 1
      text_ : {n : ℕ} {ts : List Token}
          → IsType (keyword_token keyword.Text n ∷ ts) ts type_tree.Text 1
      named : {x : List ℕ} {n : ℕ} {ts : List Token}
          → IsType (name_token x n ∷ ts) ts (type_tree.Named x) 1
      list : {n m k a : ℕ} {ts us : List Token} {t : Tree}
          → IsType ts (mark sign.Greater k ∷ us) t a
          → IsType (keyword_token keyword.List n ∷ mark sign.Less m ∷ ts) us (type_tree.List t)
          (a + 1)
      either : {n m k o a b : ℕ} {ts us vs : List Token} {s t : Tree}
          → IsType ts (mark sign.Comma k ∷ us) s a → IsType us (mark sign.Greater o ∷ vs) t b
          → IsType (keyword_token keyword.Either n ∷ mark sign.Less m ∷ ts) vs
          (type_tree.Either s t)
          (max a b + 1)
      table : {n m k o a b : ℕ} {ts us vs : List Token} {s t : Tree}
          → IsType ts (mark sign.Comma k ∷ us) s a → IsType us (mark sign.Greater o ∷ vs) t b
          → IsType (keyword_token keyword.Table n ∷ mark sign.Less m ∷ ts) vs (type_tree.Table s t)
          (max a b + 1)
      record_ : {n m : ℕ} {ts us : List Token} {p : Parts Tree}
          → AreFieldTypes ts (mark sign.CloseBrace m ∷ us) p → length p.names ≤ limits.fields
          → IsType (mark sign.OpenBrace n ∷ ts) us (type_tree.Record p.names p.parts) (p.depth + 1)

    -- word ":" type { "," word ":" type }
    pub data AreFieldTypes : List Token → List Token → Parts Tree → Type 0 where
      first : {w : Token} {x : List ℕ} {n a : ℕ} {ts us : List Token} {t : Tree}
          → word_of w.kind ≡ Some x → IsType ts us t a
          → AreFieldTypes (w ∷ mark sign.Colon n ∷ ts) us (with_named_part none x t a)
      next : {w : Token} {x : List ℕ} {n m a : ℕ} {ts us vs : List Token} {t : Tree}
          {p : Parts Tree} → AreFieldTypes ts (mark sign.Comma m ∷ w ∷ mark sign.Colon n ∷ us) p
          → word_of w.kind ≡ Some x → IsType us vs t a
          → AreFieldTypes ts vs (with_named_part p x t a)

  -- a type as it is written is at most 32 deep
  pub record IsWholeType (ts us : List Token) (t : Tree) : Type 0 where
    pub depth : ℕ
    pub spelled : IsType ts us t depth
    pub small : depth ≤ limits.depth

  -- { "," type }
  pub data AreMoreTypes : List Token → List Token → List Tree → Type 0 where
    none_ : {ts : List Token} → AreMoreTypes ts ts []
    some : {n : ℕ} {ts us vs : List Token} {t : Tree} {types : List Tree}
        → AreMoreTypes ts (mark sign.Comma n ∷ us) types → IsWholeType us vs t
        → AreMoreTypes ts vs (types ++ t ∷ [])

  mutual
    -- An expression of this rank or above: 1 is `or`, 2 `and`, 3 `not`, 4 a comparison, 5 a sum,
    -- 6 a product, 7 `-` before an operand, 8 an operand.
    pub data IsExpr : ℕ → List Token → List Token → Expr → ℕ → Type 0 where
      above : {r a : ℕ} {ts us : List Token} {e : Expr} → IsExpr (r + 1) ts us e a
          → IsExpr r ts us e a
      -- conj { "or" conj }, neg { "and" neg }, sum [ rel sum ], prod { ("+" | "-") prod },
      -- una { ("*" | "/" | "%") una }
      binary : {t : Token} {o : Binary} {a b : ℕ} {ts us vs : List Token} {e f : Expr}
          → operator_of t.kind ≡ Some o
          → IsExpr (left_rank o) ts (t ∷ us) e a → IsExpr (rank o + 1) us vs f b
          → IsExpr (rank o) ts vs (tree.Binary o e f) (max a b + 1)
      -- "not" neg, "-" una
      not_ : {n a : ℕ} {ts us : List Token} {e : Expr} → IsExpr 3 ts us e a
          → IsExpr 3 (keyword_token keyword.Not n ∷ ts) us (tree.Unary unary.Not e) (a + 1)
      negate : {n a : ℕ} {ts us : List Token} {e : Expr} → IsExpr 7 ts us e a
          → IsExpr 7 (mark sign.Minus n ∷ ts) us (tree.Unary unary.Negate e) (a + 1)
      -- prim { "." word | "[" expr "]" }
      field : {w : Token} {x : List ℕ} {n a : ℕ} {ts us : List Token} {e : Expr}
          → IsExpr 8 ts (mark sign.Dot n ∷ w ∷ us) e a → word_of w.kind ≡ Some x
          → IsExpr 8 ts us (tree.Field e x) (a + 1)
      index : {n m a b : ℕ} {ts us vs : List Token} {e f : Expr}
          → IsExpr 8 ts (mark sign.OpenBracket n ∷ us) e a
          → IsExpr 1 us (mark sign.CloseBracket m ∷ vs) f b
          → IsExpr 8 ts vs (tree.Index e f) (max a b + 1)
      -- num | textlit | "true" | "false" | name | "(" expr ")"
      num : {digits : List ℕ} {n : ℕ} {ts : List Token}
          → IsExpr 8 (number_token digits n ∷ ts) ts (tree.Number digits) 1
      textlit : {content : List ℕ} {n : ℕ} {ts : List Token}
          → IsExpr 8 (text_token content n ∷ ts) ts (tree.Text content) 1
      true_ : {n : ℕ} {ts : List Token}
          → IsExpr 8 (keyword_token keyword.True n ∷ ts) ts (tree.Bool true) 1
      false_ : {n : ℕ} {ts : List Token}
          → IsExpr 8 (keyword_token keyword.False n ∷ ts) ts (tree.Bool false) 1
      variable : {x : List ℕ} {n : ℕ} {ts : List Token}
          → IsExpr 8 (name_token x n ∷ ts) ts (tree.Name x) 1
      paren : {n m a : ℕ} {ts us : List Token} {e : Expr} → IsExpr 1 ts (mark sign.Close m ∷ us) e a
          → IsExpr 8 (mark sign.Open n ∷ ts) us e a
      -- "{" word ":" expr { "," word ":" expr } "}" | "[" expr { "," expr } "]"
      literal : {n m : ℕ} {ts us : List Token} {p : Parts Expr}
          → AreFields ts (mark sign.CloseBrace m ∷ us) p → length p.names ≤ limits.fields
          → IsExpr 8 (mark sign.OpenBrace n ∷ ts) us (tree.Record p.names p.parts) (p.depth + 1)
      members : {n m a : ℕ} {ts us : List Token} {es : List Expr}
          → AreMembers ts (mark sign.CloseBracket m ∷ us) es a → length es ≤ limits.members
          → IsExpr 8 (mark sign.OpenBracket n ∷ ts) us (tree.List es) (a + 1)
      -- "empty" "<" type ">" | "left" "<" type ">" "(" expr ")" | "right" "<" type ">" "(" expr ")"
      empty : {n m k : ℕ} {ts us : List Token} {t : Tree}
          → IsWholeType ts (mark sign.Greater k ∷ us) t
          → IsExpr 8 (keyword_token keyword.Empty n ∷ mark sign.Less m ∷ ts) us (tree.Empty t) 1
      sided : {k : Keyword} {s : Side} {n m i j o a : ℕ} {ts us vs : List Token} {t : Tree}
          {e : Expr} → side_keyword k ≡ Some s
          → IsWholeType ts (mark sign.Greater i ∷ mark sign.Open j ∷ us) t
          → IsExpr 1 us (mark sign.Close o ∷ vs) e a
          → IsExpr 8 (keyword_token k n ∷ mark sign.Less m ∷ ts) vs (tree.Side s t e) (a + 1)
      -- "len" "(" expr ")" | "words" "(" expr ")" | "text" "(" expr ")" | "number" "(" expr ")"
      call : {k : Keyword} {u : Unary} {n m i a : ℕ} {ts us : List Token} {e : Expr}
          → unary_call k ≡ Some u → IsExpr 1 ts (mark sign.Close i ∷ us) e a
          → IsExpr 8 (keyword_token k n ∷ mark sign.Open m ∷ ts) us (tree.Unary u e) (a + 1)
      -- "concat" "(" expr "," expr ")" | "pick" "(" expr "," expr "," expr ")"
      concat : {n m i j a b : ℕ} {ts us vs : List Token} {e f : Expr}
          → IsExpr 1 ts (mark sign.Comma i ∷ us) e a → IsExpr 1 us (mark sign.Close j ∷ vs) f b
          → IsExpr 8 (keyword_token keyword.Concat n ∷ mark sign.Open m ∷ ts) vs (tree.Concat e f)
          (max a b + 1)
      pick : {n m i j o a b c : ℕ} {ts us vs ws : List Token} {e f g : Expr}
          → IsExpr 1 ts (mark sign.Comma i ∷ us) e a → IsExpr 1 us (mark sign.Comma j ∷ vs) f b
          → IsExpr 1 vs (mark sign.Close o ∷ ws) g c
          → IsExpr 8 (keyword_token keyword.Pick n ∷ mark sign.Open m ∷ ts) ws (tree.Pick e f g)
          (max (max a b) c + 1)

    -- word ":" expr { "," word ":" expr }
    pub data AreFields : List Token → List Token → Parts Expr → Type 0 where
      first : {w : Token} {x : List ℕ} {n a : ℕ} {ts us : List Token} {e : Expr}
          → word_of w.kind ≡ Some x → IsExpr 1 ts us e a
          → AreFields (w ∷ mark sign.Colon n ∷ ts) us (with_named_part none x e a)
      next : {w : Token} {x : List ℕ} {n m a : ℕ} {ts us vs : List Token} {e : Expr}
          {p : Parts Expr} → AreFields ts (mark sign.Comma m ∷ w ∷ mark sign.Colon n ∷ us) p
          → word_of w.kind ≡ Some x → IsExpr 1 us vs e a → AreFields ts vs (with_named_part p x e a)

    -- expr { "," expr }
    pub data AreMembers : List Token → List Token → List Expr → ℕ → Type 0 where
      one : {a : ℕ} {ts us : List Token} {e : Expr} → IsExpr 1 ts us e a
          → AreMembers ts us (e ∷ []) a
      more : {m a b : ℕ} {ts us vs : List Token} {e : Expr} {es : List Expr}
          → AreMembers ts (mark sign.Comma m ∷ us) es a → IsExpr 1 us vs e b
          → AreMembers ts vs (es ++ e ∷ []) (max a b)

  mutual
    -- body = "let" name "=" expr | "emit" [ "to" num ] expr | "if" expr block [ "else" block ]
    --      | "for" name "in" expr block | "case" expr "left" name block "right" name block
    pub data IsBody : List Token → List Token → Body → ℕ → Type 0 where
      let_ : {x : List ℕ} {n m k a : ℕ} {ts us : List Token} {e : Expr} → IsExpr 1 ts us e a
          → IsBody (keyword_token keyword.Let n ∷ name_token x m ∷ mark sign.Assign k ∷ ts) us
          (body.Let n x e)
          (a + 1)
      emit : {n a : ℕ} {ts us vs : List Token} {to : Option (List ℕ)} {e : Expr}
          → IsOptionalNumber keyword.To ts us to → IsExpr 1 us vs e a
          → IsBody (keyword_token keyword.Emit n ∷ ts) vs (body.Emit n to e) (a + 1)
      if_ : {n a b : ℕ} {ts us vs : List Token} {e : Expr} {ss : List Body} → IsExpr 1 ts us e a
          → IsBlock us vs ss b
          → IsBody (keyword_token keyword.If n ∷ ts) vs (body.If n e ss []) (max (max a b) 0 + 1)
      if_else : {n m a b c : ℕ} {ts us vs ws : List Token} {e : Expr} {ss rs : List Body}
          → IsExpr 1 ts us e a → IsBlock us (keyword_token keyword.Else m ∷ vs) ss b
          → IsBlock vs ws rs c
          → IsBody (keyword_token keyword.If n ∷ ts) ws (body.If n e ss rs) (max (max a b) c + 1)
      for_ : {x : List ℕ} {n m k a b : ℕ} {ts us vs : List Token} {e : Expr} {ss : List Body}
          → IsExpr 1 ts us e a → IsBlock us vs ss b
          → IsBody (keyword_token keyword.For n ∷ name_token x m ∷ keyword_token keyword.In k ∷ ts)
          vs (body.For n x e ss)
          (max a b + 1)
      case_ : {x y : List ℕ} {n m k i j a b c : ℕ} {ts us vs ws : List Token} {e : Expr}
          {ss rs : List Body} → IsExpr 1 ts (keyword_token keyword.Left m ∷ name_token x k ∷ us) e a
          → IsBlock us (keyword_token keyword.Right i ∷ name_token y j ∷ vs) ss b
          → IsBlock vs ws rs c
          → IsBody (keyword_token keyword.Case n ∷ ts) ws (body.Case n e x ss y rs)
          (max (max a b) c + 1)

    -- block = "{" { body } "}"
    pub data IsBlock : List Token → List Token → List Body → ℕ → Type 0 where
      braces : {n m a : ℕ} {ts us : List Token} {ss : List Body}
          → AreBodies ts (mark sign.CloseBrace m ∷ us) ss a
          → IsBlock (mark sign.OpenBrace n ∷ ts) us ss a

    pub data AreBodies : List Token → List Token → List Body → ℕ → Type 0 where
      none_ : {ts : List Token} → AreBodies ts ts [] 0
      some : {a b : ℕ} {ts us vs : List Token} {s : Body} {ss : List Body} → AreBodies ts us ss a
          → IsBody us vs s b → AreBodies ts vs (ss ++ s ∷ []) (max a b)

  -- op = "do" name name [ "with" name ] | "group" name | "combine" name "by" comb
  --    | "flatten" name { "," name } | "count" name | "join" name "," name | "top" num name
  --    | "combineall" name "by" comb | "operate" name { "," name } "by" name
  pub data IsOperation : List Token → List Token → Operation → Type 0 where
    do_ : {c f : List ℕ} {n m k : ℕ} {ts : List Token}
        → IsOperation (keyword_token keyword.Do n ∷ name_token c m ∷ name_token f k ∷ ts) ts
        (operation.Do c f)
    group : {c : List ℕ} {n m : ℕ} {ts : List Token}
        → IsOperation (keyword_token keyword.Group n ∷ name_token c m ∷ ts) ts (operation.Group c)
    combine : {c : List ℕ} {n m k : ℕ} {ts us : List Token} {b : Combiner} → IsCombiner ts us b
        → IsOperation (keyword_token keyword.Combine n ∷ name_token c m ∷ keyword_token keyword.By k
        ∷ ts) us
        (operation.Combine c b)
    flatten : {n : ℕ} {ts us : List Token} {xs : List (List ℕ)} → AreNames ts us xs
        → length xs ≤ limits.inputs
        → IsOperation (keyword_token keyword.Flatten n ∷ ts) us (operation.Flatten xs)
    count : {c : List ℕ} {n m : ℕ} {ts : List Token}
        → IsOperation (keyword_token keyword.Count n ∷ name_token c m ∷ ts) ts (operation.Count c)
    join : {a b : List ℕ} {n m k i : ℕ} {ts : List Token}
        → IsOperation (keyword_token keyword.Join n ∷ name_token a m ∷ mark sign.Comma k ∷
        name_token b i ∷ ts) ts
        (operation.Join a b)
    top : {digits c : List ℕ} {n m k : ℕ} {ts : List Token}
        → IsOperation (keyword_token keyword.Top n ∷ number_token digits m ∷ name_token c k ∷ ts) ts
        (operation.Top digits c)
    combine_all : {c : List ℕ} {n m k : ℕ} {ts us : List Token} {b : Combiner}
        → IsCombiner ts us b
        → IsOperation (keyword_token keyword.Combineall n ∷ name_token c m ∷ keyword_token
        keyword.By k ∷ ts) us
        (operation.CombineAll c b)
    operate : {f : List ℕ} {n m k : ℕ} {ts us : List Token} {xs : List (List ℕ)}
        → AreNames ts (keyword_token keyword.By m ∷ name_token f k ∷ us) xs
        → length xs ≤ limits.inputs
        → IsOperation (keyword_token keyword.Operate n ∷ ts) us (operation.Operate xs f)
    do_with : {c f o : List ℕ} {n m k i j : ℕ} {ts : List Token}
        → IsOperation (keyword_token keyword.Do n ∷ name_token c m ∷ name_token f k ∷ keyword_token
        keyword.With i ∷ name_token o j ∷ ts)
        ts (operation.DoWith c f o)

  -- let = "let" name { "," name } "=" op
  pub data IsLet : List Token → List Token → TurnLet → Type 0 where
    let_ : {xs : List (List ℕ)} {n k : ℕ} {ts us vs : List Token} {o : Operation}
        → AreNames ts (mark sign.Assign k ∷ us) xs → IsOperation us vs o
        → IsLet (keyword_token keyword.Let n ∷ ts) vs (record { line = n; names = xs; by = o })

  -- { let }
  pub data AreLets : List Token → List Token → List TurnLet → Type 0 where
    none_ : {ts : List Token} → AreLets ts ts []
    some : {ts us vs : List Token} {l : TurnLet} {ls : List TurnLet} → AreLets ts us ls
        → IsLet us vs l → AreLets ts vs (ls ++ l ∷ [])

  -- repeat = "repeat" num "from" name { "," name } "as" name { "," name }
  --          "{" { let } "give" name { "," name } "}"
  pub data IsRepeat : List Token → List Token → Repeat → Type 0 where
    repeat_ : {digits : List ℕ} {xs ys zs : List (List ℕ)} {ls : List TurnLet}
        {n m k i j o p : ℕ} {ts us vs ws ps : List Token}
        → AreNames ts (keyword_token keyword.As i ∷ us) xs
        → AreNames us (mark sign.OpenBrace j ∷ vs) ys
        → AreLets vs (keyword_token keyword.Give o ∷ ws) ls
        → AreNames ws (mark sign.CloseBrace p ∷ ps) zs
        → IsRepeat (keyword_token keyword.Repeat n ∷ number_token digits m ∷ keyword_token
        keyword.From k ∷ ts) ps
        (record { turns = digits; from = xs; entering = ys; lets = ls; gives = zs })

  -- stmt = "type" name "=" type | "input" name ":" type "from" textlit
  --      | "fn" name "(" name ":" type ")" "->" type { "," type } [ "scale" num ] block
  --      | "let" name { "," name } "=" ( op | repeat ) | "output" name "to" textlit
  pub data IsStatement : List Token → List Token → Statement → Type 0 where
    type_ : {x : List ℕ} {n m k : ℕ} {ts us : List Token} {t : Tree} → IsWholeType ts us t
        → IsStatement (keyword_token keyword.Type n ∷ name_token x m ∷ mark sign.Assign k ∷ ts) us
        (record { line = n; form = form.Type x t })
    input : {x f : List ℕ} {n m k i j : ℕ} {ts us : List Token} {t : Tree}
        → IsWholeType ts (keyword_token keyword.From i ∷ text_token f j ∷ us) t
        → IsStatement (keyword_token keyword.Input n ∷ name_token x m ∷ mark sign.Colon k ∷ ts) us
        (record { line = n; form = form.Input x t f })
    -- a function has at most 8 outputs, and its body is at most 32 deep
    fn_ : {x y : List ℕ} {n m k i j o p d : ℕ} {ts us vs ws xs ys : List Token} {s t : Tree}
        {types : List Tree} {c : Option (List ℕ)} {b : List Body}
        → IsWholeType ts (mark sign.Close o ∷ mark sign.Arrow p ∷ us) s → IsWholeType us vs t
        → AreMoreTypes vs ws types → 1 + length types ≤ limits.outputs
        → IsOptionalNumber keyword.Scale ws xs c
        → IsBlock xs ys b d → d ≤ limits.depth
        → IsStatement (keyword_token keyword.Fn n ∷ name_token x m ∷ mark sign.Open k ∷ name_token y
        i ∷ mark sign.Colon j
        ∷ ts) ys
        (record {
          line = n;
          form =
              form.Function (record {
                name = x;
                argument = y;
                takes = s;
                gives = t;
                more = types;
                scale = c;
                body =
                    b;
              });
        })
    let_ : {xs : List (List ℕ)} {n k : ℕ} {ts us vs : List Token} {o : Operation}
        → AreNames ts (mark sign.Assign k ∷ us) xs → IsOperation us vs o
        → IsStatement (keyword_token keyword.Let n ∷ ts) vs
        (record { line = n; form = form.Let xs o })
    repeat : {xs : List (List ℕ)} {n k : ℕ} {ts us vs : List Token} {r : Repeat}
        → AreNames ts (mark sign.Assign k ∷ us) xs → IsRepeat us vs r
        → IsStatement (keyword_token keyword.Let n ∷ ts) vs
        (record { line = n; form = form.Repeat xs r })
    output : {x f : List ℕ} {n m k i : ℕ} {ts : List Token}
        → IsStatement (keyword_token keyword.Output n ∷ name_token x m ∷ keyword_token keyword.To k
        ∷ text_token f i ∷ ts) ts
        (record { line = n; form = form.Output x f })

  -- script = { stmt }
  pub data AreStatements : List Token → List Token → List Statement → Type 0 where
    none_ : {ts : List Token} → AreStatements ts ts []
    some : {ts us vs : List Token} {s : Statement} {ss : List Statement} → AreStatements ts us ss
        → IsStatement us vs s → AreStatements ts vs (ss ++ s ∷ [])

  -- the tokens spell these statements
  abbrev pub IsScript : List Token → List Statement → Type 0
  IsScript ts ss = AreStatements ts [] ss
