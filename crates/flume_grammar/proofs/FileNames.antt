-- The names of files in an accepted script are UTF-8, since its texts are.
use Rattle.std.proofs.Common.{ℕ, List, [], ◌∷◌, Option}
use Rattle.std.specs.List.{All, AllByRecursion}
use Rattle.std.proofs.lemmas.List.Elements.{All-nil, All-cons, All-append, recursion_from_All}
use Rattle.flume_tokens.specs.declared.keyword.Keyword.{Keyword}
use Rattle.flume_tokens.specs.declared.token.Token.{Token}
use Rattle.flume_tokens.specs.Utf8.{IsUtf8Text}
use Rattle.flume_tokens.proofs.Utf8Texts.{texts}
use Rattle.flume_grammar.specs.declared.parts.Parts.{Parts}
use Rattle.flume_grammar.specs.declared.tree.Body.{Body}
use Rattle.flume_grammar.specs.declared.tree.Combiner.{Combiner}
use Rattle.flume_grammar.specs.declared.tree.Expr.{Expr}
use Rattle.flume_grammar.specs.declared.tree.Operation.{Operation}
use Rattle.flume_grammar.specs.declared.tree.TurnLet.{TurnLet}
use Rattle.flume_grammar.specs.declared.tree.Repeat.{Repeat}
use Rattle.flume_grammar.specs.declared.tree.Statement.{Statement}
use Rattle.flume_grammar.specs.declared.tree.Ast.{Ast}
use Rattle.flume_grammar.specs.Answer.{Accepts}
use Rattle.flume_grammar.specs.Limits.{Limits, the_limits}
use Rattle.flume_grammar.specs.Parts.{Tree}
use Rattle.flume_grammar.specs.Grammar as g
use Rattle.flume_grammar.specs.Utf8.{IsUtf8Named}

-- the texts of these tokens are UTF-8
abbrev Texts : List Token → Type 0
Texts [] = Unit {0}
Texts (t ∷ ts) = IsUtf8Text t.kind × Texts ts

Texts-from_All : (ts : List Token) → All (λ (t : Token). IsUtf8Text t.kind) ts → Texts ts
Texts-from_All ts h = by ts (recursion_from_All (λ (t : Token). IsUtf8Text t.kind) ts h)
  where
    by : (us : List Token) → AllByRecursion (λ (t : Token). IsUtf8Text t.kind) us → Texts us
    by [] h = tt
    by (t ∷ us) h = (h.0, by us h.1)

rest_combiner : {ts us : List Token} {c : Combiner} → g.IsCombiner ts us c → Texts ts → Texts us
rest_combiner g.sum h = h.1
rest_combiner g.count h = h.1
rest_combiner g.min h = h.1
rest_combiner g.max_ h = h.1
rest_combiner g.all h = h.1
rest_combiner g.any h = h.1
rest_combiner g.top h = h.1.1
rest_combiner g.mean h = h.1
rest_combiner g.distinct h = h.1

rest_names : {ts us : List Token} {xs : List (List ℕ)} → g.AreNames ts us xs → Texts ts → Texts us
rest_names g.one h = h.1
rest_names (g.more x) h = (rest_names x h).1.1

rest_numbered : {k : Keyword} {ts us : List Token} {o : Option (List ℕ)}
    → g.IsOptionalNumber k ts us o
    → Texts ts → Texts us
rest_numbered g.absent h = h
rest_numbered g.present h = h.1.1

module _ (limits : Limits) where
  mutual
    rest_type : {ts us : List Token} {t : Tree} {a : ℕ} → g.IsType limits ts us t a → Texts ts
        → Texts us
    rest_type g.int h = h.1
    rest_type g.bool h = h.1
    rest_type g.text_ h = h.1
    rest_type g.named h = h.1
    rest_type (g.list x) h = (rest_type x h.1.1).1
    rest_type (g.either x y) h = (rest_type y (rest_type x h.1.1).1).1
    rest_type (g.table x y) h = (rest_type y (rest_type x h.1.1).1).1
    rest_type (g.record_ f l) h = (rest_types f h.1).1

    rest_types : {ts us : List Token} {p : Parts Tree} → g.AreFieldTypes limits ts us p → Texts ts
        → Texts us
    rest_types (g.first w x) h = rest_type x h.1.1
    rest_types (g.next f w x) h = rest_type x (rest_types f h).1.1.1

  mutual
    rest_expr : {r a : ℕ} {ts us : List Token} {e : Expr} → g.IsExpr limits r ts us e a → Texts ts
        → Texts us
    rest_expr (g.above x) h = rest_expr x h
    rest_expr (g.binary o x y) h = rest_expr y (rest_expr x h).1
    rest_expr (g.not_ x) h = rest_expr x h.1
    rest_expr (g.negate x) h = rest_expr x h.1
    rest_expr (g.field x w) h = (rest_expr x h).1.1
    rest_expr (g.index x y) h = (rest_expr y (rest_expr x h).1).1
    rest_expr g.num h = h.1
    rest_expr g.textlit h = h.1
    rest_expr g.true_ h = h.1
    rest_expr g.false_ h = h.1
    rest_expr g.variable h = h.1
    rest_expr (g.paren x) h = (rest_expr x h.1).1
    rest_expr (g.literal f l) h = (rest_fields f h.1).1
    rest_expr (g.members m l) h = (rest_members m h.1).1
    rest_expr (g.empty w) h = (rest_type w.spelled h.1.1).1
    rest_expr (g.sided e w x) h = (rest_expr x (rest_type w.spelled h.1.1).1.1).1
    rest_expr (g.call e x) h = (rest_expr x h.1.1).1
    rest_expr (g.concat x y) h = (rest_expr y (rest_expr x h.1.1).1).1
    rest_expr (g.pick x y z) h = (rest_expr z (rest_expr y (rest_expr x h.1.1).1).1).1

    rest_fields : {ts us : List Token} {p : Parts Expr} → g.AreFields limits ts us p → Texts ts
        → Texts us
    rest_fields (g.first w x) h = rest_expr x h.1.1
    rest_fields (g.next f w x) h = rest_expr x (rest_fields f h).1.1.1

    rest_members : {ts us : List Token} {es : List Expr} {a : ℕ} → g.AreMembers limits ts us es a
        → Texts ts → Texts us
    rest_members (g.one x) h = rest_expr x h
    rest_members (g.more m x) h = rest_expr x (rest_members m h).1

  mutual
    rest_body : {ts us : List Token} {s : Body} {a : ℕ} → g.IsBody limits ts us s a → Texts ts
        → Texts us
    rest_body (g.let_ x) h = rest_expr x h.1.1.1
    rest_body (g.emit o x) h = rest_expr x (rest_numbered o h.1)
    rest_body (g.if_ x b) h = rest_block b (rest_expr x h.1)
    rest_body (g.if_else x b c) h = rest_block c (rest_block b (rest_expr x h.1)).1
    rest_body (g.for_ x b) h = rest_block b (rest_expr x h.1.1.1)
    rest_body (g.case_ x b c) h = rest_block c (rest_block b (rest_expr x h.1).1.1).1.1

    rest_block : {ts us : List Token} {ss : List Body} {a : ℕ} → g.IsBlock limits ts us ss a
        → Texts ts → Texts us
    rest_block (g.braces b) h = (rest_bodies b h.1).1

    rest_bodies : {ts us : List Token} {ss : List Body} {a : ℕ} → g.AreBodies limits ts us ss a
        → Texts ts → Texts us
    rest_bodies g.none_ h = h
    rest_bodies (g.some b s) h = rest_body s (rest_bodies b h)

  rest_operation : {ts us : List Token} {o : Operation} → g.IsOperation limits ts us o → Texts ts
      → Texts us
  rest_operation g.do_ h = h.1.1.1
  rest_operation g.group h = h.1.1
  rest_operation (g.combine c) h = rest_combiner c h.1.1.1
  rest_operation (g.flatten n l) h = rest_names n h.1
  rest_operation g.count h = h.1.1
  rest_operation g.join h = h.1.1.1.1
  rest_operation g.top h = h.1.1.1
  rest_operation (g.combine_all c) h = rest_combiner c h.1.1.1
  rest_operation (g.operate n l) h = (rest_names n h.1).1.1
  rest_operation g.do_with h = h.1.1.1.1.1

  rest_let : {ts us : List Token} {l : TurnLet} → g.IsLet limits ts us l → Texts ts → Texts us
  rest_let (g.let_ x o) h = rest_operation o (rest_names x h.1).1

  rest_lets : {ts us : List Token} {ls : List TurnLet} → g.AreLets limits ts us ls → Texts ts
      → Texts us
  rest_lets g.none_ h = h
  rest_lets (g.some x y) h = rest_let y (rest_lets x h)

  rest_repeat : {ts us : List Token} {r : Repeat} → g.IsRepeat limits ts us r → Texts ts
      → Texts us
  rest_repeat (g.repeat_ x y l z) h =
      (rest_names z (rest_lets l (rest_names y (rest_names x h.1.1.1).1).1).1).1

  rest_more : {ts us : List Token} {types : List Tree} → g.AreMoreTypes limits ts us types
      → Texts ts → Texts us
  rest_more g.none_ h = h
  rest_more (g.some x w) h = rest_type w.spelled (rest_more x h).1

  record Named (s : Statement) (us : List Token) : Type 0 where
    pub named : IsUtf8Named s.form
    pub rest : Texts us

  one_named : {ts us : List Token} {s : Statement} → g.IsStatement limits ts us s → Texts ts
      → Named s us
  one_named (g.type_ w) h = record { named = tt; rest = rest_type w.spelled h.1.1.1 }
  one_named (g.input w) h =
      let k = rest_type w.spelled h.1.1.1 in record { named = k.1.0; rest = k.1.1 }
  one_named (g.fn_ v w m l c b d) h =
      let k = rest_type w.spelled (rest_type v.spelled h.1.1.1.1.1).1.1 in
      record { named = tt; rest = rest_block b (rest_numbered c (rest_more m k)) }
  one_named (g.let_ x o) h = record { named = tt; rest = rest_operation o (rest_names x h.1).1 }
  one_named (g.repeat x r) h = record { named = tt; rest = rest_repeat r (rest_names x h.1).1 }
  one_named g.output h = record { named = h.1.1.1.0; rest = h.1.1.1.1 }

  abbrev Each : List Statement → Type 0
  Each ss = All (λ (s : Statement). IsUtf8Named s.form) ss

  all_named : {ts us : List Token} {ss : List Statement} → g.AreStatements limits ts us ss
      → Texts ts → Each ss × Texts us
  all_named g.none_ h = (All-nil _, h)
  all_named (g.some {s} {ss} a x) h =
      let k = all_named a h in
      let n = one_named x k.1 in (
        All-append (λ (r : Statement). IsUtf8Named r.form) ss (s ∷ []) k.0
            (All-cons (λ (r : Statement). IsUtf8Named r.form) s [] n.named (All-nil _)),
        n.rest,
      )

pub files : (bytes : List ℕ) (ast : Ast) → Accepts bytes ast
    → All (λ (s : Statement). IsUtf8Named s.form) ast.statements
files bytes ast (list, e, h) =
    (all_named the_limits h (Texts-from_All list.items (texts bytes list e))).0
