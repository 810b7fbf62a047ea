-- Bodies, operations, statements and scripts stay so with other contents.
use Rattle.std.proofs.Common.{ℕ, ◌+◌, ◌≤◌, List, [], ◌∷◌, ◌++◌, Option, refl, sym, subst}
use Rattle.flume_tokens.specs.declared.keyword.Keyword.{Keyword}
use Rattle.flume_tokens.specs.declared.token.Token.{Token}
use Rattle.flume_grammar.specs.declared.tree.Body.{Body}
use Rattle.flume_grammar.specs.declared.tree.Combiner.{Combiner}
use Rattle.flume_grammar.specs.declared.tree.Operation.{Operation}
use Rattle.flume_grammar.specs.declared.tree.TurnLet.{TurnLet}
use Rattle.flume_grammar.specs.declared.tree.Repeat.{Repeat}
use Rattle.flume_grammar.specs.declared.tree.Statement.{Statement}
use Rattle.flume_grammar.specs.Limits.{Limits}
use Rattle.flume_grammar.specs.Parts.{Tree}
use Rattle.flume_grammar.specs.Grammar as g
use Rattle.beginning_spelling.proofs.Fillings.{Plan, on, Filled, FilledList, one_more, more_filled}
use Rattle.beginning_spelling.proofs.FilledTypes.{whole_type_filled}
use Rattle.beginning_spelling.proofs.FilledExpressions.{expression_filled}

combiner_filled : {ts us : List Token} {c : Combiner} → g.IsCombiner ts us c → (p : Plan)
    → Filled (λ xs ys x. g.IsCombiner xs ys x) p ts us
combiner_filled g.sum p = (on p, _, g.sum)
combiner_filled g.count p = (on p, _, g.count)
combiner_filled g.min p = (on p, _, g.min)
combiner_filled g.max_ p = (on p, _, g.max_)
combiner_filled g.all p = (on p, _, g.all)
combiner_filled g.any p = (on p, _, g.any)
combiner_filled g.top p = (on (on p), _, g.top)
combiner_filled g.mean p = (on p, _, g.mean)
combiner_filled g.distinct p = (on p, _, g.distinct)

names_filled : {ts us : List Token} {ns : List (List ℕ)} → g.AreNames ts us ns → (p : Plan)
    → FilledList (λ xs ys ms. g.AreNames xs ys ms) p ts us ns
names_filled g.one p = (on p, (p 0).word ∷ [], refl, g.one)
names_filled (g.more {x} {xs} h) p = let (q, ms, n, j) = names_filled h p in
    (on (on q), ms ++ (q 1).word ∷ [], one_more xs ms x ((q 1).word) n, g.more j)

numbered_filled : {k : Keyword} {ts us : List Token} {o : Option (List ℕ)}
    → g.IsOptionalNumber k ts us o → (p : Plan)
    → Filled (λ xs ys x. g.IsOptionalNumber k xs ys x) p ts us
numbered_filled g.absent p = (p, _, g.absent)
numbered_filled g.present p = (on (on p), _, g.present)

module _ (limits : Limits) where
  mutual
    body_filled : {ts us : List Token} {s : Body} {a : ℕ} → g.IsBody limits ts us s a
        → (p : Plan) → Filled (λ xs ys x. g.IsBody limits xs ys x a) p ts us
    body_filled (g.let_ x) p =
        let (q, e, y) = expression_filled limits x (on (on (on p))) in (q, _, g.let_ y)
    body_filled (g.emit o x) p =
        let (q, n, z) = numbered_filled o (on p) in
        let (r, e, y) = expression_filled limits x q in
        (r, _, g.emit z y)
    body_filled (g.if_ x b) p =
        let (q, e, y) = expression_filled limits x (on p) in
        let (r, ss, c) = block_filled b q in
        (r, _, g.if_ y c)
    body_filled (g.if_else x b c) p =
        let (q, e, y) = expression_filled limits x (on p) in
        let (r, ss, v) = block_filled b q in
        let (s, rs, w) = block_filled c (on r) in
        (s, _, g.if_else y v w)
    body_filled (g.for_ x b) p =
        let (q, e, y) = expression_filled limits x (on (on (on p))) in
        let (r, ss, c) = block_filled b q in
        (r, _, g.for_ y c)
    body_filled (g.case_ x b c) p =
        let (q, e, y) = expression_filled limits x (on p) in
        let (r, ss, v) = block_filled b (on (on q)) in
        let (s, rs, w) = block_filled c (on (on r)) in
        (s, _, g.case_ y v w)

    block_filled : {ts us : List Token} {ss : List Body} {a : ℕ} → g.IsBlock limits ts us ss a
        → (p : Plan) → Filled (λ xs ys x. g.IsBlock limits xs ys x a) p ts us
    block_filled (g.braces b) p =
        let (q, ss, c) = bodies_filled b (on p) in (on q, _, g.braces c)

    bodies_filled : {ts us : List Token} {ss : List Body} {a : ℕ}
        → g.AreBodies limits ts us ss a → (p : Plan)
        → Filled (λ xs ys x. g.AreBodies limits xs ys x a) p ts us
    bodies_filled g.none_ p = (p, _, g.none_)
    bodies_filled (g.some b s) p =
        let (q, ss, c) = bodies_filled b p in
        let (r, t, d) = body_filled s q in
        (r, _, g.some c d)

  operation_filled : {ts us : List Token} {o : Operation} → g.IsOperation limits ts us o
      → (p : Plan) → Filled (λ xs ys x. g.IsOperation limits xs ys x) p ts us
  operation_filled g.do_ p = (on (on (on p)), _, g.do_)
  operation_filled g.group p = (on (on p), _, g.group)
  operation_filled (g.combine c) p =
      let (q, d, y) = combiner_filled c (on (on (on p))) in (q, _, g.combine y)
  operation_filled (g.flatten h l) p =
      let (q, ms, n, y) = names_filled h (on p) in
      (q, _, g.flatten y (subst (λ k. k ≤ limits.inputs) (sym n) l))
  operation_filled g.count p = (on (on p), _, g.count)
  operation_filled g.join p = (on (on (on (on p))), _, g.join)
  operation_filled g.top p = (on (on (on p)), _, g.top)
  operation_filled (g.combine_all c) p =
      let (q, d, y) = combiner_filled c (on (on (on p))) in (q, _, g.combine_all y)
  operation_filled (g.operate h l) p =
      let (q, ms, n, y) = names_filled h (on p) in
      (on (on q), _, g.operate y (subst (λ k. k ≤ limits.inputs) (sym n) l))
  operation_filled g.do_with p = (on (on (on (on (on p)))), _, g.do_with)

  let_filled : {ts us : List Token} {l : TurnLet} → g.IsLet limits ts us l → (p : Plan)
      → Filled (λ xs ys x. g.IsLet limits xs ys x) p ts us
  let_filled (g.let_ n h) p =
      let (q, ms, i, x) = names_filled n (on p) in
      let (r, o, y) = operation_filled h (on q) in
      (r, _, g.let_ x y)

  lets_filled : {ts us : List Token} {ls : List TurnLet} → g.AreLets limits ts us ls → (p : Plan)
      → Filled (λ xs ys x. g.AreLets limits xs ys x) p ts us
  lets_filled g.none_ p = (p, _, g.none_)
  lets_filled (g.some {ts} {us} {vs} h l) p =
      more_filled (g.AreLets limits) (g.IsLet limits) (λ xs ys zs ls own y z. g.some y z) p ts us vs
      (lets_filled h p) (λ q. let_filled l q)

  repeat_filled : {ts us : List Token} {r : Repeat} → g.IsRepeat limits ts us r → (p : Plan)
      → Filled (λ xs ys x. g.IsRepeat limits xs ys x) p ts us
  repeat_filled (g.repeat_ a b l c) p =
      let (q, xs, i, x) = names_filled a (on (on (on p))) in
      let (r, ys, j, y) = names_filled b (on q) in
      let (s, ls, z) = lets_filled l (on r) in
      let (t, zs, k, w) = names_filled c (on s) in
      (on t, _, g.repeat_ x y z w)

  more_types_filled : {ts us : List Token} {types : List Tree}
      → g.AreMoreTypes limits ts us types → (p : Plan)
      → FilledList (λ xs ys rs. g.AreMoreTypes limits xs ys rs) p ts us types
  more_types_filled g.none_ p = (p, [], refl, g.none_)
  more_types_filled (g.some {t} {types} h w) p =
      let (q, rs, n, j) = more_types_filled h p in
      let (r, s, y) = whole_type_filled limits w (on q) in
      (r, rs ++ s ∷ [], one_more types rs t s n, g.some j y)

  statement_filled : {ts us : List Token} {s : Statement} → g.IsStatement limits ts us s
      → (p : Plan) → Filled (λ xs ys x. g.IsStatement limits xs ys x) p ts us
  statement_filled (g.type_ w) p =
      let (q, t, y) = whole_type_filled limits w (on (on (on p))) in (q, _, g.type_ y)
  statement_filled (g.input w) p =
      let (q, t, y) = whole_type_filled limits w (on (on (on p))) in (on (on q), _, g.input y)
  statement_filled (g.fn_ v w h i c b l) p =
      let (q, s, x) = whole_type_filled limits v (on (on (on (on (on p))))) in
      let (r, t, y) = whole_type_filled limits w (on (on q)) in
      let (k, types, e, f) = more_types_filled h r in
      let (o, n, z) = numbered_filled c k in
      let (m, ss, d) = block_filled b o in
      (m, _, g.fn_ x y f (subst (λ j. 1 + j ≤ limits.outputs) (sym e) i) z d l)
  statement_filled (g.let_ n h) p =
      let (q, ms, i, x) = names_filled n (on p) in
      let (r, o, y) = operation_filled h (on q) in
      (r, _, g.let_ x y)
  statement_filled (g.repeat n h) p =
      let (q, ms, i, x) = names_filled n (on p) in
      let (r, it, y) = repeat_filled h (on q) in
      (r, _, g.repeat x y)
  statement_filled g.output p = (on (on (on (on p))), _, g.output)

  -- a script stays one
  pub script_filled : {ts us : List Token} {ss : List Statement}
      → g.AreStatements limits ts us ss → (p : Plan)
      → Filled (λ xs ys x. g.AreStatements limits xs ys x) p ts us
  script_filled g.none_ p = (p, _, g.none_)
  script_filled (g.some {ts} {us} {vs} h s) p =
      more_filled (g.AreStatements limits) (g.IsStatement limits)
      (λ xs ys zs ss own y z. g.some y z) p ts us vs (script_filled h p)
      (λ q. statement_filled s q)
