-- Expressions stay expressions with other contents.
use Rattle.std.proofs.Common.{◌≡◌, ℕ, ◌+◌, ◌≤◌, max, length, List, [], ◌∷◌, ◌++◌, refl, sym, ap, subst}
use Rattle.flume_tokens.specs.declared.token.Token.{Token}
use Rattle.flume_tokens.specs.declared.sign.Sign.TheVariants as sign
use Rattle.flume_grammar.specs.declared.parts.Parts.{Parts}
use Rattle.flume_grammar.specs.declared.tree.Expr.{Expr}
use Rattle.flume_grammar.specs.declared.tree.Expr.TheVariants as tree
use Rattle.flume_grammar.specs.Parts.{none, with_named_part}
use Rattle.flume_grammar.specs.Terminals.{mark}
use Rattle.flume_grammar.specs.Limits.{Limits}
use Rattle.flume_grammar.specs.Grammar as g
use Rattle.beginning_spelling.proofs.Fillings.{Plan, on, Filled, FilledParts, FilledList, word_filled, operator_filled, one_more}
use Rattle.beginning_spelling.proofs.FilledTypes.{whole_type_filled}

module _ (limits : Limits) where
  -- a literal whose parts are as many and as deep as those of another
  literal_like : {n m : ℕ} {ts us : List Token} (r s : Parts Expr) → r.depth ≡ s.depth
      → length r.names ≡ length s.names → length s.names ≤ limits.fields
      → g.AreFields limits ts (mark sign.CloseBrace m ∷ us) r
      → g.IsExpr limits 8 (mark sign.OpenBrace n ∷ ts) us (tree.Record r.names r.parts)
      (s.depth + 1)
  literal_like {n} {m} {ts} {us} r s d e l h = subst (λ k. g.IsExpr limits 8
      (mark sign.OpenBrace n ∷ ts) us (tree.Record r.names r.parts) (k + 1)) d
      (g.literal h (subst (λ k. k ≤ limits.fields) (sym e) l))

  mutual
    pub expression_filled : {r a : ℕ} {ts us : List Token} {e : Expr}
        → g.IsExpr limits r ts us e a → (p : Plan)
        → Filled (λ xs ys x. g.IsExpr limits r xs ys x a) p ts us
    expression_filled (g.above x) p = let (q, e, y) = expression_filled x p in (q, e, g.above y)
    expression_filled (g.binary {t} {o} i x y) p =
        let (q, e, v) = expression_filled x p in
        let (r, f, w) = expression_filled y (on q) in
        (r, _, g.binary (operator_filled t.kind (q 0) o i) v w)
    expression_filled (g.not_ x) p =
        let (q, e, y) = expression_filled x (on p) in (q, _, g.not_ y)
    expression_filled (g.negate x) p =
        let (q, e, y) = expression_filled x (on p) in (q, _, g.negate y)
    expression_filled (g.field {w} {x = n} x i) p =
        let (q, e, y) = expression_filled x p in
        let (m, f) = word_filled w.kind (q 1) n i in
        (on (on q), _, g.field y f)
    expression_filled (g.index x y) p =
        let (q, e, v) = expression_filled x p in
        let (r, f, w) = expression_filled y (on q) in
        (on r, _, g.index v w)
    expression_filled g.num p = (on p, _, g.num)
    expression_filled g.textlit p = (on p, _, g.textlit)
    expression_filled g.true_ p = (on p, _, g.true_)
    expression_filled g.false_ p = (on p, _, g.false_)
    expression_filled g.variable p = (on p, _, g.variable)
    expression_filled (g.paren x) p =
        let (q, e, y) = expression_filled x (on p) in (on q, _, g.paren y)
    expression_filled (g.literal {p = s} f l) p =
        let (q, r, d, n, y) = fields_filled f (on p) in
        (on q, tree.Record r.names r.parts, literal_like r s d n l y)
    expression_filled (g.members m l) p =
        let (q, es, n, y) = members_filled m (on p) in
        (on q, _, g.members y (subst (λ k. k ≤ limits.members) (sym n) l))
    expression_filled (g.empty w) p =
        let (q, t, y) = whole_type_filled limits w (on (on p)) in (on q, _, g.empty y)
    expression_filled (g.sided i w x) p =
        let (q, t, v) = whole_type_filled limits w (on (on p)) in
        let (r, e, y) = expression_filled x (on (on q)) in
        (on r, _, g.sided i v y)
    expression_filled (g.call i x) p =
        let (q, e, y) = expression_filled x (on (on p)) in (on q, _, g.call i y)
    expression_filled (g.concat x y) p =
        let (q, e, v) = expression_filled x (on (on p)) in
        let (r, f, w) = expression_filled y (on q) in
        (on r, _, g.concat v w)
    expression_filled (g.pick x y z) p =
        let (q, e, u) = expression_filled x (on (on p)) in
        let (r, f, v) = expression_filled y (on q) in
        let (s, h, w) = expression_filled z (on r) in
        (on s, _, g.pick u v w)

    fields_filled : {ts us : List Token} {s : Parts Expr} → g.AreFields limits ts us s
        → (p : Plan) → FilledParts (λ xs ys r. g.AreFields limits xs ys r) p ts us s
    fields_filled (g.first {w} {x} {a} i z) p =
        let (y, f) = word_filled w.kind (p 0) x i in
        let (q, e, v) = expression_filled z (on (on p)) in
        (q, with_named_part none y e a, refl, refl, g.first f v)
    fields_filled (g.next {w} {x} {a} {p = s} h i z) p =
        let (q, r, d, n, j) = fields_filled h p in
        let (y, f) = word_filled w.kind (q 1) x i in
        let (o, e, v) = expression_filled z (on (on (on q))) in (
          o,
          with_named_part r y e a,
          ap (λ k. max k a) d,
          one_more s.names r.names x y n,
          g.next j f v,
        )

    members_filled : {a : ℕ} {ts us : List Token} {es : List Expr}
        → g.AreMembers limits ts us es a → (p : Plan)
        → FilledList (λ xs ys fs. g.AreMembers limits xs ys fs a) p ts us es
    members_filled (g.one x) p = let (q, e, y) = expression_filled x p in
        (q, e ∷ [], refl, g.one y)
    members_filled (g.more {e = old} {es} h x) p =
        let (q, fs, n, j) = members_filled h p in
        let (r, e, y) = expression_filled x (on q) in
        (r, fs ++ e ∷ [], one_more es fs old e n, g.more j y)
