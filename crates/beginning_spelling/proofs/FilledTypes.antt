-- Types as they are written stay types with other contents.
use Rattle.std.proofs.Common.{◌≡◌, ℕ, ◌+◌, ◌≤◌, max, length, List, ◌∷◌, refl, sym, ap, subst}
use Rattle.flume_tokens.specs.declared.token.Token.{Token}
use Rattle.flume_tokens.specs.declared.sign.Sign.TheVariants as sign
use Rattle.flume_grammar.specs.declared.parts.Parts.{Parts}
use Rattle.flume_grammar.specs.declared.tree.Type.TheVariants as type_tree
use Rattle.flume_grammar.specs.Parts.{Tree, none, with_named_part}
use Rattle.flume_grammar.specs.Terminals.{mark}
use Rattle.flume_grammar.specs.Limits.{Limits}
use Rattle.flume_grammar.specs.Grammar as g
use Rattle.beginning_spelling.proofs.Fillings.{Plan, on, Filled, FilledParts, word_filled, one_more}

module _ (limits : Limits) where
  -- a record whose parts are as many and as deep as those of another
  record_like : {n m : ℕ} {ts us : List Token} (r s : Parts Tree) → r.depth ≡ s.depth
      → length r.names ≡ length s.names → length s.names ≤ limits.fields
      → g.AreFieldTypes limits ts (mark sign.CloseBrace m ∷ us) r
      → g.IsType limits (mark sign.OpenBrace n ∷ ts) us (type_tree.Record r.names r.parts)
      (s.depth + 1)
  record_like {n} {m} {ts} {us} r s d e l h = subst (λ k. g.IsType limits
      (mark sign.OpenBrace n ∷ ts) us (type_tree.Record r.names r.parts) (k + 1)) d
      (g.record_ h (subst (λ k. k ≤ limits.fields) (sym e) l))

  mutual
    type_filled : {ts us : List Token} {t : Tree} {a : ℕ} → g.IsType limits ts us t a
        → (p : Plan) → Filled (λ xs ys x. g.IsType limits xs ys x a) p ts us
    type_filled g.int p = (on p, _, g.int)
    type_filled g.bool p = (on p, _, g.bool)
    type_filled g.text_ p = (on p, _, g.text_)
    type_filled g.named p = (on p, _, g.named)
    type_filled (g.list x) p = let (q, t, y) = type_filled x (on (on p)) in (on q, _, g.list y)
    type_filled (g.either x y) p =
        let (q, s, v) = type_filled x (on (on p)) in
        let (r, t, w) = type_filled y (on q) in
        (on r, _, g.either v w)
    type_filled (g.table x y) p =
        let (q, s, v) = type_filled x (on (on p)) in
        let (r, t, w) = type_filled y (on q) in
        (on r, _, g.table v w)
    type_filled (g.record_ {p = s} f l) p =
        let (q, r, d, n, y) = field_types_filled f (on p) in
        (on q, type_tree.Record r.names r.parts, record_like r s d n l y)

    field_types_filled : {ts us : List Token} {s : Parts Tree}
        → g.AreFieldTypes limits ts us s → (p : Plan)
        → FilledParts (λ xs ys r. g.AreFieldTypes limits xs ys r) p ts us s
    field_types_filled (g.first {w} {x} {a} e z) p =
        let (y, f) = word_filled w.kind (p 0) x e in
        let (q, t, v) = type_filled z (on (on p)) in
        (q, with_named_part none y t a, refl, refl, g.first f v)
    field_types_filled (g.next {w} {x} {a} {p = s} h e z) p =
        let (q, r, d, n, i) = field_types_filled h p in
        let (y, f) = word_filled w.kind (q 1) x e in
        let (o, t, v) = type_filled z (on (on (on q))) in (
          o,
          with_named_part r y t a,
          ap (λ k. max k a) d,
          one_more s.names r.names x y n,
          g.next i f v,
        )

  pub whole_type_filled : {ts us : List Token} {t : Tree} → g.IsWholeType limits ts us t
      → (p : Plan) → Filled (λ xs ys x. g.IsWholeType limits xs ys x) p ts us
  whole_type_filled w p = let (q, t, y) = type_filled w.spelled p in
      (q, t, record { depth = w.depth; spelled = y; small = w.small })
