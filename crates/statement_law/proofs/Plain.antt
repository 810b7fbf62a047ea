-- Types, names and operations, read without lines.
use Rattle.std.proofs.Common.{◌≡◌, ℕ, suc, false, List, ◌∷◌, Option, refl}
use Rattle.flume_tokens.specs.declared.keyword.Keyword.{Keyword}
use Rattle.flume_tokens.specs.declared.keyword.Keyword.TheVariants as keyword
use Rattle.flume_tokens.specs.declared.sign.Sign.TheVariants as sign
use Rattle.flume_tokens.specs.declared.token.Token.{Token}
use Rattle.flume_tokens.specs.declared.token.TokenKind.TheVariants as kind
use Rattle.flume_grammar.specs.declared.parts.Parts.{Parts}
use Rattle.flume_grammar.specs.declared.tree.Combiner.{Combiner}
use Rattle.flume_grammar.specs.declared.tree.Operation.{Operation}
use Rattle.flume_grammar.specs.Grammar as g
use Rattle.flume_grammar.specs.Limits.{Limits}
use Rattle.flume_grammar.specs.Parts.{Tree}
use Rattle.flume_grammar.specs.Terminals.{keyword_token, mark, name_token}
use Rattle.statement_texts.specs.Texts.{is_beginning_word}
use Rattle.statement_law.proofs.Moving.{Goes, goes, at_close, at_word, join, plain, stop, unlined}

go_combiner : {ts us : List Token} {c : Combiner} → g.IsCombiner ts us c → (d : ℕ)
    (vs : List Token) → Goes d ts us vs (λ ws. g.IsCombiner ws vs c)
go_combiner g.sum d vs = goes (plain refl stop) g.sum
go_combiner g.count d vs = goes (plain refl stop) g.count
go_combiner g.min d vs = goes (plain refl stop) g.min
go_combiner g.max_ d vs = goes (plain refl stop) g.max_
go_combiner g.all d vs = goes (plain refl stop) g.all
go_combiner g.any d vs = goes (plain refl stop) g.any
go_combiner g.top d vs = goes (plain refl (plain refl stop)) g.top
go_combiner g.mean d vs = goes (plain refl stop) g.mean
go_combiner g.distinct d vs = goes (plain refl stop) g.distinct

pub go_names : {ts us : List Token} {xs : List (List ℕ)} → g.AreNames ts us xs → (d : ℕ)
    (vs : List Token) → Goes d ts us vs (λ ws. g.AreNames ws vs xs)
go_names g.one d vs = goes (plain refl stop) g.one
go_names (g.more {x} y) d vs =
    let first = go_names y d (mark sign.Comma 0 ∷ name_token x 0 ∷ vs) in
    goes (join first.moved (plain refl (plain refl stop))) (g.more first.is)

pub go_numbered : {k : Keyword} {ts us : List Token} {o : Option (List ℕ)}
    → is_beginning_word (kind.Keyword k) ≡ false → g.IsOptionalNumber k ts us o → (d : ℕ)
    (vs : List Token) → Goes d ts us vs (λ ws. g.IsOptionalNumber k ws vs o)
go_numbered q g.absent d vs = goes stop g.absent
go_numbered q g.present d vs = goes (plain q (plain refl stop)) g.present

module _ (limits : Limits) where
  mutual
    go_type : {ts us : List Token} {t : Tree} {a : ℕ} → g.IsType limits ts us t a → (d : ℕ)
        (vs : List Token) → Goes d ts us vs (λ ws. g.IsType limits ws vs t a)
    go_type g.int d vs = goes (plain refl stop) g.int
    go_type g.bool d vs = goes (plain refl stop) g.bool
    go_type g.text_ d vs = goes (plain refl stop) g.text_
    go_type g.named d vs = goes (plain refl stop) g.named
    go_type (g.list x) d vs =
        let first = go_type x d (mark sign.Greater 0 ∷ vs) in
        goes (plain refl (plain refl (join first.moved (plain refl stop)))) (g.list first.is)
    go_type (g.either x y) d vs =
        let second = go_type y d (mark sign.Greater 0 ∷ vs) in
        let first = go_type x d (mark sign.Comma 0 ∷ second.without) in
        goes (plain refl (plain refl (join first.moved (plain refl
        (join second.moved (plain refl stop)))))) (g.either first.is second.is)
    go_type (g.table x y) d vs =
        let second = go_type y d (mark sign.Greater 0 ∷ vs) in
        let first = go_type x d (mark sign.Comma 0 ∷ second.without) in
        goes (plain refl (plain refl (join first.moved (plain refl
        (join second.moved (plain refl stop)))))) (g.table first.is second.is)
    go_type (g.record_ f l) d vs =
        let fields = go_types f d (mark sign.CloseBrace 0 ∷ vs) in
        goes (plain refl (join fields.moved (at_close stop))) (g.record_ fields.is l)

    go_types : {ts us : List Token} {p : Parts Tree} → g.AreFieldTypes limits ts us p → (d : ℕ)
        (vs : List Token) → Goes (suc d) ts us vs (λ ws. g.AreFieldTypes limits ws vs p)
    go_types (g.first q x) d vs =
        let first = go_type x (suc d) vs in
        goes (at_word q (plain refl first.moved)) (g.first q first.is)
    go_types (g.next {w} f q x) d vs =
        let last = go_type x (suc d) vs in
        let fields = go_types f d
        (mark sign.Comma 0 ∷ unlined w ∷ mark sign.Colon 0 ∷ last.without) in
        goes (join fields.moved (plain refl (at_word q (plain refl last.moved))))
        (g.next fields.is q last.is)

  pub go_whole : {ts us : List Token} {t : Tree} → g.IsWholeType limits ts us t → (d : ℕ)
      (vs : List Token) → Goes d ts us vs (λ ws. g.IsWholeType limits ws vs t)
  go_whole w d vs =
      let type = go_type w.spelled d vs in
      goes type.moved (record { depth = w.depth; spelled = type.is; small = w.small })

  pub go_more : {ts us : List Token} {types : List Tree} → g.AreMoreTypes limits ts us types
      → (d : ℕ) (vs : List Token) → Goes d ts us vs (λ ws. g.AreMoreTypes limits ws vs types)
  go_more g.none_ d vs = goes stop g.none_
  go_more (g.some m w) d vs =
      let last = go_whole w d vs in
      let types = go_more m d (mark sign.Comma 0 ∷ last.without) in
      goes (join types.moved (plain refl last.moved)) (g.some types.is last.is)

  pub go_operation : {ts us : List Token} {o : Operation} → g.IsOperation limits ts us o → (d : ℕ)
      (vs : List Token) → Goes d ts us vs (λ ws. g.IsOperation limits ws vs o)
  go_operation g.do_ d vs = goes (plain refl (plain refl (plain refl stop))) g.do_
  go_operation g.group d vs = goes (plain refl (plain refl stop)) g.group
  go_operation (g.combine x) d vs =
      let by = go_combiner x d vs in
      goes (plain refl (plain refl (plain refl by.moved))) (g.combine by.is)
  go_operation (g.flatten x l) d vs =
      let names = go_names x d vs in
      goes (plain refl names.moved) (g.flatten names.is l)
  go_operation g.count d vs = goes (plain refl (plain refl stop)) g.count
  go_operation g.join d vs = goes (plain refl (plain refl (plain refl (plain refl stop)))) g.join
  go_operation g.top d vs = goes (plain refl (plain refl (plain refl stop))) g.top
  go_operation (g.combine_all x) d vs =
      let by = go_combiner x d vs in
      goes (plain refl (plain refl (plain refl by.moved))) (g.combine_all by.is)
  go_operation (g.operate {f} x l) d vs =
      let names = go_names x d (keyword_token keyword.By 0 ∷ name_token f 0 ∷ vs) in
      goes (plain refl (join names.moved (plain refl (plain refl stop)))) (g.operate names.is l)
  go_operation g.do_with d vs =
      goes (plain refl (plain refl (plain refl (plain refl (plain refl stop))))) g.do_with
