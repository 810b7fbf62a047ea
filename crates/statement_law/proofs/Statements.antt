-- Statements, read without lines.
use Rattle.std.proofs.Common.{◌≡◌, ℕ, suc, true, List, ◌∷◌, map, refl, sym, subst}
use Rattle.flume_tokens.specs.declared.keyword.Keyword.TheVariants as keyword
use Rattle.flume_tokens.specs.declared.sign.Sign.TheVariants as sign
use Rattle.flume_tokens.specs.declared.token.Token.{Token}
use Rattle.flume_grammar.specs.declared.tree.Repeat.{Repeat}
use Rattle.flume_grammar.specs.declared.tree.Statement.{Statement}
use Rattle.flume_grammar.specs.declared.tree.TurnLet.{TurnLet}
use Rattle.flume_grammar.specs.Grammar as g
use Rattle.flume_grammar.specs.Limits.{Limits}
use Rattle.flume_grammar.specs.Terminals.{keyword_token, mark, text_token}
use Rattle.statement_texts.specs.Texts.{is_beginning_word}
use Rattle.statement_law.proofs.Bodies.{go_block, map_more}
use Rattle.statement_law.proofs.Moving.{Goes, goes, Moved, at_close, join, plain, stop, under, unlined}
use Rattle.statement_law.proofs.Plain.{go_more, go_names, go_numbered, go_operation, go_whole}
use Rattle.statement_law.specs.Lineless.{let_lineless, repeat_lineless, statement_lineless}

-- what is read begins with a word of a statement, and has no other beginning of one
pub record Begun (ts us vs : List Token) (R : List Token → Type 0) : Type 0 where
  pub head : Token
  pub behind : List Token
  pub is_head : ts ≡ head ∷ behind
  pub begins : is_beginning_word head.kind ≡ true
  pub without : List Token
  pub moved : Moved 0 behind 0 us without vs
  pub is : R (unlined head ∷ without)

begun : {t : Token} {ts us ws vs : List Token} {R : List Token → Type 0}
    → is_beginning_word t.kind ≡ true → Moved 0 ts 0 us ws vs → R (unlined t ∷ ws)
    → Begun (t ∷ ts) us vs R
begun {t} {ts} {us} {ws} b m r = record {
  head = t;
  behind = ts;
  is_head = refl;
  begins = b;
  without = ws;
  moved = m;
  is = r;
}

module _ (limits : Limits) where
  go_let : {ts us : List Token} {l : TurnLet} → g.IsLet limits ts us l → (d : ℕ)
      (vs : List Token) → Goes (suc d) ts us vs (λ ws. g.IsLet limits ws vs (let_lineless l))
  go_let (g.let_ x o) d vs =
      let by_ = go_operation limits o (suc d) vs in
      let names = go_names x (suc d) (mark sign.Assign 0 ∷ by_.without) in
      goes (under (join names.moved (plain refl by_.moved))) (g.let_ names.is by_.is)

  as_lets : {xs ys : List TurnLet} {ws vs : List Token} → xs ≡ ys → g.AreLets limits ws vs ys
      → g.AreLets limits ws vs xs
  as_lets {xs} {ys} {ws} {vs} e h = subst (g.AreLets limits ws vs) (sym e) h

  go_lets : {ts us : List Token} {ls : List TurnLet} → g.AreLets limits ts us ls → (d : ℕ)
      (vs : List Token)
      → Goes (suc d) ts us vs (λ ws. g.AreLets limits ws vs (map let_lineless ls))
  go_lets g.none_ d vs = goes stop g.none_
  go_lets (g.some {l} {ls} m x) d vs =
      let last = go_let x d vs in
      let others = go_lets m d last.without in
      goes (join others.moved last.moved) (as_lets (map_more let_lineless ls l) (g.some others.is
      last.is))

  go_repeat : {ts us : List Token} {r : Repeat} → g.IsRepeat limits ts us r → (d : ℕ)
      (vs : List Token) → Goes d ts us vs (λ ws. g.IsRepeat limits ws vs (repeat_lineless r))
  go_repeat (g.repeat_ x y l z) d vs =
      let gives = go_names z (suc d) (mark sign.CloseBrace 0 ∷ vs) in
      let lets = go_lets l d (keyword_token keyword.Give 0 ∷ gives.without) in
      let entering = go_names y d (mark sign.OpenBrace 0 ∷ lets.without) in
      let from_ = go_names x d (keyword_token keyword.As 0 ∷ entering.without) in
      goes (plain refl (plain refl (plain refl (join from_.moved
      (plain refl (join entering.moved (plain refl (join lets.moved
      (plain refl (join gives.moved (at_close stop)))))))))))
      (g.repeat_ from_.is entering.is lets.is gives.is)

  pub go_statement : {ts us : List Token} {s : Statement} → g.IsStatement limits ts us s
      → (vs : List Token)
      → Begun ts us vs (λ ws. g.IsStatement limits ws vs (statement_lineless s))
  go_statement (g.type_ w) vs =
      let type_ = go_whole limits w 0 vs in
      begun refl (plain refl (plain refl type_.moved)) (g.type_ type_.is)
  go_statement (g.input {f} w) vs =
      let type_ = go_whole limits w 0 (keyword_token keyword.From 0 ∷ text_token f 0 ∷ vs) in
      begun refl (plain refl (plain refl (join type_.moved (plain refl (plain refl stop)))))
      (g.input type_.is)
  go_statement (g.fn_ w v t l c b small) vs =
      let block = go_block limits b 0 vs in
      let scale = go_numbered {k = keyword.Scale} refl c 0 block.without in
      let more = go_more limits t 0 scale.without in
      let gives = go_whole limits v 0 more.without in
      let takes = go_whole limits w 0 (mark sign.Close 0 ∷ mark sign.Arrow 0 ∷ gives.without) in
      begun refl (plain refl (plain refl (plain refl
      (plain refl (join takes.moved (plain refl (plain refl
      (join gives.moved (join more.moved (join scale.moved block.moved))))))))))
      (g.fn_ takes.is gives.is more.is l scale.is block.is small)
  go_statement (g.let_ x o) vs =
      let by_ = go_operation limits o 0 vs in
      let names = go_names x 0 (mark sign.Assign 0 ∷ by_.without) in
      begun refl (join names.moved (plain refl by_.moved)) (g.let_ names.is by_.is)
  go_statement (g.repeat x r) vs =
      let turns = go_repeat r 0 vs in
      let names = go_names x 0 (mark sign.Assign 0 ∷ turns.without) in
      begun refl (join names.moved (plain refl turns.moved)) (g.repeat names.is turns.is)
  go_statement g.output vs = begun refl (plain refl (plain refl (plain refl stop))) g.output
