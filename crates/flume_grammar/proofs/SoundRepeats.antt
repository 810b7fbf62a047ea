-- Repeats that are read are in the grammar.
use Rattle.std.proofs.Common.{◌≡◌, ℕ, List, ◌∷◌, Ok, refl, ap, ◌∙◌, subst}
use Rattle.flume_tokens.specs.declared.token.Token.{Token}
use Rattle.flume_tokens.specs.declared.keyword.Keyword.TheVariants as keyword
use Rattle.flume_tokens.specs.declared.sign.Sign.TheVariants as sign
use Rattle.flume_grammar.specs.declared.tree.TurnLet.{TurnLet}
use Rattle.flume_grammar.specs.declared.tree.Repeat.{Repeat}
use Rattle.flume_grammar.specs.inner.Statements as s
use Rattle.flume_grammar.specs.Grammar as g
use Rattle.flume_grammar.specs.Terminals.{keyword_token, mark, number_token}
use Rattle.flume_grammar.specs.Grammar.{AreNames, IsLet, AreLets, IsRepeat}
use Rattle.flume_grammar.proofs.Sound.{bound, gave, moved_by}
use Rattle.flume_grammar.proofs.SoundTokens.{past_sign, past_keyword, past_number, past_let}
use Rattle.flume_grammar.proofs.SoundLoops.{kept_list}
use Rattle.flume_grammar.specs.Limits.{Limits}
use Rattle.flume_grammar.proofs.Fair.{IsFair}
use Rattle.flume_grammar.proofs.SoundOperations.{s_names, s_operation}

-- what stands before the braces of a repeat
abbrev Head : Type 0
Head = List ℕ × List (List ℕ) × List (List ℕ)

-- num "from" name { "," name } "as" name { "," name }
data IsHead : List Token → List Token → Head → Type 0 where
  head : {digits : List ℕ} {xs ys : List (List ℕ)} {n m k : ℕ} {ts us vs : List Token}
      → AreNames ts (keyword_token keyword.As k ∷ us) xs → AreNames us vs ys
      → IsHead (number_token digits n ∷ keyword_token keyword.From m ∷ ts) vs (digits, xs, ys)

s_head : (ts : List Token) (x : Head) (us : List Token) → s.repeat_head ts ≡ Ok (x, us)
    → IsHead ts us x
s_head ts x us q =
    let a = past_number ts _ x us q in
    let c = past_keyword keyword.From a.rest _ x us a.after in
    let d = bound (s.names c.rest) _ x us c.after in
    let e = past_keyword keyword.As d.rest _ x us d.after in
    let f = bound (s.names e.rest) _ x us e.after in
    let own : Head = (a.got, d.got, f.got) in
    let v = gave own x f.rest us f.after in
    moved_by IsHead (number_token a.got a.line ∷ keyword_token keyword.From c.line ∷ c.rest) ts
    f.rest us own x
    (a.is ∙ ap (λ z. number_token a.got a.line ∷ z) c.is) v.1 v.0
    (head (subst (λ z. AreNames c.rest z d.got) e.is (s_names c.rest d.got d.rest d.part))
    (s_names e.rest f.got f.rest f.part))

-- what stands in the braces of a repeat
abbrev Inside : Type 0
Inside = List TurnLet × List (List ℕ)

-- "{" { let } "give" name { "," name } "}"
data IsInside (limits : Limits) : List Token → List Token → Inside → Type 0 where
  inside : {ls : List TurnLet} {xs : List (List ℕ)} {n m k : ℕ} {ts us vs : List Token}
      → AreLets limits ts (keyword_token keyword.Give m ∷ us) ls
      → AreNames us (mark sign.CloseBrace k ∷ vs) xs
      → IsInside limits (mark sign.OpenBrace n ∷ ts) vs (ls, xs)

abbrev repeat_of : Head → Inside → Repeat
repeat_of h b =
    record { turns = h.0; from = h.1; entering = h.2; lets = b.0; gives = b.1 }

module _ (limits : Limits) (fair : IsFair limits) where
  s_turn_let : (ts : List Token) (x : TurnLet) (us : List Token)
      → s.turn_let limits ts ≡ Ok (x, us) → IsLet limits ts us x
  s_turn_let ts x us q =
      let a = past_let ts _ x us q in
      let c = bound (s.names a.rest) _ x us a.after in
      let d = past_sign sign.Assign c.rest _ x us c.after in
      let e = bound (s.operation_at limits d.rest) _ x us d.after in
      let own : TurnLet = record { line = a.got; names = c.got; by = e.got } in
      let v = gave own x e.rest us e.after in
      let y : AreNames a.rest (mark sign.Assign d.line ∷ d.rest) c.got = subst
      (λ z. AreNames a.rest z c.got) d.is (s_names a.rest c.got c.rest c.part) in
      moved_by (IsLet limits) (keyword_token keyword.Let a.got ∷ a.rest) ts e.rest us own x
      a.is v.1 v.0
      (g.let_ y (s_operation limits fair d.rest e.got e.rest e.part))

  s_turn_lets : (ts : List Token) (ls : List TurnLet) (us : List Token)
      → s.turn_lets limits ts ≡ Ok (ls, us) → AreLets limits ts us ls
  s_turn_lets ts ls us q =
      kept_list s.at_let (s.turn_let limits) (AreLets limits)
      (λ os xs vs x ws h e. g.some h (s_turn_let vs x ws e)) ts ls us g.none_ q

  s_body : (ts : List Token) (x : Inside) (us : List Token)
      → s.repeat_body limits ts ≡ Ok (x, us) → IsInside limits ts us x
  s_body ts x us q =
      let a = past_sign sign.OpenBrace ts _ x us q in
      let c = bound (s.turn_lets limits a.rest) _ x us a.after in
      let d = past_keyword keyword.Give c.rest _ x us c.after in
      let e = bound (s.names d.rest) _ x us d.after in
      let f = past_sign sign.CloseBrace e.rest _ x us e.after in
      let own : Inside = (c.got, e.got) in
      let v = gave own x f.rest us f.after in
      moved_by (IsInside limits) (mark sign.OpenBrace a.line ∷ a.rest) ts f.rest us own x a.is v.1
      v.0
      (inside
      (subst (λ z. AreLets limits a.rest z c.got) d.is (s_turn_lets a.rest c.got c.rest c.part))
      (subst (λ z. AreNames d.rest z e.got) f.is (s_names d.rest e.got e.rest e.part)))

  joined : {n : ℕ} {ts us vs : List Token} {h : Head} {b : Inside} → IsHead ts us h
      → IsInside limits us vs b
      → IsRepeat limits (keyword_token keyword.Repeat n ∷ ts) vs (repeat_of h b)
  joined (head from entering) (inside lets gives) = g.repeat_ from entering lets gives

  pub s_repeat : (n : ℕ) (ts : List Token) (x : Repeat) (us : List Token)
      → s.repeat_at limits ts ≡ Ok (x, us)
      → IsRepeat limits (keyword_token keyword.Repeat n ∷ ts) us x
  s_repeat n ts x us q =
      let a = bound (s.repeat_head ts) _ x us q in
      let c = bound (s.repeat_body limits a.rest) _ x us a.after in
      let own = repeat_of a.got c.got in
      let v = gave own x c.rest us c.after in
      moved_by (IsRepeat limits) (keyword_token keyword.Repeat n ∷ ts)
      (keyword_token keyword.Repeat n ∷ ts) c.rest us
      own x refl v.1 v.0
      (joined (s_head ts a.got a.rest a.part) (s_body a.rest c.got c.rest c.part))
