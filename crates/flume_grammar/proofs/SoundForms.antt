-- Each form of a statement that is read is in the grammar.
use Rattle.std.proofs.Common.{◌≡◌, ℕ, ◌+◌, ◌≤◌, length, length-append, List, [], ◌∷◌, ◌++◌, Option, Some, None, option_map, IfSome, Ok, refl, ap, ◌∙◌, subst, arith}
use Rattle.flume_tokens.specs.declared.token.Token.{Token}
use Rattle.flume_tokens.specs.declared.keyword.Keyword.{Keyword}
use Rattle.flume_tokens.specs.declared.keyword.Keyword.TheVariants as keyword
use Rattle.flume_tokens.specs.declared.sign.Sign.TheVariants as sign
use Rattle.flume_grammar.specs.declared.start.LetStart.{LetStart}
use Rattle.flume_grammar.specs.declared.start.LetStart.TheVariants as letting
use Rattle.flume_grammar.specs.declared.start.OperationStart.{OperationStart}
use Rattle.flume_grammar.specs.declared.tree.Body.{Body}
use Rattle.flume_grammar.specs.declared.tree.Form.{Form}
use Rattle.flume_grammar.specs.declared.tree.Form.TheVariants as form
use Rattle.flume_grammar.specs.inner.Out.{Out, one}
use Rattle.flume_grammar.specs.inner.Reading.{comma_at, numbered}
use Rattle.flume_grammar.specs.Parts.{Tree}
use Rattle.flume_grammar.specs.inner.Types.{at_comma, whole_type}
use Rattle.flume_grammar.specs.inner.Bodies.{block_within, whole_block}
use Rattle.flume_grammar.specs.inner.Statements as s
use Rattle.flume_grammar.specs.Grammar as g
use Rattle.flume_grammar.specs.Terminals.{keyword_token, mark, name_token, text_token}
use Rattle.flume_grammar.specs.Grammar.{AreNames, IsOptionalNumber, IsWholeType, AreMoreTypes, IsBlock, IsStatement}
use Rattle.flume_grammar.proofs.Sound.{bound, gave, moved_by, shallow}
use Rattle.flume_grammar.proofs.SoundTokens.{past_sign, past_keyword, past_name, past_text, begun, comma_read, numbered_read}
use Rattle.flume_grammar.proofs.SoundLoops.{kept_all}
use Rattle.flume_grammar.proofs.SoundTypes.{sound_whole}
use Rattle.flume_grammar.specs.Limits.{Limits}
use Rattle.flume_grammar.proofs.Fair.{IsFair}
use Rattle.flume_grammar.proofs.SoundBodies.{sound_block}
use Rattle.flume_grammar.proofs.SoundOperations.{s_names, Operates, s_operates}
use Rattle.flume_grammar.proofs.SoundRepeats.{s_repeat}

module _ (limits : Limits) (fair : IsFair limits) where
  -- ---- statements

  abbrev pub StatementOf : ℕ → List Token → List Token → Form → Type 0
  StatementOf n ts us f = IsStatement limits ts us (record { line = n; form = f })

  -- what the parser reads behind this keyword is in the grammar
  abbrev pub Shows : Keyword → (List Token → Out Form) → Type 0
  Shows k p = (n : ℕ) (ts : List Token) (x : Form) (us : List Token) → p ts ≡ Ok (x, us)
      → StatementOf n (keyword_token k n ∷ ts) us x

  pub s_type : Shows keyword.Type (s.type_form limits)
  s_type n ts x us q =
      let a = past_name ts _ x us q in
      let c = past_sign sign.Assign a.rest _ x us a.after in
      let d = bound (whole_type limits c.rest) _ x us c.after in
      let v = gave (form.Type a.got d.got) x d.rest us d.after in
      moved_by (StatementOf n) (keyword_token keyword.Type n ∷ name_token a.got a.line ∷ mark
      sign.Assign c.line ∷
      c.rest) _ d.rest us (form.Type a.got d.got) x
      (ap (λ z. keyword_token keyword.Type n ∷ z) (a.is ∙ ap (λ z. name_token a.got a.line ∷ z)
      c.is)) v.1 v.0
      (g.type_ ((sound_whole limits fair) c.rest d.got d.rest d.part))

  pub s_input_form : Shows keyword.Input (s.input_form limits)
  s_input_form n ts x us q =
      let a = past_name ts _ x us q in
      let c = past_sign sign.Colon a.rest _ x us a.after in
      let d = bound (whole_type limits c.rest) _ x us c.after in
      let e = past_keyword keyword.From d.rest _ x us d.after in
      let f = past_text e.rest _ x us e.after in
      let v = gave (form.Input a.got d.got f.got) x f.rest us f.after in
      let y : (IsWholeType limits) c.rest (keyword_token keyword.From e.line ∷ text_token f.got
      f.line ∷ f.rest)
      d.got = subst (λ z. (IsWholeType limits) c.rest z d.got) (e.is
      ∙ ap (λ z. keyword_token keyword.From e.line ∷ z) f.is)
      ((sound_whole limits fair) c.rest d.got d.rest d.part) in
      moved_by (StatementOf n) (keyword_token keyword.Input n ∷ name_token a.got a.line ∷ mark
      sign.Colon c.line ∷
      c.rest) _ f.rest us (form.Input a.got d.got f.got) x
      (ap (λ z. keyword_token keyword.Input n ∷ z) (a.is ∙ ap (λ z. name_token a.got a.line ∷ z)
      c.is)) v.1 v.0
      (g.input y)

  -- ---- lets

  -- a let behind its names, by the keyword that its right side begins with
  abbrev Lets : Keyword → LetStart → Type 0
  Lets w z = (n k j : ℕ) (ts vs : List Token) (xs : List (List ℕ)) (x : Form) (ws : List Token)
      → AreNames ts (mark sign.Assign k ∷ keyword_token w j ∷ vs) xs
      → s.after_let limits xs z vs ≡ Ok (x, ws)
      → StatementOf n (keyword_token keyword.Let n ∷ ts) ws x

  plain : (w : Keyword) (o : Option OperationStart) → IfSome o (Operates limits fair w)
      → IfSome (option_map letting.Plain o) (Lets w)
  plain w None h = tt
  plain w (Some o) h = λ n k j ts vs xs x ws e q.
      let a = bound (s.after_begin limits o vs) _ x ws q in
      let v = gave (form.Let xs a.got) x a.rest ws a.after in
      moved_by (StatementOf n) (keyword_token keyword.Let n ∷ ts) _ a.rest ws (form.Let xs a.got) x
      refl
      v.1 v.0 (g.let_ e (h j vs a.got a.rest a.part))

  s_lets : (w : Keyword) → IfSome (s.keyword_let w) (Lets w)
  s_lets keyword.Repeat = λ n k j ts vs xs x ws e q.
      let a = bound (s.repeat_at limits vs) _ x ws q in
      let v = gave (form.Repeat xs a.got) x a.rest ws a.after in
      moved_by (StatementOf n) (keyword_token keyword.Let n ∷ ts) _ a.rest ws (form.Repeat xs a.got)
      x refl
      v.1 v.0 (g.repeat e (s_repeat limits fair j vs a.got a.rest a.part))
  s_lets w = plain w (s.keyword_operation w) (s_operates limits fair w)

  pub s_let_form : Shows keyword.Let (s.let_form limits)
  s_let_form n ts x us q =
      let a = bound (s.names ts) _ x us q in
      let c = past_sign sign.Assign a.rest _ x us a.after in
      let d = begun s.keyword_let Lets s_lets c.rest _ x us c.after in
      d.holds n c.line d.line ts d.rest a.got x us
      (subst (λ z. AreNames ts z a.got) (c.is ∙ ap (λ z. mark sign.Assign c.line ∷ z) d.is)
      (s_names ts a.got a.rest a.part)) d.after

  pub s_output : Shows keyword.Output s.output_form
  s_output n ts x us q =
      let a = past_name ts _ x us q in
      let c = past_keyword keyword.To a.rest _ x us a.after in
      let d = past_text c.rest _ x us c.after in
      let v = gave (form.Output a.got d.got) x d.rest us d.after in
      moved_by (StatementOf n) (keyword_token keyword.Output n ∷ name_token a.got a.line ∷
      keyword_token
      keyword.To c.line ∷
      text_token d.got d.line ∷ d.rest) _ d.rest us (form.Output a.got d.got) x
      (ap (λ z. keyword_token keyword.Output n ∷ z) (a.is
      ∙ ap (λ z. name_token a.got a.line ∷ z) (c.is ∙ ap (λ z. keyword_token keyword.To c.line ∷ z)
      d.is))) v.1
      v.0 g.output

  abbrev Outputs : List Token → List Tree → List Token → Type 0
  Outputs ts types us = AreMoreTypes limits ts us types × (1 + length types ≤ limits.outputs)

  s_next_type : (ts : List Token) (types : List Tree) (vs : List Token) (rs : List Tree)
      (us : List Token) → Outputs ts types vs → s.next_type limits types vs ≡ Ok (rs, us)
      → Outputs ts rs us
  s_next_type ts types vs rs us (e, l) q =
      let a = bound (one (comma_at (1 + length types) limits.outputs) vs) _ rs us q in
      let m = comma_read (1 + length types) limits.outputs a.got vs a.rest a.part in
      let c = bound (whole_type limits a.rest) _ rs us a.after in
      let v = gave (types ++ c.got ∷ []) rs c.rest us c.after in
      let n = length-append types (c.got ∷ []) in
      let y : (AreMoreTypes limits) ts (mark sign.Comma m.line ∷ a.rest) types = subst
      (λ z. (AreMoreTypes limits) ts z types) m.is e in
      subst (λ z. Outputs ts z us) v.0 (subst (Outputs ts (types ++ c.got ∷ [])) v.1
      (g.some y (sound_whole limits fair a.rest c.got c.rest c.part), omega (arith, m.fewer, n)))

  s_more_types : (ts : List Token) (types : List Tree) (us : List Token)
      → s.more_types limits ts ≡ Ok (types, us) → Outputs ts types us
  s_more_types ts types us q =
      kept_all at_comma (s.next_type limits) (Outputs ts)
      (λ p vs r ws t k e. s_next_type ts p vs r ws k e) [] ts types us (g.none_, fair.outputs) q

  -- what stands between the name of a function and its scale
  abbrev Signature : Type 0
  Signature = List ℕ × Tree × Tree × List Tree

  -- "(" name ":" type ")" "->" type { "," type }
  data IsSignature : List Token → List Token → Signature → Type 0 where
    signature : {x : List ℕ} {s t : Tree} {types : List Tree} {k i j o p : ℕ}
        {ts us vs ws : List Token}
        → IsWholeType limits ts (mark sign.Close o ∷ mark sign.Arrow p ∷ us) s
        → IsWholeType limits us vs t → Outputs vs types ws
        → IsSignature (mark sign.Open k ∷ name_token x i ∷ mark sign.Colon j ∷ ts) ws
        (x, s, t, types)

  s_signature : (ts : List Token) (x : Signature) (us : List Token)
      → s.signature limits ts ≡ Ok (x, us) → IsSignature ts us x
  s_signature ts x us q =
      let a = past_sign sign.Open ts _ x us q in
      let c = past_name a.rest _ x us a.after in
      let d = past_sign sign.Colon c.rest _ x us c.after in
      let e = bound (whole_type limits d.rest) _ x us d.after in
      let f = past_sign sign.Close e.rest _ x us e.after in
      let l = past_sign sign.Arrow f.rest _ x us f.after in
      let m = bound (whole_type limits l.rest) _ x us l.after in
      let r = bound (s.more_types limits m.rest) _ x us m.after in
      let own : Signature = (c.got, e.got, m.got, r.got) in
      let v = gave own x r.rest us r.after in
      moved_by IsSignature
      (mark sign.Open a.line ∷ name_token c.got c.line ∷ mark sign.Colon d.line ∷ d.rest) ts r.rest
      us
      own x
      (a.is ∙ ap (λ z. mark sign.Open a.line ∷ z) (c.is ∙ ap (λ z. name_token c.got c.line ∷ z)
      d.is))
      v.1 v.0
      (signature (subst (λ z. IsWholeType limits d.rest z e.got) (f.is
      ∙ ap (λ z. mark sign.Close f.line ∷ z) l.is)
      (sound_whole limits fair d.rest e.got e.rest e.part))
      (sound_whole limits fair l.rest m.got m.rest m.part)
      (s_more_types m.rest r.got r.rest r.part))

  abbrev function_of : List ℕ → Signature → Option (List ℕ) → List Body → Form
  function_of x h c b = form.Function (record {
    name = x;
    argument = h.0;
    takes = h.1;
    gives = h.2;
    more = h.3;
    scale = c;
    body = b;
  })

  signed : {n i d : ℕ} {x : List ℕ} {ts us vs ws : List Token} {h : Signature}
      {c : Option (List ℕ)} {b : List Body} → IsSignature ts us h
      → IsOptionalNumber keyword.Scale us vs c → IsBlock limits vs ws b d → d ≤ limits.depth
      → StatementOf n (keyword_token keyword.Fn n ∷ name_token x i ∷ ts) ws (function_of x h c b)
  signed (signature takes gives more) scale body small =
      g.fn_ takes gives more.0 more.1 scale body small

  pub s_function : Shows keyword.Fn (s.function_form limits)
  s_function n ts x us q =
      let a = past_name ts _ x us q in
      let c = bound (s.signature limits a.rest) _ x us a.after in
      let d = bound (numbered keyword.Scale c.rest) _ x us c.after in
      let e = bound (whole_block limits d.rest) _ x us d.after in
      let k = shallow (IsBlock limits) limits.depth (block_within limits limits.depth)
      (sound_block limits fair limits.depth) d.rest e.got e.rest e.part in
      let y = function_of a.got c.got d.got e.got in
      let v = gave y x e.rest us e.after in
      moved_by (StatementOf n) (keyword_token keyword.Fn n ∷ name_token a.got a.line ∷ a.rest) _
      e.rest us y x
      (ap (λ z. keyword_token keyword.Fn n ∷ z) a.is) v.1 v.0
      (signed (s_signature a.rest c.got c.rest c.part)
      (numbered_read keyword.Scale c.rest d.got d.rest d.part) k.spelled k.small)
