-- The texts of a script, statement by statement.
use Rattle.std.proofs.Common.{◌≡◌, ℕ, zero, suc, true, List, [], ◌∷◌, ◌++◌, map, length, Some, slice_get, refl, sym, ap, ◌∙◌, subst, append_assoc}
use Rattle.std.proofs.lemmas.List.{append-nil, map-append}
use Rattle.std.proofs.lemmas.List.Elements.{All-from_recursion, recursion_from_All}
use Rattle.std.specs.List.{All, AllByRecursion}
use Rattle.flume_tokens.specs.declared.token.Token.{Token}
use Rattle.flume_tokens.specs.declared.token.TokenKind.{TokenKind}
use Rattle.flume_tokens.specs.declared.token.TokenKind.TheVariants as kind
use Rattle.flume_grammar.specs.declared.tree.Statement.{Statement}
use Rattle.flume_grammar.specs.Grammar as g
use Rattle.flume_grammar.specs.Limits.{Limits, the_limits}
use Rattle.token_spelling.specs.Spellable.{IsSpellable}
use Rattle.statement_texts.specs.Texts.{StatementParts, token_before, braces_behind, is_beginning_word, spaced_tokens, kinds_of, parts_from, texts_of}
use Rattle.statement_law.proofs.Bodies.{map_more}
use Rattle.statement_law.proofs.Moving.{taken, unlined}
use Rattle.statement_law.proofs.Statements.{go_statement}
use Rattle.statement_law.specs.Lineless.{statement_lineless}

abbrev pub Spelled : List Token → Type 0
Spelled ts = AllByRecursion (λ (t : Token). IsSpellable t.kind) ts

both_parts : (own us : List Token) → Spelled (own ++ us) → Spelled own × Spelled us
both_parts [] us h = (tt, h)
both_parts (t ∷ own) us h = let rest = both_parts own us h.1 in ((h.0, rest.0), rest.1)

kinds_spelled : (own : List Token) → Spelled own → AllByRecursion IsSpellable (kinds_of own)
kinds_spelled [] h = tt
kinds_spelled (t ∷ own) h = (h.0, kinds_spelled own h.1)

-- statements, and nothing before the first
abbrev only : List (List TokenKind) → StatementParts
only kinds = ([], kinds)

-- ---- one statement

-- the words with which statements begin are no braces
level : (d : ℕ) (k : TokenKind) → is_beginning_word k ≡ true → braces_behind d k ≡ d
level d (kind.Keyword k) e = refl
level d _ e = absurd (cc)

begun_parts : (head : Token) (behind : List Token) → is_beginning_word head.kind ≡ true
    → parts_from 0 (kinds_of (head ∷ behind))
    ≡ token_before head.kind true (parts_from 0 (kinds_of behind))
unfolding parts_from
begun_parts head behind e =
    ap (λ b. token_before head.kind b (parts_from (braces_behind 0 head.kind) (kinds_of behind))) e
    ∙ ap (λ d. token_before head.kind true (parts_from d (kinds_of behind))) (level 0 head.kind e)

module _ (limits : Limits) where
  -- its own tokens, without what is behind them
  record Own (s : Statement) (us vs : List Token) : Type 0 where
    pub head : Token
    pub own : List Token
    pub is : us ≡ (head ∷ own) ++ vs
    pub parts : (parts_from 0 (kinds_of vs)).0 ≡ []
        → parts_from 0 (kinds_of us)
        ≡ only (kinds_of (head ∷ own) ∷ (parts_from 0 (kinds_of vs)).1)
    pub spells : g.IsStatement limits (map unlined (head ∷ own)) [] (statement_lineless s)

  own_of : {us vs : List Token} {s : Statement} → g.IsStatement limits us vs s → Own s us vs
  own_of {us} {vs} {s} h =
      let b = go_statement limits h [] in
      let t = taken b.moved in
      let again : b.without ≡ map unlined t.own = t.again ∙ append-nil (map unlined t.own) in
      record {
        head = b.head;
        own = t.own;
        is = b.is_head ∙ ap (λ ts. b.head ∷ ts) t.is;
        parts = λ e.
            ap (λ ts. parts_from 0 (kinds_of ts)) b.is_head
            ∙ begun_parts b.head b.behind b.begins
            ∙ ap (token_before b.head.kind true) t.parts
            ∙ ap (λ ks. (
              [],
              (b.head.kind ∷ (kinds_of t.own ++ ks))
                  ∷ (parts_from 0 (kinds_of vs)).1,
            )) e
            ∙ ap (λ ks. only ((b.head.kind ∷ ks) ∷ (parts_from 0 (kinds_of vs)).1))
            (append-nil (kinds_of t.own));
        spells = subst (λ ws. g.IsStatement limits (unlined b.head ∷ ws) []
            (statement_lineless s)) again b.is;
      }

  -- ---- all of them

  -- these are the tokens of these statements, each by itself
  pub record Holds (s : Statement) (own : List Token) : Type 0 where
    pub head : Token
    pub behind : List Token
    pub is : own ≡ head ∷ behind
    pub spells : g.IsStatement limits (map unlined own) [] (statement_lineless s)
    pub spelled : Spelled own

  abbrev pub Owned : List Statement → List (List Token) → Type 0
  Owned [] [] = Unit {0}
  Owned (s ∷ ss) (own ∷ owns) = Holds s own × Owned ss owns
  Owned _ _ = ⊥

  one_more : (ss : List Statement) (owns : List (List Token)) (s : Statement) (own : List Token)
      → Owned ss owns → Holds s own → Owned (ss ++ s ∷ []) (owns ++ own ∷ [])
  one_more [] [] s own h k = (k, tt)
  one_more [] (o ∷ owns) s own h k = absurd h
  one_more (r ∷ ss) [] s own h k = absurd h
  one_more (r ∷ ss) (o ∷ owns) s own h k = (h.0, one_more ss owns s own h.1 k)

  record Texting (ts us : List Token) (ss : List Statement) : Type 0 where
    pub owns : List (List Token)
    pub parts : (parts_from 0 (kinds_of us)).0 ≡ []
        → parts_from 0 (kinds_of ts)
        ≡ only (map kinds_of owns ++ (parts_from 0 (kinds_of us)).1)
    pub owned : Owned ss owns
    pub left : Spelled us

  texting : {ts us : List Token} {ss : List Statement} → g.AreStatements limits ts us ss
      → Spelled ts → Texting ts us ss
  texting (g.none_ {ts}) all = record {
    owns = [];
    parts = λ e. λ i. (e i, (parts_from 0 (kinds_of ts)).1);
    owned = tt;
    left = all;
  }
  texting (g.some {ts} {us} {vs = left} {s} {ss} m h) all =
      let before_ = texting m all in
      let last = own_of h in
      let own : List Token = last.head ∷ last.own in
      let split = both_parts own left (subst Spelled last.is before_.left) in
      record {
        owns = before_.owns ++ own ∷ [];
        parts = λ e.
            let p = last.parts e in
            before_.parts (ap (λ (q : StatementParts). q.0) p)
            ∙ ap (λ (q : StatementParts). only (map kinds_of before_.owns ++ q.1)) p
            ∙ ap only (sym (append_assoc (map kinds_of before_.owns)
            (kinds_of own ∷ []) (parts_from 0 (kinds_of left)).1))
            ∙ ap (λ ks. only (ks ++ (parts_from 0 (kinds_of left)).1))
            (sym (map_more kinds_of before_.owns own));
        owned = one_more ss before_.owns s own before_.owned (record {
          head = last.head;
          behind = last.own;
          is = refl;
          spells = last.spells;
          spelled = split.0;
        });
        left = split.1;
      }

  -- ---- texts

  as_many : (ss : List Statement) (owns : List (List Token)) → Owned ss owns
      → length (map spaced_tokens (map kinds_of owns)) ≡ length ss
  as_many [] [] h = refl
  as_many [] (own ∷ owns) h = absurd h
  as_many (s ∷ ss) [] h = absurd h
  as_many (s ∷ ss) (own ∷ owns) h = ap suc (as_many ss owns h.1)

  record At (s : Statement) (text : List ℕ) : Type 0 where
    pub own : List Token
    pub holds : Holds s own
    pub is : text ≡ spaced_tokens (kinds_of own)

  at : (ss : List Statement) (owns : List (List Token)) → Owned ss owns → (j : ℕ)
      (s : Statement) (text : List ℕ)
      → slice_get (map spaced_tokens (map kinds_of owns)) j ≡ Some text
      → slice_get ss j ≡ Some s → At s text
  at [] owns h j s text e f = absurd (cc)
  at (r ∷ ss) [] h j s text e f = absurd h
  at (r ∷ ss) (own ∷ owns) h zero s text e f =
      let same : r ≡ s = cc in
      let is : text ≡ spaced_tokens (kinds_of own) = cc in
      record { own = own; holds = subst (λ x. Holds x own) same h.0; is = is }
  at (r ∷ ss) (own ∷ owns) h (suc j) s text e f = at ss owns h.1 j s text e f

  pub record Script (ts : List Token) (ss : List Statement) : Type 0 where
    pub owns : List (List Token)
    pub texts : texts_of ts ≡ map spaced_tokens (map kinds_of owns)
    pub owned : Owned ss owns

  pub script : (ts : List Token) (ss : List Statement) → g.IsScript limits ts ss
      → All (λ (t : Token). IsSpellable t.kind) ts → Script ts ss
  unfolding parts_from
  script ts ss h all =
      let t = texting h (recursion_from_All (λ (t : Token). IsSpellable t.kind) ts all) in
      record {
        owns = t.owns;
        texts = ap (λ (q : StatementParts). map spaced_tokens q.1) (t.parts refl)
            ∙ ap (map spaced_tokens) (append-nil (map kinds_of t.owns));
        owned = t.owned;
      }

  pub many : (ts : List Token) (ss : List Statement) → g.IsScript limits ts ss
      → All (λ (t : Token). IsSpellable t.kind) ts → length (texts_of ts) ≡ length ss
  many ts ss h all =
      let a = script ts ss h all in
      ap length a.texts ∙ as_many ss a.owns a.owned

  -- ---- without lines

  as_one : {ts us vs : List Token} {s : Statement} → ts ≡ us → g.IsStatement limits us vs s
      → g.IsStatement limits ts vs s
  as_one {ts} {us} {vs} {s} e h = subst (λ xs. g.IsStatement limits xs vs s) (sym e) h

  as_all : {ts us vs : List Token} {ss rs : List Statement} → ts ≡ us → ss ≡ rs
      → g.AreStatements limits us vs rs → g.AreStatements limits ts vs ss
  as_all {ts} {us} {vs} {ss} {rs} e f h =
      subst (λ xs. g.AreStatements limits xs vs ss) (sym e)
      (subst (λ xs. g.AreStatements limits us vs xs) (sym f) h)

  record Unlined (ts us vs : List Token) (ss : List Statement) : Type 0 where
    pub own : List Token
    pub is : ts ≡ own ++ us
    pub gone : g.AreStatements limits (map unlined own ++ vs) vs (map statement_lineless ss)

  without_lines : {ts us : List Token} {ss : List Statement} → g.AreStatements limits ts us ss
      → (vs : List Token) → Unlined ts us vs ss
  without_lines g.none_ vs = record { own = []; is = refl; gone = g.none_ }
  without_lines (g.some {ts} {us} {vs = left} {s} {ss} m h) vs =
      let b = go_statement limits h vs in
      let t = taken b.moved in
      let last : List Token = b.head ∷ t.own in
      let here = without_lines m (map unlined last ++ vs) in
      record {
        own = here.own ++ last;
        is = here.is ∙ ap (λ xs. here.own ++ xs) (b.is_head ∙ ap (λ xs. b.head ∷ xs) t.is)
            ∙ sym (append_assoc here.own last left);
        gone = as_all (ap (λ xs. xs ++ vs) (map-append unlined here.own last)
            ∙ append_assoc (map unlined here.own) (map unlined last) vs)
            (map_more statement_lineless ss s)
            (g.some here.gone (as_one (ap (λ xs. unlined b.head ∷ xs) (sym t.again)) b.is));
      }

  bare_script : (ts : List Token) (ss : List Statement) → g.IsScript limits ts ss
      → g.IsScript limits (map unlined ts) (map statement_lineless ss)
  bare_script ts ss h =
      let u = without_lines h [] in
      as_all (ap (map unlined) (u.is ∙ append-nil u.own) ∙ sym (append-nil (map unlined u.own)))
      refl u.gone

  as_script : {ts : List Token} {s : Statement} → g.IsStatement limits ts [] s
      → g.IsScript limits ts (s ∷ [])
  as_script h = g.some g.none_ h

-- ---- one text

abbrev bare : TokenKind → Token
bare k = record { kind = k; line = 0 }

unlined_is : (own : List Token) → map unlined own ≡ map bare (kinds_of own)
unlined_is [] = refl
unlined_is (t ∷ own) = ap (λ ts. unlined t ∷ ts) (unlined_is own)

only_one : {A : Type 0} (x y : A) → x ∷ [] ≡ y ∷ [] → x ≡ y
only_one x y e = cc

abbrev Apart : Type 0
Apart = (k j : TokenKind) (ks js : List TokenKind) → All IsSpellable (k ∷ ks)
    → All IsSpellable (j ∷ js) → spaced_tokens (k ∷ ks) ≡ spaced_tokens (j ∷ js) → k ∷ ks ≡ j ∷ js

spelled_kinds : (own : List Token) (head : Token) (behind : List Token) → own ≡ head ∷ behind
    → Spelled own → All IsSpellable (head.kind ∷ kinds_of behind)
spelled_kinds own head behind e h =
    subst (λ o. All IsSpellable (kinds_of o)) e
    (All-from_recursion IsSpellable (kinds_of own) (kinds_spelled own h))

alike : Apart → (s r : Statement) (own other : List Token) → Holds the_limits s own
    → Holds the_limits r other → spaced_tokens (kinds_of own) ≡ spaced_tokens (kinds_of other)
    → kinds_of own ≡ kinds_of other
alike apart s r own other h k e =
    ap kinds_of h.is
    ∙ apart h.head.kind k.head.kind (kinds_of h.behind) (kinds_of k.behind)
    (spelled_kinds own h.head h.behind h.is h.spelled)
    (spelled_kinds other k.head k.behind k.is k.spelled)
    (ap (λ o. spaced_tokens (kinds_of o)) (sym h.is) ∙ e ∙ ap (λ o. spaced_tokens (kinds_of o))
    k.is)
    ∙ sym (ap kinds_of k.is)

pub same : ((ts : List Token) (ss rs : List Statement) → g.IsScript the_limits ts ss
    → g.IsScript the_limits ts rs → ss ≡ rs) → Apart → (ts us : List Token)
    (ss rs : List Statement) → All (λ (t : Token). IsSpellable t.kind) ts
    → All (λ (t : Token). IsSpellable t.kind) us → g.IsScript the_limits ts ss
    → g.IsScript the_limits us rs → (j k : ℕ) (s r : Statement) (text : List ℕ)
    → slice_get (texts_of ts) j ≡ Some text → slice_get ss j ≡ Some s
    → slice_get (texts_of us) k ≡ Some text → slice_get rs k ≡ Some r
    → statement_lineless s ≡ statement_lineless r
same one_tree apart ts us ss rs p q h i j k s r text e f m n =
    let a = script the_limits ts ss h p in
    let b = script the_limits us rs i q in
    let x = at the_limits ss a.owns a.owned j s text
    (ap (λ all. slice_get all j) (sym a.texts) ∙ e) f in
    let y = at the_limits rs b.owns b.owned k r text
    (ap (λ all. slice_get all k) (sym b.texts) ∙ m) n in
    let kinds : kinds_of x.own ≡ kinds_of y.own
    = alike apart s r x.own y.own x.holds y.holds (sym x.is ∙ y.is) in
    let tokens : map unlined x.own ≡ map unlined y.own
    = unlined_is x.own ∙ ap (map bare) kinds ∙ sym (unlined_is y.own) in
    only_one (statement_lineless s) (statement_lineless r)
    (one_tree (map unlined y.own) (statement_lineless s ∷ []) (statement_lineless r ∷ [])
    (as_script the_limits (subst (λ all. g.IsStatement the_limits all [] (statement_lineless s))
    tokens x.holds.spells))
    (as_script the_limits y.holds.spells))

pub blanks : ((ts : List Token) (ss rs : List Statement) → g.IsScript the_limits ts ss
    → g.IsScript the_limits ts rs → ss ≡ rs) → (ts us : List Token) (ss rs : List Statement)
    → g.IsScript the_limits ts ss → g.IsScript the_limits us rs → kinds_of ts ≡ kinds_of us
    → map statement_lineless ss ≡ map statement_lineless rs
blanks one_tree ts us ss rs h k e =
    let tokens : map unlined ts ≡ map unlined us
    = unlined_is ts ∙ ap (map bare) e ∙ sym (unlined_is us) in
    one_tree (map unlined us) (map statement_lineless ss) (map statement_lineless rs)
    (subst (λ xs. g.IsScript the_limits xs (map statement_lineless ss)) tokens
    (bare_script the_limits ts ss h))
    (bare_script the_limits us rs k)
