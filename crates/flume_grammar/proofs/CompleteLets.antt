-- Operations and repeats of the grammar are read.
use Rattle.std.proofs.Common.{◌≡◌, ℕ, ◌≤◌, ◌<◌, length, length-append, List, [], ◌∷◌, ◌++◌, true, false, Some, None, option_map, Ok, if◌then◌else◌, refl, ap, ◌∙◌, arith}
use Rattle.flume_tokens.specs.declared.token.Token.{Token}
use Rattle.flume_tokens.specs.declared.token.TokenKind.{TokenKind}
use Rattle.flume_tokens.specs.declared.token.TokenKind.TheVariants as kind
use Rattle.flume_tokens.specs.declared.keyword.Keyword.{Keyword}
use Rattle.flume_tokens.specs.declared.keyword.Keyword.TheVariants as keyword
use Rattle.flume_tokens.specs.declared.sign.Sign.TheVariants as sign
use Rattle.flume_grammar.specs.declared.start.LetStart.TheVariants as letting
use Rattle.flume_grammar.specs.declared.start.OperationStart.{OperationStart}
use Rattle.flume_grammar.specs.declared.tree.Combiner.{Combiner}
use Rattle.flume_grammar.specs.declared.tree.Operation.{Operation}
use Rattle.flume_grammar.specs.declared.tree.Operation.TheVariants as operation
use Rattle.flume_grammar.specs.declared.tree.TurnLet.{TurnLet}
use Rattle.flume_grammar.specs.declared.tree.Repeat.{Repeat}
use Rattle.flume_grammar.specs.declared.tree.Form.TheVariants as form
use Rattle.flume_grammar.specs.inner.Out.{Out, give, bind, one, passed, next, all_of}
use Rattle.flume_grammar.specs.inner.Reading.{sign_at, keyword_at, name_at, comma_at, or_syntax, of_keyword, is_at_sign, is_at_keyword}
use Rattle.flume_grammar.specs.inner.Types.{at_comma}
use Rattle.flume_grammar.specs.inner.Statements as s
use Rattle.flume_grammar.specs.Grammar as g
use Rattle.flume_grammar.specs.Terminals.{keyword_token, mark, name_token, number_token}
use Rattle.flume_grammar.specs.Grammar.{IsCombiner, AreNames, IsOperation, IsLet, AreLets, IsRepeat}
use Rattle.flume_grammar.proofs.Loops.{Reaches, reaches_start, reaches_next, reaches_end}
use Rattle.flume_grammar.proofs.Sound.{bound, one_token}
use Rattle.flume_grammar.proofs.SoundTokens.{some_of}
use Rattle.flume_grammar.proofs.Complete.{went, same_key, same_comma}
use Rattle.flume_grammar.specs.Limits.{Limits}
use Rattle.flume_grammar.proofs.Fair.{IsFair}

-- ---- names

-- the first name is read, and from there on the loop comes to the last
module _ (part : List (List ℕ) → List Token → Out (List (List ℕ))) (Room : List (List ℕ) → Type 0)
    (fewer : (xs : List (List ℕ)) (x : List ℕ) → Room (xs ++ x ∷ []) → Room xs)
    (step : (xs : List (List ℕ)) (x : List ℕ) (m n : ℕ) (us : List Token) → Room (xs ++ x ∷ [])
    → part xs (mark sign.Comma m ∷ name_token x n ∷ us) ≡ Ok (xs ++ x ∷ [], us))
  where
    complete_names : {ts us : List Token} {xs : List (List ℕ)} → AreNames ts us xs → Room xs
        → (x : List ℕ) × (vs : List Token) × (one name_at ts ≡ Ok (x, vs))
        × Reaches at_comma part (all_of at_comma part (x ∷ []) vs) xs us
    complete_names (g.one {x} {n} {ts}) h = (x, ts, refl, reaches_start at_comma part (x ∷ []) ts)
    complete_names (g.more {x} {xs} {n} {m} {ts} {us} y) h =
        let (z, vs, q, r) = complete_names y (fewer xs x h) in (
          z,
          vs,
          q,
          reaches_next at_comma part _ xs (xs ++ x ∷ [])
              (mark sign.Comma m ∷ name_token x n ∷ us) us r refl (step xs x m n us h)
              (omega arith),
        )

-- names, before what is no comma
pub complete_list : {ts us : List Token} {xs : List (List ℕ)} → AreNames ts us xs
    → is_at_sign sign.Comma (next us) ≡ false → s.names ts ≡ Ok (xs, us)
complete_list {ts} {us} {xs} x h =
    let (z, vs, q, r) = complete_names s.next_name (λ ys. Unit {0}) (λ ys y i. tt)
    (λ ys y k m ws i. refl) x tt in
    went (one name_at ts) (λ y ws. all_of at_comma s.next_name (y ∷ []) ws) z vs _ q
    (reaches_end at_comma s.next_name _ xs us r h)

-- what ends an operation stands next: neither a comma nor `with`
abbrev pub IsSettled : List Token → Type 0
IsSettled ts = (is_at_sign sign.Comma (next ts) ≡ false)
    × (is_at_keyword keyword.With (next ts) ≡ false)

module _ (limits : Limits) (fair : IsFair limits) where
  -- ---- operations

  complete_combiner : {ts us : List Token} {c : Combiner} → IsCombiner ts us c
      → s.combiner_at ts ≡ Ok (c, us)
  complete_combiner g.sum = refl
  complete_combiner _ = refl

  next_input : (xs : List (List ℕ)) (x : List ℕ) (m n : ℕ) (us : List Token)
      → length (xs ++ x ∷ []) ≤ limits.inputs
      → s.next_input limits xs (mark sign.Comma m ∷ name_token x n ∷ us) ≡ Ok (xs ++ x ∷ [], us)
  next_input xs x m n us h =
      let j = length-append xs (x ∷ []) in
      went (one (comma_at (length xs) limits.inputs) (mark sign.Comma m ∷ name_token x n ∷ us)) _ tt
      (name_token x n ∷ us) _ (same_comma (length xs) limits.inputs m _ (omega (arith, h, j))) refl

  few_inputs : (xs : List (List ℕ)) (x : List ℕ) → length (xs ++ x ∷ []) ≤ limits.inputs
      → length xs ≤ limits.inputs
  few_inputs xs x h = let j = length-append xs (x ∷ []) in omega (arith, h, j)

  -- at most as many names as the limit, before what is no comma
  complete_inputs : {ts us : List Token} {xs : List (List ℕ)} → AreNames ts us xs
      → length xs ≤ limits.inputs → is_at_sign sign.Comma (next us) ≡ false
      → s.inputs limits ts ≡ Ok (xs, us)
  complete_inputs {ts} {us} {xs} x l h =
      let (z, vs, q, r) = complete_names (s.next_input limits) (λ ys. length ys ≤ limits.inputs)
      few_inputs next_input x l in
      went (one name_at ts) (λ y ws. all_of at_comma (s.next_input limits) (y ∷ []) ws) z vs _ q
      (reaches_end at_comma (s.next_input limits) _ xs us r h)

  complete_combined : {ts us : List Token} {z : Combiner} (c : List ℕ) (m k : ℕ)
      → IsCombiner ts us z
      → s.by_combiner (name_token c m ∷ keyword_token keyword.By k ∷ ts) ≡ Ok ((c, z), us)
  complete_combined {ts} {us} {z} c m k x =
      went (one (keyword_at keyword.By) (keyword_token keyword.By k ∷ ts))
      (λ _ vs. bind (s.combiner_at vs) (λ w ws. give (c, w) ws)) tt ts _
      (same_key keyword.By k ts) (went (s.combiner_at ts) _ z us _ (complete_combiner x) refl)

  -- an operation, before what ends it
  pub complete_operation : {ts us : List Token} {o : Operation} → IsOperation limits ts us o
      → IsSettled us → s.operation_at limits ts ≡ Ok (o, us)
  complete_operation (g.do_ {c} {f} {n} {m} {k} {ts}) h =
      went (s.beside ts) (λ o us. give (s.applied c f o) us) None ts _
      (ap (λ t. if t then bind (one (keyword_at keyword.With) ts) (λ _ us. s.object us) else give
      None ts) h.1) refl
  complete_operation g.group h = refl
  complete_operation (g.combine {c} {n} {m} {k} {ts} {us} {b = z} x) h =
      went (s.by_combiner (name_token c m ∷ keyword_token keyword.By k ∷ ts))
      (λ y vs. give (operation.Combine y.0 y.1) vs) (c, z) us _ (complete_combined c m k x) refl
  complete_operation (g.flatten {n} {ts} {us} {xs} x l) h =
      went (s.inputs limits ts) (λ ys vs. give (operation.Flatten ys) vs) xs us _
      (complete_inputs x l h.0) refl
  complete_operation g.count h = refl
  complete_operation g.join h = refl
  complete_operation g.top h = refl
  complete_operation (g.combine_all {c} {n} {m} {k} {ts} {us} {b = z} x) h =
      went (s.by_combiner (name_token c m ∷ keyword_token keyword.By k ∷ ts))
      (λ y vs. give (operation.CombineAll y.0 y.1) vs) (c, z) us _ (complete_combined c m k x)
      refl
  complete_operation (g.operate {f} {n} {m} {k} {ts} {us} {xs} x l) h =
      went (s.inputs limits ts) (λ ys vs. bind (one (keyword_at keyword.By) vs)
      (λ _ ws. bind (one name_at ws) (λ z ps. give (operation.Operate ys z) ps))) xs
      (keyword_token keyword.By m ∷ name_token f k ∷ us) _ (complete_inputs x l refl) refl
  complete_operation g.do_with h = refl

  pub shorter_names : {ts us : List Token} {xs : List (List ℕ)} → AreNames ts us xs
      → length us < length ts
  shorter_names g.one = omega arith
  shorter_names (g.more x) = let h = shorter_names x in omega (arith, h)

  shorter_combiner : {ts us : List Token} {c : Combiner} → IsCombiner ts us c
      → length us < length ts
  shorter_combiner g.sum = omega arith
  shorter_combiner _ = omega arith

  pub shorter_operation : {ts us : List Token} {o : Operation} → IsOperation limits ts us o
      → length us < length ts
  shorter_operation g.do_ = omega arith
  shorter_operation g.group = omega arith
  shorter_operation (g.combine x) = let h = shorter_combiner x in omega (arith, h)
  shorter_operation (g.flatten x l) = let h = shorter_names x in omega (arith, h)
  shorter_operation g.count = omega arith
  shorter_operation g.join = omega arith
  shorter_operation g.top = omega arith
  shorter_operation (g.combine_all x) = let h = shorter_combiner x in omega (arith, h)
  shorter_operation (g.operate x l) = let h = shorter_names x in omega (arith, h)
  shorter_operation g.do_with = omega arith

  -- ---- repeats

  complete_turn_let : {ts us : List Token} {x : TurnLet} → IsLet limits ts us x
      → IsSettled us → s.turn_let limits ts ≡ Ok (x, us)
  complete_turn_let (g.let_ {xs} {n} {k} {ts} {us} {vs} {o} x w) h =
      went (s.names ts) (λ ys ws. bind (one (sign_at sign.Assign) ws)
      (λ _ ps. bind (s.operation_at limits ps)
      (λ y qs. give (record { line = n; names = ys; by = y }) qs))) xs (mark sign.Assign k ∷ us) _
      (complete_list x refl)
      (went (s.operation_at limits us)
      (λ y qs. give (record { line = n; names = xs; by = y }) qs) o vs _
      (complete_operation w h) refl)

  shorter_let : {ts us : List Token} {x : TurnLet} → IsLet limits ts us x → length us < length ts
  shorter_let (g.let_ x w) = let h = shorter_names x in let i = shorter_operation w in
      omega (arith, h, i)

  let_begins : {ts us : List Token} {x : TurnLet} → IsLet limits ts us x
      → IsSettled ts × (is_at_keyword keyword.Let (next ts) ≡ true)
  let_begins (g.let_ x w) = ((refl, refl), refl)

  complete_lets : {ts us : List Token} {ls : List TurnLet} → AreLets limits ts us ls
      → IsSettled us
      → Reaches s.at_let (s.next_let limits) (all_of s.at_let (s.next_let limits) [] ts) ls us
  complete_lets (g.none_ {ts}) h = reaches_start s.at_let (s.next_let limits) [] ts
  complete_lets (g.some {ts} {us} {vs} {l} {ls} y z) h =
      let (n, m) = let_begins z in
      reaches_next s.at_let (s.next_let limits) _ ls (ls ++ l ∷ []) us vs (complete_lets y n) m
      (went (s.turn_let limits us) _ l vs _ (complete_turn_let z h) refl) (shorter_let z)

  complete_head : {ts us vs : List Token} {digits : List ℕ} {xs ys : List (List ℕ)}
      {i j : ℕ} (m k : ℕ) → AreNames ts (keyword_token keyword.As i ∷ us) xs
      → AreNames us (mark sign.OpenBrace j ∷ vs) ys
      → s.repeat_head (number_token digits m ∷ keyword_token keyword.From k ∷ ts)
      ≡ Ok ((digits, xs, ys), mark sign.OpenBrace j ∷ vs)
  complete_head {ts} {us} {vs} {digits} {xs} {ys} {i} {j} m k x y =
      went (s.names ts) (λ zs ws. bind (one (keyword_at keyword.As) ws)
      (λ _ ps. bind (s.names ps) (λ os qs. give (digits, zs, os) qs))) xs (keyword_token keyword.As
      i ∷ us) _
      (complete_list x refl)
      (went (s.names us) (λ os qs. give (digits, xs, os) qs) ys (mark sign.OpenBrace j ∷ vs) _
      (complete_list y refl) refl)

  complete_inside : {ts us vs : List Token} {ls : List TurnLet} {xs : List (List ℕ)} {o p : ℕ}
      (j : ℕ) → AreLets limits ts (keyword_token keyword.Give o ∷ us) ls
      → AreNames us (mark sign.CloseBrace p ∷ vs) xs
      → s.repeat_body limits (mark sign.OpenBrace j ∷ ts) ≡ Ok ((ls, xs), vs)
  complete_inside {ts} {us} {vs} {ls} {xs} {o} {p} j x y =
      went (s.turn_lets limits ts) (λ rs ws. bind (one (keyword_at keyword.Give) ws)
      (λ _ os. bind (s.names os) (λ zs qs. bind (one (sign_at sign.CloseBrace) qs)
      (λ _ ps. give (rs, zs) ps)))) ls (keyword_token keyword.Give o ∷ us) _
      (reaches_end s.at_let (s.next_let limits) _ ls (keyword_token keyword.Give o ∷ us)
      (complete_lets x (refl, refl)) refl)
      (went (s.names us) (λ zs qs. bind (one (sign_at sign.CloseBrace) qs)
      (λ _ ps. give (ls, zs) ps)) xs (mark sign.CloseBrace p ∷ vs) _ (complete_list y refl) refl)

  shorter_lets : {ts us : List Token} {ls : List TurnLet} → AreLets limits ts us ls
      → length us ≤ length ts
  shorter_lets g.none_ = omega arith
  shorter_lets (g.some y z) = let h = shorter_lets y in let i = shorter_let z in
      omega (arith, h, i)

  pub shorter_repeat : {ts us : List Token} {r : Repeat} → IsRepeat limits ts us r
      → length us < length ts
  shorter_repeat (g.repeat_ a b c d) =
      let h = shorter_names a in
      let i = shorter_names b in
      let j = shorter_lets c in
      let k = shorter_names d in
      omega (arith, h, i, j, k)

  -- ---- lets

  plain_key : (k : Keyword) (z : OperationStart) → s.keyword_operation k ≡ Some z
      → s.keyword_let k ≡ Some (letting.Plain z)
  plain_key keyword.Repeat z q = cc
  plain_key _ z q = ap (option_map letting.Plain) q

  plain_kind : (k : TokenKind) (z : OperationStart) → of_keyword s.keyword_operation k ≡ Some z
      → of_keyword s.keyword_let k ≡ Some (letting.Plain z)
  plain_kind (kind.Keyword k) z q = plain_key k z q
  plain_kind _ z q = cc

  -- where an operation begins, the right side of a let does
  plain_start : (ts : List Token) (z : OperationStart) (us : List Token)
      → one s.operation_start ts ≡ Ok (z, us) → one s.let_start ts ≡ Ok (letting.Plain z, us)
  plain_start ts z us q =
      let p = one_token s.operation_start ts z us q in
      ap (one s.let_start) p.is
      ∙ ap (λ o. passed (or_syntax p.token o) us) (plain_kind p.token.kind z
      (some_of p.token (of_keyword s.keyword_operation p.token.kind) z p.gives))

  pub complete_plain : (xs : List (List ℕ)) (o : Operation) (us vs : List Token)
      → s.operation_at limits us ≡ Ok (o, vs)
      → bind (one s.let_start us) (λ z ws. s.after_let limits xs z ws) ≡ Ok (form.Let xs o, vs)
  complete_plain xs o us vs e =
      let a = bound (one s.operation_start us) (λ z ws. s.after_begin limits z ws) o vs e in
      went (one s.let_start us) (λ z ws. s.after_let limits xs z ws) (letting.Plain a.got) a.rest _
      (plain_start us a.got a.rest a.part)
      (went (s.after_begin limits a.got a.rest) (λ y ws. give (form.Let xs y) ws) o vs _ a.after
      refl)

  -- the repeat of this head and body
  abbrev repeat_of : List ℕ × List (List ℕ) × List (List ℕ) → List TurnLet × List (List ℕ) → Repeat
  repeat_of head body = record {
    turns = head.0;
    from = head.1;
    entering = head.2;
    lets = body.0;
    gives = body.1;
  }

  pub complete_repeat : {us vs : List Token} {r : Repeat} (names : List (List ℕ))
      → IsRepeat limits us vs r
      → bind (one s.let_start us) (λ z ws. s.after_let limits names z ws)
      ≡ Ok (form.Repeat names r, vs)
  complete_repeat names (g.repeat_ {digits} {xs} {ys} {zs} {ls} {n} {m} {k} {i} {j} {o} {p} {ts}
      {us} {vs} {ws} {ps} a b c d) =
      went (s.repeat_at limits (number_token digits m ∷ keyword_token keyword.From k ∷ ts))
      (λ r qs. give (form.Repeat names r) qs) (repeat_of (digits, xs, ys) (ls, zs)) ps _
      (went (s.repeat_head (number_token digits m ∷ keyword_token keyword.From k ∷ ts))
      (λ h qs. bind (s.repeat_body limits qs) (λ y os. give (repeat_of h y) os)) (digits, xs, ys)
      (mark sign.OpenBrace j ∷ vs) _ (complete_head m k a b)
      (went (s.repeat_body limits (mark sign.OpenBrace j ∷ vs))
      (λ y os. give (repeat_of (digits, xs, ys) y) os) (ls, zs) ps _ (complete_inside j c d) refl))
      refl
