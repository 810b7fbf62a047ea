-- Parsers of types within limits and within higher ones.
use Rattle.std.proofs.Common.{◌≡◌, ℕ, zero, suc, ◌≤◌, length, nat_lt, List, inl, Ok, Err, refl, arith}
use Rattle.std.proofs.lemmas.Bool.{lt-ltb}
use Rattle.flume_tokens.specs.declared.token.Token.{Token}
use Rattle.flume_tokens.specs.declared.token.TokenKind.{TokenKind}
use Rattle.flume_tokens.specs.declared.token.TokenKind.TheVariants as kind
use Rattle.flume_tokens.specs.declared.keyword.Keyword.{Keyword}
use Rattle.flume_tokens.specs.declared.keyword.Keyword.TheVariants as keyword
use Rattle.flume_tokens.specs.declared.sign.Sign.TheVariants as sign
use Rattle.flume_grammar.specs.declared.fault.ScriptKind.TheVariants.{Syntax, TooDeep}
use Rattle.flume_grammar.specs.declared.parts.Parts.{Parts}
use Rattle.flume_grammar.specs.declared.start.TypeStart.{TypeStart}
use Rattle.flume_grammar.specs.declared.start.TypeStart.TheVariants as start
use Rattle.flume_grammar.specs.inner.Out.{Out, at, one, all_of}
use Rattle.flume_grammar.specs.Limits.{Limits}
use Rattle.flume_grammar.proofs.Fair.{IsFair}
use Rattle.flume_grammar.specs.Parts.{Tree, none}
use Rattle.flume_grammar.specs.inner.Types.{Inner, HasRoom, deep_start, keyword_type, kind_type, type_start, list_type, pair_type, field_type, next_field_type, at_comma, record_type, after_start, type_layer, type_within, whole_type}
use Rattle.flume_grammar.proofs.Open.{any, free, IsComplete}
use Rattle.flume_grammar.proofs.OpenTypes as o_types
use Rattle.flume_grammar.proofs.OpenTokens.{no_comma}
use Rattle.flume_grammar.proofs.Depths.{Each, each_after, each_give, type_depth}
use Rattle.flume_grammar.proofs.Pair.{Kinds, Raise, Limited, raise_token}
use Rattle.flume_grammar.proofs.PairThen.{IsPair, pair_given, pair_wider, pair_then, pair_given_then}
use Rattle.flume_grammar.proofs.PairTokens.{Grows, Growth, grows_least, grows_down, plain_ok, plain_fault, grows_test, pair_word, pair_sign, pair_commas, pair_shallow, part_added}

module _ (K : Kinds) (limits more : Limits) (fair : IsFair limits) (fair_more : IsFair more)
    (growth : Growth K limits more) where
  abbrev pub Pair : {A : Type 0} → (List Token → Out A) → (List Token → Out A) → Type 0
  Pair p q = IsPair K any any p q

  module _ (inner inner_more : Inner) (h : Pair inner inner_more) where
    r_list : Pair (list_type inner) (list_type inner_more)
    r_list = pair_sign K growth.syntax_ any any sign.Less _ _ tt
        (λ _. pair_then K any any any inner inner_more _ _ h
        (λ x. pair_sign K growth.syntax_ any any sign.Greater _ _ tt
        (λ _. pair_given K any any _ (free any))))

    r_pair : Pair (pair_type inner) (pair_type inner_more)
    r_pair =
        pair_sign K growth.syntax_ any any sign.Less _ _ tt
        (λ _. pair_then K any any any inner inner_more _ _ h
        (λ x. pair_sign K growth.syntax_ any any sign.Comma _ _ tt
        (λ _. pair_then K any any any inner inner_more _ _ h (λ y.
        pair_sign K growth.syntax_ any any sign.Greater _ _ tt
        (λ _. pair_given K any any _ (free any))))))

    r_field : (p : Parts Tree) → Pair (field_type inner p) (field_type inner_more p)
    r_field p =
        pair_word K growth.syntax_ any any _ _ tt
        (λ w. pair_sign K growth.syntax_ any any sign.Colon _ _ tt
        (λ _. pair_then K any any any inner inner_more _ _ h
        (λ x. pair_given K any any _ (free any))))

    s_field : (p : Parts Tree)
        → Each (λ q. length q.names ≡ suc (length p.names)) (field_type inner p)
    s_field p =
        each_after _ (one _) _
        (λ w. each_after _ (one _) _
        (λ _. each_after _ inner _ (λ x. each_give _ _ (part_added p w x.0 x.1))))

    r_fields : (p : Parts Tree) → length p.names ≤ limits.fields
        → IsPair K no_comma no_comma (all_of at_comma (next_field_type limits inner) p)
        (all_of at_comma (next_field_type more inner_more) p)
    r_fields =
        pair_commas K growth.syntax_ no_comma any (free no_comma) (λ k i. i)
        (λ (p : Parts Tree). length p.names) limits.fields more.fields growth.fields
        (λ p _ us. field_type inner p us) (λ p _ us. field_type inner_more p us)
        (λ p _. r_field p) (λ p _. s_field p)

    r_record : Pair (record_type limits inner) (record_type more inner_more)
    r_record =
        pair_given_then K any any any (field_type inner none) (field_type inner_more none) _ _
        (r_field none) (λ p _. (o_types.c_fields_then limits fair inner h.low_ p))
        (λ p _. (o_types.c_fields_then more fair_more inner_more h.high_ p))
        (λ p g. (rest p (let i = s_field none g.source p g.left g.is in let j = fair.fields in
        omega (arith, i, j))).raise)
      where
        rest : (p : Parts Tree) → length p.names ≤ limits.fields
            → Pair (o_types.fields_then limits fair inner h.low_ p)
            (o_types.fields_then more fair_more inner_more h.high_ p)
        rest p i =
            pair_wider K no_comma any any _ _ (free no_comma)
            (pair_then K no_comma no_comma any
            (all_of at_comma (next_field_type limits inner) p)
            (all_of at_comma (next_field_type more inner_more) p) _ _ (r_fields p i) (λ q.
            pair_sign K growth.syntax_ no_comma any sign.CloseBrace _ _ refl
            (λ _. pair_given K any any _ (free any))))

    r_after : (s : TypeStart) → Pair (after_start limits inner s) (after_start more inner_more s)
    r_after (start.Leaf t) = pair_given K any any _ (free any)
    r_after start.List = r_list
    r_after start.Either =
        pair_then K any any any (pair_type inner) (pair_type inner_more) _ _ r_pair
        (λ x. pair_given K any any _ (free any))
    r_after start.Table =
        pair_then K any any any (pair_type inner) (pair_type inner_more) _ _ r_pair
        (λ x. pair_given K any any _ (free any))
    r_after start.Record = r_record

  deep_limited : (n m : ℕ) → 1 ≤ n → Grows K TooDeep n m → (t : Token) (s : TypeStart)
      → Limited K t (deep_start n t s) (deep_start m t s)
  deep_limited n m i g t s =
      grows_test K t s TooDeep n m g (nat_lt 1) (λ j. lt-ltb 1 m (omega (arith, i, j)))

  wrong : (t : Token) → Limited {A = TypeStart} K t (Err (at t Syntax)) (Err (at t Syntax))
  wrong t = inl (refl, plain_fault K t Syntax growth.syntax_)

  leaf : (t : Token) (x : Tree)
      → Limited {A = TypeStart} K t (Ok (start.Leaf x)) (Ok (start.Leaf x))
  leaf t x = inl (refl, plain_ok K t (start.Leaf x))

  module _ (n m : ℕ) (i : 1 ≤ n) (g : Grows K TooDeep n m) where
    keyword_limited : (k : Keyword) (t : Token)
        → Limited K t (keyword_type k n t) (keyword_type k m t)
    keyword_limited keyword.Int t = leaf t _
    keyword_limited keyword.Bool t = leaf t _
    keyword_limited keyword.Text t = leaf t _
    keyword_limited keyword.List t = deep_limited n m i g t start.List
    keyword_limited keyword.Either t = deep_limited n m i g t start.Either
    keyword_limited keyword.Table t = deep_limited n m i g t start.Table
    keyword_limited _ t = wrong t

    kind_limited : (k : TokenKind) (t : Token) → Limited K t (kind_type k n t) (kind_type k m t)
    kind_limited (kind.Name x) t = leaf t _
    kind_limited (kind.Keyword k) t = keyword_limited k t
    kind_limited (kind.Sign sign.OpenBrace) t = deep_limited n m i g t start.Record
    kind_limited _ t = wrong t

    r_layer : (inner inner_more : Inner) → (2 ≤ n → Pair inner inner_more)
        → (2 ≤ m → IsComplete any any inner_more)
        → Pair (type_layer limits n inner) (type_layer more m inner_more)
    r_layer inner inner_more h y =
        pair_given_then K any any any (one (type_start n)) (one (type_start m))
        (after_start limits inner) (after_start more inner_more)
        (record {
          low_ = o_types.begins_type limits fair n;
          high_ =
              o_types.begins_type more fair_more m;
          raise =
              raise_token K (type_start n) (type_start m) (λ t. kind_limited t.kind t);
        })
        (λ s x. o_types.c_room limits fair n inner (λ j. (h j).low_) s (o_types.given_room limits
        fair n s x))
        (λ s x. o_types.c_room more fair_more m inner_more y s (o_types.given_room more fair_more m
        s x))
        (λ s x. by s (o_types.given_room limits fair n s x))
      where
        by : (s : TypeStart) → HasRoom s n
            → Raise K (after_start limits inner s) (after_start more inner_more s)
        by (start.Leaf t) j = λ ts. inl (refl, tt)
        by start.List j = (r_after inner inner_more (h j) start.List).raise
        by start.Either j = (r_after inner inner_more (h j) start.Either).raise
        by start.Table j = (r_after inner inner_more (h j) start.Table).raise
        by start.Record j = (r_after inner inner_more (h j) start.Record).raise

  r_type : (n m : ℕ) → 1 ≤ n → Grows K TooDeep n m
      → Pair (type_within limits n) (type_within more m)
  unfolding type_within
  r_type zero m i g = absurd (omega (arith, i))
  r_type (suc n) zero i g = absurd (let j = grows_least K TooDeep (suc n) zero g in
      omega (arith, j))
  r_type (suc n) (suc m) i g =
      r_layer (suc n) (suc m) i g (type_within limits n) (type_within more m)
      (λ j. r_type n m (omega (arith, j)) (grows_down K TooDeep n m g))
      (λ j. o_types.complete_type more fair_more m (omega (arith, j)))

  pub pair_whole : Pair (whole_type limits) (whole_type more)
  pair_whole =
      pair_shallow K any limits.depth more.depth (type_within limits limits.depth)
      (type_within more more.depth)
      (grows_least K TooDeep limits.depth more.depth growth.depth)
      (r_type limits.depth more.depth fair.depth growth.depth)
      (type_depth limits fair limits.depth) (type_depth more fair_more more.depth)
