-- What goes on with an expression, within limits and within higher ones.
use Rattle.std.proofs.Common.{◌≡◌, ℕ, suc, ◌≤◌, ◌<◌, nat_lt, is_some, List, [], ◌∷◌, Bool, true, false, inl, inr, Option, Some, None, if◌then◌else◌, refl, ap, ◌∙◌, arith}
use Rattle.std.proofs.lemmas.Bool.{ltb-true, lt-ltb}
use Rattle.flume_tokens.specs.declared.token.Token.{Token}
use Rattle.flume_grammar.specs.declared.fault.ScriptKind.TheVariants.{TooDeep}
use Rattle.flume_grammar.specs.declared.parts.SoFar.{SoFar}
use Rattle.flume_grammar.specs.declared.parts.Suffix.{Suffix}
use Rattle.flume_grammar.specs.inner.Out.{one, next, all_of}
use Rattle.flume_grammar.specs.inner.Expressions.{suffix_of, Inner, extend, deep_at, extended, goes_on, next_suffix, continued}
use Rattle.flume_grammar.specs.Limits.{Limits}
use Rattle.flume_grammar.proofs.Fair.{IsFair}
use Rattle.flume_grammar.proofs.Open.{any, at_head, IsComplete}
use Rattle.flume_grammar.proofs.OpenParts as o_parts
use Rattle.flume_grammar.proofs.OpenSuffixes as o_suffixes
use Rattle.flume_grammar.proofs.Quiet.{quiet, quiet_given}
use Rattle.flume_grammar.proofs.Depths.{Each, Deep}
use Rattle.flume_grammar.proofs.Pair.{Kinds, Raise, RaiseAt, nothing_left, raise_token}
use Rattle.flume_grammar.proofs.PairThen.{raise_bind, raise_agree, IsPair, pair_loop}
use Rattle.flume_grammar.proofs.PairTokens.{Grows, Growth, grows_least, plain_fault}
use Rattle.flume_grammar.proofs.PairParts.{r_extended}

-- the parts that a layer of expressions reads, within limits and within higher ones
pub record Inners (K : Kinds) (n m : ℕ) (inner inner_more : Inner) : Type 0 where
  pub grows : Grows K TooDeep n m
  pub pair : 1 ≤ n → (r : ℕ) → IsPair K any quiet (inner r) (inner_more r)
  pub low : 1 ≤ n → (r : ℕ) → IsComplete any quiet (inner r)
  pub high : 1 ≤ m → (r : ℕ) → IsComplete any quiet (inner_more r)
  pub deep : (r : ℕ) → Each (λ x. x.1 ≤ n) (inner r)
  pub deep_more : (r : ℕ) → Each (λ x. x.1 ≤ m) (inner_more r)

module _ (K : Kinds) (limits more : Limits) (fair : IsFair limits) (fair_more : IsFair more)
    (growth : Growth K limits more) where
  module _ (n m : ℕ) (inner inner_more : Inner) (parts : Inners K n m inner inner_more) where
    open parts use {grows, pair, low, high, deep, deep_more}

    pub up : (x : SoFar) → Deep (suc n) x → Deep (suc m) x
    up x k = (k.0, let i = k.1 in let j = grows_least K TooDeep n m grows in omega (arith, i, j))

    later : (x : SoFar) → x.depth < suc n → Deep (suc n) x → 1 ≤ n
    later x l k = let i = k.0 in omega (arith, l, i)

    not_both : (b : Bool) → b ≡ true → b ≡ false → ⊥
    not_both true i j = cc
    not_both false i j = cc

    r_tested : (x : SoFar) (s : Suffix) (b c : Bool) → nat_lt x.depth (suc n) ≡ b
        → nat_lt x.depth (suc m) ≡ c → Deep (suc n) x
        → Raise K (λ ts. if b then extended inner x s ts else one deep_at ts)
        (λ ts. if c then extended inner_more x s ts else one deep_at ts)
    r_tested x s true true i j k ts =
        (r_extended K limits more fair fair_more growth inner inner_more
        (pair (later x (ltb-true x.depth (suc n) i) k)) x s).raise ts
    r_tested x s true false i j k ts =
        absurd
        (not_both (nat_lt x.depth (suc m)) (lt-ltb x.depth (suc m) (let l =
        ltb-true x.depth (suc n) i in let u = grows_least K TooDeep n m grows in
        omega (arith, l, u))) j)
    r_tested x s false false i j k ts = by grows
      where
        by : Grows K TooDeep n m → RaiseAt K (one deep_at) (one deep_at) ts
        by (inl z) = raise_token K deep_at deep_at (λ t. inl (refl, plain_fault K t TooDeep z.1))
            ts
        by (inr z) =
            absurd (not_both (nat_lt x.depth (suc m)) (lt-ltb x.depth (suc m) (let a = k.1 in
            let b = z.0 in omega (arith, a, b))) j)
    r_tested x s false true i j k ts = by grows ts
      where
        same : (e : n ≡ m) → ⊥
        same e = not_both (nat_lt x.depth (suc n)) (ap (λ z. nat_lt x.depth (suc z)) e ∙ j) i

        by : Grows K TooDeep n m → (us : List Token)
            → RaiseAt K (one deep_at) (extended inner_more x s) us
        by (inl z) us = absurd (same z.0)
        by (inr z) [] = inl (refl, tt)
        by (inr z) (t ∷ us) = inr (record {
          place = at_head t us;
          kind = TooDeep;
          is = z.1;
          always = λ others. refl;
          swallows =
              nothing_left quiet (extend inner_more x s)
              ((o_parts.o_extend more fair_more inner_more (high (let a = z.0 in
              omega (arith, a))) x s).open_ []);
        })

    r_suffix : (least : ℕ) (x : SoFar) (ts : List Token) → Deep (suc n) x
        → goes_on least x ts ≡ true
        → RaiseAt K (next_suffix (suc n) inner least x) (next_suffix (suc m) inner_more least x)
        ts
    r_suffix least x ts k e = by (suffix_of (next ts) x.rank least) refl
      where
        by : (o : Option Suffix) → suffix_of (next ts) x.rank least ≡ o
            → RaiseAt K (next_suffix (suc n) inner least x)
            (next_suffix (suc m) inner_more least x) ts
        by None q = absurd (not_both (goes_on least x ts) e (ap is_some q))
        by (Some s) q =
            raise_agree K (next_suffix (suc n) inner least x)
            (next_suffix (suc m) inner_more least x)
            (λ us. if nat_lt x.depth (suc n) then extended inner x s us else one deep_at us)
            (λ us. if nat_lt x.depth (suc m) then extended inner_more x s us else one deep_at us)
            ts (λ us i. o_suffixes.by_suffix limits fair n inner low deep least x us ts s q i)
            (λ us i. o_suffixes.by_suffix more fair_more m inner_more high deep_more least x us ts
            s q
            i)
            (r_tested x s (nat_lt x.depth (suc n)) (nat_lt x.depth (suc m)) refl refl k ts)

    r_loop : (least : ℕ) (x : SoFar) → Deep (suc n) x
        → IsPair K quiet quiet (all_of (goes_on least) (next_suffix (suc n) inner least) x)
        (all_of (goes_on least) (next_suffix (suc m) inner_more least) x)
    r_loop least =
        pair_loop K quiet quiet (goes_on least) (next_suffix (suc n) inner least)
        (next_suffix (suc m) inner_more least) (Deep (suc n)) (Deep (suc m))
        (o_suffixes.suffix_turns limits fair n inner low deep least)
        (o_suffixes.suffix_turns more fair_more m inner_more high deep_more least) up
        (r_suffix least)

    pub r_continued : (least : ℕ) (x : SoFar) → Deep (suc n) x
        → Raise K (continued (suc n) inner least x) (continued (suc m) inner_more least x)
    r_continued least x k ts =
        raise_bind K quiet quiet (all_of (goes_on least) (next_suffix (suc n) inner least) x)
        (all_of (goes_on least) (next_suffix (suc m) inner_more least) x) _ _ ts
        ((r_loop least x k).low_.open_ ts) ((r_loop least x k).high_.open_ ts)
        ((r_loop least x k).raise ts) (λ y us e. inl (refl, tt))
        (λ y e. (quiet_given (y.expr, y.depth)).open_ [])
