-- Parsers of what goes on with an expression are open.
use Rattle.std.proofs.Common.{◌≡◌, ℕ, suc, ◌≤◌, ◌<◌, length, nat_lt, is_some, List, [], ◌∷◌, Bool, true, false, Option, Some, None, Ok, if◌then◌else◌, refl, sym, ap, ◌∙◌, arith}
use Rattle.std.proofs.lemmas.Bool.{ltb-true}
use Rattle.flume_tokens.specs.declared.token.Token.{Token}
use Rattle.flume_grammar.specs.declared.fault.ScriptKind.TheVariants.{TooDeep}
use Rattle.flume_grammar.specs.declared.parts.SoFar.{SoFar}
use Rattle.flume_grammar.specs.declared.parts.Suffix.{Suffix}
use Rattle.flume_grammar.specs.inner.Out.{one, next, all_of}
use Rattle.flume_grammar.specs.inner.Expressions.{suffix_of, Inner, passing, deep_at, extended, with_suffix, goes_on, next_suffix, continued}
use Rattle.flume_grammar.proofs.Open.{Behind, any, free, IsOpen, IsOpenAt, IsComplete}
use Rattle.flume_grammar.proofs.OpenSmallest.{single}
use Rattle.flume_grammar.proofs.OpenAlike.{agree}
use Rattle.flume_grammar.proofs.OpenThen.{then_}
use Rattle.flume_grammar.proofs.OpenNarrow.{narrower}
use Rattle.flume_grammar.proofs.OpenLoops.{Turns, loops}
use Rattle.flume_grammar.proofs.OpenTokens.{owns_fault, takes_token}
use Rattle.flume_grammar.proofs.Depths.{Each, Deep, d_suffix}
use Rattle.flume_grammar.specs.Limits.{Limits}
use Rattle.flume_grammar.proofs.Fair.{IsFair}
use Rattle.flume_grammar.proofs.Quiet.{quiet, Quiet, quiet_given}
use Rattle.flume_grammar.proofs.OpenParts.{o_extend, o_extended}

module _ (limits : Limits) (fair : IsFair limits) where
  module _ (n : ℕ) (inner : Inner) (h : 1 ≤ n → (r : ℕ) → Quiet (inner r)) (deep : (r : ℕ)
      → Each (λ x. x.1 ≤ n) (inner r)) where
    pub one_more : 2 ≤ suc n → 1 ≤ n
    one_more i = omega (arith, i)

    -- ---- what goes on with an expression

    o_with : (x : SoFar) (s : Suffix) (b : Bool) → nat_lt x.depth (suc n) ≡ b → Deep (suc n) x
        → IsOpen quiet (λ ts. if b then extended inner x s ts else one deep_at ts)
    o_with x s true q k ts = let l = ltb-true x.depth (suc n) q in
        (o_extended limits fair inner (h (let i = k.0 in omega (arith, l, i))) x s).open_ ts
    o_with x s false q k ts = narrower quiet any (one deep_at) ts (free quiet)
        (single deep_at (λ t. owns_fault t TooDeep) ts)

    pub never : (us : List Token) (y : SoFar) (vs : List Token) → one deep_at us ≡ Ok (y, vs) → ⊥
    never [] y vs e = cc
    never (u ∷ us) y vs e = cc

    t_with : (x : SoFar) (s : Suffix) (b : Bool) → nat_lt x.depth (suc n) ≡ b → Deep (suc n) x
        → (ts : List Token) (y : SoFar) (us : List Token)
        → (if b then extended inner x s ts else one deep_at ts) ≡ Ok (y, us) → length us < length ts
    t_with x s true q k ts y us e = let l = ltb-true x.depth (suc n) q in
        takes_token quiet passing _
        (λ _. (o_extend limits fair inner (h (let i = k.0 in omega (arith, l, i))) x s).open_) ts y
        us e
    t_with x s false q k ts y us e = absurd (never ts y us e)

    pub by_suffix : (least : ℕ) (x : SoFar) (us ts : List Token) (s : Suffix)
        → suffix_of (next ts) x.rank least ≡ Some s → next us ≡ next ts
        → next_suffix (suc n) inner least x us
        ≡ (if nat_lt x.depth (suc n) then extended inner x s us else one deep_at us)
    by_suffix least x us ts s q e =
        ap (λ o. with_suffix (suc n) inner x (suffix_of o x.rank least) us) e
        ∙ ap (λ o. with_suffix (suc n) inner x o us) q

    o_suffix : (least : ℕ) (x : SoFar) (ts : List Token) → Deep (suc n) x
        → goes_on least x ts ≡ true → IsOpenAt quiet (next_suffix (suc n) inner least x) ts
    o_suffix least x ts k e = by (suffix_of (next ts) x.rank least) refl
      where
        by : (o : Option Suffix) → suffix_of (next ts) x.rank least ≡ o
            → IsOpenAt quiet (next_suffix (suc n) inner least x) ts
        by None q = absurd (let z = sym (ap is_some q) ∙ e in cc)
        by (Some s) q =
            agree quiet (next_suffix (suc n) inner least x)
            (λ us. if nat_lt x.depth (suc n) then extended inner x s us else one deep_at us) ts
            (λ us i. by_suffix least x us ts s q i)
            (λ y us i. t_with x s (nat_lt x.depth (suc n)) refl k ts y us i)
            (o_with x s (nat_lt x.depth (suc n)) refl k ts)

    t_suffix : (least : ℕ) (x : SoFar) (ts : List Token) (y : SoFar) (us : List Token)
        → Deep (suc n) x → goes_on least x ts ≡ true
        → next_suffix (suc n) inner least x ts ≡ Ok (y, us) → length us < length ts
    t_suffix least x ts y us k m e = by (suffix_of (next ts) x.rank least) refl
      where
        by : (o : Option Suffix) → suffix_of (next ts) x.rank least ≡ o → length us < length ts
        by None q = absurd (let z = sym (ap is_some q) ∙ m in cc)
        by (Some s) q = t_with x s (nat_lt x.depth (suc n)) refl k ts y us
            (sym (by_suffix least x ts ts s q refl) ∙ e)

    pub stopped : (least : ℕ) (x : SoFar) (ts : List Token) → Behind quiet ts
        → goes_on least x ts ≡ false
    stopped least x [] i = refl
    stopped least x (t ∷ ts) i = ap is_some (i x.rank least)

    pub suffix_turns : (least : ℕ)
        → Turns quiet quiet (goes_on least) (next_suffix (suc n) inner least) (Deep (suc n))
    suffix_turns least = record {
      sub = λ ts i. i;
      stopped = stopped least;
      same = λ x ts us e. ap (λ o. is_some (suffix_of o x.rank least)) e;
      takes = t_suffix least;
      open_ = o_suffix least;
      keeps = λ x ts y us k e. d_suffix limits fair n inner deep least x k ts y us e;
    }

    o_loop : (least : ℕ) (x : SoFar) → Deep (suc n) x
        → IsComplete quiet quiet (all_of (goes_on least) (next_suffix (suc n) inner least) x)
    o_loop least = loops quiet quiet (goes_on least) (next_suffix (suc n) inner least)
        (Deep (suc n)) (suffix_turns least)

    pub o_continued : (least : ℕ) (x : SoFar) → Deep (suc n) x
        → IsComplete quiet quiet (continued (suc n) inner least x)
    o_continued least x k =
        then_ quiet quiet quiet (all_of (goes_on least) (next_suffix (suc n) inner least) x) _
        (o_loop least x k) (λ y _. quiet_given _)
