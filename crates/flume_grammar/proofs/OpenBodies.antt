-- Parsers of bodies, and of what a keyword may begin, are open.
use Rattle.std.proofs.Common.{◌≡◌, ℕ, zero, suc, ◌-◌, ◌≤◌, ◌<◌, max, length, nat_le, is_some, List, [], ◌∷◌, ◌++◌, Bool, true, false, inl, inr, Option, Some, None, Ok, Err, if◌then◌else◌, refl, sym, ap, ◌∙◌, subst, arith, lit≤}
use Rattle.std.proofs.lemmas.Bool.{leb-true}
use Rattle.flume_tokens.specs.declared.token.Token.{Token}
use Rattle.flume_tokens.specs.declared.token.TokenKind.TheVariants as kind
use Rattle.flume_tokens.specs.declared.keyword.Keyword.{Keyword}
use Rattle.flume_tokens.specs.declared.keyword.Keyword.TheVariants as keyword
use Rattle.flume_tokens.specs.declared.sign.Sign.TheVariants as sign
use Rattle.flume_grammar.specs.declared.fault.ScriptKind.TheVariants.{Syntax, TooDeep}
use Rattle.flume_grammar.specs.declared.start.BodyStart.{BodyStart}
use Rattle.flume_grammar.specs.declared.start.BodyStart.TheVariants as begin
use Rattle.flume_grammar.specs.inner.Out.{Out, give, bind, at, one, next, all_of}
use Rattle.flume_grammar.specs.inner.Reading.{is_keyword, keyword_at, number_at, is_at_keyword, numbered, of_keyword}
use Rattle.flume_grammar.specs.inner.Bodies as b
use Rattle.flume_grammar.specs.inner.Bodies.{Block, value, block_layer, block_within, whole_block}
use Rattle.flume_grammar.specs.inner.Expressions.{expression_within}
use Rattle.flume_grammar.proofs.Sound.{bound, one_token}
use Rattle.flume_grammar.proofs.SoundExpr.{sound_expression}
use Rattle.flume_grammar.proofs.Sizes.{shorter, no_to as begins}
use Rattle.flume_grammar.proofs.Open.{Takes, Class, Behind, any, Sub, free, within, Suits, IsOpen, IsOpenAt, Gives, IsComplete, no_longer}
use Rattle.flume_grammar.proofs.OpenSmallest.{Owns, given, stands, single}
use Rattle.flume_grammar.proofs.OpenAlike.{agree}
use Rattle.flume_grammar.proofs.OpenThen.{binds_at, then_}
use Rattle.flume_grammar.proofs.OpenNarrow.{wider, fronted, narrower, closer}
use Rattle.flume_grammar.proofs.OpenLoops.{Turns, loops}
use Rattle.flume_grammar.proofs.OpenTokens.{then_shallow, owns_ok, owns_fault, owns_if, takes_token, takes_given, sign_then, keyword_then, name_then, number_then, no_comma}
use Rattle.flume_grammar.proofs.Quiet.{quiet}
use Rattle.flume_grammar.proofs.OpenExpr.{complete_expression}
use Rattle.flume_grammar.proofs.Depths.{block_depth}
use Rattle.flume_grammar.specs.Limits.{Limits}
use Rattle.flume_grammar.proofs.Fair.{IsFair}

-- ---- what a keyword may begin

-- what begins with a keyword, or is nothing
module _ {A : Type 0} (k : Keyword) (f : Unit {0} → List Token → Out A) (a : A) where
  -- before what is not this keyword
  abbrev pub other : Class
  other j = is_keyword k j ≡ false

  abbrev pub maybe : List Token → Out A
  maybe ts = if is_at_keyword k (next ts) then bind (one (keyword_at k) ts) f else give a ts

  abbrev pub chosen : Bool → List Token → Out A
  chosen c ts = if c then bind (one (keyword_at k) ts) f else give a ts

  pub absent : (ts : List Token) → is_at_keyword k (next ts) ≡ false → maybe ts ≡ Ok (a, ts)
  absent ts q = ap (λ c. chosen c ts) q

  pub stopped : (ts : List Token) → Behind other ts → is_at_keyword k (next ts) ≡ false
  stopped [] i = refl
  stopped (t ∷ ts) i = i

  pub optional : IsComplete any other (λ ts. bind (one (keyword_at k) ts) f)
      → ((u : Unit {0}) → IsOpen other (f u)) → IsComplete other other maybe
  optional h o = record {
    open_ = λ ts. by ts (is_at_keyword k (next ts)) refl;
    starts = record {
      others = [];
      got = a;
      always = λ rest i. absent rest (stopped rest i);
      leads =
          λ rest i. i;
    };
    follows = λ ts x us e. inr (λ rs i. i);
  }
    where
      stays : (ts others : List Token) → is_at_keyword k (next ts) ≡ false → Suits other ts others
          → is_at_keyword k (next others) ≡ false
      stays ts others q (inl i) = ap (is_at_keyword k) i ∙ q
      stays ts others q (inr i) = stopped others i

      by : (ts : List Token) (c : Bool) → is_at_keyword k (next ts) ≡ c → IsOpenAt other maybe ts
      by ts false q =
          stands other maybe a ts (absent ts q) (λ others i. absent others (stays ts others q i))
      by ts true q =
          agree other maybe (λ us. bind (one (keyword_at k) us) f) ts
          (λ us e. ap (λ c. chosen c us) (ap (is_at_keyword k) e ∙ q))
          (λ x us e. takes_token other (keyword_at k) f o ts x us e) (h.open_ ts)

  -- the same before fewer tokens
  pub optional_in : (c : Class) → Sub c other → IsComplete other other maybe
      → IsComplete c c maybe
  optional_in c s x = record {
    open_ = λ ts. narrower c other maybe ts s (x.open_ ts);
    starts = record {
      others = [];
      got = a;
      always = λ rest i. absent rest (stopped rest (s rest i));
      leads =
          λ rest i. i;
    };
    follows = λ ts y us e. inr (λ rs i. i);
  }

abbrev pub other_than : Keyword → Class
other_than k j = is_keyword k j ≡ false

behind_other : (k : Keyword) (ts : List Token) → is_at_keyword k (next ts) ≡ false
    → Behind (other_than k) ts
behind_other k [] e = tt
behind_other k (t ∷ ts) e = e

pub o_numbered : (k : Keyword) → IsComplete (other_than k) (other_than k) (numbered k)
o_numbered k =
    let x = number_then any (other_than k) _ tt
    (λ n. given any (other_than k) (Some n) (free (other_than k))) in
    optional k (λ _ us. bind (one number_at us) (λ n vs. give (Some n) vs)) None
    (keyword_then any (other_than k) k _ tt (λ _. x)) (λ _. x.open_)

-- ---- bodies

abbrev pub no_else : Class
no_else = other_than keyword.Else

abbrev pub no_to : Class
no_to = other_than keyword.To

-- before what is neither `scale` nor a comma
abbrev pub unscaled : Class
unscaled k = other_than keyword.Scale k × no_comma k

-- before what begins a block
abbrev pub opening : Class
opening k = quiet k × unscaled k

-- behind a statement of a body
abbrev pub after_body : Class
after_body k = quiet k × no_else k

-- behind the last
abbrev pub in_block : Class
in_block k = quiet k × no_else k × (is_some (of_keyword b.keyword_body k) ≡ false)

pub owns_body : (limit : ℕ) (t : Token) (o : Option BodyStart) → Owns t (b.started limit t o)
owns_body limit t (Some x) = owns_if t (nat_le 2 limit) _ _ (owns_ok t (x, t.line))
    (owns_fault t TooDeep)
owns_body limit t None = owns_fault t Syntax

pub body_room : (limit : ℕ) (t : Token) (o : Option BodyStart) (r : BodyStart × ℕ)
    → b.started limit t o ≡ Ok r → 2 ≤ limit
body_room limit t None r e = cc
body_room limit t (Some x) r e = by (nat_le 2 limit) refl e
  where
    by : (c : Bool) → nat_le 2 limit ≡ c → (if c then Ok (x, t.line) else Err (at t TooDeep)) ≡ Ok r
        → 2 ≤ limit
    by true q p = leb-true 2 limit q
    by false q p = cc

module _ (limits : Limits) (fair : IsFair limits) where
  module _ (n : ℕ) (inner : List Token → Out Block) (h : 1 ≤ n → IsComplete opening any inner) where
    pub less_one : suc n - 1 ≡ n
    less_one = omega arith

    o_value : 1 ≤ n → IsComplete any quiet (value limits (suc n))
    o_value i = subst (λ m. IsComplete any quiet (expression_within limits m 1)) (sym less_one)
        ((complete_expression limits fair) n i 1)

    -- no expression begins with `to`
    pub o_value_behind : 1 ≤ n → IsComplete no_to quiet (value limits (suc n))
    o_value_behind i =
        fronted no_to any quiet (value limits (suc n))
        (λ ts x us e. let y = sound_expression limits fair (suc n - 1) 1 ts x us (lit≤ tt) e in
        (shorter limits fair y, behind_other keyword.To ts (begins limits fair y))) (o_value i)

    pub at_quiet : 1 ≤ n → IsComplete quiet any inner
    at_quiet i = wider opening quiet any inner (within opening quiet (λ k x. x.0)) (h i)

    pub anywhere : 1 ≤ n → IsComplete any any inner
    anywhere i = wider opening any any inner (free opening) (h i)

    o_otherwise : 1 ≤ n → IsComplete no_else no_else (b.otherwise inner)
    o_otherwise i =
        let x = closer any no_else any inner (free no_else) (anywhere i) in
        optional keyword.Else (λ _ us. inner us) ([], 0)
        (keyword_then any no_else keyword.Else (λ _ us. inner us) tt (λ _. x)) (λ _. x.open_)

    pub o_let : 1 ≤ n → (line : ℕ) → IsComplete any after_body (b.let_body limits (suc n) line)
    o_let i line =
        name_then any after_body _ tt (λ x. sign_then any after_body sign.Assign _ tt
        (λ _. then_ any quiet after_body (value limits (suc n)) _ (o_value i)
        (λ e _. given quiet after_body _ (within after_body quiet (λ k j. j.0)))))

    o_emit : 1 ≤ n → (line : ℕ) → IsComplete any after_body (b.emit_body limits (suc n) line)
    o_emit i line =
        wider no_to any after_body _ (free no_to)
        (then_ no_to no_to after_body (numbered keyword.To) _ (o_numbered keyword.To) (λ o _.
        then_ no_to quiet after_body (value limits (suc n)) _ (o_value_behind i)
        (λ e _. given quiet after_body _ (within after_body quiet (λ k j. j.0)))))

    o_if : 1 ≤ n → (line : ℕ)
        → IsComplete any after_body (b.if_body limits (suc n) inner line)
    o_if i line =
        then_ any quiet after_body (value limits (suc n)) _ (o_value i)
        (λ e _. then_ quiet any after_body inner _ (at_quiet i) (λ x _.
        wider no_else any after_body _ (free no_else)
        (then_ no_else no_else after_body (b.otherwise inner) _ (o_otherwise i)
        (λ y _. given no_else after_body _ (within after_body no_else (λ k j. j.1))))))

    o_for : 1 ≤ n → (line : ℕ)
        → IsComplete any after_body (b.for_body limits (suc n) inner line)
    o_for i line =
        name_then any after_body _ tt (λ x. keyword_then any after_body keyword.In _ tt
        (λ _. then_ any quiet after_body (value limits (suc n)) _ (o_value i)
        (λ e _. then_ quiet any after_body inner _ (at_quiet i) (λ y _.
        given any after_body _ (free after_body)))))

    o_side : (c : Class) → 1 ≤ n → (k : Keyword) → c (kind.Keyword k)
        → IsComplete c any (b.side inner k)
    o_side c i k q =
        keyword_then c any k _ q
        (λ _. name_then any any _ tt (λ x. then_ any any any inner _ (anywhere i)
        (λ y _. given any any _ (free any))))

    o_case : 1 ≤ n → (line : ℕ)
        → IsComplete any after_body (b.case_body limits (suc n) inner line)
    o_case i line =
        then_ any quiet after_body (value limits (suc n)) _ (o_value i)
        (λ e _. then_ quiet any after_body (b.side inner keyword.Left) _
        (o_side quiet i keyword.Left (λ own least. refl)) (λ l _.
        then_ any any after_body (b.side inner keyword.Right) _ (o_side any i keyword.Right tt)
        (λ r _. given any after_body _ (free after_body))))

    pub o_after : 1 ≤ n → (x : BodyStart) (line : ℕ)
        → IsComplete any after_body (b.after_start limits (suc n) inner x line)
    o_after i begin.Let line = o_let i line
    o_after i begin.Emit line = o_emit i line
    o_after i begin.If line = o_if i line
    o_after i begin.For line = o_for i line
    o_after i begin.Case line = o_case i line

    pub begun : (x : BodyStart × ℕ) → Gives (one (b.body_start (suc n))) x
        → IsComplete any after_body (b.after_start limits (suc n) inner x.0 x.1)
    begun x g =
        let y = one_token (b.body_start (suc n)) g.source x g.left g.is in
        o_after (let i = body_room (suc n) y.token (of_keyword b.keyword_body y.token.kind) x
        y.gives in
        omega (arith, i)) x.0 x.1

    pub o_body : IsOpen after_body (b.body limits (suc n) inner)
    o_body ts =
        binds_at any after_body (one (b.body_start (suc n))) _ ts
        (single (b.body_start (suc n))
        (λ t. owns_body (suc n) t (of_keyword b.keyword_body t.kind)) ts)
        (λ x us e. (begun x (record { source = ts; left = us; is = e })).open_ us)
        (λ x g. (begun x g).starts) (λ x g. (begun x g).follows)

    t_body : Takes (b.body limits (suc n) inner)
    t_body = takes_given after_body (b.body_start (suc n)) _ (λ x g. (begun x g).open_)

    o_next : (x : Block) → IsOpen after_body (b.next_body limits (suc n) inner x)
    o_next x ts =
        let f = given after_body after_body in
        binds_at after_body after_body (b.body limits (suc n) inner) _ ts (o_body ts)
        (λ y us e. (f _ (λ rs i. i)).open_ us) (λ y g. (f _ (λ rs i. i)).starts)
        (λ y g. (f _ (λ rs i. i)).follows)

    t_next : (x y : Block) (ts us : List Token)
        → b.next_body limits (suc n) inner x ts ≡ Ok (y, us) → length us < length ts
    t_next x y ts us e =
        let a = bound (b.body limits (suc n) inner ts) _ y us e in
        let i = t_body ts a.got a.rest a.part in
        let j = no_longer after_body (give (x.0 ++ a.got.0 ∷ [], max x.1 a.got.1)) a.rest y us
        ((given after_body after_body (x.0 ++ a.got.0 ∷ [], max x.1 a.got.1) (λ rs k. k)).open_
        a.rest) a.after in
        omega (arith, i, j)

    pub body_turns : Turns in_block after_body b.at_body (b.next_body limits (suc n) inner)
        (λ x. Unit {0})
    body_turns = record {
      sub = within in_block after_body (λ k i. (i.0, i.1));
      stopped = ends;
      same = λ x ts us e. ap b.begins_body e;
      takes = λ x ts y us i m e. t_next x y ts us e;
      open_ = λ x ts i m. o_next x ts;
      keeps = λ x ts y us i e. tt;
    }
      where
        ends : (y : Block) (ts : List Token) → Behind in_block ts → b.at_body y ts ≡ false
        ends y [] i = refl
        ends y (t ∷ ts) i = i.2

    pub o_bodies : (x : Block)
        → IsComplete in_block in_block (all_of b.at_body (b.next_body limits (suc n) inner) x)
    o_bodies x = loops in_block after_body b.at_body (b.next_body limits (suc n) inner)
        (λ y. Unit {0}) body_turns x tt

    pub o_layer : IsComplete opening any (block_layer limits (suc n) inner)
    o_layer =
        sign_then opening any sign.OpenBrace _ (λ own least. refl, (refl, refl))
        (λ _. wider in_block any any _ (free in_block)
        (then_ in_block in_block any (all_of b.at_body (b.next_body limits (suc n) inner) ([], 0))
        _ (o_bodies ([], 0)) (λ x _. sign_then in_block any sign.CloseBrace _
        (λ own least. refl, refl, refl) (λ _. given any any x (free any)))))

  pub complete_block : (n : ℕ) → 1 ≤ n → IsComplete opening any (block_within limits n)
  unfolding block_within
  complete_block zero i = absurd (omega (arith, i))
  complete_block (suc n) i = o_layer n (block_within limits n) (complete_block n)

  pub complete_body : IsComplete opening any (whole_block limits)
  complete_body = then_shallow opening limits.depth (block_within limits limits.depth)
      (complete_block limits.depth fair.depth) (block_depth limits fair limits.depth)
