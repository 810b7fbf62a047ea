-- What goes on with no expression, and what an operand begins with.
use Rattle.std.proofs.Common.{◌≡◌, ℕ, ◌≤◌, nat_lt, List, Bool, true, false, not, ◌||◌, Option, Some, None, Ok, Err, if◌then◌else◌, refl, ap, subst, arith}
use Rattle.std.proofs.lemmas.Bool.{ltb-true}
use Rattle.flume_tokens.specs.declared.token.Token.{Token}
use Rattle.flume_grammar.specs.declared.fault.ScriptKind.TheVariants.{Syntax, TooDeep}
use Rattle.flume_grammar.specs.declared.start.Start.{Start}
use Rattle.flume_grammar.specs.declared.start.Start.TheVariants as start
use Rattle.flume_grammar.specs.inner.Out.{Out, give, at}
use Rattle.flume_grammar.specs.inner.Expressions.{fits, is_leaf, HasRoom, started, suffix_of}
use Rattle.flume_grammar.proofs.Open.{Class, any, Sub, free, within, IsComplete}
use Rattle.flume_grammar.proofs.OpenSmallest.{Owns, given}
use Rattle.flume_grammar.proofs.OpenNarrow.{closer}
use Rattle.flume_grammar.proofs.OpenTokens.{owns_ok, owns_fault, owns_if, no_comma}

-- before what goes on with no expression
abbrev pub quiet : Class
quiet k = (own least : ℕ) → suffix_of (Some k) own least ≡ None

-- and is no comma
abbrev pub ending : Class
ending k = quiet k × no_comma k

pub quieter : Sub ending quiet
quieter = within ending quiet (λ k h. h.0)

abbrev pub Quiet : {A : Type 0} → (List Token → Out A) → Type 0
Quiet p = IsComplete any quiet p

abbrev pub Whole : {A : Type 0} → (List Token → Out A) → Type 0
Whole p = IsComplete any any p

-- what may stand before anything, before what is quiet
pub whole : {A : Type 0} {p : List Token → Out A} → Whole p → Quiet p
whole {A} {p} x = closer any quiet any p (free quiet) x

pub quiet_given : {A : Type 0} (a : A) → IsComplete quiet quiet (give a)
quiet_given a = given quiet quiet a (λ ts i. i)

pub owns_started : (limit least : ℕ) (t : Token) (o : Option Start)
    → Owns t (started limit least t o)
owns_started limit least t None = owns_fault t Syntax
owns_started limit least t (Some s) = owns_if t (not (fits s least)) _ _ (owns_fault t Syntax)
    (owns_if t (nat_lt 1 limit || is_leaf s) _ _ (owns_ok t s) (owns_fault t TooDeep))

-- ---- what begins with room for parts

in_room : (b : Bool) (limit : ℕ) (t : Token) (s : Start) → nat_lt 1 limit ≡ b
    → (if b || is_leaf s then Ok s else Err (at t TooDeep)) ≡ Ok s → HasRoom s limit
in_room true limit t s q e = all s (let l = ltb-true 1 limit q in omega (arith, l))
  where
    all : (r : Start) → 2 ≤ limit → HasRoom r limit
    all (start.Leaf x) i = tt
    all start.Empty i = tt
    all start.Record i = i
    all start.List i = i
    all (start.Side x) i = i
    all (start.Prefix u) i = i
    all (start.Call u) i = i
    all start.Concat i = i
    all start.Pick i = i
in_room false limit t (start.Leaf x) q e = tt
in_room false limit t start.Empty q e = tt
in_room false limit t start.Record q e = cc
in_room false limit t start.List q e = cc
in_room false limit t (start.Side x) q e = cc
in_room false limit t (start.Prefix u) q e = cc
in_room false limit t (start.Call u) q e = cc
in_room false limit t start.Concat q e = cc
in_room false limit t start.Pick q e = cc

pub start_room : (limit least : ℕ) (t : Token) (o : Option Start) (r : Start)
    → started limit least t o ≡ Ok r → HasRoom r limit
start_room limit least t None r e = cc
start_room limit least t (Some s) r e = by (not (fits s least)) (nat_lt 1 limit || is_leaf s) refl e
  where
    by : (f b : Bool) → (nat_lt 1 limit || is_leaf s) ≡ b
        → (if f then Err (at t Syntax) else if b then Ok s else Err (at t TooDeep)) ≡ Ok r
        → HasRoom r limit
    by true b q p = cc
    by false true q p =
        let x : s ≡ r = cc in
        subst (λ z. HasRoom z limit) x (in_room (nat_lt 1 limit) limit t s refl
        (ap (λ c. if c then Ok s else Err (at t TooDeep)) q))
    by false false q p = cc

pub or_true : (b : Bool) → (b || true) ≡ true
or_true true = refl
or_true false = refl
