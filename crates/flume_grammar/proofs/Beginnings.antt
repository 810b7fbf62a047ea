-- Where lists of tokens part, and which of them the parser says are beginnings.
use Rattle.std.proofs.Common.{◌≡◌, ◌≢◌, List, [], ◌∷◌, ◌++◌, ◌⊎◌, inl, inr, Some, None, Ok, Err, refl, sym, ap, ap₂, ◌∙◌, subst}
use Rattle.std.proofs.lemmas.List.{append_assoc}
use Rattle.flume_tokens.specs.declared.token.Token.{Token}
use Rattle.flume_grammar.specs.declared.fault.ScriptKind.TheVariants.{Syntax, TooDeep, TooMany}
use Rattle.flume_grammar.specs.declared.fault.Stop.TheVariants as stop
use Rattle.flume_grammar.specs.declared.tree.Statement.{Statement}
use Rattle.flume_grammar.specs.inner.Out.{Out}
use Rattle.flume_grammar.specs.Limits.{Limits}
use Rattle.flume_grammar.proofs.Fair.{IsFair}
use Rattle.flume_grammar.specs.inner.Statements.{script_at}
use Rattle.flume_grammar.specs.Grammar.{AreStatements, none_, IsScript}
use Rattle.flume_grammar.specs.Fault.{IsBeginning}
use Rattle.flume_grammar.proofs.SoundScript.{sound_script}
use Rattle.flume_grammar.proofs.Open.{Ends}
use Rattle.flume_grammar.proofs.OpenScript.{nothing, complete_statements}
use Rattle.flume_grammar.proofs.Pair.{Kinds, Swallows}

-- ---- lists

pub none_there : (before : List Token) (here : Token) (behind : List Token)
    → [] ≡ before ++ here ∷ behind → ⊥
none_there [] here behind e = cc
none_there (b ∷ before) here behind e = cc

two_tokens : (x y : Token) (a b : List Token) → x ≡ y → a ≡ b → x ∷ a ≡ y ∷ b
two_tokens x y a b e h = ap₂ (λ z w. z ∷ w) e h

-- a token in a list is its last or inside
pub last_or_inside : (a b : List Token) (x y : Token) (behind : List Token)
    → a ++ x ∷ [] ≡ b ++ y ∷ behind → (behind ≡ []) ⊎ ((r : List Token) × (a ≡ b ++ y ∷ r))
last_or_inside [] [] x y behind e = inl (let h : [] ≡ behind = cc in sym h)
last_or_inside [] (z ∷ b) x y behind e =
    absurd (none_there b y behind (let h : [] ≡ b ++ y ∷ behind = cc in h))
last_or_inside (z ∷ a) [] x y behind e = inr (a, two_tokens z y a a (let h : z ≡ y = cc in h) refl)
last_or_inside (z ∷ a) (w ∷ b) x y behind e =
    by (last_or_inside a b x y behind (let h : a ++ x ∷ [] ≡ b ++ y ∷ behind = cc in
    h)) (let h : z ≡ w = cc in h)
  where
    by : (behind ≡ []) ⊎ ((r : List Token) × (a ≡ b ++ y ∷ r)) → z ≡ w
        → (behind ≡ []) ⊎ ((r : List Token) × (z ∷ a ≡ w ∷ b ++ y ∷ r))
    by (inl i) h = inl i
    by (inr i) h = inr (i.0, two_tokens z w a (b ++ y ∷ i.0) h i.1)

-- two places in a list: one place, or one comes first
pub places : (a b : List Token) (x y : Token) (us vs : List Token) → a ++ x ∷ us ≡ b ++ y ∷ vs
    → ((a ≡ b) × (x ≡ y)) ⊎ (((r : List Token) × (a ≡ b ++ y ∷ r)) ⊎ ((r : List Token)
    × (b ≡ a ++ x ∷ r)))
places [] [] x y us vs e = inl (refl, let h : x ≡ y = cc in h)
places [] (z ∷ b) x y us vs e = inr (inr (b, two_tokens z x b b (let h : x ≡ z = cc in sym h) refl))
places (z ∷ a) [] x y us vs e = inr (inl (a, two_tokens z y a a (let h : z ≡ y = cc in h) refl))
places (z ∷ a) (w ∷ b) x y us vs e =
    by (places a b x y us vs (let h : a ++ x ∷ us ≡ b ++ y ∷ vs = cc in h)) (let h : z ≡ w = cc in
    h)
  where
    by : ((a ≡ b) × (x ≡ y)) ⊎ (((r : List Token) × (a ≡ b ++ y ∷ r)) ⊎ ((r : List Token)
        × (b ≡ a ++ x ∷ r))) → z ≡ w
        → ((z ∷ a ≡ w ∷ b)
        × (x ≡ y)) ⊎ (((r : List Token) × (z ∷ a ≡ w ∷ b ++ y ∷ r)) ⊎ ((r : List Token)
        × (w ∷ b ≡ z ∷ a ++ x ∷ r)))
    by (inl i) h = inl (two_tokens z w a b h i.0, i.1)
    by (inr (inl i)) h = inr (inl (i.0, two_tokens z w a (b ++ y ∷ i.0) h i.1))
    by (inr (inr i)) h = inr (inr (i.0, two_tokens w z b (a ++ x ∷ i.0) (sym h) i.1))

pub one_more : (before others : List Token) (here : Token)
    → (before ++ here ∷ []) ++ others ≡ before ++ here ∷ others
one_more before others here = append_assoc before (here ∷ []) others

-- ---- kinds

-- the kinds of the limits
abbrev pub Limit : Kinds
Limit k = (k ≡ TooDeep) ⊎ (k ≡ TooMany)

-- the others
abbrev pub Strange : Kinds
Strange k = (k ≢ Syntax) × (k ≢ TooDeep) × (k ≢ TooMany)

module _ (limits : Limits) (fair : IsFair limits) where
  abbrev p : List Token → Out (List Statement)
  p = script_at limits

  -- ---- what the parser says of beginnings

  pub begins : (ts : List Token) → Ends (nothing limits fair) p ts → IsBeginning limits ts
  begins ts (inl e) =
      ([], [], subst (λ us. AreStatements limits us [] []) (sym (ap (λ x. x ++ []) e)) none_)
  begins ts (inr m) = (
    m.others ++ [],
    m.got,
    sound_script limits fair (ts ++ (m.others ++ [])) m.got
        (m.always [] tt),
  )

  swallowed : (ts : List Token) → Swallows (p ts) → IsBeginning limits ts
  swallowed ts h = by (p ts) refl h
    where
      nil : (us : List Token) → us ++ [] ≡ us
      nil [] = refl
      nil (u ∷ us) = ap (λ x. u ∷ x) (nil us)

      by : (o : Out (List Statement)) → p ts ≡ o → Swallows o → IsBeginning limits ts
      by (Ok x) e i = (
        [],
        x.0,
        subst (λ us. IsScript limits us x.0) (sym (nil ts))
            (sound_script limits fair ts x.0 (e ∙ ap (λ us. Ok (x.0, us)) i)),
      )
      by (Err (stop.Fault None k)) e i =
          begins ts ((((complete_statements limits fair).open_ ts).wants k e).0)
      by (Err (stop.Fault (Some n) k)) e i = absurd i
      by (Err stop.Memory) e i = absurd i

pub swallowed_in : (limits : Limits) (fair : IsFair limits) (ts : List Token)
    → Swallows (script_at limits ts) → IsBeginning limits ts
swallowed_in = swallowed
