-- What the parser says of a token within other limits, and why it stops there.
use Rattle.std.proofs.Common.{◌≡◌, ℕ, zero, suc, ◌+◌, ◌≤◌, length, List, [], ◌∷◌, ◌++◌, ◌⊎◌, inl, inr, Some, Ok, Err, refl, sym, ap, ◌∙◌, subst, arith}
use Rattle.std.proofs.lemmas.List.{append_assoc}
use Rattle.flume_tokens.specs.declared.token.Token.{Token}
use Rattle.flume_grammar.specs.declared.fault.ScriptKind.{ScriptKind}
use Rattle.flume_grammar.specs.declared.fault.ScriptKind.TheVariants.{Syntax, TooDeep, TooMany}
use Rattle.flume_grammar.specs.declared.fault.Stop.TheVariants as stop
use Rattle.flume_grammar.specs.declared.tree.Statement.{Statement}
use Rattle.flume_grammar.specs.inner.Out.{Out, many, all_of}
use Rattle.flume_grammar.specs.Limits.{Limits, IsBelow, deeper, longer}
use Rattle.flume_grammar.proofs.Fair.{IsFair}
use Rattle.flume_grammar.specs.inner.Statements.{is_more, next_statement, script_at}
use Rattle.flume_grammar.specs.Grammar.{IsScript}
use Rattle.flume_grammar.specs.Fault.{IsBeginning, IsWhy}
use Rattle.flume_grammar.proofs.CompleteScript.{complete_script}
use Rattle.flume_grammar.proofs.Sound.{gave, bound}
use Rattle.flume_grammar.proofs.Open.{up_to, Ends}
use Rattle.flume_grammar.proofs.OpenScript.{nothing, statement_turns}
use Rattle.flume_grammar.proofs.Pair.{Kinds, Spared, Swallows, Passes, RaiseAt}
use Rattle.flume_grammar.proofs.PairTokens.{Growth}
use Rattle.flume_grammar.proofs.PairScript.{raise_statements}
use Rattle.flume_grammar.proofs.Beginnings.{none_there, last_or_inside, one_more, Limit, Strange, swallowed_in}

module _ (limits : Limits) (fair : IsFair limits) where
  abbrev p_ : List Token → Out (List Statement)
  p_ = script_at limits

  -- the loop reads all
  all_read : (k : ℕ) (ss rs : List Statement) (ts us : List Token) → length ts ≤ k
      → many k is_more (next_statement limits) ss ts ≡ Ok (rs, us) → us ≡ []
  all_read zero ss rs [] us h e = sym (gave ss rs [] us e).1
  all_read zero ss rs (t ∷ ts) us h e = absurd (omega (arith, h))
  all_read (suc k) ss rs [] us h e = sym (gave ss rs [] us e).1
  all_read (suc k) ss rs (t ∷ ts) us h e =
      let x = bound (next_statement limits ss (t ∷ ts))
      (λ b vs. many k is_more (next_statement limits) b vs) rs us e in
      let i = (statement_turns limits fair).takes ss (t ∷ ts) x.got x.rest tt refl x.part in
      all_read k x.got rs x.rest us (omega (arith, h, i)) x.after

  pub left_none : (ts : List Token) (ss : List Statement) (us : List Token) → p_ ts ≡ Ok (ss, us)
      → us ≡ []
  unfolding all_of
  left_none ts ss us e = all_read (length ts) [] ss ts us (omega arith) e

  -- the parser stops at this token
  pub record StopsHere (before : List Token) (here : Token) (kind : ScriptKind) : Type 0 where
    pub always : (others : List Token)
        → p_ (before ++ here ∷ others) ≡ Err (stop.Fault (Some here.line) kind)
    pub ends : Ends (nothing limits fair) p_ before

  -- with higher limits it goes on there, if the kind is a limit's
  pub raised : (K : Kinds) (more : Limits) (fair_more : IsFair more) → Growth K limits more
      → (before : List Token) (here : Token) (kind : ScriptKind) → StopsHere before here kind
      → K kind → Swallows (script_at more (before ++ here ∷ []))
  raised K more fair_more growth before here kind s i =
      by (raise_statements K limits more fair fair_more growth (before ++ here ∷ []))
    where
      inside : (x : Passes K p_ (script_at more) (before ++ here ∷ [])) (r : List Token)
          → before ≡ up_to x.place r → Ends (nothing limits fair) p_ before → ⊥
      inside x r e (inl q) = none_there x.place.before x.place.here r (sym q ∙ e)
      inside x r e (inr m) =
          let a = m.always [] tt in
          let b = x.always (r ++ (m.others ++ [])) in
          let c = ap (λ z. z ++ (m.others ++ [])) e
          ∙ append_assoc x.place.before (x.place.here ∷ r) (m.others ++ []) in
          let d = sym a ∙ ap p_ c ∙ b in cc

      last : (x : Passes K p_ (script_at more) (before ++ here ∷ []))
          → (x.place.behind ≡ []) ⊎ ((r : List Token) × (before ≡ up_to x.place r))
          → Swallows (script_at more (before ++ here ∷ []))
      last x (inl e) =
          subst (λ z. Swallows (script_at more z))
          (sym (x.place.split ∙ ap (λ z. x.place.before ++ x.place.here ∷ z) e)) x.swallows
      last x (inr e) = absurd (inside x e.0 e.1 s.ends)

      by : RaiseAt K p_ (script_at more) (before ++ here ∷ [])
          → Swallows (script_at more (before ++ here ∷ []))
      by (inl x) = absurd (subst (Spared K) (s.always []) x.1 i)
      by (inr x) = let y = x.place in
          last x (last_or_inside before y.before here y.here y.behind y.split)

  -- and it stops there too, if the kind is none of these
  pub agreed : (K : Kinds) (more : Limits) (fair_more : IsFair more) → Growth K limits more
      → (before : List Token) (here : Token) (kind : ScriptKind) → StopsHere before here kind
      → (K kind → ⊥) → IsBeginning more (before ++ here ∷ []) → ⊥
  agreed K more fair_more growth before here kind s i (others, ss, h) =
      by (raise_statements K limits more fair fair_more growth (before ++ here ∷ others))
    where
      q : script_at more (before ++ here ∷ others) ≡ Ok (ss, [])
      q = complete_script more fair_more (before ++ here ∷ others) ss
          (subst (λ z. IsScript more z ss) (one_more before others here) h)

      kinds : (n m : ℕ) (j k : ScriptKind)
          → (let x : Out (List Statement) = Err (stop.Fault (Some n) j) in
          x) ≡ Err (stop.Fault (Some m) k) → j ≡ k
      kinds n m j k e = cc

      by : RaiseAt K p_ (script_at more) (before ++ here ∷ others) → ⊥
      by (inl x) = let a = sym (s.always others) ∙ x.0 ∙ q in cc
      by (inr x) =
          i (subst K (kinds _ _ _ _ (sym (x.always x.place.behind) ∙ ap p_ (sym x.place.split)
          ∙ s.always others)) x.is)

  -- ---- higher limits

  pub fair_deeper : IsFair (deeper limits)
  fair_deeper = record {
    depth = omega arith;
    fields = fair.fields;
    members = fair.members;
    inputs =
        fair.inputs;
    outputs = fair.outputs;
  }

  pub fair_longer : IsFair (longer limits)
  fair_longer = record {
    depth = fair.depth;
    fields = omega arith;
    members = omega arith;
    inputs =
        omega arith;
    outputs = omega arith;
  }

  pub fair_above : (more : Limits) → IsBelow limits more → IsFair more
  fair_above more b = let d = b.depth in let f = b.fields in let m = b.members in
      let i = b.inputs in let o = b.outputs in
      record {
        depth = omega (arith, d);
        fields = omega (arith, f);
        members =
            omega (arith, m);
        inputs = omega (arith, i);
        outputs = omega (arith, o);
      }

  pub to_deeper : Growth (λ k. k ≡ TooDeep) limits (deeper limits)
  to_deeper = record {
    syntax_ = λ e. cc;
    depth = inr (omega arith, refl);
    fields =
        inl (refl, λ e. cc);
    members = inl (refl, λ e. cc);
    inputs = inl (refl, λ e. cc);
    outputs = inl (refl, λ e. cc);
  }

  pub to_longer : Growth (λ k. k ≡ TooMany) limits (longer limits)
  to_longer = record {
    syntax_ = λ e. cc;
    depth = inl (refl, λ e. cc);
    fields =
        inr (omega arith, refl);
    members = inr (omega arith, refl);
    inputs = inr (omega arith, refl);
    outputs = inr (omega arith, refl);
  }

  no_limit : Limit Syntax → ⊥
  no_limit (inl e) = cc
  no_limit (inr e) = cc

  pub above : (more : Limits) → IsBelow limits more → Growth Limit limits more
  above more b = record {
    syntax_ = no_limit;
    depth = inr (b.depth, inl refl);
    fields =
        inr (b.fields, inr refl);
    members = inr (b.members, inr refl);
    inputs =
        inr (b.inputs, inr refl);
    outputs = inr (b.outputs, inr refl);
  }

  the_same : Growth Strange limits limits
  the_same = record {
    syntax_ = λ s. s.0 refl;
    depth = inl (refl, λ s. s.1 refl);
    fields = inl (refl, λ s. s.2 refl);
    members = inl (refl, λ s. s.2 refl);
    inputs = inl (refl, λ s. s.2 refl);
    outputs = inl (refl, λ s. s.2 refl);
  }

  -- no other kind
  pub not_strange : (before : List Token) (here : Token) (kind : ScriptKind)
      → StopsHere before here kind → Strange kind → ⊥
  not_strange before here kind s i =
      subst Swallows (s.always []) (raised Strange limits fair the_same before here kind s i)

  pub why : (before : List Token) (here : Token) (kind : ScriptKind) → StopsHere before here kind
      → IsWhy kind limits (before ++ here ∷ [])
  why before here Syntax s = λ more b h. agreed Limit more (fair_above more b)
      (above more b) before here Syntax s no_limit h
  why before here TooDeep s = swallowed_in (deeper limits) fair_deeper (before ++ here ∷ [])
      (raised (λ k. k ≡ TooDeep) (deeper limits) fair_deeper to_deeper before here TooDeep s refl)
  why before here TooMany s = swallowed_in (longer limits) fair_longer (before ++ here ∷ [])
      (raised (λ k. k ≡ TooMany) (longer limits) fair_longer to_longer before here TooMany s refl)
  why before here kind s = absurd (not_strange before here _ s ((λ e. cc), (λ e. cc), (λ e. cc)))

-- ---- the fault and the parser

pub sort : (k : ScriptKind) → (k ≡ Syntax) ⊎ (Limit k ⊎ Strange k)
sort Syntax = inl refl
sort TooDeep = inr (inl (inl refl))
sort TooMany = inr (inl (inr refl))
sort _ = inr (inr ((λ e. cc), (λ e. cc), (λ e. cc)))

pub higher : Limits → Limits
higher l = record {
  depth = l.depth + 1;
  fields = l.fields + 1;
  members = l.members + 1;
  inputs =
      l.inputs + 1;
  outputs = l.outputs + 1;
}

pub below_higher : (l : Limits) → IsBelow l (higher l)
unfolding higher
below_higher l = record {
  depth = omega arith;
  fields = omega arith;
  members = omega arith;
  inputs =
      omega arith;
  outputs = omega arith;
}
