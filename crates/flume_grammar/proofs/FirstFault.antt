-- A fault of the parser is the first one, and the first one is the parser's.
use Rattle.std.proofs.Common.{◌≡◌, ℕ, Bool, true, false, rules, List, [], ◌∷◌, ◌++◌, ◌⊎◌, inl, inr, Some, None, Result, Ok, Err, refl, sym, ap, ap₂, ◌∙◌, subst}
use Rattle.std.proofs.lemmas.List.{append_assoc}
use denote.Enum.Bare.{sameb, same_true, same_false}
use Rattle.flume_tokens.specs.declared.token.Token.{Token}
use Rattle.flume_tokens.specs.declared.token.TokenList.{TokenList}
use Rattle.flume_grammar.specs.contracts.fault.ScriptKind as kind_type
use Rattle.flume_grammar.specs.declared.fault.ScriptKind.{ScriptKind}
use Rattle.flume_grammar.specs.declared.fault.ScriptKind.TheVariants.{Syntax, TooDeep, TooMany}
use Rattle.flume_grammar.specs.declared.fault.ScriptFault.{ScriptFault}
use Rattle.flume_grammar.specs.declared.fault.ScriptFault.TheVariants.{Refused}
use Rattle.flume_grammar.specs.declared.fault.Stop.TheVariants as stop
use Rattle.flume_grammar.specs.declared.tree.Statement.{Statement}
use Rattle.flume_grammar.specs.declared.tree.Ast.{Ast}
use Rattle.flume_grammar.specs.inner.Out.{Out}
use Rattle.flume_grammar.specs.Limits.{Limits, IsBelow, deeper, longer}
use Rattle.flume_grammar.proofs.Fair.{IsFair}
use Rattle.flume_grammar.specs.inner.Statements.{script_at}
use Rattle.flume_grammar.specs.Grammar.{IsScript}
use Rattle.flume_grammar.specs.inner.Answer.{tree_of}
use Rattle.flume_grammar.specs.Fault.{IsBeginning, IsWholeScript, IsWhy, IsFault, token, end}
use Rattle.flume_grammar.proofs.CompleteScript.{complete_script}
use Rattle.flume_grammar.proofs.SoundScript.{sound_script}
use Rattle.flume_grammar.proofs.Open.{up_to, Stops}
use Rattle.flume_grammar.proofs.OpenScript.{nothing, complete_statements}
use Rattle.flume_grammar.proofs.Pair.{RaiseAt}
use Rattle.flume_grammar.proofs.PairTokens.{Growth}
use Rattle.flume_grammar.proofs.PairScript.{raise_statements}
use Rattle.flume_grammar.proofs.Beginnings.{places, one_more, Limit, Strange, begins, swallowed_in}
use Rattle.flume_grammar.proofs.Whys.{left_none, StopsHere, raised, agreed, fair_deeper, fair_longer, fair_above, to_deeper, to_longer, above, not_strange, why, sort, higher, below_higher}

module _ (limits : Limits) (fair : IsFair limits) where
  abbrev r : List Token → Out (List Statement)
  r = script_at limits

  apart : (ts us : List Token) (n : ℕ) (k : ScriptKind) → r ts ≡ Err (stop.Fault (Some n) k)
      → ts ≡ us → IsWholeScript limits us → ⊥
  apart ts us n k e i (ss, h) = let a = sym e ∙ ap r i ∙ complete_script limits fair us ss h in cc

  -- the kind is that of the limits that are higher, where these go on
  limit_same : (before : List Token) (here : Token) (k kind : ScriptKind) (more : Limits)
      (fair_more : IsFair more) → Growth (λ j. j ≡ kind) limits more
      → StopsHere limits fair before here k → IsBeginning more (before ++ here ∷ []) → k ≡ kind
  limit_same before here k kind more fair_more growth s y =
      by (sameb kind_type.the_type k kind) refl
    where
      by : (b : Bool) → sameb kind_type.the_type k kind ≡ b → k ≡ kind
      by true e = same_true kind_type.the_type (search rules) k kind e
      by false e = absurd (agreed limits fair (λ j. j ≡ kind) more fair_more growth before here k s
          (same_false kind_type.the_type k kind e) y)

  kind_same : (before : List Token) (here : Token) (k kind : ScriptKind)
      → StopsHere limits fair before here k → IsWhy kind limits (before ++ here ∷ []) → k ≡ kind
  kind_same before here k Syntax s y = by (sort k)
    where
      by : (k ≡ Syntax) ⊎ (Limit k ⊎ Strange k) → k ≡ Syntax
      by (inl e) = e
      by (inr (inl i)) =
          let b = below_higher limits in
          let f = fair_above limits fair (higher limits) b in
          absurd
          (y (higher limits) b (swallowed_in (higher limits) f (before ++ here ∷ [])
          (raised limits fair Limit (higher limits) f (above limits fair (higher limits) b)
          before here k s i)))
      by (inr (inr i)) = absurd (not_strange limits fair before here k s i)
  kind_same before here k TooDeep s y = limit_same before here k TooDeep (deeper limits)
      (fair_deeper limits fair) (to_deeper limits fair) s y
  kind_same before here k TooMany s y = limit_same before here k TooMany (longer limits)
      (fair_longer limits fair) (to_longer limits fair) s y
  kind_same before here k kind s y = absurd y

  here_of : (ts : List Token) (n : ℕ) (k : ScriptKind) (s : Stops (nothing limits fair) r ts n k)
      → StopsHere limits fair s.place.before s.place.here k
  here_of ts n k s = record {
    always = λ others. s.always others
        ∙ ap (λ z. Err (stop.Fault (Some z) k)) (sym s.line);
    ends = s.ends;
  }

  stopped : (ts : List Token) (n : ℕ) (k : ScriptKind) → r ts ≡ Err (stop.Fault (Some n) k)
      → Stops (nothing limits fair) r ts n k
  stopped ts n k e = ((complete_statements limits fair).open_ ts).stops n k e

  -- no script goes on from where the parser stops
  none_on : (ts : List Token) (n : ℕ) (k : ScriptKind) (s : Stops (nothing limits fair) r ts n k)
      (us others : List Token) → us ≡ up_to s.place others → IsBeginning limits us → ⊥
  none_on ts n k s us others e (more, ss, h) =
      apart (up_to s.place (others ++ more)) (us ++ more) n k (s.always (others ++ more))
      (sym (ap (λ z. z ++ more) e ∙ append_assoc s.place.before (s.place.here ∷ others) more))
      (ss, h)

  pub fault_of : (list : TokenList) (line : ℕ) (kind : ScriptKind)
      → tree_of list.last_line (r list.items) ≡ Err (Refused line kind)
      → IsFault limits list line kind
  fault_of list line kind q = by (r list.items) refl q
    where
      later : (k : ScriptKind) → r list.items ≡ Err (stop.Fault None k) → (more : Limits)
          → IsBelow limits more → IsWholeScript more list.items → ⊥
      later k e more b (ss, h) =
          on (raise_statements Limit limits more fair (fair_above limits fair more b)
          (above limits fair more b) list.items)
        where
          on : RaiseAt Limit r (script_at more) list.items → ⊥
          on (inl x) = let a = sym e ∙ x.0
              ∙ complete_script more (fair_above limits fair more b) list.items ss h in cc
          on (inr x) = let a = sym e ∙ ap r x.place.split ∙ x.always x.place.behind in cc

      by : (o : Out (List Statement)) → r list.items ≡ o
          → tree_of list.last_line o ≡ Err (Refused line kind) → IsFault limits list line kind
      by (Ok (ss, [])) e x = cc
      by (Ok (ss, t ∷ ts)) e x = let z = left_none limits fair list.items ss (t ∷ ts) e in cc
      by (Err (stop.Fault (Some n) k)) e x =
          let s = stopped list.items n k e in
          let w : n ≡ line = cc in
          let v : k ≡ kind = cc in
          let y = s.place in
          token y.before y.here y.behind y.split (s.line ∙ w) (begins limits fair y.before s.ends)
          (λ b. none_on list.items n k s (up_to s.place []) [] refl b)
          (subst (λ z. IsWhy z limits (up_to s.place [])) v
          (why limits fair s.place.before s.place.here k (here_of list.items n k s)))
      by (Err (stop.Fault None k)) e x =
          let w : list.last_line ≡ line = cc in
          let v : k ≡ kind = cc in
          let z = ((complete_statements limits fair).open_ list.items).wants k e in
          end w (sym v ∙ z.1) (begins limits fair list.items z.0) (λ y. let a = sym e
          ∙ complete_script limits fair list.items y.0 y.1 in cc) (later k e)
      by (Err stop.Memory) e x = cc

  refused_as : (n line : ℕ) (k kind : ScriptKind) → n ≡ line → k ≡ kind
      → (let x : Result Ast ScriptFault = Err (Refused n k) in x) ≡ Err (Refused line kind)
  refused_as n line k kind e i = ap₂ (λ z y. Err (Refused z y)) e i

  -- a longer beginning
  cut : (us others : List Token) (before : List Token) (here : Token) (behind : List Token)
      → us ≡ before ++ here ∷ behind → IsBeginning limits us
      → IsBeginning limits (before ++ here ∷ [])
  cut us others before here behind e (more, ss, h) = (
    behind ++ more,
    ss,
    subst (λ z. IsScript limits z ss) (ap (λ z. z ++ more) e
        ∙ append_assoc before (here ∷ behind) more ∙ sym (one_more before (behind ++ more) here))
        h,
  )

  pub parser_of : (list : TokenList) (line : ℕ) (kind : ScriptKind) → IsFault limits list line kind
      → tree_of list.last_line (r list.items) ≡ Err (Refused line kind)
  parser_of list line kind f = by (r list.items) refl
    where
      whole : (ss : List Statement) (us : List Token) → r list.items ≡ Ok (ss, us)
          → IsFault limits list line kind → ⊥
      whole ss us e (token b h bh split l beg none y) =
          none
          (cut list.items [] b h bh split (
            [],
            ss,
            subst (λ z. IsScript limits z ss)
                (sym (nil list.items)) (sound_script limits fair list.items ss (e
                ∙ ap (λ z. Ok (ss, z)) (left_none limits fair list.items ss us e))),
          ))
        where
          nil : (vs : List Token) → vs ++ [] ≡ vs
          nil [] = refl
          nil (v ∷ vs) = ap (λ z. v ∷ z) (nil vs)
      whole ss us e (end l k beg none y) =
          none (
            ss,
            sound_script limits fair list.items ss (e
                ∙ ap (λ z. Ok (ss, z)) (left_none limits fair list.items ss us e)),
          )

      at_token : (n : ℕ) (k : ScriptKind) (s : Stops (nothing limits fair) r list.items n k)
          → IsFault limits list line kind → (n ≡ line) × (k ≡ kind)
      at_token n k s (token b h bh split l beg none y) =
          on (places s.place.before b s.place.here h s.place.behind bh (sym s.place.split ∙ split))
        where
          on : ((s.place.before ≡ b) × (s.place.here ≡ h))
              ⊎ (((x : List Token) × (s.place.before ≡ b ++ h ∷ x))
              ⊎ ((x : List Token) × (b ≡ up_to s.place x))) → (n ≡ line) × (k ≡ kind)
          on (inl (i, j)) = (
            sym s.line ∙ ap (λ (t : Token). t.line) j
                ∙ l,
            kind_same s.place.before s.place.here k kind (here_of list.items n k s)
                (subst (λ z. IsWhy kind limits z) (sym (ap₂ (λ z t. z ++ t ∷ []) i j)) y),
          )
          on (inr (inl (x, e))) =
              absurd
              (none (cut s.place.before [] b h x e (begins limits fair s.place.before s.ends)))
          on (inr (inr (x, e))) = absurd (none_on list.items n k s b x e beg)
      at_token n k s (end l j beg none y) =
          absurd (none_on list.items n k s list.items s.place.behind s.place.split beg)

      at_end : (k : ScriptKind) → IsBeginning limits list.items → k ≡ Syntax
          → IsFault limits list line kind → (list.last_line ≡ line) × (k ≡ kind)
      at_end k z e (token b h bh split l beg none y) =
          absurd (none (cut list.items [] b h bh split z))
      at_end k z e (end l j beg none y) = (l, e ∙ sym j)

      by : (o : Out (List Statement)) → r list.items ≡ o
          → tree_of list.last_line (r list.items) ≡ Err (Refused line kind)
      by (Ok (ss, us)) e = absurd (whole ss us e f)
      by (Err (stop.Fault (Some n) k)) e = let x = at_token n k (stopped list.items n k e) f in
          ap (tree_of list.last_line) e ∙ refused_as n line k kind x.0 x.1
      by (Err (stop.Fault None k)) e =
          let z = ((complete_statements limits fair).open_ list.items).wants k e in
          let x = at_end k (begins limits fair list.items z.0) z.1 f in
          ap (tree_of list.last_line) e ∙ refused_as list.last_line line k kind x.0 x.1
      by (Err stop.Memory) e = absurd (((complete_statements limits fair).open_ list.items).sober e)

  -- ---- one script, or one fault

  told : (n m : ℕ) (j k : ScriptKind) → (let x : Result Ast ScriptFault = Err (Refused n j) in
      x) ≡ Err (Refused m k) → (n ≡ m) × (j ≡ k)
  told n m j k e = (let i : n ≡ m = cc in i, let i : j ≡ k = cc in i)

  pub one_fault : (list : TokenList) (n m : ℕ) (j k : ScriptKind) → IsFault limits list n j
      → IsFault limits list m k → (n ≡ m) × (j ≡ k)
  one_fault list n m j k f g = told n m j k (sym (parser_of list n j f) ∙ parser_of list m k g)

  pub no_fault : (list : TokenList) (n : ℕ) (k : ScriptKind) → IsWholeScript limits list.items
      → IsFault limits list n k → ⊥
  no_fault list n k (ss, h) f = let a = sym (parser_of list n k f)
      ∙ ap (tree_of list.last_line) (complete_script limits fair list.items ss h) in cc

  pub either_ : (list : TokenList) → IsWholeScript limits list.items ⊎ ((n : ℕ) × (k : ScriptKind)
      × IsFault limits list n k)
  either_ list = by (r list.items) refl
    where
      by : (o : Out (List Statement)) → r list.items ≡ o
          → IsWholeScript limits list.items ⊎ ((n : ℕ) × (k : ScriptKind) × IsFault limits list n k)
      by (Ok (ss, us)) e =
          inl (
            ss,
            sound_script limits fair list.items ss (e
                ∙ ap (λ z. Ok (ss, z)) (left_none limits fair list.items ss us e)),
          )
      by (Err (stop.Fault (Some n) k)) e =
          inr (n, k, fault_of list n k (ap (tree_of list.last_line) e))
      by (Err (stop.Fault None k)) e =
          inr (list.last_line, k, fault_of list list.last_line k (ap (tree_of list.last_line) e))
      by (Err stop.Memory) e = absurd (((complete_statements limits fair).open_ list.items).sober e)
