-- Combiners and operations that are read are in the grammar.
use Rattle.std.proofs.Common.{◌≡◌, ℕ, ◌≤◌, length, length-append, List, [], ◌∷◌, ◌++◌, Bool, true, false, Option, Some, None, IfSome, Ok, if◌then◌else◌, refl, sym, ap, ◌∙◌, subst, arith}
use Rattle.flume_tokens.specs.declared.token.Token.{Token}
use Rattle.flume_tokens.specs.declared.keyword.Keyword.{Keyword}
use Rattle.flume_tokens.specs.declared.keyword.Keyword.TheVariants as keyword
use Rattle.flume_tokens.specs.declared.sign.Sign.TheVariants as sign
use Rattle.flume_grammar.specs.declared.start.OperationStart.{OperationStart}
use Rattle.flume_grammar.specs.declared.start.CombinerStart.{CombinerStart}
use Rattle.flume_grammar.specs.declared.start.CombinerStart.TheVariants as combining
use Rattle.flume_grammar.specs.declared.tree.Combiner.{Combiner}
use Rattle.flume_grammar.specs.declared.tree.Combiner.TheVariants as combiner
use Rattle.flume_grammar.specs.declared.tree.Operation.{Operation}
use Rattle.flume_grammar.specs.declared.tree.Operation.TheVariants as operation
use Rattle.flume_grammar.specs.inner.Out.{bind, give, next, one}
use Rattle.flume_grammar.specs.inner.Reading.{keyword_at, comma_at, name_at, is_at_keyword}
use Rattle.flume_grammar.specs.inner.Types.{at_comma}
use Rattle.flume_grammar.specs.inner.Statements as s
use Rattle.flume_grammar.specs.Grammar as g
use Rattle.flume_grammar.specs.Terminals.{keyword_token, mark, name_token, number_token}
use Rattle.flume_grammar.specs.Grammar.{IsCombiner, AreNames, IsOperation}
use Rattle.flume_grammar.proofs.Sound.{bound, gave, moved_by}
use Rattle.flume_grammar.proofs.SoundTokens.{past_sign, past_keyword, past_name, past_number, begun, comma_read}
use Rattle.flume_grammar.proofs.SoundLoops.{kept_all}
use Rattle.flume_grammar.specs.Limits.{Limits}
use Rattle.flume_grammar.proofs.Fair.{IsFair}

-- ---- names

s_next_name : (ts : List Token) (xs : List (List ℕ)) (vs : List Token) (ys : List (List ℕ))
    (us : List Token) → AreNames ts vs xs → s.next_name xs vs ≡ Ok (ys, us) → AreNames ts us ys
s_next_name ts xs vs ys us e q =
    let a = past_sign sign.Comma vs _ ys us q in
    let c = past_name a.rest _ ys us a.after in
    let v = gave (xs ++ c.got ∷ []) ys c.rest us c.after in
    moved_by AreNames ts ts c.rest us (xs ++ c.got ∷ []) ys refl v.1 v.0
    (g.more (subst (λ z. AreNames ts z xs) (a.is ∙ ap (λ z. mark sign.Comma a.line ∷ z) c.is) e))

pub s_names : (ts : List Token) (xs : List (List ℕ)) (us : List Token) → s.names ts ≡ Ok (xs, us)
    → AreNames ts us xs
s_names ts xs us q =
    let a = past_name ts _ xs us q in
    kept_all at_comma s.next_name (λ ys vs. AreNames ts vs ys)
    (λ p vs r ws t k e. s_next_name ts p vs r ws k e) (a.got ∷ []) a.rest xs us
    (subst (λ z. AreNames z a.rest (a.got ∷ [])) (sym a.is) g.one) a.after

module _ (limits : Limits) (fair : IsFair limits) where
  -- ---- operations

  -- a combiner, behind the keyword that it begins with
  abbrev Combines : Keyword → CombinerStart → Type 0
  Combines k z = (n : ℕ) (ts : List Token) (x : Combiner) (us : List Token)
      → s.after_combiner z ts ≡ Ok (x, us) → IsCombiner (keyword_token k n ∷ ts) us x

  whole : (k : Keyword) (c : Combiner)
      → ((n : ℕ) (ts : List Token) → IsCombiner (keyword_token k n ∷ ts) ts c)
      → Combines k (combining.Whole c)
  whole k c h n ts x us q = let v = gave c x ts us q in
      moved_by IsCombiner _ (keyword_token k n ∷ ts) ts us c x refl v.1 v.0 (h n ts)

  s_combines : (k : Keyword) → IfSome (s.keyword_combiner k) (Combines k)
  s_combines keyword.Sum = whole keyword.Sum combiner.Sum (λ n ts. g.sum)
  s_combines keyword.Count = whole keyword.Count combiner.Count (λ n ts. g.count)
  s_combines keyword.Min = whole keyword.Min combiner.Min (λ n ts. g.min)
  s_combines keyword.Max = whole keyword.Max combiner.Max (λ n ts. g.max_)
  s_combines keyword.All = whole keyword.All combiner.All (λ n ts. g.all)
  s_combines keyword.Any = whole keyword.Any combiner.Any (λ n ts. g.any)
  s_combines keyword.Top = λ n ts x us q.
      let d = past_number ts _ x us q in
      let v = gave (combiner.Top d.got) x d.rest us d.after in
      moved_by IsCombiner (keyword_token keyword.Top n ∷ number_token d.got d.line ∷ d.rest)
      (keyword_token keyword.Top n ∷ ts) d.rest us (combiner.Top d.got) x
      (ap (λ z. keyword_token keyword.Top n ∷ z) d.is) v.1 v.0 g.top
  s_combines keyword.Mean = whole keyword.Mean combiner.Mean (λ n ts. g.mean)
  s_combines keyword.Distinct = whole keyword.Distinct combiner.Distinct (λ n ts. g.distinct)
  s_combines _ = tt

  s_combiner : (ts : List Token) (x : Combiner) (us : List Token) → s.combiner_at ts ≡ Ok (x, us)
      → IsCombiner ts us x
  s_combiner ts x us q =
      let a = begun s.keyword_combiner Combines s_combines ts _ x us q in
      subst (λ z. IsCombiner z us x) (sym a.is) (a.holds a.line a.rest x us a.after)

  abbrev NamesOf : List Token → List (List ℕ) → List Token → Type 0
  NamesOf ts xs us = AreNames ts us xs × (length xs ≤ limits.inputs)

  s_input : (ts : List Token) (xs : List (List ℕ)) (vs : List Token) (ys : List (List ℕ))
      (us : List Token) → NamesOf ts xs vs → s.next_input limits xs vs ≡ Ok (ys, us)
      → NamesOf ts ys us
  s_input ts xs vs ys us (e, l) q =
      let a = bound (one (comma_at (length xs) limits.inputs) vs) _ ys us q in
      let m = comma_read (length xs) limits.inputs a.got vs a.rest a.part in
      let c = past_name a.rest _ ys us a.after in
      let v = gave (xs ++ c.got ∷ []) ys c.rest us c.after in
      let n = length-append xs (c.got ∷ []) in
      let w : AreNames ts (mark sign.Comma m.line ∷ name_token c.got c.line ∷ c.rest) xs =
      subst (λ z. AreNames ts z xs) (m.is ∙ ap (λ z. mark sign.Comma m.line ∷ z) c.is) e in
      subst (λ z. NamesOf ts z us) v.0 (subst (NamesOf ts (xs ++ c.got ∷ [])) v.1
      (g.more w, omega (arith, m.fewer, n)))

  s_inputs : (ts : List Token) (xs : List (List ℕ)) (us : List Token)
      → s.inputs limits ts ≡ Ok (xs, us) → NamesOf ts xs us
  s_inputs ts xs us q =
      let a = past_name ts _ xs us q in
      let i : NamesOf ts (a.got ∷ []) a.rest = (
        subst (λ z. AreNames z a.rest (a.got ∷ []))
            (sym a.is) g.one,
        fair.inputs,
      ) in
      kept_all at_comma (s.next_input limits) (NamesOf ts)
      (λ p vs r ws t k e. s_input ts p vs r ws k e) (a.got ∷ []) a.rest xs us i a.after

  -- a collection and a combiner
  abbrev Combined : Type 0
  Combined = List ℕ × Combiner

  record CombinedBy (ts us : List Token) (x : Combined) : Type 0 where
    n : ℕ
    m : ℕ
    vs : List Token
    start : ts ≡ name_token x.0 n ∷ keyword_token keyword.By m ∷ vs
    by_ : IsCombiner vs us x.1

  s_combined : (ts : List Token) (x : Combined) (us : List Token)
      → s.by_combiner ts ≡ Ok (x, us) → CombinedBy ts us x
  s_combined ts x us q =
      let a = past_name ts _ x us q in
      let c = past_keyword keyword.By a.rest _ x us a.after in
      let d = bound (s.combiner_at c.rest) _ x us c.after in
      let v = gave (a.got, d.got) x d.rest us d.after in
      record {
        n = a.line;
        m = c.line;
        vs = c.rest;
        start = a.is ∙ ap (λ z. name_token a.got a.line ∷ z) c.is
            ∙ ap (λ (z : Combined). name_token z.0 a.line ∷ keyword_token keyword.By c.line ∷
            c.rest) v.0;
        by_ = subst (λ (z : Combined). IsCombiner c.rest us z.1) v.0
            (subst (λ z. IsCombiner c.rest z d.got) v.1
            (s_combiner c.rest d.got d.rest d.part));
      }

  -- what stands behind the names of a collection and a function
  s_beside : (n m k : ℕ) (c f : List ℕ) (ts : List Token) (o : Option (List ℕ)) (us : List Token)
      → s.beside ts ≡ Ok (o, us)
      → IsOperation limits (keyword_token keyword.Do n ∷ name_token c m ∷ name_token f k ∷ ts) us
      (s.applied c f o)
  s_beside n m k c f ts o us q = by (is_at_keyword keyword.With (next ts)) q
    where
      by : (t : Bool)
          → (if t then bind (one (keyword_at keyword.With) ts) (λ _ vs. s.object vs) else give None
          ts) ≡ Ok (o, us)
          → IsOperation limits (keyword_token keyword.Do n ∷ name_token c m ∷ name_token f k ∷ ts)
          us (s.applied c f o)
      by true p =
          let a = past_keyword keyword.With ts _ o us p in
          let d = past_name a.rest _ o us a.after in
          let v = gave (Some d.got) o d.rest us d.after in
          moved_by (IsOperation limits)
          (keyword_token keyword.Do n ∷ name_token c m ∷ name_token f k ∷ keyword_token keyword.With
          a.line ∷ name_token d.got d.line ∷
          d.rest) (keyword_token keyword.Do n ∷ name_token c m ∷ name_token f k ∷ ts) d.rest us
          (operation.DoWith c f d.got) (s.applied c f o)
          (ap (λ z. keyword_token keyword.Do n ∷ name_token c m ∷ name_token f k ∷ z) (a.is
          ∙ ap (λ z. keyword_token keyword.With a.line ∷ z) d.is)) v.1 (ap (s.applied c
          f) v.0) g.do_with
      by false p =
          let v = gave None o ts us p in
          moved_by (IsOperation limits) (keyword_token keyword.Do n ∷ name_token c m ∷ name_token f
          k ∷ ts)
          (keyword_token keyword.Do n ∷ name_token c m ∷ name_token f k ∷ ts) ts us
          (operation.Do c f)
          (s.applied c f o) refl v.1 (ap (s.applied c f) v.0) g.do_

  -- an operation on one collection, and a combination of one
  s_alone : (k : Keyword) (make : List ℕ → Operation)
      → ((n m : ℕ) (c : List ℕ) (ts : List Token)
      → IsOperation limits (keyword_token k n ∷ name_token c m ∷ ts) ts (make c))
      → (n : ℕ) (ts : List Token) (x : Operation) (us : List Token)
      → bind (one name_at ts) (λ c vs. give (make c) vs) ≡ Ok (x, us)
      → IsOperation limits (keyword_token k n ∷ ts) us x
  s_alone k make h n ts x us q =
      let a = past_name ts _ x us q in
      let v = gave (make a.got) x a.rest us a.after in
      moved_by (IsOperation limits) (keyword_token k n ∷ name_token a.got a.line ∷ a.rest) _ a.rest
      us
      (make a.got) x (ap (λ z. keyword_token k n ∷ z) a.is) v.1 v.0 (h n a.line a.got a.rest)

  s_by : (k : Keyword) (make : List ℕ → Combiner → Operation)
      → ((n m j : ℕ) (c : List ℕ) (b : Combiner) (ts us : List Token) → IsCombiner ts us b
      → IsOperation limits (keyword_token k n ∷ name_token c m ∷ keyword_token keyword.By j ∷ ts) us
      (make c b))
      → (n : ℕ) (ts : List Token) (x : Operation) (us : List Token)
      → bind (s.by_combiner ts) (λ y vs. give (make y.0 y.1) vs) ≡ Ok (x, us)
      → IsOperation limits (keyword_token k n ∷ ts) us x
  s_by k make h n ts x us q =
      let a = bound (s.by_combiner ts) _ x us q in
      let c = s_combined ts a.got a.rest a.part in
      let v = gave (make a.got.0 a.got.1) x a.rest us a.after in
      moved_by (IsOperation limits)
      (keyword_token k n ∷ name_token a.got.0 c.n ∷ keyword_token keyword.By c.m ∷ c.vs) _ a.rest us
      (make a.got.0 a.got.1) x (ap (λ z. keyword_token k n ∷ z) c.start) v.1 v.0
      (h n c.n c.m a.got.0 a.got.1 c.vs a.rest c.by_)

  -- an operation, behind the keyword that it begins with
  abbrev pub Operates : Keyword → OperationStart → Type 0
  Operates k z = (n : ℕ) (ts : List Token) (x : Operation) (us : List Token)
      → s.after_begin limits z ts ≡ Ok (x, us) → IsOperation limits (keyword_token k n ∷ ts) us x

  pub s_operates : (k : Keyword) → IfSome (s.keyword_operation k) (Operates k)
  s_operates keyword.Do = λ n ts x us q.
      let a = past_name ts _ x us q in
      let c = past_name a.rest _ x us a.after in
      let d = bound (s.beside c.rest) _ x us c.after in
      let v = gave (s.applied a.got c.got d.got) x d.rest us d.after in
      moved_by (IsOperation limits)
      (keyword_token keyword.Do n ∷ name_token a.got a.line ∷ name_token c.got c.line ∷ c.rest) _
      d.rest us
      (s.applied a.got c.got d.got) x (ap (λ z. keyword_token keyword.Do n ∷ z) (a.is
      ∙ ap (λ z. name_token a.got a.line ∷ z) c.is)) v.1 v.0
      (s_beside n a.line c.line a.got c.got c.rest d.got d.rest d.part)
  s_operates keyword.Group = s_alone keyword.Group operation.Group (λ n m c ts. g.group)
  s_operates keyword.Combine =
      s_by keyword.Combine operation.Combine (λ n m j c b ts us h. g.combine h)
  s_operates keyword.Flatten = λ n ts x us q.
      let a = bound (s.inputs limits ts) _ x us q in
      let f = s_inputs ts a.got a.rest a.part in
      let v = gave (operation.Flatten a.got) x a.rest us a.after in
      moved_by (IsOperation limits) (keyword_token keyword.Flatten n ∷ ts) _ a.rest us
      (operation.Flatten a.got) x refl v.1 v.0 (g.flatten f.0 f.1)
  s_operates keyword.Count = s_alone keyword.Count operation.Count (λ n m c ts. g.count)
  s_operates keyword.Join = λ n ts x us q.
      let a = past_name ts _ x us q in
      let c = past_sign sign.Comma a.rest _ x us a.after in
      let d = past_name c.rest _ x us c.after in
      let v = gave (operation.Join a.got d.got) x d.rest us d.after in
      moved_by (IsOperation limits) (keyword_token keyword.Join n ∷ name_token a.got a.line ∷ mark
      sign.Comma c.line
      ∷ name_token d.got d.line ∷ d.rest) _ d.rest us (operation.Join a.got d.got) x
      (ap (λ z. keyword_token keyword.Join n ∷ z) (a.is
      ∙ ap (λ z. name_token a.got a.line ∷ z) (c.is ∙ ap (λ z. mark sign.Comma c.line ∷ z) d.is)))
      v.1
      v.0 g.join
  s_operates keyword.Top = λ n ts x us q.
      let a = past_number ts _ x us q in
      let c = past_name a.rest _ x us a.after in
      let v = gave (operation.Top a.got c.got) x c.rest us c.after in
      moved_by (IsOperation limits) (keyword_token keyword.Top n ∷ number_token a.got a.line ∷
      name_token c.got c.line ∷
      c.rest) _ c.rest us (operation.Top a.got c.got) x (ap (λ z. keyword_token keyword.Top n ∷ z)
      (a.is
      ∙ ap (λ z. number_token a.got a.line ∷ z) c.is)) v.1 v.0 g.top
  s_operates keyword.Combineall =
      s_by keyword.Combineall operation.CombineAll (λ n m j c b ts us h. g.combine_all h)
  s_operates keyword.Operate = λ n ts x us q.
      let a = bound (s.inputs limits ts) _ x us q in
      let f = s_inputs ts a.got a.rest a.part in
      let c = past_keyword keyword.By a.rest _ x us a.after in
      let d = past_name c.rest _ x us c.after in
      let v = gave (operation.Operate a.got d.got) x d.rest us d.after in
      let names : AreNames ts (keyword_token keyword.By c.line ∷ name_token d.got d.line ∷ d.rest)
      a.got
      = subst (λ z. AreNames ts z a.got) (c.is ∙ ap (λ z. keyword_token keyword.By c.line ∷ z) d.is)
      f.0 in
      moved_by (IsOperation limits) (keyword_token keyword.Operate n ∷ ts) _ d.rest us
      (operation.Operate a.got d.got) x refl v.1 v.0 (g.operate names f.1)
  s_operates _ = tt

  pub s_operation : (ts : List Token) (x : Operation) (us : List Token)
      → s.operation_at limits ts ≡ Ok (x, us) → IsOperation limits ts us x
  s_operation ts x us q =
      let a = begun s.keyword_operation Operates s_operates ts _ x us q in
      subst (λ z. IsOperation limits z us x) (sym a.is) (a.holds a.line a.rest x us a.after)
