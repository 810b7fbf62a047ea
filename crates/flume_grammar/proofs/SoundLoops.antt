-- What a loop of parts reads, and what a field is read as.
use Rattle.std.proofs.Common.{◌≡◌, ℕ, zero, suc, length, List, [], ◌∷◌, ◌++◌, Bool, true, false, Some, Ok, if◌then◌else◌, refl, ap, ◌∙◌, subst}
use Rattle.flume_tokens.specs.declared.token.Token.{Token}
use Rattle.flume_tokens.specs.declared.sign.Sign.TheVariants as sign
use Rattle.flume_grammar.specs.declared.parts.Parts.{Parts}
use Rattle.flume_grammar.specs.inner.Out.{Out, give, bind, one, many, all_of}
use Rattle.flume_grammar.specs.inner.Reading.{sign_at, word_at}
use Rattle.flume_grammar.specs.Terminals.{word_of, mark}
use Rattle.flume_grammar.specs.Parts.{with_named_part}
use Rattle.flume_grammar.proofs.Sound.{Bound, bound, gave, moved_by}
use Rattle.flume_grammar.proofs.SoundTokens.{past_sign, word_read}

-- ---- loops

-- a turn of a loop, and the rest
turned : {A : Type 0} (t : Bool) (o : Out A) (f : A → List Token → Out A) (a : A) (ts : List Token)
    (b : A) (us : List Token) (P : Type 0)
    → (if t then bind o f else Ok (a, ts)) ≡ Ok (b, us) → (t ≡ true → Bound o f b us → P)
    → (a ≡ b → ts ≡ us → P) → P
turned true o f a ts b us P q h g = h refl (bound o f b us q)
turned false o f a ts b us P q h g = let y = gave a b ts us q in g y.0 y.1

-- what each part keeps, the whole loop keeps
pub kept : {A : Type 0} (more : A → List Token → Bool) (part : A → List Token → Out A) (K : A
    → List Token → Type 0)
    → ((a : A) (ts : List Token) (b : A) (us : List Token) → more a ts ≡ true → K a ts
    → part a ts ≡ Ok (b, us) → K b us)
    → (k : ℕ) (a : A) (ts : List Token) (b : A) (us : List Token) → K a ts
    → many k more part a ts ≡ Ok (b, us) → K b us
kept more part K step zero a ts b us h q = let p = gave a b ts us q in
    subst (λ x. K x us) p.0 (subst (K a) p.1 h)
kept more part K step (suc k) a ts b us h q =
    turned (more a ts) (part a ts) (λ c vs. many k more part c vs) a ts b us (K b us) q
    (λ e x. kept more part K step k x.got x.rest b us (step a ts x.got x.rest e h x.part) x.after)
    (λ e p. subst (λ x. K x us) e (subst (K a) p h))

pub kept_all : {A : Type 0} (more : A → List Token → Bool) (part : A → List Token → Out A) (K : A
    → List Token → Type 0)
    → ((a : A) (ts : List Token) (b : A) (us : List Token) → more a ts ≡ true → K a ts
    → part a ts ≡ Ok (b, us) → K b us)
    → (a : A) (ts : List Token) (b : A) (us : List Token) → K a ts
    → all_of more part a ts ≡ Ok (b, us) → K b us
unfolding all_of
kept_all more part K step a ts b us h q = kept more part K step (length ts) a ts b us h q

-- a list is read of parts, one after another
pub kept_list : {A : Type 0} (more : List A → List Token → Bool) (part : List Token → Out A)
    (R : List Token → List Token → List A → Type 0)
    → ((ts : List Token) (xs : List A) (vs : List Token) (a : A) (us : List Token) → R ts vs xs
    → part vs ≡ Ok (a, us) → R ts us (xs ++ a ∷ []))
    → (ts : List Token) (xs : List A) (us : List Token) → R ts ts []
    → all_of more (λ ys vs. bind (part vs) (λ a ws. give (ys ++ a ∷ []) ws)) [] ts ≡ Ok (xs, us)
    → R ts us xs
kept_list {A} more part R step ts xs us none q =
    kept_all more (λ ys vs. bind (part vs) (λ a ws. give (ys ++ a ∷ []) ws)) (λ ys vs. R ts vs ys)
    (λ ys vs zs ws t h e. turn ys vs zs ws h e) [] ts xs us none q
  where
    turn : (ys : List A) (vs : List Token) (zs : List A) (ws : List Token) → R ts vs ys
        → bind (part vs) (λ a os. give (ys ++ a ∷ []) os) ≡ Ok (zs, ws) → R ts ws zs
    turn ys vs zs ws h e =
        let a = bound (part vs) _ zs ws e in
        let v = gave (ys ++ a.got ∷ []) zs a.rest ws a.after in
        moved_by R ts ts a.rest ws (ys ++ a.got ∷ []) zs refl v.1 v.0
        (step ts ys vs a.got a.rest h a.part)

-- ---- fields

-- a field was read, with its name, `:` and its part
pub record FieldRead {X : Type 0} (R : List Token → List Token → X → ℕ → Type 0) (p : Parts X)
    (ts us : List Token) (q : Parts X) : Type 0 where
  pub word : Token
  pub name_ : List ℕ
  pub line : ℕ
  pub part : X
  pub depth : ℕ
  pub rest : List Token
  pub start : ts ≡ word ∷ mark sign.Colon line ∷ rest
  pub is_word : word_of word.kind ≡ Some name_
  pub spelled : R rest us part depth
  pub is : with_named_part p name_ part depth ≡ q

abbrev pub field_of : {X : Type 0} → (List Token → Out (X × ℕ)) → Parts X → List Token
    → Out (Parts X)
field_of inner p ts =
    bind (one word_at ts) (λ w us. bind (one (sign_at sign.Colon) us)
    (λ _ vs. bind (inner vs) (λ x ws. give (with_named_part p w x.0 x.1) ws)))

pub field_read : {X : Type 0} (R : List Token → List Token → X → ℕ → Type 0) (inner : List Token
    → Out (X × ℕ))
    → ((ts : List Token) (x : X × ℕ) (us : List Token) → inner ts ≡ Ok (x, us) → R ts us x.0 x.1)
    → (p : Parts X) (ts : List Token) (q : Parts X) (us : List Token)
    → field_of inner p ts ≡ Ok (q, us) → FieldRead R p ts us q
field_read R inner h p ts q us e =
    let a = bound (one word_at ts) _ q us e in
    let w = word_read a.got ts a.rest a.part in
    let b = past_sign sign.Colon a.rest _ q us a.after in
    let c = bound (inner b.rest) _ q us b.after in
    let g = gave (with_named_part p a.got c.got.0 c.got.1) q c.rest us c.after in
    record {
      word = w.token;
      name_ = a.got;
      line = b.line;
      part = c.got.0;
      depth = c.got.1;
      rest = b.rest;
      start = w.is ∙ ap (λ z. w.token ∷ z) b.is;
      is_word = w.word;
      spelled = subst (λ z. R b.rest z c.got.0 c.got.1) g.1 (h b.rest c.got c.rest c.part);
      is = g.0;
    }
