-- What a parser read, by its parts.
use Rattle.std.proofs.Common.{◌≡◌, ℕ, ◌≤◌, nat_le, Bool, true, false, None, if◌then◌else◌, List, [], ◌∷◌, Result, Ok, Err, refl, sym, ap, ◌∙◌, subst}
use Rattle.std.proofs.lemmas.Bool.{leb-true}
use Rattle.flume_tokens.specs.declared.token.Token.{Token}
use Rattle.flume_grammar.specs.declared.fault.ScriptKind.TheVariants.{TooDeep}
use Rattle.flume_grammar.specs.declared.fault.Stop.{Stop}
use Rattle.flume_grammar.specs.declared.fault.Stop.TheVariants.{Fault}
use Rattle.flume_grammar.specs.inner.Out.{Out, give, bind, no_deeper, one, passed}

-- ---- what a parser read, by its parts

pub record Bound {A B : Type 0} (o : Out A) (f : A → List Token
    → Out B) (b : B) (vs : List Token) : Type 0 where
  pub got : A
  pub rest : List Token
  pub part : o ≡ Ok (got, rest)
  pub after : f got rest ≡ Ok (b, vs)

pub bound : {A B : Type 0} (o : Out A) (f : A → List Token → Out B) (b : B) (vs : List Token)
    → bind o f ≡ Ok (b, vs) → Bound o f b vs
bound (Ok x) f b vs q = record { got = x.0; rest = x.1; part = refl; after = q }
bound (Err e) f b vs q = cc

abbrev ok : {A : Type 0} → A × List Token → Out A
ok x = Ok x

ok_inj : {A : Type 0} (x y : A × List Token) → ok x ≡ ok y → x ≡ y
ok_inj x y q = cc

-- what is given
pub gave : {A : Type 0} (a b : A) (ts us : List Token) → give a ts ≡ Ok (b, us) → (a ≡ b)
    × (ts ≡ us)
gave a b ts us q = let p = ok_inj (a, ts) (b, us) q in (ap (λ x. x.0) p, ap (λ x. x.1) p)

-- what holds of a value and its tokens holds of the same ones
pub moved_by : {A : Type 0} (R : List Token → List Token → A → Type 0) (ts ts' us us' : List Token)
    (x y : A) → ts' ≡ ts → us ≡ us' → x ≡ y → R ts us x → R ts' us' y
moved_by R ts ts' us us' x y a c d h =
    subst (R ts' us') d (subst (λ z. R ts' z x) c (subst (λ z. R z us x) (sym a) h))

-- what was read is no deeper
pub record Shallow {A : Type 0} (R : List Token → List Token → A → ℕ → Type 0) (limit : ℕ)
    (ts us : List Token) (a : A) : Type 0 where
  pub depth : ℕ
  pub spelled : R ts us a depth
  pub small : depth ≤ limit

pub shallow : {A : Type 0} (R : List Token → List Token → A → ℕ → Type 0) (limit : ℕ)
    (p : List Token → Out (A × ℕ))
    → ((ts : List Token) (x : A × ℕ) (us : List Token) → p ts ≡ Ok (x, us) → R ts us x.0 x.1)
    → (ts : List Token) (a : A) (us : List Token) → bind (p ts) (no_deeper limit) ≡ Ok (a, us)
    → Shallow R limit ts us a
shallow {A} R limit p h ts a us q = by (bound (p ts) (no_deeper limit) a us q)
  where
    kept : (b : Bool) (x : A × ℕ) (vs : List Token)
        → (if b then give x.0 vs else Err (Fault None TooDeep)) ≡ Ok (a, us)
        → (b ≡ true) × (x.0 ≡ a) × (vs ≡ us)
    kept true x vs e = let v = gave x.0 a vs us e in (refl, v.0, v.1)
    kept false x vs e = cc

    by : Bound (p ts) (no_deeper limit) a us → Shallow R limit ts us a
    by x = let k = kept (nat_le x.got.1 limit) x.got x.rest x.after in
        record {
          depth = x.got.1;
          spelled = subst (λ z. R ts us z x.got.1) k.1
              (subst (λ z. R ts z x.got.0 x.got.1) k.2 (h ts x.got x.rest x.part));
          small = leb-true x.got.1 limit k.0;
        }

pub record Passed {A : Type 0} (f : Token → Result A Stop) (a : A) (ts us : List Token) : Type 0
  where
    pub token : Token
    pub is : ts ≡ token ∷ us
    pub gives : f token ≡ Ok a

-- one token was read
pub one_token : {A : Type 0} (f : Token → Result A Stop) (ts : List Token) (a : A) (us : List Token)
    → one f ts ≡ Ok (a, us) → Passed f a ts us
one_token f [] a us q = cc
one_token {A} f (t ∷ ts) a us q = by (f t) refl q
  where
    by : (r : Result A Stop) → f t ≡ r → passed r ts ≡ Ok (a, us) → Passed f a (t ∷ ts) us
    by (Ok b) e p = let x = ok_inj (b, ts) (a, us) p in
        record {
          token = t;
          is = ap (λ vs. t ∷ vs) (ap (λ y. y.1) x);
          gives = e
              ∙ ap Ok (ap (λ y. y.0) x);
        }
    by (Err s) e p = cc
