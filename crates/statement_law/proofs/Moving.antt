-- Tokens that are taken before others: the same without their lines, before any others, and how
-- they stand to statements and braces.
use Rattle.std.proofs.Common.{◌≡◌, ℕ, suc, ◌-◌, ◌==◌, ◌&&◌, Bool, true, false, List, [], ◌∷◌, ◌++◌, map, Some, refl, ap, ◌∙◌, subst, arith}
use Rattle.std.proofs.lemmas.Bool.{eqb-true}
use Rattle.flume_tokens.specs.declared.sign.Sign.TheVariants as sign
use Rattle.flume_tokens.specs.declared.token.Token.{Token}
use Rattle.flume_tokens.specs.declared.token.TokenKind.{TokenKind}
use Rattle.flume_tokens.specs.declared.token.TokenKind.TheVariants as kind
use Rattle.flume_grammar.specs.Operators.{operator_of}
use Rattle.flume_grammar.specs.Terminals.{word_of, mark}
use Rattle.flume_grammar.specs.declared.tree.Binary.{Binary}
use Rattle.statement_texts.specs.Texts.{StatementParts, token_before, braces_behind, is_beginning, is_beginning_word, kinds_of, parts_from}

-- a token without its line
abbrev pub unlined : Token → Token
unlined t = record { kind = t.kind; line = 0 }

-- The first tokens, up to those that are left, and the same without lines, up to others. No
-- statement begins among them, where d braces are open before them, and e behind.
pub data Moved : ℕ → List Token → ℕ → List Token → List Token → List Token → Type 0 where
  stop : {d : ℕ} {us vs : List Token} → Moved d us d us vs vs
  next : {d e : ℕ} {t : Token} {ts us ws vs : List Token} → is_beginning d t.kind ≡ false
      → Moved (braces_behind d t.kind) ts e us ws vs
      → Moved d (t ∷ ts) e us (unlined t ∷ ws) vs

pub join : {d e f : ℕ} {ts us vs ws xs ys : List Token} → Moved d ts e us ws xs
    → Moved e us f vs xs ys → Moved d ts f vs ws ys
join stop n = n
join (next q m) n = next q (join m n)

-- ---- one token

never : (d : ℕ) (k : TokenKind) → is_beginning_word k ≡ false → is_beginning d k ≡ false
never d k e = both (d == 0) (is_beginning_word k) e
  where
    both : (a b : Bool) → b ≡ false → a && b ≡ false
    both true b e = e
    both false b e = refl

inside : (d : ℕ) (k : TokenKind) → is_beginning (suc d) k ≡ false
inside d k = deep (suc d == 0) refl
  where
    deep : (b : Bool) → (suc d == 0) ≡ b → b && is_beginning_word k ≡ false
    deep true e = let same = eqb-true (suc d) 0 e in absurd (omega (arith, same))
    deep false e = refl

-- one that is none of the words with which statements begin
pub plain : {d e : ℕ} {t : Token} {ts us ws vs : List Token} → is_beginning_word t.kind ≡ false
    → Moved (braces_behind d t.kind) ts e us ws vs → Moved d (t ∷ ts) e us (unlined t ∷ ws) vs
plain {d} {e} {t} q m = next (never d t.kind q) m

-- any, under a brace
pub under : {d e : ℕ} {t : Token} {ts us ws vs : List Token}
    → Moved (braces_behind (suc d) t.kind) ts e us ws vs
    → Moved (suc d) (t ∷ ts) e us (unlined t ∷ ws) vs
under {d} {e} {t} m = next (inside d t.kind) m

pub at_close : {d e n : ℕ} {us vs ws xs : List Token} → Moved d us e vs ws xs
    → Moved (suc d) (mark sign.CloseBrace n ∷ us) e vs (mark sign.CloseBrace 0 ∷ ws) xs
at_close {d} {e} {n} {us} {vs} {ws} {xs} m =
    let less : d ≡ suc d - 1 = omega arith in
    plain refl (subst (λ g. Moved g us e vs ws xs) less m)

-- the name of a field, under a brace
word_level : (d : ℕ) (k : TokenKind) (x : List ℕ) → word_of k ≡ Some x → d ≡ braces_behind d k
word_level d (kind.Sign s) x e = absurd (cc)
word_level d _ x e = refl

pub at_word : {d e : ℕ} {w : Token} {x : List ℕ} {us vs ws xs : List Token}
    → word_of w.kind ≡ Some x → Moved (suc d) us e vs ws xs
    → Moved (suc d) (w ∷ us) e vs (unlined w ∷ ws) xs
at_word {d} {e} {w} {x} {us} {vs} {ws} {xs} q m =
    under (subst (λ g. Moved g us e vs ws xs) (word_level (suc d) w.kind x q) m)

-- an operator, under a brace
operator_level : (d : ℕ) (k : TokenKind) (o : Binary) → operator_of k ≡ Some o
    → d ≡ braces_behind d k
operator_level d (kind.Sign sign.OpenBrace) o e = absurd (cc)
operator_level d (kind.Sign sign.CloseBrace) o e = absurd (cc)
operator_level d _ o e = refl

pub at_operator : {d e : ℕ} {t : Token} {o : Binary} {us vs ws xs : List Token}
    → operator_of t.kind ≡ Some o → Moved (suc d) us e vs ws xs
    → Moved (suc d) (t ∷ us) e vs (unlined t ∷ ws) xs
at_operator {d} {e} {t} {o} {us} {vs} {ws} {xs} q m =
    under (subst (λ g. Moved g us e vs ws xs) (operator_level (suc d) t.kind o q) m)

-- ---- what is taken, by itself

abbrev pub ahead : List TokenKind → StatementParts → StatementParts
ahead own parts = (own ++ parts.0, parts.1)

pub record Taken (d : ℕ) (ts : List Token) (e : ℕ) (us ws vs : List Token) : Type 0 where
  pub own : List Token
  pub is : ts ≡ own ++ us
  pub again : ws ≡ map unlined own ++ vs
  pub parts : parts_from d (kinds_of ts) ≡ ahead (kinds_of own) (parts_from e (kinds_of us))

pub taken : {d e : ℕ} {ts us ws vs : List Token} → Moved d ts e us ws vs
    → Taken d ts e us ws vs
unfolding parts_from
taken stop = record { own = []; is = refl; again = refl; parts = refl }
taken (next {d} {e} {t} {ts} q m) =
    let rest = taken m in
    record {
      own = t ∷ rest.own;
      is = ap (λ xs. t ∷ xs) rest.is;
      again = ap (λ xs. unlined t ∷ xs) rest.again;
      parts = ap (λ b. token_before t.kind b (parts_from (braces_behind d t.kind) (kinds_of ts))) q
          ∙ ap (token_before t.kind false) rest.parts;
    }

-- ---- what is read

-- what is read of the first tokens is read of them without lines too, before these others
pub record Goes (d : ℕ) (ts us vs : List Token) (R : List Token → Type 0) : Type 0 where
  pub without : List Token
  pub moved : Moved d ts d us without vs
  pub is : R without

pub goes : {d : ℕ} {ts us ws vs : List Token} {R : List Token → Type 0} → Moved d ts d us ws vs
    → R ws → Goes d ts us vs R
goes {d} {ts} {us} {ws} m r = record { without = ws; moved = m; is = r }
