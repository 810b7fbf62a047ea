-- A side, read by its pieces.
use Rattle.std.proofs.Common.{◌≡◌, List, Result, Ok, Err, refl, sym, ◌∙◌, arith}
use Rattle.flume_tokens.specs.declared.token.Token.{Token}
use Rattle.flume_tokens.specs.declared.sign.Sign.TheVariants.{Greater, Less, Open}
use Rattle.flume_grammar.specs.declared.fault.Stop.{Stop}
use Rattle.flume_grammar.specs.declared.parts.SoFar.{SoFar}
use Rattle.flume_grammar.specs.declared.start.Start.{Start}
use Rattle.flume_grammar.specs.declared.start.Start.TheVariants as starts
use Rattle.flume_grammar.specs.declared.tree.Side.{Side}
use Rattle.flume_grammar.specs.Limits.{the_limits}
use Rattle.flume_grammar.specs.Parts.{Tree}
use Rattle.flume_grammar.specs.inner.Out.{Out, give, bind, one}
use Rattle.flume_grammar.specs.inner.Reading.{sign_at}
use Rattle.flume_grammar.specs.inner.Reads.{ReadsSuch, PassesSuch}
use Rattle.flume_grammar.specs.inner.Types.{whole_type}
use Rattle.flume_grammar.specs.inner.Expressions as spec
use Rattle.flume_expressions.specs.inner.Pieces.{of_side, sided}

module _ (g : Tree → List Token → Out SoFar) where
  opened : (o : Tree) (d : Out (Unit {0}))
      → bind (bind d (λ _ xs. give o xs)) g ≡ bind d (λ _ xs. g o xs)
  opened o (Ok x) = refl
  opened o (Err e) = refl

  ended : (o : Tree) (c : Out (Unit {0})) (d : List Token → Out (Unit {0}))
      → bind (bind c (λ _ ws. bind (d ws) (λ _ xs. give o xs))) g
      ≡ bind c (λ _ ws. bind (d ws) (λ _ xs. g o xs))
  ended o (Ok x) d = opened o (d x.1)
  ended o (Err e) d = refl

  typed : (b : Out Tree) (c d : List Token → Out (Unit {0}))
      → bind (bind b (λ o vs. bind (c vs) (λ _ ws. bind (d ws) (λ _ xs. give o xs)))) g
      ≡ bind b (λ o vs. bind (c vs) (λ _ ws. bind (d ws) (λ _ xs. g o xs)))
  typed (Ok x) c d = ended x.0 (c x.1) d
  typed (Err e) c d = refl

  begun : (a : Out (Unit {0})) (b : List Token → Out Tree) (c d : List Token → Out (Unit {0}))
      → bind (bind a (λ _ us. bind (b us) (λ o vs. bind (c vs) (λ _ ws. bind (d ws)
      (λ _ xs. give o xs))))) g
      ≡ bind a (λ _ us. bind (b us) (λ o vs. bind (c vs) (λ _ ws. bind (d ws) (λ _ xs. g o xs))))
  begun (Ok x) b c d = typed (b x.1) c d
  begun (Err e) b c d = refl

by_pieces : (inner : spec.Inner) (s : Side) (ts : List Token)
    → sided inner s ts ≡ spec.sided the_limits inner s ts
by_pieces inner s ts =
    begun (of_side inner s) (one (sign_at Less) ts) (whole_type the_limits) (one (sign_at Greater))
    (one (sign_at Open))

side_by_pieces : (such : SoFar → Type 0) (inner : spec.Inner) (s : Side) (ts us : List Token)
    (r : Result SoFar Stop) → ReadsSuch such (sided inner s) ts us r
    → PassesSuch such (spec.sided the_limits inner s) ts us r
side_by_pieces such inner s ts us (Ok x) h = record {
  value = sym (by_pieces inner s ts) ∙ h.value;
  shorter = omega (arith, h.shorter);
  fits = h.fits;
}
side_by_pieces such inner s ts us (Err e) h = λ other. sym (by_pieces inner s ts) ∙ h other

-- what is read by its pieces after a start that is a side's
pub after_side : (such : SoFar → Type 0) (inner : spec.Inner) (start : Start) (s : Side)
    (ts us : List Token) (r : Result SoFar Stop) → start ≡ starts.Side s
    → ReadsSuch such (sided inner s) ts us r
    → PassesSuch such (spec.after_start the_limits inner start) ts us r
after_side such inner start s ts us r e h = rw e (side_by_pieces such inner s ts us r h)
