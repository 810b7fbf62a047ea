use Rattle.std.proofs.Common.{◌-◌, length, sym, ◌∙◌, subst, arith}
use Rattle.flume_tokens.specs.Pieces.{TakesWithin}
use Rattle.flume_tokens.proofs.NextPieces.{on_LineEnd, on_Gap, on_Token, on_Fault}
use Rattle.flume_tokens.proofs.cutting.cut.Goals as goal

pub loop-at-preserved-in-LineEnd : goal.loop-at-preserved-in-LineEnd
loop-at-preserved-in-LineEnd c =
    record {
      whole = on_LineEnd c.loop-at.tokens.items c.loop-at.at c.loop-at.line c.args.bytes.now _
          (omega arith) (sym c.in-LineEnd.is ∙ c.in_ok-piece_at.ensures.value)
          c.loop-at.invariant.whole;
      line = omega (arith, c.loop-at.invariant.line);
      within = omega arith;
    }

pub loop-at-preserved-in-Gap : goal.loop-at-preserved-in-Gap
loop-at-preserved-in-Gap c =
    let w = subst (λ p. TakesWithin p (length c.args.bytes.now - c.loop-at.at)) c.in-Gap.is
    c.in_ok-piece_at.ensures.within in
    record {
      whole = on_Gap c.loop-at.tokens.items c.loop-at.at c.in-Gap.taken c.loop-at.line
          c.args.bytes.now _ (omega arith) w.0 (sym c.in-Gap.is ∙ c.in_ok-piece_at.ensures.value)
          c.loop-at.invariant.whole;
      line = omega (arith, c.loop-at.invariant.line);
      within = omega (arith, w.1);
    }

pub loop-at-preserved : goal.loop-at-preserved
loop-at-preserved c =
    let w = subst (λ p. TakesWithin p (length c.args.bytes.now - c.loop-at.at)) c.in-Token.is
    c.in_ok-piece_at.ensures.within in
    record {
      whole = on_Token c.loop-at.tokens.items c.put.new.tokens.items c.in-Token.kind c.loop-at.at
          c.in-Token.taken c.loop-at.line c.args.bytes.now _ (omega arith) w.0
          (sym c.in-Token.is ∙ c.in_ok-piece_at.ensures.value) c.in_ok-put-in-Token.ensures
          c.loop-at.invariant.whole;
      line = omega (arith, c.loop-at.invariant.line);
      within = omega (arith, w.1);
    }

pub returns-in-Fault-clause-err : goal.returns-in-Fault-clause-err
returns-in-Fault-clause-err c = λ _.
    (on_Fault c.loop-at.tokens.items c.in-Fault.kind c.loop-at.at c.loop-at.line c.args.bytes.now _
    (omega arith) (sym c.in-Fault.is ∙ c.in_ok-piece_at.ensures.value)
    c.loop-at.invariant.whole)
