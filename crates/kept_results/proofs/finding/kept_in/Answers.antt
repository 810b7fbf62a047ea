use Rattle.std.proofs.Common.{Option, subst}
use Rattle.std.specs.Prelude.{IfSome}
use Rattle.saved_results.specs.Saved.{saved_value}
use Rattle.saved_results.specs.declared.saved.Saved.{Saved}
use Rattle.value_reading.specs.Written.{IsCanonical}
use Rattle.kept_results.proofs.FindLemmas.{not_kept}
use Rattle.kept_results.proofs.finding.kept_in.Goals as goal

pub returns-then-branch-clause-some : goal.returns-then-branch-clause-some
returns-then-branch-clause-some c = (
  subst
      (λ (o : Option Saved). IfSome o (λ saved. IsCanonical (saved_value saved) c.args.bytes.now))
      c.in-Some.is c.in_ok-saved.ensures.some,
  c.in_ok-is_kept_of.ensures.0 c.if-branch.true,
)

pub returns-else-branch-clause-none : goal.returns-else-branch-clause-none
returns-else-branch-clause-none c =
    not_kept c.args.program.now.script c.args.number c.args.bytes.now c.reading_law.ensures
    c.in-Some.saved c.in_ok-is_kept_of.field-0
    (subst
    (λ (o : Option Saved). IfSome o (λ saved. IsCanonical (saved_value saved) c.args.bytes.now))
    c.in-Some.is c.in_ok-saved.ensures.some)
    c.in_ok-is_kept_of.ensures c.if-branch.false
