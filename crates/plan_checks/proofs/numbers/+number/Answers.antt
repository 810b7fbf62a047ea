use Rattle.plan_checks.proofs.Counting.{kids_followed}
use Rattle.plan_checks.proofs.numbers.+number.Goals as goal

pub after_output-loop-kid-init : goal.after_output-loop-kid-init
after_output-loop-kid-init t c =
    kids_followed c.args.output.now c.deref-kid-items.result.now c.args.number c.in_ok-next.next
    c.deref-kid-items.ensures.value c.in_ok-next.ensures
