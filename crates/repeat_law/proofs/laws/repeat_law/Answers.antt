use Rattle.std.proofs.Common.{◌++◌, ◌∷◌}
use Rattle.script_laws.proofs.RuleLemmas.{well-formed}
use Rattle.repeat_law.proofs.LaterLemmas.{is_unrolled}
use Rattle.repeat_law.proofs.RepeatLemmas.{repeat_means}
use Rattle.repeat_law.specs.Reading.{let_repeat}
use Rattle.repeat_law.proofs.laws.repeat_law.Goals as goal

pub returns : goal.returns
returns c = record {
  means = repeat_means;
  accepted =
      λ before after line names written script e.
      let it = is_unrolled before after line names written script e in
      let statements = before ++ let_repeat line names written ∷ after in (
        it,
        repeat_means script it.it.repeat (well-formed statements script e) it.reads it.has,
      );
}
