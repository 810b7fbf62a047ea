use Rattle.std.proofs.Common.{◌∙◌, List, Option, ap, length, subst}
use Rattle.saved_results.specs.declared.saved.Saved.{Saved}
use Rattle.cached_course.specs.Looked.{not_found}
use Rattle.cached_course.specs.inner.Missing.{AreMissing}
use Rattle.cached_course.proofs.looking.gone_on.Goals as goal

pub missing_of-requires : goal.missing_of-requires
missing_of-requires c = ap length c.as_slice-own.ensures.value ∙ c.requires

pub returns : goal.returns
returns c = record {
  found = c.in_ok-found.ensures;
  missing = subst
      (λ (l : List (Option Saved)). AreMissing c.args.program.now.script
      (not_found c.args.asked.now l) c.in_ok-missing.missing.items)
      c.as_slice-own.ensures.value c.in_ok-missing.ensures;
  needed = c.in_ok-needed.ensures;
  inputs = c.in_ok-inputs.ensures;
}
