use Rattle.cached_course.proofs.MeantLemmas.{Laws, meant_for, sound_for}
use Rattle.cached_course.proofs.laws.reuse_law.Goals as goal

pub returns : goal.returns
returns c =
    let laws : Laws = record {
      meaning_of = c.meaning_law.ensures.well_formed;
      rows_are = c.inputs_law.ensures.inputs;
      given_are = c.given_law.ensures.inputs;
      given_same = c.given_law.ensures.meant;
      saved_means = c.saved_law.ensures.means;
      saved_through = c.saved_law.ensures.through;
      saved_trapped = c.saved_law.ensures.trapped;
    } in
    record {
      meant = meant_for laws;
      sound = sound_for laws c.key_meaning_law.ensures.same c.key_meaning_law.ensures.clean;
    }
