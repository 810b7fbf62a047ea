use Rattle.forest_courses.proofs.Worlds.{same_counts, same_given, same_traps}
use Rattle.forest_courses.proofs.laws.worlds_law.Goals as goal

pub returns-clause-given : goal.returns-clause-given
returns-clause-given c v w f xs same = same_given v w same f xs

pub returns-clause-traps : goal.returns-clause-traps
returns-clause-traps c v w f xs same = same_traps v w same f xs

pub returns-clause-counts : goal.returns-clause-counts
returns-clause-counts c v w f xs same = same_counts v w same f xs
