use Rattle.forest_courses.proofs.Coursing.{made_course, trapped_course, whole_course}
use Rattle.forest_courses.proofs.laws.course_law.Goals as goal

pub returns-clause-made : goal.returns-clause-made
returns-clause-made c = made_course

pub returns-clause-trapped : goal.returns-clause-trapped
returns-clause-trapped c = trapped_course

pub returns-clause-whole : goal.returns-clause-whole
returns-clause-whole c = whole_course
