use Rattle.cached_course.proofs.AnswerLemmas.{has_kept}
use Rattle.cached_course.proofs.course.keep_behind.Goals as goal

pub returns-clause-kept : goal.returns-clause-kept
returns-clause-kept g c =
    has_kept c.args.kept.now (g.C.Cache.seen c.args.cache.now)
    (g.C.Cache.seen c.keep_each.new.cache) c.keep_each.ensures.told
    c.keep_each.ensures.some c.keep_each.ensures.all
