use Rattle.std.proofs.Common.{◌∙◌}
use Rattle.crew.proofs.Joining.{phased_by_one, took_by_one}
use Rattle.crew.proofs.halves.work_alone.Goals as goal

pub returns-clause-phased : goal.returns-clause-phased
returns-clause-phased g c =
    phased_by_one _ _ _ g.H.Host.account c.args.passes.now c.args.hosts.now
    c.index-passes-0.result c.work.new.pass c.index-hosts-0.result c.work.new.host c.requires.one
    (c.requires.start.passes.0 ∙ c.requires.one) c.index-passes-0.is c.index-hosts-0.is
    c.requires.start.fresh _ c.work.result c.work.ensures.worked c.work.ensures.ended

pub returns-clause-asked : goal.returns-clause-asked
returns-clause-asked g c =
    took_by_one _ _ _ g.H.Host.account c.args.passes.now c.args.hosts.now
    c.index-passes-0.result c.work.new.pass c.index-hosts-0.result c.work.new.host c.requires.one
    (c.requires.start.passes.0 ∙ c.requires.one) c.index-passes-0.is c.index-hosts-0.is
    c.requires.start.fresh c.work.ensures.asked
