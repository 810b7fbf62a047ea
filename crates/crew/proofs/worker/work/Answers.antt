use Rattle.std.proofs.Common.{◌≡◌, ◌<◌, ◌*◌, ℕ, ◌≤◌, inl, refl, ap, ◌∙◌, subst}
use Rattle.claim_board.specs.Protocol.{PassState, limit, drawn}
use Rattle.claim_board.specs.Boards.{Pass}
use Rattle.crew.proofs.Accounts.{grew_not, grew_on}
use Rattle.crew.proofs.Working.{came_all, falls, worked_not, worked_more, worked_end, took_drawn}
use Rattle.crew.proofs.worker.work.Goals as goal

pub draws-init : goal.draws-init
draws-init g c = record {
  same = refl;
  grew = grew_not _;
  worked = rw c.new-kept.ensures (worked_not _ _ _ _ _ _);
}

pub draws-smaller : goal.draws-smaller
draws-smaller g c =
    let d = c.in-Some.ensures.some.1 in
    falls (limit c.args.board.now.tasks c.args.board.now.tries) c.in-Some.draw.number _ _ d.latest
    d.claimable.claimable.1
    (c.in_ok-won-in-Some.ensures.turned.took.draws.0 ∙ ap (λ (p : PassState). p.draws) d.gained)

pub draws-preserved : goal.draws-preserved
draws-preserved g c =
    let d = c.in-Some.ensures.some.1 in
    let i = c.draws.invariant in
    let number = c.in-Some.draw.number in
    let same : c.args.board.now.tasks * c.args.board.now.tries
    ≡ g.T.Tasks.count_of c.args.tasks.now * c.args.phase.now.tries =
    λ i. c.requires.count i * c.requires.tries i in
    let drew = d.gained ∙ ap (λ (n : ℕ). drawn n c.draws.pass.state d.place number) same in record {
      same = c.turn.ensures.same ∙ (c.draw.ensures.same ∙ i.same);
      grew = grew_on _ _ _ i.grew c.turn.ensures.grew;
      worked = rw c.in_ok-add-in-Some.ensures
          (worked_more _ _ _ _ c.args.pass.now.state c.draws.pass.state c.draw.new.pass.state
          c.turn.new.pass.state _ _ _ c.draws.kept _ d.place number i.worked i.grew d.later
          (subst (λ (n : ℕ). number < n) same d.claimable.claimable.1) drew
          c.in_ok-won-in-Some.ensures.turned c.turn.ensures.grew);
    }

pub returns-in-None-clause-worked : goal.returns-in-None-clause-worked
returns-in-None-clause-worked g c =
    let same : c.args.board.now.tasks * c.args.board.now.tries
    ≡ g.T.Tasks.count_of c.args.tasks.now * c.args.phase.now.tries =
    λ i. c.requires.count i * c.requires.tries i in
    worked_end _ _ _ _ c.args.pass.now.state c.draws.pass.state c.draw.new.pass.state _ _
    c.draws.kept c.draws.invariant.worked
    (λ e. ap (λ (p : Pass). p.state) (c.in-None.ensures.again e).1)
    (λ e. let d = c.in-None.ensures.none e in (
      d.place,
      d.number,
      d.later,
      subst (λ (n : ℕ). n ≤ d.number) same d.past,
      d.gained ∙ ap (λ (n : ℕ). drawn n c.draws.pass.state d.place d.number) same,
    ))

pub returns-in_err-won-in-Some-clause-grew : goal.returns-in_err-won-in-Some-clause-grew
returns-in_err-won-in-Some-clause-grew g c =
    grew_on _ _ _ c.draws.invariant.grew c.turn.ensures.grew

pub returns-in_err-add-in-Some-clause-grew : goal.returns-in_err-add-in-Some-clause-grew
returns-in_err-add-in-Some-clause-grew g c =
    grew_on _ _ _ c.draws.invariant.grew c.turn.ensures.grew

pub returns-in_err-won-in-Some-clause-asked : goal.returns-in_err-won-in-Some-clause-asked
returns-in_err-won-in-Some-clause-asked g c =
    took_drawn _ _ _ _ c.args.board.now c.args.pass.now.state c.draws.pass.state
    c.draw.new.pass.state c.turn.new.pass.state _ _ _ c.draws.kept c.in-Some.draw
    c.requires.count c.requires.tries c.in-Some.ensures.some.1 c.draws.invariant.worked
    c.in_err-won-in-Some.ensures.early

pub returns-in_err-add-in-Some-clause-asked : goal.returns-in_err-add-in-Some-clause-asked
returns-in_err-add-in-Some-clause-asked g c =
    let it = c.in_ok-won-in-Some.ensures.turned in
    took_drawn _ _ _ _ c.args.board.now c.args.pass.now.state c.draws.pass.state
    c.draw.new.pass.state c.turn.new.pass.state _ _ _ c.draws.kept c.in-Some.draw
    c.requires.count c.requires.tries c.in-Some.ensures.some.1 c.draws.invariant.worked
    (it.turn, it.took, inl it.cause)

pub returns-in-None-clause-asked : goal.returns-in-None-clause-asked
returns-in-None-clause-asked g c =
    let w = returns-in-None-clause-worked g c in
    (w.turns, w.took, came_all _ _ _ _ w.turns w.causes)
