use Rattle.std.proofs.Common.{◌≡◌, ◌≢◌, false, subst, arith}
use Rattle.std.specs.Prelude.{Option, Some, IfSome}
use Rattle.claim_board.specs.Protocol.{PassState}
use Rattle.claim_board.specs.Boards.{Board, Drawn, Drew}
use Rattle.crew_tests.proofs.board.draws_all_and_claims_twice.Goals as goal

drew : (b : Board) (old new : PassState) (r : Option Drawn) (d : Drawn) → r ≡ Some d
    → IfSome r (λ d. (old.ended ≡ false) × Drew b old new d) → Drew b old new d
drew b old new r d is h =
    (subst (λ (x : Option Drawn). IfSome x (λ d. (old.ended ≡ false) × Drew b old new d)) is h).1

pub commit-requires-clause-claimable : goal.commit-requires-clause-claimable
commit-requires-clause-claimable g c =
    let first = drew c.args.board.now _ _ _ _ c.expect-first.ensures c.draw.ensures.some in
    c.look.ensures.claims _ (c.draw-5.ensures.claims _ (c.draw-4.ensures.claims _
    (c.draw-3.ensures.claims _ (c.draw-2.ensures.claims _ first.claimable))))

pub commit-requires-2-clause-claimable : goal.commit-requires-2-clause-claimable
commit-requires-2-clause-claimable g c =
    let third = drew c.args.board.now _ _ _ _ c.expect-third.ensures c.draw-3.ensures.some in
    let other : c.expect-first.result.number ≢ c.expect-third.result.number =
    λ e. absurd (omega arith) in
    c.look-2.ensures.claims _ (c.commit.ensures.claims _ other
    (c.look.ensures.claims _ (c.draw-5.ensures.claims _ (c.draw-4.ensures.claims _
    third.claimable))))
