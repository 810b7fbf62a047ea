use Rattle.std.proofs.Common.{ℕ, List, refl, ap, ◌∙◌}
use Rattle.std.specs.List.{refill}
use Rattle.claim_board.specs.Boards.{Pass, Passes}
use Rattle.claim_board.specs.Lends.{with_members}
use Rattle.claim_board.specs.inner.Seats.{maker_passes}
use Rattle.claim_board.proofs.passes.Passes.as_mut_slice.Goals as goal

pub returns : goal.returns
returns c =
    let items : List Pass = c.self.inside.members.items in
    let maker = c.self.inside.maker in (
      (
        refl,
        λ (w : List Pass). ap (λ (n : ℕ). maker_passes maker.table_id maker.me.0 (refill n items w))
            c.self.inside.members.ok.0
            ∙ ap (λ (ps : Passes). with_members ps w) c.self.view_is,
      ),
      record {
        writes_back = tt;
        value = c.as_mut_slice.ensures.value
            ∙ ap (λ (ps : Passes). ps.members) c.self.view_is;
      },
    )
