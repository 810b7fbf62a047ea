use Rattle.std.proofs.Common.{◌++◌}
use Rattle.std.specs.List.{flat_map}
use Rattle.printing.specs.Printed.{quoted}
use Rattle.outside.proofs.SaidLemmas.{says_both, says_cut}
use Rattle.printing.proofs.screen.say_named.Goals as goal

pub returns-in_err-say : goal.returns-in_err-say
returns-in_err-say g c =
    says_cut c.args.before.now (quoted c.args.name.now ++ flat_map
    (λ piece. piece.now) c.args.behind.now) _ _ _ c.from_residual.result
    c.from_residual.ensures.0 c.in_err-say.ensures

pub returns-in_err-say_quoted : goal.returns-in_err-say_quoted
returns-in_err-say_quoted g c =
    says_both c.args.before.now (quoted c.args.name.now ++ flat_map
    (λ piece. piece.now) c.args.behind.now) _ _ _ _ c.from_residual-in_err-say_quoted.result
    c.in_ok-say.ensures
    (says_cut (quoted c.args.name.now) (flat_map (λ piece. piece.now) c.args.behind.now) _ _ _
    c.from_residual-in_err-say_quoted.result c.from_residual-in_err-say_quoted.ensures.0
    c.in_err-say_quoted.ensures)

pub returns : goal.returns
returns g c =
    says_both c.args.before.now (quoted c.args.name.now ++ flat_map
    (λ piece. piece.now) c.args.behind.now) _ _ _ _ c.say_all.result c.in_ok-say.ensures
    (says_both (quoted c.args.name.now) (flat_map (λ piece. piece.now) c.args.behind.now) _ _ _ _
    c.say_all.result c.in_ok-say_quoted.ensures c.say_all.ensures)
