use Rattle.std.proofs.Common.{[], ◌∷◌, ◌++◌}
use Rattle.std.specs.List.{flat_map}
use Rattle.printing.specs.Printed.{printed_byte}
use Rattle.outside.proofs.SaidLemmas.{says_both, says_cut}
use Rattle.printing.proofs.screen.say_quoted.Goals as goal

pub returns-in_err-say : goal.returns-in_err-say
returns-in_err-say g c =
    says_cut (34 ∷ []) (flat_map printed_byte c.args.name.now ++ 34 ∷ []) _ _ _
    c.from_residual.result
    c.from_residual.ensures.0 c.in_err-say.ensures

pub returns-in_err-say_escaped : goal.returns-in_err-say_escaped
returns-in_err-say_escaped g c =
    says_both (34 ∷ []) (flat_map printed_byte c.args.name.now ++ 34 ∷ []) _ _ _ _
    c.from_residual-in_err-say_escaped.result c.in_ok-say.ensures
    (says_cut (flat_map printed_byte c.args.name.now)
    (34 ∷ []) _ _ _ c.from_residual-in_err-say_escaped.result
    c.from_residual-in_err-say_escaped.ensures.0 c.in_err-say_escaped.ensures)

pub returns : goal.returns
returns g c =
    says_both (34 ∷ []) (flat_map printed_byte c.args.name.now ++ 34 ∷ []) _ _ _ _ c.say-2.result
    c.in_ok-say.ensures
    (says_both (flat_map printed_byte c.args.name.now)
    (34 ∷ []) _ _ _ _ c.say-2.result c.in_ok-say_escaped.ensures c.say-2.ensures)
