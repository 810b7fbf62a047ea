use Rattle.std.proofs.Common.{◌≡◌, ℕ, List, Ok, subst}
use Rattle.std.specs.Map.{keys_of}
use Rattle.let_check.proofs.NameLemmas.{are-free, are-new}
use Rattle.script_rules.specs.Rules.{all_fresh}
use Rattle.let_check.proofs.repeats.entry_for.Goals as goal

pub hide_all-requires : goal.hide_all-requires
hide_all-requires c =
    are-free c.args.line c.args.names.now c.args.state.now.state tt c.in_ok-all_fresh.ensures

pub returns-clause-new : goal.returns-clause-new
returns-clause-new c makings =
    let behind = c.hide_all.new.state.state in
    are-new c.args.line c.args.written.now.entering makings behind tt
    (subst (λ (names : List (List ℕ)). all_fresh c.args.line (keys_of behind.names) names ≡ Ok tt)
    c.as_slice.ensures c.in_ok-all_fresh-2.ensures)
