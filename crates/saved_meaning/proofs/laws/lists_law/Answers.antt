use Rattle.std.proofs.Common.{[], refl, sym, ap, ◌∙◌, subst}
use Rattle.direct_meaning.specs.Direct.{collections}
use Rattle.direct_meaning.specs.Inputs.{AreLists, sourced}
use Rattle.direct_meaning.proofs.MeaningLemmas.{has_meaning}
use Rattle.direct_meaning.proofs.PlainLemmas.{plain-order}
use Rattle.script_program.specs.Saved.{with_saved}
use Rattle.saved_meaning.specs.Found.{IsKeptList}
use Rattle.saved_meaning.proofs.Given.{all-given}
use Rattle.saved_meaning.proofs.InTurn.{lists-turn}
use Rattle.saved_meaning.proofs.Tables.{holds-at}
use Rattle.saved_meaning.proofs.laws.lists_law.Goals as goal

pub returns : goal.returns
returns c = λ script found rows kept well unsaved have are.
    let later = with_saved found script in
    let order = plain-order script unsaved rows in
    let meant = has_meaning script well rows have in
    let plain =
    ap (λ lists. collections script script.nodes lists []) (sym order) ∙ meant.means in
    subst (AreLists (sourced later))
    (sym (lists-turn script well found kept meant.made unsaved rows plain))
    (all-given script well found kept
    (λ n entry there is. holds-at (IsKeptList script kept) found are n is entry there)
    script.nodes [] refl unsaved 0 refl rows
    (subst (AreLists (sourced script)) order have))
