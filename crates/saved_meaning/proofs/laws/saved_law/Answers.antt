use Rattle.std.proofs.Common.{[], refl, sym, ap, ◌∙◌, subst}
use Rattle.direct_meaning.specs.Direct.{collections}
use Rattle.script_program.specs.Needed.{is_needed}
use Rattle.script_program.specs.Saved.{with_saved}
use Rattle.direct_meaning.specs.Inputs.{AreLists, sourced}
use Rattle.direct_meaning.proofs.of_script_laws.NeededLemmas.{needed_law}
use Rattle.direct_meaning.proofs.of_script_laws.SavedLemmas.{saved-well}
use Rattle.saved_meaning.specs.Found.{where_needed}
use Rattle.saved_meaning.proofs.Clean.{clean-table, no-traps}
use Rattle.saved_meaning.proofs.Given.{all-given, kept-list}
use Rattle.saved_meaning.proofs.Going.{all-go}
use Rattle.direct_meaning.proofs.PlainLemmas.{plain-order}
use Rattle.saved_meaning.proofs.InTurn.{lists-turn}
use Rattle.saved_meaning.proofs.Tables.{empty-related, sound-at}
use Rattle.saved_meaning.proofs.Trapped.{still-trapped}
use Rattle.saved_meaning.proofs.laws.saved_law.Goals as goal

pub returns-clause-means : goal.returns-clause-means
returns-clause-means c = λ script found rows table well unsaved means are sound.
    let later = with_saved found script in
    let plain =
    ap (λ lists. collections script script.nodes lists []) (sym (plain-order script unsaved rows))
    ∙ means in
    let it =
    all-go script found table well sound are.each script.nodes [] refl unsaved 0 refl rows [] []
    refl refl (empty-related (is_needed later)) plain in
    record {
      own = it.own;
      means =
          ap (λ lists. collections later later.nodes lists [])
          (lists-turn script well found table table unsaved rows plain)
          ∙ it.means;
      same = it.same;
    }

pub returns-clause-inputs : goal.returns-clause-inputs
returns-clause-inputs c = λ script found rows table well unsaved have means are sound.
    let later = with_saved found script in
    let order = plain-order script unsaved rows in
    let plain =
    ap (λ lists. collections script script.nodes lists []) (sym order) ∙ means in
    subst (AreLists (sourced later)) (sym
    (lists-turn script well found table table unsaved rows plain))
    (all-given script well found table
    (λ n entry there is. kept-list script table are n entry there (sound-at table found sound n is))
    script.nodes [] refl unsaved 0 refl rows
    (subst (AreLists (sourced script)) order have))

pub returns-clause-through : goal.returns-clause-through
returns-clause-through c = λ script found rows table own well unsaved means are same none.
    let later = with_saved found script in
    let plain =
    ap (λ lists. collections script script.nodes lists []) (sym (plain-order script unsaved rows))
    ∙ means in
    let clean = clean-table own none in
    no-traps script well rows table are plain
    (λ n reads d is.
    let needed =
    (needed_law later (saved-well script well found) n).1 ([], reads) in
    clean n d
    (same n ∙ (λ i. where_needed (needed i) (is i))))

pub returns-clause-trapped : goal.returns-clause-trapped
returns-clause-trapped c = λ script found table own trap same among.
    still-trapped (with_saved found script) table own same trap among
