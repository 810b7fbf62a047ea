-- What the evaluation of a program comes to, by its traps.
use Rattle.std.proofs.Common.{◌≡◌, ℕ, ◌<◌, List, [], ◌∷◌, ◌++◌, length, Some, None, slice_get, ap, sym, ◌∙◌, refl, subst}
use Rattle.std.specs.Prelude.{codes}
use Rattle.std.specs.List.{flat_map}
use Rattle.flume_collection.proofs.TrapSets.{first_least, set_rises, set_settled}
use Rattle.flume_collection.specs.Traps.{IsLeast, trap_set}
use Rattle.flume_collection.specs.declared.trap.Trap.{Trap}
use Rattle.flume_value.specs.declared.value.Value.{Value}
use Rattle.script_loading.specs.of_direct_meaning.Direct.{traps_behind, traps_of}
use Rattle.script_loading.specs.of_direct_meaning.Evaluated.{IsDirect}
use Rattle.script_loading.specs.of_direct_meaning.declared.told.Direct.{Direct}
use Rattle.outside.specs.declared.file.File.{File as NamedBytes}
use Rattle.run_texts.specs.Texts.{size_lines}
use Rattle.script_program.specs.Script.{Script}
use Rattle.run_course.specs.Answers.{name_at}
use Rattle.run_course.specs.declared.stop.Stop.{Stop}
use Rattle.run_course.specs.declared.stop.Stop.TheVariants as stop
use Rattle.run_course.specs.inner.Course.{AreFiles, GivesFiles, IsStop, IsTrapOf}
use Rattle.run_course.proofs.FileLemmas.{files_made}
use Rattle.run_course.proofs.OriginLemmas.{origins}

-- ---- the first of some traps

starts : (traps : List Trap) (trap : Trap) → slice_get traps 0 ≡ Some trap
    → (others : List Trap) × (traps ≡ trap ∷ others)
starts [] trap is = absurd (cc)
starts (first ∷ others) trap is = let same : first
    ≡ trap = cc in (others, ap (λ t. t ∷ others) same)

first_of_set : (traps : List Trap) (trap : Trap) → slice_get (trap_set traps) 0 ≡ Some trap
    → IsLeast (trap_set traps) trap
first_of_set traps trap is =
    let at = starts (trap_set traps) trap is in
    first_least (trap_set traps) at.0 trap (set_settled (trap_set traps) (set_rises traps) ∙ at.1)

none_there : (traps : List Trap) → slice_get traps 0 ≡ None → traps ≡ []
none_there [] is = refl
none_there (first ∷ others) is = absurd (cc)

module _ (script : Script) (inputs : List (List Value)) (it : Direct)
    (direct : IsDirect script inputs it) where
  least : (trap : Trap) → slice_get it.traps.items 0 ≡ Some trap
      → IsLeast (traps_of direct.made) trap
  least trap is =
      first_of_set (flat_map traps_behind direct.made) trap
      (ap (λ (l : List Trap). slice_get l 0) (sym direct.traps) ∙ is)

  pub within : (trap : Trap) → slice_get it.traps.items 0 ≡ Some trap
      → trap.origin < length script.nodes
  within trap is = origins script inputs direct.made direct.means trap (least trap is).0

  pub stops : (trap : Trap) (why : Stop) → slice_get it.traps.items 0 ≡ Some trap
      → IsTrapOf script trap why → IsStop script inputs why
  stops trap (stop.Refused status) is own = absurd own
  stops trap (stop.Trapped trapped) is own = (
    direct.made,
    record {
      means = direct.means;
      told = subst (IsLeast (traps_of direct.made)) (sym own.0) (least trap is);
      named = ap (λ (t : Trap). name_at script t.origin) own.0 ∙ own.1;
    },
  )

  pub gives : (text : List ℕ) (files : List NamedBytes) → slice_get it.traps.items 0 ≡ None
      → AreFiles it.bags.items script.outputs files
      → text ≡ [] ++ (size_lines it.sizes.items ++ codes "done\n")
      → GivesFiles script inputs [] files text
  gives text files none are shown = (
    direct.made,
    record {
      means = direct.means;
      through = sym direct.traps ∙ none_there it.traps.items none;
      written = files_made script direct.made it.bags.items files direct.written are;
      shown = shown ∙ ap (λ sizes. [] ++ (size_lines sizes ++ codes "done\n")) direct.sizes;
    },
  )
