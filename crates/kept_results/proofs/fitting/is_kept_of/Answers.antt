use Rattle.std.proofs.Common.{◌≡◌, ◌<◌, ◌^◌, ◌∙◌, ◌&&◌, Bool, List, ap, subst, sym}
use Rattle.std.specs.Prelude.{All, ◌↔◌}
use Rattle.std.specs.Bool.{IsTrue}
use Rattle.flume_types.specs.declared.types.Ty.{Ty}
use Rattle.flume_value.specs.declared.value.Value.{Value}
use Rattle.saved_results.specs.declared.saved.Size.{Size}
use Rattle.script_program.specs.Program.{node_in}
use Rattle.kept_results.proofs.FitLemmas.{tells}
use Rattle.kept_results.specs.Kept.{AreMembersFor, IsKeptOf}
use Rattle.kept_results.specs.inner.Named.{are_named}
use Rattle.kept_results.proofs.fitting.is_kept_of.Goals as goal
use Rattle.kept_results.proofs.fitting.is_kept_of.Goals.{else-named, then-named}

pub returns : goal.returns
returns c =
    let script = c.args.program.now.script in
    let saved = c.args.saved.now in
    let held = c.node-node.result.now in
    let named = c.are_named-named.result in
    let fits = c.are_members_of-fits.result in
    let counts = subst (All (λ (size : Size). size.members < 2 ^ 64)) c.as_slice-sizes.ensures
    c.all_counted.ensures in
    let same = c.are_named-named.ensures
    ∙ (λ i. are_named (c.as_slice-sizes.ensures i)
    ((c.as_slice.ensures ∙ c.in_ok-names.ensures) i)) in
    let over = subst (λ (members : List Value).
    IsTrue fits ↔ AreMembersFor (node_in c.types.result.now held) members) c.as_slice-2.ensures
    c.are_members_of-fits.ensures in
    let members = subst (λ (types : List Ty).
    IsTrue fits ↔ AreMembersFor (node_in types held) saved.members) c.types.ensures over in
    let is : c.if-named.result ≡ (named && fits) =
    elim c.if-named.branch [
      | then-named w ↦ w.result-is ∙ ap (λ b. b && fits) (sym w.if-named.true)
      | else-named w ↦
          w.result-is ∙ w.if-named.false ∙ ap (λ b. b && fits) (sym w.if-named.false)
    ] in
    subst (λ (b : Bool). IsTrue b ↔ IsKeptOf script c.args.number saved) (sym is)
    (tells script c.args.number (node_in c.args.program.now.known.types held) saved
    c.node-node.ensures.is counts named fits same members)
