use Rattle.std.proofs.Common.{◌≡◌, ◌++◌, ◌∷◌, [], ℕ, ◌<◌, false, is_some, length, map, sym, ◌∙◌, subst}
use Rattle.std.specs.Str.{bytes_eq}
use Rattle.std.proofs.lemmas.List.{length-map}
use Rattle.indexmap.proofs.CallerLemmas.{insert_entry-new}
use Rattle.body_check.specs.of_written_types.Named.{find}
use Rattle.script_program.specs.declared.made.Making.{Making as HeldMaking}
use Rattle.script_program.specs.declared.made.Node.{Node as HeldNode}
use Rattle.script_program.specs.declared.made.Standing.TheVariants.{Collection}
use Rattle.script_program.specs.Script.{with_node}
use Rattle.script_program.specs.Program.{making_in}
use Rattle.script_program.specs.inner.Tables.{node_of}
use Rattle.script_state.proofs.StateLemmas.{as-seen, none-is, held-push, nodes-push, state_in}
use Rattle.script_state.proofs.state.State.add_node.Goals as goal

abbrev held : HeldMaking → ℕ → HeldNode
held making statement = record { made = making.made; ty = making.ty; statement = statement }

pub invariant_of-self-in_err-insert : goal.invariant_of-self-in_err-insert
invariant_of-self-in_err-insert c =
    let own = c.self.inside in
    held-push own.nodes c.push.new.self (c.args.name, held c.args.making own.statements)
    c.in_ok-push.ensures.ok own.known own.functions.entries c.self.invariant
    (subst (λ checking. c.args.making.ty < length checking.types) (sym c.self.view_is)
    c.requires.within)

pub invariant_of-self-2 : goal.invariant_of-self-2
invariant_of-self-2 c =
    let own = c.self.inside in
    held-push own.nodes c.push.new.self (c.args.name, held c.args.making own.statements)
    c.in_ok-push.ensures.ok own.known own.functions.entries c.self.invariant
    (subst (λ checking. c.args.making.ty < length checking.types) (sym c.self.view_is)
    c.requires.within)

pub returns-clause-state : goal.returns-clause-state
returns-clause-state c =
    let own = c.self.inside in
    let types = own.known.types in
    let new =
    subst (λ checking. is_some (find c.args.name checking.state.names) ≡ false)
    (sym c.self.view_is) c.requires.new in
    let key = c.in-Ok.ensures.made in
    let absent =
    subst (λ name. is_some (find name own.names.entries) ≡ false) (sym key) new in
    let put =
    c.in_ok-insert.ensures.entries
    ∙ insert_entry-new bytes_eq own.names c.in-Ok.key (Collection c.len-number.result)
    (none-is _ absent) in
    let nodes =
    nodes-push own.nodes c.push.new.self (c.args.name, held c.args.making own.statements)
    c.in_ok-push.ensures.ok types in
    let many : c.len-number.result ≡ length (map (node_of types) own.nodes) =
    c.len-number.ensures ∙ sym (length-map own.nodes (node_of types)) in
    let names = put ∙ (λ j. own.names.entries ++ (key j, Collection (many j)) ∷ []) in
    as-seen
    (λ checking. with_node c.args.name (making_in checking.types c.args.making) checking.state)
    c.self.view_is
    (λ i. record (state_in own) { nodes = nodes i; names = names i })
