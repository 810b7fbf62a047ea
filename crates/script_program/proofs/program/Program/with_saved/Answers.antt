use Rattle.std.proofs.Common.{◌≡◌, length, map, sym, ap, ◌∙◌, subst}
use Rattle.script_program.specs.Saved.{with_saved}
use Rattle.script_program.specs.Script.{Script}
use Rattle.script_program.specs.inner.Tables.{function_of, held_saved_from, node_of}
use Rattle.script_program.proofs.SavedLemmas.{as-many-saved, held-saved, nodes-saved}
use Rattle.script_program.proofs.program.Program.with_saved.Goals as goal

pub needed_anew-requires : goal.needed_anew-requires
needed_anew-requires c =
    let own = c.self.inside in
    let put = c.save_found.ensures
    ∙ ap (held_saved_from c.args.found.now 0) c.into_vec-nodes.ensures in
    c.self.invariant.1.many ∙ sym (as-many-saved c.args.found.now 0 own.nodes)
    ∙ ap length (sym put) ∙ ap length (sym c.as_slice.ensures.value)

pub new-requires-clause-held : goal.new-requires-clause-held
new-requires-clause-held c =
    let own = c.self.inside in
    let put = c.save_found.ensures
    ∙ ap (held_saved_from c.args.found.now 0) c.into_vec-nodes.ensures in
    held-saved own.known own.functions.entries own.nodes _ c.args.found.now
    (c.from_vec.ensures ∙ put) c.self.invariant.0

pub returns-clause-script : goal.returns-clause-script
returns-clause-script c =
    let own = c.self.inside in
    let found = c.args.found.now in
    let put = c.from_vec.ensures ∙ c.save_found.ensures
    ∙ ap (held_saved_from found 0) c.into_vec-nodes.ensures in
    let here : Script = record {
      functions = map (function_of own.known) own.functions.entries;
      nodes = map (node_of own.known.types) c.from_vec.result;
      outputs = own.outputs.entries;
    } in
    ap (λ it. it.script) c.new.ensures
    ∙ subst (λ program. here ≡ with_saved found program.script) c.self.view_is
    (λ i. record {
      functions = map (function_of own.known) own.functions.entries;
      nodes = nodes-saved own.known.types found own.nodes c.from_vec.result put i;
      outputs = own.outputs.entries;
    })
