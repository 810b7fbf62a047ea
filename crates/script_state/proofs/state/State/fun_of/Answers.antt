use Rattle.std.proofs.Common.{◌≡◌, sym, subst}
use Rattle.script_program.specs.Program.{signature_in, HasTypes}
use Rattle.script_state.proofs.StateLemmas.{signature-kept}
use Rattle.script_state.proofs.state.State.fun_of.Goals as goal

pub returns-clause-signature : goal.returns-clause-signature
returns-clause-signature c =
    subst
    (λ checking. signature_in c.check_body.new.known.types c.args.signature.now
    ≡ signature_in checking.types c.args.signature.now)
    c.self.view_is
    (signature-kept c.self.inside.known.types c.check_body.new.known.types
    c.check_body.ensures.extends c.args.signature.now
    (subst (λ checking. HasTypes checking.types c.args.signature.now) (sym c.self.view_is)
    c.requires.within))
