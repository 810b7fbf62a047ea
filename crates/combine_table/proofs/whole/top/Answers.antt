use Rattle.std.proofs.Common.{◌≡◌, ◌-◌, length, ◌∙◌, arith}
use Rattle.std.proofs.lemmas.Result.{IfOk-weaker}
use Rattle.combine_table.proofs.Refs.{referred-greatest}
use Rattle.combine_table.proofs.whole.top.Goals as goal

pub returns : goal.returns
returns c =
    let rest : c.saturating_sub-rest.result ≡ length c.deref.result.now - c.args.n
    = omega arith in
    IfOk-weaker c.copy_each.result _ _
    (λ copied h. h ∙ referred-greatest c.args.n c.saturating_sub-rest.result _
    c.in_ok-all.all.items c.deref.result.now c.in_ok-all.ensures c.deref.ensures.value rest)
    c.copy_each.ensures
