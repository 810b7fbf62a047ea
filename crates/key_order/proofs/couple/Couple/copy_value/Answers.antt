use Rattle.std.proofs.Common.{◌≡◌, Some, ◌∙◌, ap, subst, sym}
use Rattle.std.proofs.lemmas.Result.{IfOk-weaker}
use Rattle.bag_groups.specs.Pairs.{value_of}
use Rattle.key_order.proofs.Keying.{value_of-pair}
use Rattle.key_order.proofs.couple.Couple.copy_value.Goals as goal

pub returns : goal.returns
returns c =
    IfOk-weaker c.copy.result _ _
    (λ value is. subst (λ pair. value_of pair ≡ Some value) c.self.view_is
    (value_of-pair _ _ ∙ ap Some (sym is)))
    c.copy.ensures
