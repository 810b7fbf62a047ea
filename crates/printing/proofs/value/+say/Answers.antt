use Rattle.std.proofs.Common.{◌++◌, [], ◌∷◌, codes, ap, sym, ◌∙◌}
use Rattle.printing.specs.Printed.{listed, printed}
use Rattle.printing.proofs.ListedLemmas.{listed_cut, listed_said}
use Rattle.printing.proofs.PrintedLemmas.{printed-List, printed-Rec}
use Rattle.outside.proofs.SaidLemmas.{says_both, says_cut, says_as}
use Rattle.printing.proofs.value.+say.Goals as goal

pub say_between-returns-in_err-say_listed : goal.say_between-returns-in_err-say_listed
say_between-returns-in_err-say_listed g t c =
    says_both c.args.before.now (listed printed c.args.values.now ++ c.args.behind.now) _ _ _ _
    c.from_residual-in_err-say_listed.result c.in_ok-say.ensures
    (says_cut (listed printed c.args.values.now) c.args.behind.now _ _ _
    c.from_residual-in_err-say_listed.result c.from_residual-in_err-say_listed.ensures.0
    c.in_err-say_listed.ensures)

pub say_between-returns : goal.say_between-returns
say_between-returns g t c =
    says_both c.args.before.now (listed printed c.args.values.now ++ c.args.behind.now) _ _ _ _
    c.say-2.result c.in_ok-say.ensures
    (says_both (listed printed c.args.values.now) c.args.behind.now _ _ _ _ c.say-2.result
    c.in_ok-say_listed.ensures c.say-2.ensures)

pub say_behind-returns : goal.say_behind-returns
say_behind-returns g t c =
    says_both c.args.before.now (printed c.args.value.now) _ _ _ _ c.say_value.result
    c.in_ok-say.ensures c.say_value.ensures

pub say_side-returns-in_err-say_value : goal.say_side-returns-in_err-say_value
say_side-returns-in_err-say_value g t c =
    says_both c.args.before.now (printed c.args.part.now ++ 41 ∷ []) _ _ _ _
    c.from_residual-in_err-say_value.result c.in_ok-say.ensures
    (says_cut (printed c.args.part.now) (41 ∷ []) _ _ _ c.from_residual-in_err-say_value.result
    c.from_residual-in_err-say_value.ensures.0 c.in_err-say_value.ensures)

pub say_side-returns : goal.say_side-returns
say_side-returns g t c =
    says_both c.args.before.now (printed c.args.part.now ++ 41 ∷ []) _ _ _ _ c.say-2.result
    c.in_ok-say.ensures
    (says_both (printed c.args.part.now)
    (41 ∷ []) _ _ _ _ c.say-2.result c.in_ok-say_value.ensures c.say-2.ensures)

pub say_value-returns-in-List : goal.say_value-returns-in-List
say_value-returns-in-List g t c =
    says_as _ _ _ _ c.say_between.result
    (ap printed c.in-List.is ∙ (printed-List c.in-List.members
    ∙ ap (λ members. codes "[" ++ (listed printed members ++ codes "]"))
    (sym c.as_slice.ensures)))
    c.say_between.ensures

pub say_value-returns-in-Rec : goal.say_value-returns-in-Rec
say_value-returns-in-Rec g t c =
    says_as _ _ _ _ c.say_between-in-Rec.result
    (ap printed c.in-Rec.is ∙ (printed-Rec c.in-Rec.parts ∙ ap
    (λ parts. codes "(" ++ (listed printed parts ++ codes ")"))
    (sym c.as_slice-in-Rec.ensures)))
    c.say_between-in-Rec.ensures

pub say_listed-returns-in_err-say_behind : goal.say_listed-returns-in_err-say_behind
say_listed-returns-in_err-say_behind g t c =
    listed_cut printed c.args.values.now c.loop-at.at c.index-values-at.result _ _ _ _ _ _
    c.from_residual.result
    c.loop-at-test.true (λ k. c.comma_before.ensures k ++ printed (c.index-values-at.is k))
    c.from_residual.ensures.0 c.loop-at.invariant c.in_err-say_behind.ensures

pub say_listed-loop-at-preserved : goal.say_listed-loop-at-preserved
say_listed-loop-at-preserved g t c =
    listed_said printed c.args.values.now c.loop-at.at c.index-values-at.result _ _ _ _ _ _
    c.loop-at-test.true (λ k. c.comma_before.ensures k ++ printed (c.index-values-at.is k))
    c.loop-at.invariant c.in_ok-say_behind.ensures
