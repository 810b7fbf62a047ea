use Rattle.std.proofs.Common.{◌≡◌, ◌≤◌, ◌<◌, ◌^◌, ℕ, List, ◌++◌, map, drop, length, sym, ap, subst, ◌∙◌, append-nil, arith}
use Rattle.std.proofs.lemmas.List.{drop_all}
use Rattle.exec_plan.specs.declared.plan.OutChannel.{OutChannel}
use Rattle.exec_plan.specs.Wellformed.{widths}
use Rattle.plan_laws.specs.Operations.{numbered_outs, pass_of}
use Rattle.plan_making.proofs.stages.outputs_of.Goals as goal

all_told : {X Y : Type 0} (f : X → Y) (xs : List X) (told all : List Y) (i : ℕ) → length xs ≤ i
    → told ++ map f (drop i xs) ≡ all → told ≡ all
all_told f xs told all i past h =
    sym (ap (λ ys. told ++ map f ys) (drop_all i xs past) ∙ append-nil told) ∙ h

pub numbered_outs-requires : goal.numbered_outs-requires
numbered_outs-requires c =
    subst (λ (os : List OutChannel). widths os < 2 ^ 32)
    (sym (all_told (pass_of c.args.keys.now) c.args.passes.now c.loop-c.outputs.items _
    c.loop-c.c-index (omega arith) c.loop-c.invariant)) c.requires.outputs

pub returns : goal.returns
returns c =
    c.in_ok-outputs.ensures
    ∙ ap (numbered_outs 0) (all_told (pass_of c.args.keys.now) c.args.passes.now
    c.loop-c.outputs.items _ c.loop-c.c-index (omega arith) c.loop-c.invariant)
