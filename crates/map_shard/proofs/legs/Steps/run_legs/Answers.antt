use Rattle.std.proofs.Common.{◌≡◌, ◌++◌, List, append_assoc, length, arith, rules, ap, ◌∙◌, subst}
use Rattle.std.proofs.lemmas.Grind.{common_steps}
use Rattle.flume_value.specs.declared.value.Value.{Value}
use Rattle.shuffle_parts.proofs.Parting.{all_taken}
use Rattle.map_shard.specs.inner.Legs.{HaveRun}
use Rattle.map_shard.proofs.Legging.{can_both}
use Rattle.map_shard.proofs.legs.Steps.run_legs.Goals as goal

pub run_leg-requires : goal.run_leg-requires
run_leg-requires g c =
    (can_both _ _ _ c.requires.single c.cut.result.0.now c.cut.result.1.now _
    c.cut.ensures.whole c.requires.can).0

pub turns-init : goal.turns-init
turns-init g c = (c.cut.result.0.now, c.cut.ensures.whole, c.in_ok-legs.ensures)

pub add_leg-requires-clause-can : goal.add_leg-requires-clause-can
add_leg-requires-clause-can g c =
    let was = c.turns.invariant in
    let next = c.cut-in-turns in
    let left = can_both _ _ _ c.requires.single was.0 c.turns.left.now _ was.1 c.requires.can in
    (can_both _ _ _ c.requires.single next.result.0.now next.result.1.now _
    next.ensures.whole left.1).0

pub add_leg-requires-clause-stands : goal.add_leg-requires-clause-stands
add_leg-requires-clause-stands g c = (c.turns.invariant.0, c.turns.invariant.2)

pub turns-preserved : goal.turns-preserved
turns-preserved g c =
    let was = c.turns.invariant in
    let next = c.cut-in-turns in (
      was.0 ++ next.result.0.now,
      append_assoc was.0 next.result.0.now next.result.1.now
          ∙ ap (λ (l : List Value). was.0 ++ l) next.ensures.whole ∙ was.1,
      c.in_ok-more.ensures was.0 was.2,
    )

pub returns : goal.returns
returns g c =
    let was = c.turns.invariant in
    let none : length c.turns.left.now ≡ 0 = first_of (search rules, grind (arith, common_steps)) in
    subst (λ (l : List Value). HaveRun g.F.Functions.called c.args.self.now l c.turns.legs)
    (all_taken was.0 c.turns.left.now c.args.elements.now was.1 none) was.2
