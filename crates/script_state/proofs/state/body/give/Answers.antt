use Rattle.std.proofs.Common.{◌≡◌, ◌-◌, ◌++◌, take, drop, refl, sym, ap, ◌∙◌, arith}
use Rattle.indexmap.proofs.CallerLemmas.{index_map_len-with_value_at}
use Rattle.script_program.specs.Script.{given}
use Rattle.script_state.proofs.StandingLemmas.{given-step, given-end}
use Rattle.script_state.proofs.state.body.give.Goals as goal

pub loop-place-init : goal.loop-place-init
loop-place-init c =
    let first = c.args.first in
    let entries = c.args.names.now.entries in
    let none : first - first ≡ 0 = omega arith in
    record {
      from = omega arith;
      many = refl;
      given =
          ap (λ n. take first entries ++ given (drop n c.args.numbers.now) (drop first entries))
          none;
    }

pub loop-place-preserved : goal.loop-place-preserved
loop-place-preserved c =
    let before = c.loop-place.names in
    let standing = c.standing_at.result in
    record {
      from = omega (arith, c.loop-place.invariant.from);
      many =
          index_map_len-with_value_at before c.loop-place.place standing
          ∙ c.loop-place.invariant.many;
      given =
          given-step before.entries c.args.first c.loop-place.place c.args.numbers.now standing
          c.loop-place.invariant.from
          (omega (arith, c.loop-place-test.true, c.loop-place.invariant.many)) c.standing_at.ensures
          ∙ c.loop-place.invariant.given;
    }

pub returns : goal.returns
returns c =
    let now = c.loop-place.names.entries in
    sym (given-end now c.loop-place.place (drop (c.loop-place.place - c.args.first)
    c.args.numbers.now) (omega (arith, c.loop-place-test.false, c.loop-place.invariant.many)))
    ∙ c.loop-place.invariant.given
