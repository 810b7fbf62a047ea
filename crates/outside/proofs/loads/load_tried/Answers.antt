use Rattle.std.proofs.Common.{◌≡◌, Option, Some, None, IfSome, ◌∙◌, rules, arith}
use Rattle.std.specs.Prelude.{⊤}
use Rattle.outside.proofs.AskLemmas.{last_try}
use Rattle.outside.proofs.loads.load_tried.Goals as goal

nothing_said : {A : Type 0} (o : Option A) → IfSome o (λ _. ⊤)
nothing_said None = tt
nothing_said (Some x) = tt

pub returns-in_default : goal.returns-in_default
returns-in_default g c =
    let told = c.loop-turn.invariant.files in
    record {
      files = c.load.ensures.files ∙ told;
      asked = last_try c.args.tries c.loop-turn._turn c.args.name.now
          (g.S.Source.seen c.args.source.now) (g.S.Source.seen c.loop-turn.source)
          (g.S.Source.seen c.load.new.source) c.loop-turn-test.true
          c.loop-turn.invariant.asked c.loop-turn.invariant.rose c.load.ensures.asked
          c.load.ensures.later;
      within = tt;
      bytes = nothing_said (g.S.Source.seen c.args.source.now).files;
      missing = rw told at c.in_default.ensures.missing;
      too_long = rw told at c.in_default.ensures.too_long;
      left = rw told at c.in_default.ensures.left;
      later = omega (arith, c.load.ensures.later, c.loop-turn.invariant.later);
      failed = search rules;
    }

pub returns-in_default-2-clause-asked : goal.returns-in_default-2-clause-asked
returns-in_default-2-clause-asked g c =
    last_try c.args.tries c.loop-turn._turn c.args.name.now (g.S.Source.seen c.args.source.now)
    (g.S.Source.seen c.loop-turn.source) (g.S.Source.seen c.load.new.source) c.loop-turn-test.true
    c.loop-turn.invariant.asked c.loop-turn.invariant.rose c.load.ensures.asked
    c.load.ensures.later
