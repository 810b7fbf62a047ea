use Rattle.std.proofs.Common.{rules, ◌≡◌, ◌++◌, ◌∷◌, refl, sym, ap, ◌∙◌}
use Rattle.phase_outs.proofs.made.made_outs.Goals as goal

pub returns-in-Err-clause-stop : goal.returns-in-Err-clause-stop
returns-in-Err-clause-stop g c =
    let step : c.loop-won.won-iterator.rest.items ≡ c.in-Some.won ∷ c.next.new.self.rest.items =
    search rules in
    record {
      before = c.loop-won.yielded;
      here = c.in-Some.won;
      behind = c.next.new.self.rest.items;
      whole = ap (λ l. c.loop-won.yielded ++ l) (sym step) ∙ c.loop-won.invariant.whole;
      made = c.loop-won.made.outs.items;
      outs = c.loop-won.invariant.made.outs;
      named = (refl, search rules);
    }
