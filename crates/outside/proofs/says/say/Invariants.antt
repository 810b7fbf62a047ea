use Rattle.std.proofs.Common.{◌≡◌, ◌-◌, ◌≤◌, ◌++◌, length, take}
use Rattle.std.specs.Option.{option_map}
use Rattle.outside.proofs.says.say.Given as goal

-- the screen has the text as far as it is done
abbrev pub invariant-loop-done : goal.invariant-loop-done
invariant-loop-done g l = record {
  within : l.done ≤ length l.text;
  text : (g.P.Screen.seen l.screen).text ≡ option_map (λ old. old ++ take l.done l.text)
      (g.P.Screen.seen l.fn.screen).text;
  faults : (g.P.Screen.seen l.screen).faults ≡ (g.P.Screen.seen l.fn.screen).faults;
}

abbrev pub decreases-loop-done : goal.decreases-loop-done
decreases-loop-done g l = length l.text - l.done
