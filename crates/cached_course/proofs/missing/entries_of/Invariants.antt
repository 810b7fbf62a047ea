use Rattle.std.proofs.Common.{◌≡◌, ◌+◌, ◌++◌, length, map}
use Rattle.std.specs.List.{AllByRecursion}
use Rattle.std.specs.Vec.Iter.{into_iter_items}
use Rattle.flume_value.specs.Ranges.{IsHeld}
use Rattle.cached_course.specs.declared.missing.Missing.{Missing}
use Rattle.cached_course.specs.inner.Missing.{entry_of, kept_value}
use Rattle.cached_course.proofs.missing.entries_of.Given as goal

-- all is told of what is left
abbrev pub invariant-loop-turn : goal.invariant-loop-turn
invariant-loop-turn l =
    let script = l.program.script in
    let left = into_iter_items l.left in
    let held = λ (it : Missing). IsHeld (kept_value script l.known l.written it) in record {
      count : length left + l._turn ≡ length l.fn.missing.items;
      entries : l.entries.items ++ map (entry_of script l.known l.written) left
          ≡ map (entry_of script l.known l.written) l.fn.missing.items;
      held : AllByRecursion held left → AllByRecursion held l.fn.missing.items;
    }
