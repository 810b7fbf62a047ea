use Rattle.std.proofs.Common.{◌≡◌, ◌≤◌, ◌<◌, ◌++◌, None, IfSome, replicate}
use Rattle.outside.specs.Cause.{RoseBy}
use Rattle.outside.specs.Files.{bytes_of}
use Rattle.outside.specs.Told.{WhileTold}
use Rattle.outside.proofs.loads.load_tried.Given as goal

-- each turn so far was a fault, and found the name
abbrev pub invariant-loop-turn : goal.invariant-loop-turn
invariant-loop-turn g l = record {
  files : (g.S.Source.seen l.source).files ≡ (g.S.Source.seen l.fn.source).files;
  asked : WhileTold (g.S.Source.seen l.fn.source).asked (g.S.Source.seen l.source).asked
      (λ old new. new ≡ old ++ replicate l._turn l.name);
  found : IfSome (g.S.Source.seen l.fn.source).files
      (λ files. 0 < l._turn → bytes_of files l.name ≡ None → ⊥);
  later : (g.S.Source.seen l.fn.source).faults ≤ (g.S.Source.seen l.source).faults;
  rose : RoseBy l._turn (g.S.Source.seen l.fn.source).faults (g.S.Source.seen l.source).faults;
}
