use Rattle.std.proofs.Common.{◌≡◌, drop, false}
use Rattle.flume_tokens.specs.Texts.{closed_text, content_ahead}
use Rattle.flume_tokens.proofs.text.closed_text.Given as goal

abbrev pub invariant-loop-i : goal.invariant-loop-i
invariant-loop-i l =
    content_ahead l.content.items l.i (closed_text l.after_backslash (drop l.i l.bytes))
    ≡ closed_text false l.bytes
