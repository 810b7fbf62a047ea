use Rattle.std.proofs.Common.{◌≡◌, ◌++◌, drop}
use Rattle.token_spelling.specs.Spelled.{escaped}
use Rattle.statement_texts.proofs.written.push_escaped.Given as goal

-- the text so far, with what is left, is the whole
abbrev pub invariant-loop-byte : goal.invariant-loop-byte
invariant-loop-byte l =
    l.text.items ++ escaped (drop l.byte-index l.content) ≡ l.fn.text.items ++ escaped l.content
