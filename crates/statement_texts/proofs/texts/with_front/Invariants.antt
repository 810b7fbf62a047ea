use Rattle.std.proofs.Common.{◌≡◌, ◌≤◌, ◌++◌, drop}
use Rattle.statement_texts.specs.Texts.{kinds_of, parts_from}
use Rattle.statement_texts.specs.inner.Passing.{all_texts, finished}
use Rattle.statement_texts.proofs.texts.with_front.Given as goal

-- the texts so far, with what is left, are all of them; no more braces are open than tokens passed
abbrev pub invariant-loop-token : goal.invariant-loop-token
invariant-loop-token l = record {
  texts : l.texts.items
      ++ finished l.text.items (parts_from l.depth (kinds_of (drop l.token-index l.tokens)))
      ≡ all_texts l.tokens;
  few : l.depth ≤ l.token-index;
}
