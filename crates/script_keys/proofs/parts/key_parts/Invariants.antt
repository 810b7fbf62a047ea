use Rattle.std.proofs.Common.{◌≡◌, ◌++◌, drop}
use Rattle.script_keys.specs.Keys.{key_parts_from}
use Rattle.script_keys.proofs.parts.key_parts.Given as goal

-- the parts so far, with those of the statements that are left, are all
abbrev pub invariant-loop-k : goal.invariant-loop-k
invariant-loop-k l =
    l.parts.items ++ key_parts_from l.name (drop l.k l.outlines) (drop l.k l.texts)
    ≡ key_parts_from l.name l.outlines l.texts
