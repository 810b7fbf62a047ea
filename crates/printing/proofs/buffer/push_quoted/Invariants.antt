use Rattle.std.proofs.Common.{◌≡◌, ◌++◌, drop, codes}
use Rattle.std.specs.List.{flat_map}
use Rattle.printing.specs.Printed.{printed_byte}
use Rattle.printing.proofs.buffer.push_quoted.Given as goal

abbrev pub invariant-loop-byte : goal.invariant-loop-byte
invariant-loop-byte l =
    l.text.items ++ flat_map printed_byte (drop l.byte-index l.name) ≡ l.fn.text.items
    ++ (codes "\"" ++ flat_map printed_byte l.name)
