-- What a host notes of the places that it is asked for.
use Rattle.std.specs.Prelude.{List, []}
use Rattle.outside.specs.declared.host.At.{At}

-- the places that it let through, and those at which it was down, each in the order of the calls
pub record Notes : Type 0 where
  pub passed : List At
  pub downs : List At

-- no place
abbrev pub no_notes : Notes
no_notes = record { passed = []; downs = [] }
