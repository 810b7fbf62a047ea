use Rattle.std.proofs.Common.{◌≡◌, drop}
use Rattle.outside.specs.Files.{bytes_of}
use Rattle.script_keys.proofs.keys.file_bytes.Given as goal

-- no file before this one has the name
abbrev pub invariant-loop-file : goal.invariant-loop-file
invariant-loop-file l = bytes_of (drop l.file-index l.files) l.name ≡ bytes_of l.files l.name
