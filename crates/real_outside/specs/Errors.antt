-- Which error of the system is which answer to the opening of a file.
use Rattle.std.specs.declared.io.ErrorKind.{ErrorKind}
use Rattle.std.specs.declared.io.ErrorKind.TheVariants.{NotFound, NotADirectory}
use Rattle.outside.specs.declared.source.BeginFault.{BeginFault}
use Rattle.outside.specs.declared.source.BeginFault.TheVariants.{Missing, Failed}

-- no file is there where the path's last part, or a folder on the way to it, is missing or no
-- folder; any other error is a failure, that it is a folder itself among them
abbrev pub begin_fault : ErrorKind → BeginFault
begin_fault NotFound = Missing
begin_fault NotADirectory = Missing
begin_fault _ = Failed
