-- Loads of files.
use Rattle.outside.specs.declared.source.BeginFault.{BeginFault}
use Rattle.outside.specs.declared.source.BeginFault.TheVariants.{Missing as NoSuchFile, Failed as BeginFailed}
use Rattle.outside.specs.declared.loads.LoadFault.{LoadFault}
use Rattle.outside.specs.declared.loads.LoadFault.TheVariants.{Missing, Failed}

-- what a load answers where its begin was refused
abbrev pub fault_of : BeginFault → LoadFault
fault_of NoSuchFile = Missing
fault_of BeginFailed = Failed
