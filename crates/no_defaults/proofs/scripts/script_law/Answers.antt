use Rattle.std.proofs.Common.{sym}
use Rattle.bag_laws.proofs.of_direct_meaning.PlaceLemmas.{zip_length}
use Rattle.bag_laws.specs.of_direct_meaning.Made.{IsMadeFor}
use Rattle.no_defaults.proofs.ScriptLemmas.{all_cells, reads_all}
use Rattle.no_defaults.proofs.scripts.script_law.Goals as goal

pub returns-clause-reads : goal.returns-clause-reads
returns-clause-reads c = λ script made number how well are found.
    reads_all script well made are number how found

pub returns-clause-cells : goal.returns-clause-cells
returns-clause-cells c = λ script made well are. all_cells script well made are

pub returns-clause-places : goal.returns-clause-places
returns-clause-places c = λ script made are.
    sym (zip_length IsMadeFor script.nodes made are.each)
