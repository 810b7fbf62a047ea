use Rattle.value_reading.proofs.Whole.{only_one}
use Rattle.value_reading.proofs.reading.reading_law.Goals as goal

pub returns : goal.returns
returns c = only_one
