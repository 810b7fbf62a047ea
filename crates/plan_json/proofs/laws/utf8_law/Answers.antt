use Rattle.std.proofs.Common.{ap}
use Rattle.std.proofs.lemmas.Str.{utf8_lossy-IsUtf8}
use Rattle.serde_json.specs.Data.{string}
use Rattle.plan_json.proofs.laws.utf8_law.Goals as goal

pub returns : goal.returns
returns c = λ text utf8. ap string (utf8_lossy-IsUtf8 text utf8)
