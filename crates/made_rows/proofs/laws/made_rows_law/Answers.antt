use Rattle.made_rows.proofs.Decoded.{decoded}
use Rattle.made_rows.proofs.laws.made_rows_law.Goals as goal

pub returns-clause-decoded : goal.returns-clause-decoded
returns-clause-decoded c = decoded

pub returns-clause-inputs : goal.returns-clause-inputs
returns-clause-inputs c start rows first few = (
  record {
    typed = c.rows_law.ensures.typed _ _ _ (decoded start rows first few);
    one = λ is. cc;
  },
  tt,
)
