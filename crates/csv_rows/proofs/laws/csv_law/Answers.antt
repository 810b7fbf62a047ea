use Rattle.csv_rows.proofs.Literals.{behind_quote, blank, empty, inner_quote, lone_cr, mark, one_empty, quotes}
use Rattle.csv_rows.proofs.laws.csv_law.Goals as goal

pub returns : goal.returns
returns c = record {
  empty = empty;
  blank = blank;
  mark = mark;
  quotes = quotes;
  lone_cr = lone_cr;
  inner_quote = inner_quote;
  behind_quote = behind_quote;
  one_empty = one_empty;
}
