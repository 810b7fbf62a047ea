use Rattle.printing.proofs.PrintedLemmas.{printed-step, printed-Int, printed-Bool, printed-Text, printed-List, printed-Rec, printed-Left, printed-Right, printed-Wide}
use Rattle.printing.proofs.value.printed_law.Goals as goal

pub returns : goal.returns
returns c = record {
  one_level = printed-step;
  int = printed-Int;
  bool = printed-Bool;
  text = printed-Text;
  list = printed-List;
  rec = printed-Rec;
  left = printed-Left;
  right = printed-Right;
  wide = printed-Wide;
}
