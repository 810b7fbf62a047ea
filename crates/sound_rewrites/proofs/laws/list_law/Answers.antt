use Rattle.sound_rewrites.proofs.Making.{all_made, leads_made, list_same, made_one}
use Rattle.sound_rewrites.proofs.laws.list_law.Goals as goal

pub returns : goal.returns
returns c = record {
  sound = λ rs g h ok m. (all_made rs g h ok m).ok;
  same = list_same;
  types = λ rs g h ok m. (all_made rs g h ok m).types;
  one = made_one;
  within = leads_made;
}
