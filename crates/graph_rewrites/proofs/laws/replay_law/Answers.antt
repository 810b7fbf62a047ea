use Rattle.graph_rewrites.proofs.Replaying.{leads_bounded, leads_free, leads_good, leads_ok, leads_on, leads_one, leads_same, stops_once}
use Rattle.graph_rewrites.proofs.laws.replay_law.Goals as goal

pub returns : goal.returns
returns c = record {
  well_formed = leads_ok;
  same = leads_same;
  types = λ rs g b ok l. (leads_good rs g b ok l).types;
  bounds = leads_bounded;
  object_free = leads_free;
  one = leads_one;
  first = stops_once;
  either = leads_on;
}
