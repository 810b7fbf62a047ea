use Rattle.std.specs.Prelude.{◌^◌}
use Rattle.std.proofs.Common.{◌≡◌, ◌+◌, ◌<◌, ap, sym, subst, rules, ◌∙◌}
use Rattle.exec_graph.specs.Readers.{same_place}
use Rattle.exec_graph.specs.declared.graph.Place.{Place}
use Rattle.graph_states.specs.of_graph_rewrites.Rewrites.{forest_at, input_at}
use Rattle.graph_states.specs.of_pardo_fuse.Readers.{is_pdo}
use Rattle.graph_joins.specs.Counts.{count_at_place, one_if}
use Rattle.graph_joins.specs.declared.session.Joins.{Joins}
use Rattle.graph_joins.proofs.Keeping.{pair_can, pair_made, pair_session, reads_once}
use Rattle.graph_joins.proofs.session.with_sibling.Goals as goal

pub count_off-requires : goal.count_off-requires
count_off-requires c =
    let j = c.args.joins in
    let p = c.args.keeper in
    let q = c.args.other in
    let is : c.input-input.result ≡ input_at j.graph p = c.input-input.ensures in
    subst (λ (d : Place). 0 < count_at_place j.tables.counts d) (sym is)
    (reads_once j p q (input_at j.graph p) (input_at j.graph p) (forest_at j.graph p)
    (forest_at j.graph q) c.requires.session c.requires.pair.less c.requires.pair.can.keeper
    c.requires.pair.can.other (subst (λ (d : Place). d.out < 2 ^ 32) is (search rules)))

pub paired-requires-clause-differ : goal.paired-requires-clause-differ
paired-requires-clause-differ c = c.requires.pair.can.differ

pub paired-requires-clause-keeper : goal.paired-requires-clause-keeper
paired-requires-clause-keeper c = ap is_pdo c.requires.pair.can.keeper

pub paired-requires-clause-other : goal.paired-requires-clause-other
paired-requires-clause-other c = ap is_pdo c.requires.pair.can.other

pub returns : goal.returns
returns c =
    let j = c.args.joins in
    let p = c.args.keeper in
    let q = c.args.other in
    let k : Joins = record {
      graph = c.in_ok-taken.taken;
      tables = record {
        counts = c.count_off.new.counts;
        lists = c.unlist.new.lists;
        ways = c.note_sibling.new.ways;
      };
    } in
    let is : c.input-input.result ≡ input_at j.graph p = c.input-input.ensures in record {
      session = pair_session j k p q c.requires.session c.requires.pair c.in_ok-taken.ensures
          (λ v lt. c.in_ok-count_off.ensures v lt
          ∙ ap (λ (d : Place). one_if (same_place v d) + count_at_place k.tables.counts v) is)
          c.unlist.ensures;
      can = pair_can j k p q c.requires.session c.requires.pair c.in_ok-taken.ensures;
      made = pair_made j k p q c.requires.session c.requires.pair c.in_ok-taken.ensures;
      taken = c.in_ok-taken.ensures;
    }
