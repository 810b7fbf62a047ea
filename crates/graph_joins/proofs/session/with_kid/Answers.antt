use Rattle.std.proofs.Common.{◌<◌, rules, ap, arith}
use Rattle.exec_graph.specs.Meaning.{place}
use Rattle.graph_states.specs.of_graph_rewrites.Rewrites.{forest_at, input_at}
use Rattle.graph_states.specs.of_pardo_fuse.Readers.{is_pdo}
use Rattle.graph_joins.specs.declared.session.Joins.{Joins}
use Rattle.graph_joins.proofs.Keeping.{kid_can, kid_made, kid_session, name_apart, outs_differ, reads_once}
use Rattle.graph_joins.proofs.session.with_kid.Goals as goal

pub count_off-requires : goal.count_off-requires
count_off-requires c =
    let j = c.args.joins in
    let p = c.args.kid.keeper in
    let q = c.args.kid.reader in
    let r = c.requires.reads in
    reads_once j p q (input_at j.graph p) (place c.args.name 0) (forest_at j.graph p)
    (forest_at j.graph q) c.requires.session r.less r.keeper r.other (omega arith)

pub list_both-requires : goal.list_both-requires
list_both-requires c = c.requires.session.lists

pub relist-requires : goal.relist-requires
relist-requires c = λ e.
    let lt : c.args.kid.keeper < c.args.kid.reader = c.requires.reads.less in omega arith

pub hung-requires-clause-keeper : goal.hung-requires-clause-keeper
hung-requires-clause-keeper c = ap is_pdo c.requires.reads.keeper

pub hung-requires-clause-other : goal.hung-requires-clause-other
hung-requires-clause-other c = ap is_pdo c.requires.reads.other

pub hung-requires-clause-differ : goal.hung-requires-clause-differ
hung-requires-clause-differ c = λ e.
    let lt : c.args.kid.keeper < c.args.kid.reader = c.requires.reads.less in omega arith

pub hung-requires-clause-outs : goal.hung-requires-clause-outs
hung-requires-clause-outs c =
    outs_differ c.args.joins c.args.kid.keeper c.args.kid.output c.args.kid.reader c.args.name
    c.requires.session c.requires.reads

pub hung-requires-clause-apart : goal.hung-requires-clause-apart
hung-requires-clause-apart c =
    name_apart c.args.joins c.args.kid.keeper c.args.kid.output c.args.kid.reader c.args.name
    c.requires.session c.requires.reads

pub returns : goal.returns
returns c =
    let kid = c.args.kid in
    let taken = c.in_ok-taken.ensures in
    let k : Joins = record {
      graph = c.in_ok-taken.taken.graph;
      tables = record {
        counts = c.count_off.new.counts;
        lists = c.relist.new.lists;
        ways = c.note_kid.new.ways;
      };
    } in record {
      session = kid_session c.args.joins k kid.keeper kid.output kid.reader c.args.name _
          c.requires.session c.requires.reads taken.graph c.in_ok-count_off.ensures (search rules)
          c.list_both.new.lists c.in_ok-list_both.ensures c.in_ok-taken.taken.is_bare taken.outs
          c.in_ok-relist.ensures;
      can = kid_can c.args.joins k kid.keeper kid.output kid.reader c.args.name _
          c.requires.session c.requires.reads taken.graph c.in_ok-count_off.ensures
          (search rules);
      made = kid_made c.args.joins k kid.keeper kid.output kid.reader c.args.name _
          c.requires.session c.requires.reads taken.graph c.in_ok-count_off.ensures
          (search rules);
    }
