use Rattle.std.specs.Prelude.{IfSome}
use Rattle.std.proofs.Common.{ℕ, ◌∷◌, Option, sym, subst, ◌∙◌}
use Rattle.exec_graph.specs.Wellformed.{IsGraphOk}
use Rattle.graph_joins.specs.Sessions.{IsReader}
use Rattle.graph_tracing.specs.declared.trace.Trace.{Trace}
use Rattle.graph_tracing.specs.inner.Named.{trace_of}
use Rattle.graph_tracing.specs.inner.Numbers.{number_in}
use Rattle.graph_tracing.specs.inner.Waiting.{IsLeaving}
use Rattle.graph_tracing.proofs.Kids.{keeps_kid, kid_goes, kid_left, kid_taken}
use Rattle.graph_tracing.proofs.Under.{goes_between, keeps_same, leaves_between, no_kid, table_same}
use Rattle.graph_tracing.proofs.hanging.next_kid.Goals as goal

pub returns-then-not-is_pdo-clause-whole : goal.returns-then-not-is_pdo-clause-whole
returns-then-not-is_pdo-clause-whole c = λ m f ns all u. record {
  gone = u.gone.1;
  underway = kid_left (number_in c.args.kids.numbers) f (trace_of c.args.kids.trace) m
      c.args.number ns all
      (λ p k can. no_kid c.args.kids.trace.joins.graph c.args.number p k
      (sym c.is_pdo.ensures ∙ c.if-not-is_pdo.true) can) u.underway;
}

-- ---- under names

pub after_named_kid-requires-clause-reads : goal.after_named_kid-requires-clause-reads
after_named_kid-requires-clause-reads c =
    let kid = c.likely_kid-kid.result in
    subst (λ (o : Option ℕ). IfSome o (λ n. IsReader c.args.kids.trace.joins.graph
    kid.keeper kid.output kid.reader n)) c.in-Some.is c.read_name.ensures.some

pub returns-in_ok-next-in-Some : goal.returns-in_ok-next-in-Some
returns-in_ok-next-in-Some c =
    let kid = c.likely_kid-kid.result in
    let old = trace_of c.args.kids.trace in
    let new = trace_of c.in_ok-next-in-Some.next.trace in
    let l = number_in c.args.kids.numbers in
    let k = number_in c.in_ok-next-in-Some.next.numbers in
    let is = c.in_ok-next-in-Some.ensures in record {
      session = is.session;
      keeps = keeps_kid old.graph kid.keeper kid.output kid.reader l k c.requires.session.ok
          c.requires.keeps is.can is.numbers;
      traced = kid_goes old new kid.keeper kid.output kid.reader l k c.requires.session.ok
          c.requires.keeps is.can is.numbers is.graph is.rewrites;
      whole = λ m f ns all u. let v = subst (λ (n : ℕ). IsLeaving l f old m (n ∷ ns) all)
          (sym c.likely_kid-kid.ensures) u in record {
            gone = v.gone.1;
            underway = kid_taken old new m kid.keeper kid.output kid.reader ns all l k f is.can
                v.gone.0 is.numbers is.graph is.rewrites v.underway;
          };
    }

-- ---- as the graph is

pub with_kid-requires-clause-ok : goal.with_kid-requires-clause-ok
with_kid-requires-clause-ok c =
    subst (λ (t : Trace). IsGraphOk t.graph) (sym c.in_ok-plain-in-None.ensures.trace)
    c.requires.session.ok

pub with_kid-requires-clause-keeps : goal.with_kid-requires-clause-keeps
with_kid-requires-clause-keeps c =
    keeps_same _ _ c.in_ok-plain-in-None.ensures.numbers c.requires.keeps

pub returns-in_ok-next-in-None : goal.returns-in_ok-next-in-None
returns-in_ok-next-in-None c =
    let before = c.in_ok-plain-in-None.ensures in
    let joined = c.in_ok-joined-in-None.ensures in
    let after = c.in_ok-next-in-None.ensures in record {
      session = after.session;
      keeps = keeps_same _ _ after.numbers joined.keeps;
      traced = goes_between _ _ _ _ _ c.in_ok-plain-in-None.plain.trace
          c.in_ok-joined-in-None.joined.trace _ (table_same _ _ before.numbers) before.trace
          (table_same _ _ after.numbers) after.trace joined.traced;
      whole = λ m f ns all u. leaves_between _ _ _ _ _ c.in_ok-plain-in-None.plain.trace
          c.in_ok-joined-in-None.joined.trace _ (table_same _ _ before.numbers) before.trace
          (table_same _ _ after.numbers) after.trace m f (c.args.number ∷ ns) ns all
          (joined.whole m f ns all) u;
    }
