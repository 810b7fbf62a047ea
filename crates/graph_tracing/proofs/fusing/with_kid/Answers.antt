use Rattle.std.proofs.Common.{List, sym, ap, ◌∙◌}
use Rattle.exec_graph.specs.declared.graph.Entry.{Entry}
use Rattle.graph_tracing.specs.inner.Callers.{read_in}
use Rattle.graph_tracing.specs.inner.Numbers.{number_in}
use Rattle.graph_tracing.proofs.Keepers.{read_none, read_some}
use Rattle.graph_tracing.proofs.Kids.{keeps_kid, kid_goes, kid_left, kid_ok, kid_taken}
use Rattle.graph_tracing.proofs.fusing.with_kid.Goals as goal

pub after_kid-requires-clause-can : goal.after_kid-requires-clause-can
after_kid-requires-clause-can c =
    read_some c.args.kids.trace.graph c.args.number c.in-Some.read
    (ap (λ (l : List Entry). read_in l c.args.number) (sym c.as_slice.ensures)
    ∙ sym c.read_of.ensures ∙ c.in-Some.is)

pub returns-in_ok-next-in-Some : goal.returns-in_ok-next-in-Some
returns-in_ok-next-in-Some c =
    let old = c.args.kids.trace in
    let new = c.in_ok-next-in-Some.next.trace in
    let read = c.in-Some.read in
    let q = c.args.number in
    let l = number_in c.args.kids.numbers in
    let k = number_in c.in_ok-next-in-Some.next.numbers in
    let is = c.in_ok-next-in-Some.ensures in
    let can = read_some old.graph q read
    (ap (λ (l : List Entry). read_in l q) (sym c.as_slice.ensures) ∙ sym c.read_of.ensures
    ∙ c.in-Some.is) in record {
      ok = kid_ok old.graph new.graph read.node read.out q c.requires.ok can is.graph;
      keeps = keeps_kid old.graph read.node read.out q l k c.requires.ok c.requires.keeps can
          is.numbers;
      traced = kid_goes old new read.node read.out q l k c.requires.ok c.requires.keeps can
          is.numbers is.graph is.rewrites;
      whole = λ m f ns all u. record {
        gone = u.gone.1;
        underway = kid_taken old new m read.node read.out q ns all l k f can u.gone.0 is.numbers
            is.graph is.rewrites u.underway;
      };
    }

pub returns-in-None-clause-whole : goal.returns-in-None-clause-whole
returns-in-None-clause-whole c = λ m f ns all u. record {
  gone = u.gone.1;
  underway = kid_left (number_in c.args.kids.numbers) f c.args.kids.trace m c.args.number ns all
      (λ p k can. read_none c.args.kids.trace.graph c.args.number p k
      (ap (λ (l : List Entry). read_in l c.args.number) (sym c.as_slice.ensures)
      ∙ sym c.read_of.ensures ∙ c.in-None.is) can) u.underway;
}
