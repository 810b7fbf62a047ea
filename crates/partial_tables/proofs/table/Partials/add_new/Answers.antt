use Rattle.std.proofs.Common.{refl, sym, ap, ◌∙◌, arith}
use Rattle.partial_tables.proofs.Adding.{kept_none, kept_more, put_last_is}
use Rattle.partial_tables.proofs.table.Partials.add_new.Goals as goal

pub returns-then-len-self-clause-refused : goal.returns-then-len-self-clause-refused
returns-then-len-self-clause-refused c =
    rw (← c.self.view_is) (
      refl,
      refl,
      rw (← c.self.view_is) at c.requires.absent,
      omega (arith, c.if-len-self.true, c.len.ensures.len),
      refl,
    )

pub put_last-requires : goal.put_last-requires
put_last-requires c = rw (← c.self.view_is) at c.requires.absent

pub invariant_of-self : goal.invariant_of-self
invariant_of-self c =
    let i = c.self.inside in
    kept_more i.comb i.table.entries _ c.args.key c.args.acc
    (c.in-Ok.ensures
    ∙ sym (put_last_is i.comb i.table.entries c.args.key c.args.acc
    (rw (← c.self.view_is) at c.requires.absent)))
    (rw (← c.self.view_is) at c.requires.shape) c.self.invariant

pub returns-in-Ok-clause-added : goal.returns-in-Ok-clause-added
returns-in-Ok-clause-added c =
    let i = c.self.inside in
    rw (← c.self.view_is)
    (ap (λ ps. record { comb = i.comb; room = i.room; partials = ps })
    (c.in-Ok.ensures
    ∙ sym (put_last_is i.comb i.table.entries c.args.key c.args.acc
    (rw (← c.self.view_is) at c.requires.absent))))

pub invariant_of-self-in-Err : goal.invariant_of-self-in-Err
invariant_of-self-in-Err c = kept_none c.self.inside.comb c.clear.new.table.entries c.clear.ensures
