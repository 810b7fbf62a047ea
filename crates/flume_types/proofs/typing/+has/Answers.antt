use Rattle.std.proofs.Common.{◌∙◌, sym, arith}
use Rattle.std.specs.List.{list_all}
use Rattle.flume_types.specs.Typing.{has_type, each_has}
use Rattle.flume_types.proofs.TypingLemmas.{has_type-List, has_type-Rec, each_has-length}
use Rattle.flume_types.proofs.typing.+has.Goals as goal

pub each_has-returns-then-items-fields : goal.each_has-returns-then-items-fields
each_has-returns-then-items-fields t c =
    sym (each_has-length has_type c.args.items.now c.args.fields.now (omega arith))

pub has_type-returns-in-List-List : goal.has_type-returns-in-List-List
has_type-returns-in-List-List t c =
    c.all_have.ensures ∙ (λ i. list_all (λ x. has_type x (c.get.ensures i)) (c.as_slice.ensures i))
    ∙ sym (has_type-List c.in-List-List.items c.in-List-List.ty)
    ∙ sym (λ i. has_type (c.in-List-List.is-0 i) (c.in-List-List.is-1 i))

pub has_type-returns-in-Rec-Rec : goal.has_type-returns-in-Rec-Rec
has_type-returns-in-Rec-Rec t c =
    c.each_has.ensures ∙ (λ i. each_has has_type (c.as_slice-in-Rec-Rec.ensures i)
    (c.as_slice-in-Rec-Rec-2.ensures i))
    ∙ sym (has_type-Rec c.in-Rec-Rec.items c.in-Rec-Rec.fields)
    ∙ sym (λ i. has_type (c.in-Rec-Rec.is-0 i) (c.in-Rec-Rec.is-1 i))
