use Rattle.std.proofs.Common.{◌∙◌, ap, arith, map, sym}
use Rattle.std.proofs.lemmas.List.{length-map}
use Rattle.std.specs.List.{list_all}
use Rattle.flume_types.proofs.TypingLemmas.{each_has-length}
use Rattle.flume_types.specs.Typing.{each_has, has_type}
use Rattle.flume_types.specs.declared.types.Ty.{Ty-F}
use Rattle.flume_value.specs.declared.value.Value.{Value-F, out-Value}
use Rattle.flume_value.specs.declared.value.Value.TheVariants as variant
use Rattle.type_table.specs.Table.{field_at, shape_layer, type_at}
use Rattle.kept_results.proofs.TypingLemmas.{shaped}
use Rattle.kept_results.proofs.typing.+has.Goals as goal

pub each_has-returns-then-items-parts : goal.each_has-returns-then-items-parts
each_has-returns-then-items-parts t c =
    let parts = c.args.parts.now in
    let fields = field_at c.args.types.now in
    sym
    (each_has-length has_type c.args.items.now (map fields parts)
    (omega (arith, c.if-items-parts.true, length-map parts fields)))

pub has_type-returns-in-Int : goal.has_type-returns-in-Int
has_type-returns-in-Int t c =
    let n = c.in-Int.field-0 in
    let types = c.args.types.now in
    c.is_int.ensures types n
    ∙ sym
    (shaped c.args.value.now (type_at types c.args.id) (Value-F.Int n)
    (shape_layer types c.shape-shape.result.now) (ap out-Value c.in-Int.is ∙ variant.outs-Int n)
    c.shape-shape.ensures.level)

pub has_type-returns-in-Bool : goal.has_type-returns-in-Bool
has_type-returns-in-Bool t c =
    let b = c.in-Bool.field-0 in
    let types = c.args.types.now in
    c.is_bool.ensures types b
    ∙ sym
    (shaped c.args.value.now (type_at types c.args.id) (Value-F.Bool b)
    (shape_layer types c.shape-shape.result.now) (ap out-Value c.in-Bool.is ∙ variant.outs-Bool b)
    c.shape-shape.ensures.level)

pub has_type-returns-in-Text : goal.has_type-returns-in-Text
has_type-returns-in-Text t c =
    let text = c.in-Text.field-0 in
    let types = c.args.types.now in
    c.is_text.ensures types text
    ∙ sym
    (shaped c.args.value.now (type_at types c.args.id) (Value-F.Text text)
    (shape_layer types c.shape-shape.result.now) (ap out-Value c.in-Text.is ∙ variant.outs-Text
    text)
    c.shape-shape.ensures.level)

pub has_type-returns-in-List-shape : goal.has_type-returns-in-List-shape
has_type-returns-in-List-shape t c =
    let items = c.in-List.items in
    let types = c.args.types.now in
    let part = type_at types c.in-List-shape.part in
    c.all_have.ensures
    ∙ (λ i. list_all (λ x. has_type x part) (c.as_slice.ensures i))
    ∙ sym
    (shaped c.args.value.now (type_at types c.args.id) (Value-F.List items) (Ty-F.List part)
    (ap out-Value c.in-List.is ∙ variant.outs-List items)
    (c.shape-shape.ensures.level ∙ ap (shape_layer types) c.in-List-shape.is))

pub has_type-returns-in-Rec-shape : goal.has_type-returns-in-Rec-shape
has_type-returns-in-Rec-shape t c =
    let items = c.in-Rec.items in
    let types = c.args.types.now in
    let parts = c.in-Rec-shape.parts in
    c.each_has.ensures
    ∙ (λ i. each_has has_type (c.as_slice-in-Rec-shape.ensures i)
    (map (field_at types) (c.as_slice-in-Rec-shape-2.ensures i)))
    ∙ sym
    (shaped c.args.value.now (type_at types c.args.id) (Value-F.Rec items)
    (Ty-F.Rec (map (field_at types) parts)) (ap out-Value c.in-Rec.is ∙ variant.outs-Rec items)
    (c.shape-shape.ensures.level ∙ ap (shape_layer types) c.in-Rec-shape.is))
