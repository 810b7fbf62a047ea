use Rattle.std.proofs.Common.{◌≡◌, ◌+◌, ◌<◌, max, length, map, ap, ◌∙◌, subst, arith}
use Rattle.flume_types.specs.Depth.{depth_of, deepest}
use Rattle.type_table.specs.declared.shape.Shape.TheVariants as shape
use Rattle.type_table.specs.Table.{type_at, field_at, tree_of, kept_types, depth_kept, IsWithin}
use Rattle.type_table.proofs.TableLemmas.{depth-Int, depth-Bool, depth-Text, tree-depth}
use Rattle.type_table.proofs.depth.shape_depth.Goals as goal

pub returns-in-Int : goal.returns-in-Int
returns-in-Int c =
    depth-Int c.depth_law.ensures.one_level c.args.shapes.now.entries _ c.in-Int.is

pub returns-in-Bool : goal.returns-in-Bool
returns-in-Bool c =
    depth-Bool c.depth_law.ensures.one_level c.args.shapes.now.entries _ c.in-Bool.is

pub returns-in-Text : goal.returns-in-Text
returns-in-Text c =
    depth-Text c.depth_law.ensures.one_level c.args.shapes.now.entries _ c.in-Text.is

pub returns-in-List : goal.returns-in-List
returns-in-List c =
    let entries = c.args.shapes.now.entries in
    let part = c.in-List.part in
    let e : depth_of (tree_of (kept_types entries) c.args.shape.now) ≡ depth_of
    (type_at (kept_types entries) part) + 1 =
    tree-depth c.depth_law.ensures.one_level entries c.args.shape.now
    (shape.List part) c.in-List.is in
    let within : part < length entries =
    subst (IsWithin (length entries)) c.in-List.is c.requires.within in
    omega (arith, e, c.one_more.ensures, c.depth_at.ensures, c.requires.table.depths part within)

pub returns-in-Rec : goal.returns-in-Rec
returns-in-Rec c =
    let entries = c.args.shapes.now.entries in
    let parts = c.in-Rec.parts in
    let e : depth_of (tree_of (kept_types entries) c.args.shape.now) ≡ deepest depth_of
    (map (field_at (kept_types entries)) parts) + 1 =
    tree-depth c.depth_law.ensures.one_level entries c.args.shape.now
    (shape.Rec parts) c.in-Rec.is in
    let most : c.deepest.result ≡ depth_kept
    (deepest depth_of (map (field_at (kept_types entries)) parts)) = c.deepest.ensures
    ∙ ap (λ parts. depth_kept (deepest depth_of (map (field_at (kept_types entries)) parts)))
    c.as_slice.ensures in
    omega (arith, e, c.one_more-in-Rec.ensures, most)

pub returns-in-Either : goal.returns-in-Either
returns-in-Either c =
    let entries = c.args.shapes.now.entries in
    let left = c.in-Either.left in
    let right = c.in-Either.right in
    let e : depth_of (tree_of (kept_types entries) c.args.shape.now) ≡ max
    (depth_of (type_at (kept_types entries) left)) (depth_of (type_at (kept_types entries) right))
    + 1 =
    tree-depth c.depth_law.ensures.one_level entries c.args.shape.now
    (shape.Either left right) c.in-Either.is in
    let within : IsWithin (length entries) (shape.Either left right) =
    subst (IsWithin (length entries)) c.in-Either.is c.requires.within in
    omega (
      arith,
      e,
      c.one_more-in-Either.ensures,
      c.max.ensures,
      c.depth_at-in-Either.ensures,
      c.depth_at-in-Either-2.ensures,
      c.requires.table.depths left within.0,
      c.requires.table.depths right within.1,
    )
