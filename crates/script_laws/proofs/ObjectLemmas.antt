-- What is made of objects, and what makes one, fits.
use Rattle.std.proofs.Common.{◌≡◌, ℕ, true, List, [], ◌∷◌, map, Ok, Some, not, refl, sym, ap, ◌∙◌}
use Rattle.std.proofs.Common.{subst}
use Rattle.std.specs.List.{AllByRecursion as Each, AllZip}
use Rattle.flume_value.proofs.BoolLemmas.{both_true}
use Rattle.flume_types.specs.declared.types.Ty.{Ty, Ty-F, out-Ty}
use Rattle.flume_types.specs.declared.types.Ty.TheVariants as ty
use Rattle.flume_types.specs.declared.types.Field.{Field}
use Rattle.flume_types.specs.Equality.{type_eq}
use Rattle.flume_types.specs.Typing.{types_of}
use Rattle.flume_grammar.specs.declared.fault.ScriptKind.TheVariants.{Mistyped}
use Rattle.combine_table.specs.declared.comb.Comb.{Comb}
use Rattle.script_rules.specs.of_written_types.Answer.{unless, or_fault}
use Rattle.script_rules.specs.of_written_types.Named.{Named}
use Rattle.script_rules.specs.of_script_program.Script.{Callee, Function, Making, Node, Operand}
use Rattle.script_rules.specs.Arguments.{are_both, are_objects, each_fits, is_beside}
use Rattle.script_rules.specs.Arguments.{is_record_of, sole, takes_both, takes_objects}
use Rattle.script_rules.specs.Arguments.{takes_pair, takes_values}
use Rattle.script_rules.specs.Operations as spec
use Rattle.script_rules.specs.Operations.{combined_type, operand_numbers}
use Rattle.script_laws.specs.WellFormed.{IsArgument, IsRecord, members_at, object_at}
use Rattle.script_rules.proofs.CheckedLemmas.{both, holds, there, ok-same}
use Rattle.script_laws.proofs.TypeLemmas.{out-same, same-types}
use Rattle.script_laws.proofs.OperandLemmas.{IsCallee, IsRead}
use Rattle.script_laws.proofs.MakingLemmas.{MakingFits, plain-is, plain-read}

-- ---- what functions of objects take and give

abbrev types : List Operand → List Ty
types operands = map (λ (one : Operand). one.type) operands

each-typed : (operands : List Operand) (fields : List (Field Ty))
    → each_fits operands fields ≡ true → types_of fields ≡ types operands
each-typed [] [] e = refl
each-typed [] (field ∷ fields) e = cc
each-typed (one ∷ others) [] e = cc
each-typed (one ∷ others) (field ∷ fields) e =
    let parts = both_true (type_eq one.type field.ty) (each_fits others fields) e in
    let first : field.ty ≡ one.type = sym (same-types one.type field.ty parts.0) in
    let rest = each-typed others fields parts.1 in
    λ i. first i ∷ rest i

layer-record : (x : Ty-F Ty) (operands : List Operand) (t : Ty) → out-Ty t ≡ x
    → is_record_of operands x ≡ true → IsRecord (types operands) t
layer-record (Ty-F.Rec fields) operands t is e = record {
  fields = fields;
  record_of = out-same t (ty.Rec fields) (is ∙ sym (ty.outs-Rec fields));
  in_order = each-typed operands fields e;
}
layer-record Ty-F.Int operands t is e = cc
layer-record Ty-F.Bool operands t is e = cc
layer-record Ty-F.Text operands t is e = cc
layer-record (Ty-F.List part) operands t is e = cc
layer-record (Ty-F.Either left right_) operands t is e = cc

both-typed : (t u : Ty) (fields : List (Field Ty)) → are_both t u fields ≡ true
    → types_of fields ≡ t ∷ u ∷ []
both-typed t u [] e = cc
both-typed t u (first ∷ []) e = cc
both-typed t u (first ∷ second ∷ []) e =
    let parts = both_true (type_eq t first.ty) (type_eq u second.ty) e in
    let one : first.ty ≡ t = sym (same-types t first.ty parts.0) in
    let other : second.ty ≡ u = sym (same-types u second.ty parts.1) in
    λ i. one i ∷ other i ∷ []
both-typed t u (first ∷ second ∷ third ∷ fields) e = cc

layer-pair : (x : Ty-F Ty) (t u takes : Ty) → out-Ty takes ≡ x → takes_pair t u x ≡ true
    → IsRecord (t ∷ u ∷ []) takes
layer-pair (Ty-F.Rec fields) t u takes is e = record {
  fields = fields;
  record_of = out-same takes (ty.Rec fields) (is ∙ sym (ty.outs-Rec fields));
  in_order = both-typed t u fields e;
}
layer-pair Ty-F.Int t u takes is e = cc
layer-pair Ty-F.Bool t u takes is e = cc
layer-pair Ty-F.Text t u takes is e = cc
layer-pair (Ty-F.List part) t u takes is e = cc
layer-pair (Ty-F.Either left right_) t u takes is e = cc

record-of : (operands : List Operand) (t : Ty) → is_record_of operands (out-Ty t) ≡ true
    → IsRecord (types operands) t
record-of operands t e = layer-record (out-Ty t) operands t refl e

is-argument : (objects : List Operand) (t : Ty) → takes_values objects t ≡ true
    → IsArgument (types objects) t
is-argument [] t e = cc
is-argument (one ∷ []) t e = sym (same-types one.type t e)
is-argument (one ∷ other ∷ others) t e = record-of (one ∷ other ∷ others) t e

sole-is : (gives : List Ty) (t : Ty) → sole gives ≡ Some t → gives ≡ t ∷ []
sole-is [] t e = cc
sole-is (u ∷ []) t e = let same : u ≡ t = cc in ap (λ v. v ∷ []) same
sole-is (u ∷ v ∷ gives) t e = cc

-- ---- what is made

module _ (line : ℕ) (functions : Named Function) (nodes : Named Node) where
  abbrev AreRead : List Operand → Type 0
  AreRead operands = Each (IsRead nodes) operands

  values-read : (objects : List Operand) → AreRead objects
      → AllZip (λ object t. members_at nodes object ≡ Some t) (operand_numbers objects)
      (types objects)
  values-read [] all = tt
  values-read (one ∷ others) all = (all.0.members, values-read others all.1)

  objects-read : (objects : List Operand) → AreRead objects → are_objects objects ≡ true
      → Each (λ number. object_at nodes number ≡ Some true) (operand_numbers objects)
  objects-read [] all are = tt
  objects-read (one ∷ others) all are =
      let parts = both_true one.is_object (are_objects others) are in
      (all.0.kind ∙ ap Some parts.0, objects-read others all.1 parts.1)

  gives-one : (callee : Callee) (is : IsCallee functions callee) (t : Ty)
      → or_fault line Mistyped (sole callee.gives) ≡ Ok t
      → is.function.signature.gives ≡ t ∷ []
  gives-one callee is t e =
      sym is.gives ∙ sole-is callee.gives t (there line Mistyped _ t e)

  pub combine-all-fits : (source : Operand) (by : Comb) (making : Making) → IsRead nodes source
      → spec.combine_all_of line source by ≡ Ok making → MakingFits functions nodes making
  combine-all-fits source by making reads e =
      let plain = both (spec.plain line source) _ making e in
      let value = both (or_fault line Mistyped (combined_type by source.type)) _
      making plain.then in
      subst (MakingFits functions nodes) (ok-same _ making value.then) (record {
        fits = record {
          member = source.type;
          reads = reads.members;
          suits = there line Mistyped _ value.part value.first;
        };
        other = tt;
        kinds = record {
          members = (plain-read nodes line source plain.part reads plain.first, tt);
          values = tt;
        };
      })

  pub operate-fits : (objects : List Operand) (callee : Callee) (making : Making)
      → AreRead objects → IsCallee functions callee
      → spec.operate_of line objects callee ≡ Ok making → MakingFits functions nodes making
  operate-fits objects callee making all is e =
      let fit = both (unless line Mistyped (takes_objects objects callee.takes)) _ making e in
      let value = both (or_fault line Mistyped (sole callee.gives)) _ making fit.then in
      let parts =
      both_true (are_objects objects) (takes_values objects callee.takes)
      (holds line Mistyped _ fit.part fit.first) in
      subst (MakingFits functions nodes) (ok-same _ making value.then) (record {
        fits = record {
          function = is.function;
          calls = is.calls;
          types = types objects;
          reads = values-read objects all;
          takes =
              subst (IsArgument (types objects)) is.takes
              (is-argument objects callee.takes parts.1);
          gives = gives-one callee is value.part value.first;
        };
        other = tt;
        kinds = record { members = tt; values = objects-read objects all parts.0 };
      })

  pub do-with-fits : (source : Operand) (callee : Callee) (object : Operand) (making : Making)
      → IsRead nodes source → IsCallee functions callee → IsRead nodes object
      → spec.do_with_of line source callee object ≡ Ok making
      → MakingFits functions nodes making
  do-with-fits source callee object making reads is reads_object e =
      let fit = both (unless line Mistyped (takes_both source object callee.takes)) _ making e in
      let value = both (or_fault line Mistyped (sole callee.gives)) _ making fit.then in
      let parts =
      both_true (is_beside source object)
      (takes_pair source.type object.type (out-Ty callee.takes))
      (holds line Mistyped _ fit.part fit.first) in
      let own = both_true (not source.is_object) object.is_object parts.0 in
      subst (MakingFits functions nodes) (ok-same _ making value.then) (record {
        fits = record {
          function = is.function;
          calls = is.calls;
          member = source.type;
          value = object.type;
          reads = reads.members;
          reads_object = reads_object.members;
          takes =
              subst (IsRecord (source.type ∷ object.type ∷ [])) is.takes
              (layer-pair (out-Ty callee.takes) source.type object.type callee.takes refl parts.1);
          gives = gives-one callee is value.part value.first;
        };
        other = tt;
        kinds = record {
          members = (plain-is nodes source reads own.0, tt);
          values = (reads_object.kind ∙ ap Some own.1, tt);
        };
      })
