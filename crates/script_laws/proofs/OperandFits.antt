-- What operations make of operands fits.
use Rattle.std.proofs.Common.{◌≡◌, true, false, ◌&&◌, not, List, [], ◌∷◌, Some, Ok, refl, sym}
use Rattle.std.proofs.Common.{ℕ, ap, ◌∙◌, subst, arith}
use Rattle.std.specs.List.{All, AllByRecursion}
use Rattle.std.proofs.lemmas.List.Elements.{All-from_recursion}
use Rattle.flume_value.proofs.BoolLemmas.{both_true}
use Rattle.flume_types.specs.declared.types.Ty.{Ty, out-Ty}
use Rattle.flume_types.specs.declared.types.Ty.TheVariants as ty
use Rattle.flume_types.specs.Equality.{type_eq}
use Rattle.flume_types.specs.Tables.{table_of}
use Rattle.flume_grammar.specs.declared.fault.ScriptKind.TheVariants.{Mistyped, NotTable}
use Rattle.combine_table.specs.declared.comb.Comb.{Comb}
use Rattle.script_rules.specs.of_written_types.Answer.{unless, or_fault}
use Rattle.script_rules.specs.of_written_types.Named.{Named}
use Rattle.script_rules.specs.of_script_program.Script.{Function, Node, Operand, Callee, Making}
use Rattle.script_rules.specs.Arguments.{are_plain, takes_members}
use Rattle.script_rules.specs.Operations as spec
use Rattle.script_rules.specs.Operations.{Pair, pair_in, combined_type, operand_numbers}
use Rattle.script_rules.specs.Operations.{all_same}
use Rattle.script_laws.specs.WellFormed.{members_at, object_at}
use Rattle.script_rules.proofs.CheckedLemmas.{both, holds, there, ok-same}
use Rattle.script_laws.proofs.TypeLemmas.{same-types, is-table, is-list}
use Rattle.script_laws.proofs.OperandLemmas.{IsRead, IsCallee}
use Rattle.script_laws.proofs.MakingLemmas.{AreOutputs, MakingFits, plain-is, plain-read}

module _ (line : ℕ) (functions : Named Function) (nodes : Named Node) where
  abbrev Fine : Making → Type 0
  Fine making = MakingFits functions nodes making

  is-pair : (t : Ty) (pair : Pair) → spec.pair_of line t ≡ Ok pair
      → t ≡ table_of pair.key pair.value
  is-pair t pair e = is-table t pair (there line NotTable (pair_in (out-Ty t)) pair e)

  pub do-makes : (source : Operand) (callee : Callee) (makings : List Making) → IsRead nodes source
      → IsCallee functions callee → spec.do_of line source callee ≡ Ok makings
      → AreOutputs functions nodes makings
  do-makes source callee makings reads is e =
      let same = both (unless line Mistyped (takes_members source callee.takes)) _ makings e in
      let parts =
      both_true (not source.is_object) (type_eq source.type callee.takes)
      (holds line Mistyped _ same.part same.first) in
      let types : source.type ≡ callee.takes = same-types source.type callee.takes parts.1 in
      record {
        source = source.number;
        called = callee.number;
        function = is.function;
        calls = is.calls;
        takes = reads.members ∙ ap Some (types ∙ is.takes);
        plain = plain-is nodes source reads parts.0;
        are =
            sym (ok-same _ makings same.then)
            ∙ ap (spec.outputs_from source.number callee.number 0) is.gives;
      }

  pub group-fits : (source : Operand) (making : Making) → IsRead nodes source
      → spec.group_making line source ≡ Ok making → Fine making
  group-fits source making reads e =
      let pair = both (spec.pair_of line source.type) _ making e in
      let plain = both (spec.plain line source) _ making pair.then in
      subst Fine (ok-same _ making plain.then) (record {
        fits = record {
          key = pair.part.key;
          value = pair.part.value;
          reads = reads.members ∙ ap Some (is-pair source.type pair.part pair.first);
          gives = refl;
        };
        other = tt;
        kinds = record {
          members = (plain-read nodes line source plain.part reads plain.first, tt);
          values = tt;
        };
      })

  pub combine-fits : (source : Operand) (by : Comb) (making : Making) → IsRead nodes source
      → spec.combine_of line source by ≡ Ok making → Fine making
  combine-fits source by making reads e =
      let pair = both (spec.pair_of line source.type) _ making e in
      let member = both (spec.member_of line pair.part.value) _ making pair.then in
      let plain = both (spec.plain line source) _ making member.then in
      let value = both (or_fault line Mistyped (combined_type by member.part)) _
      making plain.then in
      let list : pair.part.value ≡ ty.List member.part =
      is-list pair.part.value member.part (there line NotTable _ member.part member.first) in
      subst Fine (ok-same _ making value.then) (record {
        fits = record {
          key = pair.part.key;
          member = member.part;
          value = value.part;
          reads =
              reads.members
              ∙ ap Some
              (is-pair source.type pair.part pair.first ∙ ap (table_of pair.part.key) list);
          suits = there line Mistyped _ value.part value.first;
          gives = refl;
        };
        other = tt;
        kinds = record {
          members = (plain-read nodes line source plain.part reads plain.first, tt);
          values = tt;
        };
      })

  pub count-fits : (source : Operand) → IsRead nodes source
      → object_at nodes source.number ≡ Some false → Fine (spec.count_making source)
  count-fits source reads plain = record {
    fits = record { member = source.type; reads = reads.members; gives = refl };
    other = tt;
    kinds = record { members = (plain, tt); values = tt };
  }

  pub join-fits : (left right : Operand) (making : Making) → IsRead nodes left → IsRead nodes right
      → spec.join_of line left right ≡ Ok making → Fine making
  join-fits left right making reads_left reads_right e =
      let lefts = both (spec.pair_of line left.type) _ making e in
      let rights = both (spec.pair_of line right.type) _ making lefts.then in
      let same =
      both (unless line Mistyped (are_plain left right && type_eq lefts.part.key rights.part.key))
      _ making rights.then in
      let parts =
      both_true (are_plain left right) (type_eq lefts.part.key rights.part.key)
      (holds line Mistyped _ same.part same.first) in
      let plain = both_true (not left.is_object) (not right.is_object) parts.0 in
      let keys : lefts.part.key ≡ rights.part.key =
      same-types lefts.part.key rights.part.key parts.1 in
      subst Fine (ok-same _ making same.then) (record {
        fits = record {
          key = lefts.part.key;
          left_value = lefts.part.value;
          right_value = rights.part.value;
          reads_left = reads_left.members ∙ ap Some (is-pair left.type lefts.part lefts.first);
          reads_right =
              reads_right.members
              ∙ ap Some
              (is-pair right.type rights.part rights.first
              ∙ ap (λ key. table_of key rights.part.value) (sym keys));
          gives = refl;
        };
        other = tt;
        kinds = record {
          members = (
            plain-is nodes left reads_left plain.0,
            (plain-is nodes right reads_right plain.1, tt),
          );
          values = tt;
        };
      })

  -- ---- flatten

  abbrev AreRead : List Operand → Type 0
  AreRead sources = AllByRecursion (IsRead nodes) sources

  abbrev HasType : Ty → ℕ → Type 0
  HasType t number = members_at nodes number ≡ Some t

  same-read : (t : Ty) (sources : List Operand) → AreRead sources → all_same t sources ≡ true
      → AllByRecursion (HasType t) (operand_numbers sources)
  same-read t [] all same = tt
  same-read t (source ∷ sources) all same =
      let parts =
      both_true (not source.is_object && type_eq t source.type) (all_same t sources) same in
      let own = both_true (not source.is_object) (type_eq t source.type) parts.0 in (
        all.0.members ∙ ap Some (sym (same-types t source.type own.1)),
        same-read t sources all.1 parts.1,
      )

  plain-all : (t : Ty) (sources : List Operand) → AreRead sources → all_same t sources ≡ true
      → AllByRecursion (λ number. object_at nodes number ≡ Some false) (operand_numbers sources)
  plain-all t [] all same = tt
  plain-all t (source ∷ sources) all same =
      let parts =
      both_true (not source.is_object && type_eq t source.type) (all_same t sources) same in
      let own = both_true (not source.is_object) (type_eq t source.type) parts.0 in
      (plain-is nodes source all.0 own.0, plain-all t sources all.1 parts.1)

  pub flatten-fits : (sources : List Operand) (making : Making) → AreRead sources
      → spec.flatten_of line sources ≡ Ok making → Fine making
  flatten-fits [] making all e = cc
  flatten-fits (first ∷ others) making all e =
      let one = both (spec.one_type line (first ∷ others)) _ making e in
      let same =
      both (unless line Mistyped (all_same first.type (first ∷ others))) _ one.part one.first in
      let type : first.type ≡ one.part = ok-same first.type one.part same.then in
      let are = holds line Mistyped _ same.part same.first in
      subst Fine (ok-same _ making one.then) (record {
        fits = record {
          some = omega arith;
          read =
              subst (λ t. All (HasType t) (operand_numbers (first ∷ others))) type
              (All-from_recursion (HasType first.type) (operand_numbers (first ∷ others))
              (same-read first.type (first ∷ others) all are));
        };
        other = tt;
        kinds = record {
          members = plain-all first.type (first ∷ others) all are;
          values = tt;
        };
      })
