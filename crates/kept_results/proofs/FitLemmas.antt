-- What passes the tests may be kept.
use Rattle.std.proofs.Common.{◌≡◌, ◌<◌, ◌^◌, ℕ, Bool, true, false, ◌&&◌, List}
use Rattle.std.proofs.Common.{Some, slice_get, sym, ap, ◌∙◌, subst}
use Rattle.std.specs.Prelude.{All, ◌↔◌}
use Rattle.std.specs.Bool.{IsTrue}
use Rattle.std.specs.List.{list_all}
use Rattle.std.specs.List.Sorted.{IsSorted}
use Rattle.std.specs.Option.{option_map}
use Rattle.std.proofs.lemmas.List.Elements.{All-from_recursion, recursion_from_All}
use Rattle.flume_value.proofs.BoolLemmas.{and_both, both_true}
use Rattle.flume_value.proofs.EachLemmas.{all_pass, each_from, each_passes}
use Rattle.flume_value.specs.Order.{value_cmp}
use Rattle.flume_value.specs.declared.value.Value.{Value}
use Rattle.flume_types.specs.declared.types.Ty.{Ty}
use Rattle.flume_types.specs.Typing.{AllHave, Has, has_type}
use Rattle.saved_results.specs.declared.saved.Saved.{Saved}
use Rattle.saved_results.specs.declared.saved.Size.{Size}
use Rattle.script_program.specs.Rested.{rested_names}
use Rattle.script_program.specs.Script.{Node, Script}
use Rattle.saved_meaning.proofs.of_direct_meaning.PlaceLemmas.{mapped}
use Rattle.kept_results.specs.Kept.{AreMembersFor, IsKeptOf}
use Rattle.kept_results.specs.inner.Named.{are_named}
use Rattle.kept_results.proofs.NameLemmas.{equal-named, named-equal}

typed-all : (type : Ty) (members : List Value) → AllHave type members
    → list_all (λ x. has_type x type) members ≡ true
typed-all type members all =
    all_pass (λ x. has_type x type) members (each_from (Has type) members all)

-- a test of members that fails
module _ (node : Node) (members : List Value) (value : Bool) (none : value ≡ false) where
  untyped : (typed : Bool) → typed ≡ list_all (λ x. has_type x node.type) members
      → typed ≡ false → AreMembersFor node members → value ≡ true
  untyped typed same no_ are =
      let holds : typed ≡ true = same ∙ typed-all node.type members are.typed in
      cc

  never : value ≡ true → AreMembersFor node members
  never holds = let clash : true ≡ false = sym holds ∙ none in cc

  pub untyped_tells : (typed : Bool) → typed ≡ list_all (λ x. has_type x node.type) members
      → typed ≡ false → IsTrue value ↔ AreMembersFor node members
  untyped_tells typed same no_ = (never, untyped typed same no_)

  pub unsorted_tells : (ascending : Bool) → (IsTrue ascending ↔ IsSorted value_cmp members)
      → value ≡ ascending → IsTrue value ↔ AreMembersFor node members
  unsorted_tells ascending sorted is = (never, λ are. is ∙ sorted.1 are.ascending)

module _ (script : Script) (number : ℕ) (node : Node) (saved : Saved)
    (at : option_map (λ (entry : List ℕ × Node). entry.1) (slice_get script.nodes number)
    ≡ Some node) (counts : All (λ (size : Size). size.members < 2 ^ 64) saved.sizes) where
  keeps : (named fits : Bool) → named ≡ are_named saved.sizes (rested_names script number)
      → (IsTrue fits ↔ AreMembersFor node saved.members) → (named && fits) ≡ true
      → IsKeptOf script number saved
  keeps named fits same members both =
      let parts = both_true named fits both in
      let found =
      mapped (λ (entry : List ℕ × Node). entry.1) (slice_get script.nodes number) node at in
      record {
        entry = found.0;
        at = found.1;
        members = subst (λ (n : Node). AreMembersFor n saved.members) (sym found.2)
            (members.0 parts.1);
        names = named-equal saved.sizes (rested_names script number) (sym same ∙ parts.0);
        counts = recursion_from_All (λ (size : Size). size.members < 2 ^ 64) saved.sizes counts;
      }

  kept : (named fits : Bool) → named ≡ are_named saved.sizes (rested_names script number)
      → (IsTrue fits ↔ AreMembersFor node saved.members) → IsKeptOf script number saved
      → (named && fits) ≡ true
  kept named fits same members own =
      let one : Some own.entry.1 ≡ Some node =
      sym (ap (option_map (λ (entry : List ℕ × Node). entry.1)) own.at) ∙ at in
      let is : own.entry.1 ≡ node = cc in
      and_both named fits
      (same ∙ equal-named saved.sizes (rested_names script number) own.names)
      (members.1 (subst (λ (n : Node). AreMembersFor n saved.members) is own.members))

  pub tells : (named fits : Bool) → named ≡ are_named saved.sizes (rested_names script number)
      → (IsTrue fits ↔ AreMembersFor node saved.members)
      → IsTrue (named && fits) ↔ IsKeptOf script number saved
  tells named fits same members = (keeps named fits same members, kept named fits same members)
