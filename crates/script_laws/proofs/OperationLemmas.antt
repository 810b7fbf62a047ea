-- What an operation makes fits.
use Rattle.std.proofs.Common.{◌≡◌, ℕ, ℤ, pos, ◌≤◌, Bool, true, false, ◌&&◌, nat_le, List, []}
use Rattle.std.proofs.Common.{◌∷◌, ◌++◌, Option, Some, None, option_and_then, if◌then◌else◌, Ok}
use Rattle.std.proofs.Common.{◌⊎◌, inl, inr, refl, sym, subst}
use Rattle.std.specs.List.{All}
use Rattle.std.proofs.lemmas.Bool.{leb-true}
use Rattle.std.proofs.lemmas.List.Elements.{All-push, All-nil, recursion_from_All}
use Rattle.flume_value.proofs.BoolLemmas.{both_true}
use Rattle.combine_table.specs.declared.comb.Comb.{Comb}
use Rattle.flume_grammar.specs.declared.tree.Operation.{Operation}
use Rattle.flume_grammar.specs.declared.tree.Operation.TheVariants as operation
use Rattle.flume_grammar.specs.declared.fault.ScriptKind.TheVariants.{BadNumber}
use Rattle.flume_grammar.specs.declared.tree.Combiner.{Combiner}
use Rattle.int_text.specs.Ints.{int_of_text}
use Rattle.script_rules.specs.of_written_types.Answer.{Checked, ◌>>=◌}
use Rattle.script_rules.specs.of_expression_check.Numbers.{within}
use Rattle.script_rules.specs.of_script_program.Script.{State, Operand, Making}
use Rattle.script_rules.specs.Operations as spec
use Rattle.script_laws.specs.WellFormed.{object_at}
use Rattle.script_rules.proofs.CheckedLemmas.{both, there, ok-same}
use Rattle.script_laws.proofs.OperandLemmas.{IsRead, is-read, is-callee}
use Rattle.script_laws.proofs.MakingLemmas.{AreOutputs, IsAlone, MakingFits, plain-read}
use Rattle.script_laws.proofs.ObjectLemmas.{combine-all-fits, do-with-fits, operate-fits}
use Rattle.script_laws.proofs.OperandFits.{combine-fits, count-fits, do-makes, flatten-fits}
use Rattle.script_laws.proofs.OperandFits.{group-fits, join-fits}

-- ---- operations as they are written

module _ (line : ℕ) (s : State) where
  abbrev Makes : Making → Type 0
  Makes making = MakingFits s.functions s.nodes making

  pub all-read : (found : List Operand) (names : List (List ℕ)) (sources : List Operand)
      → All (IsRead s.nodes) found → spec.collections_behind line found names s ≡ Ok sources
      → All (IsRead s.nodes) sources
  all-read found [] sources all e = subst (All (IsRead s.nodes)) (ok-same found sources e) all
  all-read found (name ∷ names) sources all e =
      let one = both (spec.operand_named line name s) _ sources e in
      all-read (found ++ one.part ∷ []) names sources
      (All-push (IsRead s.nodes) found one.part all (is-read line s name one.part one.first))
      one.then

  flattened-fits : (names : List (List ℕ)) (making : Making)
      → spec.flattened line names s ≡ Ok making
      → Makes making
  flattened-fits names making e =
      let all = both (spec.collections_behind line [] names s) _ making e in
      let read = all-read [] names all.part (All-nil (IsRead s.nodes)) all.first in
      flatten-fits line s.functions s.nodes all.part making
      (recursion_from_All (IsRead s.nodes) all.part read) all.then

  in-limits : (low high : ℕ) (test : Bool) (n number : ℕ)
      → (test ≡ true → (low ≤ n) × (n ≤ high))
      → (if test then Some n else None) ≡ Some number → (low ≤ number) × (number ≤ high)
  in-limits low high true n number limits e =
      let same : n ≡ number = cc in
      subst (λ n. (low ≤ n) × (n ≤ high)) same (limits refl)
  in-limits low high false n number limits e = cc

  within-limits : (low high : ℕ) (z : ℤ) (number : ℕ) → within low high z ≡ Some number
      → (low ≤ number) × (number ≤ high)
  within-limits low high (pos n) number e =
      in-limits low high (nat_le low n && nat_le n high) n number
      (λ test.
      let parts = both_true (nat_le low n) (nat_le n high) test in
      (leb-true low n parts.0, leb-true n high parts.1))
      e
  within-limits low high _ number e = cc

  number-limits : (low high : ℕ) (o : Option ℤ) (number : ℕ)
      → option_and_then (within low high) o ≡ Some number → (low ≤ number) × (number ≤ high)
  number-limits low high None number e = cc
  number-limits low high (Some z) number e = within-limits low high z number e

  top-fits : (digits : List ℕ) (source : Operand) (number : ℕ) → IsRead s.nodes source
      → object_at s.nodes source.number ≡ Some false → spec.top_number line digits ≡ Ok number
      → Makes (spec.top_of number source)
  top-fits digits source number reads plain e =
      let limits =
      number-limits 1 1000 (int_of_text digits) number (there line BadNumber _ number e) in
      record {
        fits = record { least = limits.0; most = limits.1; reads = reads.members };
        other = tt;
        kinds = record { members = (plain, tt); values = tt };
      }

  -- what each operation but a call makes

  grouped-fits : (source : List ℕ) (making : Making) → spec.group_rule line source s ≡ Ok making
      → Makes making
  grouped-fits source making e =
      let one = both (spec.operand_named line source s) _ making e in
      group-fits line s.functions s.nodes one.part making
      (is-read line s source one.part one.first) one.then

  -- what two results make, one behind the other
  of-two : {A B C : Type 0} (P : C → Type 0) (a : Checked A) (b : Checked B)
      (of : A → B → Checked C)
      → ((x : A) (y : B) (z : C) → a ≡ Ok x → b ≡ Ok y → of x y ≡ Ok z → P z)
      → (z : C) → (a >>= (λ x. b >>= of x)) ≡ Ok z → P z
  of-two P a b of each z e =
      let one = both a _ z e in
      let two = both b _ z one.then in
      each one.part two.part z one.first two.first two.then

  -- what is made of a collection by a combiner
  combined-fits : (of : Operand → Comb → Checked Making)
      → ((one : Operand) (by : Comb) (making : Making) → IsRead s.nodes one
      → of one by ≡ Ok making → Makes making)
      → (source : List ℕ) (combiner : Combiner) (making : Making)
      → (spec.operand_named line source s >>= (λ one. spec.comb_for line combiner >>= of one))
      ≡ Ok making
      → Makes making
  combined-fits of fits source combiner =
      of-two Makes (spec.operand_named line source s) (spec.comb_for line combiner) of
      (λ one by making first second. fits one by making (is-read line s source one first))

  counted-fits : (source : List ℕ) (making : Making) → spec.count_rule line source s ≡ Ok making
      → Makes making
  counted-fits source making e =
      let one = both (spec.operand_named line source s) _ making e in
      let plain = both (spec.plain line one.part) _ making one.then in
      let reads = is-read line s source one.part one.first in
      subst Makes (ok-same _ making plain.then)
      (count-fits line s.functions s.nodes one.part reads
      (plain-read s.nodes line one.part plain.part reads plain.first))

  joined-fits : (left right : List ℕ) (making : Making)
      → spec.join_rule line left right s ≡ Ok making
      → Makes making
  joined-fits left right =
      of-two Makes (spec.operand_named line left s) (spec.operand_named line right s)
      (spec.join_of line)
      (λ one other making first second.
      join-fits line s.functions s.nodes one other making (is-read line s left one first)
      (is-read line s right other second))

  greatest-fits : (digits source : List ℕ) (making : Making)
      → spec.top_rule line digits source s ≡ Ok making → Makes making
  greatest-fits digits source making e =
      let one = both (spec.operand_named line source s) _ making e in
      let number = both (spec.top_number line digits) _ making one.then in
      let plain = both (spec.plain line one.part) _ making number.then in
      let reads = is-read line s source one.part one.first in
      subst Makes (ok-same _ making plain.then)
      (top-fits digits one.part number.part reads
      (plain-read s.nodes line one.part plain.part reads plain.first) number.first)

  operated-fits : (names : List (List ℕ)) (function : List ℕ) (making : Making)
      → spec.operate_rule line names function s ≡ Ok making → Makes making
  operated-fits names function making e =
      let all = both (spec.collections_behind line [] names s) _ making e in
      let by = both (spec.callee line function s) _ making all.then in
      let read = all-read [] names all.part (All-nil (IsRead s.nodes)) all.first in
      operate-fits line s.functions s.nodes all.part by.part making
      (recursion_from_All (IsRead s.nodes) all.part read)
      (is-callee line s function by.part by.first) by.then

  beside-fits : (source function object : List ℕ) (making : Making)
      → spec.do_with_rule line source function object s ≡ Ok making → Makes making
  beside-fits source function object making e =
      let one = both (spec.operand_named line source s) _ making e in
      let by = both (spec.callee line function s) _ making one.then in
      let other = both (spec.operand_named line object s) _ making by.then in
      do-with-fits line s.functions s.nodes one.part by.part other.part making
      (is-read line s source one.part one.first) (is-callee line s function by.part by.first)
      (is-read line s object other.part other.first) other.then

  -- ---- one collection, or the outputs of a call

  abbrev IsMade : List Making → Type 0
  IsMade makings =
      IsAlone s.functions s.nodes makings ⊎ AreOutputs s.functions s.nodes makings

  alone-made : (r : Checked Making) (makings : List Making)
      → ((making : Making) → r ≡ Ok making → Makes making) → spec.one_making r ≡ Ok makings
      → IsMade makings
  alone-made r makings makes e =
      let one = both r _ makings e in
      inl (record {
        making = one.part;
        are = sym (ok-same _ makings one.then);
        makes = makes one.part one.first;
      })

  done-makes : (source function : List ℕ) (makings : List Making)
      → spec.done line source function s ≡ Ok makings
      → AreOutputs s.functions s.nodes makings
  done-makes source function =
      of-two (AreOutputs s.functions s.nodes) (spec.operand_named line source s)
      (spec.callee line function s) (spec.do_of line)
      (λ one by makings first second.
      do-makes line s.functions s.nodes one by makings (is-read line s source one first)
      (is-callee line s function by second))

  pub made-is : (by : Operation) (makings : List Making) → spec.made_by line by s ≡ Ok makings
      → IsMade makings
  made-is (operation.Do source function) makings e = inr (done-makes source function makings e)
  made-is (operation.Group source) makings e = alone-made _ makings (grouped-fits source) e
  made-is (operation.Combine source combiner) makings e =
      alone-made _ makings
      (combined-fits (spec.combine_of line) (combine-fits line s.functions s.nodes) source combiner)
      e
  made-is (operation.Flatten sources) makings e =
      alone-made _ makings (flattened-fits sources) e
  made-is (operation.Count source) makings e = alone-made _ makings (counted-fits source) e
  made-is (operation.Join left right) makings e =
      alone-made _ makings (joined-fits left right) e
  made-is (operation.Top digits source) makings e =
      alone-made _ makings (greatest-fits digits source) e
  made-is (operation.CombineAll source combiner) makings e =
      alone-made _ makings
      (combined-fits (spec.combine_all_of line) (combine-all-fits line s.functions s.nodes) source
      combiner) e
  made-is (operation.Operate objects function) makings e =
      alone-made _ makings (operated-fits objects function) e
  made-is (operation.DoWith source function object) makings e =
      alone-made _ makings (beside-fits source function object) e
