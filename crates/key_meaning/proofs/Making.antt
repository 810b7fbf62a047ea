-- What an operation makes in two states that are alike is alike.
use Rattle.std.proofs.Common.{◌≡◌, ℕ, true, List, [], Ok, refl}
use Rattle.std.specs.List.{AllByRecursion as Each, AllZip}
use Rattle.combine_table.specs.declared.comb.Comb.{Comb}
use Rattle.flume_grammar.specs.declared.tree.Combiner.{Combiner}
use Rattle.flume_grammar.specs.declared.tree.Operation.{Operation}
use Rattle.flume_grammar.specs.declared.tree.Operation.TheVariants as operation
use Rattle.flume_grammar.specs.declared.fault.ScriptKind.TheVariants.{BadNumber}
use Rattle.expression_check.specs.Numbers.{number_within}
use Rattle.written_types.specs.Answer.{Checked, ◌>>=◌}
use Rattle.script_keys.specs.Outlines.{callees, operand_names}
use Rattle.script_keys.specs.Rests.{holds_name}
use Rattle.script_keys.specs.declared.rests.Names.{Names}
use Rattle.script_program.specs.Script.{Making, Operand, State}
use Rattle.direct_meaning.specs.of_script_rules.Operations as spec
use Rattle.direct_meaning.proofs.of_script_rules.CheckedLemmas.{both, ok-same}
use Rattle.key_meaning.proofs.Alike.{IsAlike, MakingAlike, Pairs}
use Rattle.key_meaning.proofs.Finding.{OperandAlike, agree, all_alike, called_alike, found_alike}
use Rattle.key_meaning.proofs.Operations.{alone_alike, as_same, combine_alike, count_alike, do_alike, do_with_alike, flatten_alike, group_alike, join_alike, operate_alike, same_comb, top_alike, whole_alike}

-- ---- as they are written

module _ (SameFile : List ℕ → Type 0) (names : Names) (pairs : Pairs) (s r : State)
    (alike : IsAlike SameFile names pairs s r) (line other : ℕ) where
  abbrev Makes : Making → Making → Type 0
  Makes = MakingAlike SameFile pairs s.functions r.functions

  abbrev Asked : List ℕ → Type 0
  Asked name = holds_name names.collections name ≡ true

  abbrev AskedBy : List ℕ → Type 0
  AskedBy name = holds_name names.functions name ≡ true

  done : (source function : List ℕ) → Asked source → AskedBy function → (ms ns : List Making)
      → spec.done line source function s ≡ Ok ms → spec.done other source function r ≡ Ok ns
      → AllZip Makes ms ns
  done source function reads by ms ns e h =
      let one = both (spec.operand_named line source s) _ ms e in
      let two = both (spec.operand_named other source r) _ ns h in
      let f = both (spec.callee line function s) _ ms one.then in
      let g = both (spec.callee other function r) _ ns two.then in
      do_alike SameFile pairs s.functions r.functions line other one.part two.part f.part g.part
      (found_alike SameFile names pairs s r alike line other source reads one.part two.part
      one.first two.first)
      (called_alike SameFile names pairs s r alike line other function by f.part g.part f.first
      g.first) ms ns f.then g.then

  grouped : (source : List ℕ) → Asked source → (m n : Making)
      → spec.group_rule line source s ≡ Ok m → spec.group_rule other source r ≡ Ok n → Makes m n
  grouped source reads m n e h =
      let one = both (spec.operand_named line source s) _ m e in
      let two = both (spec.operand_named other source r) _ n h in
      group_alike SameFile pairs s.functions r.functions line other one.part two.part
      (found_alike SameFile names pairs s r alike line other source reads one.part two.part
      one.first two.first) m n one.then two.then

  -- what is made of a collection by a combiner
  combined : (of : ℕ → Operand → Comb → Checked Making)
      → ((one two : Operand) (x y : Comb) → OperandAlike pairs one two → x ≡ y → (m n : Making)
      → of line one x ≡ Ok m → of other two y ≡ Ok n → Makes m n)
      → (source : List ℕ) (by : Combiner) → Asked source → (m n : Making)
      → (spec.operand_named line source s >>= (λ one. spec.comb_for line by >>= of line one)) ≡ Ok m
      → (spec.operand_named other source r >>= (λ two. spec.comb_for other by >>= of other two))
      ≡ Ok n
      → Makes m n
  combined of alike_of source by reads m n e h =
      let one = both (spec.operand_named line source s) _ m e in
      let two = both (spec.operand_named other source r) _ n h in
      let x = both (spec.comb_for line by) _ m one.then in
      let y = both (spec.comb_for other by) _ n two.then in
      alike_of one.part two.part x.part y.part
      (found_alike SameFile names pairs s r alike line other source reads one.part two.part
      one.first two.first) (same_comb line other by x.part y.part x.first y.first) m n x.then
      y.then

  flattened : (sources : List (List ℕ)) → Each Asked sources → (m n : Making)
      → spec.flattened line sources s ≡ Ok m → spec.flattened other sources r ≡ Ok n → Makes m n
  flattened sources reads m n e h =
      let all = both (spec.collections_behind line [] sources s) _ m e in
      let more = both (spec.collections_behind other [] sources r) _ n h in
      flatten_alike SameFile pairs s.functions r.functions line other all.part more.part
      (all_alike SameFile names pairs s r alike line other sources reads [] [] tt all.part
      more.part all.first more.first) m n all.then more.then

  counted : (source : List ℕ) → Asked source → (m n : Making)
      → spec.count_rule line source s ≡ Ok m → spec.count_rule other source r ≡ Ok n → Makes m n
  counted source reads m n e h =
      let one = both (spec.operand_named line source s) _ m e in
      let two = both (spec.operand_named other source r) _ n h in
      let plain = both (spec.plain line one.part) _ m one.then in
      let plain_ = both (spec.plain other two.part) _ n two.then in
      as_same SameFile pairs s.functions r.functions line other _ _ m n
      (ok-same _ m plain.then) (ok-same _ n plain_.then)
      (count_alike SameFile pairs s.functions r.functions line other one.part two.part
      (found_alike SameFile names pairs s r alike line other source reads one.part two.part
      one.first two.first))

  joined : (left right_ : List ℕ) → Asked left → Asked right_ → (m n : Making)
      → spec.join_rule line left right_ s ≡ Ok m → spec.join_rule other left right_ r ≡ Ok n
      → Makes m n
  joined left right_ reads beside m n e h =
      let one = both (spec.operand_named line left s) _ m e in
      let two = both (spec.operand_named other left r) _ n h in
      let more = both (spec.operand_named line right_ s) _ m one.then in
      let more_ = both (spec.operand_named other right_ r) _ n two.then in
      join_alike SameFile pairs s.functions r.functions line other one.part two.part more.part
      more_.part
      (found_alike SameFile names pairs s r alike line other left reads one.part two.part
      one.first two.first)
      (found_alike SameFile names pairs s r alike line other right_ beside more.part more_.part
      more.first more_.first) m n more.then more_.then

  greatest : (digits source : List ℕ) → Asked source → (m n : Making)
      → spec.top_rule line digits source s ≡ Ok m → spec.top_rule other digits source r ≡ Ok n
      → Makes m n
  greatest digits source reads m n e h =
      let one = both (spec.operand_named line source s) _ m e in
      let two = both (spec.operand_named other source r) _ n h in
      let number = both (spec.top_number line digits) _ m one.then in
      let number_ = both (spec.top_number other digits) _ n two.then in
      let plain = both (spec.plain line one.part) _ m number.then in
      let plain_ = both (spec.plain other two.part) _ n number_.then in
      let most = number_within 1 1000 digits in
      as_same SameFile pairs s.functions r.functions line other _ _ m n
      (ok-same _ m plain.then) (ok-same _ n plain_.then)
      (top_alike SameFile pairs s.functions r.functions line other number.part number_.part
      one.part two.part
      (agree line other BadNumber most most number.part number_.part refl number.first
      number_.first)
      (found_alike SameFile names pairs s r alike line other source reads one.part two.part
      one.first two.first))

  operated : (objects : List (List ℕ)) (function : List ℕ) → Each Asked objects
      → AskedBy function → (m n : Making) → spec.operate_rule line objects function s ≡ Ok m
      → spec.operate_rule other objects function r ≡ Ok n → Makes m n
  operated objects function reads by m n e h =
      let all = both (spec.collections_behind line [] objects s) _ m e in
      let more = both (spec.collections_behind other [] objects r) _ n h in
      let f = both (spec.callee line function s) _ m all.then in
      let g = both (spec.callee other function r) _ n more.then in
      operate_alike SameFile pairs s.functions r.functions line other all.part more.part f.part
      g.part
      (all_alike SameFile names pairs s r alike line other objects reads [] [] tt all.part
      more.part all.first more.first)
      (called_alike SameFile names pairs s r alike line other function by f.part g.part f.first
      g.first) m n f.then g.then

  done_beside : (source function object : List ℕ) → Asked source → AskedBy function
      → Asked object → (m n : Making) → spec.do_with_rule line source function object s ≡ Ok m
      → spec.do_with_rule other source function object r ≡ Ok n → Makes m n
  done_beside source function object reads by beside m n e h =
      let one = both (spec.operand_named line source s) _ m e in
      let two = both (spec.operand_named other source r) _ n h in
      let f = both (spec.callee line function s) _ m one.then in
      let g = both (spec.callee other function r) _ n two.then in
      let more = both (spec.operand_named line object s) _ m f.then in
      let more_ = both (spec.operand_named other object r) _ n g.then in
      do_with_alike SameFile pairs s.functions r.functions line other one.part two.part
      more.part more_.part f.part g.part
      (found_alike SameFile names pairs s r alike line other source reads one.part two.part
      one.first two.first)
      (called_alike SameFile names pairs s r alike line other function by f.part g.part f.first
      g.first)
      (found_alike SameFile names pairs s r alike line other object beside more.part more_.part
      more.first more_.first) m n more.then more_.then

  abbrev alone : (p q : Checked Making) → ((m n : Making) → p ≡ Ok m → q ≡ Ok n → Makes m n)
      → (ms ns : List Making) → spec.one_making p ≡ Ok ms → spec.one_making q ≡ Ok ns
      → AllZip Makes ms ns
  alone = alone_alike SameFile pairs s.functions r.functions line other

  pub makes_alike : (by : Operation) → Each Asked (operand_names by) → Each AskedBy (callees by)
      → (ms ns : List Making) → spec.made_by line by s ≡ Ok ms → spec.made_by other by r ≡ Ok ns
      → AllZip Makes ms ns
  makes_alike (operation.Do source function) reads calls ms ns e h =
      done source function reads.0 calls.0 ms ns e h
  makes_alike (operation.Group source) reads calls ms ns e h =
      alone (spec.group_rule line source s) (spec.group_rule other source r)
      (grouped source reads.0)
      ms ns e h
  makes_alike (operation.Combine source by) reads calls ms ns e h =
      alone (spec.combine_rule line source by s) (spec.combine_rule other source by r)
      (combined spec.combine_of
      (combine_alike SameFile pairs s.functions r.functions line other) source by reads.0) ms ns
      e h
  makes_alike (operation.Flatten sources) reads calls ms ns e h =
      alone (spec.flattened line sources s) (spec.flattened other sources r)
      (flattened sources reads) ms ns e h
  makes_alike (operation.Count source) reads calls ms ns e h =
      alone (spec.count_rule line source s) (spec.count_rule other source r)
      (counted source reads.0)
      ms ns e h
  makes_alike (operation.Join left right_) reads calls ms ns e h =
      alone (spec.join_rule line left right_ s) (spec.join_rule other left right_ r)
      (joined left right_ reads.0 reads.1.0) ms ns e h
  makes_alike (operation.Top digits source) reads calls ms ns e h =
      alone (spec.top_rule line digits source s) (spec.top_rule other digits source r)
      (greatest digits source reads.0) ms ns e h
  makes_alike (operation.CombineAll source by) reads calls ms ns e h =
      alone (spec.combine_all_rule line source by s) (spec.combine_all_rule other source by r)
      (combined spec.combine_all_of
      (whole_alike SameFile pairs s.functions r.functions line other) source by reads.0) ms ns e h
  makes_alike (operation.Operate objects function) reads calls ms ns e h =
      alone (spec.operate_rule line objects function s) (spec.operate_rule other objects function r)
      (operated objects function reads calls.0) ms ns e h
  makes_alike (operation.DoWith source function object) reads calls ms ns e h =
      alone (spec.do_with_rule line source function object s)
      (spec.do_with_rule other source function object r)
      (done_beside source function object reads.0 calls.0 reads.1.0) ms ns e h
