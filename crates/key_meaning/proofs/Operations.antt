-- What operations make of operands that are alike is alike.
use Rattle.std.proofs.Common.{◌≡◌, ℕ, suc, ◌&&◌, List, [], ◌∷◌, Ok, refl, sym, ap, ◌∙◌, subst}
use Rattle.std.specs.List.{AllZip}
use Rattle.combine_table.specs.declared.comb.Comb.{Comb}
use Rattle.combine_table.specs.declared.comb.Comb.TheVariants as comb
use Rattle.flume_types.specs.declared.types.Ty.{Ty, out-Ty}
use Rattle.flume_types.specs.declared.types.Ty.TheVariants as ty
use Rattle.flume_types.specs.Equality.{type_eq}
use Rattle.flume_types.specs.Tables.{table_of}
use Rattle.flume_grammar.specs.declared.tree.Combiner.{Combiner}
use Rattle.flume_grammar.specs.declared.tree.Combiner.TheVariants as combiner
use Rattle.flume_grammar.specs.declared.fault.ScriptKind.TheVariants.{BadNumber, Mistyped, NotTable}
use Rattle.expression_check.specs.Numbers.{number_within}
use Rattle.written_types.specs.Answer.{Checked, or_fault, unless}
use Rattle.written_types.specs.Named.{Named}
use Rattle.script_program.specs.declared.made.Made.TheVariants as made
use Rattle.script_program.specs.Script.{Callee, Function, Making, Operand}
use Rattle.direct_meaning.specs.of_script_rules.Arguments.{are_plain, sole, takes_both, takes_members, takes_objects}
use Rattle.direct_meaning.specs.of_script_rules.Operations as spec
use Rattle.direct_meaning.specs.of_script_rules.Operations.{Pair}
use Rattle.direct_meaning.proofs.of_script_rules.CheckedLemmas.{both, ok-same}
use Rattle.key_meaning.proofs.Alike.{MakingAlike, Paired, Pairs, SameCallee, combine, count, do_, do_with, flatten, group, join, operate, top, whole}
use Rattle.key_meaning.proofs.Finding.{CalleeAlike, OperandAlike, agree, numbers_alike}
use Rattle.key_meaning.proofs.Lines.{found, found_option, found_same, found_then}

-- a combiner is the same on each line
found_comb : (line other : ℕ) (by : Combiner)
    → found (spec.comb_for line by) ≡ found (spec.comb_for other by)
found_comb line other combiner.Sum = refl
found_comb line other combiner.Count = refl
found_comb line other combiner.Min = refl
found_comb line other combiner.Max = refl
found_comb line other combiner.All = refl
found_comb line other combiner.Any = refl
found_comb line other (combiner.Top digits) =
    found_then (spec.top_number line digits) (spec.top_number other digits)
    (λ number. Ok (comb.Top number)) (λ number. Ok (comb.Top number))
    (found_option line other BadNumber (number_within 1 1000 digits)) (λ number. refl)
found_comb line other combiner.Mean = refl
found_comb line other combiner.Distinct = refl

pub same_comb : (line other : ℕ) (by : Combiner) (x y : Comb) → spec.comb_for line by ≡ Ok x
    → spec.comb_for other by ≡ Ok y → x ≡ y
same_comb line other by x y e f =
    found_same (spec.comb_for line by) (spec.comb_for other by) x y (found_comb line other by) e f

module _ (SameFile : List ℕ → Type 0) (pairs : Pairs) (functions others : Named Function)
    (line other : ℕ) where
  abbrev Same : Making → Making → Type 0
  Same = MakingAlike SameFile pairs functions others

  abbrev AllSame : List Making → List Making → Type 0
  AllSame = AllZip Same

  pub as_same : (m n x y : Making) → m ≡ x → n ≡ y → Same m n → Same x y
  as_same m n x y here there same =
      subst (λ z. Same z y) here (subst (Same m) there same)

  as_all : (m n x y : List Making) → m ≡ x → n ≡ y → AllSame m n → AllSame x y
  as_all m n x y here there same =
      subst (λ z. AllSame z y) here (subst (AllSame m) there same)

  -- ---- parts of types

  same_pair : (t u : Ty) (x y : Pair) → t ≡ u → spec.pair_of line t ≡ Ok x
      → spec.pair_of other u ≡ Ok y → x ≡ y
  same_pair t u x y same e f =
      agree line other NotTable (spec.pair_in (out-Ty t)) (spec.pair_in (out-Ty u)) x y
      (ap (λ v. spec.pair_in (out-Ty v)) same) e f

  same_member : (t u x y : Ty) → t ≡ u → spec.member_of line t ≡ Ok x
      → spec.member_of other u ≡ Ok y → x ≡ y
  same_member t u x y same e f =
      agree line other NotTable (spec.member_type_in (out-Ty t)) (spec.member_type_in (out-Ty u)) x
      y
      (ap (λ v. spec.member_type_in (out-Ty v)) same) e f

  same_combined : (by by_ : Comb) (t u x y : Ty) → by ≡ by_ → t ≡ u
      → or_fault line Mistyped (spec.combined_type by t) ≡ Ok x
      → or_fault other Mistyped (spec.combined_type by_ u) ≡ Ok y → x ≡ y
  same_combined by by_ t u x y bys same e f =
      agree line other Mistyped (spec.combined_type by t) (spec.combined_type by_ u) x y
      (λ i. spec.combined_type (bys i) (same i)) e f

  -- ---- operations on operands that are alike

  outputs_alike : (a b f g : ℕ) → Paired pairs a b → SameCallee functions others f g → (k : ℕ)
      (types : List Ty)
      → AllSame (spec.outputs_from a f k types) (spec.outputs_from b g k types)
  outputs_alike a b f g reads by k [] = tt
  outputs_alike a b f g reads by k (t ∷ types) =
      (record { type = refl; how = do_ reads by }, outputs_alike a b f g reads by (suc k) types)

  pub do_alike : (one two : Operand) (f g : Callee) → OperandAlike pairs one two
      → CalleeAlike functions others f g → (ms ns : List Making) → spec.do_of line one f ≡ Ok ms
      → spec.do_of other two g ≡ Ok ns → AllSame ms ns
  do_alike one two f g reads by ms ns e h =
      let here = both (unless line Mistyped (takes_members one f.takes)) _ ms e in
      let there = both (unless other Mistyped (takes_members two g.takes)) _ ns h in
      as_all _ _ ms ns (ok-same _ ms here.then)
      (ap (λ types. spec.outputs_from two.number g.number 0 types) by.gives
      ∙ ok-same _ ns there.then)
      (outputs_alike one.number two.number f.number g.number reads.number by.same 0 f.gives)

  pub group_alike : (one two : Operand) → OperandAlike pairs one two → (m n : Making)
      → spec.group_making line one ≡ Ok m → spec.group_making other two ≡ Ok n → Same m n
  group_alike one two reads m n e f =
      let pair = both (spec.pair_of line one.type) _ m e in
      let again = both (spec.pair_of other two.type) _ n f in
      let plain = both (spec.plain line one) _ m pair.then in
      let plain_ = both (spec.plain other two) _ n again.then in
      let same = same_pair one.type two.type pair.part again.part reads.type pair.first
      again.first in
      as_same _ _ m n (ok-same _ m plain.then) (ok-same _ n plain_.then) (record {
        type = ap (λ (p : Pair). table_of p.key (ty.List p.value)) same;
        how = group reads.number;
      })

  pub combine_alike : (one two : Operand) (by by_ : Comb) → OperandAlike pairs one two → by ≡ by_
      → (m n : Making) → spec.combine_of line one by ≡ Ok m
      → spec.combine_of other two by_ ≡ Ok n → Same m n
  combine_alike one two by by_ reads bys m n e f =
      let pair = both (spec.pair_of line one.type) _ m e in
      let again = both (spec.pair_of other two.type) _ n f in
      let same = same_pair one.type two.type pair.part again.part reads.type pair.first
      again.first in
      let member = both (spec.member_of line pair.part.value) _ m pair.then in
      let member_ = both (spec.member_of other again.part.value) _ n again.then in
      let members = same_member pair.part.value again.part.value member.part member_.part
      (ap (λ (p : Pair). p.value) same) member.first member_.first in
      let plain = both (spec.plain line one) _ m member.then in
      let plain_ = both (spec.plain other two) _ n member_.then in
      let value = both (or_fault line Mistyped (spec.combined_type by member.part)) _ m
      plain.then in
      let value_ = both (or_fault other Mistyped (spec.combined_type by_ member_.part)) _ n
      plain_.then in
      let values = same_combined by by_ member.part member_.part value.part value_.part bys
      members value.first value_.first in
      as_same _ _ m n (ok-same _ m value.then) (ok-same _ n value_.then)
      (subst
      (λ (b : Comb). Same
      (record { made = made.Combine one.number by; type = table_of pair.part.key value.part })
      (record { made = made.Combine two.number b; type = table_of again.part.key value_.part }))
      bys
      (record {
        type = λ i. table_of (same i).key (values i);
        how = combine reads.number;
      }))

  pub flatten_alike : (all more : List Operand) → AllZip (OperandAlike pairs) all more
      → (m n : Making) → spec.flatten_of line all ≡ Ok m → spec.flatten_of other more ≡ Ok n
      → Same m n
  flatten_alike [] [] zipped m n e f = cc
  flatten_alike [] (two ∷ more) zipped m n e f = absurd zipped
  flatten_alike (one ∷ all) [] zipped m n e f = absurd zipped
  flatten_alike (one ∷ all) (two ∷ more) zipped m n e f =
      let t = both (spec.one_type line (one ∷ all)) _ m e in
      let u = both (spec.one_type other (two ∷ more)) _ n f in
      let same = both (unless line Mistyped (spec.all_same one.type (one ∷ all))) _ t.part
      t.first in
      let same_ = both (unless other Mistyped (spec.all_same two.type (two ∷ more))) _ u.part
      u.first in
      as_same _ _ m n (ok-same _ m t.then) (ok-same _ n u.then) (record {
        type = sym (ok-same _ t.part same.then) ∙ zipped.0.type ∙ ok-same _ u.part same_.then;
        how = flatten (numbers_alike pairs (one ∷ all) (two ∷ more) zipped);
      })

  pub count_alike : (one two : Operand) → OperandAlike pairs one two
      → Same (spec.count_making one) (spec.count_making two)
  count_alike one two reads = record {
    type = ap (λ t. table_of t ty.Int) reads.type;
    how = count reads.number;
  }

  pub join_alike : (one two left right_ : Operand) → OperandAlike pairs one two
      → OperandAlike pairs left right_ → (m n : Making) → spec.join_of line one left ≡ Ok m
      → spec.join_of other two right_ ≡ Ok n → Same m n
  join_alike one two left right_ reads beside m n e f =
      let pair = both (spec.pair_of line one.type) _ m e in
      let pair_ = both (spec.pair_of other two.type) _ n f in
      let more = both (spec.pair_of line left.type) _ m pair.then in
      let more_ = both (spec.pair_of other right_.type) _ n pair_.then in
      let test = are_plain one left && type_eq pair.part.key more.part.key in
      let test_ = are_plain two right_ && type_eq pair_.part.key more_.part.key in
      let fit = both (unless line Mistyped test) _ m more.then in
      let fit_ = both (unless other Mistyped test_) _ n more_.then in
      let first = same_pair one.type two.type pair.part pair_.part reads.type pair.first
      pair_.first in
      let second = same_pair left.type right_.type more.part more_.part beside.type more.first
      more_.first in
      as_same _ _ m n (ok-same _ m fit.then) (ok-same _ n fit_.then) (record {
        type = λ i. table_of (first i).key (spec.sides_of (first i).value (second i).value);
        how = join reads.number beside.number;
      })

  pub top_alike : (number number_ : ℕ) (one two : Operand) → number ≡ number_
      → OperandAlike pairs one two → Same (spec.top_of number one) (spec.top_of number_ two)
  top_alike number number_ one two same reads =
      subst (λ k. Same (spec.top_of number one) (spec.top_of k two)) same
      (record { type = reads.type; how = top reads.number })

  pub whole_alike : (one two : Operand) (by by_ : Comb) → OperandAlike pairs one two → by ≡ by_
      → (m n : Making) → spec.combine_all_of line one by ≡ Ok m
      → spec.combine_all_of other two by_ ≡ Ok n → Same m n
  whole_alike one two by by_ reads bys m n e f =
      let plain = both (spec.plain line one) _ m e in
      let plain_ = both (spec.plain other two) _ n f in
      let value = both (or_fault line Mistyped (spec.combined_type by one.type)) _ m
      plain.then in
      let value_ = both (or_fault other Mistyped (spec.combined_type by_ two.type)) _ n
      plain_.then in
      as_same _ _ m n (ok-same _ m value.then) (ok-same _ n value_.then)
      (subst
      (λ (b : Comb). Same
      (record { made = made.CombineAll one.number by; type = value.part })
      (record { made = made.CombineAll two.number b; type = value_.part }))
      bys
      (record {
        type =
            same_combined by by_ one.type two.type value.part value_.part bys reads.type
            value.first value_.first;
        how = whole reads.number;
      }))

  same_sole : (f g : Callee) → CalleeAlike functions others f g → (x y : Ty)
      → or_fault line Mistyped (sole f.gives) ≡ Ok x
      → or_fault other Mistyped (sole g.gives) ≡ Ok y → x ≡ y
  same_sole f g by x y e h =
      agree line other Mistyped (sole f.gives) (sole g.gives) x y (ap sole by.gives) e h

  pub operate_alike : (all more : List Operand) (f g : Callee)
      → AllZip (OperandAlike pairs) all more
      → CalleeAlike functions others f g → (m n : Making) → spec.operate_of line all f ≡ Ok m
      → spec.operate_of other more g ≡ Ok n → Same m n
  operate_alike all more f g zipped by m n e h =
      let fit = both (unless line Mistyped (takes_objects all f.takes)) _ m e in
      let fit_ = both (unless other Mistyped (takes_objects more g.takes)) _ n h in
      let value = both (or_fault line Mistyped (sole f.gives)) _ m fit.then in
      let value_ = both (or_fault other Mistyped (sole g.gives)) _ n fit_.then in
      as_same _ _ m n (ok-same _ m value.then) (ok-same _ n value_.then) (record {
        type = same_sole f g by value.part value_.part value.first value_.first;
        how = operate (numbers_alike pairs all more zipped) by.same;
      })

  pub do_with_alike : (one two left right_ : Operand) (f g : Callee) → OperandAlike pairs one two
      → CalleeAlike functions others f g → OperandAlike pairs left right_ → (m n : Making)
      → spec.do_with_of line one f left ≡ Ok m → spec.do_with_of other two g right_ ≡ Ok n
      → Same m n
  do_with_alike one two left right_ f g reads by object m n e h =
      let fit = both (unless line Mistyped (takes_both one left f.takes)) _ m e in
      let fit_ = both (unless other Mistyped (takes_both two right_ g.takes)) _ n h in
      let value = both (or_fault line Mistyped (sole f.gives)) _ m fit.then in
      let value_ = both (or_fault other Mistyped (sole g.gives)) _ n fit_.then in
      as_same _ _ m n (ok-same _ m value.then) (ok-same _ n value_.then) (record {
        type = same_sole f g by value.part value_.part value.first value_.first;
        how = do_with reads.number by.same object.number;
      })

  pub alone_alike : (p q : Checked Making)
      → ((m n : Making) → p ≡ Ok m → q ≡ Ok n → Same m n) → (ms ns : List Making)
      → spec.one_making p ≡ Ok ms → spec.one_making q ≡ Ok ns → AllSame ms ns
  alone_alike p q same ms ns e f =
      let one = both p _ ms e in
      let two = both q _ ns f in
      as_all _ _ ms ns (ok-same _ ms one.then) (ok-same _ ns two.then)
      (same one.part two.part one.first two.first, tt)
