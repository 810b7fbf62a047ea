-- What is paired rests on the same, in one order and of the same sizes.
use Rattle.std.proofs.Common.{◌≡◌, ◌⊎◌, inl, inr, ℕ, suc, min, ◌^◌, ◌-◌, Bool, true, false, cond, List, [], ◌∷◌, ◌++◌, length, Option, Some, None, IsSomeAnd, if◌then◌else◌, slice_get, refl, sym, ap, ◌∙◌, subst, arith, append_assoc, length-append, ⊎_elim}
use Rattle.std.specs.List.{AllZip, Contains, filter, flat_map}
use Rattle.flume_collection.proofs.Members.{at_head, head_or_tail, not_in_none}
use Rattle.flume_collection.specs.Collection.{Collection}
use Rattle.written_types.specs.Named.{Named}
use Rattle.script_program.specs.declared.made.Made.{Made}
use Rattle.script_program.specs.declared.made.Output.{Output}
use Rattle.script_program.specs.Needed.{IsNeeded, LeadsToOutput, is_needed, made_of, collections_numbered, operands, outputs_read}
use Rattle.script_program.specs.Script.{Node, Script}
use Rattle.direct_meaning.proofs.of_script_laws.MemberLemmas.{at_end, of_mapped}
use Rattle.direct_meaning.proofs.of_script_laws.NeededLemmas.{needed_law}
use Rattle.direct_meaning.specs.of_script_laws.WellFormed.{IsWellFormed}
use Rattle.direct_meaning.specs.Direct.{made_at}
use Rattle.key_meaning.proofs.Alike.{NodeAlike, Paired, Pairs, same_operands}
use Rattle.key_meaning.proofs.Courses.{Rises}
use Rattle.key_meaning.proofs.Lists.{zip_among, zip_back}
use Rattle.key_meaning.proofs.Ways.{OptionAlike, Table}
use Rattle.key_meaning.proofs.Sources.{alone, alone_well}
use Rattle.key_meaning.proofs.Pairing.{Covers, by_left, by_right, gathered, left_of, right_of, rises_same, same_flat}
use Rattle.script_program.specs.Rested.{rests}
use Rattle.key_meaning.specs.Rested.{rested_sizes, name_sized}

-- ---- what an output rests on

-- what the output rests on is needed
leads_whole : (script : Script) (output : List ℕ × Output)
    → Contains (outputs_read script) output.1.reads → (path : List ℕ) (n : ℕ)
    → LeadsToOutput (alone script output) n path → LeadsToOutput script n path
leads_whole script output among [] n leads =
    ⊎_elim (λ (e : output.1.reads ≡ n). subst (Contains (outputs_read script)) e among)
    (λ (behind : Contains [] n). absurd (not_in_none n behind))
    (head_or_tail output.1.reads [] n leads)
leads_whole script output among (reader ∷ path) n leads =
    (leads.0, leads_whole script output among path reader leads.1)

bools_same : (x y : Bool) → (x ≡ true → y ≡ true) → (y ≡ true → x ≡ true) → x ≡ y
bools_same true y first second = sym (first refl)
bools_same false true first second = second refl
bools_same false false first second = refl

-- what is told where a test holds is nothing, or the test holds
none_or : {A P : Type 0} (b : Bool) (l : List A) → (b ≡ true → P)
    → P ⊎ ((if b then l else []) ≡ [])
none_or true l found = inl (found refl)
none_or false l found = inr refl

-- ---- sizes, number by number

abbrev sized_by : Option (List ℕ × Node) → Option Collection → List (List ℕ × ℕ)
sized_by None c = []
sized_by (Some entry) c = name_sized entry.0 c

module _ (script : Script) (made_ : Table) (asked : ℕ) where
  abbrev pub sizes_at : ℕ → List (List ℕ × ℕ)
  sizes_at n =
      if rests script asked n then sized_by (slice_get script.nodes n) (made_at made_ n) else []

  abbrev size_of_entry : ℕ × (List ℕ × Node) → List (List ℕ × ℕ)
  size_of_entry it = name_sized it.1.0 (made_at made_ it.0)

  first_size : (b : Bool) (it : ℕ × (List ℕ × Node)) (rest : List (ℕ × (List ℕ × Node)))
      → flat_map size_of_entry (cond b (it ∷ rest) rest)
      ≡ (if b then size_of_entry it else []) ++ flat_map size_of_entry rest
  first_size true it rest = refl
  first_size false it rest = refl

  sizes_from : (before nodes : Named Node) → before ++ nodes ≡ script.nodes → (n : ℕ)
      → length before ≡ n
      → flat_map size_of_entry (filter (λ it. rests script asked it.0)
      (collections_numbered n nodes))
      ≡ gathered sizes_at n (length nodes)
  sizes_from before [] split n long = refl
  sizes_from before (entry ∷ nodes) split n long =
      let rest = filter (λ it. rests script asked it.0) (collections_numbered (suc n) nodes) in
      let at : slice_get script.nodes n ≡ Some entry =
      ap (λ (l : Named Node). slice_get l n) (sym split)
      ∙ ap (slice_get (before ++ entry ∷ nodes)) (sym long) ∙ at_end before entry nodes in
      first_size (rests script asked n) (n, entry) rest
      ∙ (λ i. (if rests script asked n then sized_by (sym at i) (made_at made_ n) else [])
      ++ sizes_from (before ++ entry ∷ []) nodes (append_assoc before (entry ∷ []) nodes ∙ split)
      (suc n) (omega (arith, long, length-append before (entry ∷ []))) i)

  sizes_are : rested_sizes script made_ asked ≡ gathered sizes_at 0 (length script.nodes)
  sizes_are = sizes_from [] script.nodes refl 0 refl

-- ---- partners

-- what two numbers of two scripts are made from is related, in order
record ReadAlike (here there : Script) (R : ℕ → ℕ → Type 0) (n q : ℕ) : Type 0 where
  pub made : Made
  pub other : Made
  pub at : slice_get (made_of here) n ≡ Some made
  pub beside : slice_get (made_of there) q ≡ Some other
  pub reads : AllZip R (operands made) (operands other)

-- what is needed for one output has a partner that is needed for another, where the collections
-- that the two read are partners and partners are made from partners
module _ (here there : Script) (R : ℕ → ℕ → Type 0) (first last : ℕ) (own : R first last)
    (ends : outputs_read here ≡ first ∷ []) (ends_there : outputs_read there ≡ last ∷ [])
    (partners : (n q : ℕ) → R n q → ReadAlike here there R n q) where
  partner : (path : List ℕ) (n : ℕ) → LeadsToOutput here n path
      → (q : ℕ) × (R n q × IsNeeded there q)
  partner [] n leads =
      ⊎_elim
      (λ (e : first ≡ n). (
        last,
        (
          subst (λ m. R m last) e own,
          ([], subst (λ l. Contains l last) (sym ends_there) (at_head last [])),
        ),
      ))
      (λ (behind : Contains [] n). absurd (not_in_none n behind))
      (head_or_tail first [] n (subst (λ l. Contains l n) ends leads))
  partner (reader ∷ path) n leads =
      let it = partner path reader leads.1 in
      let both = partners reader it.0 it.1.0 in
      let next =
      zip_among R (operands both.made) (operands both.other) both.reads n
      (subst (λ o. IsSomeAnd o (λ (m : Made). Contains (operands m) n)) both.at leads.0) in (
        next.0,
        (
          next.1.1,
          (
            it.0 ∷ it.1.1.0,
            (
              subst (λ o. IsSomeAnd o (λ (m : Made). Contains (operands m) next.0))
                  (sym both.beside) next.1.0,
              it.1.1.1,
            ),
          ),
        ),
      )

-- ---- two scripts

module _ (SameFile : List ℕ → Type 0) (one other : Script) (well : IsWellFormed one)
    (well_ : IsWellFormed other) (pairs : Pairs)
    (rises : Rises pairs (length one.nodes) (length other.nodes))
    (paired : (a b : ℕ) → Paired pairs a b
    → NodeAlike SameFile pairs one.functions other.functions one.nodes other.nodes a b)
    (output output_ : List ℕ × Output) (among : Contains one.outputs output)
    (among_ : Contains other.outputs output_)
    (own : Paired pairs output.1.reads output_.1.reads) where
  abbrev here : Script
  here = alone one output

  abbrev there : Script
  there = alone other output_

  -- a partner that the other output rests on
  abbrev Partner : ℕ → Type 0
  Partner n = (q : ℕ) × (Paired pairs n q × IsNeeded there q)

  abbrev PartnerBack : ℕ → Type 0
  PartnerBack q = (n : ℕ) × (Paired pairs n q × IsNeeded here n)

  paired_read : (n q : ℕ) → Paired pairs n q → ReadAlike here there (Paired pairs) n q
  paired_read n q is =
      let node = paired n q is in
      record {
        made = node.entry.1.made;
        other = node.other.1.made;
        at = of_mapped (λ (e : List ℕ × Node). e.1.made) one.nodes n node.entry node.here;
        beside =
            of_mapped (λ (e : List ℕ × Node). e.1.made) other.nodes q node.other node.there;
        reads = same_operands SameFile pairs one.functions other.functions node.alike.how;
      }

  read_back : (q n : ℕ) → Paired pairs n q
      → ReadAlike there here (λ q n. Paired pairs n q) q n
  read_back q n is =
      let it = paired_read n q is in
      record {
        made = it.other;
        other = it.made;
        at = it.beside;
        beside = it.at;
        reads = zip_back (Paired pairs) (operands it.made) (operands it.other) it.reads;
      }

  forth : (path : List ℕ) (n : ℕ) → LeadsToOutput here n path → Partner n
  forth =
      partner here there (Paired pairs) output.1.reads output_.1.reads own refl refl paired_read

  back : (path : List ℕ) (q : ℕ) → LeadsToOutput there q path → PartnerBack q
  back =
      partner there here (λ q n. Paired pairs n q) output_.1.reads output.1.reads own refl refl
      read_back

  -- ---- what the outputs rest on

  abbrev rests_here : ℕ → Bool
  rests_here n = rests one output.1.reads n

  abbrev rests_there : ℕ → Bool
  rests_there n = rests other output_.1.reads n

  path_here : (n : ℕ) → rests_here n ≡ true → IsNeeded here n
  path_here n is = (needed_law here (alone_well one output among well) n).0 is

  from_here : (n : ℕ) → IsNeeded here n → rests_here n ≡ true
  from_here n is = (needed_law here (alone_well one output among well) n).1 is

  path_there : (n : ℕ) → rests_there n ≡ true → IsNeeded there n
  path_there n is = (needed_law there (alone_well other output_ among_ well_) n).0 is

  from_there : (n : ℕ) → IsNeeded there n → rests_there n ≡ true
  from_there n is = (needed_law there (alone_well other output_ among_ well_) n).1 is

  partner_here : (n : ℕ) → rests_here n ≡ true → Partner n
  partner_here n is = let path = path_here n is in forth path.0 n path.1

  partner_there : (q : ℕ) → rests_there q ≡ true → PartnerBack q
  partner_there q is = let path = path_there q is in back path.0 q path.1

  rests_same : (n q : ℕ) → Paired pairs n q → rests_here n ≡ rests_there q
  rests_same n q is =
      bools_same (rests_here n) (rests_there q)
      (λ r.
      let it = partner_here n r in
      ap rests_there ((rises_same rises n q n it.0 is it.1.0).0 refl) ∙ from_there it.0 it.1.1)
      (λ r.
      let it = partner_there q r in
      ap rests_here ((rises_same rises n q it.0 q is it.1.0).1 refl) ∙ from_here it.0 it.1.1)

  -- ---- sizes

  module _ (whole whole_ : Table)
      (alike : (a b : ℕ) → Paired pairs a b → is_needed one a ≡ true → is_needed other b ≡ true
      → OptionAlike pairs (made_at whole a) (made_at whole_ b))
      (read : Contains (outputs_read one) output.1.reads)
      (read_ : Contains (outputs_read other) output_.1.reads) where
    abbrev here_sizes : ℕ → List (List ℕ × ℕ)
    here_sizes = sizes_at one whole output.1.reads

    abbrev there_sizes : ℕ → List (List ℕ × ℕ)
    there_sizes = sizes_at other whole_ output_.1.reads

    covers : Covers left_of here_sizes pairs (length one.nodes)
    covers n below =
        none_or (rests_here n) (sized_by (slice_get one.nodes n) (made_at whole n))
        (λ is. let it = partner_here n is in ((n, it.0), it.1.0, refl))

    covers_back : Covers right_of there_sizes pairs (length other.nodes)
    covers_back q below =
        none_or (rests_there q) (sized_by (slice_get other.nodes q) (made_at whole_ q))
        (λ is. let it = partner_there q is in ((it.0, q), it.1.0, refl))

    sized_alike : (o p : Option Collection) (name other_name : List ℕ) → name ≡ other_name
        → OptionAlike pairs o p → name_sized name o ≡ name_sized other_name p
    sized_alike None None name other_name same alike_ = refl
    sized_alike None (Some d) name other_name same alike_ = absurd alike_
    sized_alike (Some c) None name other_name same alike_ = absurd alike_
    sized_alike (Some c) (Some d) name other_name same alike_ =
        λ i. (same i, min (length (alike_.bag i)) (2 ^ 64 - 1)) ∷ []

    pair_sizes : (n q : ℕ) → Paired pairs n q → here_sizes n ≡ there_sizes q
    pair_sizes n q is = by (rests_here n) (rests_there q) refl refl (rests_same n q is)
      where
        by : (b c : Bool) → rests_here n ≡ b → rests_there q ≡ c → b ≡ c
            → (if b then sized_by (slice_get one.nodes n) (made_at whole n) else [])
            ≡ (if c then sized_by (slice_get other.nodes q) (made_at whole_ q) else [])
        by true true first second same =
            let node = paired n q is in
            let path = path_here n first in
            let path_ = path_there q second in
            let needed =
            (needed_law one well n).1 (path.0, leads_whole one output read path.0 n path.1) in
            let needed_ =
            (needed_law other well_ q).1
            (path_.0, leads_whole other output_ read_ path_.0 q path_.1) in
            ap (λ o. sized_by o (made_at whole n)) node.here
            ∙ sized_alike (made_at whole n) (made_at whole_ q) node.entry.0 node.other.0
            node.alike.name (alike n q is needed needed_)
            ∙ ap (λ o. sized_by o (made_at whole_ q)) (sym node.there)
        by true false first second same = cc
        by false true first second same = cc
        by false false first second same = refl

    pub sizes_same : rested_sizes one whole output.1.reads
        ≡ rested_sizes other whole_ output_.1.reads
    sizes_same =
        sizes_are one whole output.1.reads
        ∙ by_left here_sizes rises covers
        ∙ same_flat (λ (p : ℕ × ℕ). here_sizes p.0) (λ (p : ℕ × ℕ). there_sizes p.1) pairs
        pair_sizes
        ∙ sym (by_right there_sizes rises covers_back)
        ∙ sym (sizes_are other whole_ output_.1.reads)
