-- The lists that are given to a run that reuses what is kept are those of its script.
use Rattle.std.proofs.Common.{◌≡◌, ◌≢◌, ◌||◌, ℕ, zero, suc, ◌+◌, ◌<◌, ◌≤◌, Bool, true, false, eqb, List}
use Rattle.std.proofs.Common.{[], ◌∷◌, ◌++◌, length, map, Option, Some, None, if◌then◌else◌, refl}
use Rattle.std.proofs.Common.{sym, ap, ◌∙◌, arith, add-zero, zero-add}
use Rattle.std.specs.List.{AllByRecursion as Each, filter, flat_map}
use Rattle.std.proofs.lemmas.Bool.{eqb-false, eqb-true}
use Rattle.flume_collection.specs.Collection.{Collection}
use Rattle.flume_value.specs.declared.value.Value.{Value}
use Rattle.saved_results.specs.declared.saved.Saved.{Saved}
use Rattle.written_types.specs.Named.{Named}
use Rattle.script_program.specs.declared.made.Made.{Made}
use Rattle.script_program.specs.declared.made.Made.TheVariants as made
use Rattle.script_program.specs.Needed.{holds_number, is_needed, needed_nodes, collections_numbered}
use Rattle.script_program.specs.Saved.{HasNoSaved, IsUnsaved, saved_among, saved_node, with_saved}
use Rattle.script_program.specs.Script.{Node, Script}
use Rattle.saved_meaning.proofs.of_direct_meaning.PlainLemmas.{flat-if, more_if}
use Rattle.saved_meaning.specs.of_direct_meaning.Direct.{made_at}
use Rattle.saved_meaning.specs.Found.{all_kept, members_kept, bag_or_none, needed_too, needs_input}
use Rattle.saved_meaning.specs.Found.{still_needed}
use Rattle.kept_results.specs.Lists.{input_numbers, found_at_number, number_of_input}

-- ---- rows

one_mark : (later : Script) (number : ℕ) (how : Made) (rest : List ℕ)
    → map (needs_input later) (number_of_input number how ++ rest)
    ≡ needed_too later number how ++ map (needs_input later) rest
one_mark later number (made.Input file columns) rest = refl
one_mark later number _ rest = refl

marks_from : (later : Script) (nodes : List (ℕ × (List ℕ × Node)))
    → map (needs_input later) (flat_map (λ it. number_of_input it.0 it.1.1.made) nodes)
    ≡ flat_map (λ it. needed_too later it.0 it.1.1.made) nodes
marks_from later [] = refl
marks_from later (it ∷ nodes) =
    one_mark later it.0 it.1.1.made (flat_map (λ x. number_of_input x.0 x.1.1.made) nodes)
    ∙ ap (λ l. needed_too later it.0 it.1.1.made ++ l) (marks_from later nodes)

-- the inputs that are needed still, by their numbers
pub marks_are : (script later : Script)
    → map (needs_input later) (input_numbers script) ≡ still_needed script later
marks_are script later = marks_from later (needed_nodes script)

-- ---- what is found, by its number

abbrev pub Found : Type 0
Found = List (ℕ × Saved)

abbrev pub numbers_of : Found → List ℕ
numbers_of found = map (λ it. it.0) found

abbrev pub as_made : List Value → Option Collection
as_made members = Some (record { bag = members; traps = [] })

-- the numbers ascend, from one on
abbrev pub AscendFrom : ℕ → Found → Type 0
AscendFrom n [] = Unit {0}
AscendFrom n (it ∷ found) = (n ≤ it.0) × AscendFrom (suc it.0) found

pub lower : (n m : ℕ) (found : Found) → n ≤ m → AscendFrom m found → AscendFrom n found
lower n m [] less all = tt
lower n m (it ∷ found) less all = (omega (arith, less, all.0), all.1)

-- the same numbers are among both, from one on
abbrev Agree : ℕ → Found → Found → Type 0
Agree n found rest =
    (m : ℕ) → n ≤ m → holds_number (numbers_of found) m ≡ holds_number (numbers_of rest) m

pub other_number : (x m : ℕ) → suc x ≤ m → eqb x m ≡ false
other_number x m less = by (eqb x m) refl
  where
    by : (b : Bool) → eqb x m ≡ b → b ≡ false
    by true is = let same : x ≡ m = eqb-true x m is in absurd (omega (arith, less, same))
    by false is = refl

-- one that is not less, and another, is greater
apart_less : (n x : ℕ) → n ≤ x → eqb x n ≡ false → suc n ≤ x
apart_less n x less is = let other : x ≢ n = eqb-false x n is in omega (arith, less, other)

-- a number below those is not among them
none_below : (n : ℕ) (found : Found) → AscendFrom (suc n) found
    → holds_number (numbers_of found) n ≡ false
none_below n [] all = refl
none_below n (it ∷ found) all =
    (λ i. above i || holds_number (numbers_of found) n)
    ∙ none_below n found (lower (suc n) (suc it.0) found (omega (arith, all.0)) all.1)
  where
    above : eqb it.0 n ≡ false
    above = by (eqb it.0 n) refl
      where
        by : (b : Bool) → eqb it.0 n ≡ b → b ≡ false
        by true is =
            let same : it.0 ≡ n = eqb-true it.0 n is in
            let more = all.0 in
            absurd (omega (arith, more, same))
        by false is = refl

-- ---- one number on

on_behind : (n : ℕ) (found : Found) (it : ℕ × Saved) (rest : Found) → it.0 ≡ n
    → Agree n found (it ∷ rest) → Agree (suc n) found rest
on_behind n found it rest is agree = λ m less.
    agree m (omega (arith, less))
    ∙ (λ i. other_number it.0 m (omega (arith, less, is)) i || holds_number (numbers_of rest) m)

-- ---- by the table

front_made : (o : Option Collection) (table : List (Option Collection))
    → made_at (o ∷ table) 0 ≡ o
front_made None table = refl
front_made (Some c) table = refl

pub table_from : (found : Found) (n k : ℕ) (nodes : Named Node) → k < length nodes
    → made_at (map (λ it. found_at_number found it.0) (collections_numbered n nodes)) k
    ≡ found_at_number found (n + k)
table_from found n k [] below = absurd (omega arith)
table_from found n zero (entry ∷ nodes) below =
    front_made (found_at_number found n) (map (λ it. found_at_number found it.0)
    (collections_numbered (suc n) nodes))
    ∙ ap (found_at_number found) (sym (add-zero n))
table_from found n (suc k) (entry ∷ nodes) below =
    let e : suc n + k ≡ n + suc k = omega arith in
    table_from found (suc n) k nodes (omega (arith, below)) ∙ ap (found_at_number found) e

no_members : (table : List (Option Collection)) (n : ℕ) (how : Made) → IsUnsaved how
    → members_kept table n how ≡ []
no_members table n (made.Saved is_object call) un = absurd un
no_members table n _ un = refl

-- ---- one collection

module _ (table : List (Option Collection)) (n : ℕ) (entry : List ℕ × Node)
    (others : List (List Value)) where
  abbrev Cell : Bool → Bool → List (List Value)
  Cell needed kept =
      more_if needed
      (members_kept table n (if kept then (entry.0, saved_node entry.1) else entry).1.made) others

  cell_kept : (needed kept : Bool) (members : List Value) → needed ≡ true → kept ≡ true
      → bag_or_none (made_at table n) ≡ members → Cell needed kept ≡ members ∷ others
  cell_kept true true members is also same = ap (λ l. l ∷ others) same
  cell_kept true false members is also same = cc
  cell_kept false kept members is also same = cc

  cell_plain : (needed kept : Bool) → kept ≡ false → IsUnsaved entry.1.made
      → Cell needed kept ≡ others
  cell_plain needed true is un = cc
  cell_plain true false is un = ap (λ l. l ++ others) (no_members table n entry.1.made un)
  cell_plain false false is un = refl

-- ---- all

-- where the table has the members of what is found
module _ (script : Script) (found : Found) (table : List (Option Collection)) where
  abbrev later : Script
  later = with_saved (numbers_of found) script

  abbrev lists_from : ℕ → Named Node → List (List Value)
  lists_from n nodes =
      flat_map (λ it. members_kept table it.0 it.1.1.made)
      (filter (λ it. is_needed later it.0) (collections_numbered n nodes))

  abbrev members : Found → List (List Value)
  members rest = map (λ it. it.1.members) rest

  -- each is below the end, it is needed, and the table has its members
  abbrev pub AreRight : Found → Type 0
  AreRight rest =
      Each
      (λ it. (it.0 < length script.nodes) × (is_needed later it.0 ≡ true)
      × (bag_or_none (made_at table it.0) ≡ it.1.members))
      rest

  abbrev Goes : Named Node → Type 0
  Goes nodes = (n : ℕ) (rest : Found) → n + length nodes ≡ length script.nodes
      → Each (λ entry. IsUnsaved entry.1.made) nodes → AscendFrom n rest → AreRight rest
      → Agree n found rest
      → lists_from n (saved_among (numbers_of found) n nodes) ≡ members rest

  module _ (entry : List ℕ × Node) (nodes : Named Node) (goes : Goes nodes) (n : ℕ)
      (long : suc n + length nodes ≡ length script.nodes) (un : IsUnsaved entry.1.made)
      (uns : Each (λ entry. IsUnsaved entry.1.made) nodes) where
    abbrev others : List (List Value)
    others = lists_from (suc n) (saved_among (numbers_of found) (suc n) nodes)

    abbrev here : List (List Value)
    here = Cell table n entry others (is_needed later n) (holds_number (numbers_of found) n)

    passes : (rest : Found) → holds_number (numbers_of rest) n ≡ false → AscendFrom (suc n) rest
        → AreRight rest → Agree n found rest → here ≡ members rest
    passes rest none ascend right agree =
        cell_plain table n entry others (is_needed later n) (holds_number (numbers_of found) n)
        (agree n (omega arith) ∙ none) un
        ∙ goes (suc n) rest long uns ascend right (λ m less. agree m (omega (arith, less)))

    takes : (it : ℕ × Saved) (rest : Found) (b : Bool) → eqb it.0 n ≡ b
        → AscendFrom n (it ∷ rest) → AreRight (it ∷ rest) → Agree n found (it ∷ rest)
        → here ≡ members (it ∷ rest)
    takes it rest true is ascend right agree =
        let same : it.0 ≡ n = eqb-true it.0 n is in
        let there : holds_number (numbers_of found) n ≡ true =
        agree n (omega arith) ∙ (λ i. is i || holds_number (numbers_of rest) n) in
        let own : bag_or_none (made_at table n) ≡ it.1.members =
        ap (λ k. bag_or_none (made_at table k)) (sym same) ∙ right.0.2 in
        cell_kept table n entry others (is_needed later n) (holds_number (numbers_of found) n)
        it.1.members
        (ap (is_needed later) (sym same) ∙ right.0.1) there own
        ∙ ap (λ l. it.1.members ∷ l)
        (goes (suc n) rest long uns (lower (suc n) (suc it.0) rest (omega (arith, same)) ascend.1)
        right.1 (on_behind n found it rest same agree))
    takes it rest false is ascend right agree =
        let more = apart_less n it.0 ascend.0 is in
        passes (it ∷ rest) (none_below n (it ∷ rest) (more, ascend.1)) (more, ascend.1) right agree

    one : (rest : Found) → AscendFrom n rest → AreRight rest → Agree n found rest
        → here ≡ members rest
    one [] ascend right agree = passes [] refl tt tt agree
    one (it ∷ rest) ascend right agree = takes it rest (eqb it.0 n) refl ascend right agree

  goes_all : (nodes : Named Node) → Goes nodes
  goes_all [] n [] long un ascend right agree = refl
  goes_all [] n (it ∷ rest) long un ascend right agree =
      let below = right.0.0 in
      let above = ascend.0 in
      absurd (omega (arith, below, above, long))
  goes_all (entry ∷ nodes) n rest long un ascend right agree =
      flat-if (λ (x : ℕ × (List ℕ × Node)). members_kept table x.0 x.1.1.made)
      (is_needed later n)
      (n, if holds_number (numbers_of found) n then (entry.0, saved_node entry.1) else entry)
      (filter (λ it. is_needed later it.0)
      (collections_numbered (suc n) (saved_among (numbers_of found) (suc n) nodes)))
      ∙ one entry nodes (goes_all nodes) n (omega (arith, long)) un.0 un.1 rest ascend right agree

  -- the lists of what is kept are the members of what is found, in order
  pub kept_are : HasNoSaved script → AscendFrom 0 found → AreRight found
      → all_kept later table ≡ members found
  kept_are unsaved ascend right =
      goes_all script.nodes 0 found (zero-add (length script.nodes)) unsaved ascend right
      (λ m less. refl)
