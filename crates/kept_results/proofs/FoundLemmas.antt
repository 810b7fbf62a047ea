-- What is found of what is asked for: lists of collections that outputs read, which may be kept.
use Rattle.std.proofs.Common.{◌≡◌, ℕ, suc, ◌<◌, ◌≤◌, Bool, true, false, eqb, List, []}
use Rattle.std.proofs.Common.{◌∷◌, ◌++◌, length, map, Option, Some, None, if◌then◌else◌, refl, sym}
use Rattle.std.proofs.Common.{ap, ◌∙◌, subst, arith, zero-add}
use Rattle.std.specs.List.{AllByRecursion as Each, Contains}
use Rattle.std.proofs.lemmas.Bool.{eq-eqb, eqb-true}
use Rattle.std.proofs.lemmas.Option.{slice_get_within}
use Rattle.flume_value.proofs.EachLemmas.{Each-both, Each-map, Each-weaker}
use Rattle.flume_collection.proofs.Members.{at_head, at_tail}
use Rattle.saved_results.specs.declared.saved.Saved.{Saved}
use Rattle.written_types.specs.Named.{Named}
use Rattle.script_program.specs.declared.made.Output.{Output}
use Rattle.script_program.specs.Kinds.{gives_object}
use Rattle.script_program.specs.Needed.{is_needed, outputs_read}
use Rattle.script_program.specs.Saved.{with_saved}
use Rattle.script_program.specs.Script.{Node, Script}
use Rattle.saved_meaning.specs.of_script_laws.WellFormed.{IsWellFormed}
use Rattle.saved_meaning.proofs.of_script_laws.NeededLemmas.{needed_law}
use Rattle.saved_meaning.proofs.of_script_laws.SavedLemmas.{saved-well}
use Rattle.flume_collection.specs.Collection.{Collection}
use Rattle.saved_meaning.specs.of_direct_meaning.Direct.{made_at}
use Rattle.saved_meaning.specs.of_direct_meaning.Inputs.{IsListOf}
use Rattle.saved_meaning.specs.Found.{IsKeptList, bag_or_none}
use Rattle.kept_results.specs.Asked.{asked_as, asked_nodes, name_read}
use Rattle.kept_results.specs.Kept.{AreKept, IsKeptOf}
use Rattle.kept_results.specs.Lists.{found_of, found_at_number, kept_table}
use Rattle.kept_results.proofs.ListLemmas.{AreRight, AscendFrom, Found, as_made, lower, numbers_of}
use Rattle.kept_results.proofs.ListLemmas.{other_number, table_from}
use Rattle.kept_results.proofs.Steps.{asked_from}

-- ---- numbers that ascend

-- they ascend, from one on
abbrev pub Ascending : ℕ → List ℕ → Type 0
Ascending n [] = Unit {0}
Ascending n (x ∷ xs) = (n ≤ x) × Ascending (suc x) xs

fewer : (n m : ℕ) (xs : List ℕ) → n ≤ m → Ascending m xs → Ascending n xs
fewer n m [] less all = tt
fewer n m (x ∷ xs) less all = (omega (arith, less, all.0), all.1)

abbrev pub asked_numbers : Named Output → ℕ → Named Node → List ℕ
asked_numbers outputs n nodes = map (λ (it : ℕ × List ℕ). it.0) (asked_from outputs n nodes)

-- those that are asked for do
one_ascend : (outputs : Named Output) (n : ℕ) (nodes : Named Node)
    → Ascending (suc n) (asked_numbers outputs (suc n) nodes) → (o : Option (List ℕ))
    → Ascending n
    (map (λ (it : ℕ × List ℕ). it.0) (asked_as n o ++ asked_from outputs (suc n) nodes))
one_ascend outputs n nodes rest None =
    fewer n (suc n) (asked_numbers outputs (suc n) nodes) (omega arith) rest
one_ascend outputs n nodes rest (Some name) = (omega arith, rest)

asked_ascend : (outputs : Named Output) (n : ℕ) (nodes : Named Node)
    → Ascending n (asked_numbers outputs n nodes)
asked_ascend outputs n [] = tt
asked_ascend outputs n (entry ∷ nodes) =
    one_ascend outputs n nodes (asked_ascend outputs (suc n) nodes) (name_read outputs n)

-- and outputs read them
abbrev pub IsRead : Named Output → ℕ → Type 0
IsRead outputs number = Contains (map (λ (entry : List ℕ × Output). entry.1.reads) outputs) number

read_by : (entry : List ℕ × Output) (outputs : Named Output) (n : ℕ) (name : List ℕ) (b : Bool)
    → eqb entry.1.reads n ≡ b → (name_read outputs n ≡ Some name → IsRead outputs n)
    → (if b then Some entry.1.name else name_read outputs n) ≡ Some name
    → IsRead (entry ∷ outputs) n
read_by entry outputs n name true same others there =
    subst (IsRead (entry ∷ outputs)) (eqb-true entry.1.reads n same)
    (at_head entry.1.reads (map (λ (it : List ℕ × Output). it.1.reads) outputs))
read_by entry outputs n name false same others there =
    at_tail entry.1.reads (map (λ (it : List ℕ × Output). it.1.reads) outputs) n (others there)

read_so : (outputs : Named Output) (n : ℕ) (name : List ℕ) → name_read outputs n ≡ Some name
    → IsRead outputs n
read_so [] n name is = cc
read_so (entry ∷ outputs) n name is =
    read_by entry outputs n name (eqb entry.1.reads n) refl (read_so outputs n name) is

one_read : (outputs : Named Output) (n : ℕ) (nodes : Named Node)
    → Each (IsRead outputs) (asked_numbers outputs (suc n) nodes) → (o : Option (List ℕ))
    → name_read outputs n ≡ o → Each (IsRead outputs)
    (map (λ (it : ℕ × List ℕ). it.0) (asked_as n o ++ asked_from outputs (suc n) nodes))
one_read outputs n nodes rest None is = rest
one_read outputs n nodes rest (Some name) is = (read_so outputs n name is, rest)

pub asked_read : (outputs : Named Output) (n : ℕ) (nodes : Named Node)
    → Each (IsRead outputs) (asked_numbers outputs n nodes)
asked_read outputs n [] = tt
asked_read outputs n (entry ∷ nodes) =
    one_read outputs n nodes (asked_read outputs (suc n) nodes) (name_read outputs n) refl

-- ---- what is found

abbrev pub firsts : List (ℕ × List ℕ) → List ℕ
firsts asked = map (λ (it : ℕ × List ℕ). it.0) asked

found_ascend : (n : ℕ) (asked : List (ℕ × List ℕ)) (looked : List (Option Saved))
    → Ascending n (firsts asked) → AscendFrom n (found_of asked looked)
found_ascend n [] looked all = tt
found_ascend n (it ∷ asked) [] all = tt
found_ascend n (it ∷ asked) (None ∷ looked) all =
    lower n (suc it.0) (found_of asked looked) (omega (arith, all.0))
    (found_ascend (suc it.0) asked looked all.1)
found_ascend n (it ∷ asked) (Some saved ∷ looked) all =
    (all.0, found_ascend (suc it.0) asked looked all.1)

pub found_each : (P : ℕ → Type 0) (asked : List (ℕ × List ℕ)) (looked : List (Option Saved))
    → Each P (firsts asked) → Each (λ it. P it.0) (found_of asked looked)
found_each P [] looked all = tt
found_each P (it ∷ asked) [] all = tt
found_each P (it ∷ asked) (None ∷ looked) all = found_each P asked looked all.1
found_each P (it ∷ asked) (Some saved ∷ looked) all =
    (all.0, found_each P asked looked all.1)

found_kept : (script : Script) (asked : List (ℕ × List ℕ)) (looked : List (Option Saved))
    → AreKept script asked looked → Each (λ it. IsKeptOf script it.0 it.1) (found_of asked looked)
found_kept script [] [] all = tt
found_kept script [] (found ∷ looked) all = absurd all
found_kept script (it ∷ asked) [] all = absurd all
found_kept script (it ∷ asked) (None ∷ looked) all = found_kept script asked looked all.1
found_kept script (it ∷ asked) (Some saved ∷ looked) all =
    (all.0, found_kept script asked looked all.1)

-- ---- by the table

all_above : (n : ℕ) (found : Found) → AscendFrom n found → Each (λ it. n ≤ it.0) found
all_above n [] all = tt
all_above n (it ∷ found) all = (
  all.0,
  Each-weaker (λ (x : ℕ × Saved). suc it.0 ≤ x.0) (λ (x : ℕ × Saved). n ≤ x.0)
      (λ x more. omega (arith, more, all.0)) found (all_above (suc it.0) found all.1),
)

kept_here : (n : ℕ) (found : Found) → AscendFrom n found
    → Each (λ it. found_at_number found it.0 ≡ as_made it.1.members) found
kept_here n [] all = tt
kept_here n (it ∷ found) all = (
  (λ i. if eq-eqb it.0 it.0 refl i then as_made it.1.members else found_at_number found it.0),
  Each-both (λ (x : ℕ × Saved). found_at_number found x.0 ≡ as_made x.1.members)
      (λ (x : ℕ × Saved). suc it.0 ≤ x.0)
      (λ (x : ℕ × Saved). found_at_number (it ∷ found) x.0 ≡ as_made x.1.members)
      (λ x own more. (λ i. if other_number it.0 x.0 more i then as_made it.1.members
      else found_at_number found x.0) ∙ own)
      found (kept_here (suc it.0) found all.1) (all_above (suc it.0) found all.1),
)

kept_at_number : (script : Script) (found : Found) (it : ℕ × Saved) → it.0 < length script.nodes
    → found_at_number found it.0 ≡ as_made it.1.members
    → made_at (kept_table script found) it.0 ≡ as_made it.1.members
kept_at_number script found it below same =
    table_from found 0 it.0 script.nodes below ∙ ap (found_at_number found) (zero-add it.0) ∙ same

kept_list : (script : Script) (table : List (Option Collection)) (it : ℕ × Saved)
    → bag_or_none (made_at table it.0) ≡ it.1.members → IsKeptOf script it.0 it.1
    → IsKeptList script table it.0
kept_list script table it same kept = λ entry there.
    let both : Some kept.entry ≡ Some entry = sym kept.at ∙ there in
    let is : kept.entry ≡ entry = cc in
    subst (IsListOf (record { type = entry.1.type; is_object = gives_object entry.1.made }))
    (sym same)
    (subst
    (λ (x : List ℕ × Node).
    IsListOf (record { type = x.1.type; is_object = gives_object x.1.made }) it.1.members) is
    (record { typed = kept.members.typed; one = kept.members.one }))

-- ---- all of it

module _ (script : Script) (well : IsWellFormed script) (asked : List (ℕ × List ℕ))
    (looked : List (Option Saved)) (are : firsts asked ≡ firsts (asked_nodes script))
    (kept : AreKept script asked looked) where
  abbrev pub found : Found
  found = found_of asked looked

  pub ascend : AscendFrom 0 found
  ascend =
      found_ascend 0 asked looked
      (subst (Ascending 0) (sym are) (asked_ascend script.outputs 0 script.nodes))

  needed : (number : ℕ) → Contains (outputs_read script) number
      → is_needed (with_saved (numbers_of found) script) number ≡ true
  needed number reads =
      (needed_law (with_saved (numbers_of found) script)
      (saved-well script well (numbers_of found)) number).1 ([], reads)

  all_kept_of : Each (λ it. IsKeptOf script it.0 it.1) found
  all_kept_of = found_kept script asked looked kept

  -- the table of what is found has its members
  pub own : Each (λ it. bag_or_none (made_at (kept_table script found) it.0) ≡ it.1.members) found
  own =
      Each-both (λ (it : ℕ × Saved). found_at_number found it.0 ≡ as_made it.1.members)
      (λ (it : ℕ × Saved). IsKeptOf script it.0 it.1)
      (λ (it : ℕ × Saved). bag_or_none (made_at (kept_table script found) it.0) ≡ it.1.members)
      (λ it same mine.
      ap bag_or_none
      (kept_at_number script found it
      (slice_get_within script.nodes it.0 mine.entry mine.at) same))
      found (kept_here 0 found ascend) all_kept_of

  module _ (table : List (Option Collection))
      (has : Each (λ it. bag_or_none (made_at table it.0) ≡ it.1.members) found) where
    placed : Each (λ it. (it.0 < length script.nodes)
        × (is_needed (with_saved (numbers_of found) script) it.0 ≡ true)) found
    placed =
        Each-both (λ (it : ℕ × Saved). Contains (outputs_read script) it.0)
        (λ (it : ℕ × Saved). IsKeptOf script it.0 it.1)
        (λ (it : ℕ × Saved). (it.0 < length script.nodes)
        × (is_needed (with_saved (numbers_of found) script) it.0 ≡ true))
        (λ it reads mine.
        (slice_get_within script.nodes it.0 mine.entry mine.at, needed it.0 reads))
        found
        (found_each (Contains (outputs_read script)) asked looked
        (subst (Each (Contains (outputs_read script))) (sym are)
        (asked_read script.outputs 0 script.nodes)))
        all_kept_of

    pub right : AreRight script found table found
    right =
        Each-both
        (λ (it : ℕ × Saved). (it.0 < length script.nodes)
        × (is_needed (with_saved (numbers_of found) script) it.0 ≡ true))
        (λ (it : ℕ × Saved). bag_or_none (made_at table it.0) ≡ it.1.members)
        (λ (it : ℕ × Saved). (it.0 < length script.nodes)
        × (is_needed (with_saved (numbers_of found) script) it.0 ≡ true)
        × (bag_or_none (made_at table it.0) ≡ it.1.members))
        (λ it here mine. (here.0, here.1, mine)) found placed has

    pub lists : Each (IsKeptList script table) (numbers_of found)
    lists =
        Each-map (IsKeptList script table) (λ (it : ℕ × Saved). it.0) found
        (Each-both (λ (it : ℕ × Saved). bag_or_none (made_at table it.0) ≡ it.1.members)
        (λ (it : ℕ × Saved). IsKeptOf script it.0 it.1)
        (λ (it : ℕ × Saved). IsKeptList script table it.0)
        (λ it same mine. kept_list script table it same mine) found has all_kept_of)
