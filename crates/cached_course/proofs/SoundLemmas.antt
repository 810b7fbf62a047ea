-- A run that reuses what the script means writes the files of the script, and tells its sizes.
use Rattle.std.proofs.Common.{◌≡◌, ◌∙◌, ◌⊎◌, inl, inr, ◌||◌, ℕ, suc, ◌+◌, ◌<◌, Bool, true, false, eqb, List, [], ◌∷◌, ◌++◌, length, map, Option, Some, is_some, refl, sym, ap, subst, arith, zero-add}
use Rattle.std.specs.Prelude.{option_and_then}
use Rattle.std.specs.List.{AllByRecursion as Each, Contains, flat_map}
use Rattle.std.specs.Option.{option_map}
use Rattle.std.proofs.lemmas.Bool.{eqb-true}
use Rattle.csv_rows.specs.Text.{table_text}
use Rattle.flume_collection.specs.Collection.{Collection}
use Rattle.flume_collection.proofs.Members.{at_head, at_tail}
use Rattle.flume_value.proofs.EachLemmas.{Each-append, Each-map, Each-weaker}
use Rattle.flume_value.specs.declared.value.Value.{Value}
use Rattle.kept_results.specs.Lists.{rows_for_script, later_of}
use Rattle.kept_results.specs.Sizes.{size_pairs, named_only, nodes_needed, rested_nodes, size_at, size_entry, sizes_kept}
use Rattle.kept_results.specs.of_direct_meaning.Direct.{made_at, meaning, sizes_of}
use Rattle.kept_results.specs.of_direct_meaning.Made.{AreMade, IsMadeFor}
use Rattle.kept_results.specs.of_saved_meaning.Found.{IsSame, MeansSame, lists_for, bag_or_none, where_needed}
use Rattle.kept_results.specs.of_script_laws.WellFormed.{IsWellFormed}
use Rattle.kept_results.proofs.FoundLemmas.{IsRead}
use Rattle.kept_results.proofs.ListLemmas.{numbers_of}
use Rattle.kept_results.proofs.of_script_laws.NeededLemmas.{needed_law}
use Rattle.kept_results.proofs.of_script_laws.SavedLemmas.{saved-well}
use Rattle.key_meaning.specs.Rested.{rested_sizes}
use Rattle.outside.specs.declared.file.File.{File}
use Rattle.run_course.proofs.RunLemmas.{as_many}
use Rattle.run_course.specs.Written.{CollectionTable, files_of}
use Rattle.saved_results.specs.Saved.{saved_value}
use Rattle.saved_results.specs.declared.saved.Saved.{Saved}
use Rattle.saved_results.specs.declared.saved.Size.{Size}
use Rattle.script_program.specs.declared.made.Output.{Output}
use Rattle.script_program.specs.Needed.{holds_number, is_needed, needed_nodes, outputs_read}
use Rattle.script_program.specs.Rested.{rested, rests}
use Rattle.script_program.specs.Saved.{saved_among}
use Rattle.script_program.specs.Script.{Node, Script}
use Rattle.written_types.specs.Named.{Named}
use Rattle.cached_course.specs.Kept.{value_kept}
use Rattle.cached_course.specs.Reused.{Found, all_sizes, known}
use Rattle.cached_course.specs.Sound.{line_size, what_is_saved}
use Rattle.cached_course.proofs.CoverLemmas.{covered, read_by, rests_needed}
use Rattle.cached_course.proofs.FoundLemmas.{own_sizes}
use Rattle.cached_course.proofs.SizedLemmas.{HasNumber, Numbered, beside_sizes, has_left, has_right, named_size, numbered_has, numbered_size, picked, size_in, size_there, sized_all, sizes_by, told_same}

-- ---- the table

-- what is given means what the script means, by number
pub table_same : (script : Script) (found : Found) (rows : List (List Value))
    (made table : CollectionTable)
    → MeansSame script (later_of script found) rows made
    → rows_for_script script found rows ≡ lists_for script (later_of script found) rows made
    → meaning (later_of script found) (rows_for_script script found rows) ≡ Some table
    → IsSame (later_of script found) made table
table_same script found rows made table it given means =
    let both : Some it.own ≡ Some table =
    sym it.means ∙ ap (meaning (later_of script found)) (sym given) ∙ means in
    let same : it.own ≡ table = cc both in
    subst (IsSame (later_of script found) made) same it.same

-- ---- some lists

reads_in : (outputs : Named Output)
    → Each (λ (o : List ℕ × Output).
    Contains (map (λ (it : List ℕ × Output). it.1.reads) outputs) o.1.reads) outputs
reads_in [] = tt
reads_in (entry ∷ outputs) =
    let reads : List ℕ = map (λ (it : List ℕ × Output). it.1.reads) outputs in (
      at_head entry.1.reads reads,
      Each-weaker (λ (o : List ℕ × Output). Contains reads o.1.reads)
          (λ (o : List ℕ × Output). Contains (entry.1.reads ∷ reads) o.1.reads)
          (λ o among. at_tail entry.1.reads reads o.1.reads among) outputs (reads_in outputs),
    )

files_from : (made table : CollectionTable) (outputs : Named Output)
    → Each (λ (o : List ℕ × Output). made_at table o.1.reads ≡ made_at made o.1.reads) outputs
    → files_of table outputs ≡ files_of made outputs
files_from made table [] same = refl
files_from made table (output ∷ outputs) same =
    λ i. option_and_then
    (λ (file : File).
    option_map (λ files. file ∷ files) (files_from made table outputs same.1 i))
    (option_map
    (λ (c : Collection).
    record { name = output.0; bytes = table_text output.1.columns c.bag }) (same.0 i))

pub saved_length : (numbers : List ℕ) (k : ℕ) (nodes : Named Node)
    → length (saved_among numbers k nodes) ≡ length nodes
saved_length numbers k [] = refl
saved_length numbers k (entry ∷ nodes) = ap suc (saved_length numbers (suc k) nodes)

-- the sizes of what is kept, by names
lines_same : (known : List (ℕ × ℕ)) (f : ℕ → Option Collection) (xs : Numbered)
    → Each (λ it. size_at known it.0 ≡ size_in (f it.0)) xs
    → map (size_entry known) (map named_only xs) ≡ map line_size (map (named_size f) xs)
lines_same known f [] same = refl
lines_same known f (it ∷ xs) same =
    λ i. record { name = it.1.0; members = same.0 i } ∷ lines_same known f xs same.1 i

-- sizes by number are right
right_sizes : (f : ℕ → Option Collection) (xs : Numbered)
    → Each (λ (it : ℕ × ℕ). it.1 ≡ size_in (f it.0)) (map (numbered_size f) xs)
right_sizes f [] = tt
right_sizes f (it ∷ xs) = (refl, right_sizes f xs)

-- ---- what is told

module _ (script : Script) (well : IsWellFormed script) (found : Found)
    (read : Each (IsRead script.outputs) (numbers_of found)) (made table : CollectionTable)
    (are : AreMade script script.nodes made)
    (own : AreMade (later_of script found) (later_of script found).nodes table)
    (same : IsSame (later_of script found) made table)
    (kept : Each (λ (it : ℕ × Saved). map (λ (size : Size). size.members) it.1.sizes
    ≡ map (λ (line : List ℕ × ℕ). line.1) (rested_sizes script made it.0)) found) where
  abbrev later : Script
  later = later_of script found

  at_needed : (n : ℕ) → is_needed later n ≡ true → made_at table n ≡ made_at made n
  at_needed n needed = same n ∙ ap (λ b. where_needed b (made_at made n)) needed

  -- the files
  pub files_same : files_of table script.outputs ≡ files_of made script.outputs
  files_same =
      files_from made table script.outputs
      (Each-weaker (λ (o : List ℕ × Output). Contains (outputs_read script) o.1.reads)
      (λ (o : List ℕ × Output). made_at table o.1.reads ≡ made_at made o.1.reads)
      (λ o reads.
      at_needed o.1.reads
      ((needed_law later (saved-well script well (numbers_of found)) o.1.reads).1 ([], reads)))
      script.outputs (reads_in script.outputs))

  -- what the script tells of sizes, and what is told of what is run
  script_sizes : sizes_of script made ≡ map (named_size (made_at made)) (needed_nodes script)
  script_sizes =
      sizes_by (is_needed script) (made_at made) script.nodes made 0
      (sym (as_many IsMadeFor script.nodes made are.each))
      (λ k below. ap (made_at made) (sym (zero-add k)))
      (λ k below. are.needed k below ∙ ap (is_needed script) (sym (zero-add k)))

  run_sizes : size_pairs (nodes_needed later)
      (map (λ (line : List ℕ × ℕ). line.1) (sizes_of later table))
      ≡ map (numbered_size (made_at table)) (needed_nodes later)
  run_sizes =
      ap
      (λ (l : List (List ℕ × ℕ)).
      size_pairs (nodes_needed later) (map (λ (line : List ℕ × ℕ). line.1) l))
      (sizes_by (is_needed later) (made_at table) later.nodes table 0
      (sym (as_many IsMadeFor later.nodes table own.each))
      (λ k below. ap (made_at table) (sym (zero-add k)))
      (λ k below. own.needed k below ∙ ap (is_needed later) (sym (zero-add k))))
      ∙ beside_sizes (made_at table) (needed_nodes later)

  -- what was kept with one is the size of each that it rests on
  abbrev rested_known : ℕ × Saved → List (ℕ × ℕ)
  rested_known it = map (numbered_size (made_at made)) (rested script it.0)

  rested_made : (m : ℕ) → IsRead script.outputs m
      → Each (λ it. is_some (made_at made it.0) ≡ true) (rested script m)
  rested_made m reads =
      let by = read_by script.outputs m reads in
      picked (rests script m) (λ n. is_some (made_at made n) ≡ true) script.nodes 0
      (λ n low high is.
      are.needed n (omega (arith, high))
      ∙ rests_needed script well by.output by.among
      (subst (Contains (outputs_read script)) (sym by.reads) reads) n
      (subst (λ k. rests script k n ≡ true) (sym by.reads) is))

  own_known : (it : ℕ × Saved) → IsRead script.outputs it.0
      → map (λ (size : Size). size.members) it.1.sizes
      ≡ map (λ (line : List ℕ × ℕ). line.1) (rested_sizes script made it.0)
      → own_sizes script it ≡ rested_known it
  own_known it reads sizes =
      ap (size_pairs (rested_nodes script it.0)) sizes
      ∙ ap
      (λ (l : List (List ℕ × ℕ)).
      size_pairs (rested_nodes script it.0) (map (λ (line : List ℕ × ℕ). line.1) l))
      (sized_all (is_needed script) (made_at made) (rested script it.0) (rested_made it.0 reads))
      ∙ beside_sizes (made_at made) (rested script it.0)

  all_known : (xs : Found) → Each (IsRead script.outputs) (numbers_of xs)
      → Each (λ (it : ℕ × Saved). map (λ (size : Size). size.members) it.1.sizes
      ≡ map (λ (line : List ℕ × ℕ). line.1) (rested_sizes script made it.0)) xs
      → flat_map (own_sizes script) xs ≡ flat_map rested_known xs
  all_known [] reads sizes = refl
  all_known (it ∷ xs) reads sizes =
      λ i. own_known it reads.0 sizes.0 i ++ all_known xs reads.1 sizes.1 i

  kept_sizes : sizes_kept script found ≡ flat_map rested_known found
  kept_sizes = all_known found read kept

  -- so all that is known is right
  abbrev Right : ℕ × ℕ → Type 0
  Right it = it.1 ≡ size_in (made_at made it.0)

  kept_right : (xs : Found) → Each Right (flat_map rested_known xs)
  kept_right [] = tt
  kept_right (it ∷ xs) =
      Each-append Right (rested_known it) (flat_map rested_known xs)
      (right_sizes (made_at made) (rested script it.0)) (kept_right xs)

  run_right : Each Right (map (numbered_size (made_at table)) (needed_nodes later))
  run_right =
      Each-map Right (numbered_size (made_at table)) (needed_nodes later)
      (picked (is_needed later)
      (λ n. size_in (made_at table n) ≡ size_in (made_at made n)) later.nodes 0
      (λ n low high needed. ap size_in (at_needed n needed)))

  abbrev known_here : List (ℕ × ℕ)
  known_here = known script found table

  known_is : known_here
      ≡ flat_map rested_known found
      ++ map (numbered_size (made_at table)) (needed_nodes later)
  known_is = λ i. kept_sizes i ++ run_sizes i

  -- and has each that is needed
  first_kept : (it : ℕ × Saved) (xs : Found) (m n : ℕ) → rests script m n ≡ true
      → n < length script.nodes
      → (holds_number (numbers_of xs) m ≡ true → HasNumber (flat_map rested_known xs) n)
      → (b : Bool)
      → eqb it.0 m ≡ b → (b || holds_number (numbers_of xs) m) ≡ true
      → HasNumber (rested_known it ++ flat_map rested_known xs) n
  first_kept it xs m n is below others true e among =
      has_left (rested_known it) (flat_map rested_known xs) n
      (numbered_has (rests script it.0) (made_at made) script.nodes 0 n (omega arith)
      (omega (arith, below))
      (subst (λ k. rests script k n ≡ true) (sym (eqb-true it.0 m e)) is))
  first_kept it xs m n is below others false e among =
      has_right (rested_known it) (flat_map rested_known xs) n (others among)

  has_kept : (m n : ℕ) → rests script m n ≡ true → n < length script.nodes → (xs : Found)
      → holds_number (numbers_of xs) m ≡ true → HasNumber (flat_map rested_known xs) n
  has_kept m n is below [] among = cc among
  has_kept m n is below (it ∷ xs) among =
      first_kept it xs m n is below (has_kept m n is below xs) (eqb it.0 m) refl among

  known_has : (n : ℕ) → n < length script.nodes
      → (is_needed later n ≡ true)
      ⊎ ((m : ℕ) × (holds_number (numbers_of found) m ≡ true) × (rests script m n ≡ true))
      → HasNumber known_here n
  known_has n below (inl needed) =
      subst (λ (l : List (ℕ × ℕ)). HasNumber l n) (sym known_is)
      (has_right (flat_map rested_known found)
      (map (numbered_size (made_at table)) (needed_nodes later)) n
      (numbered_has (is_needed later) (made_at table) later.nodes 0 n (omega arith)
      (subst (λ k. n < 0 + k) (sym (saved_length (numbers_of found) 0 script.nodes))
      (omega (arith, below))) needed))
  known_has n below (inr by) =
      subst (λ (l : List (ℕ × ℕ)). HasNumber l n) (sym known_is)
      (has_left (flat_map rested_known found)
      (map (numbered_size (made_at table)) (needed_nodes later)) n
      (has_kept by.0 n by.2 below found by.1))

  known_right : (n : ℕ) → n < length script.nodes → is_needed script n ≡ true
      → size_at known_here n ≡ size_in (made_at made n)
  known_right n below needed =
      size_there n (size_in (made_at made n)) known_here
      (Each-weaker Right (λ (it : ℕ × ℕ). it.0 ≡ n → it.1 ≡ size_in (made_at made n))
      (λ it right here. right ∙ ap (λ k. size_in (made_at made k)) here) known_here
      (subst (Each Right) (sym known_is)
      (Each-append Right (flat_map rested_known found)
      (map (numbered_size (made_at table)) (needed_nodes later)) (kept_right found) run_right)))
      (known_has n below (covered script well (numbers_of found) read n needed))

  pub sizes_same : all_sizes script found table ≡ sizes_of script made
  sizes_same =
      told_same known_here (made_at made) (needed_nodes script)
      (picked (is_needed script) (λ n. size_at known_here n ≡ size_in (made_at made n))
      script.nodes 0 (λ n low high needed. known_right n (omega (arith, high)) needed))
      ∙ sym script_sizes

  -- ---- what is kept

  -- of what an output reads just what the script means is kept
  pub value_same : (n : ℕ) → IsRead script.outputs n → (c : Collection)
      → made_at made n ≡ Some c
      → value_kept script found table n ≡ saved_value (what_is_saved c (rested_sizes script made n))
  value_same n reads c made_is =
      let here = at_needed n
      ((needed_law later (saved-well script well (numbers_of found)) n).1 ([], reads)) in
      let by = read_by script.outputs n reads in
      let lines = lines_same known_here (made_at made) (rested script n)
      (picked (rests script n) (λ k. size_at known_here k ≡ size_in (made_at made k)) script.nodes 0
      (λ k low high is.
      known_right k (omega (arith, high))
      (rests_needed script well by.output by.among
      (subst (Contains (outputs_read script)) (sym by.reads) reads) k
      (subst (λ m. rests script m k ≡ true) (sym by.reads) is)))) in
      let told = ap (map line_size)
      (sym (sized_all (is_needed script) (made_at made) (rested script n) (rested_made n reads))) in
      λ i. saved_value (record {
        members = bag_or_none ((here ∙ made_is) i);
        sizes = (lines ∙ told) i;
      })
