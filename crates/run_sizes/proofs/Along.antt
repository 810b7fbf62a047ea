-- Sizes along a script's nodes are those of the collections that its meaning makes.
use Rattle.std.proofs.Common.{◌≡◌, ℕ, zero, suc, Bool, true, false, List, [], ◌∷◌, ◌++◌, drop, length, map, Option, Some, None, slice_get, slice_index, refl, sym, ap, ◌∙◌, subst, arith, add-one, append_assoc, length-append}
use Rattle.std.proofs.lemmas.List.{length-map, map-append}
use Rattle.std.proofs.lemmas.Option.{slice_get-map}
use Rattle.std.specs.Prelude.{if◌then◌else◌, option_and_then, option_map, unwrap_or}
use Rattle.std.specs.List.{flat_map}
use Rattle.flume_value.proofs.BagLemmas.{length-bag_of}
use Rattle.flume_value.specs.declared.value.Value.{Value}
use Rattle.flume_collection.specs.Collection.{Collection, together as union}
use Rattle.written_types.specs.Named.{Named}
use Rattle.script_program.specs.Needed.{is_needed, made_of}
use Rattle.script_program.specs.Script.{Node, Script}
use Rattle.script_program.specs.declared.made.Made.{Made}
use Rattle.script_program.specs.Sources.{in_order, source_numbers}
use Rattle.script_program.specs.declared.made.Made.TheVariants as made
use Rattle.script_program.proofs.SourceLemmas.{order-found}
use Rattle.build_law.specs.of_direct_meaning.Direct.{all_made, collections, inputs_behind, made_as, made_at, meaning, rows_as, size_of, sizes_of}
use Rattle.build_law.proofs.of_direct_meaning.PlaceLemmas.{at_end}
use Rattle.build_law.specs.Means.{HasOwn}
use Rattle.build_law.proofs.Tables.{and_then_some, continues, made_next, map_some}
use Rattle.run_sizes.specs.Counts.{AreOwnCounts}
use Rattle.run_sizes.specs.inner.Along.{behind, count_at, kept, list_count, named_sizes, sized_as, sizes_along}
use Rattle.run_sizes.proofs.Listed.{all_listed}
use Rattle.run_sizes.proofs.Named.{meant_sizes}
use Rattle.run_sizes.proofs.Stepping.{along_next}
use Rattle.run_sizes.proofs.Together.{sized, together_sizes}

-- how many members each list has
abbrev pub many : List (List Value) → List ℕ
many lists = map length lists

-- ---- lists to come

first_dropped : (rows : List (List Value)) (input : ℕ) (first : List Value)
    (rest : List (List Value)) → first ∷ rest ≡ drop input rows
    → slice_get rows input ≡ Some first
first_dropped [] zero first rest ahead = cc
first_dropped [] (suc n) first rest ahead = cc
first_dropped (x ∷ rows) zero first rest ahead = let same : first ≡ x = cc in ap Some (sym same)
first_dropped (x ∷ rows) (suc n) first rest ahead = first_dropped rows n first rest ahead

one_dropped : {A : Type 0} (n : ℕ) (xs : List A) → drop 1 (drop n xs) ≡ drop (suc n) xs
one_dropped zero xs = refl
one_dropped (suc n) [] = refl
one_dropped (suc n) (x ∷ xs) = one_dropped n xs

rest_behind : (script : Script) (rows : List (List Value)) (n input : ℕ) (mk : Made)
    (left : List (List Value)) (table : List (Option Collection)) (c : Collection)
    → left ≡ drop input rows → made_as script n mk left table ≡ Some c
    → inputs_behind mk left ≡ drop (behind mk input) rows
rest_behind script rows n input (made.Input file columns) [] table c ahead h = cc
rest_behind script rows n input (made.Input file columns) (first ∷ left) table c ahead h =
    ap (drop 1) ahead ∙ rw add-one (one_dropped input rows)
rest_behind script rows n input (made.Do source f output) left table c ahead h = ahead
rest_behind script rows n input (made.Group source) left table c ahead h = ahead
rest_behind script rows n input (made.Combine source k) left table c ahead h = ahead
rest_behind script rows n input (made.Flatten sources) left table c ahead h = ahead
rest_behind script rows n input (made.Count source) left table c ahead h = ahead
rest_behind script rows n input (made.Join a b) left table c ahead h = ahead
rest_behind script rows n input (made.Top many source) left table c ahead h = ahead
rest_behind script rows n input (made.CombineAll source k) left table c ahead h = ahead
rest_behind script rows n input (made.Operate objects f) left table c ahead h = ahead
rest_behind script rows n input (made.DoWith source f object) left table c ahead h = ahead
rest_behind script rows n input (made.Saved is_object call) [] table c ahead h = cc
rest_behind script rows n input (made.Saved is_object call) (first ∷ left) table c ahead h =
    ap (drop 1) ahead ∙ rw add-one (one_dropped input rows)

-- ---- one collection

module _ (script : Script) (lists rows : List (List Value)) (numbers counts : List ℕ)
    (stand : (source : ℕ) (list : List Value) → slice_get rows source ≡ Some list
    → slice_get lists (slice_index numbers source) ≡ Some list)
    (all : List (Option Collection)) where
  -- a source that is next
  next_size : (source : ℕ) (first : List Value) (left : List (List Value)) (c : Collection)
      → first ∷ left ≡ drop source rows → Some (rows_as first) ≡ Some c
      → list_count (many lists) numbers source ≡ size_of c
  next_size source first left c ahead h =
      let same : rows_as first ≡ c = cc in
      ap (λ o. kept (unwrap_or o 0))
      (slice_get-map length lists (slice_index numbers source)
      ∙ ap (option_map length) (stand source first (first_dropped rows source first left ahead)))
      ∙ (ap kept (sym (length-bag_of first)) ∙ ap size_of same)

  one_size : (mk : Made) (n input : ℕ) (left : List (List Value))
      (table : List (Option Collection)) (c : Collection) → left ≡ drop input rows
      → made_as script n mk left table ≡ Some c → (HasOwn mk → count_at counts n ≡ size_of c)
      → sized_as (many lists) numbers counts n mk input (map sized table) ≡ size_of c
  one_size (made.Input file columns) n input [] table c ahead h own = cc
  one_size (made.Input file columns) n input (first ∷ left) table c ahead h own =
      next_size input first left c ahead h
  one_size (made.Saved is_object call) n input [] table c ahead h own = cc
  one_size (made.Saved is_object call) n input (first ∷ left) table c ahead h own =
      next_size input first left c ahead h
  one_size (made.Flatten sources) n input left table c ahead h own =
      let (cs, found, is) = map_some union (all_made table sources) c h in
      together_sizes table sources cs found
      ∙ (ap kept (sym (length-bag_of (flat_map (λ c. c.bag) cs))) ∙ ap size_of is)
  one_size (made.Do source f output) n input left table c ahead h own = own tt
  one_size (made.Group source) n input left table c ahead h own = own tt
  one_size (made.Combine source k) n input left table c ahead h own = own tt
  one_size (made.Count source) n input left table c ahead h own = own tt
  one_size (made.Join a b) n input left table c ahead h own = own tt
  one_size (made.Top many source) n input left table c ahead h own = own tt
  one_size (made.CombineAll source k) n input left table c ahead h own = own tt
  one_size (made.Operate objects f) n input left table c ahead h own = own tt
  one_size (made.DoWith source f object) n input left table c ahead h own = own tt

  made_here : (before nodes : Named Node) (entry : List ℕ × Node) (n : ℕ)
      → before ++ entry ∷ nodes ≡ script.nodes → length before ≡ n
      → slice_get (made_of script) n ≡ Some entry.1.made
  made_here before nodes entry n split count =
      slice_get-map (λ e. e.1.made) script.nodes n
      ∙ ap (option_map (λ e. e.1.made))
      (subst (λ k. slice_get script.nodes k ≡ Some entry) count
      (subst (λ l. slice_get l (length before) ≡ Some entry) split (at_end before entry nodes)))

  -- ---- all of them

  abbrev Ahead : Named Node → Type 0
  Ahead nodes =
      (before : Named Node) (table : List (Option Collection)) (input : ℕ)
      (left : List (List Value)) → before ++ nodes ≡ script.nodes → length before ≡ length table
      → left ≡ drop input rows → collections script nodes left table ≡ Some all
      → sizes_along script (many lists) numbers counts nodes input (map sized table) ≡ map sized all

  with_one : (table : List (Option Collection)) (made : Option Collection)
      → map sized table ++ sized made ∷ [] ≡ map sized (table ++ made ∷ [])
  with_one table made = sym (map-append sized table (made ∷ []))

  one_longer : (before : Named Node) (entry : List ℕ × Node) (table : List (Option Collection))
      (made : Option Collection) → length before ≡ length table
      → length (before ++ entry ∷ []) ≡ length (table ++ made ∷ [])
  one_longer before entry table made count =
      omega (arith, count, length-append before (entry ∷ []), length-append table (made ∷ []))

  module _ (own : AreOwnCounts script all counts) where
    next_taken : (entry : List ℕ × Node) (nodes before : Named Node)
        (table : List (Option Collection)) (input : ℕ) (left : List (List Value))
        (c : Collection) → is_needed script (length table) ≡ true
        → before ++ entry ∷ nodes ≡ script.nodes → length before ≡ length table
        → left ≡ drop input rows → made_as script (length table) entry.1.made left table ≡ Some c
        → collections script nodes (inputs_behind entry.1.made left) (table ++ Some c ∷ [])
        ≡ Some all
        → Ahead nodes
        → sizes_along script (many lists) numbers counts (entry ∷ nodes) input (map sized table)
        ≡ map sized all
    next_taken entry nodes before table input left c needed split count ahead here rest more =
        let mk : Made = entry.1.made in
        let long : length (map sized table) ≡ length table = length-map table sized in
        let k = continues script nodes (inputs_behind mk left) (table ++ Some c ∷ []) all rest in
        let is : all ≡ table ++ Some c ∷ k.tail = k.is ∙ append_assoc table (Some c ∷ []) k.tail in
        let counted : HasOwn mk → count_at counts (length table) ≡ size_of c =
        λ has. ap (λ o. unwrap_or o 0) (own (length table) mk c
        (made_here before nodes entry (length table) split count) has
        (ap (λ t. made_at t (length table)) is ∙ made_next table k.tail c)) in
        let size : sized_as (many lists) numbers counts (length (map sized table)) mk input
        (map sized table)
        ≡ size_of c =
        ap (λ n. sized_as (many lists) numbers counts n mk input (map sized table)) long
        ∙ one_size mk (length table) input left table c ahead here counted in
        along_next script (many lists) numbers counts entry nodes input (map sized table) true
        (ap (is_needed script) long ∙ needed)
        ∙ (ap (λ s. sizes_along script (many lists) numbers counts nodes (behind mk input)
        (map sized table ++ Some s ∷ [])) size
        ∙ (ap (sizes_along script (many lists) numbers counts nodes (behind mk input))
        (with_one table (Some c))
        ∙ more (before ++ entry ∷ []) (table ++ Some c ∷ []) (behind mk input)
        (inputs_behind mk left) (append_assoc before (entry ∷ []) nodes ∙ split)
        (one_longer before entry table (Some c) count)
        (rest_behind script rows (length table) input mk left table c ahead here) rest))

    next_passed : (entry : List ℕ × Node) (nodes before : Named Node)
        (table : List (Option Collection)) (input : ℕ) (left : List (List Value))
        → is_needed script (length table) ≡ false
        → before ++ entry ∷ nodes ≡ script.nodes → length before ≡ length table
        → left ≡ drop input rows
        → collections script nodes left (table ++ None ∷ []) ≡ Some all → Ahead nodes
        → sizes_along script (many lists) numbers counts (entry ∷ nodes) input (map sized table)
        ≡ map sized all
    next_passed entry nodes before table input left needless split count ahead rest more =
        along_next script (many lists) numbers counts entry nodes input (map sized table) false
        (ap (is_needed script) (length-map table sized) ∙ needless)
        ∙ (ap (sizes_along script (many lists) numbers counts nodes input) (with_one table None)
        ∙ more (before ++ entry ∷ []) (table ++ None ∷ []) input left
        (append_assoc before (entry ∷ []) nodes ∙ split) (one_longer before entry table None count)
        ahead rest)

    next : (entry : List ℕ × Node) (nodes before : Named Node)
        (table : List (Option Collection)) (input : ℕ) (left : List (List Value)) (b : Bool)
        → is_needed script (length table) ≡ b
        → before ++ entry ∷ nodes ≡ script.nodes → length before ≡ length table
        → left ≡ drop input rows
        → (if b then option_and_then (λ c.
        collections script nodes (inputs_behind entry.1.made left) (table ++ Some c ∷ []))
        (made_as script (length table) entry.1.made left table)
        else collections script nodes left (table ++ None ∷ [])) ≡ Some all
        → Ahead nodes
        → sizes_along script (many lists) numbers counts (entry ∷ nodes) input (map sized table)
        ≡ map sized all
    next entry nodes before table input left true needed split count ahead h more =
        let (c, here, rest) =
        and_then_some
        (λ c. collections script nodes (inputs_behind entry.1.made left) (table ++ Some c ∷ []))
        (made_as script (length table) entry.1.made left table) all h in
        next_taken entry nodes before table input left c needed split count ahead here rest more
    next entry nodes before table input left false needless split count ahead h more =
        next_passed entry nodes before table input left needless split count ahead h more

    along : (nodes : Named Node) → Ahead nodes
    along [] before table input [] split count ahead h =
        let e : table ≡ all = cc in ap (map sized) e
    along [] before table input (first ∷ left) split count ahead h = cc
    along (entry ∷ nodes) before table input left split count ahead h =
        next entry nodes before table input left (is_needed script (length table)) refl split count
        ahead h (along nodes)

-- the sizes that are computed are those of the meaning
pub sizes_meant : (script : Script) (lists : List (List Value)) (counts : List ℕ)
    (all : List (Option Collection)) → meaning script lists ≡ Some all
    → AreOwnCounts script all counts
    → named_sizes script.nodes
    (sizes_along script (many lists) (source_numbers script) counts script.nodes 0 [])
    ≡ sizes_of script all
sizes_meant script lists counts all means own =
    ap (named_sizes script.nodes)
    (along script lists (in_order script lists) (source_numbers script) counts
    (λ source list is. order-found script lists source list (all_listed script lists all means) is)
    all own script.nodes [] [] 0 (in_order script lists) refl refl refl means)
    ∙ meant_sizes script.nodes all
