-- The lists of a script's sources, by their numbers and in order of the script.
use Rattle.std.proofs.Common.{◌≡◌, ℕ, zero, suc, ◌+◌, ◌<◌, ◌≤◌, Bool, true, false, List, [], ◌∷◌, ◌++◌, take, drop, length, get_or}
use Rattle.std.proofs.Common.{Option, Some, None, if◌then◌else◌, slice_get, refl, sym, ap, ◌∙◌, subst, arith, add-zero, length-append}
use Rattle.std.specs.Prelude.{option_and_then}
use Rattle.std.specs.List.{filter, flat_map}
use Rattle.flume_types.specs.declared.types.Ty.{Ty}
use Rattle.flume_value.specs.declared.value.Value.{Value}
use Rattle.flume_collection.specs.Collection.{Collection}
use Rattle.written_types.specs.Named.{Named}
use Rattle.graph_build.specs.of_script_program.declared.made.Made.{Made}
use Rattle.graph_build.specs.of_script_program.declared.made.Made.TheVariants as made
use Rattle.graph_build.specs.of_script_program.Needed.{is_needed, needed_nodes, collections_numbered}
use Rattle.graph_build.specs.of_script_program.Script.{Node, Script}
use Rattle.graph_build.specs.of_script_program.Sources.{in_order, lists_in_turn, input_count, numbers_by_kind, source_kind, source_kinds}
use Rattle.graph_build.proofs.of_script_program.SourceLemmas.{order-at}
use Rattle.direct_meaning.specs.Direct.{collections, inputs_behind, made_as, meaning}
use Rattle.direct_meaning.specs.Inputs.{AreInputs, AreLists, Sourced, sourced, sourced_by}
use Rattle.direct_meaning.proofs.PlainLemmas.{flat-if, more_if}
use Rattle.graph_build.specs.Nodes.{source_number}
use Rattle.build_law.specs.Signatures.{input_by, saved_by, sources_of}
use Rattle.build_law.proofs.Tables.{and_then_some, one_longer}

-- ---- parts of lists

whole_again : {X : Type 0} (n : ℕ) (xs : List X) → take n xs ++ drop n xs ≡ xs
whole_again zero xs = refl
whole_again (suc n) [] = refl
whole_again (suc n) (x ∷ xs) = ap (λ l. x ∷ l) (whole_again n xs)

front_size : {X : Type 0} (n : ℕ) (xs : List X) → n ≤ length xs → length (take n xs) ≡ n
front_size zero xs low = refl
front_size (suc n) [] low = absurd (omega arith)
front_size (suc n) (x ∷ xs) low = ap suc (front_size n xs (omega arith))

both_sizes : {X : Type 0} (n : ℕ) (xs : List X)
    → length (take n xs) + length (drop n xs) ≡ length xs
both_sizes n xs =
    sym (length-append (take n xs) (drop n xs)) ∙ ap length (whole_again n xs)

turn_size : {X : Type 0} (kinds : List Bool) (rows kept : List X)
    → length (lists_in_turn kinds rows kept) ≡ length rows + length kept
turn_size [] rows kept = length-append rows kept
turn_size (false ∷ kinds) [] kept = omega arith
turn_size (false ∷ kinds) (list ∷ rows) kept =
    let rest = turn_size kinds rows kept in omega (arith, rest)
turn_size (true ∷ kinds) rows [] = omega arith
turn_size (true ∷ kinds) rows (list ∷ kept) =
    let rest = turn_size kinds rows kept in omega (arith, rest)

-- as many in order of the script
pub order_size : {X : Type 0} (script : Script) (lists : List X)
    → length (in_order script lists) ≡ length lists
order_size script lists =
    let n = input_count (source_kinds script) in
    turn_size (source_kinds script) (take n lists) (drop n lists) ∙ both_sizes n lists

front_at : {X : Type 0} (xs ys : List X) (m : ℕ) (x : X) → slice_get xs m ≡ Some x
    → slice_get (xs ++ ys) m ≡ Some x
front_at [] ys m x h = cc
front_at (y ∷ xs) ys zero x h = h
front_at (y ∷ xs) ys (suc m) x h = front_at xs ys m x h

behind_at : {X : Type 0} (xs ys : List X) (n m : ℕ) (x : X) → n ≡ length xs + m
    → slice_get ys m ≡ Some x → slice_get (xs ++ ys) n ≡ Some x
behind_at [] ys n m x is h =
    let e : n ≡ m = omega (arith, is) in subst (λ k. slice_get ys k ≡ Some x) (sym e) h
behind_at (y ∷ xs) ys zero m x is h = absurd (omega (arith, is))
behind_at (y ∷ xs) ys (suc n) m x is h = behind_at xs ys n m x (omega (arith, is)) h

-- ---- sources sorted by their kinds

-- sources of these kinds, in order; the inputs among them, and the kept ones
pub data Sorts : List Bool → List Sourced → List Sourced → List Sourced → Type 0 where
  none : Sorts [] [] [] []
  an_input : {kinds : List Bool} {all ins keeps : List Sourced} (s : Sourced)
      → Sorts kinds all ins keeps → Sorts (false ∷ kinds) (s ∷ all) (s ∷ ins) keeps
  a_kept : {kinds : List Bool} {all ins keeps : List Sourced} (s : Sourced)
      → Sorts kinds all ins keeps → Sorts (true ∷ kinds) (s ∷ all) ins (s ∷ keeps)

sorts_one : {kinds : List Bool} {all ins keeps : List Sourced} (how : Made) (type : Ty)
    → Sorts kinds all ins keeps
    → Sorts (source_kind how ++ kinds) (sourced_by how type ++ all) (input_by how type ++ ins)
    (saved_by how type ++ keeps)
sorts_one (made.Input file columns) type rest =
    an_input (record { type = type; is_object = false }) rest
sorts_one (made.Saved is_object call) type rest =
    a_kept (record { type = type; is_object = is_object }) rest
sorts_one _ type rest = rest

sorts_all : (nodes : List (ℕ × (List ℕ × Node)))
    → Sorts (flat_map (λ it. source_kind it.1.1.made) nodes)
    (flat_map (λ it. sourced_by it.1.1.made it.1.1.type) nodes)
    (flat_map (λ it. input_by it.1.1.made it.1.1.type) nodes)
    (flat_map (λ it. saved_by it.1.1.made it.1.1.type) nodes)
sorts_all [] = none
sorts_all (it ∷ nodes) = sorts_one it.1.1.made it.1.1.type (sorts_all nodes)

record Sizes (kinds : List Bool) (all ins keeps : List Sourced) : Type 0 where
  pub whole : length all ≡ length kinds
  pub inputs : length ins ≡ input_count kinds
  pub both : length ins + length keeps ≡ length kinds

sizes : {kinds : List Bool} {all ins keeps : List Sourced} → Sorts kinds all ins keeps
    → Sizes kinds all ins keeps
sizes none = record { whole = refl; inputs = refl; both = omega arith }
sizes (an_input s rest) =
    let it = sizes rest in
    record {
      whole = ap suc it.whole;
      inputs = ap suc it.inputs;
      both = (let both = it.both in omega arith);
    }
sizes (a_kept s rest) =
    let it = sizes rest in
    record {
      whole = ap suc it.whole;
      inputs = it.inputs;
      both = (let both = it.both in omega arith);
    }

-- a source stands where its number says
stands_by : {kinds : List Bool} {all ins keeps : List Sourced} → Sorts kinds all ins keeps
    → (whole : List Sourced) (i k : ℕ)
    → ((m : ℕ) (x : Sourced) → slice_get ins m ≡ Some x → slice_get whole (i + m) ≡ Some x)
    → ((m : ℕ) (x : Sourced) → slice_get keeps m ≡ Some x → slice_get whole (k + m) ≡ Some x)
    → (t : ℕ) (x : Sourced) → slice_get all t ≡ Some x
    → slice_get whole (get_or (numbers_by_kind i k kinds) t 0) ≡ Some x
stands_by none whole i k ins keeps t x h = cc
stands_by (an_input s rest) whole i k ins keeps zero x h =
    subst (λ n. slice_get whole n ≡ Some x) (add-zero i) (ins 0 x h)
stands_by (an_input s rest) whole i k ins keeps (suc t) x h =
    stands_by rest whole (suc i) k
    (λ m y at.
    let e : i + suc m ≡ suc i + m = omega arith in
    subst (λ n. slice_get whole n ≡ Some y) e (ins (suc m) y at)) keeps t x h
stands_by (a_kept s rest) whole i k ins keeps zero x h =
    subst (λ n. slice_get whole n ≡ Some x) (add-zero k) (keeps 0 x h)
stands_by (a_kept s rest) whole i k ins keeps (suc t) x h =
    stands_by rest whole i (suc k) ins
    (λ m y at.
    let e : k + suc m ≡ suc k + m = omega arith in
    subst (λ n. slice_get whole n ≡ Some y) e (keeps (suc m) y at)) t x h

-- lists of them all, in order, are lists of the inputs and of the kept ones
lists_by : {kinds : List Bool} {all ins keeps : List Sourced} → Sorts kinds all ins keeps
    → (rows kept : List (List Value)) → length rows ≡ length ins → length kept ≡ length keeps
    → AreLists all (lists_in_turn kinds rows kept) → AreLists ins rows × AreLists keeps kept
lists_by none [] [] a b h = (tt, tt)
lists_by none (list ∷ rows) kept a b h = absurd (omega (arith, a))
lists_by none [] (list ∷ kept) a b h = absurd (omega (arith, b))
lists_by (an_input s rest) [] kept a b h = absurd (omega (arith, a))
lists_by (an_input s rest) (list ∷ rows) kept a b h =
    let more = lists_by rest rows kept (omega (arith, a)) b h.1 in ((h.0, more.0), more.1)
lists_by (a_kept s rest) rows [] a b h = absurd (omega (arith, b))
lists_by (a_kept s rest) rows (list ∷ kept) a b h =
    let more = lists_by rest rows kept a (omega (arith, b)) h.1 in (more.0, (h.0, more.1))

lists_joined : (xs ys : List Sourced) (a b : List (List Value)) → AreLists xs a → AreLists ys b
    → AreLists (xs ++ ys) (a ++ b)
lists_joined [] ys [] b h k = k
lists_joined [] ys (list ∷ a) b h k = absurd h
lists_joined (x ∷ xs) ys [] b h k = absurd h
lists_joined (x ∷ xs) ys (list ∷ a) b h k = (h.0, lists_joined xs ys a b h.1 k)

lists_size : (xs : List Sourced) (a : List (List Value)) → AreLists xs a → length a ≡ length xs
lists_size [] [] h = refl
lists_size [] (list ∷ a) h = absurd h
lists_size (x ∷ xs) [] h = absurd h
lists_size (x ∷ xs) (list ∷ a) h = ap suc (lists_size xs a h.1)

-- ---- the sources of a script

module _ (script : Script) where
  abbrev ins : List Sourced
  ins = flat_map (λ it. input_by it.1.1.made it.1.1.type) (needed_nodes script)

  abbrev keeps : List Sourced
  keeps = flat_map (λ it. saved_by it.1.1.made it.1.1.type) (needed_nodes script)

  sorts : Sorts (source_kinds script) (sourced script) ins keeps
  sorts = sorts_all (needed_nodes script)

  -- as many as kinds
  pub sources_counted : length (sources_of script) ≡ length (source_kinds script)
  sources_counted = length-append ins keeps ∙ (sizes sorts).both

  pub source_stands : (t : ℕ) (x : Sourced) → slice_get (sourced script) t ≡ Some x
      → slice_get (sources_of script) (source_number script t) ≡ Some x
  source_stands t x h =
      stands_by sorts (sources_of script) 0 (input_count (source_kinds script))
      (λ m y at.
      let e : m ≡ 0 + m = omega arith in
      subst (λ n. slice_get (sources_of script) n ≡ Some y) e (front_at ins keeps m y at))
      (λ m y at.
      let same = (sizes sorts).inputs in
      behind_at ins keeps (input_count (source_kinds script) + m) m y (omega (arith, same)) at)
      t x h

  -- as many lists as sources
  pub as_many_inputs : (lists : List (List Value)) → AreInputs script lists
      → length lists ≡ length (source_kinds script)
  as_many_inputs lists h =
      sym (order_size script lists)
      ∙ lists_size (sourced script) (in_order script lists) h
      ∙ (sizes sorts).whole

  -- they are lists of the sources by their numbers
  pub lists_by_number : (lists : List (List Value)) → AreInputs script lists
      → AreLists (sources_of script) lists
  lists_by_number lists h =
      let n = input_count (source_kinds script) in
      let size = as_many_inputs lists h in
      let it = sizes sorts in
      let inputs = it.inputs in
      let both = it.both in
      let front = front_size n lists (omega (arith, size, inputs, both)) in
      let behind = both_sizes n lists in
      let parts = lists_by sorts (take n lists) (drop n lists) (front ∙ sym inputs)
      (omega (arith, size, inputs, both, front, behind)) h in
      subst (AreLists (sources_of script)) (whole_again n lists)
      (lists_joined ins keeps (take n lists) (drop n lists) parts.0 parts.1)

  -- ---- where a script means something, there are as many lists

  abbrev kinds_of : ℕ → Named Node → List Bool
  kinds_of n nodes =
      flat_map (λ it. source_kind it.1.1.made)
      (filter (λ it. is_needed script it.0) (collections_numbered n nodes))

  taken : (n : ℕ) (how : Made) (rem : List (List Value)) (table : List (Option Collection))
      (c : Collection) → made_as script n how rem table ≡ Some c
      → length rem ≡ length (source_kind how) + length (inputs_behind how rem)
  taken n (made.Input file columns) [] table c h = cc
  taken n (made.Input file columns) (rows ∷ rem) table c h = omega arith
  taken n (made.Saved is_object call) [] table c h = cc
  taken n (made.Saved is_object call) (rows ∷ rem) table c h = omega arith
  taken n _ rem table c h = omega arith

  taken_of : (b : Bool) (entry : List ℕ × Node) (nodes : Named Node)
      (rem : List (List Value)) (table all : List (Option Collection))
      → ((rem : List (List Value)) (table : List (Option Collection))
      → collections script nodes rem table ≡ Some all
      → length rem ≡ length (kinds_of (length table) nodes))
      → (if b then option_and_then (λ c.
      collections script nodes (inputs_behind entry.1.made rem) (table ++ Some c ∷ []))
      (made_as script (length table) entry.1.made rem table)
      else collections script nodes rem (table ++ None ∷ [])) ≡ Some all
      → length rem
      ≡ length (more_if b (source_kind entry.1.made) (kinds_of (suc (length table)) nodes))
  taken_of true entry nodes rem table all rest h =
      let (c, made_c, later) =
      and_then_some
      (λ c. collections script nodes (inputs_behind entry.1.made rem) (table ++ Some c ∷ []))
      (made_as script (length table) entry.1.made rem table) all h in
      let own = taken (length table) entry.1.made rem table c made_c in
      let others = rest (inputs_behind entry.1.made rem) (table ++ Some c ∷ []) later
      ∙ ap (λ n. length (kinds_of n nodes)) (one_longer table (Some c)) in
      let both =
      length-append (source_kind entry.1.made) (kinds_of (suc (length table)) nodes) in
      omega (arith, own, others, both)
  taken_of false entry nodes rem table all rest h =
      rest rem (table ++ None ∷ []) h
      ∙ ap (λ n. length (kinds_of n nodes)) (one_longer table None)

  all_taken : (nodes : Named Node) (rem : List (List Value)) (table all : List (Option Collection))
      → collections script nodes rem table ≡ Some all
      → length rem ≡ length (kinds_of (length table) nodes)
  all_taken [] [] table all h = refl
  all_taken [] (rows ∷ rem) table all h = cc
  all_taken (entry ∷ nodes) rem table all h =
      taken_of (is_needed script (length table)) entry nodes rem table all
      (λ rem table. all_taken nodes rem table all) h
      ∙ ap length
      (sym (flat-if (λ (it : ℕ × (List ℕ × Node)). source_kind it.1.1.made)
      (is_needed script (length table)) (length table, entry)
      (filter (λ it. is_needed script it.0) (collections_numbered (suc (length table)) nodes))))

  lists_counted : (lists : List (List Value)) (all : List (Option Collection))
      → meaning script lists ≡ Some all → length lists ≡ length (source_kinds script)
  lists_counted lists all means =
      sym (order_size script lists)
      ∙ all_taken script.nodes (in_order script lists) [] all means

  -- the list of a source in order of the script is the one of its number
  pub given : (lists : List (List Value)) (all : List (Option Collection))
      → meaning script lists ≡ Some all → (t : ℕ) → t < length (in_order script lists)
      → get_or (in_order script lists) t [] ≡ get_or lists (source_number script t) []
  given lists all means t below =
      let size = lists_counted lists all means in
      let same = order_size script lists in
      order-at lists [] script t size (omega (arith, size, same, below))
