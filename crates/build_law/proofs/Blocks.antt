-- The nodes of a graph are those that are built at each collection.
use Rattle.std.proofs.Common.{◌≡◌, ℕ, zero, suc, ◌+◌, ◌<◌, ◌≤◌, Bool, true, List, [], ◌∷◌, ◌++◌, length, get_or, Option, Some, None, refl, sym, ap, ◌∙◌, subst, arith, append-nil, length-append, ⊎_elim}
use Rattle.std.specs.List.{AllByRecursion, Contains, flat_map, list_any}
use Rattle.std.proofs.lemmas.List.Concat.{flat_map-append}
use Rattle.std.proofs.lemmas.List.Elements.{Contains-append_cases, Contains-append_left, Contains-append_right}
use Rattle.flume_collection.proofs.Members.{not_in_none}
use Rattle.flume_value.proofs.EachLemmas.{Each-append, Each-left, Each-right}
use Rattle.exec_graph.specs.declared.graph.Entry.{Entry}
use Rattle.exec_graph.specs.declared.graph.Place.{Place}
use Rattle.graph_build.specs.Built.{Built}
use Rattle.graph_build.specs.Graphs.{number_past, giving_from, next_source, nodes_at, nodes_from}
use Rattle.graph_build.specs.Nodes.{before_last, made_nodes}
use Rattle.graph_build.specs.of_script_program.declared.made.Made.{Made}
use Rattle.graph_build.specs.of_script_program.Script.{Script}
use Rattle.build_law.proofs.Reading.{any_behind, any_front}
use Rattle.build_law.proofs.Values.{behind_list, regrouped}

-- the number of the first node at place t of a list, and that of the next source in order of the
-- script
abbrev pub start_at : ℕ → List (Option Built) → ℕ → ℕ
start_at n [] t = n
start_at n (w ∷ ws) zero = n
start_at n (w ∷ ws) (suc t) = start_at (number_past n w) ws t

abbrev pub source_at : ℕ → List (Option Built) → ℕ → ℕ
source_at source [] t = source
source_at source (w ∷ ws) zero = source
source_at source (w ∷ ws) (suc t) = source_at (next_source source w) ws t

some_same : (a b : Built) → Some a ≡ Some b → a ≡ b
some_same a b h = cc

-- ---- numbers

pub last_number : (n : ℕ) (ws : List (Option Built)) (t : ℕ) (it : Built)
    → get_or ws t None ≡ Some it
    → get_or (giving_from n ws) t 0 ≡ start_at n ws t + before_last it.made
last_number n [] t it found = cc
last_number n (None ∷ ws) zero it found = cc
last_number n (Some own ∷ ws) zero it found =
    ap (λ (b : Built). n + before_last b.made) (some_same own it found)
last_number n (w ∷ ws) (suc t) it found = last_number (number_past n w) ws t it found

behind_on : (n : ℕ) (w : Option Built) → n ≤ number_past n w
behind_on n None = omega arith
behind_on n (Some it) = omega arith

start_up : (n : ℕ) (ws : List (Option Built)) (t : ℕ) → n ≤ start_at n ws t
start_up n [] t = omega arith
start_up n (w ∷ ws) zero = omega arith
start_up n (w ∷ ws) (suc t) =
    let one = behind_on n w in let rest = start_up (number_past n w) ws t in omega arith

-- the nodes at an earlier place are lower
pub lower_start : (n : ℕ) (ws : List (Option Built)) (j t : ℕ) (it : Built)
    → get_or ws j None ≡ Some it → j < t
    → start_at n ws j + before_last it.made < start_at n ws t
lower_start n [] j t it found below = cc
lower_start n (None ∷ ws) zero t it found below = cc
lower_start n (Some own ∷ ws) zero zero it found below = absurd (omega arith)
lower_start n (Some own ∷ ws) zero (suc t) it found below =
    let e : before_last own.made ≡ before_last it.made =
    ap (λ (b : Built). before_last b.made) (some_same own it found) in
    let up = start_up (n + before_last own.made + 1) ws t in
    omega arith
lower_start n (w ∷ ws) (suc j) zero it found below = absurd (omega arith)
lower_start n (w ∷ ws) (suc j) (suc t) it found below =
    lower_start (number_past n w) ws j t it found (omega arith)

-- ---- rows: what the nodes of each place have, in their order

module _ {X : Type 0} (rows : ℕ → Made → List X) where
  abbrev pub rows_at : Option Built → List X
  rows_at None = []
  rows_at (Some it) = rows it.number it.made

  abbrev pub rows_from : List (Option Built) → List X
  rows_from [] = []
  rows_from (w ∷ ws) = rows_at w ++ rows_from ws

  -- as many as nodes
  abbrev pub AreSized : List (Option Built) → Type 0
  AreSized ws =
      (t : ℕ) (it : Built) → get_or ws t None ≡ Some it
      → length (rows it.number it.made) ≡ before_last it.made + 1

  more_rows : (n : ℕ) (w : Option Built) (ws : List (Option Built)) (pre : List X)
      → AreSized (w ∷ ws) → length pre ≡ n → length (pre ++ rows_at w) ≡ number_past n w
  more_rows n None ws pre sized size = let e = length-append pre [] in omega arith
  more_rows n (Some it) ws pre sized size =
      let e = length-append pre (rows it.number it.made) in
      let own = sized 0 it refl in
      omega arith

  -- the rows of a place, and what stands behind them
  abbrev pub Rows : List X → ℕ → Built → Type 0
  Rows whole start it =
      (later : List X)
      × ((k : ℕ) (d : X) → get_or whole (start + k) d
      ≡ get_or (rows it.number it.made ++ later) k d)

  pub rows_found : (whole pre : List X) (n : ℕ) (ws : List (Option Built)) (t : ℕ) (it : Built)
      → AreSized ws → length pre ≡ n → whole ≡ pre ++ rows_from ws
      → get_or ws t None ≡ Some it → Rows whole (start_at n ws t) it
  rows_found whole pre n [] t it sized size is found = cc
  rows_found whole pre n (None ∷ ws) zero it sized size is found = cc
  rows_found whole pre n (Some own ∷ ws) zero it sized size is found =
      let same = some_same own it found in (
        rows_from ws,
        λ k d.
            ap (λ xs. get_or xs (n + k) d) is
            ∙ behind_list pre (rows own.number own.made ++ rows_from ws) n k d size
            ∙ ap (λ (b : Built). get_or (rows b.number b.made ++ rows_from ws) k d) same,
      )
  rows_found whole pre n (w ∷ ws) (suc t) it sized size is found =
      rows_found whole (pre ++ rows_at w) (number_past n w) ws t it
      (λ k b at. sized (suc k) b at) (more_rows n w ws pre sized size)
      (regrouped whole pre (rows_at w) (rows_from ws) is) found

-- ---- the nodes

module _ (script : Script) (gives : ℕ → Place) where
  -- the nodes at place t of a list
  abbrev pub block : ℕ → ℕ → List (Option Built) → ℕ → Built → List Entry
  block source n ws t it =
      made_nodes script gives it.number (source_at source ws t) (start_at n ws t) it.made

  abbrev pub all_nodes : ℕ → ℕ → List (Option Built) → List Entry
  all_nodes source n ws = nodes_from script gives source n ws

  -- of what is built first
  abbrev own_nodes : ℕ → ℕ → Built → List Entry
  own_nodes source n it = made_nodes script gives it.number source n it.made

  abbrev rest_nodes : ℕ → ℕ → Option Built → List (Option Built) → List Entry
  rest_nodes source n w ws = nodes_from script gives (next_source source w) (number_past n w) ws

  first_block : (source n : ℕ) (own it : Built) → own ≡ it
      → own_nodes source n own ≡ own_nodes source n it
  first_block source n own it same = ap (own_nodes source n) same

  module _ (P : Entry → Type 0) where
    abbrev Have : List Entry → Type 0
    Have es = AllByRecursion P es

    -- it holds of all nodes if of those of each place
    pub each_block : (source n : ℕ) (ws : List (Option Built))
        → ((t : ℕ) (it : Built) → get_or ws t None ≡ Some it → Have (block source n ws t it))
        → Have (all_nodes source n ws)
    each_block source n [] h = tt
    each_block source n (None ∷ ws) h = each_block source n ws (λ t it found. h (suc t) it found)
    each_block source n (Some own ∷ ws) h =
        Each-append P (own_nodes source n own) (rest_nodes source n (Some own) ws) (h 0 own refl)
        (each_block (next_source source (Some own)) (number_past n (Some own)) ws
        (λ t it found. h (suc t) it found))

    -- and of those of each place if of all
    pub block_each : (source n : ℕ) (ws : List (Option Built)) (t : ℕ) (it : Built)
        → get_or ws t None ≡ Some it → Have (all_nodes source n ws)
        → Have (block source n ws t it)
    block_each source n [] t it found h = cc
    block_each source n (None ∷ ws) zero it found h = cc
    block_each source n (Some own ∷ ws) zero it found h =
        subst Have (first_block source n own it (some_same own it found))
        (Each-left P (own_nodes source n own) (rest_nodes source n (Some own) ws) h)
    block_each source n (w ∷ ws) (suc t) it found h =
        block_each (next_source source w) (number_past n w) ws t it found
        (Each-right P (nodes_at script gives source n w) (rest_nodes source n w ws) h)

  -- what one has, some has
  pub any_block : (p : Entry → Bool) (source n : ℕ) (ws : List (Option Built)) (t : ℕ)
      (it : Built) → get_or ws t None ≡ Some it
      → list_any p (block source n ws t it) ≡ true
      → list_any p (all_nodes source n ws) ≡ true
  any_block p source n [] t it found h = cc
  any_block p source n (None ∷ ws) zero it found h = cc
  any_block p source n (Some own ∷ ws) zero it found h =
      any_front p (own_nodes source n own) (rest_nodes source n (Some own) ws)
      (subst (λ es. list_any p es ≡ true)
      (sym (first_block source n own it (some_same own it found))) h)
  any_block p source n (w ∷ ws) (suc t) it found h =
      any_behind p (nodes_at script gives source n w) (rest_nodes source n w ws)
      (any_block p (next_source source w) (number_past n w) ws t it found h)

  module _ {A : Type 0} (f : Entry → List A) where
    -- what the nodes of one place add, all add
    pub in_block : (source n : ℕ) (ws : List (Option Built)) (t : ℕ) (it : Built) (x : A)
        → get_or ws t None ≡ Some it
        → Contains (flat_map f (block source n ws t it)) x
        → Contains (flat_map f (all_nodes source n ws)) x
    in_block source n [] t it x found h = cc
    in_block source n (None ∷ ws) zero it x found h = cc
    in_block source n (Some own ∷ ws) zero it x found h =
        let here : List Entry = own_nodes source n own in
        let rest : List Entry = rest_nodes source n (Some own) ws in
        subst (λ xs. Contains xs x) (sym (flat_map-append f here rest))
        (Contains-append_left (flat_map f here) (flat_map f rest) x
        (subst (λ es. Contains (flat_map f es) x)
        (sym (first_block source n own it (some_same own it found))) h))
    in_block source n (w ∷ ws) (suc t) it x found h =
        let here : List Entry = nodes_at script gives source n w in
        let rest : List Entry = rest_nodes source n w ws in
        subst (λ xs. Contains xs x) (sym (flat_map-append f here rest))
        (Contains-append_right (flat_map f here) (flat_map f rest) x
        (in_block (next_source source w) (number_past n w) ws t it x found h))

    -- what all add, the nodes of some place add
    pub blocks_in : (source n : ℕ) (ws : List (Option Built)) (zs : List A)
        → ((t : ℕ) (it : Built) → get_or ws t None ≡ Some it → (x : A)
        → Contains (flat_map f (block source n ws t it)) x → Contains zs x)
        → (x : A) → Contains (flat_map f (all_nodes source n ws)) x → Contains zs x
    blocks_in source n [] zs h x is = absurd (not_in_none x is)
    blocks_in source n (None ∷ ws) zs h x is =
        blocks_in source n ws zs (λ t it found y there. h (suc t) it found y there) x is
    blocks_in source n (Some own ∷ ws) zs h x is =
        let here : List Entry = own_nodes source n own in
        let rest : List Entry = rest_nodes source n (Some own) ws in
        ⊎_elim (λ there. h 0 own refl x there)
        (blocks_in (next_source source (Some own)) (number_past n (Some own)) ws zs
        (λ t it found y there. h (suc t) it found y there) x)
        (Contains-append_cases (flat_map f here) (flat_map f rest) x
        (subst (λ xs. Contains xs x) (flat_map-append f here rest) is))

    -- nodes that add nothing
    no_block : (source n : ℕ) (ws : List (Option Built))
        → ((t : ℕ) (it : Built) → get_or ws t None ≡ Some it
        → flat_map f (block source n ws t it) ≡ [])
        → flat_map f (all_nodes source n ws) ≡ []
    no_block source n [] h = refl
    no_block source n (None ∷ ws) h = no_block source n ws (λ t it found. h (suc t) it found)
    no_block source n (Some own ∷ ws) h =
        flat_map-append f (own_nodes source n own) (rest_nodes source n (Some own) ws)
        ∙ (λ i. h 0 own refl i
        ++ no_block (next_source source (Some own)) (number_past n (Some own)) ws
        (λ t it found. h (suc t) it found) i)

    -- nodes of which those of one place alone add something
    pub one_block : (source n : ℕ) (ws : List (Option Built)) (t : ℕ) (it : Built)
        → get_or ws t None ≡ Some it
        → ((s : ℕ) (b : Built) → get_or ws s None ≡ Some b → (s ≡ t → ⊥)
        → flat_map f (block source n ws s b) ≡ [])
        → flat_map f (all_nodes source n ws) ≡ flat_map f (block source n ws t it)
    one_block source n [] t it found h = cc
    one_block source n (None ∷ ws) zero it found h = cc
    one_block source n (Some own ∷ ws) zero it found h =
        flat_map-append f (own_nodes source n own) (rest_nodes source n (Some own) ws)
        ∙ (λ i. flat_map f (first_block source n own it (some_same own it found) i)
        ++ no_block (next_source source (Some own)) (number_past n (Some own)) ws
        (λ s b at. h (suc s) b at (λ same. absurd (omega arith))) i)
        ∙ append-nil (flat_map f (own_nodes source n it))
    one_block source n (None ∷ ws) (suc t) it found h =
        one_block source n ws t it found
        (λ s b at differ. h (suc s) b at (λ same. differ (omega arith)))
    one_block source n (Some own ∷ ws) (suc t) it found h =
        flat_map-append f (own_nodes source n own) (rest_nodes source n (Some own) ws)
        ∙ (λ i. h 0 own refl (λ same. absurd (omega arith)) i
        ++ one_block (next_source source (Some own)) (number_past n (Some own)) ws t it found
        (λ s b at differ. h (suc s) b at (λ same. differ (omega arith))) i)
