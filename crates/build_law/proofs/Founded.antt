-- The graph of a well-formed script is founded: all that is read is there, and is lower.
use Rattle.std.proofs.Common.{◌≡◌, ℕ, suc, ◌+◌, ◌-◌, ◌<◌, ◌≤◌, Bool, true, List, [], ◌∷◌, length, get_or, map, Some, None, refl, sym, ap, ◌∙◌, subst, arith, add-zero}
use Rattle.std.specs.List.{AllByRecursion, Contains, list_any}
use Rattle.exec_graph.specs.Meaning.{IsThere, gives_at, has_out, node_at, reads}
use Rattle.exec_graph.specs.declared.graph.Entry.{Entry}
use Rattle.exec_graph.specs.declared.graph.Place.{Place}
use Rattle.flume_value.proofs.EachLemmas.{Each-weaker}
use Rattle.graph_build.specs.Built.{built}
use Rattle.graph_build.specs.Calls.{emitted_as, emitted_at, names_needed, needed_from, number_behind, other_names}
use Rattle.graph_build.specs.Graphs.{nodes_of}
use Rattle.graph_build.specs.Nodes.{before_last, call_branch, call_in, first_of, made_nodes}
use Rattle.graph_build.specs.Wanted.{wanted}
use Rattle.graph_build.specs.of_script_program.Needed.{operands}
use Rattle.graph_build.specs.of_script_program.declared.made.Emitted.{Emitted}
use Rattle.graph_build.specs.of_script_program.declared.made.Made.{Made}
use Rattle.graph_build.specs.of_script_program.declared.made.Made.TheVariants as made
use Rattle.graph_build.specs.of_script_program.Script.{Script}
use Rattle.direct_meaning.specs.of_script_laws.WellFormed.{IsWellFormed}
use Rattle.build_law.proofs.Blocks.{block_each, each_block, last_number, lower_start}
use Rattle.build_law.proofs.Calling.{alone_built, built_wanted, each_contained, how_emitted}
use Rattle.build_law.proofs.Earlier.{alone_early, call_early, kept_early}
use Rattle.build_law.proofs.MadeKinds.{IsOther, Kind, Stand, alone, built_of, by_call, called, kept_name, kind_of, other, stand_of}
use Rattle.build_law.proofs.Names.{split_at}
use Rattle.build_law.proofs.Naming.{operand_wanted}
use Rattle.build_law.proofs.Numbered.{Counts, IsPlain, all_counts, at_counts, below_counts, last_in, nodes_end, there_counts}
use Rattle.build_law.proofs.Outputs.{buds, first_there, one_step_of, out_there}
use Rattle.build_law.proofs.Placing.{call_place, gives, has_call, has_kept, kept_place, other_place, source, start}
use Rattle.build_law.proofs.Reading.{any_behind}
use Rattle.build_law.proofs.Slots.{call_slot, kept_slot, of_call}

-- ---- one collection's nodes

-- where it is a call, one of its names is needed of it
abbrev pub IsCalled : Script → ℕ → Made → Type 0
IsCalled script origin (made.Do input f o) =
    list_any (λ one. one) (names_needed script (origin - o) f) ≡ true
IsCalled script origin _ = Unit {0}

-- a node reads what is there and lower
abbrev pub IsLow : (Place → Type 0) → ℕ → Place → Type 0
IsLow P n c = P c × (c.node < n)

abbrev pub ReadsLow : (Place → Type 0) → Entry → Type 0
ReadsLow P e = AllByRecursion (IsLow P e.number) (reads e.node)

module _ (script : Script) (gives : ℕ → Place) (origin source n : ℕ) where
  block_plain : (mk : Made) → IsCalled script origin mk
      → AllByRecursion IsPlain (made_nodes script gives origin source n mk)
  block_plain (made.Do input f o) h =
      let first : ℕ = origin - o in
      let b = call_branch first f (emitted_at script first)
      (needed_from script (suc first) (other_names script f)) in (
        (
          first_there b 0 0 (names_needed script first f) h,
          one_step_of b 0 (emitted_at script first)
              (needed_from script (suc first) (other_names script f)),
        ),
        tt,
      )
  block_plain (made.Count input) h = ((refl, refl), ((refl, refl), ((refl, refl), tt)))
  block_plain (made.Join left right) h =
      ((refl, refl), ((refl, refl), ((refl, refl), ((refl, refl), ((refl, refl), tt)))))
  block_plain (made.Top many input) h =
      ((refl, refl), ((refl, refl), ((refl, refl), ((refl, refl), tt))))
  block_plain (made.CombineAll input k) h =
      ((refl, refl), ((refl, refl), ((refl, refl), ((refl, refl), tt))))
  block_plain _ h = ((refl, refl), tt)

  module _ (P : Place → Type 0) where
    -- each node of the collection is there
    abbrev AreThere : Made → Type 0
    AreThere mk = (k : ℕ) → k ≤ n + before_last mk → P (first_of k)

    higher : (m : ℕ) → n ≤ m → (cs : List Place) → AllByRecursion (IsLow P n) cs
        → AllByRecursion (IsLow P m) cs
    higher m up cs h =
        Each-weaker (IsLow P n) (IsLow P m)
        (λ c low. (low.0, (let below = low.1 in omega arith))) cs h

    all_low : (js : List ℕ) → AllByRecursion (λ j. IsLow P n (gives j)) js
        → AllByRecursion (IsLow P n) (map gives js)
    all_low [] h = tt
    all_low (j ∷ js) h = (h.0, all_low js h.1)

    next : (mk : Made) → AreThere mk → (k m : ℕ) → k ≤ n + before_last mk → k < m
        → AllByRecursion (IsLow P m) (first_of k ∷ [])
    next mk there k m within below = ((there k within, below), tt)

    -- the nodes of an operation that takes a collection whole read each the one before
    whole_low : (many input : ℕ) → AreThere (made.Top many input) → IsLow P n (gives input)
        → AllByRecursion (ReadsLow P)
        (made_nodes script gives origin source n (made.Top many input))
    whole_low many input there h =
        let mk = made.Top many input in (
          (h, tt),
          (
            next mk there n (n + 1) (omega arith) (omega arith),
            (
              next mk there (n + 1) (n + 2) (omega arith) (omega arith),
              (next mk there (n + 2) (n + 3) (omega arith) (omega arith), tt),
            ),
          ),
        )

    block_low : (mk : Made) → AreThere mk
        → AllByRecursion (λ j. IsLow P n (gives j)) (operands mk)
        → AllByRecursion (ReadsLow P) (made_nodes script gives origin source n mk)
    block_low (made.Input file columns) there h = (tt, tt)
    block_low (made.Do input f o) there h = ((h.0, tt), tt)
    block_low (made.Group input) there h = ((h.0, tt), tt)
    block_low (made.Combine input k) there h = ((h.0, tt), tt)
    block_low (made.Flatten inputs) there h = (all_low inputs h, tt)
    block_low (made.Count input) there h = (
      (h.0, tt),
      (
        next (made.Count input) there n (n + 1) (omega arith) (omega arith),
        (next (made.Count input) there (n + 1) (n + 2) (omega arith) (omega arith), tt),
      ),
    )
    block_low (made.Join left right) there h =
        let mk = made.Join left right in (
          (h.0, tt),
          (
            higher (n + 1) (omega arith) (gives right ∷ []) (h.1.0, tt),
            (
              (
                (there n (omega arith), omega arith),
                ((there (n + 1) (omega arith), omega arith), tt),
              ),
              (
                next mk there (n + 2) (n + 3) (omega arith) (omega arith),
                (next mk there (n + 3) (n + 4) (omega arith) (omega arith), tt),
              ),
            ),
          ),
        )
    block_low (made.Top many input) there h = whole_low many input there h.0
    block_low (made.CombineAll input k) there h = whole_low 0 input there h.0
    block_low (made.Operate objects f) there h = (all_low objects h, tt)
    block_low (made.DoWith input f object) there h = ((h.0, (h.1.0, tt)), tt)
    block_low (made.Saved is_object call) there h = (tt, tt)

-- ---- all nodes

module _ (script : Script) (well : IsWellFormed script) where
  abbrev nodes : List Entry
  nodes = nodes_of script

  pub counts : Counts 0 (nodes_of script)
  counts = all_counts script (gives script) 0 0 (built script)

  is_called : (t number : ℕ) {mk : Made} → Kind mk
      → get_or (built script) t None ≡ Some (built_of number mk) → IsCalled script number mk
  is_called t number (called input f o) found =
      let it = of_call script well t number input f o found in
      let emitted = how_emitted script number input f o
      (built_wanted script t number (made.Do input f o) found) in
      let split = split_at script it.first (suc (other_names script f)) o it.below
      (ap (emitted_at script) it.is ∙ emitted) in
      ap (λ first. list_any (λ one. one) (names_needed script first f)) it.from
      ∙ ap (list_any (λ one. one)) split.1
      ∙ any_behind (λ one. one) (needed_from script it.first o) (true ∷ split.0) refl
  is_called t number (other mk apart) found = by_other mk apart
    where
      by_other : (how : Made) → IsOther how → IsCalled script number how
      by_other (made.Do input f o) h = absurd h
      by_other _ h = tt

  pub plains : AllByRecursion IsPlain (nodes_of script)
  plains =
      each_block script (gives script) IsPlain 0 0 (built script)
      (λ t it found.
      block_plain script (gives script) it.number (source script t) (start script t) it.made
      (is_called t it.number (kind_of it.made) found))

  pub numbers_below : AllByRecursion (λ e. e.number < length (nodes_of script)) (nodes_of script)
  numbers_below =
      Each-weaker (λ (e : Entry). e.number < 0 + length (nodes_of script))
      (λ e. e.number < length (nodes_of script)) (λ e h. omega arith) (nodes_of script)
      (below_counts 0 (nodes_of script) counts)

  -- the first output of each node is there
  first_is_there : (k : ℕ) → k < length (nodes_of script)
      → IsThere (nodes_of script) (first_of k)
  first_is_there k below =
      there_counts 0 (nodes_of script) counts plains k (omega arith) (omega arith)

  within_all : (t number : ℕ) (mk : Made)
      → get_or (built script) t None ≡ Some (built_of number mk)
      → start script t + before_last mk < length (nodes_of script)
  within_all t number mk found =
      let low = last_in 0 t (built script) (built_of number mk) found in
      let last = last_number 0 (built script) t (built_of number mk) found in
      let all = nodes_end script (gives script) 0 0 (built script) in
      omega arith

  inner_there : (t number : ℕ) (mk : Made)
      → get_or (built script) t None ≡ Some (built_of number mk) → (k : ℕ)
      → k ≤ start script t + before_last mk → IsThere (nodes_of script) (first_of k)
  inner_there t number mk found k low =
      let all = within_all t number mk found in first_is_there k (omega arith)

  -- the node of a call is at its number
  call_at : (t number input f o first : ℕ)
      → get_or (built script) t None ≡ Some (built_of number (made.Do input f o))
      → number - o ≡ first
      → node_at (nodes_of script) (start script t)
      ≡ Some (call_in script first f (gives script input))
  call_at t number input f o first found from =
      (block_each script (gives script)
      (λ e. node_at (nodes_of script) e.number ≡ Some e.node) 0 0 (built script) t
      (built_of number (made.Do input f o)) found (at_counts 0 (nodes_of script) counts)).0
      ∙ ap (λ k. Some (call_in script k f (gives script input))) from

  -- where a collection is that is needed: at a place that is earlier than where it is read
  pub record IsPlaced (j : ℕ) : Type 0 where
    pub home : ℕ
    pub number : ℕ
    pub how : Made
    pub built_ : get_or (built script) home None ≡ Some (built_of number how)
    pub early : (t n : ℕ) (mk : Made) → get_or (built script) t None ≡ Some (built_of n mk)
        → Contains (operands mk) j → home < t
    pub node : (gives script j).node ≡ start script home + before_last how
    pub there : IsThere (nodes_of script) (gives script j)

  alone_placed : (j : ℕ) (how : Made) → emitted_as how ≡ None
      → get_or (wanted script) j None ≡ Some how → IsPlaced j
  alone_placed j how none found =
      let at = alone_built script j how none found in
      let e = other_place script j how none found in
      record {
        home = j;
        number = j;
        how = how;
        built_ = at;
        early = λ t n mk there reads. alone_early script well t n mk there j reads how none found;
        node = ap (λ (c : Place). c.node) e;
        there = subst (IsThere (nodes_of script)) (sym e)
            (inner_there j j how at (start script j + before_last how) (omega arith));
      }

  kept_placed : (j : ℕ) (is_object : Bool) (it : Emitted)
      → get_or (wanted script) j None ≡ Some (made.Saved is_object (Some it)) → IsPlaced j
  kept_placed j is_object it found =
      let how : Made = made.Saved is_object (Some it) in
      let n = has_kept script well j is_object it found in
      let e = kept_place script j is_object it n.name.first found n.name.place n.built_ in
      record {
        home = kept_slot script n.name.first it.output;
        number = j;
        how = how;
        built_ = n.built_;
        early = λ t m mk there reads.
            kept_early script well t m mk there j reads is_object it found n;
        node = ap (λ (c : Place). c.node) e;
        there = subst (IsThere (nodes_of script)) (sym e)
            (inner_there (kept_slot script n.name.first it.output) j how n.built_
            (start script (kept_slot script n.name.first it.output) + 0) (omega arith));
      }

  call_placed : (j input f o : ℕ) → get_or (wanted script) j None ≡ Some (made.Do input f o)
      → IsPlaced j
  call_placed j input f o found =
      let n = has_call script well j input f o found in
      let e = call_place script j input f o n.first (n.first + n.name.place) n.name.place found
      n.place n.built_ in
      let from : (n.first + n.name.place) - n.name.place ≡ n.first = omega arith in
      let front = needed_from script n.first o in
      let split = split_at script n.first (suc (other_names script f)) o n.below
      (ap (emitted_at script) n.place ∙ how_emitted script j input f o found) in
      let b = call_branch n.first f (emitted_at script n.first)
      (needed_from script (suc n.first) (other_names script f)) in
      record {
        home = call_slot script n.first f;
        number = n.first + n.name.place;
        how = made.Do input f n.name.place;
        built_ = n.built_;
        early = λ s m mk there reads.
            call_early script well s m mk there j reads input f o found n;
        node = ap (λ (c : Place). c.node) e
            ∙ sym (add-zero (start script (call_slot script n.first f)));
        there = subst (IsThere (nodes_of script)) (sym e)
            (ap (λ o. gives_at o (number_behind 0 front))
            (call_at (call_slot script n.first f) (n.first + n.name.place) input f n.name.place
            n.first n.built_ from)
            ∙ ap (λ names. has_out (number_behind 0 front) (buds b 0 0 names)) split.1
            ∙ out_there b 0 0 front split.0);
      }

  placed_by : (j : ℕ) {how : Made} → Stand how → get_or (wanted script) j None ≡ Some how
      → IsPlaced j
  placed_by j (by_call input f o) found = call_placed j input f o found
  placed_by j (kept_name is_object it) found = kept_placed j is_object it found
  placed_by j (alone how apart none) found = alone_placed j how none found

  pub is_placed : (j : ℕ) (how : Made) → get_or (wanted script) j None ≡ Some how → IsPlaced j
  is_placed j how found = placed_by j (stand_of how) found

  operand_low : (t number : ℕ) (mk : Made)
      → get_or (built script) t None ≡ Some (built_of number mk) → (j : ℕ)
      → Contains (operands mk) j → IsLow (IsThere (nodes_of script))
      (start script t) (gives script j)
  operand_low t number mk found j reads_ =
      let read = operand_wanted script well number j mk
      (built_wanted script t number mk found) reads_ in
      let at = is_placed j read.0 read.1 in
      let low = lower_start 0 (built script) at.home t (built_of at.number at.how) at.built_
      (at.early t number mk found reads_) in
      let node = at.node in
      (at.there, omega arith)

  -- all that is read is there, and lower
  pub lows : AllByRecursion (ReadsLow (IsThere (nodes_of script))) (nodes_of script)
  lows =
      each_block script (gives script) (ReadsLow (IsThere (nodes_of script))) 0 0 (built script)
      (λ t it found.
      block_low script (gives script) it.number (source script t) (start script t)
      (IsThere (nodes_of script)) it.made (inner_there t it.number it.made found)
      (each_contained
      (λ j. IsLow (IsThere (nodes_of script)) (start script t) (gives script j))
      (operands it.made) (operand_low t it.number it.made found)))
