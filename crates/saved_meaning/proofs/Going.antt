-- Node by node, a script in which some collections are kept ones makes what the script makes.
use Rattle.std.proofs.Common.{◌≡◌, ℕ, zero, suc, ◌+◌, ◌<◌, Bool, true, false, List, [], ◌∷◌, ◌++◌, length, map, Option, Some, None, if◌then◌else◌, slice_get, refl, sym, ap, ◌∙◌, subst, arith, append_assoc, length-append}
use Rattle.std.specs.Option.{option_and_then}
use Rattle.std.specs.List.{AllByRecursion as Each, AllZip, Contains}
use Rattle.flume_value.specs.declared.value.Value.{Value}
use Rattle.flume_collection.specs.Collection.{Collection}
use Rattle.written_types.specs.Named.{Named}
use Rattle.script_program.specs.declared.made.Emitted.{Emitted}
use Rattle.script_program.specs.declared.made.Made.{Made}
use Rattle.script_program.specs.declared.made.Made.TheVariants as made
use Rattle.script_program.specs.Kinds.{emitted_as, gives_object}
use Rattle.script_program.specs.Needed.{holds_number, is_needed, made_of, operands}
use Rattle.script_program.specs.Saved.{IsUnsaved, saved_as, saved_among, saved_node, with_saved}
use Rattle.script_program.specs.Script.{Node, Script}
use Rattle.direct_meaning.specs.of_script_laws.WellFormed.{IsWellFormed}
use Rattle.direct_meaning.specs.Direct.{collections, inputs_behind, made_as, made_at, rows_as}
use Rattle.direct_meaning.specs.Made.{IsMadeFor}
use Rattle.saved_meaning.specs.Found.{MayBeFound, bag_or_none, where_needed}
use Rattle.saved_meaning.proofs.SameMakes.{IsMadeOfOthers, IsNoSource, Kind, input, kind_of, other, same_made, saved}
use Rattle.saved_meaning.proofs.StillNeeded.{needed-before, reads-needed}
use Rattle.saved_meaning.proofs.Tables.{and_then_some, found-members, next-made, one_longer, related-more, settled-at, sound-at}

abbrev pub Table : Type 0
Table = List (Option Collection)

abbrev pub Lists : Type 0
Lists = List (List Value)

-- ---- the lists of what is to come, in order of the script

-- the rows of an input
abbrev pub first_of : Made → Lists → Lists
first_of (made.Input file columns) [] = []
first_of (made.Input file columns) (list ∷ rows) = list ∷ []
first_of _ rows = []

-- what a collection reads of a source: what is kept, or rows
abbrev pub own_list : Bool → Bool → List Value → Made → Lists → Lists
own_list false kept members how rows = []
own_list true true members how rows = members ∷ []
own_list true false members how rows = first_of how rows

abbrev pub rows_left : Bool → Made → Lists → Lists
rows_left needed how rows = if needed then inputs_behind how rows else rows

pub none_first : (how : Made) → IsMadeOfOthers how → (rows : Lists) → first_of how rows ≡ []
none_first (made.Input file columns) others rows = absurd others
none_first _ others rows = refl

at_seam : (before nodes : Named Node) (entry : List ℕ × Node) (n : ℕ) → length before ≡ n
    → slice_get (map (λ (it : List ℕ × Node). it.1.made) (before ++ entry ∷ nodes)) n
    ≡ Some entry.1.made
at_seam [] nodes entry zero size = refl
at_seam [] nodes entry (suc n) size = absurd (omega arith)
at_seam (first ∷ before) nodes entry zero size = absurd (omega arith)
at_seam (first ∷ before) nodes entry (suc n) size = at_seam before nodes entry n (omega arith)

-- how the next collection is made
pub made-here : (script : Script) (before nodes : Named Node) (entry : List ℕ × Node) (n : ℕ)
    → before ++ entry ∷ nodes ≡ script.nodes → length before ≡ n
    → slice_get (made_of script) n ≡ Some entry.1.made
made-here script before nodes entry n split size =
    ap (λ (l : Named Node). slice_get (map (λ (it : List ℕ × Node). it.1.made) l) n) (sym split)
    ∙ at_seam before nodes entry n size

module _ (script : Script) (found : List ℕ) (all : Table) where
  abbrev pub later : Script
  later = with_saved found script

  -- what is to come from the collection of a number on
  abbrev pub to_come : ℕ → Named Node → Lists → Lists
  to_come n [] rows = []
  to_come n (entry ∷ nodes) rows =
      own_list (is_needed later n) (holds_number found n) (bag_or_none (made_at all n)) entry.1.made
      rows
      ++ to_come (suc n) nodes (rows_left (is_needed script n) entry.1.made rows)

  -- ---- one collection more

  abbrev next : Script → Bool → Made → Named Node → Lists → Table → Option Table
  next own needed how nodes lists table =
      if needed
      then option_and_then (λ c.
      collections own nodes (inputs_behind how lists) (table ++ Some c ∷ []))
      (made_as own (length table) how lists table)
      else collections own nodes lists (table ++ None ∷ [])

  -- where it is needed and made
  goes-made : (how : Made) (nodes : Named Node) (lists more : Lists) (there : Table)
      (c : Collection) (b : Bool) → b ≡ true
      → made_as later (length there) how lists there ≡ Some c → inputs_behind how lists ≡ more
      → next later b how nodes lists there ≡ collections later nodes more (there ++ Some c ∷ [])
  goes-made how nodes lists more there c b needed is behind =
      ap (λ (t : Bool). next later t how nodes lists there) needed
      ∙ ap (option_and_then (λ (d : Collection).
      collections later nodes (inputs_behind how lists) (there ++ Some d ∷ []))) is
      ∙ ap (λ (l : Lists). collections later nodes l (there ++ Some c ∷ [])) behind

  goes-without : (how : Made) (nodes : Named Node) (lists : Lists) (there : Table) (b : Bool)
      → b ≡ false
      → next later b how nodes lists there ≡ collections later nodes lists (there ++ None ∷ [])
  goes-without how nodes lists there b needless =
      ap (λ (t : Bool). next later t how nodes lists there) needless

  -- the same collection is made
  record SameNext (how : Made) (lists more : Lists) (there : Table) (c : Collection) : Type 0 where
    pub made_so : made_as later (length there) how lists there ≡ Some c
    pub behind : inputs_behind how lists ≡ more

  module _ (well : IsWellFormed script) (sound : Each (MayBeFound all) found)
      (settled : AllZip IsMadeFor script.nodes all) where
    -- where it is kept
    kept-next : (n : ℕ) (c : Collection) (call : Option Emitted) (more : Lists) (there : Table)
        → made_at all n ≡ Some c → holds_number found n ≡ true → (is_object : Bool)
        → SameNext (made.Saved is_object call) (bag_or_none (made_at all n) ∷ more) more there c
    kept-next n c call more there is kept is_object = record {
      made_so =
          ap Some
          (found-members all n c is (sound-at all found sound n kept)
          (settled-at script.nodes all settled n c is));
      behind = refl;
    }

    -- where it is made again
    other-next : (n : ℕ) (how : Made) → IsNoSource how → (rows more : Lists) (here there : Table)
        (c : Collection) → length here ≡ n → length there ≡ n
        → ((j : ℕ) → Contains (operands how) j → made_at there j ≡ made_at here j)
        → made_as script (length here) how rows here ≡ Some c
        → SameNext how (first_of how rows ++ more) more there c
    other-next n how none rows more here there c size sizes same is =
        let nothing : first_of how rows ++ more ≡ more =
        ap (λ l. l ++ more) (none_first how none.others rows) in
        record {
          made_so =
              ap (λ l. made_as later (length there) how l there) nothing
              ∙ ap (λ k. made_as later k how more there) (sizes ∙ sym size)
              ∙ same_made here there script found (length here) how rows more none.others same
              ∙ is;
          behind = ap (inputs_behind how) nothing ∙ none.behind more;
        }

    again-next : (n : ℕ) {how : Made} → Kind how → IsUnsaved how → (rows : Lists) (more : Lists)
        (here there : Table) (c : Collection) → length here ≡ n → length there ≡ n
        → ((j : ℕ) → Contains (operands how) j → made_at there j ≡ made_at here j)
        → made_as script (length here) how rows here ≡ Some c
        → SameNext how (first_of how rows ++ more) more there c
    again-next n (input file columns) un [] more here there c size sizes same is = cc
    again-next n (input file columns) un (list ∷ rows) more here there c size sizes same is =
        record { made_so = is; behind = refl }
    again-next n (saved is_object call) un rows more here there c size sizes same is = absurd un
    again-next n (other how none) un rows more here there c size sizes same is =
        other-next n how none rows more here there c size sizes same is

    -- ---- all that are left

    pub record Goes (nodes : Named Node) (lists : Lists) (n : ℕ) (there : Table) : Type 0 where
      pub own : Table
      pub means : collections later (saved_among found n nodes) lists there ≡ Some own
      pub same : (j : ℕ) → made_at own j ≡ where_needed (is_needed later j) (made_at all j)

    abbrev Related : Table → Table → Type 0
    Related here there =
        (j : ℕ) → made_at there j ≡ where_needed (is_needed later j) (made_at here j)

    abbrev AllGo : Named Node → Type 0
    AllGo nodes = (before : Named Node) → before ++ nodes ≡ script.nodes
        → Each (λ entry. IsUnsaved entry.1.made) nodes
        → (n : ℕ) → length before ≡ n
        → (rows : Lists) (here there : Table) → length here ≡ n → length there ≡ n
        → Related here there → collections script nodes rows here ≡ Some all
        → Goes nodes (to_come n nodes rows) n there

    module _ (entry : List ℕ × Node) (nodes : Named Node) (behind : AllGo nodes)
        (before : Named Node) (split : before ++ entry ∷ nodes ≡ script.nodes)
        (un : Each (λ (it : List ℕ × Node). IsUnsaved it.1.made) (entry ∷ nodes)) (n : ℕ)
        (place : length before ≡ n) (rows : Lists) (here there : Table)
        (size : length here ≡ n) (sizes : length there ≡ n) (related : Related here there)
      where
        abbrev how : Made
        how = entry.1.made

        -- behind it
        on : (left : Lists) (o own : Option Collection)
            → own ≡ where_needed (is_needed later n) o
            → collections script nodes left (here ++ o ∷ []) ≡ Some all
            → Goes nodes (to_come (suc n) nodes left) (suc n) (there ++ own ∷ [])
        on left o own is rest =
            behind (before ++ entry ∷ []) (append_assoc before (entry ∷ []) nodes ∙ split) un.1
            (suc n) (omega (arith, place, length-append before (entry ∷ []))) left (here ++ o ∷ [])
            (there ++ own ∷ []) (omega (arith, size, one_longer here o))
            (omega (arith, sizes, one_longer there own))
            (related-more (is_needed later) here there o own (size ∙ sym sizes) related
            (is ∙ ap (λ k. where_needed (is_needed later k) o) (sym size)))
            rest

        -- what it is made of is there
        reads : holds_number found n ≡ false → is_needed later n ≡ true → (j : ℕ)
            → Contains (operands how) j
            → made_at there j ≡ made_at here j
        reads made_again needed j reads_it =
            related j
            ∙ ap (λ b. where_needed b (made_at here j))
            (reads-needed script well found n how
            (made-here script before nodes entry n split place)
            made_again needed j reads_it)

        -- the node of the later script
        abbrev later_entry : Bool → List ℕ × Node
        later_entry kept = if kept then (entry.0, saved_node entry.1) else entry

        abbrev GoesWith : Bool → Bool → Bool → Type 0
        GoesWith needed still kept =
            (own : Table)
            × (collections later (later_entry kept ∷ saved_among found (suc n) nodes)
            (own_list still kept (bag_or_none (made_at all n)) how rows
            ++ to_come (suc n) nodes (rows_left needed how rows)) there ≡ Some own)
            × ((j : ℕ) → made_at own j ≡ where_needed (is_needed later j) (made_at all j))

        -- it is made, as a kept one or again
        next-of : (kept : Bool) → holds_number found n ≡ kept → is_needed later n ≡ true
            → (c : Collection)
            → made_as script (length here) how rows here ≡ Some c → made_at all n ≡ Some c
            → SameNext (later_entry kept).1.made
            (own_list true kept (bag_or_none (made_at all n)) how rows
            ++ to_come (suc n) nodes (inputs_behind how rows))
            (to_come (suc n) nodes (inputs_behind how rows)) there c
        next-of true is needed c made_so at_all =
            kept-next n c (emitted_as how) (to_come (suc n) nodes (inputs_behind how rows)) there
            at_all is (gives_object how)
        next-of false is needed c made_so at_all =
            again-next n (kind_of how) un.0 rows
            (to_come (suc n) nodes (inputs_behind how rows)) here there c size sizes
            (reads is needed) made_so

        needed-there : (b : Bool) → is_needed later n ≡ b → is_needed later (length there) ≡ b
        needed-there b is = ap (is_needed later) sizes ∙ is

        still-goes : (kept : Bool) → holds_number found n ≡ kept → is_needed later n ≡ true
            → (c : Collection) → made_as script (length here) how rows here ≡ Some c
            → collections script nodes (inputs_behind how rows) (here ++ Some c ∷ []) ≡ Some all
            → GoesWith true true kept
        still-goes kept is needed c made_so rest =
            let at_all : made_at all n ≡ Some c =
            ap (made_at all) (sym size)
            ∙ next-made script nodes (inputs_behind how rows) here all c rest in
            let same = next-of kept is needed c made_so at_all in
            let left = to_come (suc n) nodes (inputs_behind how rows) in
            let it = on (inputs_behind how rows) (Some c) (Some c)
            (ap (λ b. where_needed b (Some c)) (sym needed)) rest in (
              it.own,
              goes-made (later_entry kept).1.made (saved_among found (suc n) nodes)
                  (own_list true kept (bag_or_none (made_at all n)) how rows ++ left) left there c
                  (is_needed later (length there)) (needed-there true needed) same.made_so
                  same.behind
                  ∙ it.means,
              it.same,
            )

        none-goes : (needed kept : Bool) → is_needed later n ≡ false → (o : Option Collection)
            → collections script nodes (rows_left needed how rows) (here ++ o ∷ []) ≡ Some all
            → GoesWith needed false kept
        none-goes needed kept needless o rest =
            let left = to_come (suc n) nodes (rows_left needed how rows) in
            let it = on (rows_left needed how rows) o None
            (ap (λ b. where_needed b o) (sym needless)) rest in (
              it.own,
              goes-without (later_entry kept).1.made (saved_among found (suc n) nodes) left there
                  (is_needed later (length there)) (needed-there false needless)
                  ∙ it.means,
              it.same,
            )

        goes-with : (needed still : Bool) → is_needed script n ≡ needed → is_needed later n ≡ still
            → next script needed how nodes rows here ≡ Some all
            → GoesWith needed still (holds_number found n)
        goes-with true true is still h =
            let (c, made_so, rest) =
            and_then_some
            (λ c. collections script nodes (inputs_behind how rows) (here ++ Some c ∷ []))
            (made_as script (length here) how rows here) all h in
            still-goes (holds_number found n) refl still c made_so rest
        goes-with true false is still h =
            let (c, made_so, rest) =
            and_then_some
            (λ c. collections script nodes (inputs_behind how rows) (here ++ Some c ∷ []))
            (made_as script (length here) how rows here) all h in
            none-goes true (holds_number found n) still (Some c) rest
        goes-with false true is still h =
            let e = needed-before script well found n still in
            let no_ : true ≡ false = sym e ∙ is in cc
        goes-with false false is still h = none-goes false (holds_number found n) still None h

        goes-one : collections script (entry ∷ nodes) rows here ≡ Some all
            → Goes (entry ∷ nodes) (to_come n (entry ∷ nodes) rows) n there
        goes-one h =
            let it = goes-with (is_needed script n) (is_needed later n) refl refl
            (subst (λ k. next script (is_needed script k) how nodes rows here ≡ Some all) size h) in
            record { own = it.0; means = it.1; same = it.2 }

    pub all-go : (nodes : Named Node) → AllGo nodes
    all-go [] before split un n place [] here there size sizes related h =
        let e : here ≡ all = cc in
        record {
          own = there;
          means = refl;
          same = λ j. related j ∙ ap (λ t. where_needed (is_needed later j) (made_at t j)) e;
        }
    all-go [] before split un n place (list ∷ rows) here there size sizes related h = cc
    all-go (entry ∷ nodes) before split un n place rows here there size sizes related h =
        goes-one entry nodes (all-go nodes) before split un n place rows here there size sizes
        related h
