-- All collections of a script meet their equations.
use Rattle.std.proofs.Common.{◌≡◌, ℕ, zero, suc, ◌+◌, ◌<◌, Bool, true, false, List, [], ◌∷◌, ◌++◌, drop, get_or, length, Option, Some, None, refl, sym, ap, ◌∙◌, subst, append_assoc, add-zero}
use Rattle.std.specs.Prelude.{option_and_then, if◌then◌else◌}
use Rattle.std.proofs.lemmas.List.{drop-drop}
use Rattle.flume_value.specs.declared.value.Value.{Value}
use Rattle.flume_value.proofs.EachLemmas.{Each-weaker}
use Rattle.flume_collection.specs.Collection.{Collection}
use Rattle.exec_graph.specs.Meaning.{or_nothing}
use Rattle.exec_graph.specs.World.{World}
use Rattle.exec_graph.specs.declared.graph.Place.{Place}
use Rattle.written_types.specs.Named.{Named}
use Rattle.graph_build.specs.of_script_program.Needed.{is_needed, operands}
use Rattle.graph_build.specs.of_script_program.declared.made.Made.{Made}
use Rattle.graph_build.specs.of_script_program.declared.made.Made.TheVariants as made
use Rattle.graph_build.specs.of_script_program.Script.{Node, Script}
use Rattle.direct_meaning.specs.Direct.{collections, inputs_behind, made_as, made_at}
use Rattle.graph_build.specs.Nodes.{sources_made, source_number}
use Rattle.graph_build.specs.Wanted.{wanted_from}
use Rattle.build_law.specs.Worlds.{script_world}
use Rattle.build_law.proofs.Made.{is_made}
use Rattle.build_law.proofs.Meeting.{AllMade, IsSettled}
use Rattle.build_law.proofs.Tables.{and_then_some, continues, made_before, made_next, one_longer}

-- ---- settled tables

abbrev pub SettledIn : List (Option Collection) → Type 0
SettledIn [] = Unit {0}
SettledIn (None ∷ table) = SettledIn table
SettledIn (Some c ∷ table) = IsSettled c × SettledIn table

pub settled_at : (table : List (Option Collection)) → SettledIn table → (j : ℕ) (c : Collection)
    → made_at table j ≡ Some c → IsSettled c
settled_at [] s j c h = cc
settled_at (None ∷ table) s zero c h = cc
settled_at (Some d ∷ table) s zero c h = let e : d ≡ c = cc in subst IsSettled e s.0
settled_at (None ∷ table) s (suc j) c h = settled_at table s j c h
settled_at (Some d ∷ table) s (suc j) c h = settled_at table s.1 j c h

settled_more : (table : List (Option Collection)) (c : Collection) → SettledIn table
    → IsSettled c → SettledIn (table ++ Some c ∷ [])
settled_more [] c s h = (h, tt)
settled_more (None ∷ table) c s h = settled_more table c s h
settled_more (Some d ∷ table) c s h = (s.0, settled_more table c s.1 h)

settled_without : (table : List (Option Collection)) → SettledIn table
    → SettledIn (table ++ None ∷ [])
settled_without [] s = tt
settled_without (None ∷ table) s = settled_without table s
settled_without (Some d ∷ table) s = (s.0, settled_without table s.1)

-- ---- the inputs to come

rows_behind : (script : Script) (all : List (List Value)) (n source : ℕ) (mk : Made)
    (rem : List (List Value)) (table : List (Option Collection)) (c : Collection)
    → rem ≡ drop source all → made_as script n mk rem table ≡ Some c
    → inputs_behind mk rem ≡ drop (source + sources_made mk) all
rows_behind script all n source (made.Input file columns) [] table c ahead h = cc
rows_behind script all n source (made.Input file columns) (rows ∷ rem) table c ahead h =
    ap (drop 1) ahead ∙ drop-drop 1 source all
rows_behind script all n source (made.Saved is_object call) [] table c ahead h = cc
rows_behind script all n source (made.Saved is_object call) (rows ∷ rem) table c ahead h =
    ap (drop 1) ahead ∙ drop-drop 1 source all
rows_behind script all n source _ rem table c ahead h = rw add-zero ahead

-- ---- all nodes

abbrev pub at_of : List (Option Collection) → ℕ → Collection
at_of made j = or_nothing (made_at made j)

module _ (script : Script) (lists all : List (List Value))
    (given : (k : ℕ) → k < length all
    → get_or all k [] ≡ get_or lists (source_number script k) [])
    (made : List (Option Collection)) (m : Place → Collection) (gives : ℕ → Place)
    (stands : (j : ℕ) (c : Collection) → made_at made j ≡ Some c → m (gives j) ≡ at_of made j)
  where
    pub record AllFrom (nodes : Named Node) (n source : ℕ) : Type 0 where
      pub all_made :
          AllMade script (script_world script lists) (at_of made) m gives n source
          (wanted_from script n nodes)
      pub settled : SettledIn made

    abbrev Behind : Named Node → Type 0
    Behind nodes =
        (rem : List (List Value)) (table : List (Option Collection)) (source : ℕ)
        → rem ≡ drop source all → SettledIn table → collections script nodes rem table ≡ Some made
        → AllFrom nodes (length table) source

    -- what stands in a front of what is made
    in_front : (table tail : List (Option Collection)) → made ≡ table ++ tail → (j : ℕ)
        (c : Collection) → made_at table j ≡ Some c → made_at made j ≡ Some c
    in_front table tail is j c h =
        subst (λ t. made_at t j ≡ Some c) (sym is) (made_before table tail j c h)

    next_made : (entry : List ℕ × Node) (nodes : Named Node) (rem : List (List Value))
        (table : List (Option Collection)) (source : ℕ) (c : Collection)
        → is_needed script (length table) ≡ true → rem ≡ drop source all → SettledIn table
        → made_as script (length table) entry.1.made rem table ≡ Some c
        → collections script nodes (inputs_behind entry.1.made rem) (table ++ Some c ∷ [])
        ≡ Some made
        → Behind nodes → AllFrom (entry ∷ nodes) (length table) source
    next_made entry nodes rem table source c needed ahead st made_c rest behind =
        let k = continues script nodes (inputs_behind entry.1.made rem) (table ++ Some c ∷ []) made
        rest in
        let is : made ≡ table ++ Some c ∷ k.tail = k.is ∙ append_assoc table (Some c ∷ []) k.tail in
        let n : ℕ = length table in
        let front : (j : ℕ) (d : Collection) → made_at table j ≡ Some d → made_at made j ≡ Some d
        = in_front table (Some c ∷ k.tail) is in
        let here : at_of made n ≡ c =
        ap or_nothing (ap (λ t. made_at t n) is ∙ made_next table k.tail c) in
        let mk : Made = entry.1.made in
        let one = is_made script lists all given (at_of made) table
        (λ j d h. ap or_nothing (front j d h)) (settled_at table st) n source c here mk rem ahead
        made_c in
        let others = behind (inputs_behind mk rem) (table ++ Some c ∷ []) (source + sources_made mk)
        (rows_behind script all n source mk rem table c ahead made_c)
        (settled_more table c st one.settled) rest in
        let w : World = script_world script lists in
        record {
          all_made =
              subst
              (λ b. AllMade script w (at_of made) m gives n source
              ((if b then Some mk else None) ∷ wanted_from script (suc n) nodes))
              (sym needed) (
                (
                  one.is,
                  Each-weaker (λ j. (d : Collection) × (made_at table j ≡ Some d))
                      (λ j. m (gives j) ≡ at_of made j) (λ j d. stands j d.0 (front j d.0 d.1))
                      (operands mk) one.read,
                ),
                subst (λ k. AllMade script w (at_of made) m gives k (source + sources_made mk)
                    (wanted_from script k nodes)) (one_longer table (Some c)) others.all_made,
              );
          settled = others.settled;
        }

    next_without : (entry : List ℕ × Node) (nodes : Named Node) (rem : List (List Value))
        (table : List (Option Collection)) (source : ℕ)
        → is_needed script (length table) ≡ false → rem ≡ drop source all → SettledIn table
        → collections script nodes rem (table ++ None ∷ []) ≡ Some made
        → Behind nodes → AllFrom (entry ∷ nodes) (length table) source
    next_without entry nodes rem table source needless ahead st rest behind =
        let n : ℕ = length table in
        let others = behind rem (table ++ None ∷ []) source ahead (settled_without table st) rest in
        let w : World = script_world script lists in
        record {
          all_made =
              subst
              (λ b. AllMade script w (at_of made) m gives n source
              ((if b then Some entry.1.made else None) ∷ wanted_from script (suc n) nodes))
              (sym needless) (
                tt,
                subst (λ k. AllMade script w (at_of made) m gives k source
                    (wanted_from script k nodes)) (one_longer table None) others.all_made,
              );
          settled = others.settled;
        }

    next_of : (entry : List ℕ × Node) (nodes : Named Node) (rem : List (List Value))
        (table : List (Option Collection)) (source : ℕ) (b : Bool)
        → is_needed script (length table) ≡ b → rem ≡ drop source all → SettledIn table
        → (if b then option_and_then (λ c.
        collections script nodes (inputs_behind entry.1.made rem) (table ++ Some c ∷ []))
        (made_as script (length table) entry.1.made rem table)
        else collections script nodes rem (table ++ None ∷ [])) ≡ Some made
        → Behind nodes → AllFrom (entry ∷ nodes) (length table) source
    next_of entry nodes rem table source true needed ahead st h behind =
        let (c, made_c, rest) =
        and_then_some
        (λ c. collections script nodes (inputs_behind entry.1.made rem) (table ++ Some c ∷ []))
        (made_as script (length table) entry.1.made rem table) made h in
        next_made entry nodes rem table source c needed ahead st made_c rest behind
    next_of entry nodes rem table source false needless ahead st h behind =
        next_without entry nodes rem table source needless ahead st h behind

    pub all_from : (nodes : Named Node) → Behind nodes
    all_from [] [] table source ahead st h =
        let e : table ≡ made = cc in
        record { all_made = tt; settled = subst SettledIn e st }
    all_from [] (rows ∷ rem) table source ahead st h = cc
    all_from (entry ∷ nodes) rem table source ahead st h =
        next_of entry nodes rem table source (is_needed script (length table)) refl ahead st
        h (all_from nodes)
