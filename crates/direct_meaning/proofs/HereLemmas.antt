-- An evaluation before a node that is needed, however the node is made.
use Rattle.std.proofs.Common.{◌≡◌, ℕ, suc, ◌+◌, ◌<◌, true, List, [], ◌∷◌, ◌++◌, length, Option, Some, slice_get, sym, ap, ◌∙◌, subst, append-nil, arith}
use Rattle.std.specs.List.{Contains}
use Rattle.std.specs.Option.{option_map}
use Rattle.flume_value.specs.declared.value.Value.{Value}
use Rattle.flume_types.specs.declared.types.Ty.{Ty}
use Rattle.flume_collection.specs.Collection.{Collection}
use Rattle.flume_collection.specs.declared.trap.Trap.{Trap}
use Rattle.script_program.specs.declared.made.Made.{Made}
use Rattle.script_program.specs.Program.{node_in}
use Rattle.script_program.specs.Script.{Node, Script}
use Rattle.script_program.specs.declared.made.Node.{Node as HeldNode}
use Rattle.script_laws.specs.WellFormed.{Fits, IsWellFormed, members_at}
use Rattle.direct_meaning.proofs.StandLemmas.{HasOwn, IsNodeAt, Source, at_node, fits, goes, behind, keeps, own_rows, source_of}
use Rattle.direct_meaning.specs.Direct.{inputs_behind, made_as}
use Rattle.direct_meaning.specs.Inputs.{AreLists, Sourced, sourced_by}
use Rattle.script_program.specs.Needed.{is_needed, operands}
use Rattle.direct_meaning.specs.declared.kept.Kept.{Kept}
use Rattle.direct_meaning.specs.inner.Kept.{Keeps}
use Rattle.direct_meaning.specs.inner.Stands.{Stands, sourced_from}

some_rows : (wanted : Sourced) (others : List Sourced) (left : List (List Value))
    → AreLists (wanted ∷ others) left → 0 < length left
some_rows wanted others [] have = absurd have
some_rows wanted others (rows ∷ left) have = omega arith

-- An evaluation stands before the node of a number, which is needed and made so.
pub record Here (script : Script) (inputs left : List (List Value)) (number : ℕ)
    (kept : List (Option Kept)) (traps : List Trap) (m : Made) : Type 0 where
  pub well : IsWellFormed script
  pub stands : Stands script inputs number left kept traps
  pub node : IsNodeAt script number m
  pub needed : is_needed script number ≡ true

module _ {script : Script} {inputs left : List (List Value)} {number : ℕ}
    {kept : List (Option Kept)} {traps : List Trap} where
  pub here_at : (types : List Ty) (held : HeldNode) (m : Made) → IsWellFormed script
      → Stands script inputs number left kept traps → is_needed script number ≡ true
      → option_map (λ (entry : List ℕ × Node). entry.1) (slice_get script.nodes number)
      ≡ Some (node_in types held)
      → held.made ≡ m → Here script inputs left number kept traps m
  here_at types held m well stands needed is made_so = record {
    well = well;
    stands = stands;
    node = at_node script number types held m is made_so;
    needed = needed;
  }

  module _ (m : Made) (here : Here script inputs left number kept traps m) where
    -- how it is made fits the collections before it
    pub fits_so : Fits script.functions here.stands.before m here.node.entry.1.type
    fits_so =
        subst
        (λ (n : Made). Fits script.functions here.stands.before n here.node.entry.1.type)
        here.node.made
        (fits script here.well inputs left number kept traps here.stands here.node.entry
        here.node.at here.needed)

    -- what is kept of a collection that it reads
    pub reads_so : (n : ℕ) → Contains (operands m) n → (type : Ty)
        → members_at here.stands.before n ≡ Some type → Source kept here.stands.table n type
    reads_so n reads type members =
        source_of script here.well inputs left number kept traps here.stands here.node.entry
        here.node.at here.needed n
        (subst (λ (o : Made). Contains (operands o) n) (sym here.node.made) reads) type members

    -- what the nodes behind it want
    abbrev wanted_behind : List Sourced
    wanted_behind =
        sourced_from script (suc number)
        (behind script here.well inputs left number kept traps here.stands here.node.entry
        here.node.at).others

    rows_so : AreLists (sourced_by m here.node.entry.1.type ++ wanted_behind) left
    rows_so =
        subst (λ (o : Made). AreLists (sourced_by o here.node.entry.1.type ++ wanted_behind) left)
        here.node.made
        (own_rows script here.well inputs left number kept traps here.stands here.node.entry
        here.node.at here.needed)

    -- where it wants an input, there are rows to come
    pub rows_come : (wanted : Sourced) → sourced_by m here.node.entry.1.type ≡ wanted ∷ []
        → 0 < length left
    rows_come wanted one =
        some_rows wanted wanted_behind left
        (subst (λ (l : List Sourced). AreLists (l ++ wanted_behind) left) one rows_so)

    -- behind it, where what it makes is kept and its own traps are found
    pub goes_so : (c : Collection) → made_as script number m left here.stands.table ≡ Some c
        → (result : Kept) → Keeps result c → (own : List Trap) → HasOwn here.stands.table own c
        → Stands script inputs (number + 1) (inputs_behind m left)
        (kept ++ Some result ∷ []) (traps ++ own)
    goes_so c made_so result keeps own has =
        subst (λ (o : Made). Stands script inputs (number + 1) (inputs_behind o left)
        (kept ++ Some result ∷ []) (traps ++ own)) here.node.made
        (goes script here.well inputs left number kept traps here.stands here.node.entry
        here.node.at here.needed c
        (ap (λ (o : Made). made_as script number o left here.stands.table) here.node.made
        ∙ made_so)
        result keeps own has)

    -- the same where it has no traps of its own
    pub goes_quietly : (c : Collection) → made_as script number m left here.stands.table ≡ Some c
        → (result : Kept) → Keeps result c → HasOwn here.stands.table [] c
        → Stands script inputs (number + 1) (inputs_behind m left)
        (kept ++ Some result ∷ []) traps
    goes_quietly c made_so result keeps has =
        subst (λ (l : List Trap). Stands script inputs (number + 1) (inputs_behind m left)
        (kept ++ Some result ∷ []) l) (append-nil traps)
        (goes_so c made_so result keeps [] has)
