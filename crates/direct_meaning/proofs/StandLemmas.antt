-- How an evaluation stands before a node, and behind it.
use Rattle.std.proofs.Common.{◌≡◌, ℕ, suc, ◌+◌, true, false, List, [], ◌∷◌, ◌++◌, length, Option, Some, None, slice_get, sym, ap, ◌∙◌, subst, arith, append_assoc, append-nil, length-append, add-one}
use Rattle.std.specs.List.{AllZip, Contains, flat_map}
use Rattle.std.specs.List.Sorted.{IsSorted}
use Rattle.std.specs.Option.{option_flatten, option_map}
use Rattle.std.proofs.lemmas.List.Concat.{flat_map-append}
use Rattle.flume_value.specs.Order.{value_cmp}
use Rattle.flume_value.specs.declared.value.Value.{Value}
use Rattle.flume_types.specs.Typing.{AllHave}
use Rattle.flume_types.specs.declared.types.Ty.{Ty}
use Rattle.flume_collection.specs.Collection.{Collection}
use Rattle.flume_collection.specs.Traps.{trap_set}
use Rattle.flume_collection.specs.declared.trap.Trap.{Trap}
use Rattle.script_laws.specs.of_written_types.Named.{Named}
use Rattle.script_program.specs.declared.made.Made.{Made}
use Rattle.script_program.specs.Program.{node_in}
use Rattle.script_program.specs.Script.{Node, Script}
use Rattle.script_program.specs.declared.made.Node.{Node as HeldNode}
use Rattle.script_laws.specs.WellFormed.{AllFit, Fits, IsWellFormed, members_at}
use Rattle.direct_meaning.proofs.KindLemmas.{objects_read}
use Rattle.direct_meaning.proofs.MakeLemmas.{Makes, makes, read, rows_behind}
use Rattle.direct_meaning.proofs.MeaningLemmas.{next_needed, next_unneeded, reads_needed, wanted_needed, wanted_unneeded}
use Rattle.direct_meaning.proofs.PlaceLemmas.{mapped, zip_back, zip_more}
use Rattle.direct_meaning.proofs.TableLemmas.{IsMadeAt, as_many, more_made}
use Rattle.direct_meaning.proofs.TrapLemmas.{same_front}
use Rattle.direct_meaning.specs.Direct.{collections, inputs_behind, made_as, meaning, traps_behind, traps_of}
use Rattle.direct_meaning.specs.Inputs.{AreLists, sourced_by}
use Rattle.direct_meaning.specs.Made.{IsCollectionOf, IsObjectFor}
use Rattle.script_program.specs.Needed.{is_needed, operands}
use Rattle.direct_meaning.specs.declared.kept.Kept.{Kept}
use Rattle.direct_meaning.specs.inner.Kept.{Keeps, KeepsAny}
use Rattle.direct_meaning.specs.inner.Stands.{Stands, sourced_from}

-- ---- the node of a number

-- the node of that number is made so
pub record IsNodeAt (script : Script) (number : ℕ) (m : Made) : Type 0 where
  pub entry : List ℕ × Node
  pub at : slice_get script.nodes number ≡ Some entry
  pub made : entry.1.made ≡ m

pub at_node : (script : Script) (number : ℕ) (types : List Ty) (held : HeldNode) (m : Made)
    → option_map (λ (entry : List ℕ × Node). entry.1) (slice_get script.nodes number)
    ≡ Some (node_in types held)
    → held.made ≡ m → IsNodeAt script number m
at_node script number types held m is made =
    let node = mapped (λ (entry : List ℕ × Node). entry.1) (slice_get script.nodes number)
    (node_in types held) is in
    record {
      entry = node.0;
      at = node.1;
      made = ap (λ (n : Node). n.made) node.2 ∙ made;
    }

pub record Behind (rest : Named Node) (entry : List ℕ × Node) : Type 0 where
  pub others : Named Node
  pub is : rest ≡ entry ∷ others

first_of : (before rest : Named Node) (entry : List ℕ × Node)
    → slice_get (before ++ rest) (length before) ≡ Some entry → Behind rest entry
first_of [] [] entry is = cc
first_of [] (first ∷ rest) entry is =
    let same : first ≡ entry = cc in
    record { others = rest; is = ap (λ (e : List ℕ × Node). e ∷ rest) same }
first_of (other ∷ before) rest entry is = first_of before rest entry is

-- ---- what is kept of what a node reads

pub record Source (kept : List (Option Kept)) (table : List (Option Collection)) (number : ℕ)
    (type : Ty) : Type 0 where
  pub held : Kept
  pub at : slice_get kept number ≡ Some (Some held)
  pub from : IsMadeAt table number type
  pub keeps : Keeps held from.collection

pub some_made : (o : Option (Option Collection)) (c : Collection) → option_flatten o ≡ Some c
    → o ≡ Some (Some c)
some_made None c is = cc
some_made (Some made) c is = ap Some is

kept_of : (kept : List (Option Kept)) (table : List (Option Collection)) (number : ℕ) (type : Ty)
    (from : IsMadeAt table number type) (o : Option Kept) → slice_get kept number ≡ Some o
    → KeepsAny o (Some from.collection) → Source kept table number type
kept_of kept table number type from None at keeps = absurd keeps
kept_of kept table number type from (Some held) at keeps = record {
  held = held;
  at = at;
  from = from;
  keeps = keeps;
}

pub source_at : (kept : List (Option Kept)) (table : List (Option Collection))
    → AllZip KeepsAny kept table → (number : ℕ) (type : Ty) → IsMadeAt table number type
    → Source kept table number type
source_at kept table zipped number type from =
    let place = some_made (slice_get table number) from.collection from.made in
    let at = zip_back KeepsAny kept table zipped number (Some from.collection) place in
    kept_of kept table number type from at.0 at.1 at.2

-- what is kept of the collection of a number
module _ (kept : List (Option Kept)) (table : List (Option Collection)) (number : ℕ) (type : Ty)
    (source : Source kept table number type) (held : Kept)
    (at : slice_get kept number ≡ Some (Some held)) where
  same_held : source.held ≡ held
  same_held = let both : Some (Some source.held) ≡ Some (Some held) = sym source.at ∙ at in cc

  pub keeps : Keeps held source.from.collection
  keeps = subst (λ (k : Kept). Keeps k source.from.collection) same_held source.keeps

  pub held_typed : AllHave type held.members
  held_typed =
      subst (λ (bag : List Value). AllHave type bag) (sym keeps.members) source.from.is.typed

  pub held_ascending : IsSorted value_cmp held.members
  held_ascending =
      subst (λ (bag : List Value). IsSorted value_cmp bag) (sym keeps.members)
      source.from.is.ascending

-- ---- from one node to the next

abbrev pub all_traps : List (Option Collection) → List Trap
all_traps table = flat_map traps_behind table

none_more : (table : List (Option Collection)) → traps_of (table ++ None ∷ []) ≡ traps_of table
none_more table =
    ap trap_set (flat_map-append traps_behind table (None ∷ []) ∙ append-nil (all_traps table))

one_more : (table : List (Option Collection)) (c : Collection)
    → traps_of (table ++ Some c ∷ []) ≡ trap_set (all_traps table ++ c.traps)
one_more table c =
    ap trap_set
    (flat_map-append traps_behind table (Some c ∷ [])
    ∙ ap (λ (l : List Trap). all_traps table ++ l) (append-nil c.traps))

-- the traps of a collection are those that are known, and its own
abbrev pub HasOwn : List (Option Collection) → List Trap → Collection → Type 0
HasOwn table own c = trap_set (all_traps table ++ c.traps) ≡ trap_set (all_traps table ++ own)

module _ (script : Script) (well : IsWellFormed script) (inputs left : List (List Value))
    (number : ℕ) (kept : List (Option Kept)) (traps : List Trap)
    (stands : Stands script inputs number left kept traps) (entry : List ℕ × Node)
    (at : slice_get script.nodes number ≡ Some entry) where
  -- the nodes behind it
  pub behind : Behind stands.rest entry
  behind =
      first_of stands.before stands.rest entry
      (ap (λ (nodes : Named Node). slice_get nodes (length stands.before)) stands.split
      ∙ (ap (slice_get script.nodes) stands.count ∙ at))

  fit : AllFit script.functions stands.before (entry ∷ behind.others)
  fit = subst (AllFit script.functions stands.before) behind.is stands.fit

  split : stands.before ++ entry ∷ behind.others ≡ script.nodes
  split = ap (λ (l : Named Node). stands.before ++ l) (sym behind.is) ∙ stands.split

  rows : AreLists (sourced_from script number (entry ∷ behind.others)) left
  rows = subst (λ (l : Named Node). AreLists (sourced_from script number l) left) behind.is
      stands.rows

  ahead : collections script (entry ∷ behind.others) left stands.table ≡ meaning script inputs
  ahead = ap (λ (l : Named Node). collections script l left stands.table) (sym behind.is)
      ∙ stands.ahead

  tabled : length stands.table ≡ number
  tabled = as_many script stands.before stands.table stands.are ∙ stands.count

  counted : length (stands.before ++ entry ∷ []) ≡ number + 1
  counted = omega (arith, length-append stands.before (entry ∷ []), stands.count)

  all_split : (stands.before ++ entry ∷ []) ++ behind.others ≡ script.nodes
  all_split = append_assoc stands.before (entry ∷ []) behind.others ∙ split

  wanted_next : (more : List (List Value))
      → AreLists (sourced_from script (suc number) behind.others) more
      → AreLists (sourced_from script (number + 1) behind.others) more
  wanted_next more have =
      subst (λ (n : ℕ). AreLists (sourced_from script n behind.others) more)
      (sym (add-one number)) have

  -- behind a node that is not needed
  pub passes : is_needed script number ≡ false
      → Stands script inputs (number + 1) left (kept ++ None ∷ []) traps
  passes unneeded = record {
    before = stands.before ++ entry ∷ [];
    rest = behind.others;
    split = all_split;
    count = counted;
    fit = fit.1;
    table = stands.table ++ None ∷ [];
    are = more_made script stands.before stands.table stands.are entry None tt tt
        (sym (ap (is_needed script) stands.count ∙ unneeded));
    ahead = sym (next_unneeded script entry behind.others left stands.table
        (ap (is_needed script) tabled ∙ unneeded)) ∙ ahead;
    rows = wanted_next left (wanted_unneeded script number entry behind.others left unneeded rows);
    keeps = zip_more KeepsAny kept stands.table None None stands.keeps tt;
    found = none_more stands.table ∙ stands.found;
  }

  module _ (needed : is_needed script number ≡ true) where
    reads : (n : ℕ) → Contains (operands entry.1.made) n → is_needed script n ≡ true
    reads = reads_needed script well stands.before behind.others entry split
        (ap (is_needed script) stands.count ∙ needed)

    pub own_rows : AreLists (sourced_by entry.1.made entry.1.type
        ++ sourced_from script (suc number) behind.others) left
    own_rows = wanted_needed script number entry behind.others left needed rows

    made : Makes script number entry.1.made left stands.table entry.1.type
    made = makes script stands.before stands.table stands.are well.functions number entry.1.made
        entry.1.type left
        (sourced_from script (suc number) behind.others) fit.0 own_rows reads
        (objects_read script well stands.before behind.others entry split fit.0)

    same_made : (c : Collection) → made_as script number entry.1.made left stands.table ≡ Some c
        → made.collection ≡ c
    same_made c is =
        let both : Some made.collection ≡ Some c = sym made.made ∙ is in
        cc

    is_of : (c : Collection) → made_as script number entry.1.made left stands.table ≡ Some c
        → IsCollectionOf entry.1.type c
    is_of c is = subst (IsCollectionOf entry.1.type) (same_made c is) made.is

    object_of : (c : Collection) → made_as script number entry.1.made left stands.table ≡ Some c
        → IsObjectFor entry (Some c)
    object_of c is =
        subst (λ (d : Collection). IsObjectFor entry (Some d)) (same_made c is) made.object

    -- behind a node that is needed, where what it makes is kept
    pub goes : (c : Collection) → made_as script number entry.1.made left stands.table ≡ Some c
        → (held : Kept) → Keeps held c → (own : List Trap) → HasOwn stands.table own c
        → Stands script inputs (number + 1) (inputs_behind entry.1.made left)
        (kept ++ Some held ∷ []) (traps ++ own)
    goes c is held keeps own has = record {
      before = stands.before ++ entry ∷ [];
      rest = behind.others;
      split = all_split;
      count = counted;
      fit = fit.1;
      table = stands.table ++ Some c ∷ [];
      are = more_made script stands.before stands.table stands.are entry (Some c) (is_of c is)
          (object_of c is) (sym (ap (is_needed script) stands.count ∙ needed));
      ahead = sym (next_needed script entry behind.others left stands.table c
          (ap (is_needed script) tabled ∙ needed)
          (ap (λ (n : ℕ). made_as script n entry.1.made left stands.table) tabled ∙ is)) ∙ ahead;
      rows = wanted_next (inputs_behind entry.1.made left)
          (rows_behind entry.1.made entry.1.type left
          (sourced_from script (suc number) behind.others) own_rows);
      keeps = zip_more KeepsAny kept stands.table (Some held) (Some c) stands.keeps keeps;
      found = one_more stands.table c
          ∙ (has ∙ same_front (all_traps stands.table) traps own stands.found);
    }

    -- what is kept of a collection that the node reads
    pub source_of : (n : ℕ) → Contains (operands entry.1.made) n → (type : Ty)
        → members_at stands.before n ≡ Some type → Source kept stands.table n type
    source_of n is type members =
        source_at kept stands.table stands.keeps n type
        (read script stands.before stands.table stands.are (operands entry.1.made) reads n is type
        members)

    -- how the node is made fits the collections before it
    pub fits : Fits script.functions stands.before entry.1.made entry.1.type
    fits = fit.0
