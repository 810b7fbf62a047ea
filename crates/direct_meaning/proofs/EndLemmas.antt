-- How an evaluation begins and ends.
use Rattle.std.proofs.Common.{◌≡◌, ℕ, zero, suc, ◌+◌, ◌<◌, true, false, List, [], ◌∷◌, ◌++◌, length, map, Option, Some, None, slice_get, refl, sym, ap, ◌∙◌, subst, arith, append-nil, length-append}
use Rattle.std.specs.List.{AllByRecursion as Each, AllZip}
use Rattle.std.proofs.lemmas.List.Elements.{All-from_recursion}
use Rattle.flume_value.proofs.EachLemmas.{each_from}
use Rattle.flume_value.specs.declared.value.Value.{Value}
use Rattle.flume_collection.specs.Collection.{Collection}
use Rattle.flume_collection.specs.Traps.{trap_set}
use Rattle.flume_collection.specs.declared.trap.Trap.{Trap}
use Rattle.script_laws.specs.of_written_types.Named.{Named}
use Rattle.script_program.specs.declared.made.Output.{Output}
use Rattle.script_program.specs.Script.{Node, Script}
use Rattle.script_laws.specs.WellFormed.{HasColumns, IsWellFormed}
use Rattle.direct_meaning.proofs.MeaningLemmas.{outputs_needed}
use Rattle.direct_meaning.proofs.PlainLemmas.{plain-order}
use Rattle.direct_meaning.proofs.PlaceLemmas.{mapped, within, zip_length}
use Rattle.direct_meaning.proofs.SizeLemmas.{sizes_same}
use Rattle.direct_meaning.proofs.StandLemmas.{passes, source_at}
use Rattle.direct_meaning.proofs.TableLemmas.{as_many, found}
use Rattle.direct_meaning.specs.Direct.{collections, meaning, traps_of}
use Rattle.direct_meaning.specs.Evaluated.{IsDirect, AreWritten, bag_at, bag_made}
use Rattle.direct_meaning.specs.Inputs.{AreInputs, AreLists, sourced}
use Rattle.direct_meaning.specs.Made.{AreMade}
use Rattle.script_program.specs.Needed.{is_needed}
use Rattle.script_program.specs.Saved.{HasNoSaved}
use Rattle.direct_meaning.specs.declared.kept.Kept.{Kept}
use Rattle.direct_meaning.specs.declared.told.Direct.{Direct}
use Rattle.direct_meaning.specs.inner.Kept.{KeepsAny, bag_kept, sizes_kept}
use Rattle.direct_meaning.specs.inner.Stands.{Stands, sourced_from}

-- ---- before the first node

pub begins : (script : Script) → IsWellFormed script → HasNoSaved script
    → (inputs : List (List Value)) → AreInputs script inputs → Stands script inputs 0 inputs [] []
begins script well unsaved inputs have =
    let plain = plain-order script unsaved inputs in
    record {
      before = [];
      rest = script.nodes;
      split = refl;
      count = refl;
      fit = well.nodes;
      table = [];
      are = record { each = tt; objects = tt; needed = λ number below. absurd (omega arith) };
      ahead = ap (λ l. collections script script.nodes l []) (sym plain);
      rows = subst (AreLists (sourced script)) plain have;
      keeps = tt;
      found = refl;
    }

-- ---- from node to node

pub same_stands : (script : Script) (inputs : List (List Value)) (number : ℕ)
    (left rows : List (List Value)) (kept more : List (Option Kept)) (traps found : List Trap)
    → Stands script inputs number left kept traps → rows ≡ left → more ≡ kept → found ≡ traps
    → Stands script inputs number rows more found
same_stands script inputs number left rows kept more traps found stands a b c =
    subst (λ (l : List (List Value)). Stands script inputs number l more found) (sym a)
    (subst (λ (l : List (Option Kept)). Stands script inputs number left l found) (sym b)
    (subst (λ (l : List Trap). Stands script inputs number left kept l) (sym c) stands))

has_entry : {A : Type 0} (xs : List A) (i : ℕ) → i < length xs → (x : A) × (slice_get xs i ≡ Some x)
has_entry [] i below = absurd (omega arith)
has_entry (x ∷ xs) zero below = (x, refl)
has_entry (x ∷ xs) (suc i) below = has_entry xs i (omega arith)

pub unneeded_passes : (script : Script) → IsWellFormed script → (inputs left : List (List Value))
    (number : ℕ) (kept : List (Option Kept)) (traps : List Trap)
    → Stands script inputs number left kept traps → number < length script.nodes
    → is_needed script number ≡ false
    → Stands script inputs (number + 1) left (kept ++ None ∷ []) traps
unneeded_passes script well inputs left number kept traps stands below unneeded =
    let entry = has_entry script.nodes number below in
    passes script well inputs left number kept traps stands entry.0 entry.1 unneeded

-- ---- behind the last node

-- all nodes have made a table, and what is kept is kept of it
pub record Ended (script : Script) (inputs : List (List Value)) (kept : List (Option Kept))
    (traps : List Trap) : Type 0 where
  pub table : List (Option Collection)
  pub means : meaning script inputs ≡ Some table
  pub are : AreMade script script.nodes table
  pub keeps : AllZip KeepsAny kept table
  pub found : traps_of table ≡ trap_set traps

none_behind : {A : Type 0} (before rest : List A) → length (before ++ rest) ≡ length before
    → rest ≡ []
none_behind before [] same = refl
none_behind before (x ∷ rest) same =
    absurd (omega (arith, length-append before (x ∷ rest)))

no_rows : (script : Script) (number : ℕ) (left : List (List Value)) (rest : Named Node)
    (table : List (Option Collection)) → rest ≡ []
    → AreLists (sourced_from script number rest) left
    → collections script rest left table ≡ Some table
no_rows script number [] [] table end have = refl
no_rows script number (rows ∷ left) [] table end have = absurd have
no_rows script number left (entry ∷ rest) table end have = cc

pub ends : (script : Script) (inputs left : List (List Value)) (number : ℕ)
    (kept : List (Option Kept)) (traps : List Trap) → number ≡ length script.nodes
    → Stands script inputs number left kept traps → Ended script inputs kept traps
ends script inputs left number kept traps last stands =
    let all : length (stands.before ++ stands.rest) ≡ length stands.before
    = ap length stands.split ∙ (sym last ∙ sym stands.count) in
    let end = none_behind stands.before stands.rest all in
    let whole : stands.before ≡ script.nodes
    = sym (append-nil stands.before)
    ∙ (ap (λ (l : Named Node). stands.before ++ l) (sym end) ∙ stands.split) in
    record {
      table = stands.table;
      means = sym stands.ahead
          ∙ no_rows script number left stands.rest stands.table end stands.rows;
      are = subst (λ (nodes : Named Node). AreMade script nodes stands.table) whole stands.are;
      keeps = stands.keeps;
      found = stands.found;
    }

-- ---- what is told

bag_told : (kept : List (Option Kept)) (number : ℕ) (held : Kept)
    → slice_get kept number ≡ Some (Some held)
    → bag_at (map bag_kept kept) number ≡ Some held.members
bag_told [] number held at = cc
bag_told (made ∷ kept) zero held at = let same : made ≡ Some held = cc in ap bag_kept same
bag_told (made ∷ kept) (suc number) held at = bag_told kept number held at

bags_same : (kept : List (Option Kept)) (table : List (Option Collection))
    → AllZip KeepsAny kept table → map bag_kept kept ≡ map bag_made table
bags_same [] [] keeps = refl
bags_same [] (c ∷ table) keeps = absurd keeps
bags_same (held ∷ kept) [] keeps = absurd keeps
bags_same (None ∷ kept) (None ∷ table) keeps = ap (λ l. None ∷ l) (bags_same kept table keeps.1)
bags_same (None ∷ kept) (Some c ∷ table) keeps = absurd keeps.0
bags_same (Some held ∷ kept) (None ∷ table) keeps = absurd keeps.0
bags_same (Some held ∷ kept) (Some c ∷ table) keeps =
    λ i. Some (keeps.0.members i) ∷ bags_same kept table keeps.1 i

module _ (script : Script) (well : IsWellFormed script) (inputs : List (List Value))
    (kept : List (Option Kept)) (traps : List Trap) (ended : Ended script inputs kept traps) where
  -- how many nodes there are, so much is kept
  pub as_many_kept : length kept ≡ length script.nodes
  as_many_kept =
      zip_length KeepsAny kept ended.table ended.keeps
      ∙ as_many script script.nodes ended.table ended.are

  written : (bags : List (Option (List Value))) → bags ≡ map bag_kept kept → (output : Output)
      → HasColumns script.nodes output → is_needed script output.reads ≡ true
      → AreWritten script ended.table bags output
  written bags told output has needed =
      let node = mapped (λ (entry : List ℕ × Node). entry.1.type)
      (slice_get script.nodes output.reads) has.type has.reads in
      let from = found script script.nodes ended.table ended.are output.reads has.type has.reads
      (within script.nodes output.reads node.0 node.1) needed in
      let source = source_at kept ended.table ended.keeps output.reads has.type from in
      record {
        collection = source.from.collection;
        reads = source.from.made;
        bag = ap (λ (l : List (Option (List Value))). bag_at l output.reads) told
            ∙ (bag_told kept output.reads source.held source.at ∙ ap Some source.keeps.members);
        type = has.type;
        has = has.reads;
        typed = source.from.is.typed;
      }

  each_written : (bags : List (Option (List Value))) → bags ≡ map bag_kept kept
      → (outputs : Named Output) → Each (λ entry. HasColumns script.nodes entry.1) outputs
      → Each (λ entry. is_needed script entry.1.reads ≡ true) outputs
      → Each (λ entry. AreWritten script ended.table bags entry.1) outputs
  each_written bags told [] have needed = tt
  each_written bags told (entry ∷ outputs) have needed = (
    written bags told entry.1 have.0 needed.0,
    each_written bags told outputs have.1 needed.1,
  )

  pub is_direct : (it : Direct) → it.bags.items ≡ map bag_kept kept
      → it.sizes.items ≡ sizes_kept script.nodes kept → it.traps.items ≡ trap_set traps
      → IsDirect script inputs it
  is_direct it bags sizes all_traps = record {
    made = ended.table;
    means = ended.means;
    bags = bags ∙ bags_same kept ended.table ended.keeps;
    written = All-from_recursion
        (λ (entry : List ℕ × Output). AreWritten script ended.table it.bags.items entry.1)
        script.outputs
        (each_written it.bags.items bags script.outputs
        (each_from (λ (entry : List ℕ × Output). HasColumns script.nodes entry.1) script.outputs
        well.outputs)
        (outputs_needed script well));
    sizes = sizes ∙ sizes_same script.nodes kept ended.table ended.keeps;
    traps = all_traps ∙ sym ended.found;
  }
