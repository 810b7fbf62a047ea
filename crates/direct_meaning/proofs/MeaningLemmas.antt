-- A well-formed script over rows of its inputs has a meaning.
use Rattle.std.proofs.Common.{◌≡◌, ℕ, zero, suc, Bool, true, false, cond, List, [], ◌∷◌, ◌++◌, length, Option, Some, None, if◌then◌else◌, map, slice_get, refl, sym, ap, ◌∙◌, subst, arith, append_assoc, append-nil, length-append}
use Rattle.std.specs.Prelude.{IsSomeAnd}
use Rattle.std.specs.List.{AllByRecursion as Each, Contains, filter, flat_map}
use Rattle.std.specs.Option.{option_and_then}
use Rattle.flume_collection.proofs.Members.{at_head, at_tail}
use Rattle.flume_collection.specs.Collection.{Collection}
use Rattle.flume_value.specs.declared.value.Value.{Value}
use Rattle.script_laws.specs.of_written_types.Named.{Named}
use Rattle.script_program.specs.declared.made.Made.{Made}
use Rattle.script_program.specs.declared.made.Output.{Output}
use Rattle.script_program.specs.Script.{Node, Script}
use Rattle.script_laws.proofs.NeededLemmas.{needed_law}
use Rattle.script_laws.specs.WellFormed.{AllFit, IsWellFormed}
use Rattle.direct_meaning.proofs.KindLemmas.{objects_read}
use Rattle.direct_meaning.proofs.MakeLemmas.{makes, rows_behind}
use Rattle.direct_meaning.proofs.PlaceLemmas.{at_end}
use Rattle.direct_meaning.proofs.TableLemmas.{as_many, more_made}
use Rattle.direct_meaning.specs.Direct.{collections, inputs_behind, made_as}
use Rattle.direct_meaning.specs.Inputs.{AreInputs, AreLists, Sourced, sourced_by}
use Rattle.direct_meaning.specs.Made.{AreMade}
use Rattle.script_program.specs.Sources.{in_order}
use Rattle.script_program.specs.Needed.{is_needed, collections_numbered, operands, outputs_read}
use Rattle.direct_meaning.specs.inner.Stands.{sourced_from}

-- what the nodes from a number on want, where the first is needed or not
abbrev wanted_if : Bool → Script → ℕ → List ℕ × Node → Named Node → List Sourced
wanted_if needed script number entry rest =
    flat_map (λ it. sourced_by it.1.1.made it.1.1.type)
    (cond needed
    ((number, entry) ∷ filter (λ it. is_needed script it.0)
    (collections_numbered (suc number) rest))
    (filter (λ it. is_needed script it.0) (collections_numbered (suc number) rest)))

pub wanted_needed : (script : Script) (number : ℕ) (entry : List ℕ × Node) (rest : Named Node)
    (inputs : List (List Value)) → is_needed script number ≡ true
    → AreLists (sourced_from script number (entry ∷ rest)) inputs
    → AreLists (sourced_by entry.1.made entry.1.type ++ sourced_from script (suc number) rest)
    inputs
wanted_needed script number entry rest inputs needed have =
    subst (λ (b : Bool). AreLists (wanted_if b script number entry rest) inputs) needed have

pub wanted_unneeded : (script : Script) (number : ℕ) (entry : List ℕ × Node) (rest : Named Node)
    (inputs : List (List Value)) → is_needed script number ≡ false
    → AreLists (sourced_from script number (entry ∷ rest)) inputs
    → AreLists (sourced_from script (suc number) rest) inputs
wanted_unneeded script number entry rest inputs unneeded have =
    subst (λ (b : Bool). AreLists (wanted_if b script number entry rest) inputs) unneeded have

-- going on behind a node, where it is needed or not
abbrev next : Bool → Script → List ℕ × Node → Named Node → List (List Value)
    → List (Option Collection) → Option (List (Option Collection))
next needed script entry rest inputs table =
    if needed
    then option_and_then (λ c.
    collections script rest (inputs_behind entry.1.made inputs) (table ++ Some c ∷ []))
    (made_as script (length table) entry.1.made inputs table)
    else collections script rest inputs (table ++ None ∷ [])

pub next_needed : (script : Script) (entry : List ℕ × Node) (rest : Named Node)
    (inputs : List (List Value)) (table : List (Option Collection)) (c : Collection)
    → is_needed script (length table) ≡ true
    → made_as script (length table) entry.1.made inputs table ≡ Some c
    → collections script (entry ∷ rest) inputs table
    ≡ collections script rest (inputs_behind entry.1.made inputs) (table ++ Some c ∷ [])
next_needed script entry rest inputs table c needed made =
    ap (λ (b : Bool). next b script entry rest inputs table) needed
    ∙ ap (option_and_then (λ (d : Collection).
    collections script rest (inputs_behind entry.1.made inputs) (table ++ Some d ∷ []))) made

pub next_unneeded : (script : Script) (entry : List ℕ × Node) (rest : Named Node)
    (inputs : List (List Value)) (table : List (Option Collection))
    → is_needed script (length table) ≡ false
    → collections script (entry ∷ rest) inputs table
    ≡ collections script rest inputs (table ++ None ∷ [])
next_unneeded script entry rest inputs table unneeded =
    ap (λ (b : Bool). next b script entry rest inputs table) unneeded

-- ---- what is needed

mapped_at : {A B : Type 0} (f : A → B) (xs : List A) (i : ℕ) (x : A) → slice_get xs i ≡ Some x
    → slice_get (map f xs) i ≡ Some (f x)
mapped_at f [] i x is = cc
mapped_at f (y ∷ xs) zero x is = let same : y ≡ x = cc in ap (λ z. Some (f z)) same
mapped_at f (y ∷ xs) (suc i) x is = mapped_at f xs i x is

-- what is read by the node of a number that is needed is needed
pub reads_needed : (script : Script) → IsWellFormed script → (before rest : Named Node)
    (entry : List ℕ × Node) → before ++ entry ∷ rest ≡ script.nodes
    → is_needed script (length before) ≡ true → (n : ℕ) → Contains (operands entry.1.made) n
    → is_needed script n ≡ true
reads_needed script well before rest entry split needed n reads =
    let number = length before in
    let at = ap (λ (nodes : Named Node). slice_get nodes number) (sym split)
    ∙ at_end before entry rest in
    let how = mapped_at (λ (e : List ℕ × Node). e.1.made) script.nodes number entry at in
    let path = (needed_law script well number).0 needed in
    let read = subst (λ (o : Option Made). IsSomeAnd o (λ (m : Made). Contains (operands m) n))
    (sym how) reads in
    (needed_law script well n).1 (number ∷ path.0, (read, path.1))

-- what outputs read is needed
each_read : (script : Script) → IsWellFormed script → (outputs : Named Output)
    → ((n : ℕ) → Contains (map (λ entry. entry.1.reads) outputs) n
    → Contains (outputs_read script) n)
    → Each (λ entry. is_needed script entry.1.reads ≡ true) outputs
each_read script well [] among = tt
each_read script well (entry ∷ outputs) among =
    let others = map (λ (e : List ℕ × Output). e.1.reads) outputs in (
      (needed_law script well entry.1.reads).1
          ([], among entry.1.reads (at_head entry.1.reads others)),
      each_read script well outputs (λ n is. among n (at_tail entry.1.reads others n is)),
    )

pub outputs_needed : (script : Script) → IsWellFormed script
    → Each (λ entry. is_needed script entry.1.reads ≡ true) script.outputs
outputs_needed script well = each_read script well script.outputs (λ n is. is)

one_longer : (before : Named Node) (entry : List ℕ × Node)
    → length (before ++ entry ∷ []) ≡ suc (length before)
one_longer before entry = omega (arith, length-append before (entry ∷ []))

pub record Meant (script : Script) (nodes rest : Named Node) (inputs : List (List Value))
    (table : List (Option Collection)) : Type 0 where
  pub made : List (Option Collection)
  pub means : collections script rest inputs table ≡ Some made
  pub are : AreMade script nodes made

module _ (script : Script) (well : IsWellFormed script) where
  abbrev Goes : Named Node → Type 0
  Goes rest = (before : Named Node) → before ++ rest ≡ script.nodes
      → AllFit script.functions before rest → (inputs : List (List Value))
      → (table : List (Option Collection)) → AreMade script before table
      → AreLists (sourced_from script (length before) rest) inputs
      → Meant script script.nodes rest inputs table

  -- where the first node is needed or not
  abbrev GoesWhere : Bool → List ℕ × Node → Named Node → Type 0
  GoesWhere needed entry rest = (before : Named Node)
      → before ++ entry ∷ rest ≡ script.nodes → AllFit script.functions before (entry ∷ rest)
      → (inputs : List (List Value)) (table : List (Option Collection))
      → AreMade script before table
      → AreLists (sourced_from script (length before) (entry ∷ rest)) inputs
      → is_needed script (length before) ≡ needed
      → Meant script script.nodes (entry ∷ rest) inputs table

  needed_goes : (entry : List ℕ × Node) (rest : Named Node) → Goes rest
      → GoesWhere true entry rest
  needed_goes entry rest goes before split fit inputs table are have needed =
      let m = entry.1.made in
      let wanted = sourced_from script (suc (length before)) rest in
      let rows = wanted_needed script (length before) entry rest inputs needed have in
      let same = as_many script before table are in
      let it = makes script before table are well.functions (length table) m entry.1.type inputs
      wanted fit.0 rows
      (reads_needed script well before rest entry split needed)
      (objects_read script well before rest entry split fit.0) in
      let behind = rows_behind m entry.1.type inputs wanted rows in
      let longer = one_longer before entry in
      let on = goes (before ++ entry ∷ [])
      (append_assoc before (entry ∷ []) rest ∙ split) fit.1 (inputs_behind m inputs)
      (table ++ Some it.collection ∷ [])
      (more_made script before table are entry (Some it.collection) it.is it.object (sym needed))
      (subst (λ (n : ℕ). AreLists (sourced_from script n rest) (inputs_behind m inputs))
      (sym longer) behind) in
      record {
        made = on.made;
        means = next_needed script entry rest inputs table it.collection
            (ap (is_needed script) same ∙ needed) it.made ∙ on.means;
        are = on.are;
      }

  unneeded_goes : (entry : List ℕ × Node) (rest : Named Node) → Goes rest
      → GoesWhere false entry rest
  unneeded_goes entry rest goes before split fit inputs table are have unneeded =
      let rows = wanted_unneeded script (length before) entry rest inputs unneeded have in
      let same = as_many script before table are in
      let longer = one_longer before entry in
      let on = goes (before ++ entry ∷ [])
      (append_assoc before (entry ∷ []) rest ∙ split) fit.1 inputs (table ++ None ∷ [])
      (more_made script before table are entry None tt tt (sym unneeded))
      (subst (λ (n : ℕ). AreLists (sourced_from script n rest) inputs) (sym longer) rows) in
      record {
        made = on.made;
        means = next_unneeded script entry rest inputs table
            (ap (is_needed script) same ∙ unneeded) ∙ on.means;
        are = on.are;
      }

  goes_on : (rest : Named Node) → Goes rest
  goes_on [] before split fit [] table are have = record {
    made = table;
    means = refl;
    are = subst (λ (nodes : Named Node). AreMade script nodes table)
        (sym (append-nil before) ∙ split) are;
  }
  goes_on [] before split fit (rows ∷ inputs) table are have = absurd have
  goes_on (entry ∷ rest) before split fit inputs table are have =
      elim (is_needed script (length before)) as (λ b. is_needed script (length before) ≡ b
      → Meant script script.nodes (entry ∷ rest) inputs table) [
        | true ↦ needed_goes entry rest (goes_on rest) before split fit inputs table are have
        | false ↦ unneeded_goes entry rest (goes_on rest) before split fit inputs table are have
      ] refl

  pub has_meaning : (inputs : List (List Value)) → AreInputs script inputs
      → Meant script script.nodes script.nodes (in_order script inputs) []
  has_meaning inputs have =
      goes_on script.nodes [] refl well.nodes (in_order script inputs) []
      (record { each = tt; objects = tt; needed = λ number below. absurd (omega arith) }) have
