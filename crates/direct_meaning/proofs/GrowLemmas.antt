-- As collections are made, node by node, a table only grows.
use Rattle.std.proofs.Common.{◌≡◌, ℕ, suc, ◌<◌, Bool, true, false, List, [], ◌∷◌, ◌++◌, length}
use Rattle.std.proofs.Common.{Option, Some, None, if◌then◌else◌, sym, arith, ap, ◌∙◌, append_assoc}
use Rattle.std.proofs.Common.{append-nil, length-append}
use Rattle.std.specs.Option.{option_and_then, option_flatten}
use Rattle.flume_collection.specs.Collection.{Collection}
use Rattle.flume_value.specs.declared.value.Value.{Value}
use Rattle.script_laws.proofs.MemberLemmas.{at_end, in_first}
use Rattle.script_laws.specs.of_written_types.Named.{Named}
use Rattle.script_program.specs.Needed.{is_needed}
use Rattle.script_program.specs.Script.{Node, Script}
use Rattle.direct_meaning.specs.Direct.{collections, inputs_behind, made_as, made_at}

abbrev pub Table : Type 0
Table = List (Option Collection)

-- a table that begins with another
pub record Begins (table whole : Table) : Type 0 where
  pub rest : Table
  pub is : whole ≡ table ++ rest

pub begun_at : (table whole : Table) → Begins table whole → (n : ℕ) → n < length table
    → made_at whole n ≡ made_at table n
begun_at table whole begins n below =
    ap (λ (t : Table). made_at t n) begins.is
    ∙ ap option_flatten (in_first table begins.rest n below)

pub begun_end : (table whole : Table) (last : Option Collection)
    → Begins (table ++ last ∷ []) whole → made_at whole (length table) ≡ last
begun_end table whole last begins =
    ap (λ (t : Table). made_at t (length table))
    (begins.is ∙ append_assoc table (last ∷ []) begins.rest)
    ∙ ap option_flatten (at_end table last begins.rest)

pub shorter : (table whole : Table) (last : Option Collection)
    → Begins (table ++ last ∷ []) whole → Begins table whole
shorter table whole last begins = record {
  rest = last ∷ begins.rest;
  is = begins.is ∙ append_assoc table (last ∷ []) begins.rest;
}

pub longer : (table : Table) (last : Option Collection)
    → length (table ++ last ∷ []) ≡ suc (length table)
longer table last = omega (arith, length-append table (last ∷ []))

module _ (script : Script) where
  -- going on behind a node, where it is needed or not, and makes that
  abbrev pub next : Bool → Option Collection → List ℕ × Node → Named Node → List (List Value)
      → Table → Option Table
  next needed made entry rest inputs table =
      if needed
      then option_and_then (λ c.
      collections script rest (inputs_behind entry.1.made inputs) (table ++ Some c ∷ [])) made
      else collections script rest inputs (table ++ None ∷ [])

  abbrev Grows : Named Node → Type 0
  Grows nodes = (inputs : List (List Value)) (table whole : Table)
      → collections script nodes inputs table ≡ Some whole → Begins table whole

  next_grows : (entry : List ℕ × Node) (nodes : Named Node) → Grows nodes → (needed : Bool)
      (made : Option Collection) (inputs : List (List Value)) (table whole : Table)
      → next needed made entry nodes inputs table ≡ Some whole → Begins table whole
  next_grows entry nodes grow true None inputs table whole is = cc
  next_grows entry nodes grow true (Some c) inputs table whole is =
      shorter table whole (Some c)
      (grow (inputs_behind entry.1.made inputs) (table ++ Some c ∷ []) whole is)
  next_grows entry nodes grow false made inputs table whole is =
      shorter table whole None (grow inputs (table ++ None ∷ []) whole is)

  pub grows : (nodes : Named Node) → Grows nodes
  grows [] [] table whole is =
      let same : table ≡ whole = cc in
      record { rest = []; is = sym same ∙ sym (append-nil table) }
  grows [] (rows ∷ inputs) table whole is = cc
  grows (entry ∷ nodes) inputs table whole is =
      next_grows entry nodes (grows nodes) (is_needed script (length table))
      (made_as script (length table) entry.1.made inputs table) inputs table whole is
