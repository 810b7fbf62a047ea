-- What a script needs is needed where some collections are kept ones, or one of these rests on it.
use Rattle.std.proofs.Common.{◌≡◌, ◌⊎◌, inl, inr, ℕ, Bool, true, false, List, [], ◌∷◌, map, Option, Some, None, slice_get, refl, subst, ⊎_elim}
use Rattle.std.specs.Prelude.{IsSomeAnd}
use Rattle.std.specs.List.{AllByRecursion as Each, Contains}
use Rattle.flume_collection.proofs.Members.{at_head, at_tail, head_or_tail, not_in_none}
use Rattle.kept_results.proofs.FoundLemmas.{IsRead}
use Rattle.kept_results.proofs.of_saved_meaning.StillNeeded.{reads-needed}
use Rattle.kept_results.proofs.of_saved_meaning.Tables.{holds-at}
use Rattle.kept_results.proofs.of_script_laws.NeededLemmas.{needed_law}
use Rattle.kept_results.proofs.of_script_laws.SavedLemmas.{saved-well}
use Rattle.kept_results.specs.of_script_laws.WellFormed.{IsWellFormed}
use Rattle.key_meaning.proofs.Sources.{alone, alone_well}
use Rattle.script_program.specs.declared.made.Made.{Made}
use Rattle.script_program.specs.declared.made.Output.{Output}
use Rattle.script_program.specs.Needed.{IsNeeded, LeadsToOutput, Reads, holds_number, is_needed, made_of, operands, outputs_read}
use Rattle.script_program.specs.Rested.{rests}
use Rattle.script_program.specs.Saved.{with_saved}
use Rattle.script_program.specs.Script.{Script}
use Rattle.written_types.specs.Named.{Named}

-- ---- an output that reads a collection

-- one of these outputs reads it
pub record IsReadBy (outputs : Named Output) (number : ℕ) : Type 0 where
  pub output : List ℕ × Output
  pub among : Contains outputs output
  pub reads : output.1.reads ≡ number

read_behind : (entry : List ℕ × Output) (outputs : Named Output) (number : ℕ)
    → IsReadBy outputs number → IsReadBy (entry ∷ outputs) number
read_behind entry outputs number it = record {
  output = it.output;
  among = at_tail entry outputs it.output it.among;
  reads = it.reads;
}

pub read_by : (outputs : Named Output) (number : ℕ) → IsRead outputs number
    → IsReadBy outputs number
read_by [] number read = absurd (not_in_none number read)
read_by (entry ∷ outputs) number read =
    ⊎_elim
    (λ (same : entry.1.reads ≡ number).
    record { output = entry; among = at_head entry outputs; reads = same })
    (λ (behind : IsRead outputs number).
    read_behind entry outputs number (read_by outputs number behind))
    (head_or_tail entry.1.reads (map (λ (it : List ℕ × Output). it.1.reads) outputs) number read)

-- ---- what an output rests on

module _ (script : Script) (well : IsWellFormed script) (output : List ℕ × Output)
    (among : Contains script.outputs output) where
  -- a path leads to the output from what its collection rests on, and back
  path_of : (n : ℕ) → rests script output.1.reads n ≡ true → IsNeeded (alone script output) n
  path_of n is = (needed_law (alone script output) (alone_well script output among well) n).0 is

  of_path : (n : ℕ) → IsNeeded (alone script output) n → rests script output.1.reads n ≡ true
  of_path n is = (needed_law (alone script output) (alone_well script output among well) n).1 is

  rests_self : rests script output.1.reads output.1.reads ≡ true
  rests_self = of_path output.1.reads ([], at_head output.1.reads [])

  rests_more : (reader n : ℕ) → rests script output.1.reads reader ≡ true
      → Reads script reader n → rests script output.1.reads n ≡ true
  rests_more reader n is reads =
      let path = path_of reader is in of_path n (reader ∷ path.0, (reads, path.1))

  -- and the script needs that
  leads_on : (read : Contains (outputs_read script) output.1.reads) (path : List ℕ) (n : ℕ)
      → LeadsToOutput (alone script output) n path → LeadsToOutput script n path
  leads_on read [] n leads =
      ⊎_elim (λ (same : output.1.reads ≡ n). subst (Contains (outputs_read script)) same read)
      (λ (behind : Contains [] n). absurd (not_in_none n behind))
      (head_or_tail output.1.reads [] n leads)
  leads_on read (reader ∷ path) n leads = (leads.0, leads_on read path reader leads.1)

  pub rests_needed : Contains (outputs_read script) output.1.reads → (n : ℕ)
      → rests script output.1.reads n ≡ true → is_needed script n ≡ true
  rests_needed read n is =
      let path = path_of n is in
      (needed_law script well n).1 (path.0, leads_on read path.0 n path.1)

-- ---- where some collections are kept ones

module _ (script : Script) (well : IsWellFormed script) (found : List ℕ)
    (read : Each (IsRead script.outputs) found) where
  abbrev later : Script
  later = with_saved found script

  -- it is needed there, or one that is kept rests on it
  abbrev pub IsCovered : ℕ → Type 0
  IsCovered n =
      (is_needed later n ≡ true)
      ⊎ ((m : ℕ) × (holds_number found m ≡ true) × (rests script m n ≡ true))

  reader_of : (m : ℕ) → holds_number found m ≡ true → IsReadBy script.outputs m
  reader_of m is =
      read_by script.outputs m (holds-at (IsRead script.outputs) found read m is)

  self_rests : (m : ℕ) → holds_number found m ≡ true → rests script m m ≡ true
  self_rests m is =
      let by = reader_of m is in
      subst (λ k. rests script k k ≡ true) by.reads (rests_self script well by.output by.among)

  more_rests : (m reader n : ℕ) → holds_number found m ≡ true → rests script m reader ≡ true
      → Reads script reader n → rests script m n ≡ true
  more_rests m reader n is own reads =
      let by = reader_of m is in
      subst (λ k. rests script k reader ≡ true → rests script k n ≡ true) by.reads
      (λ rest. rests_more script well by.output by.among reader n rest reads) own

  operand_needed : (reader n : ℕ) → holds_number found reader ≡ false
      → is_needed later reader ≡ true
      → (o : Option Made) → slice_get (made_of script) reader ≡ o
      → IsSomeAnd o (λ how. Contains (operands how) n) → is_needed later n ≡ true
  operand_needed reader n other needed None is reads = absurd reads
  operand_needed reader n other needed (Some how) is reads =
      reads-needed script well found reader how is other needed n reads

  next_covered : (reader n : ℕ) → Reads script reader n → IsCovered reader → (b : Bool)
      → holds_number found reader ≡ b → IsCovered n
  next_covered reader n reads (inr by) b is =
      inr (by.0, by.1, more_rests by.0 reader n by.1 by.2 reads)
  next_covered reader n reads (inl needed) true is =
      inr (reader, is, more_rests reader reader n is (self_rests reader is) reads)
  next_covered reader n reads (inl needed) false is =
      inl
      (operand_needed reader n is needed (slice_get (made_of script) reader) refl reads)

  path_covered : (path : List ℕ) (n : ℕ) → LeadsToOutput script n path → IsCovered n
  path_covered [] n leads =
      inl ((needed_law later (saved-well script well found) n).1 ([], leads))
  path_covered (reader ∷ path) n leads =
      next_covered reader n leads.0 (path_covered path reader leads.1) (holds_number found reader)
      refl

  pub covered : (n : ℕ) → is_needed script n ≡ true → IsCovered n
  covered n needed =
      let path = (needed_law script well n).0 needed in path_covered path.0 n path.1
