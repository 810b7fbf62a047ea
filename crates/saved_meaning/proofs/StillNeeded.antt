-- What is needed where some collections are kept ones is needed, and so is what it is made of,
-- unless it is kept.
use Rattle.std.proofs.Common.{◌≡◌, ℕ, ◌+◌, ◌<◌, Bool, true, false, List, [], ◌∷◌, Option, Some, None, if◌then◌else◌, slice_get, IsSomeAnd, refl, sym, ap, ◌∙◌, subst, arith}
use Rattle.std.specs.List.{Contains}
use Rattle.std.specs.Option.{option_map}
use Rattle.script_program.specs.declared.made.Made.{Made}
use Rattle.script_program.specs.Needed.{LeadsToOutput, Reads, holds_number, is_needed, made_of, operands}
use Rattle.script_program.specs.Saved.{saved_as, with_saved}
use Rattle.script_program.specs.Script.{Script}
use Rattle.direct_meaning.specs.of_script_laws.WellFormed.{IsWellFormed}
use Rattle.direct_meaning.proofs.of_script_laws.NeededLemmas.{needed_law}
use Rattle.direct_meaning.proofs.of_script_laws.SavedLemmas.{made-saved, saved-well}

reads-if : (b : Bool) (o : Option Made) (n : ℕ)
    → IsSomeAnd (option_map (λ how. if b then saved_as how else how) o)
    (λ how. Contains (operands how) n)
    → IsSomeAnd o (λ how. Contains (operands how) n)
reads-if b None n reads = absurd reads
reads-if true (Some how) n reads = let within = reads.1 in absurd (omega arith)
reads-if false (Some how) n reads = reads

module _ (script : Script) (well : IsWellFormed script) (found : List ℕ) where
  abbrev later : Script
  later = with_saved found script

  reads-before : (reader n : ℕ) → Reads later reader n → Reads script reader n
  reads-before reader n reads =
      reads-if (holds_number found reader) (slice_get (made_of script) reader) n
      (subst (λ o. IsSomeAnd o (λ (how : Made). Contains (operands how) n))
      (made-saved script found reader) reads)

  leads-before : (n : ℕ) (path : List ℕ) → LeadsToOutput later n path
      → LeadsToOutput script n path
  leads-before n [] leads = leads
  leads-before n (reader ∷ path) leads =
      (reads-before reader n leads.0, leads-before reader path leads.1)

  pub needed-before : (n : ℕ) → is_needed later n ≡ true → is_needed script n ≡ true
  needed-before n needed =
      let path = (needed_law later (saved-well script well found) n).0 needed in
      (needed_law script well n).1 (path.0, leads-before n path.0 path.1)

  -- what a needed collection is made of, which is not kept, is needed
  pub reads-needed : (n : ℕ) (how : Made) → slice_get (made_of script) n ≡ Some how
      → holds_number found n ≡ false → is_needed later n ≡ true → (j : ℕ)
      → Contains (operands how) j
      → is_needed later j ≡ true
  reads-needed n how is other needed j reads =
      let law = needed_law later (saved-well script well found) in
      let path = (law n).0 needed in
      let same : slice_get (made_of later) n ≡ Some how =
      made-saved script found n
      ∙ (λ i. option_map (λ (it : Made). if other i then saved_as it else it) (is i)) in
      (law j).1 (
        n ∷ path.0,
        (
          subst (λ o. IsSomeAnd o (λ (it : Made). Contains (operands it) j)) (sym same) reads,
          path.1,
        ),
      )
