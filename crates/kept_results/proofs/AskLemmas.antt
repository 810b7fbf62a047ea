-- The first output that reads a collection, as far as outputs were looked at.
use Rattle.std.proofs.Common.{◌≡◌, ◌≢◌, ℕ, suc, ◌+◌, ◌≤◌, Bool, true, false, eqb, List}
use Rattle.std.proofs.Common.{length, drop, Some, None, slice_get, sym, ap, ◌∙◌}
use Rattle.std.proofs.Common.{arith, if◌then◌else◌}
use Rattle.std.specs.Option.{option_map}
use Rattle.std.proofs.lemmas.Bool.{eq-eqb, ne_eqb}
use Rattle.std.proofs.lemmas.List.{drop_all}
use Rattle.written_types.specs.Named.{Named}
use Rattle.script_program.specs.declared.made.Output.{Output}
use Rattle.saved_meaning.proofs.of_direct_meaning.PlaceLemmas.{mapped}
use Rattle.script_program.proofs.SourceSteps.{head_of}
use Rattle.kept_results.specs.Asked.{name_read}

module _ (outputs : Named Output) (number place : ℕ) (output : Output)
    (at : option_map (λ (entry : List ℕ × Output). entry.1) (slice_get outputs place)
    ≡ Some output) where
  ahead : (b : Bool) → eqb output.reads number ≡ b
      → name_read (drop place outputs) number
      ≡ (if b then Some output.name else name_read (drop (place + 1) outputs) number)
  ahead b is =
      let found =
      mapped (λ (entry : List ℕ × Output). entry.1) (slice_get outputs place) output at in
      let next : suc place ≡ place + 1 = omega arith in
      ap (λ l. name_read l number) (head_of outputs place found.0 found.1)
      ∙ ap (λ (o : Output). if eqb o.reads number then Some o.name
      else name_read (drop (suc place) outputs) number) found.2
      ∙ (λ i. if is i then Some output.name else name_read (drop (next i) outputs) number)

  pub read_here : output.reads ≡ number
      → name_read (drop place outputs) number ≡ name_read outputs number
      → Some output.name ≡ name_read outputs number
  read_here same so_far = sym (ahead true (eq-eqb output.reads number same)) ∙ so_far

  pub read_later : output.reads ≢ number
      → name_read (drop place outputs) number ≡ name_read outputs number
      → name_read (drop (place + 1) outputs) number ≡ name_read outputs number
  read_later other so_far = sym (ahead false (ne_eqb output.reads number other)) ∙ so_far

pub none_reads : (outputs : Named Output) (number place : ℕ) → length outputs ≤ place
    → name_read (drop place outputs) number ≡ name_read outputs number
    → None ≡ name_read outputs number
none_reads outputs number place end so_far =
    sym (ap (λ l. name_read l number) (drop_all place outputs end)) ∙ so_far
