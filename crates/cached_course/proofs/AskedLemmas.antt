-- What is asked for: collections of the script that outputs read.
use Rattle.std.proofs.Common.{◌≡◌, ℕ, suc, ◌+◌, ◌<◌, List, [], ◌∷◌, ◌++◌, length, map, Option, Some, None, refl, ap, subst, sym, arith, zero-add}
use Rattle.std.specs.Prelude.{All}
use Rattle.std.specs.List.{AllByRecursion as Each}
use Rattle.std.proofs.lemmas.List.Elements.{All-from_recursion}
use Rattle.flume_value.proofs.EachLemmas.{Each-map}
use Rattle.outside.specs.declared.file.File.{File}
use Rattle.script_keys.specs.declared.outline.Outline.{Outline}
use Rattle.script_program.specs.declared.made.Output.{Output}
use Rattle.script_program.specs.Script.{Node, Script}
use Rattle.written_types.specs.Named.{Named}
use Rattle.kept_results.specs.Asked.{asked_as, asked_nodes, name_read}
use Rattle.kept_results.specs.Keyed.{key_at, keyed_nodes}
use Rattle.kept_results.proofs.FoundLemmas.{IsRead, asked_read, firsts}
use Rattle.kept_results.proofs.Steps.{asked_from}

-- ---- their numbers

keyed_firsts : (f : List ℕ → List ℕ) (xs : List (ℕ × List ℕ))
    → firsts (map (λ it. (it.0, f it.1)) xs) ≡ firsts xs
keyed_firsts f [] = refl
keyed_firsts f (x ∷ xs) = ap (λ l. x.0 ∷ l) (keyed_firsts f xs)

below_some : (outputs : Named Output) (most n : ℕ) (nodes : Named Node) → n < most
    → Each (λ (it : ℕ × List ℕ). it.0 < most) (asked_from outputs (suc n) nodes)
    → (o : Option (List ℕ))
    → Each (λ (it : ℕ × List ℕ). it.0 < most) (asked_as n o ++ asked_from outputs (suc n) nodes)
below_some outputs most n nodes here rest None = rest
below_some outputs most n nodes here rest (Some name) = (here, rest)

asked_below : (outputs : Named Output) (most n : ℕ) (nodes : Named Node) → n + length nodes ≡ most
    → Each (λ (it : ℕ × List ℕ). it.0 < most) (asked_from outputs n nodes)
asked_below outputs most n [] size = tt
asked_below outputs most n (entry ∷ nodes) size =
    below_some outputs most n nodes (omega (arith, size))
    (asked_below outputs most (suc n) nodes (omega (arith, size))) (name_read outputs n)

module _ (script : Script) (outlines : List Outline) (texts : List (List ℕ))
    (files : List File) where
  -- those with keys are the same as those with names
  pub same_firsts : firsts (keyed_nodes outlines texts files script) ≡ firsts (asked_nodes script)
  same_firsts = keyed_firsts (key_at outlines texts files) (asked_nodes script)

  -- each is one of a collection of the script
  pub keyed_below : All (λ it. it.0 < length script.nodes)
      (keyed_nodes outlines texts files script)
  keyed_below =
      All-from_recursion (λ (it : ℕ × List ℕ). it.0 < length script.nodes)
      (keyed_nodes outlines texts files script)
      (Each-map (λ (it : ℕ × List ℕ). it.0 < length script.nodes)
      (λ (it : ℕ × List ℕ). (it.0, key_at outlines texts files it.1)) (asked_nodes script)
      (asked_below script.outputs (length script.nodes) 0 script.nodes
      (zero-add (length script.nodes))))

  -- and outputs read it
  pub keyed_read : Each (IsRead script.outputs) (firsts (keyed_nodes outlines texts files script))
  keyed_read =
      subst (Each (IsRead script.outputs)) (sym same_firsts)
      (asked_read script.outputs 0 script.nodes)
