-- A script is ready where some of its collections are kept ones too.
use Rattle.std.proofs.Common.{ℕ, suc, Bool, true, false, List, [], ◌∷◌, if◌then◌else◌}
use Rattle.std.specs.List.{AllByRecursion as Each}
use Rattle.std.proofs.lemmas.List.Elements.{All-from_recursion}
use Rattle.flume_value.proofs.EachLemmas.{each_from}
use Rattle.build_law.specs.Limits.{IsShort}
use Rattle.script_program.specs.declared.made.Made.{Made}
use Rattle.script_program.specs.Needed.{holds_number}
use Rattle.script_program.specs.Saved.{saved_as, saved_among, saved_node, with_saved}
use Rattle.script_program.specs.Script.{Node, Script}
use Rattle.written_types.specs.Named.{Named}
use Rattle.script_loading.specs.Ready.{IsNamedMade, IsReady}

module _ (P : Made → Type 0) (kept : (how : Made) → P (saved_as how)) (found : List ℕ) where
  one_saved : (b : Bool) (entry : List ℕ × Node) → P entry.1.made
      → P (if b then (entry.0, saved_node entry.1) else entry).1.made
  one_saved true entry own = kept entry.1.made
  one_saved false entry own = own

  each_saved : (n : ℕ) (nodes : Named Node) → Each (λ entry. P entry.1.made) nodes
      → Each (λ entry. P entry.1.made) (saved_among found n nodes)
  each_saved n [] own = tt
  each_saved n (entry ∷ nodes) own =
      (one_saved (holds_number found n) entry own.0, each_saved (suc n) nodes own.1)

pub saved_ready : (script : Script) (found : List ℕ) → IsReady script
    → IsReady (with_saved found script)
saved_ready script found ready = record {
  reads =
      All-from_recursion (λ (entry : List ℕ × Node). IsNamedMade entry.1.made)
      (saved_among found 0 script.nodes)
      (each_saved IsNamedMade (λ how. tt) found 0 script.nodes
      (each_from (λ (entry : List ℕ × Node). IsNamedMade entry.1.made) script.nodes ready.reads));
  writes = ready.writes;
  short = each_saved IsShort (λ how. tt) found 0 script.nodes ready.short;
}
