-- Outputs and steps that have all their numbers.
use Rattle.std.proofs.Common.{◌≡◌, ℕ, List, ◌++◌, length, Option, sym, ap, ap₂, ◌∙◌, append_assoc, length-append}
use Rattle.graph_laws.specs.of_exec_graph.Forests.{Branch, Twig, after_out, grown, new_out, numbered}
use Rattle.graph_walks.specs.Outs.{out_list, outs}
use Rattle.graph_walks.specs.inner.Numbering.{branches_outs, numbered_branches, numbered_twig, twig_outs, twigs_outs}
use Rattle.graph_walks.proofs.NumberLemmas.{grown_numbered, out_count, outs_grown, outs_more}
use Rattle.graph_walks.proofs.Relabeling.{twig_of}

-- ---- an output and the steps on it

module _ (out : Option ℕ) (kids : List Branch) (before first : List ℕ)
    (f : first ≡ before ++ out_list out) where
  pub twig_numbered : (number : Option ℕ) (done : List Branch)
      → number ≡ new_out (length before) out
      → done ≡ numbered_branches (length first) kids
      → twig_of number (grown done)
      ≡ numbered_twig (length before) (twig_of out (grown kids))
  twig_numbered number done e d =
      let count : length first ≡ after_out (length before) out =
      ap length f ∙ length-append before (out_list out)
      ∙ sym (out_count (length before) out) in
      ap₂ twig_of e
      (ap grown d ∙ grown_numbered (length first) kids
      ∙ ap (λ (n : ℕ). numbered n (grown kids)) count)

  pub twig_outs_told : (last : List ℕ)
      → last ≡ first ++ branches_outs kids
      → last ≡ before ++ twig_outs (twig_of out (grown kids))
  twig_outs_told last d =
      d
      ∙ ap₂ (λ (a b : List ℕ). a ++ b) f (outs_grown kids)
      ∙ append_assoc before (out_list out) (outs (grown kids))

-- ---- the further outputs of a step, behind its first

pub outs_behind : (before first last : List ℕ) (t : Twig) (ts : List Twig)
    → first ≡ before ++ twig_outs t → last ≡ first ++ twigs_outs ts
    → last ≡ before ++ (twig_outs t ++ twigs_outs ts)
outs_behind before first last t ts f l =
    l ∙ outs_more twig_outs before first t ts f
