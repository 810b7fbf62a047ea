-- The statements from one on, and those from the next.
use Rattle.std.proofs.Common.{◌≡◌, ℕ, suc, ◌+◌, ◌<◌, ◌||◌, Bool, List, [], ◌∷◌, length, get_or, drop, set, refl, sym, ap, ◌∙◌, arith, drop-cons}
use Rattle.std.proofs.lemmas.List.{drop-set}
use Rattle.script_keys.specs.Rests.{belongs, belongs_by, defines, flags_from, is_defined, names_before, rested_on}
use Rattle.script_keys.specs.declared.outline.Outline.{Outline}
use Rattle.script_keys.specs.declared.rests.Names.{Names}

module _ (name : List ℕ) (outlines : List Outline) (number next : ℕ) (it : Outline)
    (after : suc number ≡ next) (below : number < length outlines)
    (is : it ≡ get_or outlines number it) where
  opened : drop number outlines ≡ it ∷ drop next outlines
  opened = drop-cons outlines number it below
      ∙ ap (λ o. o ∷ drop (suc number) outlines) (sym is)
      ∙ ap (λ n. it ∷ drop n outlines) after

  pub names_next : (names : Names) → names ≡ rested_on name (drop next outlines)
      → names_before names it ≡ rested_on name (drop number outlines)
  names_next names e = ap (λ n. names_before n it) e ∙ sym (ap (rested_on name) opened)

  pub found_next : (found : Bool) → found ≡ is_defined name (drop next outlines)
      → defines it name || found ≡ is_defined name (drop number outlines)
  found_next found e =
      ap (λ b. defines it name || b) e ∙ sym (ap (is_defined name) opened)
