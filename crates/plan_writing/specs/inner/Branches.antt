-- A forest printed step by step.
use Rattle.std.specs.Prelude.{ℕ, ◌==◌, List, [], ◌∷◌, ◌++◌, codes, decimal, Option, Some, None, if◌then◌else◌}
use Rattle.std.proofs.Common.{suc}
use Rattle.exec_graph.specs.Forests.{Branch, Twig}
use Rattle.plan_writing.specs.Naming.{Naming}
use Rattle.plan_writing.specs.Forests.{is_used, kids_text, number_text, steps_text}

-- which of several outputs it is, where there are several
abbrev pub choice_text : Option ℕ → Twig → List ℕ
choice_text None twig = []
choice_text (Some which) twig =
    if is_used twig.out twig.kids then codes "/" ++ decimal which else []

abbrev pub twig_text : Naming → Option ℕ → Twig → List ℕ
twig_text names which twig =
    choice_text which twig
    ++ (number_text twig.out ++ kids_text twig.kids (steps_text names [] twig.kids))

-- further outputs, the first of which is this one
abbrev pub twigs_text : Naming → ℕ → List Twig → List ℕ
twigs_text names which [] = []
twigs_text names which (twig ∷ twigs) =
    twig_text names (Some which) twig ++ twigs_text names (suc which) twigs

-- which output the first one is, where there are further ones
abbrev pub first_of_several : List Twig → Option ℕ
first_of_several [] = None
first_of_several (twig ∷ twigs) = Some 1

abbrev pub branch_text : Naming → Branch → List ℕ
branch_text names step =
    names.step step.origin step.does
    ++ (twig_text names (first_of_several step.more) step.first ++ twigs_text names 2 step.more)

-- what stands before the step of a number
abbrev pub space_before : ℕ → List ℕ
space_before number = if number == 0 then [] else codes " "

abbrev pub branches_text : Naming → List ℕ → List Branch → List ℕ
branches_text names before [] = []
branches_text names before (step ∷ steps) =
    before ++ (branch_text names step ++ branches_text names (codes " ") steps)
