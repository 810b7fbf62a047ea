-- One name of a call more.
use Rattle.std.proofs.Common.{◌≡◌, ℕ, suc, ◌+◌, ◌-◌, ◌<◌, ◌≤◌, Bool, List, [], ◌∷◌, ◌++◌, map, refl, arith, ap, ◌∙◌, sym, subst, append_assoc, append-nil, add-one}
use Rattle.std.proofs.lemmas.List.{map-append}
use Rattle.exec_graph.specs.Forests.{Twig}
use Rattle.exec_graph.specs.Twigs.{twig}
use Rattle.exec_graph.specs.declared.step.Output.{Output}
use Rattle.script_program.specs.Script.{Script}
use Rattle.graph_build.specs.Calls.{emitted_at, needed_from, next_if, number_behind, number_if, output_numbers}
use Rattle.graph_build.specs.Nodes.{bud}

-- the first of the names up to an end
one_name : (script : Script) (name end : ℕ) → name < end
    → needed_from script name (end - name)
    ≡ emitted_at script name ∷ needed_from script (name + 1) (end - (name + 1))
one_name script name end h =
    let e : end - name ≡ suc (end - (name + 1)) = omega arith in
    let next : suc name ≡ name + 1 = omega arith in
    ap (needed_from script name) e
    ∙ ap (λ k. emitted_at script name ∷ needed_from script k (end - (name + 1))) next

no_name : (script : Script) (name end : ℕ) → end ≤ name
    → needed_from script name (end - name) ≡ []
no_name script name end h =
    let e : end - name ≡ 0 = omega arith in
    ap (needed_from script name) e

pub so_many : (script : Script) (name more : ℕ)
    → needed_from script name ((name + more) - name) ≡ needed_from script name more
so_many script name more =
    let e : (name + more) - name ≡ more = omega arith in ap (needed_from script name) e

-- how many are needed
pub count_next : (script : Script) (name end count more all : ℕ) → name < end
    → more ≡ next_if (emitted_at script name) count
    → number_behind count (needed_from script name (end - name)) ≡ all
    → number_behind more (needed_from script (name + 1) (end - (name + 1))) ≡ all
count_next script name end count more all below is h =
    ap (λ k. number_behind k (needed_from script (name + 1) (end - (name + 1)))) is
    ∙ ap (number_behind count) (sym (one_name script name end below))
    ∙ h

-- the outputs
abbrev buds : ℕ → List Bool → List Twig
buds next needed = map bud (output_numbers next needed)

pub outputs_next : (script : Script) (name end number more : ℕ) (done outputs : List Output)
    (one : Output) (all : List Twig) → name < end
    → twig one ≡ bud (number_if (emitted_at script name) number)
    → more ≡ next_if (emitted_at script name) number
    → outputs ≡ done ++ one ∷ []
    → map twig done ++ buds number (needed_from script name (end - name)) ≡ all
    → map twig outputs ++ buds more (needed_from script (name + 1) (end - (name + 1))) ≡ all
outputs_next script name end number more done outputs one all below is ahead pushed h =
    let rest : List Bool = needed_from script (name + 1) (end - (name + 1)) in
    (λ i. map twig (pushed i) ++ buds (ahead i) rest)
    ∙ ap (λ twigs. twigs ++ buds (next_if (emitted_at script name) number) rest)
    (map-append twig done (one ∷ []))
    ∙ append_assoc (map twig done) (twig one ∷ [])
    (buds (next_if (emitted_at script name) number) rest)
    ∙ ap (λ t. map twig done ++ t ∷ buds (next_if (emitted_at script name) number) rest) is
    ∙ ap (λ names. map twig done ++ buds number names) (sym (one_name script name end below))
    ∙ h
