-- One collection more, of those that a test picks, and what is told of each.
use Rattle.std.proofs.Common.{◌≡◌, ℕ, suc, ◌+◌, ◌<◌, ◌≤◌, Bool, true, false, cond, List, []}
use Rattle.std.proofs.Common.{◌∷◌, ◌++◌, length, map, drop, get_or, Some, slice_get, refl, sym, ap}
use Rattle.std.proofs.Common.{◌∙◌, arith, append_assoc, append-nil}
use Rattle.std.specs.Prelude.{if◌then◌else◌}
use Rattle.std.specs.List.{filter, flat_map}
use Rattle.std.proofs.lemmas.List.{drop_all, get_or_read}
use Rattle.written_types.specs.Named.{Named}
use Rattle.script_program.specs.declared.made.Output.{Output}
use Rattle.script_program.proofs.SourceSteps.{found_below, head_of}
use Rattle.script_program.specs.Needed.{collections_numbered}
use Rattle.script_program.specs.Script.{Node, Script}
use Rattle.kept_results.specs.Asked.{asked_as, asked_nodes, name_read}

-- what is told from a number on, where one more is told
one_more : {X : Type 0} (nodes : Named Node) (told : ℕ → Named Node → List X)
    (old new own whole : List X) (number : ℕ)
    → told number (drop number nodes) ≡ own ++ told (suc number) (drop (suc number) nodes)
    → new ≡ old ++ own → old ++ told number (drop number nodes) ≡ whole
    → new ++ told (number + 1) (drop (number + 1) nodes) ≡ whole
one_more nodes told old new own whole number step pushed h =
    let next : number + 1 ≡ suc number = omega arith in
    let rest = told (suc number) (drop (suc number) nodes) in
    ap (λ n. new ++ told n (drop n nodes)) next
    ∙ ap (λ l. l ++ rest) pushed
    ∙ append_assoc old own rest
    ∙ ap (λ l. old ++ l) (sym step)
    ∙ h

-- nothing is left behind the last
all_done : {X : Type 0} (nodes : Named Node) (told : ℕ → Named Node → List X)
    (done whole : List X) (number : ℕ) → told number [] ≡ [] → length nodes ≤ number
    → done ++ told number (drop number nodes) ≡ whole → done ≡ whole
all_done nodes told done whole number none end h =
    sym (append-nil done)
    ∙ ap (λ l. done ++ l) (sym (ap (told number) (drop_all number nodes end) ∙ none))
    ∙ h

-- ---- one of each

map_if : {A B : Type 0} (f : A → B) (b : Bool) (x : A) (xs : List A)
    → map f (cond b (x ∷ xs) xs) ≡ (if b then f x ∷ [] else []) ++ map f xs
map_if f true x xs = refl
map_if f false x xs = refl

module _ {X : Type 0} (nodes : Named Node) (p : ℕ → Bool) (f : ℕ × (List ℕ × Node) → X) where
  abbrev pub told_from : ℕ → Named Node → List X
  told_from number rest = map f (filter (λ it. p it.0) (collections_numbered number rest))

  pub told_next : (old new whole : List X) (number : ℕ) (flag : Bool) → number < length nodes
      → flag ≡ p number
      → ((entry : List ℕ × Node) → slice_get nodes number ≡ Some entry
      → new ≡ old ++ (if flag then f (number, entry) ∷ [] else []))
      → old ++ told_from number (drop number nodes) ≡ whole
      → new ++ told_from (number + 1) (drop (number + 1) nodes) ≡ whole
  told_next old new whole number flag below same pushed h =
      let (entry, found) = found_below nodes number below in
      one_more nodes told_from old new (if p number then f (number, entry) ∷ [] else []) whole
      number
      (ap (told_from number) (head_of nodes number entry found)
      ∙ map_if f (p number) (number, entry)
      (filter (λ it. p it.0) (collections_numbered (suc number) (drop (suc number) nodes))))
      (pushed entry found
      ∙ ap (λ b. old ++ (if b then f (number, entry) ∷ [] else [])) same) h

  -- a flag tells whether one is told
  pub flagged_next : (flags : List Bool) (old new whole : List X) (number : ℕ) (flag : Bool)
      → number < length nodes → length flags ≡ length nodes
      → ((n : ℕ) → n < length flags → get_or flags n false ≡ p n)
      → flag ≡ get_or flags number flag
      → ((entry : List ℕ × Node) → slice_get nodes number ≡ Some entry
      → new ≡ old ++ (if flag then f (number, entry) ∷ [] else []))
      → old ++ told_from number (drop number nodes) ≡ whole
      → new ++ told_from (number + 1) (drop (number + 1) nodes) ≡ whole
  flagged_next flags old new whole number flag below many told is =
      let within : number < length flags = omega (arith, below, many) in
      told_next old new whole number flag below
      (get_or_read flags number flag within is false ∙ told number within)

  pub told_all : (done whole : List X) (number : ℕ) → length nodes ≤ number
      → done ++ told_from number (drop number nodes) ≡ whole → done ≡ whole
  told_all done whole number = all_done nodes told_from done whole number refl

-- ---- several of each

flat_if : {A B : Type 0} (g : A → List B) (b : Bool) (x : A) (xs : List A)
    → flat_map g (cond b (x ∷ xs) xs) ≡ (if b then g x else []) ++ flat_map g xs
flat_if g true x xs = refl
flat_if g false x xs = refl

module _ {X : Type 0} (nodes : Named Node) (p : ℕ → Bool)
    (g : ℕ × (List ℕ × Node) → List X) where
  abbrev pub gathered_from : ℕ → Named Node → List X
  gathered_from number rest = flat_map g (filter (λ it. p it.0) (collections_numbered number rest))

  pub gathered_next : (old new whole : List X) (number : ℕ) → number < length nodes
      → ((entry : List ℕ × Node) → slice_get nodes number ≡ Some entry
      → new ≡ old ++ (if p number then g (number, entry) else []))
      → old ++ gathered_from number (drop number nodes) ≡ whole
      → new ++ gathered_from (number + 1) (drop (number + 1) nodes) ≡ whole
  gathered_next old new whole number below pushed h =
      let (entry, found) = found_below nodes number below in
      one_more nodes gathered_from old new (if p number then g (number, entry) else []) whole number
      (ap (gathered_from number) (head_of nodes number entry found)
      ∙ flat_if g (p number) (number, entry)
      (filter (λ it. p it.0) (collections_numbered (suc number) (drop (suc number) nodes))))
      (pushed entry found) h

  pub gathered_all : (done whole : List X) (number : ℕ) → length nodes ≤ number
      → done ++ gathered_from number (drop number nodes) ≡ whole → done ≡ whole
  gathered_all done whole number = all_done nodes gathered_from done whole number refl

-- ---- what is asked for

abbrev pub asked_from : Named Output → ℕ → Named Node → List (ℕ × List ℕ)
asked_from outputs number nodes =
    flat_map (λ it. asked_as it.0 (name_read outputs it.0)) (collections_numbered number nodes)

pub asked_next : (script : Script) (old new : List (ℕ × List ℕ)) (number : ℕ)
    → number < length script.nodes
    → new ≡ old ++ asked_as number (name_read script.outputs number)
    → old ++ asked_from script.outputs number (drop number script.nodes) ≡ asked_nodes script
    → new ++ asked_from script.outputs (number + 1) (drop (number + 1) script.nodes)
    ≡ asked_nodes script
asked_next script old new number below pushed h =
    let (entry, found) = found_below script.nodes number below in
    one_more script.nodes (asked_from script.outputs) old new
    (asked_as number (name_read script.outputs number)) (asked_nodes script) number
    (ap (asked_from script.outputs number) (head_of script.nodes number entry found)) pushed h

pub asked_all : (script : Script) (done : List (ℕ × List ℕ)) (number : ℕ)
    → length script.nodes ≤ number
    → done ++ asked_from script.outputs number (drop number script.nodes) ≡ asked_nodes script
    → done ≡ asked_nodes script
asked_all script done number =
    all_done script.nodes (asked_from script.outputs) done (asked_nodes script) number refl
