-- What a collection is made from is read by its nodes.
use Rattle.std.proofs.Common.{inl, inr, ◌≡◌, ℕ, Bool, true, false, List, [], ◌∷◌, ◌++◌, map, refl, ap, ◌∙◌, arith}
use Rattle.std.specs.Prelude.{◌==◌, ◌&&◌, ◌||◌}
use Rattle.std.specs.List.{Contains, list_any}
use Rattle.std.proofs.lemmas.Bool.{eq-eqb}
use Rattle.std.proofs.lemmas.List.Folds.{list_any-append}
use Rattle.flume_collection.proofs.Members.{head_or_tail}
use Rattle.exec_graph.specs.Readers.{among, same_place, uses}
use Rattle.exec_graph.specs.declared.graph.Entry.{Entry}
use Rattle.exec_graph.specs.declared.graph.Place.{Place}
use Rattle.graph_build.specs.Nodes.{made_nodes}
use Rattle.exec_graph.specs.declared.step.Does.TheVariants as does
use Rattle.graph_build.specs.of_script_program.Needed.{operands}
use Rattle.graph_build.specs.of_script_program.declared.made.Made.{Made}
use Rattle.graph_build.specs.of_script_program.declared.made.Made.TheVariants as made
use Rattle.graph_build.specs.of_script_program.Script.{Script}
use Rattle.build_law.proofs.Steps.{step}

-- ---- tests of lists

pub or_left : (a b : Bool) → a ≡ true → (a || b) ≡ true
or_left true b h = refl
or_left false b h = cc

pub or_right : (a b : Bool) → b ≡ true → (a || b) ≡ true
or_right true b h = refl
or_right false b h = h

pub any_front : {A : Type 0} (p : A → Bool) (xs ys : List A) → list_any p xs ≡ true
    → list_any p (xs ++ ys) ≡ true
any_front p xs ys h =
    list_any-append p xs ys ∙ or_left (list_any p xs) (list_any p ys) h

pub any_behind : {A : Type 0} (p : A → Bool) (xs ys : List A) → list_any p ys ≡ true
    → list_any p (xs ++ ys) ≡ true
any_behind p xs ys h =
    list_any-append p xs ys ∙ or_right (list_any p xs) (list_any p ys) h

-- ---- places

and_true : (a b : Bool) → a ≡ true → b ≡ true → (a && b) ≡ true
and_true true b h k = k
and_true false b h k = cc

pub same_self : (c : Place) → same_place c c ≡ true
same_self c =
    and_true (c.node == c.node) (c.out == c.out) (eq-eqb c.node c.node refl)
    (eq-eqb c.out c.out refl)

pub among_places : (gives : ℕ → Place) (js : List ℕ) (j : ℕ) → Contains js j
    → among (gives j) (map gives js) ≡ true
among_places gives [] j is = let below = is.1 in absurd (omega arith)
among_places gives (k ∷ js) j is =
    elim (head_or_tail k js j is) [
      | inl same ↦
          or_left (same_place (gives j) (gives k)) (among (gives j) (map gives js))
          (ap (λ i. same_place (gives j) (gives i)) same ∙ same_self (gives j))
      | inr later ↦
          or_right (same_place (gives j) (gives k)) (among (gives j) (map gives js))
          (among_places gives js j later)
    ]

one_of : (k j : ℕ) → Contains (k ∷ []) j → k ≡ j
one_of k j is =
    elim (head_or_tail k [] j is) [
      | inl same ↦ same
      | inr later ↦ (let below = later.1 in absurd (omega arith))
    ]

same_input : (gives : ℕ → Place) (k j : ℕ) → Contains (k ∷ []) j
    → same_place (gives j) (gives k) ≡ true
same_input gives k j is =
    ap (λ i. same_place (gives j) (gives i)) (one_of k j is) ∙ same_self (gives j)

abbrev pub any_uses : Place → List Entry → Bool
any_uses c es = list_any (λ e. uses c e.node) es

-- ---- the nodes of a collection read what it is made from

calls : (a : Bool) → a ≡ true → ((a || false) || false) ≡ true
calls true h = refl
calls false h = cc

calls_first : (a b : Bool) → a ≡ true → ((a || false) || b) ≡ true
calls_first true b h = refl
calls_first false b h = cc

only_any : (a : Bool) → a ≡ true → (a || false) ≡ true
only_any true h = refl
only_any false h = cc

module _ (script : Script) (gives : ℕ → Place) (origin source n j : ℕ) where
  joined_uses : (left right : ℕ) → Contains (left ∷ right ∷ []) j
      → any_uses (gives j) (made_nodes script gives origin source n (made.Join left right)) ≡ true
  joined_uses left right is =
      elim (head_or_tail left (right ∷ []) j is) [
        | inl same ↦
            calls_first (same_place (gives j) (gives left)) _
            (ap (λ i. same_place (gives j) (gives i)) same ∙ same_self (gives j))
        | inr later ↦
            or_right (uses (gives j) (step origin does.TagLeft (gives left))) _
            (calls_first (same_place (gives j) (gives right)) _
            (same_input gives right j later))
      ]

  pub block_uses : (made : Made) → Contains (operands made) j
      → any_uses (gives j) (made_nodes script gives origin source n made) ≡ true
  block_uses (made.Input file columns) is = let below = is.1 in absurd (omega arith)
  block_uses (made.Do input f output) is =
      calls (same_place (gives j) (gives input)) (same_input gives input j is)
  block_uses (made.Group input) is =
      only_any (same_place (gives j) (gives input)) (same_input gives input j is)
  block_uses (made.Combine input k) is =
      calls (same_place (gives j) (gives input)) (same_input gives input j is)
  block_uses (made.Flatten inputs) is =
      only_any (among (gives j) (map gives inputs)) (among_places gives inputs j is)
  block_uses (made.Count input) is =
      calls_first (same_place (gives j) (gives input)) _ (same_input gives input j is)
  block_uses (made.Join left right) is = joined_uses left right is
  block_uses (made.Top many input) is =
      calls_first (same_place (gives j) (gives input)) _ (same_input gives input j is)
  block_uses (made.CombineAll input k) is =
      calls_first (same_place (gives j) (gives input)) _ (same_input gives input j is)
  block_uses (made.Operate objects f) is =
      only_any (among (gives j) (map gives objects)) (among_places gives objects j is)
  block_uses (made.DoWith input f object) is =
      only_any (among (gives j) (gives input ∷ gives object ∷ []))
      (among_places gives (input ∷ object ∷ []) j is)
  block_uses (made.Saved is_object call) is = let below = is.1 in absurd (omega arith)
