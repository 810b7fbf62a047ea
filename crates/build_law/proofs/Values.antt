-- What the nodes of a script's collections give, node by node, where it is known what the
-- collections are.
use Rattle.std.proofs.Common.{◌≡◌, ℕ, ◌+◌, false, List, [], ◌∷◌, ◌++◌, map, length, get_or, refl, sym, ap, ◌∙◌, subst, append_assoc}
use Rattle.std.proofs.Math.Seq.{get_or-append_seam}
use Rattle.std.proofs.lemmas.List.{get_or-append-add}
use Rattle.flume_collection.specs.Collection.{Collection, by_key, together}
use Rattle.combine_table.specs.declared.comb.Comb.{Comb}
use Rattle.combine_table.specs.declared.comb.Comb.TheVariants as by
use Rattle.exec_graph.specs.Meaning.{through}
use Rattle.exec_graph.specs.World.{World}
use Rattle.exec_graph.specs.declared.step.Does.TheVariants as does
use Rattle.graph_build.specs.Nodes.{before_last}
use Rattle.graph_build.specs.of_script_program.declared.made.Made.{Made}
use Rattle.graph_build.specs.of_script_program.declared.made.Made.TheVariants as made
use Rattle.build_law.proofs.Passing.{only_label}

-- ---- derived operations

abbrev pub ones : World → ℕ → Collection → Collection
ones w origin c = through w (only_label origin false does.Pair) c

abbrev pub tagged : World → ℕ → Collection → Collection → Collection
tagged w origin a b =
    together
    (through w (only_label origin false does.TagLeft) a
    ∷ through w (only_label origin false does.TagRight) b ∷ [])

abbrev pub zeros : World → ℕ → Collection → Collection
zeros w origin c = through w (only_label origin false does.Solo) c

-- the pair of 0 and what a combiner makes of all members, where there are some
abbrev pub whole_of : World → ℕ → Comb → Collection → Collection
whole_of w origin k c =
    through w (only_label origin false (does.Combine k)) (by_key (zeros w origin c))

abbrev pub greatest_of : World → ℕ → ℕ → Collection → Collection
greatest_of w origin many c = whole_of w origin (by.Top many) c

-- ---- collections

module _ (w : World) (at : ℕ → Collection) where
  -- what the nodes before the last of a collection give
  abbrev pub inner_of : ℕ → Made → List Collection
  inner_of origin (made.Count input) =
      ones w origin (at input) ∷ by_key (ones w origin (at input)) ∷ []
  inner_of origin (made.Join left right) =
      through w (only_label origin false does.TagLeft) (at left)
      ∷ through w (only_label origin false does.TagRight) (at right)
      ∷ tagged w origin (at left) (at right)
      ∷ by_key (tagged w origin (at left) (at right)) ∷ []
  inner_of origin (made.Top many input) =
      zeros w origin (at input)
      ∷ by_key (zeros w origin (at input))
      ∷ greatest_of w origin many (at input) ∷ []
  inner_of origin (made.CombineAll input comb) =
      zeros w origin (at input)
      ∷ by_key (zeros w origin (at input))
      ∷ whole_of w origin comb (at input) ∷ []
  inner_of origin _ = []

  abbrev pub inner_rows : ℕ → Made → List (List Collection)
  inner_rows origin made = map (λ c. c ∷ []) (inner_of origin made)

  -- as many as nodes
  pub inner_length : (origin : ℕ) (made : Made) → length (inner_of origin made) ≡ before_last made
  inner_length origin (made.Input file columns) = refl
  inner_length origin _ = refl

-- the number that is so many behind a list
pub behind_list : {A : Type 0} (xs ys : List A) (n k : ℕ) (d : A) → length xs ≡ n
    → get_or (xs ++ ys) (n + k) d ≡ get_or ys k d
behind_list xs ys n k d h =
    subst (λ m. get_or (xs ++ ys) (m + k) d ≡ get_or ys k d) h (get_or-append-add xs ys k d)

pub regrouped : {A : Type 0} (whole pre mid rest : List A) → whole ≡ pre ++ (mid ++ rest)
    → whole ≡ (pre ++ mid) ++ rest
regrouped whole pre mid rest h = h ∙ sym (append_assoc pre mid rest)

pub seam : {A : Type 0} (xs ys : List A) (y : A) (n : ℕ) (d : A) → length xs ≡ n
    → get_or ((xs ++ y ∷ []) ++ ys) n d ≡ y
seam xs ys y n d h =
    ap (λ zs. get_or zs n d) (append_assoc xs (y ∷ []) ys)
    ∙ subst (λ m. get_or (xs ++ y ∷ ys) m d ≡ y) h (get_or-append_seam xs y ys d)
