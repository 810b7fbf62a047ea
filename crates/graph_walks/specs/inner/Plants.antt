-- The roots of a forest on the first output of a number, which is then dropped or not, step by step
-- as they are held: where it is found, all behind it stays.
use Rattle.std.specs.Prelude.{ℕ, Bool, ◌||◌, cond, List, [], ◌∷◌, Option, None}
use Rattle.std.specs.List.{list_any}
use Rattle.graph_laws.specs.of_exec_graph.Forests.{Forest, Bare, Grow, Branch, Twig, with_out}
use Rattle.graph_laws.specs.of_exec_graph.Meaning.{has_out, is_out}
use Rattle.graph_laws.specs.Joining.{beside}

-- the output j is kept, or not
abbrev pub put_out : ℕ → Bool → Option ℕ → Option ℕ
put_out j k o = cond (is_out o j) (cond k o None) o

abbrev pub put_in : ℕ → Bool → Forest → Forest → Forest
put_in j k g Bare = Bare
put_in j k g (Grow l kids rest) =
    Grow (with_out (put_out j k l.out) l)
    (cond (is_out l.out j) (beside kids g) (put_in j k g kids))
    (cond (is_out l.out j || has_out j kids) rest (put_in j k g rest))

-- each becomes what is put for it, up to the first that is the one; those behind it stay
abbrev pub put_first : {X : Type 0} → (X → Bool) → (X → X) → List X → List X
put_first on put [] = []
put_first on put (x ∷ xs) = put x ∷ cond (on x) xs (put_first on put xs)

-- ---- an output with the steps on it

-- whether it is the output, or a step on it has it
abbrev pub on_twig : ℕ → Twig → Bool
on_twig j t = is_out t.out j || has_out j t.kids

abbrev pub put_twig : ℕ → Bool → Forest → Twig → Twig
put_twig j k g t = record {
  out = put_out j k t.out;
  kids = cond (is_out t.out j) (beside t.kids g) (put_in j k g t.kids);
}

-- ---- outputs of a step

abbrev pub on_twigs : ℕ → List Twig → Bool
on_twigs j ts = list_any (on_twig j) ts

abbrev pub put_twigs : ℕ → Bool → Forest → List Twig → List Twig
put_twigs j k g ts = put_first (on_twig j) (put_twig j k g) ts

-- ---- steps

abbrev pub on_branch : ℕ → Branch → Bool
on_branch j b = on_twigs j (b.first ∷ b.more)

abbrev pub put_branch : ℕ → Bool → Forest → Branch → Branch
put_branch j k g b = record {
  origin = b.origin;
  last = b.last;
  does = b.does;
  first = put_twig j k g b.first;
  more = cond (on_twig j b.first) b.more (put_twigs j k g b.more);
}

abbrev pub on_branches : ℕ → List Branch → Bool
on_branches j bs = list_any (on_branch j) bs

abbrev pub put_branches : ℕ → Bool → Forest → List Branch → List Branch
put_branches j k g bs = put_first (on_branch j) (put_branch j k g) bs
