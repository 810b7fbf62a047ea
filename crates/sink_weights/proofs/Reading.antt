-- The outputs that are numbered are those that have a reader, in order.
use Rattle.std.proofs.Common.{◌≡◌, ℕ, ◌+◌, ◌-◌, ◌<◌, Bool, true, List, [], ◌∷◌, ◌++◌, Option, Some, None, zero, suc, refl, sym, ap, ◌∙◌, subst, arith}
use Rattle.std.specs.List.{AllByRecursion, cons_option}
use Rattle.sink_laws.specs.of_exec_graph.Forests.{Forest, Bare, Grow, next_after, after_out, new_out, numbered}
use Rattle.sink_laws.specs.of_exec_graph.Meaning.{place, node_at}
use Rattle.sink_laws.specs.of_exec_graph.Readers.{is_read}
use Rattle.sink_laws.specs.of_exec_graph.Wellformed.{IsForestOk, IsGraphOk, IsNodeOk}
use Rattle.sink_laws.specs.of_exec_graph.declared.graph.Place.{Place}
use Rattle.sink_laws.specs.of_exec_graph.declared.graph.Node.TheVariants.{Pdo}
use Rattle.sink_laws.specs.of_exec_graph.declared.graph.Graph.{Graph}
use Rattle.sink_laws.proofs.of_exec_graph.Entries.{all_found}
use Rattle.sink_laws.proofs.of_exec_graph.Numbered.{forest_up}
use Rattle.sink_laws.specs.Sinking.{outputs_of}
use Rattle.sink_laws.proofs.Outs.{has_from}
use Rattle.sink_weights.specs.Outputs.{numbers_kept, passing, read_outputs, from}

from_append : (n a b : ℕ) → from n (a + b) ≡ from n a ++ from (n + a) b
from_append n zero b =
    let e : 0 + b ≡ b = omega arith in
    let i : n + 0 ≡ n = omega arith in rw (e, i) refl
from_append n (suc a) b =
    let e : suc a + b ≡ suc (a + b) = omega arith in
    let i : (n + 1) + a ≡ n + suc a = omega arith in
    let h = from_append (n + 1) a b in
    ap (from n) e ∙ ap (λ l. n ∷ l) (h ∙ ap (λ (k : ℕ). from (n + 1) a ++ from k b) i)

consed : (n k m : ℕ) (o : Option ℕ) (js : List ℕ) → after_out n o + m ≡ n + k
    → js ≡ from (after_out n o) m → cons_option (new_out n o) js ≡ from n k
consed n k m None js c e = let s : m ≡ k = omega arith in e ∙ ap (from n) s
consed n k m (Some j) js c e =
    let s : suc m ≡ k = omega arith in ap (λ (l : List ℕ). n ∷ l) e ∙ ap (from n) s

numbers_new : (n k : ℕ) (f : Forest) → n + k ≡ next_after n f
    → numbers_kept (numbered n f) ≡ from n k
numbers_new n k Bare c = let z : zero ≡ k = omega arith in ap (from n) z
numbers_new n k (Grow l kids rest) c =
    let a : ℕ = after_out n l.out in
    let b : ℕ = next_after a kids in
    let i : ℕ = b - a in
    let j : ℕ = next_after b rest - b in
    let up = forest_up a kids in
    let more = forest_up b rest in
    let there : b ≡ a + i = omega arith in
    consed n k (i + j) l.out (numbers_kept (numbered a kids) ++ numbers_kept (numbered b rest))
    (omega arith)
    (ap (λ (js : List ℕ). js ++ numbers_kept (numbered b rest)) (numbers_new a i kids (omega arith))
    ∙ ap (λ (js : List ℕ). from a i ++ js)
    (numbers_new b j rest (omega arith) ∙ ap (λ (m : ℕ). from m j) there)
    ∙ sym (from_append a i j))

forest_at : (g : Graph) (p : ℕ) (c : Place) (f : Forest) → IsGraphOk g
    → node_at g.nodes p ≡ Some (Pdo c f) → IsForestOk g p f
forest_at g p c f ok at = all_found (λ e. IsNodeOk g e.number e.node) g.nodes p (Pdo c f) at
    ok.nodes

pub numbers_in_order : (g : Graph) (p : ℕ) (c : Place) (f : Forest) → IsGraphOk g
    → node_at g.nodes p ≡ Some (Pdo c f) → numbers_kept f ≡ from 0 (outputs_of f)
numbers_in_order g p c f ok at =
    ap numbers_kept (sym (forest_at g p c f ok at).order)
    ∙ numbers_new 0 (outputs_of f) f (omega arith)

all_from : (P : ℕ → Type 0) (n k : ℕ) → ((j : ℕ) → j < n + k → P j) → AllByRecursion P (from n k)
all_from P n zero h = tt
all_from P n (suc k) h =
    (h n (omega arith), all_from P (n + 1) k (λ j l. h j (omega arith)))

passing_all : (t : ℕ → Bool) (js : List ℕ) → AllByRecursion (λ j. t j ≡ true) js
    → passing t js ≡ js
passing_all t [] a = refl
passing_all t (j ∷ js) a =
    let e : t j ≡ true = a.0 in rw e (ap (λ l. j ∷ l) (passing_all t js a.1))

pub read_all : (g : Graph) (p : ℕ) (c : Place) (f : Forest) → IsGraphOk g
    → node_at g.nodes p ≡ Some (Pdo c f) → read_outputs g p f ≡ numbers_kept f
read_all g p c f ok at =
    let fine = forest_at g p c f ok at in
    passing_all (λ j. is_read g (place p j)) (numbers_kept f)
    (subst (λ (js : List ℕ). AllByRecursion (λ j. is_read g (place p j) ≡ true) js)
    (sym (numbers_in_order g p c f ok at))
    (all_from (λ j. is_read g (place p j) ≡ true) 0 (outputs_of f)
    (λ j l. fine.read j (has_from f j fine.order (omega arith)))))
