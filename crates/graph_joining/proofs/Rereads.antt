-- Nodes that read by one rule or by another that gives the same.
use Rattle.std.proofs.Common.{◌≡◌, ℕ, Bool, true, false, cond, eqb, List, [], ◌∷◌, map, Option, Some, None, refl, sym, ap, ap₂, ◌∙◌}
use Rattle.std.proofs.lemmas.Bool.{eqb-true}
use Rattle.exec_graph.specs.Forests.{Forest, Bare, Grow, with_out}
use Rattle.exec_graph.specs.Meaning.{place}
use Rattle.exec_graph.specs.declared.graph.Entry.{Entry}
use Rattle.exec_graph.specs.declared.graph.Node.{Node}
use Rattle.exec_graph.specs.declared.graph.Node.TheVariants.{Source, Flatten, Pdo, Gbk, Barrier}
use Rattle.exec_graph.specs.declared.graph.Place.{Place}
use Rattle.exec_graph.proofs.Entries.{entry}
use Rattle.graph_laws.specs.Joining.{reread, reread_entry}
use Rattle.graph_walks.proofs.Rereads.{places_same, reread_same}
use Rattle.graph_laws.specs.Kids.{kept_by, moved_out, out_kept, same_number}

pub nodes_same : (r s : Place → Place) → ((c : Place) → r c ≡ s c) → (es : List Entry)
    → map (reread_entry r) es ≡ map (reread_entry s) es
nodes_same r s e [] = refl
nodes_same r s e (d ∷ ds) =
    ap₂ (λ (x : Node) (l : List Entry). entry d.number x ∷ l) (reread_same r s e d.node)
    (nodes_same r s e ds)

-- ---- what stays

places_stay : (cs : List Place) → map (λ (c : Place). c) cs ≡ cs
places_stay [] = refl
places_stay (c ∷ cs) = ap (λ (ds : List Place). c ∷ ds) (places_stay cs)

reread_stay : (x : Node) → reread (λ (c : Place). c) x ≡ x
reread_stay (Source i) = refl
reread_stay (Flatten ins) = ap (λ (ds : List Place). Flatten ds) (places_stay ins)
reread_stay (Pdo c f) = refl
reread_stay (Gbk c o l k) = refl
reread_stay (Barrier ins o l a) = ap (λ (ds : List Place). Barrier ds o l a) (places_stay ins)

nodes_stay : (es : List Entry) → map (reread_entry (λ (c : Place). c)) es ≡ es
nodes_stay [] = refl
nodes_stay (e ∷ es) =
    ap₂ (λ (x : Node) (l : List Entry). entry e.number x ∷ l) (reread_stay e.node) (nodes_stay es)

same_stays : (n : ℕ) (c : Place) → moved_out n same_number c ≡ c
same_stays n c = by (eqb c.node n) refl
  where
    by : (b : Bool) → eqb c.node n ≡ b → cond b (place n c.out) c ≡ c
    by true i = ap (λ (m : ℕ). place m c.out) (sym (eqb-true c.node n i))
    by false i = refl

pub nodes_same_number : (n : ℕ) (es : List Entry)
    → map (reread_entry (moved_out n same_number)) es ≡ es
nodes_same_number n es =
    nodes_same (moved_out n same_number) (λ c. c) (same_stays n) es ∙ nodes_stay es

pub places_same_number : (n : ℕ) (cs : List Place) → map (moved_out n same_number) cs ≡ cs
places_same_number n cs =
    places_same (moved_out n same_number) (λ c. c) (same_stays n) cs ∙ places_stay cs

-- ---- outputs that are kept

out_same : (a b : ℕ → Bool) → ((j : ℕ) → a j ≡ b j) → (o : Option ℕ)
    → out_kept a o ≡ out_kept b o
out_same a b e None = refl
out_same a b e (Some j) = ap (λ (d : Bool). cond d (Some j) None) (e j)

pub kept_same : (a b : ℕ → Bool) → ((j : ℕ) → a j ≡ b j) → (f : Forest)
    → kept_by a f ≡ kept_by b f
kept_same a b e Bare = refl
kept_same a b e (Grow l kids rest) =
    ap (λ (o : Option ℕ). Grow (with_out o l) (kept_by a kids) (kept_by a rest))
    (out_same a b e l.out)
    ∙ ap₂ (λ (k r : Forest). Grow (with_out (out_kept b l.out) l) k r)
    (kept_same a b e kids) (kept_same a b e rest)

pub moved_same : (n : ℕ) (r s : ℕ → ℕ) → ((j : ℕ) → r j ≡ s j) → (c : Place)
    → moved_out n r c ≡ moved_out n s c
moved_same n r s e c = ap (λ (j : ℕ). cond (eqb c.node n) (place n j) c) (e c.out)
