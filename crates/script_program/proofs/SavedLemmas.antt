-- Collections in memory that are kept ones: one after another, and what contracts see of them.
use Rattle.std.proofs.Common.{◌≡◌, ℕ, zero, suc, ◌+◌, ◌<◌, ◌≤◌, Bool, true, false, List, ◌∷◌, [], ◌++◌}
use Rattle.std.proofs.Common.{length, map, take, drop, get_or, set, if◌then◌else◌, refl, sym, ap, ◌∙◌}
use Rattle.std.proofs.Common.{subst, arith, append-nil}
use Rattle.std.proofs.lemmas.List.{drop_all, take_all}
use Rattle.flume_types.specs.declared.types.Ty.{Ty}
use Rattle.body_check.specs.of_written_types.Named.{Named}
use Rattle.body_check.specs.of_written_types.Known.{Known}
use Rattle.script_program.specs.declared.made.Function.{Function as HeldFunction}
use Rattle.script_program.specs.declared.made.Node.{Node as HeldNode}
use Rattle.script_program.proofs.SourceSteps.{told_many}
use Rattle.script_program.specs.Needed.{holds_number}
use Rattle.script_program.specs.Saved.{kept_at, saved_among, saved_node}
use Rattle.script_program.specs.inner.Tables.{AreHeld, held_saved, held_saved_from}
use Rattle.script_program.specs.inner.Tables.{node_of}

-- ---- one after another

-- the collection at a place is done, where it has that number
one-saved : (found : List ℕ) (nodes : Named HeldNode) (place n : ℕ) (x : List ℕ × HeldNode)
    → place < length nodes → x ≡ get_or nodes place x
    → take (suc place) (set nodes place (kept_at held_saved found n x))
    ++ held_saved_from found (suc n)
    (drop (suc place) (set nodes place (kept_at held_saved found n x)))
    ≡ take place nodes ++ held_saved_from found n (drop place nodes)
one-saved found [] place n x below is = absurd (omega arith)
one-saved found (entry ∷ nodes) zero n x below is =
    ap (λ e. kept_at held_saved found n e ∷ held_saved_from found (suc n) nodes) is
one-saved found (entry ∷ nodes) (suc place) n x below is =
    ap (λ rest. entry ∷ rest) (one-saved found nodes place n x (omega arith) is)

pub saved-step : (found : List ℕ) (nodes : Named HeldNode) (place : ℕ) (x y : List ℕ × HeldNode)
    → place < length nodes → x ≡ get_or nodes place x → y ≡ kept_at held_saved found place x
    → take (place + 1) (set nodes place y)
    ++ held_saved_from found (place + 1) (drop (place + 1) (set nodes place y))
    ≡ take place nodes ++ held_saved_from found place (drop place nodes)
saved-step found nodes place x y below is made =
    let next : suc place ≡ place + 1 = omega arith in
    subst (λ n. take n (set nodes place y) ++ held_saved_from found n (drop n (set nodes place y))
    ≡ take place nodes ++ held_saved_from found place (drop place nodes)) next
    (subst (λ z. take (suc place) (set nodes place z)
    ++ held_saved_from found (suc place) (drop (suc place) (set nodes place z))
    ≡ take place nodes ++ held_saved_from found place (drop place nodes)) (sym made)
    (one-saved found nodes place place x below is))

-- all are done
pub saved-end : (found : List ℕ) (nodes : Named HeldNode) (place : ℕ) → length nodes ≤ place
    → take place nodes ++ held_saved_from found place (drop place nodes) ≡ nodes
saved-end found nodes place past =
    (λ i. take_all place nodes past i ++ held_saved_from found place (drop_all place nodes past i))
    ∙ append-nil nodes

-- ---- what contracts see

type-kept-if : (b : Bool) (entry : List ℕ × HeldNode)
    → (if b then (entry.0, held_saved entry.1) else entry).1.ty ≡ entry.1.ty
type-kept-if true entry = refl
type-kept-if false entry = refl

type-kept : (found : List ℕ) (n : ℕ) (nodes : Named HeldNode) (k : ℕ) (d : List ℕ × HeldNode)
    → (get_or (held_saved_from found n nodes) k d).1.ty ≡ (get_or nodes k d).1.ty
type-kept found n [] k d = refl
type-kept found n (entry ∷ nodes) zero d = type-kept-if (holds_number found n) entry
type-kept found n (entry ∷ nodes) (suc k) d = type-kept found (suc n) nodes k d

pub as-many-saved : (found : List ℕ) (n : ℕ) (nodes : Named HeldNode)
    → length (held_saved_from found n nodes) ≡ length nodes
as-many-saved found =
    told_many (held_saved_from found) (λ k. refl) (λ k entry nodes. (_, refl))

pub held-saved : (known : Known) (functions : Named HeldFunction) (nodes after : Named HeldNode)
    (found : List ℕ) → after ≡ held_saved_from found 0 nodes → AreHeld known functions nodes
    → AreHeld known functions after
held-saved known functions nodes after found is held =
    subst (AreHeld known functions) (sym is) (
      held.0,
      λ k d in_.
          subst (λ ty. ty < length known.types) (sym (type-kept found 0 nodes k d))
          (held.1 k d (omega (arith, in_, as-many-saved found 0 nodes))),
    )

node-saved-if : (types : List Ty) (b : Bool) (entry : List ℕ × HeldNode)
    → node_of types (if b then (entry.0, held_saved entry.1) else entry)
    ≡ (if b then (entry.0, saved_node (node_of types entry).1) else node_of types entry)
node-saved-if types true entry = refl
node-saved-if types false entry = refl

nodes-saved-from : (types : List Ty) (found : List ℕ) (n : ℕ) (nodes : Named HeldNode)
    → map (node_of types) (held_saved_from found n nodes)
    ≡ saved_among found n (map (node_of types) nodes)
nodes-saved-from types found n [] = refl
nodes-saved-from types found n (entry ∷ nodes) =
    λ i. node-saved-if types (holds_number found n) entry i ∷ nodes-saved-from types found (suc n)
    nodes i

pub nodes-saved : (types : List Ty) (found : List ℕ) (nodes after : Named HeldNode)
    → after ≡ held_saved_from found 0 nodes
    → map (node_of types) after ≡ saved_among found 0 (map (node_of types) nodes)
nodes-saved types found nodes after is =
    ap (map (node_of types)) is ∙ nodes-saved-from types found 0 nodes
