-- Values one after another, each of which is something.
use Rattle.std.proofs.Common.{◌≡◌, ℕ, ◌+◌, ◌<◌, ◌≤◌, List, [], ◌∷◌, ◌++◌, drop, length, get_or, Option, Some, None, refl, sym, ap, ◌∙◌, append_assoc, append-nil}
use Rattle.std.proofs.lemmas.List.{drop_all, drop_more}
use Rattle.std.specs.Prelude.{option_and_then}
use Rattle.std.specs.Option.{option_map}
use Rattle.serde_json.specs.Data.{Data, Items, no_items, item}
use Rattle.serde_json.specs.View.{items_view, view}
use Rattle.serde_json.specs.declared.value.Value.{Value}
use Rattle.plan_files.specs.Forms.{all_of}

-- what is read of the rest, behind what was read
abbrev pub behind : {X : Type 0} → List X → Option (List X) → Option (List X)
behind xs rest = option_map (λ ys. xs ++ ys) rest

behind_cons : {X : Type 0} (xs : List X) (x : X) (rest : Option (List X))
    → behind (xs ++ x ∷ []) rest ≡ behind xs (option_map (λ ys. x ∷ ys) rest)
behind_cons xs x None = refl
behind_cons xs x (Some ys) = ap Some (append_assoc xs (x ∷ []) ys)

-- a value that is something goes behind those before it
one_more : {X : Type 0} (of : Data → Option X) (xs : List X) (x : X) (d : Data) (ds : Items)
    → of d ≡ Some x → behind (xs ++ x ∷ []) (all_of of ds) ≡ behind xs (all_of of (item d ds))
one_more of xs x d ds is =
    behind_cons xs x (all_of of ds)
    ∙ ap (behind xs)
    (sym (ap (option_and_then (λ y. option_map (λ ys. y ∷ ys) (all_of of ds))) is))

-- where a value is nothing, all are nothing
none_more : {X : Type 0} (of : Data → Option X) (xs : List X) (d : Data) (ds : Items)
    → of d ≡ None → behind xs (all_of of (item d ds)) ≡ None
none_more of xs d ds is =
    ap (λ o. behind xs (option_and_then (λ y. option_map (λ ys. y ∷ ys) (all_of of ds)) o)) is

-- the values from a place on
from_here : (vs : List Value) (i : ℕ) (v : Value) → i < length vs → v ≡ get_or vs i v
    → items_view (drop i vs) ≡ item (view v) (items_view (drop (i + 1) vs))
from_here vs i v within is =
    ap items_view (drop_more vs i v within ∙ ap (λ w. w ∷ drop (i + 1) vs) (sym is))

-- ---- what was read of the values before a place, and what they are all

-- what is read of the values from a place on, behind what was read, is what all are
abbrev pub IsRead : {X : Type 0} → (Data → Option X) → List X → ℕ → List Value → Type 0
IsRead of xs i vs = behind xs (all_of of (items_view (drop i vs))) ≡ all_of of (items_view vs)

-- a value that is something goes behind those before it
pub read_more : {X : Type 0} (of : Data → Option X) (xs new : List X) (x : X) (vs : List Value)
    (i : ℕ) (v : Value) → i < length vs → v ≡ get_or vs i v → of (view v) ≡ Some x
    → new ≡ xs ++ x ∷ [] → IsRead of xs i vs → IsRead of new (i + 1) vs
read_more of xs new x vs i v within is some more h =
    let rest = items_view (drop (i + 1) vs) in
    ap (λ ys. behind ys (all_of of rest)) more ∙ one_more of xs x (view v) rest some
    ∙ ap (λ ds. behind xs (all_of of ds)) (sym (from_here vs i v within is)) ∙ h

-- where a value is nothing, all are nothing
pub read_none : {X : Type 0} (of : Data → Option X) (xs : List X) (vs : List Value) (i : ℕ)
    (v : Value) → i < length vs → v ≡ get_or vs i v → of (view v) ≡ None → IsRead of xs i vs
    → None ≡ all_of of (items_view vs)
read_none of xs vs i v within is none h =
    sym (none_more of xs (view v) (items_view (drop (i + 1) vs)) none)
    ∙ ap (λ ds. behind xs (all_of of ds)) (sym (from_here vs i v within is)) ∙ h

-- at the end all are read
pub read_all : {X : Type 0} (of : Data → Option X) (xs : List X) (vs : List Value) (i : ℕ)
    → length vs ≤ i → IsRead of xs i vs → Some xs ≡ all_of of (items_view vs)
read_all of xs vs i past h =
    sym (ap Some (append-nil xs))
    ∙ ap (λ ds. behind xs (all_of of ds)) (sym (ap items_view (drop_all i vs past))) ∙ h
