-- One collection more: of the kinds of sources.
use Rattle.std.proofs.Common.{◌≡◌, ℕ, zero, suc, ◌+◌, ◌<◌, Bool, true, false, cond, List, []}
use Rattle.std.proofs.Common.{◌∷◌, ◌++◌, length, drop, refl, arith, ap, ◌∙◌, sym, append_assoc}
use Rattle.std.specs.Prelude.{Some, if◌then◌else◌, slice_get}
use Rattle.std.specs.List.{filter, flat_map}
use Rattle.body_check.specs.of_written_types.Named.{Named}
use Rattle.script_program.specs.Needed.{is_needed, collections_numbered}
use Rattle.script_program.specs.Script.{Node, Script}
use Rattle.script_program.specs.Sources.{source_kind, source_kinds}

-- an element below the length
pub found_below : {A : Type 0} (xs : List A) (i : ℕ) → i < length xs
    → (x : A) × (slice_get xs i ≡ Some x)
found_below [] i h = absurd (omega arith)
found_below (x ∷ xs) zero h = (x, refl)
found_below (x ∷ xs) (suc i) h = found_below xs i (omega arith)

-- the element of a place in front of those behind it
pub head_of : {A : Type 0} (xs : List A) (i : ℕ) (x : A) → slice_get xs i ≡ Some x
    → drop i xs ≡ x ∷ drop (suc i) xs
head_of [] i x h = cc
head_of (y ∷ xs) zero x h = ap (λ (z : _). z ∷ xs) cc
head_of (y ∷ xs) (suc i) x h = head_of xs i x h

-- as many are told as there are, where one more is told of each
pub told_many : {A B : Type 0} (told : ℕ → List A → List B) → ((k : ℕ) → told k [] ≡ [])
    → ((k : ℕ) (x : A) (xs : List A) → (y : B) × (told k (x ∷ xs) ≡ y ∷ told (suc k) xs))
    → (k : ℕ) (xs : List A) → length (told k xs) ≡ length xs
told_many told none more k [] = ap length (none k)
told_many told none more k (x ∷ xs) =
    ap length (more k x xs).1 ∙ ap suc (told_many told none more (suc k) xs)

abbrev kinds_of : Script → ℕ → Named Node → List Bool
kinds_of script number nodes =
    flat_map (λ it. source_kind it.1.1.made)
    (filter (λ it. is_needed script it.0) (collections_numbered number nodes))

flat_if : {A B : Type 0} (g : A → List B) (b : Bool) (x : A) (xs : List A)
    → flat_map g (cond b (x ∷ xs) xs) ≡ (if b then g x else []) ++ flat_map g xs
flat_if g true x xs = refl
flat_if g false x xs = refl

pub kinds_next : (script : Script) (old new : List Bool) (number : ℕ)
    → number < length script.nodes
    → ((entry : List ℕ × Node) → slice_get script.nodes number ≡ Some entry
    → new ≡ old ++ (if is_needed script number then source_kind entry.1.made else []))
    → old ++ kinds_of script number (drop number script.nodes) ≡ source_kinds script
    → new ++ kinds_of script (number + 1) (drop (number + 1) script.nodes) ≡ source_kinds script
kinds_next script old new number below pushed h =
    let (entry, found) = found_below script.nodes number below in
    let own : List Bool = if is_needed script number then source_kind entry.1.made else [] in
    let next : suc number ≡ number + 1 = omega arith in
    let step : kinds_of script number (drop number script.nodes)
    ≡ own ++ kinds_of script (number + 1) (drop (number + 1) script.nodes)
    = ap (kinds_of script number) (head_of script.nodes number entry found)
    ∙ flat_if (λ (it : ℕ × (List ℕ × Node)). source_kind it.1.1.made) (is_needed script number)
    (number, entry)
    (filter (λ it. is_needed script it.0) (collections_numbered (suc number)
    (drop (suc number) script.nodes)))
    ∙ ap (λ n. own ++ kinds_of script n (drop n script.nodes)) next in
    ap (λ l. l ++ kinds_of script (number + 1) (drop (number + 1) script.nodes))
    (pushed entry found)
    ∙ append_assoc old own (kinds_of script (number + 1) (drop (number + 1) script.nodes))
    ∙ ap (λ l. old ++ l) (sym step)
    ∙ h
