-- What was found, taken apart.
use Rattle.std.proofs.Common.{◌≡◌, ◌∙◌, ℕ, ◌+◌, ◌<◌, ◌≤◌, List, [], ◌∷◌, ◌++◌, drop, get_or, length, map, Option, Some, None, refl, sym, ap, subst, append_assoc, append-nil}
use Rattle.std.proofs.lemmas.List.{drop_all, drop_more, map-append}
use Rattle.std.proofs.lemmas.List.Concat.{flat_map-append}
use Rattle.kept_results.specs.Lists.{found_of}
use Rattle.kept_results.specs.Sizes.{size_pairs, rested_nodes, sizes_kept}
use Rattle.saved_results.specs.declared.saved.Saved.{Saved}
use Rattle.saved_results.specs.declared.saved.Size.{Size}
use Rattle.script_program.specs.Script.{Script}
use Rattle.cached_course.specs.declared.found.Found.{Found}
use Rattle.cached_course.specs.inner.Found.{IsApart, next_of}

-- what was kept with one of sizes
abbrev pub own_sizes : Script → ℕ × Saved → List (ℕ × ℕ)
own_sizes script it =
    size_pairs (rested_nodes script it.0) (map (λ (size : Size). size.members) it.1.sizes)

-- one more
pub apart_next : (script : Script) (so_far : List (ℕ × Saved)) (old new : Found) (number : ℕ)
    (saved : Saved) → new.numbers.items ≡ old.numbers.items ++ number ∷ []
    → new.members.items ≡ old.members.items ++ saved.members ∷ []
    → new.known.items ≡ old.known.items ++ own_sizes script (number, saved)
    → IsApart script so_far old → IsApart script (so_far ++ (number, saved) ∷ []) new
apart_next script so_far old new number saved numbers members known is =
    let one : List (ℕ × Saved) = (number, saved) ∷ [] in
    record {
      numbers = numbers ∙ ap (λ l. l ++ number ∷ []) is.numbers
          ∙ sym (map-append (λ (it : ℕ × Saved). it.0) so_far one);
      members = members ∙ ap (λ l. l ++ saved.members ∷ []) is.members
          ∙ sym (map-append (λ (it : ℕ × Saved). it.1.members) so_far one);
      known = known ∙ ap (λ l. l ++ own_sizes script (number, saved)) is.known
          ∙ ap (λ l. sizes_kept script so_far ++ l)
          (sym (append-nil (own_sizes script (number, saved))))
          ∙ sym (flat_map-append (own_sizes script) so_far one);
    }

-- nothing more
pub apart_same : (script : Script) (so_far : List (ℕ × Saved)) (found : Found)
    → IsApart script so_far found → IsApart script (so_far ++ []) found
apart_same script so_far found is =
    subst (λ l. IsApart script l found) (sym (append-nil so_far)) is

-- ---- what is left

-- what is left of a list behind its next member
abbrev pub behind : {X : Type 0} → List X → List X
behind [] = []
behind (x ∷ xs) = xs

none_found : (asked : List (ℕ × List ℕ)) → found_of asked [] ≡ []
none_found [] = refl
none_found (it ∷ asked) = refl

-- of what is asked for first, and then of the others
pub found_next : (it : ℕ × List ℕ) (asked : List (ℕ × List ℕ)) (left : List (Option Saved))
    → found_of (it ∷ asked) left ≡ next_of it.0 left ++ found_of asked (behind left)
found_next it asked [] = sym (none_found asked)
found_next it asked (None ∷ left) = refl
found_next it asked (Some saved ∷ left) = refl

-- the turn of one more that is asked for
found_turn : (so_far whole : List (ℕ × Saved)) (it : ℕ × List ℕ)
    (asked : List (ℕ × List ℕ)) (left : List (Option Saved))
    → so_far ++ found_of (it ∷ asked) left ≡ whole
    → (so_far ++ next_of it.0 left) ++ found_of asked (behind left) ≡ whole
found_turn so_far whole it asked left is =
    append_assoc so_far (next_of it.0 left) (found_of asked (behind left))
    ∙ ap (λ l. so_far ++ l) (sym (found_next it asked left)) ∙ is

-- the same in a list of all that is asked for
behind_one : {X : Type 0} (xs : List X) → behind xs ≡ drop 1 xs
behind_one [] = refl
behind_one (x ∷ xs) = refl

pub found_loop : (asked : List (ℕ × List ℕ)) (i : ℕ) (it : ℕ × List ℕ)
    (left after : List (Option Saved)) (so_far whole : List (ℕ × Saved)) → i < length asked
    → it ≡ get_or asked i it → after ≡ drop 1 left
    → so_far ++ found_of (drop i asked) left ≡ whole
    → (so_far ++ next_of it.0 left) ++ found_of (drop (i + 1) asked) after ≡ whole
found_loop asked i it left after so_far whole below at next is =
    let front : drop i asked ≡ it ∷ drop (i + 1) asked
    = drop_more asked i it below ∙ ap (λ x. x ∷ drop (i + 1) asked) (sym at) in
    let next_left : after ≡ behind left = next ∙ sym (behind_one left) in
    ap (λ l. (so_far ++ next_of it.0 left) ++ found_of (drop (i + 1) asked) l) next_left
    ∙ found_turn so_far whole it (drop (i + 1) asked) left
    (ap (λ l. so_far ++ found_of l left) (sym front) ∙ is)

-- at the end
pub found_end : (asked : List (ℕ × List ℕ)) (i : ℕ) (left : List (Option Saved))
    (so_far whole : List (ℕ × Saved)) → length asked ≤ i
    → so_far ++ found_of (drop i asked) left ≡ whole → so_far ≡ whole
found_end asked i left so_far whole past is =
    sym (append-nil so_far)
    ∙ ap (λ l. so_far ++ found_of l left) (sym (drop_all i asked past)) ∙ is
