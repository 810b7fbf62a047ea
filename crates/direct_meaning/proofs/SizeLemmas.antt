-- The sizes of what is kept, one after another, and of the collections that it is kept of.
use Rattle.std.proofs.Common.{◌≡◌, ℕ, zero, suc, ◌+◌, ◌-◌, ◌^◌, ◌<◌, List, [], ◌∷◌, ◌++◌, drop, get_or, length, min, Option, Some, None, slice_get, refl, sym, ap, ◌∙◌, arith, add-one, append_assoc, append-nil}
use Rattle.std.specs.List.{AllZip}
use Rattle.std.specs.Option.{option_map}
use Rattle.script_laws.specs.of_written_types.Named.{Named}
use Rattle.script_program.proofs.SourceSteps.{head_of}
use Rattle.script_program.specs.Script.{Node}
use Rattle.flume_collection.specs.Collection.{Collection}
use Rattle.direct_meaning.proofs.PlaceLemmas.{mapped}
use Rattle.direct_meaning.specs.Direct.{sizes_from}
use Rattle.direct_meaning.specs.declared.kept.Kept.{Kept}
use Rattle.direct_meaning.specs.inner.Kept.{KeepsAny, size_line, sizes_kept}

pub at_index : {A : Type 0} (xs : List A) (i : ℕ) (x : A) → i < length xs → x ≡ get_or xs i x
    → slice_get xs i ≡ Some x
at_index [] i x below at = absurd (omega arith)
at_index (y ∷ xs) zero x below at = ap Some (sym at)
at_index (y ∷ xs) (suc i) x below at = at_index xs i x (omega arith) at

size_ahead : (nodes : Named Node) (table : List (Option Kept)) (n : ℕ) (name : List ℕ)
    (kept : Option Kept)
    → option_map (λ (entry : List ℕ × Node). entry.0) (slice_get nodes n) ≡ Some name
    → slice_get table n ≡ Some kept
    → sizes_kept (drop n nodes) (drop n table)
    ≡ size_line name kept ++ sizes_kept (drop (suc n) nodes) (drop (suc n) table)
size_ahead nodes table n name kept named at =
    let (entry, found, same) =
    mapped (λ (entry : List ℕ × Node). entry.0) (slice_get nodes n) name named in
    (λ i. sizes_kept (head_of nodes n entry found i) (head_of table n kept at i))
    ∙ (λ i. size_line (same i) kept ++ sizes_kept (drop (suc n) nodes) (drop (suc n) table))

pub size_more : (nodes : Named Node) (table : List (Option Kept)) (n : ℕ) (name : List ℕ)
    (kept : Option Kept) (sizes more : List (List ℕ × ℕ))
    → option_map (λ (entry : List ℕ × Node). entry.0) (slice_get nodes n) ≡ Some name
    → n < length table → kept ≡ get_or table n kept
    → more ≡ sizes ++ size_line name kept
    → sizes ++ sizes_kept (drop n nodes) (drop n table) ≡ sizes_kept nodes table
    → more ++ sizes_kept (drop (n + 1) nodes) (drop (n + 1) table) ≡ sizes_kept nodes table
size_more nodes table n name kept sizes more named below at is so_far =
    (λ i. is i ++ sizes_kept (drop (add-one n i) nodes) (drop (add-one n i) table))
    ∙ (append_assoc sizes (size_line name kept)
    (sizes_kept (drop (suc n) nodes) (drop (suc n) table))
    ∙ (ap (λ (l : List (List ℕ × ℕ)). sizes ++ l)
    (sym (size_ahead nodes table n name kept named (at_index table n kept below at)))
    ∙ so_far))

none_left : (nodes : Named Node) → sizes_kept nodes [] ≡ []
none_left [] = refl
none_left (entry ∷ nodes) = refl

pub all_dropped : {A : Type 0} (xs : List A) (n : ℕ) → n ≡ length xs → drop n xs ≡ []
all_dropped [] zero end = refl
all_dropped [] (suc n) end = absurd (omega arith)
all_dropped (x ∷ xs) zero end = absurd (omega arith)
all_dropped (x ∷ xs) (suc n) end = all_dropped xs n (omega arith)

-- the sizes of what is kept are those of the collections
pub sizes_same : (nodes : Named Node) (kept : List (Option Kept))
    (table : List (Option Collection)) → AllZip KeepsAny kept table
    → sizes_kept nodes kept ≡ sizes_from nodes table
sizes_same [] kept table keeps = refl
sizes_same (entry ∷ nodes) [] [] keeps = refl
sizes_same (entry ∷ nodes) [] (c ∷ table) keeps = absurd keeps
sizes_same (entry ∷ nodes) (k ∷ kept) [] keeps = absurd keeps
sizes_same (entry ∷ nodes) (None ∷ kept) (None ∷ table) keeps = sizes_same nodes kept table keeps.1
sizes_same (entry ∷ nodes) (None ∷ kept) (Some c ∷ table) keeps = absurd keeps.0
sizes_same (entry ∷ nodes) (Some k ∷ kept) (None ∷ table) keeps = absurd keeps.0
sizes_same (entry ∷ nodes) (Some k ∷ kept) (Some c ∷ table) keeps =
    λ i. (entry.0, min (length (keeps.0.members i)) (2 ^ 64 - 1))
    ∷ sizes_same nodes kept table keeps.1 i
