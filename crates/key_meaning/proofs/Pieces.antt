-- Bytes of pieces tell the pieces.
use Rattle.std.proofs.Common.{◌≡◌, ℕ, ◌^◌, List, [], ◌∷◌, ◌++◌, length, refl, sym, ap, ◌∙◌, arith, append_assoc, append-nil, length-append}
use Rattle.std.specs.List.{AllByRecursion as Each, flat_map}
use Rattle.std.proofs.lemmas.Bool.{lt-ltb}
use Rattle.flume_value.proofs.ByteLemmas.{length_bytes-alike, split_alike}
use Rattle.flume_value.specs.Canonical.{length_bytes}
use Rattle.script_keys.specs.Keys.{piece}
use Rattle.key_meaning.specs.Keyed.{HasKeyLength}

eight : (n : ℕ) → length (length_bytes n) ≡ 8
unfolding length_bytes
eight n = refl

no_piece : (bytes more : List ℕ) → [] ≡ piece bytes ++ more → ⊥
no_piece bytes more e =
    let long = ap length e in
    let all = length-append (length_bytes (length bytes) ++ bytes) more in
    let own = length-append (length_bytes (length bytes)) bytes in
    omega (arith, long, all, own, eight (length bytes))

one_piece : (a b rest more : List ℕ) → HasKeyLength a → HasKeyLength b
    → piece a ++ rest ≡ piece b ++ more → (a ≡ b) × (rest ≡ more)
one_piece a b rest more here there e =
    let lengths =
    length_bytes-alike (length a) (length b) (a ++ rest) (b ++ more)
    (lt-ltb (length a) (2 ^ 64) here) (lt-ltb (length b) (2 ^ 64) there)
    (sym (append_assoc (length_bytes (length a)) a rest) ∙ e
    ∙ append_assoc (length_bytes (length b)) b more) in
    split_alike a b rest more lengths.0 lengths.1

pub same_pieces : (xs ys : List (List ℕ)) → Each HasKeyLength xs → Each HasKeyLength ys
    → flat_map piece xs ≡ flat_map piece ys → xs ≡ ys
same_pieces [] [] here there e = refl
same_pieces [] (y ∷ ys) here there e = absurd (no_piece y (flat_map piece ys) e)
same_pieces (x ∷ xs) [] here there e = absurd (no_piece x (flat_map piece xs) (sym e))
same_pieces (x ∷ xs) (y ∷ ys) here there e =
    let first = one_piece x y (flat_map piece xs) (flat_map piece ys) here.0 there.0 e in
    let rest = same_pieces xs ys here.1 there.1 first.1 in
    λ i. first.0 i ∷ rest i

-- ---- one behind others

none_behind : (ys : List (List ℕ)) (m : List ℕ) → [] ≡ ys ++ m ∷ [] → ⊥
none_behind [] m e = cc
none_behind (y ∷ ys) m e = cc

pub same_last : (xs ys : List (List ℕ)) (n m : List ℕ) → xs ++ n ∷ [] ≡ ys ++ m ∷ [] → n ≡ m
same_last [] [] n m e = cc
same_last [] (y ∷ ys) n m e =
    let rest : [] ≡ ys ++ m ∷ [] = cc in
    absurd (none_behind ys m rest)
same_last (x ∷ xs) [] n m e =
    let rest : xs ++ n ∷ [] ≡ [] = cc in
    absurd (none_behind xs n (sym rest))
same_last (x ∷ xs) (y ∷ ys) n m e =
    let rest : xs ++ n ∷ [] ≡ ys ++ m ∷ [] = cc in
    same_last xs ys n m rest

pub flat_push : (xs : List (List ℕ)) (x : List ℕ)
    → flat_map piece (xs ++ x ∷ []) ≡ flat_map piece xs ++ piece x
flat_push [] x =
    let e : piece x ++ [] ≡ piece x = append-nil (piece x) in e
flat_push (y ∷ xs) x =
    ap (λ l. piece y ++ l) (flat_push xs x)
    ∙ sym (append_assoc (piece y) (flat_map piece xs) (piece x))
