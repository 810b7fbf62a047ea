-- Lists that are printed part by part.
use Rattle.std.proofs.Common.{◌≡◌, ℕ, ◌+◌, ◌<◌, ◌==◌, suc, is_err, true, false, rules, List, [], ◌∷◌, ◌++◌, length, take, drop, get_or, codes, if◌then◌else◌, Result, Ok, Err, refl, ap, sym, ◌∙◌, arith, append_assoc}
use Rattle.std.specs.List.{flat_map}
use Rattle.std.proofs.lemmas.List.{append-nil, length-take-le, take-append-drop, take_more}
use Rattle.std.proofs.lemmas.Grind.{flat_map-append}
use Rattle.std.proofs.Math.Seq.{drop-cons}
use Rattle.printing.specs.Printed.{listed}
use Rattle.outside.specs.Says.{Says}
use Rattle.outside.specs.Seen.{SeenScreen}
use Rattle.outside.proofs.SaidLemmas.{says_as, says_both, says_cut}

-- what stands before the part at a place
abbrev pub comma : ℕ → List ℕ
comma at = if at == 0 then [] else codes ", "

-- a part behind a comma
abbrev behind : {X : Type 0} → (X → List ℕ) → X → List ℕ
behind f x = codes ", " ++ f x

-- a comma stands before each part but the first
comma_later : (n : ℕ) → comma (suc n) ≡ codes ", "
comma_later n = let differs : (suc n == 0) ≡ false = search rules in rw differs

-- a list round one of its parts
listed_round : {X : Type 0} (f : X → List ℕ) (ys : List X) (y : X) (zs : List X)
    → listed f (ys ++ y ∷ zs) ≡ listed f ys
    ++ ((comma (length ys) ++ f y) ++ flat_map (behind f) zs)
listed_round f [] y zs = refl
listed_round f (x ∷ xs) y zs =
    ap (λ rest. f x ++ rest) (flat_map-append (behind f) xs (y ∷ zs))
    ∙ (sym (append_assoc (f x) (flat_map (behind f) xs) (behind f y ++ flat_map (behind f) zs))
    ∙ ap (λ text. (f x ++ flat_map (behind f) xs) ++ ((text ++ f y) ++ flat_map (behind f) zs))
    (sym (comma_later (length xs))))

-- the same, by the part's place
listed_at : {X : Type 0} (f : X → List ℕ) (xs : List X) (i : ℕ) (d : X) → i < length xs
    → listed f xs ≡ listed f (take i xs)
    ++ ((comma i ++ f (get_or xs i d)) ++ flat_map (behind f) (drop (suc i) xs))
listed_at f xs i d below =
    ap (listed f) (sym (take-append-drop i xs)
    ∙ ap (λ rest. take i xs ++ rest) (drop-cons xs i d below))
    ∙ (listed_round f (take i xs) (get_or xs i d) (drop (suc i) xs)
    ∙ ap (λ n. listed f (take i xs) ++ ((comma n ++ f (get_or xs i d))
    ++ flat_map (behind f) (drop (suc i) xs))) (length-take-le i xs (omega (arith, below))))

-- one part more
listed_more : {X : Type 0} (f : X → List ℕ) (xs : List X) (i : ℕ) (d : X) → i < length xs
    → listed f (take (i + 1) xs) ≡ listed f (take i xs) ++ (comma i ++ f (get_or xs i d))
listed_more f xs i d below =
    ap (listed f) (take_more xs i d below)
    ∙ (listed_round f (take i xs) (get_or xs i d) []
    ∙ (ap (λ n. listed f (take i xs) ++ ((comma n ++ f (get_or xs i d)) ++ []))
    (length-take-le i xs (omega (arith, below)))
    ∙ ap (λ part. listed f (take i xs) ++ part) (append-nil (comma i ++ f (get_or xs i d)))))

-- the parts before a place are said, and the part there is cut short
pub listed_cut : {X T U V E : Type 0} (f : X → List ℕ) (xs : List X) (i : ℕ) (d : X)
    (part : List ℕ) (before middle after : SeenScreen) (x : T) (e : E) (r : Result U E)
    → i < length xs → part ≡ comma i ++ f (get_or xs i d) → is_err r ≡ true
    → Says {T = T} {E = E} (listed f (take i xs)) before middle (Ok x)
    → Says {T = V} {E = E} part middle after (Err e)
    → Says (listed f xs) before after r
listed_cut {V = V} {E = E} f xs i d part before middle after x e r below same is so_far cut =
    let rest : List ℕ = flat_map (behind f) (drop (suc i) xs) in
    says_as (listed f xs) (listed f (take i xs) ++ (part ++ rest)) before after r
    (listed_at f xs i d below ∙ ap (λ text. listed f (take i xs) ++ (text ++ rest)) (sym same))
    (says_both (listed f (take i xs)) (part ++ rest) before middle after x r so_far
    (says_cut part rest middle after e r is cut))

-- the parts before a place are said, and the part there
pub listed_said : {X T U E : Type 0} (f : X → List ℕ) (xs : List X) (i : ℕ) (d : X) (part : List ℕ)
    (before middle after : SeenScreen) (x : T) (y : U)
    → i < length xs → part ≡ comma i ++ f (get_or xs i d)
    → Says {T = T} {E = E} (listed f (take i xs)) before middle (Ok x)
    → Says {T = U} {E = E} part middle after (Ok y)
    → Says {T = U} {E = E} (listed f (take (i + 1) xs)) before after (Ok y)
listed_said {U = U} {E = E} f xs i d part before middle after x y below same so_far said =
    says_as {T = U} {E = E} (listed f (take (i + 1) xs))
    (listed f (take i xs) ++ part) before after (Ok y)
    (listed_more f xs i d below ∙ ap (λ text. listed f (take i xs) ++ text) (sym same))
    (says_both (listed f (take i xs)) part before middle after x (Ok y) so_far said)
