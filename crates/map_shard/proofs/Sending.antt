-- The output channels of a stage, one after another.
use Rattle.std.proofs.Common.{◌≡◌, ◌<◌, ◌+◌, ℕ, zero, suc, List, [], ◌∷◌, ◌++◌, length, get_or, drop, take, Option, sym, ap, ◌∙◌, subst, arith}
use Rattle.std.specs.Prelude.{slice_get}
use Rattle.std.specs.List.{AllByRecursion, AllZip}
use Rattle.std.specs.Option.{IsSomeAnd}
use Rattle.std.proofs.lemmas.List.{take_more}
use Rattle.shuffle_parts.proofs.Lifting.{zip_push}
use Rattle.map_shard.proofs.Later.{drop_at}

module _ {A B : Type 0} (P : A → B → Type 0) where
  pub zip_further : (all : List A) (i : ℕ) (ys more : List B) (x : A) (y : B)
      → AllZip P (take i all) ys → i < length all → x ≡ get_or all i x → P x y
      → more ≡ ys ++ y ∷ [] → AllZip P (take (i + 1) all) more
  zip_further all i ys more x y a h is p push =
      subst (λ l. AllZip P l more)
      (sym (take_more all i x h ∙ ap (λ z. take i all ++ z ∷ []) (sym is)))
      (subst (AllZip P (take i all ++ x ∷ [])) (sym push) (zip_push P (take i all) ys x y a p))

  -- ---- the next ones
  of_first : (x : A) (xs : List A) (ys : List B) → AllZip P (x ∷ xs) ys
      → IsSomeAnd (slice_get ys 0) (P x) × AllZip P xs (drop 1 ys)
  of_first x xs [] a = absurd a
  of_first x xs (y ∷ ys) a = a

  zip_next : (all : List A) (i : ℕ) (ys : List B) (x : A) → AllZip P (drop i all) ys
      → i < length all → x ≡ get_or all i x
      → IsSomeAnd (slice_get ys 0) (P x) × AllZip P (drop (i + 1) all) (drop 1 ys)
  zip_next all i ys x a h is =
      of_first x (drop (i + 1) all) ys
      (subst (λ l. AllZip P l ys)
      (drop_at all i x h ∙ ap (λ z. z ∷ drop (i + 1) all) (sym is)) a)

  pub next_one : (all : List A) (i : ℕ) (ys : List B) (x : A) (next : Option B)
      → AllZip P (drop i all) ys → i < length all → x ≡ get_or all i x → next ≡ slice_get ys 0
      → IsSomeAnd next (P x)
  next_one all i ys x next a h is e =
      subst (λ n. IsSomeAnd n (P x)) (sym e) (zip_next all i ys x a h is).0

  pub next_ones : (all : List A) (i : ℕ) (ys rest : List B) (x : A) → AllZip P (drop i all) ys
      → i < length all → x ≡ get_or all i x → rest ≡ drop 1 ys → AllZip P (drop (i + 1) all) rest
  next_ones all i ys rest x a h is e =
      subst (AllZip P (drop (i + 1) all)) (sym e) (zip_next all i ys x a h is).1

pub member : {A : Type 0} (P : A → Type 0) (xs : List A) (i : ℕ) (x : A) → AllByRecursion P xs
    → i < length xs → x ≡ get_or xs i x → P x
member P [] i x all h is = absurd (omega arith)
member P (y ∷ xs) zero x all h is = subst P (sym is) all.0
member P (y ∷ xs) (suc i) x all h is = member P xs i x all.1 (omega arith) is
