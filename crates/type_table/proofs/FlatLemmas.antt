-- A loop's step over fields.
use Rattle.std.proofs.Common.{◌≡◌, ℕ, ◌+◌, ◌<◌, List, ◌∷◌, ◌++◌, length, drop, get_or, Option, Some, None, refl, sym, ap, ◌∙◌, append_assoc}
use Rattle.std.proofs.lemmas.List.{drop_more}
use Rattle.flume_types.specs.declared.column.Column.{Column}
use Rattle.flume_types.specs.Columns.{columns_and}

pub drop-item : {X : Type 0} (xs : List X) (i : ℕ) (x : X) → i < length xs → x ≡ get_or xs i x
    → drop i xs ≡ x ∷ drop (i + 1) xs
drop-item xs i x in_ is = drop_more xs i x in_ ∙ ap (λ y. y ∷ drop (i + 1) xs) (sym is)

pub joined-more : (a b : List Column) (own rest : Option (List Column))
    → columns_and (Some a) own ≡ Some b
    → columns_and (Some b) rest ≡ columns_and (Some a) (columns_and own rest)
joined-more a b None rest e = cc
joined-more a b (Some x) None e = refl
joined-more a b (Some x) (Some y) e =
    let whole : b ≡ a ++ x = cc in
    ap (λ z. Some (z ++ y)) whole ∙ ap Some (simp append_assoc)
