-- What references refer to.
use Rattle.std.proofs.Common.{◌≡◌, List, [], ◌∷◌, ◌++◌, map, length, sym, ap, ◌∙◌, arith, append-nil}
use Rattle.std.specs.Borrow.{Bor}
use Rattle.std.proofs.lemmas.List.{map-append}
use Rattle.flume_value.specs.declared.value.Value.{Value}
use Rattle.partial_tables.specs.Tables.{Pairs}

abbrev pub told : List (Bor (Value × Value)) → Pairs
told refs = map (λ (p : Bor (Value × Value)). p.now) refs

pub told-more : (refs : List (Bor (Value × Value))) (one : Bor (Value × Value))
    → told (refs ++ one ∷ []) ≡ told refs ++ one.now ∷ []
told-more refs one = map-append (λ (p : Bor (Value × Value)). p.now) refs (one ∷ [])

-- where no reference is left, all are told
pub all_told : (done rest whole : List (Bor (Value × Value))) → done ++ rest ≡ whole
    → length rest ≡ 0 → told done ≡ told whole
all_told done [] whole e h = ap told (sym (append-nil done) ∙ e)
all_told done (p ∷ rest) whole e h = absurd (omega arith)
