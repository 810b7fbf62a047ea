-- The canonical bytes of a value, before any others, tell where they end and which value it is.
use Rattle.std.proofs.Common.{◌≡◌, ℕ, Bool, true, false, ◌&&◌, List, [], ◌∷◌, ◌++◌, length, map, if◌then◌else◌, refl, sym, ap, ◌∙◌, subst, append_assoc, arith}
use Rattle.std.specs.List.{list_all, flat_map}
use Rattle.flume_value.specs.declared.value.Value.{Value, Value-F, out-Value, roll-Value, roll-out-Value, out-roll-Value, map-Value, ind-Value}
use Rattle.flume_value.specs.Canonical.{length_bytes, layer_bytes, canonical}
use Rattle.flume_value.specs.Ranges.{fits_length, layer_fits, fits, IsHeld}
use Rattle.flume_value.proofs.BoolLemmas.{both_true}
use Rattle.flume_value.proofs.ByteLemmas.{split_alike, length_bytes-alike, int_bytes-alike, wide_bytes-alike}
use Rattle.flume_value.proofs.CanonicalLemmas.{canonical-step}
use Rattle.flume_value.proofs.RangeLemmas.{fits-step}

-- ---- one level

tail_of : List ℕ → List ℕ
tail_of [] = []
tail_of (x ∷ xs) = xs

abbrev TellsApart : Value → Type 0
TellsApart a = (b : Value) (rest more : List ℕ) → IsHeld a → IsHeld b
    → canonical a ++ rest ≡ canonical b ++ more → (a ≡ b) × (rest ≡ more)

abbrev plain : (v : Value) × TellsApart v → Value
plain e = e.0

bools_alike : (a b : Bool) (rest more : List ℕ)
    → (if a then 1 else 0) ∷ rest ≡ (if b then 1 else 0) ∷ more → (a ≡ b) × (rest ≡ more)
unfolding tail_of
bools_alike false false rest more e = (refl, ap tail_of e)
bools_alike true true rest more e = (refl, ap tail_of e)
bools_alike false true rest more e = cc
bools_alike true false rest more e = cc

-- members of two lists of one length, each list before more
members_alike : (es : List ((v : Value) × TellsApart v)) (ys : List Value) (rest more : List ℕ)
    → length (map plain es) ≡ length ys
    → list_all fits (map plain es) ≡ true → list_all fits ys ≡ true
    → flat_map canonical (map plain es) ++ rest ≡ flat_map canonical ys ++ more
    → (map plain es ≡ ys) × (rest ≡ more)
members_alike [] [] rest more same p q e = (refl, e)
members_alike [] (y ∷ ys) rest more same p q e = absurd (omega (arith, same))
members_alike (x ∷ es) [] rest more same p q e = absurd (omega (arith, same))
members_alike (x ∷ es) (y ∷ ys) rest more same p q e =
    let left = both_true (fits (plain x)) (list_all fits (map plain es)) p in
    let right = both_true (fits y) (list_all fits ys) q in
    let firsts = x.1 y (flat_map canonical (map plain es) ++ rest) (flat_map canonical ys ++ more)
    left.0 right.0
    (sym (append_assoc (canonical (plain x)) (flat_map canonical (map plain es)) rest)
    ∙ e ∙ append_assoc (canonical y) (flat_map canonical ys) more) in
    let others = members_alike es ys rest more (omega (arith, same)) left.1 right.1 firsts.1 in
    ((λ i. firsts.0 i ∷ others.0 i), others.1)

-- a length and then members
lists_alike : (es : List ((v : Value) × TellsApart v)) (ys : List Value) (rest more : List ℕ)
    → fits_length (length (map plain es)) && list_all fits (map plain es) ≡ true
    → fits_length (length ys) && list_all fits ys ≡ true
    → (length_bytes (length (map plain es)) ++ flat_map canonical (map plain es)) ++ rest
    ≡ (length_bytes (length ys) ++ flat_map canonical ys) ++ more
    → (map plain es ≡ ys) × (rest ≡ more)
lists_alike es ys rest more p q e =
    let left = both_true (fits_length (length (map plain es))) (list_all fits (map plain es)) p in
    let right = both_true (fits_length (length ys)) (list_all fits ys) q in
    let lengths = length_bytes-alike (length (map plain es)) (length ys) _ _ left.0 right.0
    (sym (append_assoc (length_bytes (length (map plain es)))
    (flat_map canonical (map plain es)) rest)
    ∙ e ∙ append_assoc (length_bytes (length ys)) (flat_map canonical ys) more) in
    members_alike es ys rest more lengths.0 left.1 right.1 lengths.1

texts_alike : (s t rest more : List ℕ) → fits_length (length s) ≡ true
    → fits_length (length t) ≡ true
    → (length_bytes (length s) ++ s) ++ rest ≡ (length_bytes (length t) ++ t) ++ more
    → (s ≡ t) × (rest ≡ more)
texts_alike s t rest more p q e =
    let lengths = length_bytes-alike (length s) (length t) _ _ p q
    (sym (append_assoc (length_bytes (length s)) s rest)
    ∙ e ∙ append_assoc (length_bytes (length t)) t more) in
    split_alike s t rest more lengths.0 lengths.1

layer_alike : (x : Value-F ((v : Value) × TellsApart v)) (y : Value-F Value) (rest more : List ℕ)
    → layer_fits fits (map-Value ((v : Value) × TellsApart v) Value plain x) ≡ true
    → layer_fits fits y ≡ true
    → layer_bytes canonical (map-Value ((v : Value) × TellsApart v) Value plain x) ++ rest
    ≡ layer_bytes canonical y ++ more
    → (map-Value ((v : Value) × TellsApart v) Value plain x ≡ y) × (rest ≡ more)
unfolding tail_of
layer_alike (Value-F.Int m) (Value-F.Int n) rest more p q e =
    let same = int_bytes-alike m n rest more p q (ap tail_of e) in (ap Value-F.Int same.0, same.1)
layer_alike (Value-F.Bool a) (Value-F.Bool b) rest more p q e =
    let same = bools_alike a b rest more (ap tail_of e) in (ap Value-F.Bool same.0, same.1)
layer_alike (Value-F.Text s) (Value-F.Text t) rest more p q e =
    let same = texts_alike s t rest more p q (ap tail_of e) in (ap Value-F.Text same.0, same.1)
layer_alike (Value-F.List es) (Value-F.List ys) rest more p q e =
    let same = lists_alike es ys rest more p q (ap tail_of e) in (ap Value-F.List same.0, same.1)
layer_alike (Value-F.Rec es) (Value-F.Rec ys) rest more p q e =
    let same = lists_alike es ys rest more p q (ap tail_of e) in (ap Value-F.Rec same.0, same.1)
layer_alike (Value-F.Left x) (Value-F.Left y) rest more p q e =
    let same = x.1 y rest more p q (ap tail_of e) in (ap Value-F.Left same.0, same.1)
layer_alike (Value-F.Right x) (Value-F.Right y) rest more p q e =
    let same = x.1 y rest more p q (ap tail_of e) in (ap Value-F.Right same.0, same.1)
layer_alike (Value-F.Wide m) (Value-F.Wide n) rest more p q e =
    let same = wide_bytes-alike m n rest more p q (ap tail_of e) in (ap Value-F.Wide same.0, same.1)
layer_alike _ _ rest more p q e = cc

-- ---- every level

pub canonical-alike : (a : Value) → TellsApart a
canonical-alike = ind-Value TellsApart (λ x y is b rest more p q e.
    let held = sym (fits-step (roll-Value x) ∙ ap (layer_fits fits) (out-roll-Value x)) ∙ p in
    let bytes =
    ap (λ bs. bs ++ rest)
    (sym (canonical-step (roll-Value x) ∙ ap (layer_bytes canonical) (out-roll-Value x)))
    ∙ e ∙ ap (λ bs. bs ++ more) (canonical-step b) in
    let same = subst (λ z. layer_fits fits z ≡ true
    → layer_bytes canonical z ++ rest ≡ layer_bytes canonical (out-Value b) ++ more
    → (z ≡ out-Value b) × (rest ≡ more)) is
    (λ g h. layer_alike y (out-Value b) rest more g (sym (fits-step b) ∙ q) h) held bytes in
    (ap roll-Value same.0 ∙ roll-out-Value b, same.1))

pub canonical-tells : (a b : Value) → IsHeld a → IsHeld b → canonical a ≡ canonical b → a ≡ b
canonical-tells a b p q e = (canonical-alike a b [] [] p q (ap (λ bs. bs ++ []) e)).0
