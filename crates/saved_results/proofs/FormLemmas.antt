-- What is kept in a value is what makes that value, and is found in it again.
use Rattle.std.proofs.Common.{◌≡◌, ℕ, ◌^◌, ◌<◌, ℤ, pos, negsuc, Bool, true, false, List, [], ◌∷◌, map, Option, Some, None, nat_lt, if◌then◌else◌, option_and_then, refl, sym, ap, ◌∙◌, subst}
use Rattle.std.specs.Option.{option_map}
use Rattle.std.specs.List.{AllByRecursion}
use Rattle.std.proofs.lemmas.Bool.{ltb-true, lt-ltb}
use Rattle.flume_value.specs.declared.value.Value.{Value, Value-F, out-Value, roll-Value, roll-out-Value}
use Rattle.flume_value.specs.declared.value.Value.TheVariants as variant
use Rattle.flume_value.specs.Parts.{fields_of, list_layer, members_of, record_layer, text_layer, text_of, wide_layer, wide_of}
use Rattle.saved_results.specs.declared.saved.Saved.{Saved}
use Rattle.saved_results.specs.declared.saved.Size.{Size}
use Rattle.saved_results.specs.Forms.{natural_of, saved_from, saved_of, size_from, size_in_value, sized, sizes_in_values, two_among, two_of, with_sizes}
use Rattle.saved_results.specs.Saved.{AreCounts, saved_value, size_value}

-- ---- options that are there

then_some : {A B : Type 0} (f : A → Option B) (o : Option A) (y : B)
    → option_and_then f o ≡ Some y → (x : A) × (o ≡ Some x) × (f x ≡ Some y)
then_some f None y e = absurd (cc)
then_some f (Some x) y e = (x, refl, e)

map_some : {A B : Type 0} (f : A → B) (o : Option A) (y : B)
    → option_map f o ≡ Some y → (x : A) × (o ≡ Some x) × (f x ≡ y)
map_some f None y e = absurd (cc)
map_some f (Some x) y e = (x, refl, cc)

-- ---- one level

-- what holds of the layers of a variant holds of its values
is_variant : {A : Type 0} (part : Value-F Value → Option A) (layer : A → Value-F Value)
    (make : A → Value) → ((a : A) → out-Value (make a) ≡ layer a)
    → ((x : Value-F Value) (a : A) → part x ≡ Some a → x ≡ layer a)
    → (v : Value) (a : A) → part (out-Value v) ≡ Some a → v ≡ make a
is_variant part layer make outs told v a e =
    sym (roll-out-Value v) ∙ ap roll-Value (told (out-Value v) a e ∙ sym (outs a))
    ∙ roll-out-Value (make a)

rec_layer : (x : Value-F Value) (xs : List Value) → record_layer x ≡ Some xs → x ≡ Value-F.Rec xs
rec_layer (Value-F.Rec ys) xs e = let same : ys ≡ xs = cc in ap Value-F.Rec same
rec_layer _ xs e = absurd (cc)

is_rec : (v : Value) (xs : List Value) → fields_of v ≡ Some xs → v ≡ variant.Rec xs
is_rec = is_variant record_layer (λ xs. Value-F.Rec xs) variant.Rec variant.outs-Rec rec_layer

members_layer : (x : Value-F Value) (xs : List Value) → list_layer x ≡ Some xs
    → x ≡ Value-F.List xs
members_layer (Value-F.List ys) xs e = let same : ys ≡ xs = cc in ap Value-F.List same
members_layer _ xs e = absurd (cc)

is_list : (v : Value) (xs : List Value) → members_of v ≡ Some xs → v ≡ variant.List xs
is_list = is_variant list_layer (λ xs. Value-F.List xs) variant.List variant.outs-List members_layer

bytes_layer : (x : Value-F Value) (s : List ℕ) → text_layer x ≡ Some s → x ≡ Value-F.Text s
bytes_layer (Value-F.Text t) s e = let same : t ≡ s = cc in ap Value-F.Text same
bytes_layer _ s e = absurd (cc)

is_text : (v : Value) (s : List ℕ) → text_of v ≡ Some s → v ≡ variant.Text s
is_text = is_variant text_layer (λ s. Value-F.Text s) variant.Text variant.outs-Text bytes_layer

number_layer : (x : Value-F Value) (n : ℤ) → wide_layer x ≡ Some n → x ≡ Value-F.Wide n
number_layer (Value-F.Wide m) n e = let same : m ≡ n = cc in ap Value-F.Wide same
number_layer _ n e = absurd (cc)

is_wide : (v : Value) (n : ℤ) → wide_of v ≡ Some n → v ≡ variant.Wide n
is_wide = is_variant wide_layer (λ n. Value-F.Wide n) variant.Wide variant.outs-Wide number_layer

-- ---- two fields

two_fields : (xs : List Value) (p : Value × Value) → two_among xs ≡ Some p
    → xs ≡ p.0 ∷ p.1 ∷ []
two_fields [] p e = absurd (cc)
two_fields (a ∷ []) p e = absurd (cc)
two_fields (a ∷ (b ∷ [])) p e =
    let q : (a, b) ≡ p = cc in λ i. (q i).0 ∷ (q i).1 ∷ []
two_fields (a ∷ (b ∷ (c ∷ xs))) p e = absurd (cc)

is_two : (v : Value) (p : Value × Value) → two_of v ≡ Some p
    → v ≡ variant.Rec (p.0 ∷ p.1 ∷ [])
is_two v p e =
    let f = then_some two_among (fields_of v) p e in
    is_rec v f.0 f.1 ∙ ap variant.Rec (two_fields f.0 p f.2)

two_again : (a b : Value) → two_of (variant.Rec (a ∷ b ∷ [])) ≡ Some (a, b)
two_again a b =
    ap (λ x. option_and_then two_among (record_layer x)) (variant.outs-Rec (a ∷ b ∷ []))

-- ---- a size

is_count : (z : ℤ) (n : ℕ) → natural_of z ≡ Some n → (z ≡ pos n) × (n < 2 ^ 64)
is_count (pos m) n e = tested (nat_lt m (2 ^ 64)) refl e
  where
    tested : (t : Bool) → nat_lt m (2 ^ 64) ≡ t → (if t then Some m else None) ≡ Some n
        → (pos m ≡ pos n) × (n < 2 ^ 64)
    tested true q e =
        let same : m ≡ n = cc in
        (ap pos same, ltb-true n (2 ^ 64) (ap (λ k. nat_lt k (2 ^ 64)) (sym same) ∙ q))
    tested false q e = absurd (cc)
is_count (negsuc m) n e = absurd (cc)

count_again : (n : ℕ) → n < 2 ^ 64 → natural_of (pos n) ≡ Some n
count_again n low = ap (λ t. if t then Some n else None) (lt-ltb n (2 ^ 64) low)

size_read : (v : Value) (size : Size) → size_in_value v ≡ Some size
    → (v ≡ size_value size) × (size.members < 2 ^ 64)
size_read v size e =
    let p = then_some size_from (two_of v) size e in
    let both = p.0 in
    let t = then_some (λ name. sized name (option_and_then natural_of (wide_of both.1)))
    (text_of both.0) size p.2 in
    let m = map_some (λ members. record { name = t.0; members = members })
    (option_and_then natural_of (wide_of both.1)) size t.2 in
    let w = then_some natural_of (wide_of both.1) m.0 m.1 in
    let n = is_count w.0 m.0 w.2 in
    let first : both.0 ≡ variant.Text t.0 = is_text both.0 t.0 t.1 in
    let second : both.1 ≡ variant.Wide (pos m.0)
    = is_wide both.1 w.0 w.1 ∙ ap variant.Wide n.0 in
    let whole : v ≡ size_value (record { name = t.0; members = m.0 })
    = is_two v both p.1 ∙ (λ i. variant.Rec (first i ∷ second i ∷ [])) in
    (whole ∙ ap size_value m.2, subst (λ (s : Size). s.members < 2 ^ 64) m.2 n.1)

size_again : (size : Size) → size.members < 2 ^ 64 → size_in_value (size_value size) ≡ Some size
size_again size low =
    ap (option_and_then size_from)
    (two_again (variant.Text size.name) (variant.Wide (pos size.members)))
    ∙ ap (λ x. option_and_then (λ name. sized name (option_and_then natural_of (wide_of
    (variant.Wide (pos size.members))))) (text_layer x)) (variant.outs-Text size.name)
    ∙ ap (λ x. sized size.name (option_and_then natural_of (wide_layer x)))
    (variant.outs-Wide (pos size.members))
    ∙ ap (sized size.name) (count_again size.members low)

-- ---- all sizes

sizes_read : (values : List Value) (sizes : List Size) → sizes_in_values values ≡ Some sizes
    → (values ≡ map size_value sizes) × AllByRecursion (λ size. size.members < 2 ^ 64) sizes
sizes_read [] sizes e =
    let none : [] ≡ sizes = cc in
    subst (λ (all : List Size). ([] ≡ map size_value all)
    × AllByRecursion (λ size. size.members < 2 ^ 64) all) none (refl, tt)
sizes_read (value ∷ values) sizes e =
    let f =
    then_some (λ size. option_map (λ all. size ∷ all) (sizes_in_values values))
    (size_in_value value)
    sizes e in
    let m = map_some (λ all. f.0 ∷ all) (sizes_in_values values) sizes f.2 in
    let first = size_read value f.0 f.1 in
    let others = sizes_read values m.0 m.1 in
    subst (λ (all : List Size). (value ∷ values ≡ map size_value all)
    × AllByRecursion (λ size. size.members < 2 ^ 64) all) m.2
    ((λ i. first.0 i ∷ others.0 i), (first.1, others.1))

sizes_again : (sizes : List Size) → AllByRecursion (λ size. size.members < 2 ^ 64) sizes
    → sizes_in_values (map size_value sizes) ≡ Some sizes
sizes_again [] h = refl
sizes_again (size ∷ sizes) h =
    ap (option_and_then (λ s. option_map (λ all. s ∷ all) (sizes_in_values (map size_value sizes))))
    (size_again size h.0)
    ∙ ap (option_map (λ all. size ∷ all)) (sizes_again sizes h.1)

-- ---- what is kept

pub saved_read : (v : Value) (saved : Saved) → saved_of v ≡ Some saved → v ≡ saved_value saved
saved_read v saved e =
    let p = then_some saved_from (two_of v) saved e in
    let both = p.0 in
    let ms =
    then_some (λ members. option_and_then (λ sizes. with_sizes members (sizes_in_values sizes))
    (members_of both.1)) (members_of both.0) saved p.2 in
    let ss =
    then_some (λ sizes. with_sizes ms.0 (sizes_in_values sizes)) (members_of both.1) saved ms.2 in
    let all =
    map_some (λ sizes. record { members = ms.0; sizes = sizes }) (sizes_in_values ss.0) saved
    ss.2 in
    let sizes = sizes_read ss.0 all.0 all.1 in
    let first : both.0 ≡ variant.List ms.0 = is_list both.0 ms.0 ms.1 in
    let second : both.1 ≡ variant.List (map size_value all.0)
    = is_list both.1 ss.0 ss.1 ∙ ap variant.List sizes.0 in
    let whole : v ≡ saved_value (record { members = ms.0; sizes = all.0 })
    = is_two v both p.1 ∙ (λ i. variant.Rec (first i ∷ second i ∷ [])) in
    whole ∙ ap saved_value all.2

pub saved_again : (saved : Saved) → AreCounts saved → saved_of (saved_value saved) ≡ Some saved
saved_again saved h =
    ap (option_and_then saved_from)
    (two_again (variant.List saved.members) (variant.List (map size_value saved.sizes)))
    ∙ ap (λ x. option_and_then (λ members. option_and_then (λ sizes.
    with_sizes members (sizes_in_values sizes)) (members_of
    (variant.List (map size_value saved.sizes))))
    (list_layer x)) (variant.outs-List saved.members)
    ∙ ap (λ x. option_and_then (λ sizes. with_sizes saved.members (sizes_in_values sizes))
    (list_layer x))
    (variant.outs-List (map size_value saved.sizes))
    ∙ ap (with_sizes saved.members) (sizes_again saved.sizes h)
