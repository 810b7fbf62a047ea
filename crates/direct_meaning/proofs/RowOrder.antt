-- Rows that are sorted behind their beginnings are in order.
use Rattle.std.proofs.Common.{◌≡◌, ◌+◌, ◌/◌, ◌<◌, ℕ, ℤ, pos, true, false, List, [], ◌∷◌, length, map, get_or, refl, sym, ap, ◌∙◌, subst, arith}
use Rattle.std.specs.declared.cmp.Ordering.{Ordering}
use Rattle.std.specs.declared.cmp.Ordering.TheVariants.{Less, Equal, Greater}
use Rattle.std.specs.Cmp.Lexicographic.{slice_cmp}
use Rattle.std.specs.List.Sorted.{IsPermutation, IsSorted}
use Rattle.std.specs.Ordering.{int_cmp, is_lt, nat_cmp, ordering_then, MatchOrdering}
use Rattle.std.proofs.lemmas.Cmp.{int_ranked}
use Rattle.std.proofs.lemmas.List.{get_or-map, length-map}
use Rattle.std.proofs.lemmas.List.Elements.{All-map}
use Rattle.std.proofs.lemmas.List.Sorted.{All-permutation, IsPermutation-map}
use Rattle.std.specs.Prelude.{◌<ℤ◌, All}
use Rattle.flume_value.specs.Bag.{bag_of}
use Rattle.flume_value.specs.Order.{layer_cmp, value_cmp}
use Rattle.flume_value.specs.declared.value.Value.{Value, Value-F, out-Value}
use Rattle.flume_value.proofs.BagLemmas.{bag_of-sorted}
use Rattle.flume_value.proofs.OrderLemmas.{value_cmp-step}
use Rattle.direct_meaning.specs.inner.Beginnings.{beginning, beginning_by, begun, layer_beginning, leading}
use Rattle.direct_meaning.proofs.TextOrder.{text_greater}

abbrev pub Begun : Type 0
Begun = (ℕ × ℤ) × Value

abbrev row_of : Begun → Value
row_of it = it.1

-- the rows without their beginnings
abbrev pub alone : List Begun → List Value
alone ns = map (λ (it : Begun). it.1) ns

abbrev pub Holds : Begun → Type 0
Holds it = it.0 ≡ beginning it.1

abbrev beginnings_cmp : ℕ × ℤ → ℕ × ℤ → Ordering
beginnings_cmp a b = ordering_then (nat_cmp a.0 b.0) (int_cmp a.1 b.1)

-- ---- two rows

both_ints : (o r : Ordering) → is_lt (ordering_then o (ordering_then o r)) ≡ false
    → is_lt (ordering_then o r) ≡ false
both_ints Less r up = up
both_ints Equal r up = up
both_ints Greater r up = up

text_by : (s t : List ℕ) (r o : Ordering)
    → MatchOrdering o (pos (leading 8 s / 2) <ℤ pos (leading 8 t / 2))
    (pos (leading 8 s / 2) ≡ pos (leading 8 t / 2)) (pos (leading 8 t / 2) <ℤ pos (leading 8 s / 2))
    → is_lt (ordering_then o (ordering_then (slice_cmp nat_cmp s t) r)) ≡ false
    → is_lt (ordering_then (slice_cmp nat_cmp s t) r) ≡ false
text_by s t r Less h up = cc up
text_by s t r Equal h up = up
text_by s t r Greater h up = ap (λ o. is_lt (ordering_then o r)) (text_greater s t h)

both_texts : (s t : List ℕ) (r : Ordering)
    → is_lt (ordering_then (int_cmp (pos (leading 8 s / 2)) (pos (leading 8 t / 2)))
    (ordering_then (slice_cmp nat_cmp s t) r)) ≡ false
    → is_lt (ordering_then (slice_cmp nat_cmp s t) r) ≡ false
both_texts s t r up =
    let a = pos (leading 8 s / 2) in
    let b = pos (leading 8 t / 2) in
    text_by s t r (int_cmp a b) (int_ranked a b (int_cmp a b) refl) up

-- two records by their first fields, where their rests compare so
by_fields : (u v : Value-F Value) (r : Ordering)
    → is_lt (ordering_then (beginnings_cmp (beginning_by u) (beginning_by v))
    (ordering_then (layer_cmp value_cmp u v) r)) ≡ false
    → is_lt (ordering_then (layer_cmp value_cmp u v) r) ≡ false
by_fields (Value-F.Int m) (Value-F.Int n) r up = both_ints (int_cmp m n) r up
by_fields (Value-F.Int m) _ r up = up
by_fields (Value-F.Bool a) (Value-F.Int n) r up = refl
by_fields (Value-F.Bool a) _ r up = up
by_fields (Value-F.Text s) (Value-F.Int n) r up = refl
by_fields (Value-F.Text s) (Value-F.Bool b) r up = refl
by_fields (Value-F.Text s) (Value-F.Text t) r up = both_texts s t r up
by_fields (Value-F.Text s) _ r up = up
by_fields _ (Value-F.Int n) r up = refl
by_fields _ (Value-F.Bool b) r up = refl
by_fields _ (Value-F.Text t) r up = refl
by_fields _ _ r up = up

-- a record that begins with a field is above all that has 0
not_below : (v : Value-F Value) (o : Ordering)
    → is_lt (ordering_then (beginnings_cmp (0, pos 0) (beginning_by v)) o) ≡ false → true ≡ false
not_below (Value-F.Int n) o up = up
not_below (Value-F.Bool b) o up = up
not_below (Value-F.Text t) o up = up
not_below _ o up = up

-- and below all that is greater than each record
not_above : (u : Value-F Value)
    → is_lt (ordering_then (beginnings_cmp (beginning_by u) (4, pos 0)) Less) ≡ false
    → true ≡ false
not_above (Value-F.Int n) up = up
not_above (Value-F.Bool b) up = up
not_above (Value-F.Text t) up = up
not_above _ up = up

abbrev LayersRise : Value-F Value → Value-F Value → Type 0
LayersRise x y =
    is_lt (ordering_then (beginnings_cmp (layer_beginning x) (layer_beginning y))
    (layer_cmp value_cmp x y)) ≡ false → is_lt (layer_cmp value_cmp x y) ≡ false

records_rise : (f g : Value) (xs ys : List Value)
    → LayersRise (Value-F.Rec (f ∷ xs)) (Value-F.Rec (g ∷ ys))
records_rise f g xs ys up =
    let r = slice_cmp value_cmp xs ys in
    let u = out-Value f in
    let v = out-Value g in
    let step = value_cmp-step f g in
    subst (λ (o : Ordering). is_lt (ordering_then o r) ≡ false) (sym step)
    (by_fields u v r
    (subst (λ (o : Ordering). is_lt (ordering_then (beginnings_cmp (beginning_by u)
    (beginning_by v)) (ordering_then o r)) ≡ false) step up))

layers_rise : (x y : Value-F Value) → LayersRise x y
layers_rise (Value-F.Rec []) (Value-F.Rec []) up = refl
layers_rise (Value-F.Rec []) (Value-F.Rec (g ∷ ys)) up = not_below (out-Value g) Less up
layers_rise (Value-F.Rec (f ∷ xs)) (Value-F.Rec []) up = refl
layers_rise (Value-F.Rec (f ∷ xs)) (Value-F.Rec (g ∷ ys)) up = records_rise f g xs ys up
layers_rise (Value-F.Rec (f ∷ xs)) (Value-F.Left y) up = not_above (out-Value f) up
layers_rise (Value-F.Rec (f ∷ xs)) (Value-F.Right y) up = not_above (out-Value f) up
layers_rise (Value-F.Rec (f ∷ xs)) (Value-F.Wide n) up = not_above (out-Value f) up
layers_rise (Value-F.Rec (f ∷ xs)) _ up = refl
layers_rise (Value-F.Int m) (Value-F.Rec (g ∷ ys)) up = not_below (out-Value g) Less up
layers_rise (Value-F.Bool b) (Value-F.Rec (g ∷ ys)) up = not_below (out-Value g) Less up
layers_rise (Value-F.Text t) (Value-F.Rec (g ∷ ys)) up = not_below (out-Value g) Less up
layers_rise (Value-F.List l) (Value-F.Rec (g ∷ ys)) up = not_below (out-Value g) Less up
layers_rise _ (Value-F.Rec (g ∷ ys)) up = refl
layers_rise _ _ up = up

abbrev begun_cmp : Begun → Begun → Ordering
begun_cmp x y = ordering_then (beginnings_cmp x.0 y.0) (value_cmp x.1 y.1)

rows_rise : (x y : Begun) → Holds x → Holds y → is_lt (begun_cmp x y) ≡ false
    → is_lt (value_cmp x.1 y.1) ≡ false
rows_rise x y f g up =
    let a = out-Value x.1 in
    let b = out-Value y.1 in
    let step = value_cmp-step x.1 y.1 in
    ap is_lt step
    ∙ layers_rise a b
    ((λ i. is_lt (ordering_then (beginnings_cmp (sym f i) (sym g i)) (sym step i))) ∙ up)

-- ---- lists of rows

alone-IsSorted : (ns : List Begun) → All Holds ns → IsSorted begun_cmp ns
    → IsSorted value_cmp (alone ns)
alone-IsSorted [] all up k d low high = absurd (omega arith)
alone-IsSorted (n ∷ ns) all up k d low high =
    let within : k + 1 < length (n ∷ ns) = omega (arith, length-map (n ∷ ns) row_of) in
    let next = get_or-map row_of (n ∷ ns) (k + 1) n d within in
    let this = get_or-map row_of (n ∷ ns) k n d (omega arith) in
    ap (λ x. is_lt (value_cmp x (get_or (alone (n ∷ ns)) k d))) next
    ∙ ap (λ y. is_lt (value_cmp (row_of (get_or (n ∷ ns) (k + 1) n)) y)) this
    ∙ rows_rise (get_or (n ∷ ns) (k + 1) n) (get_or (n ∷ ns) k n) (all (k + 1) n within)
    (all k n (omega arith)) (up k n low within)

begun-Holds : (rows : List Value) → All Holds (map begun rows)
begun-Holds rows = All-map Holds begun rows (λ k d below. refl)

begun-alone : (rows : List Value) → alone (map begun rows) ≡ rows
begun-alone [] = refl
begun-alone (row ∷ rows) = ap (λ l. row ∷ l) (begun-alone rows)

-- what is sorted so is the list of the bag
pub sorted_by_beginnings : (cmp : Value → Value → Ordering) → cmp ≡ value_cmp
    → (rows : List Value) (ns ms : List Begun) → ns ≡ map begun rows → IsPermutation ns ms
    → IsSorted (λ (x : Begun) (y : Begun). ordering_then (ordering_then (nat_cmp x.0.0 y.0.0)
    (int_cmp x.0.1 y.0.1)) (cmp x.1 y.1)) ms → alone ms ≡ bag_of rows
sorted_by_beginnings cmp same rows ns ms are moved up =
    let holds : All Holds ns = subst (All Holds) (sym are) (begun-Holds rows) in
    bag_of-sorted (alone ns) (alone ms) (IsPermutation-map row_of ns ms moved)
    (alone-IsSorted ms (All-permutation Holds ns ms moved holds)
    (subst (λ (c : Value → Value → Ordering). IsSorted (λ (x : Begun) (y : Begun).
    ordering_then (beginnings_cmp x.0 y.0) (c x.1 y.1)) ms) same up))
    ∙ ap bag_of (ap alone are ∙ begun-alone rows)
