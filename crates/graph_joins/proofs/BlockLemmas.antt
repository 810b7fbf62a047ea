-- Names in blocks, of which one has others than before.
use Rattle.std.specs.List.{insert}
use Rattle.std.proofs.Common.{◌≡◌, ◌<◌, ◌≤◌, ℕ, ◌+◌, zero, suc, Bool, true, false, cond, List, [], ◌∷◌, ◌++◌, take, drop, set, length, get_or, Some, None, refl, sym, ap, ap₂, subst, ◌∙◌, append_assoc, append-nil, length-append, arith}
use Rattle.std.proofs.lemmas.Bool.{cond_below}
use Rattle.std.proofs.lemmas.List.{drop-append-le, drop-set-lt, drop_more, set_split, take-append-drop, take-append-le, take_more_set}
use Rattle.std.proofs.lemmas.List.Concat.{flat_map-append, get_or-flat_map}
use Rattle.graph_joins.specs.Blocks.{names_in}
use Rattle.graph_joins.specs.declared.names.Block.{Block}
use Rattle.graph_joins.specs.inner.Splices.{joined, spliced_at}

names_append : (bs cs : List Block) → names_in (bs ++ cs) ≡ names_in bs ++ names_in cs
names_append bs cs = flat_map-append (λ (b : Block). b.names.items) bs cs

-- the blocks before that one, it, and those behind it
names_split : (bs : List Block) (i : ℕ) (b : Block) → i < length bs → b ≡ get_or bs i b
    → names_in bs
    ≡ names_in (take i bs) ++ (b.names.items ++ names_in (drop (i + 1) bs))
names_split bs i b lt is =
    ap names_in (sym (take-append-drop i bs))
    ∙ names_append (take i bs) (drop i bs)
    ∙ ap (λ (cs : List Block). names_in (take i bs) ++ names_in cs)
    (drop_more bs i b lt ∙ ap (λ (c : Block). c ∷ drop (i + 1) bs) (sym is))

-- with another in its place
names_set : (bs : List Block) (i : ℕ) (b : Block) → i < length bs
    → names_in (set bs i b)
    ≡ names_in (take i bs) ++ (b.names.items ++ names_in (drop (i + 1) bs))
names_set bs i b lt =
    let e : suc i ≡ i + 1 = omega arith in
    ap names_in (set_split bs i b lt ∙ ap (λ n. take i bs ++ b ∷ drop n bs) e)
    ∙ names_append (take i bs) (b ∷ drop (i + 1) bs)

-- with two in its place
pub names_halved : (bs : List Block) (i : ℕ) (b c d : Block) → i < length bs
    → b ≡ get_or bs i b → c.names.items ++ d.names.items ≡ b.names.items
    → names_in (insert (set bs i c) (i + 1) d) ≡ names_in bs
names_halved bs i b c d lt is e =
    let before = names_in (take i bs) in
    let after = names_in (drop (i + 1) bs) in
    names_append (take (i + 1) (set bs i c)) (d ∷ drop (i + 1) (set bs i c))
    ∙ ap₂ (λ (xs ys : List Block). names_in xs ++ (d.names.items ++ names_in ys))
    (take_more_set bs i c lt) (drop-set-lt (i + 1) bs i c (omega arith))
    ∙ ap (λ (ns : List ℕ). ns ++ (d.names.items ++ after))
    (names_append (take i bs) (c ∷ []) ∙ ap (λ (ns : List ℕ). before ++ ns)
    (append-nil c.names.items))
    ∙ append_assoc before c.names.items (d.names.items ++ after)
    ∙ ap (λ (ns : List ℕ). before ++ ns) (sym (append_assoc c.names.items d.names.items after)
    ∙ ap (λ (ns : List ℕ). ns ++ after) e)
    ∙ sym (names_split bs i b lt is)

-- ---- others put among names in the midst of others

spliced_more : (i : ℕ) (k : Bool) (ys xs : List ℕ) (x : ℕ)
    → x ∷ spliced_at i k ys xs ≡ spliced_at (suc i) k ys (x ∷ xs)
spliced_more i true ys xs x =
    let e : suc (i + 1) ≡ suc i + 1 = omega arith in
    ap (λ (m : ℕ). take m (x ∷ xs) ++ (ys ++ drop m (x ∷ xs))) e
spliced_more i false ys xs x =
    let e : suc (i + 1) ≡ suc i + 1 = omega arith in
    ap (λ (m : ℕ). x ∷ (take i xs ++ (ys ++ drop m (x ∷ xs)))) e

first_le : (i n : ℕ) (k : Bool) → i < n → cond k (i + 1) i ≤ n
first_le i n true lt = omega arith
first_le i n false lt = omega arith

spliced_before : (i : ℕ) (k : Bool) (ys xs zs : List ℕ) → i < length xs
    → spliced_at i k ys xs ++ zs ≡ spliced_at i k ys (xs ++ zs)
spliced_before i k ys xs zs lt =
    let m : ℕ = cond k (i + 1) i in
    append_assoc (take m xs) (ys ++ drop (i + 1) xs) zs
    ∙ ap (λ (ns : List ℕ). take m xs ++ ns) (append_assoc ys (drop (i + 1) xs) zs)
    ∙ ap₂ (λ (vs ws : List ℕ). vs ++ (ys ++ ws))
    (sym (take-append-le m xs zs (first_le i (length xs) k lt)))
    (sym (drop-append-le (i + 1) xs zs (omega arith)))

spliced_behind : (i : ℕ) (k : Bool) (ys ws xs : List ℕ)
    → ws ++ spliced_at i k ys xs ≡ spliced_at (length ws + i) k ys (ws ++ xs)
spliced_behind i k ys [] xs =
    let e : i ≡ length {A = ℕ} [] + i = omega arith in
    ap (λ (n : ℕ). spliced_at n k ys xs) e
spliced_behind i k ys (w ∷ ws) xs =
    let e : suc (length ws + i) ≡ length (w ∷ ws) + i = omega arith in
    ap (λ (ns : List ℕ). w ∷ ns) (spliced_behind i k ys ws xs)
    ∙ spliced_more (length ws + i) k ys (ws ++ xs) w
    ∙ ap (λ (n : ℕ). spliced_at n k ys (w ∷ (ws ++ xs))) e

-- others put among the names of one block
pub names_put : (bs : List Block) (i j : ℕ) (k : Bool) (ys : List ℕ) (b c : Block)
    → i < length bs → b ≡ get_or bs i b → j < length (get_or bs i b).names.items
    → c.names.items ≡ spliced_at j k ys b.names.items
    → names_in (set bs i c) ≡ spliced_at (length (names_in (take i bs)) + j) k ys (names_in bs)
names_put bs i j k ys b c lt is within e =
    let here = subst (λ (d : Block). j < length d.names.items) (sym is) within in
    let before = names_in (take i bs) in
    let after = names_in (drop (i + 1) bs) in
    names_set bs i c lt
    ∙ ap (λ (ns : List ℕ). before ++ (ns ++ after)) e
    ∙ ap (λ (ns : List ℕ). before ++ ns) (spliced_before j k ys b.names.items after here)
    ∙ spliced_behind j k ys before (b.names.items ++ after)
    ∙ ap (λ (ns : List ℕ). spliced_at (length before + j) k ys ns)
    (sym (names_split bs i b lt is))

-- ---- places

there : {X : Type 0} (xs : List X) (i : ℕ) → i < length xs → (x : X) × (x ≡ get_or xs i x)
there [] i lt = let bad : ⊥ = omega arith in absurd bad
there (x ∷ xs) zero lt = (x, refl)
there (x ∷ xs) (suc i) lt = there xs i (omega arith)

-- a name of a block
pub place_within : (bs : List Block) (i j at : ℕ) → i < length bs
    → ((b : Block) → j < length (get_or bs i b).names.items)
    → at ≡ length (names_in (take i bs)) + j → at < length (names_in bs)
place_within bs i j at lt within sum =
    let t = there bs i lt in
    let b : Block = t.0 in
    let before = names_in (take i bs) in
    let after = names_in (drop (i + 1) bs) in
    let here : j < length b.names.items =
    subst (λ (d : Block). j < length d.names.items) (sym t.1) (within b) in
    let e : length (names_in bs) ≡ length before + length (b.names.items ++ after) =
    ap length (names_split bs i b lt t.1) ∙ length-append before (b.names.items ++ after) in
    let f : length (b.names.items ++ after) ≡ length b.names.items + length after =
    length-append b.names.items after in
    omega arith

pub place_value : (bs : List Block) (i j at : ℕ) (b : Block) (n : ℕ) → i < length bs
    → j < length (get_or bs i b).names.items → at ≡ length (names_in (take i bs)) + j
    → n ≡ get_or (get_or bs i b).names.items j n → n ≡ get_or (names_in bs) at n
place_value bs i j at b n lt within sum e =
    e ∙ sym (get_or-flat_map (λ (c : Block). c.names.items) bs i j b n lt within)
    ∙ ap (λ (m : ℕ). get_or (names_in bs) m n) (sym sum)

pub joined_here : (i : ℕ) (k : Bool) (xs ys : List ℕ) → i < length xs
    → Some (spliced_at i k ys xs) ≡ joined i k (Some xs) (Some ys)
joined_here i k xs ys lt =
    cond_below i (length xs) (Some (spliced_at i k ys xs)) None lt
