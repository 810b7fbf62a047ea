-- What holds of a table, and of a table with one type more.
use Rattle.std.proofs.Common.{◌≡◌, Decides, nat_eq, ℕ, zero, suc, ◌+◌, ◌<◌, ◌≤◌, Bool, true, false, cond, true≢false, Option, Some, None, is_some, Result, Ok, Err, IfOk, OnOk, OnErr, List, [], ◌∷◌, ◌++◌, length, map, get_or, refl, sym, ap, ◌∙◌, subst, inl, inr, arith, length-append}
use Rattle.std.specs.List.{AllByRecursion}
use Rattle.std.proofs.lemmas.List.Elements.{recursion_from_All}
use Rattle.std.proofs.lemmas.List.{get_or_append_left, get_or_push, get_or-map}
use Rattle.std.proofs.lemmas.List.Quantifiers.{position-Some}
use Rattle.std.specs.List.{position}
use Rattle.std.specs.Map.{keys_of, lookup}
use Rattle.std.proofs.lemmas.Bool.{cases_lt}
use Rattle.flume_types.specs.declared.types.Ty.{Ty, Ty-F, out-Ty}
use Rattle.flume_types.specs.declared.types.Ty.TheVariants as ty
use Rattle.flume_types.specs.declared.types.Field.{Field}
use Rattle.flume_types.specs.Depth.{depth_of, layer_depth}
use Rattle.type_table.specs.declared.shape.Shape.{Shape}
use Rattle.type_table.specs.declared.shape.Shape.TheVariants as shape
use Rattle.type_table.specs.declared.shape.Part.{Part}
use Rattle.type_table.specs.contracts.shape.ShapePartialEq.TheImpl.{ghosts}
use Rattle.std.proofs.lemmas.Bool.Decides.{same_from_decides, Decides-eqb}
use Rattle.flume_types.specs.Equality.{type_eq}
use Rattle.type_table.proofs.ShapeLemmas.{tells_apart, shape_eq-Decides}
use Rattle.type_table.specs.Table.{type_at, field_at, shape_layer, tree_of, IsWithin, Extends, types_from, kept_types, entry_at, depth_kept, IsTable}

-- a type's first level
out-tree : (types : List Ty) (s : Shape) → out-Ty (tree_of types s) ≡ shape_layer types s
out-tree types shape.Int = ty.outs-Int
out-tree types shape.Bool = ty.outs-Bool
out-tree types shape.Text = ty.outs-Text
out-tree types (shape.List part) = ty.outs-List (type_at types part)
out-tree types (shape.Rec parts) = ty.outs-Rec (map (field_at types) parts)
out-tree types (shape.Either left right) = ty.outs-Either (type_at types left) (type_at types right)

-- ---- more types

Extends-itself : (types : List Ty) → Extends types types
Extends-itself types = record { longer = omega arith; same = λ id in_. refl }

pub Extends-twice : (a b c : List Ty) → Extends a b → Extends b c → Extends a c
Extends-twice a b c ab bc = record {
  longer = omega (arith, ab.longer, bc.longer);
  same = λ id in_. bc.same id (omega (arith, ab.longer)) ∙ ab.same id in_;
}

Extends-push : (types : List Ty) (t : Ty) → Extends types (types ++ t ∷ [])
Extends-push types t = record {
  longer = omega (arith, length-append types (t ∷ []));
  same = λ id in_. get_or_append_left types (t ∷ []) ty.Int id in_;
}

fields-same : (f g : Part → Field Ty) (P : Part → Type 0)
    → ((part : Part) → P part → f part ≡ g part) → (parts : List Part) → AllByRecursion P parts
    → map f parts ≡ map g parts
fields-same f g P same [] h = refl
fields-same f g P same (part ∷ parts) h = λ i. same part h.0 i ∷ fields-same f g P same parts h.1 i

-- a shape keeps its meaning
tree-Extends : (old new : List Ty) → Extends old new → (s : Shape) → IsWithin (length old) s
    → tree_of new s ≡ tree_of old s
tree-Extends old new more shape.Int h = refl
tree-Extends old new more shape.Bool h = refl
tree-Extends old new more shape.Text h = refl
tree-Extends old new more (shape.List part) h = ap ty.List (more.same part h)
tree-Extends old new more (shape.Rec parts) h =
    ap ty.Rec (fields-same (field_at new) (field_at old) (λ part. part.ty < length old)
    (λ part in_ i. record { name = part.name; ty = more.same part.ty in_ i }) parts
    (recursion_from_All (λ part. part.ty < length old) parts h))
tree-Extends old new more (shape.Either left right) h =
    λ i. ty.Either (more.same left h.0 i) (more.same right h.1 i)

IsWithin-more : (n m : ℕ) → n ≤ m → (s : Shape) → IsWithin n s → IsWithin m s
IsWithin-more n m le shape.Int h = tt
IsWithin-more n m le shape.Bool h = tt
IsWithin-more n m le shape.Text h = tt
IsWithin-more n m le (shape.List part) h = omega arith
IsWithin-more n m le (shape.Rec parts) h = λ k d in_. omega (arith, h k d in_)
IsWithin-more n m le (shape.Either left right) h = (omega (arith, h.0), omega (arith, h.1))

-- ---- a meaning tells its shape

abbrev Apart : List Ty → ℕ → Type 0
Apart types n = (id other : ℕ) → id < n → other < n → type_at types id ≡ type_at types other
    → id ≡ other

parts-apart : (types : List Ty) (n : ℕ) → Apart types n → (xs ys : List Part)
    → AllByRecursion (λ part. part.ty < n) xs → AllByRecursion (λ part. part.ty < n) ys
    → map (field_at types) xs ≡ map (field_at types) ys → xs ≡ ys
parts-apart types n apart [] [] h g e = refl
parts-apart types n apart [] (y ∷ ys) h g e = cc
parts-apart types n apart (x ∷ xs) [] h g e = cc
parts-apart types n apart (x ∷ xs) (y ∷ ys) h g e =
    let one : field_at types x ≡ field_at types y = cc in
    let rest : map (field_at types) xs ≡ map (field_at types) ys = cc in
    let types_same : x.ty ≡ y.ty = apart x.ty y.ty h.0 g.0 (ap (λ f. f.ty) one) in
    λ i. record { name = (one i).name; ty = types_same i } ∷ parts-apart types n apart xs ys h.1
    g.1 rest i

level-apart : (types : List Ty) (n : ℕ) → Apart types n → (s r : Shape) → IsWithin n s
    → IsWithin n r → shape_layer types s ≡ shape_layer types r → s ≡ r
level-apart types n apart shape.Int shape.Int h g e = refl
level-apart types n apart shape.Bool shape.Bool h g e = refl
level-apart types n apart shape.Text shape.Text h g e = refl
level-apart types n apart (shape.List a) (shape.List b) h g e =
    let same : type_at types a ≡ type_at types b = cc in
    ap shape.List (apart a b h g same)
level-apart types n apart (shape.Rec xs) (shape.Rec ys) h g e =
    let same : map (field_at types) xs ≡ map (field_at types) ys = cc in
    ap shape.Rec
    (parts-apart types n apart xs ys (recursion_from_All (λ part. part.ty < n) xs h)
    (recursion_from_All (λ part. part.ty < n) ys g) same)
level-apart types n apart (shape.Either a b) (shape.Either c d) h g e =
    let left : type_at types a ≡ type_at types c = cc in
    let right : type_at types b ≡ type_at types d = cc in
    λ i. shape.Either (apart a c h.0 g.0 left i) (apart b d h.1 g.1 right i)
level-apart types n apart _ _ h g e = cc

tree_of-apart : (types : List Ty) (n : ℕ) → Apart types n → (s r : Shape) → IsWithin n s
    → IsWithin n r → tree_of types s ≡ tree_of types r → s ≡ r
tree_of-apart types n apart s r h g e =
    level-apart types n apart s r h g (sym (out-tree types s) ∙ ap out-Ty e ∙ out-tree types r)

-- ---- one entry more

types_from-push : (types : List Ty) (entries : List (Shape × ℕ)) (entry : Shape × ℕ)
    → types_from types (entries ++ entry ∷ []) ≡ types_from types entries ++ tree_of
    (types_from types entries) entry.0 ∷ []
types_from-push types [] entry = refl
types_from-push types (e ∷ entries) entry =
    types_from-push (types ++ tree_of types e.0 ∷ []) entries entry

types_of-push : (entries : List (Shape × ℕ)) (entry : Shape × ℕ)
    → kept_types (entries ++ entry ∷ [])
    ≡ kept_types entries ++ tree_of (kept_types entries) entry.0 ∷ []
types_of-push = types_from-push []

-- what holds of each number of a longer table: of the earlier ones, and of the new one
below-or-new : (n : ℕ) (P : ℕ → Type 0) → ((id : ℕ) → id < n → P id) → P n → (id : ℕ) → id < n + 1
    → P id
below-or-new n P below here id in_ =
    elim (cases_lt id n) [
      | inl lt ↦ below id lt
      | inr le ↦ subst P (omega arith) here
    ]

module _ (entries : List (Shape × ℕ)) (s : Shape) (depth : ℕ) (is : IsTable entries)
    (within : IsWithin (length entries) s) where
  abbrev n : ℕ
  n = length entries

  abbrev types : List Ty
  types = kept_types entries

  abbrev after : List (Shape × ℕ)
  after = entries ++ (s, depth) ∷ []

  abbrev longer : List Ty
  longer = types ++ tree_of types s ∷ []

  grown : kept_types after ≡ longer
  grown = types_of-push entries (s, depth)

  more : Extends types longer
  more = Extends-push types (tree_of types s)

  entry-old : (id : ℕ) → id < n → entry_at after id ≡ entry_at entries id
  entry-old id in_ = get_or_append_left entries ((s, depth) ∷ []) (shape.Int, 0) id in_

  entry-new : entry_at after n ≡ (s, depth)
  entry-new = get_or_push entries (s, depth) (shape.Int, 0) n refl

  type-new : type_at longer n ≡ tree_of types s
  type-new = get_or_push types (tree_of types s) ty.Int n is.as_many

  type-old : (id : ℕ) → id < n → type_at longer id ≡ type_at types id
  type-old id in_ = more.same id (omega (arith, is.as_many))

  tree-kept : (r : Shape) → IsWithin n r → tree_of longer r ≡ tree_of types r
  tree-kept r h = tree-Extends types longer more r (subst (λ m. IsWithin m r) (sym is.as_many) h)

  within-at : (id : ℕ) → id < n → IsWithin n (entry_at entries id).0
  within-at id in_ = IsWithin-more id n (omega arith) (entry_at entries id).0 (is.within id in_)

  new-apart : ((id : ℕ) → id < n → (entry_at entries id).0 ≡ s → ⊥) → (id : ℕ) → id < n
      → tree_of types s ≡ type_at types id → ⊥
  new-apart absent id in_ e =
      absent id in_
      (sym
      (tree_of-apart types n is.apart s (entry_at entries id).0 within (within-at id in_) (e
      ∙ is.levels id in_)))

  longer-apart : ((id : ℕ) → id < n → (entry_at entries id).0 ≡ s → ⊥) → Apart longer (n + 1)
  longer-apart absent id other in_ other_in =
      below-or-new n (λ id. type_at longer id ≡ type_at longer other → id ≡ other)
      (λ id in_. below-or-new n (λ other. type_at longer id ≡ type_at longer other → id ≡ other)
      (λ other other_in e. is.apart id other in_ other_in (sym (type-old id in_) ∙ e
      ∙ type-old other other_in))
      (λ e. absurd (new-apart absent id in_ (sym type-new ∙ sym e ∙ type-old id in_)))
      other other_in)
      (below-or-new n (λ other. type_at longer n ≡ type_at longer other → n ≡ other)
      (λ other other_in e. absurd (new-apart absent other other_in (sym type-new ∙ e
      ∙ type-old other other_in)))
      (λ e. refl) other other_in)
      id in_

  IsTable-push : ((id : ℕ) → id < n → (entry_at entries id).0 ≡ s → ⊥)
      → depth ≡ depth_kept (depth_of (tree_of types s)) → IsTable after
  IsTable-push absent deep =
      let length-after : length after ≡ n + 1 = length-append entries ((s, depth) ∷ []) in record {
        as_many = ap length grown ∙ length-append types (tree_of types s ∷ [])
            ∙ ap (λ m. m + 1) is.as_many ∙ sym length-after;
        levels =
            λ id in_. subst (λ ts. type_at ts id ≡ tree_of ts (entry_at after id).0) (sym grown) (
            below-or-new n (λ id. type_at longer id ≡ tree_of longer (entry_at after id).0)
            (λ id in_. type-old id in_ ∙ is.levels id in_
            ∙ sym (tree-kept (entry_at entries id).0 (within-at id in_))
            ∙ ap (λ e. tree_of longer e.0) (sym (entry-old id in_)))
            (type-new ∙ sym (tree-kept s within) ∙ ap (λ e. tree_of longer e.0) (sym entry-new))
            id (omega (arith, length-after)));
        within = λ id in_.
            below-or-new n (λ id. IsWithin id (entry_at after id).0)
            (λ id in_. subst (λ e. IsWithin id e.0) (sym (entry-old id in_)) (is.within id in_))
            (subst (λ e. IsWithin n e.0) (sym entry-new) within)
            id (omega (arith, length-after));
        apart =
            λ id other in_ other_in e. longer-apart absent id other (omega (arith, length-after))
            (omega (arith, length-after)) (ap (λ ts. type_at ts id) (sym grown) ∙ e
            ∙ ap (λ ts. type_at ts other) grown);
        depths =
            λ id in_. subst (λ ts. (entry_at after id).1 ≡ depth_kept (depth_of (type_at ts id)))
            (sym grown) (
            below-or-new n (λ id. (entry_at after id).1 ≡ depth_kept (depth_of (type_at longer id)))
            (λ id in_. ap (λ e. e.1) (entry-old id in_) ∙ is.depths id in_
            ∙ ap (λ t. depth_kept (depth_of t)) (sym (type-old id in_)))
            (ap (λ e. e.1) entry-new ∙ deep ∙ ap (λ t. depth_kept (depth_of t)) (sym type-new))
            id (omega (arith, length-after)));
      }

-- ---- finding an entry

length-keys : (entries : List (Shape × ℕ)) → length (keys_of entries) ≡ length entries
length-keys [] = refl
length-keys (e ∷ entries) = ap suc (length-keys entries)

shape_at-keys : (entries : List (Shape × ℕ)) (id : ℕ) → id < length entries
    → get_or (keys_of entries) id shape.Int ≡ (entry_at entries id).0
shape_at-keys entries id in_ =
    get_or-map (λ (e : Shape × ℕ). e.0) entries id (shape.Int, 0) shape.Int in_

pub found-at : (s : Shape) (entries : List (Shape × ℕ)) (id : ℕ)
    → position ((ghosts).eq s) (keys_of entries) ≡ Some id
    → (id < length entries) × ((entry_at entries id).0 ≡ s)
found-at s entries id p =
    let there = position-Some ((ghosts).eq s) (keys_of entries) id shape.Int p in
    let in_ : id < length entries = omega (arith, there.0, length-keys entries) in (
      in_,
      sym (shape_at-keys entries id in_)
          ∙ sym (tells_apart s (get_or (keys_of entries) id shape.Int) there.1),
    )

missed : (b : Bool) (v : ℕ) (rest : Option ℕ) → cond b (Some v) rest ≡ None
    → (b ≡ false) × (rest ≡ None)
missed true v rest e = cc
missed false v rest e = (refl, e)

none-before : (test : Shape → Bool) (entries : List (Shape × ℕ)) → lookup test entries ≡ None
    → (id : ℕ) → id < length entries → test (entry_at entries id).0 ≡ false
none-before test [] none id in_ = absurd (omega arith)
none-before test (e ∷ entries) none zero in_ = (missed (test e.0) e.1 (lookup test entries) none).0
none-before test (e ∷ entries) none (suc id) in_ =
    none-before test entries (missed (test e.0) e.1 (lookup test entries) none).1 id (omega arith)

pub absent-at : (s : Shape) (entries : List (Shape × ℕ)) → lookup ((ghosts).eq s) entries ≡ None
    → (id : ℕ) → id < length entries → (entry_at entries id).0 ≡ s → ⊥
absent-at s entries none id in_ e =
    true≢false (sym ((shape_eq-Decides s (entry_at entries id).0).1 (sym e))
    ∙ none-before ((ghosts).eq s) entries none id in_)

pub none-found : (o : Option ℕ) → false ≡ is_some o → o ≡ None
none-found None e = refl
none-found (Some v) e = cc

differs : (b : Bool) → (b ≡ true → ⊥) → b ≡ false
differs true h = absurd (h refl)
differs false h = refl

pub lookup-absent : (s : Shape) (entries : List (Shape × ℕ))
    → ((id : ℕ) → id < length entries → (entry_at entries id).0 ≡ s → ⊥)
    → lookup ((ghosts).eq s) entries ≡ None
lookup-absent s [] absent = refl
lookup-absent s (e ∷ entries) absent =
    ap (λ b. cond b (Some e.1) (lookup ((ghosts).eq s) entries))
    (differs ((ghosts).eq s e.0)
    (λ same. absent 0 (omega arith) (sym (tells_apart s e.0 same))))
    ∙ lookup-absent s entries (λ id in_. absent (suc id) (omega arith))

pub level-at : (entries : List (Shape × ℕ)) (types : List Ty) (id : ℕ) (s : Shape)
    → IsTable entries → kept_types entries ≡ types → id < length types → s ≡ (entry_at entries id).0
    → out-Ty (type_at types id) ≡ shape_layer types s
level-at entries types id s is view in_ at =
    let here : id < length entries = omega (arith, ap length view, is.as_many) in
    subst (λ ts. out-Ty (type_at ts id) ≡ shape_layer ts s) view
    (ap out-Ty (is.levels id here) ∙ out-tree (kept_types entries) (entry_at entries id).0
    ∙ ap (shape_layer (kept_types entries)) (sym at))

-- ---- a shape more, or want of memory

pub record Interned {E : Type 0} (after : List (Shape × ℕ)) (types : List Ty) (s : Shape)
    (r : Result ℕ E) : Type 0 where
  pub table : IsTable after
  pub within : IfOk r (λ id. id < length (kept_types after))
  pub ok : IfOk r (λ id. type_at (kept_types after) id ≡ tree_of types s)
  pub extends : Extends types (kept_types after)

module _ (entries after : List (Shape × ℕ)) (s : Shape) (depth : ℕ) (is : IsTable entries)
    (within : IsWithin (length (kept_types entries)) s)
    (absent : (id : ℕ) → id < length entries → (entry_at entries id).0 ≡ s
    → ⊥) (deep : depth ≡ depth_kept (depth_of (tree_of (kept_types entries) s))) where
  within-entries : IsWithin (length entries) s
  within-entries = subst (λ m. IsWithin m s) is.as_many within

  pub interned : {E : Type 0} (r : Result ℕ E) → OnOk r (after ≡ entries ++ (s, depth) ∷ [])
      → OnErr r (after ≡ entries) → IfOk r (λ id. id ≡ length entries)
      → Interned after (kept_types entries) s r
  interned (Ok id) ok err at =
      let longer : kept_types after ≡ kept_types entries ++ tree_of (kept_types entries) s ∷ [] =
      ap kept_types ok ∙ types_of-push entries (s, depth) in record {
        table = subst IsTable (sym ok) (IsTable-push entries s depth is within-entries absent deep);
        within =
            omega (
              arith,
              at,
              is.as_many,
              ap length longer,
              length-append (kept_types entries)
                  (tree_of (kept_types entries) s ∷ []),
            );
        ok = ap (λ ts. type_at ts id) longer
            ∙ get_or_push (kept_types entries) (tree_of (kept_types entries) s) ty.Int id
            (is.as_many
            ∙ sym at);
        extends =
            subst (Extends (kept_types entries)) (sym longer)
            (Extends-push (kept_types entries) (tree_of (kept_types entries) s));
      }
  interned (Err e) ok err at = record {
    table = subst IsTable (sym err) is;
    within = tt;
    ok = tt;
    extends =
        subst (Extends (kept_types entries)) (sym (ap kept_types err))
        (Extends-itself (kept_types entries));
  }

-- ---- depths

abbrev pub DepthLaw : Type 0
DepthLaw = (t : Ty) → depth_of t ≡ layer_depth depth_of (out-Ty t)

module _ (law : DepthLaw) (entries : List (Shape × ℕ)) (s : Shape) where
  abbrev ts : List Ty
  ts = kept_types entries

  pub tree-depth : (form : Shape) → s ≡ form
      → depth_of (tree_of ts s) ≡ layer_depth depth_of (shape_layer ts form)
  tree-depth form is = ap (λ s. depth_of (tree_of ts s)) is ∙ law (tree_of ts form)
      ∙ ap (layer_depth depth_of) (out-tree ts form)

  -- a type without parts is of one level
  one_level : (form : Shape) → s ≡ form → layer_depth depth_of (shape_layer ts form) ≡ 1
      → 1 ≡ depth_kept (depth_of (tree_of ts s))
  one_level form is one = let e = tree-depth form is ∙ one in omega (arith, e)

  pub depth-Int : s ≡ shape.Int → 1 ≡ depth_kept (depth_of (tree_of ts s))
  depth-Int is = one_level shape.Int is refl

  pub depth-Bool : s ≡ shape.Bool → 1 ≡ depth_kept (depth_of (tree_of ts s))
  depth-Bool is = one_level shape.Bool is refl

  pub depth-Text : s ≡ shape.Text → 1 ≡ depth_kept (depth_of (tree_of ts s))
  depth-Text is = one_level shape.Text is refl

-- ---- equality of types

pub same-as-numbers : (entries : List (Shape × ℕ)) (types : List Ty) (a b : ℕ)
    → ((t u : Ty) → Decides (type_eq t u) (t ≡ u))
    → IsTable entries → kept_types entries ≡ types → a < length types → b < length types
    → nat_eq a b ≡ type_eq (type_at types a) (type_at types b)
same-as-numbers entries types a b law is view a_in b_in =
    same_from_decides {P = type_at types a ≡ type_at types b} (nat_eq a b)
    (type_eq (type_at types a) (type_at types b)) (
      λ e. ap (type_at types) ((Decides-eqb a b).0 e),
      λ e. (Decides-eqb a b).1
          (is.apart a b (omega (arith, ap length view, is.as_many))
          (omega (arith, ap length view, is.as_many))
          (subst (λ ts. type_at ts a ≡ type_at ts b) (sym view) e)),
    )
    (law (type_at types a) (type_at types b))
