-- Tables of what is made, one collection after another: of a script, and of one in which fewer are
-- needed.
use Rattle.std.proofs.Common.{◌≡◌, ℕ, zero, suc, ◌+◌, ◌<◌, Bool, true, false, eqb, ◌||◌, List, [], ◌∷◌, ◌++◌, length, Option, Some, None, if◌then◌else◌, refl, sym, ap, ◌∙◌, subst, arith, length-append}
use Rattle.std.specs.Prelude.{IsSomeAnd}
use Rattle.std.specs.Option.{option_and_then}
use Rattle.std.specs.List.{AllByRecursion as Each, AllZip}
use Rattle.std.proofs.lemmas.Bool.{eqb-true}
use Rattle.flume_value.specs.Bag.{bag_of}
use Rattle.flume_value.specs.declared.value.Value.{Value}
use Rattle.flume_value.proofs.BagLemmas.{bag_of-settled}
use Rattle.flume_collection.specs.Collection.{Collection}
use Rattle.written_types.specs.Named.{Named}
use Rattle.script_program.specs.Needed.{holds_number, is_needed}
use Rattle.script_program.specs.Script.{Node, Script}
use Rattle.direct_meaning.specs.Direct.{collections, inputs_behind, made_as, made_at, rows_as}
use Rattle.direct_meaning.specs.Made.{IsMadeFor}
use Rattle.saved_meaning.specs.Found.{MayBeFound, bag_or_none, where_needed}
pub use Rattle.direct_meaning.proofs.PlaceLemmas.{found_then as and_then_some, mapped as map_some}

-- ---- what is made stays

abbrev Table : Type 0
Table = List (Option Collection)

pub at_front : (table : Table) (o : Option Collection) (j : ℕ) → j < length table
    → made_at (table ++ o ∷ []) j ≡ made_at table j
at_front [] o j below = absurd (omega arith)
at_front (d ∷ table) o zero below = refl
at_front (d ∷ table) o (suc j) below = at_front table o j (omega arith)

pub at_end : (table : Table) (o : Option Collection) → made_at (table ++ o ∷ []) (length table) ≡ o
at_end [] None = refl
at_end [] (Some c) = refl
at_end (d ∷ table) o = at_end table o

pub one_longer : (table : Table) (o : Option Collection)
    → length (table ++ o ∷ []) ≡ suc (length table)
one_longer table o = omega (arith, length-append table (o ∷ []))

module _ (script : Script) where
  abbrev Keeps : Named Node → Type 0
  Keeps nodes = (rows : List (List Value)) (table all : Table)
      → collections script nodes rows table ≡ Some all → (j : ℕ) → j < length table
      → made_at all j ≡ made_at table j

  keeps-next : (entry : List ℕ × Node) (nodes : Named Node) → Keeps nodes
      → (rows : List (List Value)) (table all : Table) (b : Bool)
      → (if b then option_and_then (λ c.
      collections script nodes (inputs_behind entry.1.made rows) (table ++ Some c ∷ []))
      (made_as script (length table) entry.1.made rows table)
      else collections script nodes rows (table ++ None ∷ [])) ≡ Some all
      → (j : ℕ) → j < length table → made_at all j ≡ made_at table j
  keeps-next entry nodes behind rows table all true h j below =
      let (c, made_c, rest) =
      and_then_some
      (λ c. collections script nodes (inputs_behind entry.1.made rows) (table ++ Some c ∷ []))
      (made_as script (length table) entry.1.made rows table) all h in
      behind (inputs_behind entry.1.made rows) (table ++ Some c ∷ []) all rest j
      (omega (arith, one_longer table (Some c)))
      ∙ at_front table (Some c) j below
  keeps-next entry nodes behind rows table all false h j below =
      behind rows (table ++ None ∷ []) all h j (omega (arith, one_longer table None))
      ∙ at_front table None j below

  pub keeps : (nodes : Named Node) → Keeps nodes
  keeps [] [] table all h j below =
      let e : table ≡ all = cc in ap (λ t. made_at t j) (sym e)
  keeps [] (list ∷ rows) table all h j below = cc
  keeps (entry ∷ nodes) rows table all h j below =
      keeps-next entry nodes (keeps nodes) rows table all (is_needed script (length table)) h j
      below

  -- the next collection is what is made next
  pub next-made : (nodes : Named Node) (rows : List (List Value)) (table all : Table)
      (c : Collection) → collections script nodes rows (table ++ Some c ∷ []) ≡ Some all
      → made_at all (length table) ≡ Some c
  next-made nodes rows table all c h =
      keeps nodes rows (table ++ Some c ∷ []) all h (length table)
      (omega (arith, one_longer table (Some c)))
      ∙ at_end table (Some c)

-- ---- one table is the other, where that is needed

none-needed : (b : Bool) → None ≡ where_needed b None
none-needed true = refl
none-needed false = refl

pub empty-related : (p : ℕ → Bool) (j : ℕ) → made_at [] j ≡ where_needed (p j) (made_at [] j)
empty-related p j = none-needed (p j)

first-made : (o : Option Collection) → made_at (o ∷ []) 0 ≡ o
first-made None = refl
first-made (Some c) = refl

pub related-more : (p : ℕ → Bool) (here there : Table) (o own : Option Collection)
    → length here ≡ length there
    → ((j : ℕ) → made_at there j ≡ where_needed (p j) (made_at here j))
    → own ≡ where_needed (p (length here)) o
    → (j : ℕ) → made_at (there ++ own ∷ []) j ≡ where_needed (p j) (made_at (here ++ o ∷ []) j)
related-more p [] [] o own size related is zero =
    first-made own ∙ is ∙ ap (where_needed (p 0)) (sym (first-made o))
related-more p [] [] o own size related is (suc j) = none-needed (p (suc j))
related-more p [] (d ∷ there) o own size related is j = absurd (omega arith)
related-more p (c ∷ here) [] o own size related is j = absurd (omega arith)
related-more p (c ∷ here) (d ∷ there) o own size related is zero = related 0
related-more p (c ∷ here) (d ∷ there) o own size related is (suc j) =
    related-more (λ k. p (suc k)) here there o own (omega arith) (λ k. related (suc k)) is j

-- ---- what is found

found-if : (P : ℕ → Type 0) (x n : ℕ) (rest : Bool) (b : Bool) → eqb x n ≡ b
    → P x → (rest ≡ true → P n) → (b || rest) ≡ true → P n
found-if P x n rest true is own others h = subst P (eqb-true x n is) own
found-if P x n rest false is own others h = others h

-- what holds of each that is found holds of one that is
pub holds-at : (P : ℕ → Type 0) (found : List ℕ) → Each P found → (n : ℕ)
    → holds_number found n ≡ true
    → P n
holds-at P [] each n h = cc
holds-at P (x ∷ found) each n h =
    found-if P x n (holds_number found n) (eqb x n) refl each.0 (holds-at P found each.1 n) h

pub sound-at : (table : Table) (found : List ℕ) → Each (MayBeFound table) found → (n : ℕ)
    → holds_number found n ≡ true → MayBeFound table n
sound-at table found each n h = holds-at (MayBeFound table) found each n h

-- each collection that is made has a list that ascends
pub settled-at : (nodes : Named Node) (table : Table) → AllZip IsMadeFor nodes table → (n : ℕ)
    (c : Collection) → made_at table n ≡ Some c → bag_of c.bag ≡ c.bag
settled-at [] [] all n c is = cc
settled-at [] (d ∷ table) all n c is = absurd all
settled-at (entry ∷ nodes) [] all n c is = absurd all
settled-at (entry ∷ nodes) (None ∷ table) all zero c is = cc
settled-at (entry ∷ nodes) (Some d ∷ table) all zero c is =
    let e : d ≡ c = cc in
    subst (λ (x : Collection). bag_of x.bag ≡ x.bag) e (bag_of-settled d.bag all.0.ascending)
settled-at (entry ∷ nodes) (d ∷ table) all (suc n) c is =
    settled-at nodes table all.1 n c is

-- a collection without traps is what its members make
made-of-members : (c : Collection) → bag_of c.bag ≡ c.bag → c.traps ≡ [] → rows_as c.bag ≡ c
made-of-members c settled none = λ i. record { bag = settled i; traps = sym none i }

pub found-members : (table : Table) (n : ℕ) (c : Collection) → made_at table n ≡ Some c
    → MayBeFound table n → bag_of c.bag ≡ c.bag → rows_as (bag_or_none (made_at table n)) ≡ c
found-members table n c is sound settled =
    ap (λ o. rows_as (bag_or_none o)) is
    ∙ made-of-members c settled
    (subst (λ o. IsSomeAnd o (λ (it : Collection). it.traps ≡ [])) is sound)
