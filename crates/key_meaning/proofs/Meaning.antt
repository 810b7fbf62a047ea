-- What is paired means the same in both scripts.
use Rattle.std.proofs.Common.{◌≡◌, ℕ, zero, suc, ◌+◌, ◌<◌, true, List, [], ◌∷◌, ◌++◌, length, Some, Ok, IsSomeAnd, slice_get, unwrap_or, refl, sym, ap, ◌∙◌, subst, arith, length-append}
use Rattle.std.specs.List.{AllZip, Contains}
use Rattle.csv_rows.specs.Rows.{rows_of}
use Rattle.flume_value.specs.declared.value.Value.{Value}
use Rattle.flume_types.specs.declared.column.Column.{Column}
use Rattle.flume_types.specs.declared.types.Ty.{Ty}
use Rattle.flume_collection.proofs.Members.{at_head, at_tail}
use Rattle.outside.specs.declared.file.File.{File}
use Rattle.written_types.specs.Named.{Named}
use Rattle.script_program.specs.declared.made.Made.{Made}
use Rattle.script_program.specs.declared.made.Made.TheVariants as made
use Rattle.script_program.specs.Needed.{is_needed, operands}
use Rattle.script_program.specs.Script.{Function, Node, Script}
use Rattle.direct_meaning.proofs.of_script_laws.NeededLemmas.{needed_law, operand_before}
use Rattle.direct_meaning.proofs.of_script_laws.MemberLemmas.{of_mapped}
use Rattle.direct_meaning.specs.of_script_laws.WellFormed.{AllFit, Fits, IsWellFormed}
use Rattle.direct_meaning.specs.Direct.{collections, made_as, made_at, rows_as}
use Rattle.key_meaning.proofs.Alike.{NodeAlike, Paired, Pairs, same_operands}
use Rattle.direct_meaning.proofs.GrowLemmas.{begun_at}
use Rattle.key_meaning.proofs.Equations.{Lists, Stood, stood, wanted_from}
use Rattle.key_meaning.proofs.Keys.{SameBytes}
use Rattle.key_meaning.proofs.Makes.{AlikeAt, makes_alike}
use Rattle.key_meaning.proofs.Ways.{OptionAlike, Table}
use Rattle.key_meaning.proofs.Sources.{ArePlain}
use Rattle.key_meaning.proofs.Traps.{no_traps}
use Rattle.key_meaning.specs.Keyed.{AllHaveRowsIn, FilesHaveRows}

-- ---- what a collection reads

-- how the node of a number fits, behind those before it
record FitsAt (functions : Named Function) (number : ℕ) (entry : List ℕ × Node) : Type 0 where
  pub front : Named Node
  pub long : length front ≡ number
  pub fits : Fits functions front entry.1.made entry.1.type

fits_at : (functions : Named Function) (before nodes : Named Node)
    → AllFit functions before nodes → (i : ℕ) (entry : List ℕ × Node)
    → slice_get nodes i ≡ Some entry → FitsAt functions (length before + i) entry
fits_at functions before [] fit i entry at = cc
fits_at functions before (first ∷ nodes) fit zero entry at =
    let same : first ≡ entry = cc in
    subst (FitsAt functions (length before + 0)) same
    (record { front = before; long = omega arith; fits = fit.0 })
fits_at functions before (first ∷ nodes) fit (suc i) entry at =
    let it = fits_at functions (before ++ first ∷ []) nodes fit.1 i entry at in
    record {
      front = it.front;
      long = omega (arith, it.long, length-append before (first ∷ []));
      fits = it.fits;
    }

module _ (script : Script) (well : IsWellFormed script) (number : ℕ) (entry : List ℕ × Node)
    (at : slice_get script.nodes number ≡ Some entry) where
  -- it stands before
  reads_before : (n : ℕ) → Contains (operands entry.1.made) n → n < number
  reads_before n reads =
      let it = fits_at script.functions [] script.nodes well.nodes number entry at in
      let below =
      operand_before script.functions it.front entry.1.made entry.1.type it.fits n reads in
      omega (arith, below, it.long)

  -- and is needed where the collection is
  pub reads_needed : is_needed script number ≡ true → (n : ℕ)
      → Contains (operands entry.1.made) n → is_needed script n ≡ true
  reads_needed needed n reads =
      let path = (needed_law script well number).0 needed in
      let how = of_mapped (λ (e : List ℕ × Node). e.1.made) script.nodes number entry at in
      (needed_law script well n).1 (
        number ∷ path.0,
        (
          subst (λ o. IsSomeAnd o (λ (it : Made). Contains (operands it) n)) (sym how) reads,
          path.1,
        ),
      )

-- ---- two scripts

zip_if : (R Q : ℕ → ℕ → Type 0) (xs ys : List ℕ) → AllZip R xs ys
    → ((a b : ℕ) → Contains xs a → Contains ys b → R a b → Q a b) → AllZip Q xs ys
zip_if R Q [] [] zipped each = tt
zip_if R Q [] (y ∷ ys) zipped each = absurd zipped
zip_if R Q (x ∷ xs) [] zipped each = absurd zipped
zip_if R Q (x ∷ xs) (y ∷ ys) zipped each = (
  each x y (at_head x xs) (at_head y ys) zipped.0,
  zip_if R Q xs ys zipped.1
      (λ a b here there. each a b (at_tail x xs a here) (at_tail y ys b there)),
)

same_rows : (files others : List File) (file : List ℕ) (type type_ : Ty) (rows rows_ : List Value)
    → SameBytes files others file → type ≡ type_
    → FilesHaveRows files (record { file = file; type = type }) rows
    → FilesHaveRows others (record { file = file; type = type_ }) rows_ → rows ≡ rows_
same_rows files others file type type_ rows rows_ same types here there =
    let bytes : here.0 ≡ there.0 =
    sym (ap (λ o. unwrap_or o []) here.1) ∙ same ∙ ap (λ o. unwrap_or o []) there.1 in
    let both : Some (Ok rows) ≡ Some (Ok rows_) =
    sym here.2 ∙ (λ i. rows_of (bytes i) (types i)) ∙ there.2 in
    cc

module _ (files others : List File) (one other : Script) (well : IsWellFormed one)
    (well_ : IsWellFormed other) (plain : ArePlain one.nodes) (plain_ : ArePlain other.nodes)
    (rows rows_ : Lists) (whole whole_ : Table)
    (means : collections one one.nodes rows [] ≡ Some whole)
    (means_ : collections other other.nodes rows_ [] ≡ Some whole_)
    (read : AllHaveRowsIn files (wanted_from one files 0 one.nodes) rows)
    (read_ : AllHaveRowsIn others (wanted_from other others 0 other.nodes) rows_) (pairs : Pairs)
    (paired : (a b : ℕ) → Paired pairs a b
    → NodeAlike (SameBytes files others) pairs one.functions other.functions one.nodes other.nodes
    a b) where
  abbrev pub Alike : ℕ → ℕ → Type 0
  Alike = AlikeAt pairs whole whole_

  module _ (a b : ℕ)
      (node : NodeAlike (SameBytes files others) pairs one.functions other.functions one.nodes
      other.nodes a b)
      (here : Stood one files whole a node.entry.1.made node.entry.1.type)
      (there : Stood other others whole_ b node.other.1.made node.other.1.type) where
    abbrev MadeSo : Made → Made → Type 0
    MadeSo how again =
        OptionAlike pairs (made_as one a how here.left here.front)
        (made_as other b again there.left there.front)

    inputs_alike : (file : List ℕ) (columns : List Column)
        → node.entry.1.made ≡ made.Input file columns
        → node.other.1.made ≡ made.Input file columns → SameBytes files others file
        → MadeSo (made.Input file columns) (made.Input file columns)
    inputs_alike file columns is is_ same =
        let from = here.rows file columns is in
        let from_ = there.rows file columns is_ in
        let all =
        same_rows files others file node.entry.1.type node.other.1.type from.rows from_.rows same
        node.alike.type from.has from_.has in
        subst
        (λ l. OptionAlike pairs (made_as one a (made.Input file columns) here.left here.front)
        (made_as other b (made.Input file columns) l there.front)) (sym from_.is)
        (subst
        (λ l. OptionAlike pairs (made_as one a (made.Input file columns) l here.front)
        (Some (rows_as from_.rows))) (sym from.is)
        (subst (λ l. OptionAlike pairs (Some (rows_as from.rows)) (Some (rows_as l))) all
        (record { bag = refl; traps = no_traps pairs })))

    -- over what both read, which is the same
    node_alike : Paired pairs a b
        → ((x y : ℕ) → x < a → Contains (operands node.entry.1.made) x
        → Contains (operands node.other.1.made) y → Paired pairs x y → Alike x y)
        → Alike a b
    node_alike own before =
        let reads =
        zip_if (Paired pairs) (AlikeAt pairs here.front there.front)
        (operands node.entry.1.made) (operands node.other.1.made)
        (same_operands (SameBytes files others) pairs one.functions other.functions node.alike.how)
        (λ x y reads reads_ pair.
        let below = reads_before one well a node.entry node.here x reads in
        let below_ = reads_before other well_ b node.other node.there y reads_ in
        subst (λ o. OptionAlike pairs o (made_at there.front y))
        (begun_at here.front whole here.begins x (omega (arith, below, here.long)))
        (subst (OptionAlike pairs (made_at whole x))
        (begun_at there.front whole_ there.begins y (omega (arith, below_, there.long)))
        (before x y below reads reads_ pair))) in
        let made_both =
        makes_alike pairs here.front there.front (SameBytes files others) one other a b here.left
        there.left node.alike.how inputs_alike node.alike.first own reads in
        subst (λ o. OptionAlike pairs o (made_at whole_ b)) (here.made_so ∙ sym here.is)
        (subst
        (OptionAlike pairs (made_as one a node.entry.1.made here.left here.front))
        (there.made_so ∙ sym there.is) made_both)

  alike_below : (limit a b : ℕ) → a < limit → Paired pairs a b → is_needed one a ≡ true
      → is_needed other b ≡ true → Alike a b
  alike_below zero a b below is needed needed_ = absurd (omega (arith, below))
  alike_below (suc limit) a b below is needed needed_ =
      let node = paired a b is in
      let here = stood one files plain rows whole means read a node.entry node.here needed in
      let there =
      stood other others plain_ rows_ whole_ means_ read_ b node.other node.there needed_ in
      node_alike a b node here there is
      (λ x y earlier reads reads_ pair.
      alike_below limit x y (omega (arith, earlier, below)) pair
      (reads_needed one well a node.entry node.here needed x reads)
      (reads_needed other well_ b node.other node.there needed_ y reads_))

  pub all_alike : (a b : ℕ) → Paired pairs a b → is_needed one a ≡ true
      → is_needed other b ≡ true → Alike a b
  all_alike a b = alike_below (suc a) a b (omega arith)
