-- A script has no traps where none is behind what its outputs read.
use Rattle.std.proofs.Common.{◌≡◌, ℕ, zero, suc, ◌+◌, ◌<◌, ◌≤◌, Bool, true, false, List, [], ◌∷◌, ◌++◌, length, map, Option, Some, None, if◌then◌else◌, slice_get, IsSomeAnd, is_some, refl, sym, ap, ◌∙◌, subst, arith, append_assoc, append-nil, length-append}
use Rattle.std.specs.Option.{option_and_then}
use Rattle.std.specs.List.{AllZip, Contains, flat_map}
use Rattle.std.proofs.lemmas.Bool.{eqb-true, eq-eqb}
use Rattle.std.proofs.lemmas.List.{length-map}
use Rattle.std.proofs.lemmas.Option.{slice_get_within}
use Rattle.std.specs.Prelude.{◌==◌}
use Rattle.flume_value.specs.declared.value.Value.{Value}
use Rattle.flume_collection.specs.Collection.{Collection}
use Rattle.flume_collection.specs.Traps.{trap_set}
use Rattle.written_types.specs.Named.{Named}
use Rattle.script_program.specs.declared.made.Made.{Made}
use Rattle.script_program.specs.Needed.{LeadsToOutput, is_needed, made_of, operands, outputs_read}
use Rattle.script_program.specs.Script.{Node, Script}
use Rattle.direct_meaning.specs.of_script_laws.WellFormed.{IsWellFormed}
use Rattle.direct_meaning.proofs.of_script_laws.NeededLemmas.{needed_law}
use Rattle.direct_meaning.specs.Direct.{collections, inputs_behind, made_as, made_at, traps_behind, traps_of}
use Rattle.direct_meaning.specs.Made.{AreMade, IsMadeFor}
use Rattle.saved_meaning.proofs.Going.{Table, made-here}
use Rattle.saved_meaning.proofs.HandedOn.{Hands, hands-on, none-in}
use Rattle.saved_meaning.proofs.Tables.{and_then_some, at_end, at_front, keeps, next-made, one_longer}

-- ---- collections without traps

abbrev pub IsClean : Table → Type 0
IsClean table = (n : ℕ) (c : Collection) → made_at table n ≡ Some c → c.traps ≡ []

none-front : {X : Type 0} (xs ys : List X) → xs ++ ys ≡ [] → (xs ≡ []) × (ys ≡ [])
none-front [] ys e = (refl, e)
none-front (x ∷ xs) ys e = cc

clean-list : (table : Table) → flat_map traps_behind table ≡ [] → IsClean table
clean-list [] none n c is = cc
clean-list (None ∷ table) none zero c is = cc
clean-list (Some d ∷ table) none zero c is =
    let e : d ≡ c = cc in
    ap (λ (x : Collection). x.traps) (sym e)
    ∙ (none-front d.traps (flat_map traps_behind table) none).0
clean-list (o ∷ table) none (suc n) c is =
    clean-list table (none-front (traps_behind o) (flat_map traps_behind table) none).1 n c is

pub clean-table : (table : Table) → traps_of table ≡ [] → IsClean table
clean-table table none = clean-list table (none-in (flat_map traps_behind table) none)

list-clean : (table : Table) → IsClean table → flat_map traps_behind table ≡ []
list-clean [] clean = refl
list-clean (None ∷ table) clean = list-clean table (λ n. clean (suc n))
list-clean (Some c ∷ table) clean =
    λ i. clean 0 c refl i ++ list-clean table (λ n. clean (suc n)) i

table-clean : (table : Table) → IsClean table → traps_of table ≡ []
table-clean table clean = ap trap_set (list-clean table clean)

same_some : {X : Type 0} (x y : X) → Some x ≡ Some y → x ≡ y
same_some x y e = cc

zip-length : {A B : Type 0} (R : A → B → Type 0) (xs : List A) (ys : List B) → AllZip R xs ys
    → length xs ≡ length ys
zip-length R [] [] all = refl
zip-length R [] (y ∷ ys) all = absurd all
zip-length R (x ∷ xs) [] all = absurd all
zip-length R (x ∷ xs) (y ∷ ys) all = ap suc (zip-length R xs ys all.1)

-- ---- what a collection is made of

within : (table : Table) (n : ℕ) (c : Collection) → made_at table n ≡ Some c → n < length table
within [] n c is = cc
within (o ∷ table) zero c is = omega arith
within (o ∷ table) (suc n) c is =
    let below = within table n c is in omega arith

module _ (script : Script) (all : Table) where
  -- traps are handed on from the collections from a number on
  abbrev HandsFrom : ℕ → Type 0
  HandsFrom k =
      (reader n : ℕ) (how : Made) (d : Collection) → k ≤ reader
      → slice_get (made_of script) reader ≡ Some how → made_at all reader ≡ Some d
      → Contains (operands how) n → Hands all n d

  abbrev AllHand : Named Node → Type 0
  AllHand nodes = (before : Named Node) → before ++ nodes ≡ script.nodes → (k : ℕ)
      → length before ≡ k → (rows : List (List Value)) (here : Table) → length here ≡ k
      → collections script nodes rows here ≡ Some all → HandsFrom k

  -- at a collection, or behind it
  at-or-behind : (k : ℕ)
      → ((n : ℕ) (how : Made) (d : Collection) → slice_get (made_of script) k ≡ Some how
      → made_at all k ≡ Some d → Contains (operands how) n → Hands all n d)
      → HandsFrom (suc k) → HandsFrom k
  at-or-behind k here behind reader n how d from made is reads =
      by (k == reader) refl
    where
      by : (b : Bool) → (k == reader) ≡ b → Hands all n d
      by true e =
          let same = eqb-true k reader e in
          here n how d
          (subst (λ r. slice_get (made_of script) r ≡ Some how) (sym same) made)
          (subst (λ r. made_at all r ≡ Some d) (sym same) is) reads
      by false e =
          let apart : k ≡ reader → ⊥ = λ same. (let is_ = eq-eqb k reader same in cc) in
          behind reader n how d (omega arith) made is reads

  next-of : (entry : List ℕ × Node) (nodes : Named Node) → AllHand nodes → (before : Named Node)
      → before ++ entry ∷ nodes ≡ script.nodes → (k : ℕ) → length before ≡ k
      → (rows : List (List Value)) (here : Table) → length here ≡ k → (b : Bool)
      → (if b then option_and_then (λ c.
      collections script nodes (inputs_behind entry.1.made rows) (here ++ Some c ∷ []))
      (made_as script (length here) entry.1.made rows here)
      else collections script nodes rows (here ++ None ∷ [])) ≡ Some all
      → HandsFrom k
  next-of entry nodes behind before split k place rows here size true h =
      let (c, made_c, rest) =
      and_then_some
      (λ c. collections script nodes (inputs_behind entry.1.made rows) (here ++ Some c ∷ []))
      (made_as script (length here) entry.1.made rows here) all h in
      at-or-behind k
      (λ n how d made is reads.
      let e : entry.1.made ≡ how = same_some _ _ (sym (made-here script before nodes entry k split
      place) ∙ made) in
      let f : c ≡ d = same_some _ _
      (sym (next-made script nodes (inputs_behind entry.1.made rows) here all c rest)
      ∙ ap (made_at all) size ∙ is) in
      let it = hands-on script (length here) here rows c entry.1.made n made_c
      (subst (λ (m : Made). Contains (operands m) n) (sym e) reads) in
      subst (Hands all n) f (record {
        own = it.own;
        is =
            keeps script nodes (inputs_behind entry.1.made rows) (here ++ Some c ∷ []) all rest n
            (let below = within here n it.own it.is in
            omega (arith, below, one_longer here (Some c)))
            ∙ at_front here (Some c) n (within here n it.own it.is) ∙ it.is;
        none = it.none;
      }))
      (behind (before ++ entry ∷ []) (append_assoc before (entry ∷ []) nodes ∙ split) (suc k)
      (omega (arith, place, length-append before (entry ∷ [])))
      (inputs_behind entry.1.made rows) (here ++ Some c ∷ [])
      (omega (arith, size, one_longer here (Some c))) rest)
  next-of entry nodes behind before split k place rows here size false h =
      at-or-behind k
      (λ n how d made is reads.
      let none : None ≡ Some d =
      sym (at_end here None)
      ∙ sym (keeps script nodes rows (here ++ None ∷ []) all h (length here)
      (omega (arith, one_longer here None)))
      ∙ ap (made_at all) size ∙ is in cc)
      (behind (before ++ entry ∷ []) (append_assoc before (entry ∷ []) nodes ∙ split) (suc k)
      (omega (arith, place, length-append before (entry ∷ []))) rows (here ++ None ∷ [])
      (omega (arith, size, one_longer here None)) h)

  all-hand : (nodes : Named Node) → AllHand nodes
  all-hand [] before split k place rows here size h = λ reader n how d from made is reads.
      let same : before ≡ script.nodes = sym (append-nil before) ∙ split in
      let in_ = slice_get_within (made_of script) reader how made in
      let many = length-map script.nodes (λ (it : List ℕ × Node). it.1.made) in
      let as_many = ap length same in
      absurd (omega (arith, place, in_, many, as_many, from))
  all-hand (entry ∷ nodes) before split k place rows here size h =
      next-of entry nodes (all-hand nodes) before split k place rows here size
      (is_needed script (length here)) h

-- ---- a script

module _ (script : Script) (well : IsWellFormed script) (all : Table)
    (are : AreMade script script.nodes all) (hands : HandsFrom script all 0)
    (clean : (n : ℕ) → Contains (outputs_read script) n → (c : Collection)
    → made_at all n ≡ Some c → c.traps ≡ []) where
  some-of : (o : Option Collection) → is_some o ≡ true → (c : Collection) × (o ≡ Some c)
  some-of None e = cc
  some-of (Some c) e = (c, refl)

  by-path : (path : List ℕ) (n : ℕ) (c : Collection) → LeadsToOutput script n path
      → made_at all n ≡ Some c → c.traps ≡ []
  by-path [] n c leads is = clean n leads c is
  by-path (reader ∷ path) n c leads is =
      by (λ d made_. by-path path reader d leads.1 made_) (slice_get (made_of script) reader) refl
      leads.0
    where
      by : ((d : Collection) → made_at all reader ≡ Some d → d.traps ≡ [])
          → (o : Option Made) → slice_get (made_of script) reader ≡ o
          → IsSomeAnd o (λ how. Contains (operands how) n) → c.traps ≡ []
      by deeper None there reads = absurd reads
      by deeper (Some how) there reads =
          let needed = (needed_law script well reader).1 (path, leads.1) in
          let in_ = slice_get_within (made_of script) reader how there in
          let many = length-map script.nodes (λ (it : List ℕ × Node). it.1.made) in
          let d = some-of (made_at all reader)
          (are.needed reader (omega (arith, in_, many)) ∙ needed) in
          let it = hands reader n how d.0 (omega arith) there d.1 reads in
          let same : it.own ≡ c = same_some _ _ (sym it.is ∙ is) in
          ap (λ (x : Collection). x.traps) (sym same)
          ∙ it.none (deeper d.0 d.1)

  all-clean : IsClean all
  all-clean n c is =
      let below = within all n c is in
      let size = zip-length IsMadeFor script.nodes all are.each in
      let needed : is_needed script n ≡ true =
      sym (are.needed n (omega (arith, below, size))) ∙ ap is_some is in
      let path = (needed_law script well n).0 needed in
      by-path path.0 n c path.1 is

-- no traps where none is behind what outputs read
pub no-traps : (script : Script) → IsWellFormed script → (rows : List (List Value)) (all : Table)
    → AreMade script script.nodes all
    → collections script script.nodes rows [] ≡ Some all
    → ((n : ℕ) → Contains (outputs_read script) n → (c : Collection) → made_at all n ≡ Some c
    → c.traps ≡ [])
    → traps_of all ≡ []
no-traps script well rows all are means clean =
    table-clean all
    (all-clean script well all are
    (all-hand script all script.nodes [] refl 0 refl rows [] refl means) clean)
