-- What is needed of a well-formed script, and what is built at its collections.
use Rattle.std.proofs.Common.{◌≡◌, ℕ, zero, suc, ◌+◌, ◌<◌, Bool, true, false, List, [], ◌∷◌}
use Rattle.std.proofs.Common.{◌++◌, map, length, get_or, Option, Some, None, refl, sym, ap, ◌∙◌}
use Rattle.std.proofs.Common.{subst, arith, add-zero, zero-add}
use Rattle.std.specs.Prelude.{is_some, option_and_then, slice_get, if◌then◌else◌}
use Rattle.std.specs.Option.{option_map}
use Rattle.std.specs.List.{AllByRecursion, Contains}
use Rattle.std.proofs.lemmas.Option.{slice_get-map}
use Rattle.flume_collection.proofs.Members.{at_head, at_tail}
use Rattle.written_types.specs.Named.{Named}
use Rattle.graph_build.specs.of_script_program.Needed.{is_needed, made_of}
use Rattle.graph_build.specs.of_script_program.declared.made.Emitted.{Emitted}
use Rattle.graph_build.specs.of_script_program.declared.made.Made.{Made}
use Rattle.graph_build.specs.of_script_program.declared.made.Made.TheVariants as made
use Rattle.graph_build.specs.of_script_program.Script.{Node, Script}
use Rattle.graph_build.specs.Built.{Built, as_made, built, built_as as built_name, built_from, built_here}
use Rattle.graph_build.specs.Calls.{emitted_as, emitted_at, is_emitted, is_saved_made, is_kept_at}
use Rattle.graph_build.specs.Wanted.{needed_at, wanted, wanted_from}
use Rattle.graph_build.proofs.BuiltLemmas.{built_is}
use Rattle.graph_build.proofs.of_script_program.SourceSteps.{found_below}
use Rattle.graph_build.proofs.WantedLemmas.{wanted_needed}
use Rattle.build_law.proofs.MadeKinds.{built_of}
use Rattle.build_law.proofs.Tables.{and_then_some, map_some}

pub each_contained : {A : Type 0} (P : A → Type 0) (xs : List A)
    → ((x : A) → Contains xs x → P x) → AllByRecursion P xs
each_contained P [] h = tt
each_contained P (x ∷ xs) h =
    (h x (at_head x xs), each_contained P xs (λ y is. h y (at_tail x xs y is)))

at_length : {A : Type 0} (xs ys : List A) (y : A) (n : ℕ) → length xs ≡ n
    → slice_get (xs ++ y ∷ ys) n ≡ Some y
at_length [] ys y zero h = refl
at_length [] ys y (suc n) h = absurd (omega arith)
at_length (x ∷ xs) ys y zero h = absurd (omega arith)
at_length (x ∷ xs) ys y (suc n) h = at_length xs ys y n (omega arith)

pub slice_seam : {A : Type 0} (all xs ys : List A) (y : A) (n : ℕ) → all ≡ xs ++ y ∷ ys
    → length xs ≡ n → slice_get all n ≡ Some y
slice_seam all xs ys y n is size =
    ap (λ zs. slice_get zs n) is ∙ at_length xs ys y n size

some_is : {A : Type 0} (o : Option A) → is_some o ≡ true → (x : A) × (o ≡ Some x)
some_is None h = cc
some_is (Some x) h = (x, refl)

pub if_some : {A : Type 0} (b : Bool) (own x : A) → (if b then Some own else None) ≡ Some x
    → (b ≡ true) × (own ≡ x)
if_some true own x h = (refl, cc)
if_some false own x h = cc

module _ (script : Script) where
  -- ---- what is needed, as it is made

  how_needed : (j : ℕ) (how : Made) → get_or (wanted script) j None ≡ Some how
      → needed_at script j ≡ true
  how_needed j how found = ap is_some found

  -- one that a call emits, and a kept one
  pub how_emitted : (j source f o : ℕ)
      → get_or (wanted script) j None ≡ Some (made.Do source f o) → emitted_at script j ≡ true
  how_emitted j source f o found = ap is_emitted found

  pub how_kept : (j : ℕ) (is_object : Bool) (call : Option Emitted)
      → get_or (wanted script) j None ≡ Some (made.Saved is_object call)
      → is_kept_at script j ≡ true
  how_kept j is_object call found = ap is_saved_made found

  pub record IsNeededAs (j : ℕ) (how : Made) : Type 0 where
    pub needed : is_needed script j ≡ true
    pub below : j < length script.nodes
    pub made : slice_get (made_of script) j ≡ Some how

  as_in : (k i : ℕ) (nodes : Named Node) (how : Made)
      → get_or (wanted_from script k nodes) i None ≡ Some how
      → (is_needed script (k + i) ≡ true) × (i < length nodes)
      × (slice_get (map (λ entry. entry.1.made) nodes) i ≡ Some how)
  as_in k i [] how h = cc
  as_in k zero (entry ∷ nodes) how h =
      let own = if_some (is_needed script k) entry.1.made how h in (
        subst (λ n. is_needed script n ≡ true) (sym (add-zero k)) own.0,
        omega arith,
        ap Some own.1,
      )
  as_in k (suc i) (entry ∷ nodes) how h =
      let rest = as_in (suc k) i nodes how h in
      let below = rest.1 in
      let e : suc k + i ≡ k + suc i = omega arith in
      (subst (λ n. is_needed script n ≡ true) e rest.0, omega arith, rest.2)

  pub needed_as : (j : ℕ) (how : Made) → get_or (wanted script) j None ≡ Some how
      → IsNeededAs j how
  needed_as j how found =
      let h = as_in 0 j script.nodes how found in
      record {
        needed = subst (λ n. is_needed script n ≡ true) (zero-add j) h.0;
        below = h.1;
        made = h.2;
      }

  entry_at : (j : ℕ) (how : Made) → slice_get (made_of script) j ≡ Some how
      → (entry : List ℕ × Node) × (slice_get script.nodes j ≡ Some entry)
      × (entry.1.made ≡ how)
  entry_at j how is =
      map_some (λ (it : List ℕ × Node). it.1.made) (slice_get script.nodes j) how
      (sym (slice_get-map (λ (it : List ℕ × Node). it.1.made) script.nodes j) ∙ is)

  pub how_wanted : (j : ℕ) (how : Made) → is_needed script j ≡ true
      → slice_get (made_of script) j ≡ Some how → get_or (wanted script) j None ≡ Some how
  how_wanted j how needed is =
      let (entry, found, same) = entry_at j how is in
      sym (wanted_needed script j entry.1 (ap (option_map (λ (it : List ℕ × Node). it.1)) found)
      (sym needed)) ∙ ap Some same

  pub wanted_here : (j : ℕ) → j < length script.nodes → is_needed script j ≡ true
      → (how : Made) × (get_or (wanted script) j None ≡ Some how)
  wanted_here j below needed =
      let (entry, found) = found_below script.nodes j below in (
        entry.1.made,
        sym (wanted_needed script j entry.1 (ap (option_map (λ (it : List ℕ × Node). it.1)) found)
            (sym needed)),
      )

  -- ---- what is built, as it is made

  -- what is built at a place is the needed collection that its own is told to build
  pub record IsBuiltAs (t number : ℕ) (mk : Made) : Type 0 where
    pub how : Made
    pub made : slice_get (made_of script) t ≡ Some how
    pub named : built_name script t (emitted_as how) ≡ Some number
    pub wanted_ : get_or (wanted script) number None ≡ Some mk

  built_in : (k i : ℕ) (nodes : Named Node) (it : Built)
      → get_or (built_from script k nodes) i None ≡ Some it
      → (how : Made) × (slice_get (map (λ entry. entry.1.made) nodes) i ≡ Some how)
      × (built_here script (k + i) how ≡ Some it)
  built_in k i [] it h = cc
  built_in k zero (entry ∷ nodes) it h = (
    entry.1.made,
    refl,
    ap (λ n. built_here script n entry.1.made) (add-zero k) ∙ h,
  )
  built_in k (suc i) (entry ∷ nodes) it h =
      let rest = built_in (suc k) i nodes it h in
      let e : suc k + i ≡ k + suc i = omega arith in
      (rest.0, rest.1, subst (λ n. built_here script n rest.0 ≡ Some it) e rest.2)

  built_from_name : (t number : ℕ) (mk how : Made) → slice_get (made_of script) t ≡ Some how
      → built_here script t how ≡ Some (built_of number mk) → IsBuiltAs t number mk
  built_from_name t number mk how is here =
      let (n, named, made_n) =
      and_then_some (as_made script) (built_name script t (emitted_as how)) (built_of number mk)
      here in
      let (own, wanted_n, same) =
      map_some (built_of n) (get_or (wanted script) n None) (built_of number mk) made_n in
      let e : n ≡ number = ap (λ (it : Built). it.number) same in
      let f : own ≡ mk = ap (λ (it : Built). it.made) same in
      record {
        how = how;
        made = is;
        named = named ∙ ap Some e;
        wanted_ = subst (λ k. get_or (wanted script) k None ≡ Some mk) e (wanted_n ∙ ap Some f);
      }

  pub built_as : (t number : ℕ) (mk : Made)
      → get_or (built script) t None ≡ Some (built_of number mk) → IsBuiltAs t number mk
  built_as t number mk found =
      let h = built_in 0 t script.nodes (built_of number mk) found in
      built_from_name t number mk h.0 h.1
      (subst (λ n. built_here script n h.0 ≡ Some (built_of number mk)) (zero-add t) h.2)

  -- it is needed, and made as it is built
  pub built_wanted : (t number : ℕ) (mk : Made)
      → get_or (built script) t None ≡ Some (built_of number mk)
      → get_or (wanted script) number None ≡ Some mk
  built_wanted t number mk found = (built_as t number mk found).wanted_

  pub built_made : (t number : ℕ) (mk : Made)
      → get_or (built script) t None ≡ Some (built_of number mk)
      → slice_get (made_of script) number ≡ Some mk
  built_made t number mk found = (needed_as number mk (built_wanted t number mk found)).made

  -- and what a collection is told to build is built at it
  pub how_built : (t number : ℕ) (how mk : Made) → slice_get (made_of script) t ≡ Some how
      → built_name script t (emitted_as how) ≡ Some number
      → get_or (wanted script) number None ≡ Some mk
      → get_or (built script) t None ≡ Some (built_of number mk)
  how_built t number how mk is named found =
      let (entry, there, same) = entry_at t how is in
      sym (built_is script t entry.1 (ap (option_map (λ (it : List ℕ × Node). it.1)) there))
      ∙ ap (built_here script t) same
      ∙ ap (option_and_then (as_made script)) named
      ∙ ap (option_map (built_of number)) found

  -- one that has no name of a call is built where it stands
  pub alone_built : (j : ℕ) (how : Made) → emitted_as how ≡ None
      → get_or (wanted script) j None ≡ Some how
      → get_or (built script) j None ≡ Some (built_of j how)
  alone_built j how none found =
      how_built j j how how (needed_as j how found).made
      (ap (built_name script j) none
      ∙ ap (λ (b : Bool). if b then Some j else None) (how_needed j how found))
      found
