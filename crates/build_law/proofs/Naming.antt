-- How collections fit where they stand, what they are made from, and where the names of a call
-- stand.
use Rattle.std.proofs.Common.{◌≡◌, ℕ, zero, suc, ◌+◌, ◌-◌, ◌<◌, true, List, [], ◌∷◌, ◌++◌, map}
use Rattle.std.proofs.Common.{length, get_or, Option, Some, None, refl, sym, ap, ◌∙◌, subst, arith}
use Rattle.std.proofs.Common.{add-zero, zero-add}
use Rattle.std.specs.Prelude.{slice_get, IsSomeAnd}
use Rattle.std.specs.Option.{option_map}
use Rattle.std.specs.List.{Contains}
use Rattle.flume_types.specs.declared.types.Ty.{Ty}
use Rattle.written_types.specs.Named.{Named}
use Rattle.graph_build.specs.of_script_program.Needed.{is_needed, made_of, operands}
use Rattle.graph_build.specs.of_script_program.declared.made.Emitted.{Emitted}
use Rattle.graph_build.specs.of_script_program.declared.made.Made.{Made}
use Rattle.graph_build.specs.of_script_program.declared.made.Made.TheVariants as made
use Rattle.graph_build.specs.of_script_program.Script.{Function, Node, Script}
use Rattle.direct_meaning.specs.of_script_laws.WellFormed.{AllFit, Fits, IsEmitted, ComesOfEarlierRun, IsNameOf, IsWellFormed, function_at, members_at}
use Rattle.direct_meaning.proofs.of_script_laws.NeededLemmas.{needed_law, operand_before}
use Rattle.direct_meaning.proofs.PlaceLemmas.{within}
use Rattle.graph_build.specs.Calls.{beside_first, emitted_as, other_names}
use Rattle.graph_build.specs.Wanted.{wanted}
use Rattle.build_law.proofs.MadeKinds.{emission}
use Rattle.build_law.proofs.Tables.{one_longer}
use Rattle.build_law.proofs.Values.{regrouped}
use Rattle.build_law.proofs.Calling.{needed_as, slice_seam, wanted_here}

pub some_same : {A : Type 0} (x y : A) → Some x ≡ Some y → x ≡ y
some_same x y h = cc

some_and : {A : Type 0} (P : A → Type 0) (o : Option A) → IsSomeAnd o P
    → (x : A) × (o ≡ Some x) × P x
some_and P None h = absurd h
some_and P (Some x) h = (x, refl, h)

-- ---- names of a call

-- the output of a call that a name is
name_emission : (source f k : ℕ) (how : Made) → IsNameOf source f k how
    → emitted_as how ≡ Some (emission f k)
name_emission source f k (made.Do input g o) h = ap emitted_as h
name_emission source f k (made.Saved is_object call) h = h
name_emission source f k _ h = absurd h

-- an output of a call has the type that its function gives to it
pub emitted_fits : (functions : Named Function) (before : Named Node) (how : Made) (it : Emitted)
    (type : Ty) → emitted_as how ≡ Some it → Fits functions before how type
    → IsEmitted functions it type
emitted_fits functions before (made.Do input f o) it type h fit =
    subst (λ (e : Emitted). IsEmitted functions e type) (some_same (emission f o) it h)
    (record { function = fit.function; calls = fit.calls; gives = fit.gives })
emitted_fits functions before (made.Saved is_object call) it type h fit =
    subst (λ o. ComesOfEarlierRun functions o type) h fit
emitted_fits functions before _ it type h fit = cc

-- the collections from a number on are the names of a call of that function on a source
pub record IsCall (script : Script) (first source f : ℕ) : Type 0 where
  pub names : (k : ℕ) → k < suc (other_names script f)
      → IsSomeAnd (slice_get (made_of script) (first + k)) (IsNameOf source f k)

module _ (script : Script) (well : IsWellFormed script) where
  -- how a collection fits where it stands
  pub record FitsAt (j : ℕ) (how : Made) : Type 0 where
    pub before : Named Node
    pub rest : Named Node
    pub is : script.nodes ≡ before ++ rest
    pub size : length before ≡ j
    pub type : Ty
    pub has : members_at script.nodes j ≡ Some type
    pub fit : Fits script.functions before how type

  fit_from : (before nodes : Named Node) (origin t : ℕ) (how : Made)
      → script.nodes ≡ before ++ nodes → length before ≡ origin
      → AllFit script.functions before nodes
      → slice_get (map (λ entry. entry.1.made) nodes) t ≡ Some how → FitsAt (origin + t) how
  fit_from before [] origin t how is size fit found = cc
  fit_from before (entry ∷ nodes) origin zero how is size fit found =
      let same : entry.1.made ≡ how = cc in
      subst (λ o. FitsAt o how) (sym (add-zero origin))
      (record {
        before = before;
        rest = entry ∷ nodes;
        is = is;
        size = size;
        type = entry.1.type;
        has = ap (option_map (λ (it : List ℕ × Node). it.1.type))
            (slice_seam script.nodes before nodes entry origin is size);
        fit = subst (λ (m : Made). Fits script.functions before m entry.1.type) same fit.0;
      })
  fit_from before (entry ∷ nodes) origin (suc t) how is size fit found =
      let e : suc origin + t ≡ origin + suc t = omega arith in
      subst (λ o. FitsAt o how) e
      (fit_from (before ++ entry ∷ []) nodes (suc origin) t how
      (regrouped script.nodes before (entry ∷ []) nodes is)
      (one_longer before entry ∙ ap suc size) fit.1 found)

  pub fits_at : (j : ℕ) (how : Made) → slice_get (made_of script) j ≡ Some how → FitsAt j how
  fits_at j how found =
      subst (λ o. FitsAt o how) (zero-add j)
      (fit_from [] script.nodes 0 j how refl refl well.nodes found)

  -- what a collection is made from stands before it, and is needed where it is
  pub operand_early : (reader j : ℕ) (how : Made)
      → slice_get (made_of script) reader ≡ Some how → Contains (operands how) j → j < reader
  operand_early reader j how is reads =
      let f = fits_at reader how is in
      let early = operand_before script.functions f.before how f.type f.fit j reads in
      let size = f.size in
      omega arith

  pub operand_needed : (reader j : ℕ) (how : Made) → is_needed script reader ≡ true
      → slice_get (made_of script) reader ≡ Some how → Contains (operands how) j
      → is_needed script j ≡ true
  operand_needed reader j how needed is reads =
      let path = (needed_law script well reader).0 needed in
      (needed_law script well j).1 (
        reader ∷ path.0,
        (subst (λ o. IsSomeAnd o (λ (it : Made). Contains (operands it) j)) (sym is) reads, path.1),
      )

  pub operand_wanted : (reader j : ℕ) (how : Made)
      → get_or (wanted script) reader None ≡ Some how → Contains (operands how) j
      → (it : Made) × (get_or (wanted script) j None ≡ Some it)
  operand_wanted reader j how found reads =
      let is = needed_as script reader how found in
      let early = operand_early reader j how is.made reads in
      let below = is.below in
      wanted_here script j (omega arith)
      (operand_needed reader j how is.needed is.made reads)

  -- the output o of a call of the function f has the number j
  pub record IsNamed (j f o : ℕ) : Type 0 where
    pub first : ℕ
    pub place : first + o ≡ j
    pub below : o < suc (other_names script f)
    pub source : ℕ
    pub call : IsCall script first source f

  same_function : (a b : Function) → Some a ≡ Some b → a ≡ b
  same_function a b h = cc

  -- as many names as the function has outputs
  pub as_many : (f : ℕ) (function : Function) (o : ℕ) (type : Ty)
      → function_at script.functions f ≡ Some function
      → slice_get function.signature.gives o ≡ Some type
      → suc (other_names script f) ≡ length function.signature.gives
  as_many f function o type calls gives =
      let e : other_names script f ≡ length function.signature.gives - 1 =
      ap beside_first calls in
      let some = within function.signature.gives o type gives in
      omega arith

  pub named_as : (j : ℕ) (how : Made) (it : Emitted) → slice_get (made_of script) j ≡ Some how
      → emitted_as how ≡ Some it → IsNamed j it.function it.output
  named_as j how it is emitted =
      let call = well.calls j how it is emitted in
      let at = fits_at j how is in
      let fit = emitted_fits script.functions at.before how it at.type emitted at.fit in
      let many = as_many it.function fit.function it.output at.type fit.calls fit.gives in
      let same : call.function ≡ fit.function =
      same_function call.function fit.function (sym call.calls ∙ fit.calls) in
      let size : length call.function.signature.gives ≡ length fit.function.signature.gives =
      ap (λ (g : Function). length g.signature.gives) same in
      let low = within fit.function.signature.gives it.output at.type fit.gives in
      record {
        first = call.first;
        place = call.place;
        below = omega arith;
        source = call.source;
        call = record {
          names = λ k below. call.names k (let few = below in omega arith);
        };
      }

  pub named : (j source f o : ℕ) → slice_get (made_of script) j ≡ Some (made.Do source f o)
      → IsNamed j f o
  named j source f o is = named_as j (made.Do source f o) (emission f o) is refl

  -- ---- the names of a call, one by one

  module _ (first source f : ℕ) (call : IsCall script first source f) where
    -- how the name of a place is made
    pub record IsName (k : ℕ) : Type 0 where
      pub how : Made
      pub made : slice_get (made_of script) (first + k) ≡ Some how
      pub name : IsNameOf source f k how
      pub emitted : emitted_as how ≡ Some (emission f k)

    pub name_at : (k : ℕ) → k < suc (other_names script f) → IsName k
    name_at k below =
        let (how, is, name) =
        some_and (IsNameOf source f k) (slice_get (made_of script) (first + k))
        (call.names k below) in
        record {
          how = how;
          made = is;
          name = name;
          emitted = name_emission source f k how name;
        }

    -- one that is made so is that output
    pub name_is : (k : ℕ) → k < suc (other_names script f) → (how : Made)
        → slice_get (made_of script) (first + k) ≡ Some how → IsNameOf source f k how
    name_is k below how is =
        let it = name_at k below in
        subst (IsNameOf source f k) (some_same it.how how (sym it.made ∙ is)) it.name

    pub name_emits : (k : ℕ) → k < suc (other_names script f) → (how : Made)
        → slice_get (made_of script) (first + k) ≡ Some how
        → emitted_as how ≡ Some (emission f k)
    name_emits k below how is =
        name_emission source f k how (name_is k below how is)
