-- The sources that stand before a collection are as many as before the place where it is built.
use Rattle.std.proofs.Common.{inl, inr, ◌≡◌, ◌⊎◌, ℕ, zero, suc, ◌+◌, ◌-◌, ◌<◌, ◌≤◌, List, [], ◌∷◌}
use Rattle.std.proofs.Common.{length, get_or, Option, Some, None, refl, sym, ap, ◌∙◌, subst, arith}
use Rattle.std.proofs.Common.{add-zero, length-append}
use Rattle.std.specs.Prelude.{if◌then◌else◌, slice_get}
use Rattle.graph_build.specs.of_script_program.Needed.{made_of}
use Rattle.graph_build.specs.of_script_program.declared.made.Emitted.{Emitted}
use Rattle.graph_build.specs.of_script_program.declared.made.Made.{Made}
use Rattle.graph_build.specs.of_script_program.declared.made.Made.TheVariants as made
use Rattle.graph_build.specs.of_script_program.Script.{Script}
use Rattle.direct_meaning.specs.of_script_laws.WellFormed.{IsWellFormed}
use Rattle.direct_meaning.proofs.PlaceLemmas.{within}
use Rattle.graph_build.specs.Built.{Built, built}
use Rattle.graph_build.specs.Calls.{emitted_as, is_saved_made, is_kept_at, numbers_kept_from, other_names}
use Rattle.graph_build.specs.Graphs.{next_source}
use Rattle.graph_build.specs.Nodes.{sources_made}
use Rattle.graph_build.specs.Wanted.{wanted}
use Rattle.graph_build.proofs.of_script_program.SourceSteps.{found_below}
use Rattle.build_law.proofs.Blocks.{source_at}
use Rattle.build_law.proofs.Calling.{alone_built, built_made, built_wanted, needed_as}
use Rattle.build_law.proofs.MadeKinds.{IsOther, built_of, emission, is_kept_one}
use Rattle.build_law.proofs.Names.{among, few_kept, kept_before}
use Rattle.build_law.proofs.Naming.{IsCall, IsNamed, name_at, name_emits, named_as, some_same}
use Rattle.build_law.proofs.Slots.{IsKeptName, IsSlot, kept_built, kept_slot, not_named, same_place, slot_of}

-- ---- those that are needed

-- the number of the next source behind a collection, in order of the script
abbrev pub next_wanted : ℕ → Option Made → ℕ
next_wanted source None = source
next_wanted source (Some how) = source + sources_made how

abbrev pub wanted_source : ℕ → List (Option Made) → ℕ → ℕ
wanted_source source [] t = source
wanted_source source (w ∷ ws) zero = source
wanted_source source (w ∷ ws) (suc t) = wanted_source (next_wanted source w) ws t

wanted_zero : (source : ℕ) (ws : List (Option Made)) → wanted_source source ws 0 ≡ source
wanted_zero source [] = refl
wanted_zero source (w ∷ ws) = refl

wanted_next : (source : ℕ) (ws : List (Option Made)) (t : ℕ)
    → wanted_source source ws (suc t)
    ≡ next_wanted (wanted_source source ws t) (get_or ws t None)
wanted_next source [] t = refl
wanted_next source (w ∷ ws) zero = wanted_zero (next_wanted source w) ws
wanted_next source (w ∷ ws) (suc t) = wanted_next (next_wanted source w) ws t

built_zero : (source : ℕ) (ws : List (Option Built)) → source_at source ws 0 ≡ source
built_zero source [] = refl
built_zero source (w ∷ ws) = refl

built_next : (source : ℕ) (ws : List (Option Built)) (t : ℕ)
    → source_at source ws (suc t) ≡ next_source (source_at source ws t) (get_or ws t None)
built_next source [] t = refl
built_next source (w ∷ ws) zero = built_zero (next_source source w) ws
built_next source (w ∷ ws) (suc t) = built_next (next_source source w) ws t

-- an output of a call is a source where it is kept
counted_as : (how : Made) (it : Emitted) (s name : ℕ) → emitted_as how ≡ Some it
    → next_wanted s (Some how) ≡ s + length (if is_saved_made (Some how) then name ∷ [] else [])
counted_as (made.Input file columns) it s name h = cc
counted_as _ it s name h = refl

module _ (script : Script) (well : IsWellFormed script) where
  -- how many sources stand before a collection, and before a place
  abbrev before_wanted : ℕ → ℕ
  before_wanted x = wanted_source 0 (wanted script) x

  abbrev before_built : ℕ → ℕ
  before_built x = source_at 0 (built script) x

  -- ---- the names of a call

  module _ (first source f : ℕ) (call : IsCall script first source f) where
    abbrev many : ℕ
    many = suc (other_names script f)

    abbrev keeps : List ℕ
    keeps = numbers_kept_from script first (suc (other_names script f))

    name_by : (k s name : ℕ) → k < many → (o : Option Made)
        → get_or (wanted script) (first + k) None ≡ o
        → next_wanted s o ≡ s + length (if is_saved_made o then name ∷ [] else [])
    name_by k s name below None is = sym (add-zero s)
    name_by k s name below (Some how) is =
        counted_as how (emission f k) s name
        (name_emits script well first source f call k below how
        (needed_as script (first + k) how is).made)

    one_name : (k s : ℕ) → k < many
        → next_wanted s (get_or (wanted script) (first + k) None)
        ≡ s + length (if is_kept_at script (first + k) then (first + k) ∷ [] else [])
    one_name k s below =
        name_by k s (first + k) below (get_or (wanted script) (first + k) None) refl

    -- of those from one name on
    names_from : (k more : ℕ) → k + more ≤ many
        → before_wanted ((first + k) + more)
        ≡ before_wanted (first + k) + length (numbers_kept_from script (first + k) more)
    names_from k zero low =
        ap before_wanted (add-zero (first + k)) ∙ sym (add-zero (before_wanted (first + k)))
    names_from k (suc more) low =
        let x : ℕ = first + k in
        let own : List ℕ = if is_kept_at script (first + k) then (first + k) ∷ [] else [] in
        let e : (first + k) + suc more ≡ (first + suc k) + more = omega arith in
        let next : suc (first + k) ≡ first + suc k = omega arith in
        let rest : List ℕ = numbers_kept_from script (suc (first + k)) more in
        let step : before_wanted (suc (first + k)) ≡ before_wanted (first + k) + length own =
        wanted_next 0 (wanted script) (first + k)
        ∙ one_name k (before_wanted (first + k)) (omega arith) in
        let others : before_wanted ((first + suc k) + more)
        ≡ before_wanted (suc (first + k)) + length rest =
        names_from (suc k) more (omega arith)
        ∙ ap (λ n. before_wanted n + length (numbers_kept_from script n more)) (sym next) in
        let both = length-append own rest in
        ap before_wanted e ∙ others ∙ omega (arith, step, both)

    names_wanted : (k : ℕ) → k ≤ many
        → before_wanted (first + k)
        ≡ before_wanted first + length (numbers_kept_from script first k)
    names_wanted k low =
        let e : first + 0 ≡ first = add-zero first in
        ap (λ n. before_wanted (n + k)) (sym e)
        ∙ names_from 0 k (omega arith)
        ∙ ap (λ n. before_wanted n + length (numbers_kept_from script n k)) e

    -- the kept ones are built first
    keep_at : (k : ℕ) → k < length keeps
        → next_source (before_built (first + k)) (get_or (built script) (first + k) None)
        ≡ before_built (first + k) + 1
    keep_at k below =
        let (x, there) = found_below keeps k below in
        let it = among script first many k x there in
        let c = is_kept_one (get_or (wanted script) x None) it.kept in
        let at = kept_built script well first source f call it.place c.is_object c.call it.below
        (ap (λ n. get_or (wanted script) n None) it.number ∙ c.is) in
        let same : kept_slot script first it.place ≡ first + k = ap (λ n. first + n) it.before in
        ap (next_source (before_built (first + k)))
        (ap (λ n. get_or (built script) n None) (sym same) ∙ at)

    keeps_built : (k : ℕ) → k ≤ length keeps
        → before_built (first + k) ≡ before_built first + k
    keeps_built zero low =
        ap before_built (add-zero first) ∙ sym (add-zero (before_built first))
    keeps_built (suc k) low =
        let e : first + suc k ≡ suc (first + k) = omega arith in
        let rest = keeps_built k (omega arith) in
        let step = built_next 0 (built script) (first + k) ∙ keep_at k (omega arith) in
        ap before_built e ∙ step ∙ omega (arith, rest)

    -- and behind them no source
    no_source : (k : ℕ) → k < many → length keeps ≤ k → (s : ℕ) (o : Option Built)
        → get_or (built script) (first + k) None ≡ o → next_source s o ≡ s
    no_source k below past s None is = refl
    no_source k below past s (Some it) is =
        by (slot_of script well (first + k) it.number it.made is)
      where
        by_place : (a : IsKeptName script well (first + k) it.number it.made) → ⊥
        by_place a =
            let few = few_kept script a.first a.place in
            let low = a.below in
            let same = same_place script well a.first first a.source source a.f f
            (length (numbers_kept_from script a.first a.place)) k a.call call (omega arith) below
            a.slot in
            let slot = a.slot in
            let here = same.1 in
            let start : a.first ≡ first = omega arith in
            let more = kept_before script a.first (suc (other_names script a.f)) a.place a.below
            (ap (is_kept_at script) a.is
            ∙ ap is_saved_made
            (built_wanted script (first + k) it.number it.made is ∙ ap Some a.made)) in
            let all : length (numbers_kept_from script a.first (suc (other_names script a.f)))
            ≡ length keeps =
            (λ i. length (numbers_kept_from script (start i) (suc (other_names script (same.0 i)))))
            in
            omega arith

        by : IsSlot script well (first + k) it.number it.made → next_source s (Some it) ≡ s
        by (inl a) =
            absurd
            (not_named script well first source f k call below it.made
            (ap (slice_get (made_of script)) (sym a.place)
            ∙ built_made script (first + k) it.number it.made is) a.none)
        by (inr (inl a)) = absurd (by_place a)
        by (inr (inr a)) = ap (λ (how : Made). s + sources_made how) a.made ∙ add-zero s

    none_built : (more : ℕ) → length keeps + more ≤ many
        → before_built (first + (length keeps + more)) ≡ before_built first + length keeps
    none_built zero low =
        ap (λ n. before_built (first + n)) (add-zero (length keeps))
        ∙ keeps_built (length keeps) (omega arith)
    none_built (suc more) low =
        let k : ℕ = length keeps + more in
        let e : first + (length keeps + suc more) ≡ suc (first + (length keeps + more)) =
        omega arith in
        ap before_built e ∙ built_next 0 (built script) (first + (length keeps + more))
        ∙ no_source (length keeps + more) (omega arith) (omega arith)
        (before_built (first + (length keeps + more)))
        (get_or (built script) (first + (length keeps + more)) None) refl
        ∙ none_built more (omega arith)

    -- behind all names as many, where it is so before them
    behind_names : before_built first ≡ before_wanted first
        → before_built (first + many) ≡ before_wanted (first + many)
    behind_names same =
        let few = few_kept script first many in
        let rest = pick few in
        let e : first + (length keeps + rest.0) ≡ first + many =
        (let is = rest.1 in omega arith) in
        ap before_built (sym e) ∙ none_built rest.0 (let is = rest.1 in omega arith)
        ∙ ap (λ n. n + length keeps) same ∙ sym (names_wanted many (omega arith))
      where
        pick : length keeps ≤ many → (more : ℕ) × (length keeps + more ≡ many)
        pick low = (many - length keeps, omega arith)

  -- ---- all collections

  -- no collection is there, or one that is no name of a call but its first
  record IsStart (a : ℕ) : Type 0 where
    pub low : a ≤ length (made_of script)
    pub first : (how : Made) → slice_get (made_of script) a ≡ Some how → (e : Emitted)
        → emitted_as how ≡ Some e → e.output ≡ 0

  alone_start : (a : ℕ) (how : Made) → slice_get (made_of script) a ≡ Some how
      → emitted_as how ≡ None → IsStart a
  alone_start a how is none = record {
    low = (let below = within (made_of script) a how is in omega arith);
    first = λ other at e some.
        (let h : None ≡ Some e =
        sym none ∙ ap emitted_as (some_same how other (sym is ∙ at)) ∙ some in cc);
  }

  call_start : (first source f : ℕ) → IsCall script first source f → IsStart first
  call_start first source f call =
      let it = name_at script well first source f call 0 (omega arith) in
      let at = ap (slice_get (made_of script)) (sym (add-zero first)) ∙ it.made in
      record {
        low = (let below = within (made_of script) first it.how at in omega arith);
        first = λ other there e some. ap (λ (x : Emitted). x.output)
            (some_same e (emission f 0)
            (sym some ∙ ap emitted_as (some_same other it.how (sym there ∙ at)) ∙ it.emitted));
      }

  end_start : IsStart (length (made_of script))
  end_start = record {
    low = omega arith;
    first = λ how at e some.
        (let below = within (made_of script) (length (made_of script)) how at in
        absurd (omega arith));
  }

  -- where one that has no name of a call is not needed, nothing is built at it
  no_built : (x : ℕ) (how : Made) → slice_get (made_of script) x ≡ Some how
      → emitted_as how ≡ None → get_or (wanted script) x None ≡ None → (it : Built)
      → get_or (built script) x None ≡ Some it → IsSlot script well x it.number it.made → ⊥
  no_built x how is none needless it at (inl a) =
      let h : None ≡ Some it.made =
      sym needless ∙ ap (λ n. get_or (wanted script) n None) (sym a.place)
      ∙ built_wanted script x it.number it.made at in cc
  no_built x how is none needless it at (inr (inl a)) =
      let few = few_kept script a.first a.place in
      let low = a.below in
      not_named script well a.first a.source a.f (length (numbers_kept_from script a.first a.place))
      a.call
      (omega arith) how (ap (slice_get (made_of script)) a.slot ∙ is) none
  no_built x how is none needless it at (inr (inr a)) =
      not_named script well a.first a.source a.f
      (length (numbers_kept_from script a.first (suc (other_names script a.f)))) a.call a.low how
      (ap (slice_get (made_of script)) a.slot ∙ is) none

  stays : (x : ℕ) (how : Made) → slice_get (made_of script) x ≡ Some how
      → emitted_as how ≡ None → get_or (wanted script) x None ≡ None → (s : ℕ)
      (b : Option Built) → get_or (built script) x None ≡ b → next_source s b ≡ s
  stays x how is none needless s None at = refl
  stays x how is none needless s (Some it) at =
      absurd
      (no_built x how is none needless it at
      (slot_of script well x it.number it.made at))

  alone_by : (x : ℕ) (how : Made) → slice_get (made_of script) x ≡ Some how
      → emitted_as how ≡ None → (s : ℕ) (w : Option Made) → get_or (wanted script) x None ≡ w
      → next_source s (get_or (built script) x None) ≡ next_wanted s w
  alone_by x how is none s None at =
      stays x how is none at s (get_or (built script) x None) refl
  alone_by x how is none s (Some own) at =
      let same : how ≡ own = some_same how own (sym is ∙ (needed_as script x own at).made) in
      ap (next_source s)
      (alone_built script x own (ap emitted_as (sym same) ∙ none) at)

  alone_next : (x : ℕ) (how : Made) → slice_get (made_of script) x ≡ Some how
      → emitted_as how ≡ None → before_built x ≡ before_wanted x
      → before_built (suc x) ≡ before_wanted (suc x)
  alone_next x how is none same =
      built_next 0 (built script) x
      ∙ alone_by x how is none (before_built x) (get_or (wanted script) x None) refl
      ∙ ap (λ s. next_wanted s (get_or (wanted script) x None)) same
      ∙ sym (wanted_next 0 (wanted script) x)

  less_or : (a b : ℕ) → a < b → (suc a < b) ⊎ (suc a ≡ b)
  less_or a zero below = absurd (omega arith)
  less_or zero (suc zero) below = inr refl
  less_or zero (suc (suc b)) below = inl (omega arith)
  less_or (suc a) (suc b) below = more (less_or a b (omega arith))
    where
      more : (suc a < b) ⊎ (suc a ≡ b) → (suc (suc a) < suc b) ⊎ (suc (suc a) ≡ suc b)
      more (inl low) = inl (omega arith)
      more (inr is) = inr (ap suc is)

  -- the names of a call, behind their last one
  names_next : (x f o : ℕ) → IsStart (suc x) → (n : IsNamed script well x f o)
      → before_built n.first ≡ before_wanted n.first
      → (suc o < suc (other_names script f)) ⊎ (suc o ≡ suc (other_names script f))
      → before_built (suc x) ≡ before_wanted (suc x)
  names_next x f o start n same (inl low) =
      let place = n.place in
      let e : suc x ≡ n.first + suc o = omega arith in
      let it = name_at script well n.first n.source f n.call (suc o) low in
      let none : suc o ≡ 0 =
      start.first it.how (ap (slice_get (made_of script)) e ∙ it.made) (emission f (suc o))
      it.emitted in
      absurd (omega (arith, none))
  names_next x f o start n same (inr all) =
      let place = n.place in
      let e : n.first + suc (other_names script f) ≡ suc x = omega arith in
      subst (λ a. before_built a ≡ before_wanted a) e
      (behind_names n.first n.source f n.call same)

  start_next : (x : ℕ) → IsStart (suc x)
      → ((a : ℕ) → a ≤ x → IsStart a → before_built a ≡ before_wanted a) → (how : Made)
      → slice_get (made_of script) x ≡ Some how → (o : Option Emitted) → emitted_as how ≡ o
      → before_built (suc x) ≡ before_wanted (suc x)
  start_next x start earlier how is None none =
      alone_next x how is none (earlier x (omega arith) (alone_start x how is none))
  start_next x start earlier how is (Some e) some =
      let n = named_as script well x how e is some in
      let place = n.place in
      names_next x e.function e.output start n
      (earlier n.first (omega arith) (call_start n.first n.source e.function n.call))
      (less_or e.output (suc (other_names script e.function)) n.below)

  starts : (bound a : ℕ) → a ≤ bound → IsStart a → before_built a ≡ before_wanted a
  starts bound zero low start = built_zero 0 (built script) ∙ sym (wanted_zero 0 (wanted script))
  starts zero (suc x) low start = absurd (omega arith)
  starts (suc bound) (suc x) low start =
      let size = start.low in
      let it = found_below (made_of script) x (omega arith) in
      start_next x start (λ a before s. starts bound a (omega arith) s) it.0 it.1
      (emitted_as it.0) refl

  -- behind all
  pub all_sources : source_at 0 (built script) (length (made_of script))
      ≡ wanted_source 0 (wanted script) (length (made_of script))
  all_sources =
      starts (length (made_of script)) (length (made_of script)) (omega arith) end_start

  -- ---- what is built

  at_kept : (t number : ℕ) (mk : Made)
      → get_or (built script) t None ≡ Some (built_of number mk)
      → IsKeptName script well t number mk → before_built t ≡ before_wanted number
  at_kept t number mk found a =
      let front : List ℕ = numbers_kept_from script a.first a.place in
      let few = kept_before script a.first (suc (other_names script a.f)) a.place a.below
      (ap (is_kept_at script) a.is
      ∙ ap is_saved_made (built_wanted script t number mk found ∙ ap Some a.made)) in
      let low = a.below in
      ap before_built (sym a.slot)
      ∙ keeps_built a.first a.source a.f a.call (length front) (omega arith)
      ∙ ap (λ n. n + length front)
      (starts a.first a.first (omega arith) (call_start a.first a.source a.f a.call))
      ∙ sym (names_wanted a.first a.source a.f a.call a.place (omega arith))
      ∙ ap before_wanted a.is

  -- what no call makes is built behind as many sources as it stands
  pub same_sources : (t number : ℕ) (mk : Made) → IsOther mk
      → get_or (built script) t None ≡ Some (built_of number mk)
      → source_at 0 (built script) t ≡ wanted_source 0 (wanted script) number
  same_sources t number mk apart found = by (slot_of script well t number mk found)
    where
      by : IsSlot script well t number mk → before_built t ≡ before_wanted number
      by (inl a) =
          starts t t (omega arith)
          (alone_start t mk
          (ap (slice_get (made_of script)) (sym a.place) ∙ built_made script t number mk found)
          a.none)
          ∙ ap before_wanted (sym a.place)
      by (inr (inl a)) = at_kept t number mk found a
      by (inr (inr a)) = absurd (subst IsOther a.made apart)
