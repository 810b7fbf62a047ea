-- Where the nodes of a collection are built: at itself, or among the names of a call, first of its
-- kept names, and then of the call.
use Rattle.std.proofs.Common.{inl, inr, ◌≡◌, ◌⊎◌, ℕ, suc, ◌+◌, ◌-◌, ◌<◌, Bool, true, false, List, ◌∷◌, ◌++◌}
use Rattle.std.proofs.Common.{length, get_or, Option, Some, None, refl, sym, ap, ◌∙◌, subst, arith}
use Rattle.std.proofs.Common.{append_assoc}
use Rattle.std.specs.Prelude.{if◌then◌else◌, slice_get}
use Rattle.graph_build.specs.of_script_program.Needed.{made_of}
use Rattle.graph_build.specs.of_script_program.declared.made.Emitted.{Emitted}
use Rattle.graph_build.specs.of_script_program.declared.made.Made.{Made}
use Rattle.graph_build.specs.of_script_program.declared.made.Made.TheVariants as made
use Rattle.graph_build.specs.of_script_program.Script.{Script}
use Rattle.direct_meaning.specs.of_script_laws.WellFormed.{IsWellFormed}
use Rattle.direct_meaning.proofs.PlaceLemmas.{within}
use Rattle.graph_build.specs.Built.{built, built_as as built_name}
use Rattle.graph_build.specs.Calls.{call_built, emitted_as, emitted_at, first_emitted, numbers_kept_from, other_names}
use Rattle.graph_build.specs.Wanted.{needed_at, wanted, wanted_at}
use Rattle.graph_build.proofs.BuiltLemmas.{at_second}
use Rattle.build_law.proofs.Calling.{IsBuiltAs, built_as, built_made, how_built, how_kept, if_some, needed_as, slice_seam}
use Rattle.build_law.proofs.MadeKinds.{built_of, emission, is_called, is_kept_one}
use Rattle.build_law.proofs.Names.{IsAmong, IsFirst, among, few_built, few_kept, first_is, in_either, kept_seam, some_first}
use Rattle.build_law.proofs.Naming.{IsCall, IsNamed, name_at, name_emits, name_is, named_as, some_same}

module _ (script : Script) where
  -- where a kept name of a call is built, by the place of the name, and where the call is
  abbrev pub kept_slot : ℕ → ℕ → ℕ
  kept_slot first place = first + length (numbers_kept_from script first place)

  abbrev pub call_slot : ℕ → ℕ → ℕ
  call_slot first f = kept_slot first (suc (other_names script f))

module _ (script : Script) (well : IsWellFormed script) where
  -- ---- from names to where they are built

  module _ (first source f : ℕ) (call : IsCall script first source f) where
    abbrev many : ℕ
    many = suc (other_names script f)

    abbrev firsts : List ℕ
    firsts = first_emitted script first (suc (other_names script f))

    abbrev keeps : List ℕ
    keeps = numbers_kept_from script first (suc (other_names script f))

    slot_built : (k number : ℕ) (mk : Made) → k < many
        → slice_get (call_built script first f) k ≡ Some number
        → get_or (wanted script) number None ≡ Some mk
        → get_or (built script) (first + k) None ≡ Some (built_of number mk)
    slot_built k number mk below named found =
        let it = name_at script well first source f call k below in
        let e : (first + k) - k ≡ first = omega arith in
        how_built script (first + k) number it.how mk it.made
        (ap (built_name script (first + k)) it.emitted
        ∙ ap (λ n. slice_get (call_built script n f) k) e
        ∙ named)
        found

    -- a kept one, behind those before it
    pub kept_built : (o : ℕ) (is_object : Bool) (it : Option Emitted) → o < many
        → get_or (wanted script) (first + o) None ≡ Some (made.Saved is_object it)
        → get_or (built script) (kept_slot script first o) None
        ≡ Some (built_of (first + o) (made.Saved is_object it))
    kept_built o is_object it below found =
        let seam = kept_seam script first many o below
        (how_kept script (first + o) is_object it found) in
        let front : List ℕ = numbers_kept_from script first o in
        let few = few_kept script first o in
        slot_built (length front) (first + o) (made.Saved is_object it) (omega arith)
        (slice_seam (call_built script first f) front (seam.0 ++ firsts) (first + o)
        (length front)
        (ap (λ (l : List ℕ). l ++ firsts) seam.1
        ∙ append_assoc front ((first + o) ∷ seam.0) firsts)
        refl)
        found

    -- the call, behind all that are kept, as the first name that it emits
    pub record IsFirstName : Type 0 where
      pub place : ℕ
      pub below : place < suc (other_names script f)
      pub wanted_ : get_or (wanted script) (first + place) None ≡ Some (made.Do source f place)
      pub low : length (numbers_kept_from script first (suc (other_names script f)))
          < suc (other_names script f)
      pub earlier : (i : ℕ) → i < place → emitted_at script (first + i) ≡ false

    -- one that a call emits among these names
    pub emits : (x place : ℕ) → place < many → first + place ≡ x → emitted_at script x ≡ true
        → get_or (wanted script) x None ≡ Some (made.Do source f place)
    emits x place below is emitted =
        let c = is_called (wanted_at script x) emitted in
        let how : Made = made.Do c.source c.function c.output in
        let name : how ≡ made.Do source f place =
        name_is script well first source f call place below how
        (ap (slice_get (made_of script)) is ∙ (needed_as script x how c.is).made) in
        c.is ∙ ap Some name

    pub call_is_built : (k : ℕ) → k < many → emitted_at script (first + k) ≡ true
        → (n : IsFirstName)
        × (get_or (built script) (call_slot script first f) None
        ≡ Some (built_of (first + n.place) (made.Do source f n.place)))
    call_is_built k below emitted =
        let some = some_first script first many k below emitted in
        let it = (first_is script first many 0 some.0 some.1).1 in
        let mk : Made = made.Do source f it.place in
        let wanted_x = emits some.0 it.place it.below it.number it.emitted in
        let wanted_is : get_or (wanted script) (first + it.place) None ≡ Some mk =
        subst (λ n. get_or (wanted script) n None ≡ Some mk) (sym it.number) wanted_x in
        let few = few_built script first many in
        let one = within firsts 0 some.0 some.1 in (
          record {
            place = it.place;
            below = it.below;
            wanted_ = wanted_is;
            low = omega arith;
            earlier = it.earlier;
          },
          slot_built (length keeps) (first + it.place) mk (omega arith)
              (sym (at_second keeps firsts (length keeps) refl) ∙ some.1
              ∙ ap Some (sym it.number))
              wanted_is,
        )

  -- ---- from a place to what is built there

  pub record IsAlone (t number : ℕ) (mk : Made) : Type 0 where
    pub place : number ≡ t
    pub none : emitted_as mk ≡ None

  -- an output of a call, by its place among them
  pub record HasPlace (number : ℕ) : Type 0 where
    pub first : ℕ
    pub source : ℕ
    pub f : ℕ
    pub call : IsCall script first source f
    pub place : ℕ
    pub below : place < suc (other_names script f)
    pub is : first + place ≡ number

  pub record IsKeptName (t number : ℕ) (mk : Made) : Type 0 where
    pub at : HasPlace number
    pub open at use *
    pub slot : kept_slot script first place ≡ t
    pub is_object : Bool
    pub made : mk ≡ made.Saved is_object (Some (emission f place))

  pub record IsCallNode (t number : ℕ) (mk : Made) : Type 0 where
    pub at : HasPlace number
    pub open at use *
    pub low : length (numbers_kept_from script first (suc (other_names script f)))
        < suc (other_names script f)
    pub slot : call_slot script first f ≡ t
    pub made : mk ≡ made.Do source f place
    pub earlier : (i : ℕ) → i < place → emitted_at script (first + i) ≡ false

  abbrev pub IsSlot : ℕ → ℕ → Made → Type 0
  IsSlot t number mk = IsAlone t number mk ⊎ (IsKeptName t number mk ⊎ IsCallNode t number mk)

  module _ (t number : ℕ) (mk : Made)
      (found : get_or (built script) t None ≡ Some (built_of number mk)) where
    at_itself : (it : IsBuiltAs script t number mk) → emitted_as it.how ≡ None
        → IsAlone t number mk
    at_itself it none =
        let named : (if needed_at script t then Some t else None) ≡ Some number =
        ap (built_name script t) (sym none) ∙ it.named in
        let e : t ≡ number = (if_some (needed_at script t) t number named).1 in
        let same : it.how ≡ mk =
        some_same it.how mk
        (sym it.made ∙ ap (slice_get (made_of script)) e ∙ built_made script t number mk found)
        in
        record { place = sym e; none = ap emitted_as (sym same) ∙ none }

    module _ (f o : ℕ) (n : IsNamed script well t f o) where
      abbrev at_place : (place : ℕ) → place < suc (other_names script f)
          → n.first + place ≡ number → HasPlace number
      at_place place below is = record {
        first = n.first;
        source = n.source;
        f = f;
        call = n.call;
        place = place;
        below = below;
        is = is;
      }

      at_kept : (it : IsAmong script n.first (suc (other_names script f)) o number)
          → get_or (wanted script) number None ≡ Some mk → IsKeptName t number mk
      at_kept it wanted_is =
          let c = is_kept_one (wanted_at script number) it.kept in
          let how : Made = made.Saved c.is_object c.call in
          let name : c.call ≡ Some (emission f it.place) =
          name_is script well n.first n.source f n.call it.place it.below how
          (ap (slice_get (made_of script)) it.number ∙ (needed_as script number how c.is).made) in
          let before = it.before in
          let place = n.place in
          let slot : kept_slot script n.first it.place ≡ t = omega arith in
          record {
            at = at_place it.place it.below it.number;
            slot = slot;
            is_object = c.is_object;
            made = some_same mk how (sym wanted_is ∙ c.is) ∙ ap (made.Saved c.is_object) name;
          }

      at_call : (k : ℕ)
          → length (numbers_kept_from script n.first (suc (other_names script f))) + k ≡ o
          → k ≡ 0 → (it : IsFirst script n.first (suc (other_names script f)) number)
          → get_or (wanted script) number None ≡ Some mk → IsCallNode t number mk
      at_call k size none it wanted_is =
          let place = n.place in
          let within_ = n.below in
          let low : length (numbers_kept_from script n.first (suc (other_names script f)))
          < suc (other_names script f) = omega arith in
          let slot : call_slot script n.first f ≡ t = omega arith in
          record {
            at = at_place it.place it.below it.number;
            low = low;
            slot = slot;
            made =
                some_same mk (made.Do n.source f it.place)
                (sym wanted_is
                ∙ emits n.first n.source f n.call number it.place it.below it.number it.emitted);
            earlier = it.earlier;
          }

      by_part : get_or (wanted script) number None ≡ Some mk
          → (slice_get (numbers_kept_from script n.first (suc (other_names script f))) o ≡ Some
          number)
          ⊎ ((k : ℕ)
          × (length (numbers_kept_from script n.first (suc (other_names script f))) + k ≡ o)
          × (slice_get (first_emitted script n.first (suc (other_names script f))) k
          ≡ Some number))
          → IsSlot t number mk
      by_part wanted_is (inl here) =
          inr (inl (at_kept (among script n.first (suc (other_names script f)) o number here)
          wanted_is))
      by_part wanted_is (inr there) =
          let it =
          first_is script n.first (suc (other_names script f)) there.0 number there.2 in
          inr (inr (at_call there.0 there.1 it.0 it.1 wanted_is))

    slot_by : (it : IsBuiltAs script t number mk) (o : Option Emitted) → emitted_as it.how ≡ o
        → IsSlot t number mk
    slot_by it None emitted = inl (at_itself it emitted)
    slot_by it (Some e) emitted =
        let n = named_as script well t it.how e it.made emitted in
        let place = n.place in
        let first : t - e.output ≡ n.first = omega arith in
        by_part e.function e.output n it.wanted_
        (in_either (numbers_kept_from script n.first (suc (other_names script e.function)))
        (first_emitted script n.first (suc (other_names script e.function))) e.output number
        (ap (λ k. slice_get (call_built script k e.function) e.output) (sym first)
        ∙ ap (built_name script t) (sym emitted)
        ∙ it.named))

    pub slot_of : IsSlot t number mk
    slot_of =
        let it = built_as script t number mk found in slot_by it (emitted_as it.how) refl

  -- ---- what is built of a call

  call_node : (t number source f o : ℕ)
      → get_or (built script) t None ≡ Some (built_of number (made.Do source f o))
      → IsCallNode t number (made.Do source f o)
  call_node t number source f o found =
      by (slot_of t number (made.Do source f o) found)
    where
      by : IsSlot t number (made.Do source f o) → IsCallNode t number (made.Do source f o)
      by (inl it) = let e = it.none in cc
      by (inr (inl it)) = let e = it.made in cc
      by (inr (inr it)) = it

  -- its place and its source are told by how it is made
  pub record IsOfCall (t number source f o : ℕ) : Type 0 where
    pub first : ℕ
    pub call : IsCall script first source f
    pub below : o < suc (other_names script f)
    pub is : first + o ≡ number
    pub from : number - o ≡ first
    pub low : length (numbers_kept_from script first (suc (other_names script f)))
        < suc (other_names script f)
    pub slot : call_slot script first f ≡ t
    pub earlier : (i : ℕ) → i < o → emitted_at script (first + i) ≡ false

  do_parts : (a b c d e g : ℕ) → made.Do a b c ≡ made.Do d e g → (a ≡ d) × (b ≡ e) × (c ≡ g)
  do_parts a b c d e g h = (cc, cc, cc)

  pub of_call : (t number source f o : ℕ)
      → get_or (built script) t None ≡ Some (built_of number (made.Do source f o))
      → IsOfCall t number source f o
  of_call t number source f o found =
      let it = call_node t number source f o found in
      let same = do_parts source f o it.source it.f it.place it.made in
      told it.first it.source it.f it.place it.call it.below it.is it.low it.slot it.earlier same.0
      same.1 same.2
    where
      told : (first source_ f_ place : ℕ) → IsCall script first source_ f_
          → place < suc (other_names script f_) → first + place ≡ number
          → length (numbers_kept_from script first (suc (other_names script f_)))
          < suc (other_names script f_)
          → call_slot script first f_ ≡ t
          → ((i : ℕ) → i < place → emitted_at script (first + i) ≡ false)
          → source ≡ source_ → f ≡ f_ → o ≡ place → IsOfCall t number source f o
      told first source_ f_ place call below is low slot earlier s g p = record {
        first = first;
        call =
            subst (λ k. IsCall script first k f) (sym s)
            (subst (λ k. IsCall script first source_ k) (sym g) call);
        below =
            subst (λ k. o < suc (other_names script k)) (sym g)
            (subst (λ k. k < suc (other_names script f_)) (sym p) below);
        is = subst (λ k. first + k ≡ number) (sym p) is;
        from =
            let here : first + o ≡ number = subst (λ k. first + k ≡ number) (sym p) is in
            (let e : number - o ≡ first = omega (arith, here) in e);
        low = subst (λ k. length (numbers_kept_from script first (suc (other_names script k)))
            < suc (other_names script k)) (sym g) low;
        slot = ap (call_slot script first) g ∙ slot;
        earlier = λ i before. earlier i (subst (λ k. i < k) p before);
      }

  -- ---- two calls do not overlap

  emission_parts : (a b c d : ℕ) → Some (emission a b) ≡ Some (emission c d)
      → (a ≡ c) × (b ≡ d)
  emission_parts a b c d h =
      let e = some_same (emission a b) (emission c d) h in
      (ap (λ (it : Emitted). it.function) e, ap (λ (it : Emitted). it.output) e)

  pub same_place : (a b source source_ f f_ i k : ℕ) → IsCall script a source f
      → IsCall script b source_ f_ → i < suc (other_names script f)
      → k < suc (other_names script f_) → a + i ≡ b + k → (f ≡ f_) × (i ≡ k)
  same_place a b source source_ f f_ i k one other low low_ same =
      let x = name_at script well a source f one i low in
      let emitted =
      name_emits script well b source_ f_ other k low_ x.how
      (ap (slice_get (made_of script)) (sym same) ∙ x.made) in
      emission_parts f i f_ k (sym x.emitted ∙ emitted)

  -- what is no name of a call does not stand among its names
  pub not_named : (first source f k : ℕ) → IsCall script first source f
      → k < suc (other_names script f) → (how : Made)
      → slice_get (made_of script) (first + k) ≡ Some how → emitted_as how ≡ None → ⊥
  not_named first source f k call below how is none =
      let emitted = name_emits script well first source f call k below how is in
      (let e : None ≡ Some (emission f k) = sym none ∙ emitted in cc)
