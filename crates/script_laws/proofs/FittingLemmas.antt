-- The collections of a repeat's turns fit where the repeat does.
use Rattle.std.proofs.Common.{◌≡◌, ℕ, zero, suc, ◌+◌, ◌-◌, ◌<◌, ◌≤◌, Bool, true, false, List, []}
use Rattle.std.proofs.Common.{◌∷◌, ◌++◌, length, map, nat_lt, Option, Some, None, slice_get}
use Rattle.std.proofs.Common.{slice_index_or, refl, sym, subst, arith, ap, ◌∙◌, append_assoc}
use Rattle.std.proofs.Common.{append-nil, below_more, length-append}
use Rattle.std.proofs.lemmas.Bool.{ltb-false, ltb-true}
use Rattle.std.proofs.lemmas.List.{length-map}
use Rattle.flume_types.specs.declared.types.Ty.{Ty}
use Rattle.script_rules.specs.of_written_types.Named.{Named}
use Rattle.script_rules.specs.of_script_program.Kinds.{gives_object}
use Rattle.script_rules.specs.of_script_program.Script.{Function, Node}
use Rattle.script_rules.specs.Repeats.{Repeat, copied_let, nodes_left, seen, turn_gives, turn_nodes}
use Rattle.script_rules.specs.Repeats.{turn_to, unrolled}
use Rattle.script_laws.specs.Fitting.{IsOfType, RepeatFits}
use Rattle.script_laws.specs.WellFormed.{AllFit, AllReadKinds}
use Rattle.script_laws.proofs.FitLemmas.{fit-append, kinds-append}
use Rattle.script_laws.proofs.MemberLemmas.{at_end, in_first, in_mapped, in_second, within, zip_at}
use Rattle.script_laws.proofs.MemberLemmas.{zip_length}
use Rattle.script_laws.proofs.SightLemmas.{KeepsSight, fits-renumbered, kind-kept}
use Rattle.script_laws.proofs.SightLemmas.{kinds-renumbered, sight, sight_in, sight_of}
use Rattle.script_laws.proofs.StandLemmas.{seen_entering, seen_let, stands_inside}
use Rattle.script_laws.proofs.StandLemmas.{stands_outside}

the-same : (o : Option (List ℕ × Node)) (a b : List ℕ × Node) → o ≡ Some a → o ≡ Some b → a ≡ b
the-same o a b first second = let both : Some a ≡ Some b = sym first ∙ second in cc

-- a collection that is seen is there
seen_in : (nodes : Named Node) (n : ℕ) (x : Ty × Bool) (o : Option (List ℕ × Node))
    → slice_get nodes n ≡ o → sight_of o ≡ Some x → n < length nodes
seen_in nodes n x None is e = cc
seen_in nodes n x (Some entry) is e = within nodes n entry is

seen_at : (nodes : Named Node) (n : ℕ) (x : Ty × Bool) → sight_of (slice_get nodes n) ≡ Some x
    → n < length nodes
seen_at nodes n x is = seen_in nodes n x (slice_get nodes n) refl is

-- one of the type and the kind of an entry is seen as that
is_seen : (nodes : Named Node) (number : ℕ) (entry : List ℕ × Node)
    → IsOfType nodes number entry → sight_of (slice_get nodes number) ≡ Some (sight_in entry)
is_seen nodes number entry is =
    sight (slice_get nodes number) entry.1.type (gives_object entry.1.made) is.members is.kind

module _ (functions : Named Function) (before : Named Node) (repeat : Repeat)
    (fits : RepeatFits functions before repeat) where
  abbrev EnterReal : List ℕ → Named Node → Type 0
  EnterReal entering real = (place number : ℕ) (entry : List ℕ × Node)
      → slice_get entering place ≡ Some number → slice_get fits.entering place ≡ Some entry
      → sight_of (slice_get real number) ≡ Some (sight_in entry)

  module _ (turn : ℕ) (entering : List ℕ) (start : ℕ)
      (many : length entering ≡ length fits.entering) where
    abbrev to : ℕ → ℕ
    to = turn_to repeat entering start

    abbrev all : List ℕ
    all = seen repeat entering start

    -- one more let on both sides
    keeps-more : (front real : Named Node) (entry : List ℕ × Node)
        → to (length front) ≡ length real → KeepsSight to front real
        → KeepsSight to (front ++ entry ∷ []) (real ++ copied_let turn to entry ∷ [])
    keeps-more front real entry stands keeps n x is =
        let within = seen_at (front ++ entry ∷ []) n x is in
        below_more
        (λ n. sight_of (slice_get (front ++ entry ∷ []) n) ≡ Some x
        → sight_of (slice_get (real ++ copied_let turn to entry ∷ []) (to n)) ≡ Some x)
        (length front)
        (λ k earlier held.
        let there =
        keeps k x (ap sight_of (sym (in_first front (entry ∷ []) k earlier)) ∙ held) in
        ap sight_of
        (in_first real (copied_let turn to entry ∷ []) (to k) (seen_at real (to k) x there))
        ∙ there)
        (λ held.
        ap (λ k. sight_of (slice_get (real ++ copied_let turn to entry ∷ []) k)) stands
        ∙ ap sight_of (at_end real (copied_let turn to entry) [])
        ∙ ap (λ b. Some (entry.1.type, b)) (kind-kept to entry.1.made)
        ∙ ap sight_of (sym (at_end front entry []))
        ∙ held)
        n (omega (arith, within, length-append front (entry ∷ []))) is

    stands-last : (front real : Named Node) (place : ℕ) → place < length repeat.body
        → length front ≡ length before + length fits.entering + place
        → length real ≡ start + place → to (length front) ≡ length real
    stands-last front real place below fronts reals =
        let outer = fits.many in
        let here : length front - repeat.outside ≡ length entering + place = omega arith in
        stands_inside repeat.outside all (length front) (omega arith)
        ∙ ap (λ place. slice_index_or all place 0) here
        ∙ seen_let repeat entering start place below
        ∙ sym reals

    record AreCopied (lets front real : Named Node) : Type 0 where
      fit : AllFit functions real (map (copied_let turn to) lets)
      kinds : AllReadKinds real (map (copied_let turn to) lets)
      keeps : KeepsSight to (front ++ lets) (real ++ map (copied_let turn to) lets)

    copies : (lets : Named Node) (place : ℕ) (front real : Named Node)
        → place + length lets ≡ length repeat.body
        → length front ≡ length before + length fits.entering + place
        → length real ≡ start + place → KeepsSight to front real
        → AllFit functions front lets → AllReadKinds front lets → AreCopied lets front real
    copies [] place front real last fronts reals keeps fit kinds = record {
      fit = tt;
      kinds = tt;
      keeps =
          subst (λ (l : Named Node). KeepsSight to l (real ++ [])) (sym (append-nil front))
          (subst (λ (l : Named Node). KeepsSight to front l) (sym (append-nil real)) keeps);
    }
    copies (entry ∷ lets) place front real last fronts reals keeps fit kinds =
        let copy = copied_let turn to entry in
        let more =
        copies lets (suc place) (front ++ entry ∷ []) (real ++ copy ∷ [])
        (omega (arith, last)) (omega (arith, length-append front (entry ∷ [])))
        (omega (arith, length-append real (copy ∷ [])))
        (keeps-more front real entry
        (stands-last front real place (omega (arith, last)) fronts reals) keeps)
        fit.1 kinds.1 in
        record {
          fit = (
            fits-renumbered to front real keeps functions entry.1.made entry.1.type fit.0,
            more.fit,
          );
          kinds = (kinds-renumbered to front real keeps entry.1.made kinds.0, more.kinds);
          keeps =
              subst
              (λ (l : Named Node). KeepsSight to l (real ++ copy ∷ map (copied_let turn to) lets))
              (append_assoc front (entry ∷ []) lets)
              (subst
              (λ (l : Named Node). KeepsSight to (front ++ entry ∷ [] ++ lets) l)
              (append_assoc real (copy ∷ []) (map (copied_let turn to) lets)) more.keeps);
        }

    -- what a turn reads in front of its lets
    front-keeps : (real : Named Node)
        → ((n : ℕ) → n < length before → slice_get real n ≡ slice_get before n)
        → EnterReal entering real → KeepsSight to (before ++ fits.entering) real
    front-keeps real outer enter n x is = by (nat_lt n repeat.outside) refl
      where
        by : (b : Bool) → nat_lt n repeat.outside ≡ b
            → sight_of (slice_get real (to n)) ≡ Some x
        by true inner =
            let below = ltb-true n repeat.outside inner in
            let same = fits.many in
            let near : n < length before = omega arith in
            ap (λ k. sight_of (slice_get real k)) (stands_outside repeat.outside all n below)
            ∙ ap sight_of (outer n near)
            ∙ ap sight_of (sym (in_first before fits.entering n near))
            ∙ is
        by false outside =
            let above = ltb-false n repeat.outside outside in
            let same = fits.many in
            let within = seen_at (before ++ fits.entering) n x is in
            let place = n - repeat.outside in
            let lengths = length-append before fits.entering in
            let shifted : n - length before ≡ place = omega arith in
            let at =
            ap (λ k. sight_of (slice_get fits.entering k)) (sym shifted)
            ∙ ap sight_of (sym (in_second before fits.entering n (omega arith)))
            ∙ is in
            ap (λ k. sight_of (slice_get real k)) (stands_inside repeat.outside all n above)
            ∙ entered place (slice_get fits.entering place) refl at
            (seen_entering repeat entering start place (omega arith))
          where
            entered : (place : ℕ) (o : Option (List ℕ × Node))
                → slice_get fits.entering place ≡ o → sight_of o ≡ Some x
                → slice_get entering place ≡ Some (slice_index_or all place 0)
                → sight_of (slice_get real (slice_index_or all place 0)) ≡ Some x
            entered place None at is here = cc
            entered place (Some entry) at is here =
                enter place (slice_index_or all place 0) entry here at ∙ is

  record AreTurns (real lets : Named Node) : Type 0 where
    fit : AllFit functions real lets
    kinds : AllReadKinds real lets

  turns-fit : (left turn : ℕ) (entering : List ℕ) (start : ℕ) (real : Named Node)
      → length entering ≡ length fits.entering → length real ≡ start
      → ((n : ℕ) → n < length before → slice_get real n ≡ slice_get before n)
      → length before ≤ length real → EnterReal entering real
      → AreTurns real (nodes_left repeat left turn entering start)
  turns-fit zero turn entering start real many long outer more enter =
      record { fit = tt; kinds = tt }
  turns-fit (suc left) turn entering start real many long outer more enter =
      let to_now = turn_to repeat entering start in
      let nodes = turn_nodes repeat entering start turn in
      let one =
      copies turn entering start many repeat.body 0 (before ++ fits.entering) real (omega arith)
      (omega (arith, length-append before fits.entering)) (omega arith)
      (front-keeps turn entering start many real outer enter) fits.lets fits.kinds in
      let as_many = length-map repeat.body (copied_let turn to_now) in
      let given = length-map repeat.gives to_now in
      let zipped =
      zip_length (IsOfType (before ++ fits.entering ++ repeat.body)) repeat.gives fits.entering
      fits.given in
      let later =
      turns-fit left (suc turn) (turn_gives repeat entering start) (start + length repeat.body)
      (real ++ nodes) (omega arith) (omega (arith, length-append real nodes))
      (λ n below. in_first real nodes n (omega arith) ∙ outer n below)
      (omega (arith, length-append real nodes))
      (λ place number entry at there.
      let from = in_mapped to_now repeat.gives place number at in
      let held =
      zip_at (IsOfType (before ++ fits.entering ++ repeat.body)) repeat.gives fits.entering
      fits.given place from.0 from.1 in
      let same : held.0 ≡ entry =
      the-same (slice_get fits.entering place) held.0 entry held.1 there in
      ap (λ k. sight_of (slice_get (real ++ nodes) k)) (sym from.2)
      ∙ one.keeps from.0 (sight_in held.0)
      (is_seen (before ++ fits.entering ++ repeat.body) from.0 held.0 held.2)
      ∙ ap (λ (e : List ℕ × Node). Some (sight_in e)) same) in
      let others =
      nodes_left repeat left (suc turn) (turn_gives repeat entering start)
      (start + length repeat.body) in
      record {
        fit = fit-append functions real nodes others one.fit later.fit;
        kinds = kinds-append real nodes others one.kinds later.kinds;
      }

  unrolled-turns : AreTurns before (unrolled repeat)
  unrolled-turns =
      let many = fits.many in
      turns-fit repeat.turns 1 repeat.from repeat.outside before
      (zip_length (IsOfType before) repeat.from fits.entering fits.enter) many
      (λ n below. refl) (omega arith)
      (λ place number entry at there.
      let held = zip_at (IsOfType before) repeat.from fits.entering fits.enter place number at in
      is_seen before number held.0 held.2
      ∙ ap (λ (e : List ℕ × Node). Some (sight_in e))
      (the-same (slice_get fits.entering place) held.0 entry held.1 there))

  pub unrolled-fits : AllFit functions before (unrolled repeat)
  unrolled-fits = unrolled-turns.fit

  pub unrolled-kinds : AllReadKinds before (unrolled repeat)
  unrolled-kinds = unrolled-turns.kinds
