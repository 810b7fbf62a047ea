-- The outputs of calls stand one after another in each copy of a body.
use Rattle.std.proofs.Common.{◌≡◌, ℕ, zero, suc, ◌+◌, List, [], ◌∷◌, ◌++◌, length, map, Some}
use Rattle.std.proofs.Common.{slice_get, refl, sym, ap, ◌∙◌, subst, arith}
use Rattle.std.proofs.lemmas.List.{map-append}
use Rattle.script_rules.specs.of_written_types.Named.{Named}
use Rattle.script_rules.specs.of_script_program.declared.made.Made.{Made}
use Rattle.script_rules.specs.of_script_program.declared.made.Made.TheVariants as made
use Rattle.script_rules.specs.of_script_program.Script.{Function, Node}
use Rattle.script_rules.specs.Repeats.{Repeat, copied_let, nodes_left, made_from_others, turn_gives}
use Rattle.script_rules.specs.Repeats.{turn_nodes, turn_to}
use Rattle.script_laws.specs.Fitting.{lets_of}
use Rattle.script_laws.proofs.CallLemmas.{CallsStand, calls-append}
use Rattle.script_laws.proofs.MemberLemmas.{in_mapped, of_mapped}
use Rattle.script_laws.proofs.NewLemmas.{how_made}
use Rattle.script_laws.proofs.PlaceLemmas.{behind-is}

-- a call with its number changed is a call of the same function, for the same output
record IsCallFrom (to : ℕ → ℕ) (how : Made) (source called output : ℕ) : Type 0 where
  pub other : ℕ
  pub is : how ≡ made.Do other called output
  pub stands : to other ≡ source

call-from : (to : ℕ → ℕ) (how : Made) (source called output : ℕ)
    → made_from_others to how ≡ made.Do source called output
    → IsCallFrom to how source called output
call-from to (made.Do other function place) source called output e =
    let one : to other ≡ source = cc in
    let two : function ≡ called = cc in
    let three : place ≡ output = cc in
    record { other = other; is = λ i. made.Do other (two i) (three i); stands = one }
call-from to _ source called output e = cc

copied-mades : (turn : ℕ) (to : ℕ → ℕ) (nodes : Named Node)
    → map how_made (map (copied_let turn to) nodes) ≡ map (made_from_others to) (map how_made nodes)
copied-mades turn to [] = refl
copied-mades turn to (entry ∷ nodes) =
    ap (λ rest. made_from_others to entry.1.made ∷ rest) (copied-mades turn to nodes)

module _ (functions : Named Function) where
  calls-renumbered : (to : ℕ → ℕ) (all : List Made) → CallsStand functions all
      → CallsStand functions (map (made_from_others to) all)
  calls-renumbered to all stand number source called output is =
      let found = in_mapped (made_from_others to) all number (made.Do source called output) is in
      let call = call-from to found.0 source called output found.2 in
      let it = stand number call.other called output (found.1 ∙ ap Some call.is) in
      record {
        first = it.first;
        place = it.place;
        function = it.function;
        calls = it.calls;
        outputs =
            λ k below.
            of_mapped (made_from_others to) all (it.first + k) (made.Do call.other called k)
            (it.outputs k below)
            ∙ ap (λ n. Some (made.Do n called k)) call.stands;
      }

  -- those that stand as they should alone do so behind others
  pub calls-joined : (all more : List Made) → CallsStand functions all → CallsStand functions more
      → CallsStand functions (all ++ more)
  calls-joined all more stand others =
      calls-append functions all more stand
      (λ number source called output is.
      let it = others number source called output is in
      record {
        first = length all + it.first;
        place = omega (arith, it.place);
        function = it.function;
        calls = it.calls;
        outputs =
            λ k below.
            let here : length all + it.first + k ≡ length all + (it.first + k) = omega arith in
            ap (slice_get (all ++ more)) here
            ∙ behind-is all more (it.first + k)
            ∙ it.outputs k below;
      })

  module _ (repeat : Repeat) (stand : CallsStand functions (lets_of repeat)) where
    turn-stands : (entering : List ℕ) (start turn : ℕ)
        → CallsStand functions (map how_made (turn_nodes repeat entering start turn))
    turn-stands entering start turn =
        subst (CallsStand functions)
        (sym (copied-mades turn (turn_to repeat entering start) repeat.body))
        (calls-renumbered (turn_to repeat entering start) (lets_of repeat) stand)

    pub turns-stand : (left turn : ℕ) (entering : List ℕ) (start : ℕ)
        → CallsStand functions (map how_made (nodes_left repeat left turn entering start))
    turns-stand zero turn entering start = λ number source called output is. cc
    turns-stand (suc left) turn entering start =
        let nodes = turn_nodes repeat entering start turn in
        let given = turn_gives repeat entering start in
        let next = start + length repeat.body in
        let later = nodes_left repeat left (suc turn) given next in
        subst (CallsStand functions) (sym (map-append how_made nodes later))
        (calls-joined (map how_made nodes) (map how_made later) (turn-stands entering start turn)
        (turns-stand left (suc turn) given next))
