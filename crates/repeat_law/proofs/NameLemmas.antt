-- Where the lets of a repeat's turns stand in a script.
use Rattle.std.proofs.Common.{◌≡◌, ℕ, zero, suc, ◌+◌, ◌-◌, ◌*◌, ◌<◌, ◌≤◌, List, ◌++◌, length}
use Rattle.std.proofs.Common.{Option, Some, slice_get, arith, ap, ◌∙◌, suc-mul}
use Rattle.std.proofs.lemmas.List.{length-map}
use Rattle.std.specs.Option.{option_map}
use Rattle.script_program.specs.Script.{Node, Script}
use Rattle.repeat_law.proofs.RepeatLemmas.{unrolled_at}
use Rattle.repeat_law.specs.Reading.{HasRepeat, let_number}
use Rattle.script_rules.specs.Repeats.{Repeat, copied_let, name_in_turn, nodes_left, turn_to}
use Rattle.script_rules.specs.Repeats.{turn_gives, turn_nodes}
use Rattle.script_laws.proofs.MemberLemmas.{in_first, in_second, of_mapped, within}

abbrev IsCopy : Option (List ℕ × Node) → ℕ → List ℕ × Node → Type 0
IsCopy found turn entry = (to : ℕ → ℕ) × (found ≡ Some (copied_let turn to entry))

there : (repeat : Repeat) (left : ℕ) (turn : ℕ) (entering : List ℕ) (start later place : ℕ)
    (entry : List ℕ × Node) → later < left → slice_get repeat.body place ≡ Some entry
    → IsCopy
    (slice_get (nodes_left repeat left turn entering start) (later * length repeat.body + place))
    (turn + later) entry
there repeat zero turn entering start later place entry below is = absurd (omega arith)
there repeat (suc left) turn entering start zero place entry below is =
    let to = turn_to repeat entering start in
    let nodes = turn_nodes repeat entering start turn in
    let rest = nodes_left repeat left (suc turn) (turn_gives repeat entering start)
    (start + length repeat.body) in
    let inner = of_mapped (copied_let turn to) repeat.body place entry is in
    let at : zero * length repeat.body + place ≡ place = first_place (length repeat.body) place in
    let same : turn ≡ turn + zero = omega arith in (
      to,
      ap (slice_get (nodes ++ rest)) at
          ∙ (in_first nodes rest place (within nodes place (copied_let turn to entry) inner)
          ∙ (inner ∙ ap (λ (t : ℕ). Some (copied_let t to entry)) same)),
    )
  where
    first_place : (n p : ℕ) → zero * n + p ≡ p
    first_place n p = omega arith
there repeat (suc left) turn entering start (suc later) place entry below is =
    let nodes = turn_nodes repeat entering start turn in
    let rest = nodes_left repeat left (suc turn) (turn_gives repeat entering start)
    (start + length repeat.body) in
    let long = length-map repeat.body (copied_let turn (turn_to repeat entering start)) in
    let it = there repeat left (suc turn) (turn_gives repeat entering start)
    (start + length repeat.body) later place entry (omega arith) is in
    let product = suc-mul later (length repeat.body) in
    let at : suc later * length repeat.body + place - length nodes
    ≡ later * length repeat.body + place = omega (arith, product, long) in
    let same : suc turn + later ≡ turn + suc later = omega arith in (
      it.0,
      in_second nodes rest (suc later * length repeat.body + place) (omega (arith, product, long))
          ∙ (ap (slice_get rest) at
          ∙ (it.1 ∙ ap (λ (t : ℕ). Some (copied_let t it.0 entry)) same)),
    )

pub stands_named : (script : Script) (repeat : Repeat) (turn place : ℕ) (entry : List ℕ × Node)
    → HasRepeat script repeat → 1 ≤ turn → turn ≤ repeat.turns
    → slice_get repeat.body place ≡ Some entry
    → option_map (λ (node : List ℕ × Node). node.0)
    (slice_get script.nodes (let_number repeat turn place))
    ≡ Some (name_in_turn turn entry.0)
stands_named script repeat turn place entry has first last is =
    let later = turn - 1 in
    let it = there repeat repeat.turns 1 repeat.from repeat.outside later place entry
    (omega arith) is in
    let same : 1 + later ≡ turn = omega arith in
    let at = unrolled_at script repeat has (later * length repeat.body + place)
    (copied_let (1 + later) it.0 entry) it.1 in
    let number : let_number repeat turn place
    ≡ repeat.outside + (later * length repeat.body + place) = sum_of repeat.outside
    (later * length repeat.body) place in
    ap (λ (n : ℕ). option_map (λ (node : List ℕ × Node). node.0) (slice_get script.nodes n)) number
    ∙ (ap (option_map (λ (node : List ℕ × Node). node.0)) at
    ∙ ap (λ (t : ℕ). Some (name_in_turn t entry.0)) same)
  where
    sum_of : (a b c : ℕ) → a + b + c ≡ a + (b + c)
    sum_of a b c = omega arith
