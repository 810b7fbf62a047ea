-- A script that has a repeat.
use Rattle.std.proofs.Common.{◌≡◌, ℕ, zero, suc, ◌+◌, ◌-◌, ◌≤◌, true, List, [], ◌∷◌, ◌++◌}
use Rattle.std.proofs.Common.{length, map, take, Option, Some, slice_get, refl, sym, arith, ap}
use Rattle.std.proofs.Common.{◌∙◌, append_assoc, length-append}
use Rattle.std.proofs.lemmas.List.{length-map}
use Rattle.std.specs.Option.{option_flatten}
use Rattle.flume_collection.specs.Collection.{Collection}
use Rattle.flume_value.specs.declared.value.Value.{Value}
use Rattle.script_program.specs.Needed.{is_needed}
use Rattle.script_program.specs.Script.{Node, Script}
use Rattle.script_laws.specs.WellFormed.{IsWellFormed}
use Rattle.direct_meaning.specs.Direct.{made_at, meaning}
use Rattle.repeat_law.proofs.EquationLemmas.{as_long}
use Rattle.repeat_law.proofs.TurnLemmas.{turns_agree}
use Rattle.repeat_law.specs.Turns.{MeansTurns, turns_left}
use Rattle.repeat_law.specs.Reading.{HasRepeat, IsClosedRepeat, let_number}
use Rattle.script_rules.specs.Repeats.{Repeat, last_gives, unrolled}
use Rattle.script_laws.proofs.MemberLemmas.{in_first, in_second, in_taken, taken_length, within}

-- the nodes of the turns stand behind those outside
pub unrolled_at : (script : Script) (repeat : Repeat) → HasRepeat script repeat → (i : ℕ)
    (entry : List ℕ × Node) → slice_get (unrolled repeat) i ≡ Some entry
    → slice_get script.nodes (repeat.outside + i) ≡ Some entry
unrolled_at script repeat has i entry is =
    let rest = unrolled repeat ++ has.after in
    let many = has.many in
    let place : repeat.outside + i - length has.before ≡ i = omega arith in
    ap (λ (l : List (List ℕ × Node)). slice_get l (repeat.outside + i)) (sym has.split
    ∙ append_assoc has.before (unrolled repeat) has.after)
    ∙ (in_second has.before rest (repeat.outside + i) (omega arith)
    ∙ (ap (slice_get rest) place
    ∙ (in_first (unrolled repeat) has.after i (within (unrolled repeat) i entry is) ∙ is)))

outside_within : (script : Script) (repeat : Repeat) → HasRepeat script repeat
    → repeat.outside ≤ length script.nodes
outside_within script repeat has =
    let many = has.many in
    let long = ap length (sym (append_assoc has.before (unrolled repeat) has.after) ∙ has.split) in
    let parts = length-append has.before (unrolled repeat ++ has.after) in omega arith

from_means : (whole : List (Option Collection)) (numbers : List ℕ) (place number : ℕ)
    → slice_get numbers place ≡ Some number
    → made_at whole number ≡ made_at (map (made_at whole) numbers) place
from_means whole [] place number is = cc
from_means whole (n ∷ numbers) zero number is =
    let same : n ≡ number = cc in ap (made_at whole) (sym same)
from_means whole (n ∷ numbers) (suc place) number is = from_means whole numbers place number is

pub repeat_means : (script : Script) (repeat : Repeat) → IsWellFormed script → IsClosedRepeat repeat
    → HasRepeat script repeat → MeansTurns script repeat
repeat_means script repeat well ok has inputs whole place number means at needed =
    let long = as_long script well inputs whole means in
    let inner = outside_within script repeat has in
    let outside = take repeat.outside whole in
    let entered = map (made_at whole) repeat.from in
    let left : repeat.turns ≡ suc repeat.turns - 1 = omega arith in
    turns_agree script well inputs whole means repeat outside
    (taken_length repeat.outside whole (omega arith))
    (λ n below. ap option_flatten (in_taken repeat.outside whole n below)) ok repeat.turns 0
    repeat.from repeat.outside (λ p. omega arith) refl (unrolled_at script repeat has) entered
    (λ p n is needed_too. from_means whole repeat.from p n is)
    (length-map repeat.from (made_at whole)) place number at needed
    ∙ ap (λ (n : ℕ). made_at
    (turns_left script.functions (let_number repeat) repeat outside n 1 entered) place) left
