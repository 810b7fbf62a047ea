-- The nodes of a repeat's turns mean what its turns make.
use Rattle.std.proofs.Common.{◌≡◌, ℕ, zero, suc, ◌+◌, ◌-◌, ◌*◌, ◌<◌, ◌≤◌, Bool, true, false}
use Rattle.std.proofs.Common.{List, [], ◌∷◌, ◌++◌, length, map, nat_lt, Option, Some}
use Rattle.std.proofs.Common.{slice_get, slice_index_or, refl, sym, subst, arith, ap, ◌∙◌}
use Rattle.std.proofs.Common.{below_more, length-append, suc-mul}
use Rattle.std.proofs.lemmas.Bool.{ltb-false, ltb-true}
use Rattle.std.proofs.lemmas.List.{length-map}
use Rattle.std.specs.List.{AllByRecursion as Each, Contains}
use Rattle.std.specs.Option.{option_flatten}
use Rattle.flume_collection.specs.Collection.{Collection}
use Rattle.flume_value.specs.declared.value.Value.{Value}
use Rattle.written_types.specs.Named.{Named}
use Rattle.script_program.specs.declared.made.Made.{Made}
use Rattle.script_program.specs.Needed.{is_needed, operands}
use Rattle.script_program.specs.Script.{Node, Script}
use Rattle.script_laws.specs.WellFormed.{IsWellFormed}
use Rattle.direct_meaning.specs.Direct.{made_as, made_at, meaning}
use Rattle.repeat_law.proofs.EquationLemmas.{equation, reads}
use Rattle.repeat_law.proofs.SameLemmas.{let_no_file, let_reads, renumbered_no_file}
use Rattle.repeat_law.proofs.SameLemmas.{renumbered_reads, same_made}
use Rattle.repeat_law.specs.Turns.{turn_over, functions_alone, turns_left, with_lets}
use Rattle.direct_meaning.proofs.PlaceLemmas.{mapped_has}
use Rattle.repeat_law.specs.Reading.{EachReadsInFront, ReadsInFront, IsClosedRepeat, in_front, let_number}
use Rattle.script_rules.specs.Repeats.{Repeat, copied_let, gives_left, nodes_left, seen}
use Rattle.script_rules.specs.Repeats.{turn_gives, turn_nodes, turn_to}
use Rattle.script_laws.proofs.MemberLemmas.{at_end, in_first, in_second, of_mapped, within}
use Rattle.script_laws.proofs.StandLemmas.{seen_entering, seen_let, stands_inside}
use Rattle.script_laws.proofs.StandLemmas.{stands_outside}
use Rattle.script_laws.specs.Fitting.{lets_of}

added : (a b c d e : ℕ) → a + b + d ≡ e + d → a + (b + c) + d ≡ e + c + d
added a b c d e same = omega arith

module _ (script : Script) (well : IsWellFormed script) (inputs : List (List Value))
    (whole : List (Option Collection)) (means : meaning script inputs ≡ Some whole)
    (repeat : Repeat) (outside : List (Option Collection))
    (many_outside : length outside ≡ repeat.outside)
    (is_outside : (n : ℕ) → n < repeat.outside → made_at outside n ≡ made_at whole n) where
  -- these nodes, where they are needed, mean what stands in this list
  abbrev pub Means : List ℕ → List (Option Collection) → Type 0
  Means numbers entering = (place number : ℕ) → slice_get numbers place ≡ Some number
      → is_needed script number ≡ true → made_at whole number ≡ made_at entering place

  -- ---- one turn

  module _ (turn : ℕ) (entering : List ℕ) (start : ℕ)
      (origin : (place : ℕ) → let_number repeat turn place ≡ start + place)
      (many : length entering ≡ length repeat.from) where
    abbrev to : ℕ → ℕ
    to = turn_to repeat entering start

    abbrev all : List ℕ
    all = seen repeat entering start

    -- the numbers of a body's table stand for nodes that mean what the table holds
    abbrev Agrees : List (Option Collection) → Type 0
    Agrees table = (number : ℕ) → number < length table → is_needed script (to number) ≡ true
        → made_at whole (to number) ≡ made_at table number

    outside_agrees : (entered : List (Option Collection)) (number : ℕ)
        → number < repeat.outside
        → made_at whole (to number) ≡ made_at (outside ++ entered) number
    outside_agrees entered number below =
        ap (made_at whole) (stands_outside repeat.outside all number below)
        ∙ sym (is_outside number below)
        ∙ ap option_flatten (sym (in_first outside entered number (omega (arith, many_outside))))

    entering_agrees : (entered : List (Option Collection)) → Means entering entered
        → length entered ≡ length entering → (number : ℕ) → repeat.outside ≤ number
        → number < length (outside ++ entered) → is_needed script (to number) ≡ true
        → made_at whole (to number) ≡ made_at (outside ++ entered) number
    entering_agrees entered is same number above below needed =
        let place = number - repeat.outside in
        let lengths = length-append outside entered in
        let stands = stands_inside repeat.outside all number above in
        let there = seen_entering repeat entering start place (omega (arith, many_outside)) in
        let shifted : number - length outside ≡ place = omega (arith, many_outside) in
        ap (made_at whole) stands
        ∙ is place (slice_index_or all place 0) there (ap (is_needed script) (sym stands) ∙ needed)
        ∙ ap (made_at entered) (sym shifted)
        ∙ ap option_flatten
        (sym (in_second outside entered number (omega (arith, many_outside))))

    front_agrees : (entered : List (Option Collection)) → Means entering entered
        → length entered ≡ length entering → Agrees (outside ++ entered)
    front_agrees entered is same number below needed = by (nat_lt number repeat.outside) refl
      where
        by : (b : Bool) → nat_lt number repeat.outside ≡ b
            → made_at whole (to number) ≡ made_at (outside ++ entered) number
        by true inner =
            outside_agrees entered number (ltb-true number repeat.outside inner)
        by false outer =
            entering_agrees entered is same number (ltb-false number repeat.outside outer) below
            needed

    -- ---- one more let

    module _ (place : ℕ) (entry : List ℕ × Node) (table : List (Option Collection))
        (inner : place < length repeat.body) (long : length table ≡ in_front repeat + place)
        (is_let : ReadsInFront place (length table) entry.1.made)
        (there : slice_get script.nodes (start + place) ≡ Some (copied_let turn to entry))
        (agrees : Agrees table) where
      abbrev how : Made
      how = entry.1.made

      abbrev last : Option Collection
      last = made_as (functions_alone script.functions) (let_number repeat turn place) how [] table

      stands_last : to (length table) ≡ start + place
      stands_last =
          let here : length table - repeat.outside ≡ length entering + place =
          omega (arith, long, many) in
          stands_inside repeat.outside all (length table) (omega (arith, long))
          ∙ ap (λ place. slice_index_or all place 0) here
          ∙ seen_let repeat entering start place inner

      reads_same : is_needed script (start + place) ≡ true → (n : ℕ) → Contains (operands how) n
          → made_at whole (to n) ≡ made_at table n
      reads_same needed n has =
          agrees n (let_reads place (length table) how is_let n has)
          (reads script well (start + place) (copied_let turn to entry) there needed (to n)
          (subst (λ (l : List ℕ). Contains l (to n)) (sym (renumbered_reads to how))
          (mapped_has to (operands how) n has)))

      last_made : is_needed script (start + place) ≡ true
          → made_at whole (start + place) ≡ last
      last_made needed =
          equation script well inputs whole means (start + place) (copied_let turn to entry) there
          needed
          (renumbered_no_file to how (let_no_file place (length table) how is_let))
          ∙ (same_made to whole table script (start + place) how []
          (let_no_file place (length table) how is_let) (reads_same needed)
          ∙ ap (λ (n : ℕ). made_as (functions_alone script.functions) n how [] table)
          (sym (origin place)))

      let_agrees : Agrees (table ++ last ∷ [])
      let_agrees number below =
          below_more
          (λ n. is_needed script (to n) ≡ true
          → made_at whole (to n) ≡ made_at (table ++ last ∷ []) n)
          (length table)
          (λ n earlier needed. agrees n earlier needed
          ∙ ap option_flatten (sym (in_first table (last ∷ []) n earlier)))
          (λ needed. ap (made_at whole) stands_last
          ∙ (last_made (ap (is_needed script) (sym stands_last) ∙ needed)
          ∙ ap option_flatten (sym (at_end table last []))))
          number (omega (arith, length-append table (last ∷ [])))

    -- ---- all lets

    abbrev made_of_all : Named Node → List Made
    made_of_all lets = map (λ entry. entry.1.made) lets

    lets_long : (lets : Named Node) (place : ℕ) (table : List (Option Collection))
        → length (with_lets script.functions (let_number repeat turn) place (made_of_all lets)
        table)
        ≡ length table + length lets
    lets_long [] place table = omega arith
    lets_long (entry ∷ lets) place table =
        let last =
        made_as (functions_alone script.functions) (let_number repeat turn place) entry.1.made []
        table in
        let rest = lets_long lets (suc place) (table ++ last ∷ []) in
        let longer = length-append table (last ∷ []) in
        omega arith

    lets_agree : (lets : Named Node) (place front : ℕ) (table : List (Option Collection))
        → place + length lets ≡ length repeat.body → length table ≡ in_front repeat + place
        → front ≡ length table
        → EachReadsInFront place front (made_of_all lets)
        → ((i : ℕ) (entry : List ℕ × Node) → slice_get lets i ≡ Some entry
        → slice_get script.nodes (start + (place + i)) ≡ Some (copied_let turn to entry))
        → Agrees table
        → Agrees (with_lets script.functions (let_number repeat turn) place (made_of_all lets)
        table)
    lets_agree [] place front table last long fronts are there agrees = agrees
    lets_agree (entry ∷ lets) place front table inner long fronts are there agrees =
        let last =
        made_as (functions_alone script.functions) (let_number repeat turn place) entry.1.made []
        table in
        let longer = length-append table (last ∷ []) in
        let first : start + (place + 0) ≡ start + place = omega arith in
        lets_agree lets (suc place) (suc front) (table ++ last ∷ []) (omega (arith, inner))
        (omega arith) (omega arith) are.1
        (λ i other is.
        let next : start + (place + suc i) ≡ start + (suc place + i) = omega arith in
        ap (slice_get script.nodes) (sym next) ∙ there (suc i) other is)
        (let_agrees place entry table (omega (arith, inner)) long
        (subst (λ (n : ℕ). ReadsInFront place n entry.1.made) fronts are.0)
        (ap (slice_get script.nodes) (sym first) ∙ there 0 entry refl) agrees)

    given_agree : (table : List (Option Collection)) → Agrees table → (numbers : List ℕ)
        → Each (λ number. number < length table) numbers
        → Means (map to numbers) (map (made_at table) numbers)
    given_agree table agrees [] within_table place number is needed = cc
    given_agree table agrees (n ∷ numbers) within_table zero number is needed =
        let same : to n ≡ number = cc in
        ap (made_at whole) (sym same)
        ∙ agrees n within_table.0 (ap (is_needed script) same ∙ needed)
    given_agree table agrees (n ∷ numbers) within_table (suc place) number is needed =
        given_agree table agrees numbers within_table.1 place number is needed

    each_within : (most less : ℕ) → most ≡ less → (numbers : List ℕ)
        → Each (λ number. number < most) numbers → Each (λ number. number < less) numbers
    each_within most less same numbers each =
        subst (λ (m : ℕ). Each (λ number. number < m) numbers) same each

    turn_agrees : (entered : List (Option Collection)) → Means entering entered
        → length entered ≡ length entering → IsClosedRepeat repeat
        → ((i : ℕ) (entry : List ℕ × Node) → slice_get repeat.body i ≡ Some entry
        → slice_get script.nodes (start + i) ≡ Some (copied_let turn to entry))
        → Means (turn_gives repeat entering start)
        (turn_over script.functions (let_number repeat) repeat outside turn entered)
    turn_agrees entered is same ok there =
        let table = with_lets script.functions (let_number repeat turn) 0 (lets_of repeat)
        (outside ++ entered) in
        let long = length-append outside entered in
        let whole_long = lets_long repeat.body 0 (outside ++ entered) in
        given_agree table
        (lets_agree repeat.body 0 (in_front repeat) (outside ++ entered) (omega arith)
        (omega (arith, many_outside, many)) (omega (arith, many_outside, many)) ok.lets
        (λ i entry at. let zeroed : start + (0 + i) ≡ start + i = omega arith in
        ap (slice_get script.nodes) zeroed ∙ there i entry at)
        (front_agrees entered is same))
        repeat.gives
        (each_within (in_front repeat + length repeat.body) (length table)
        (omega (arith, many_outside, many)) repeat.gives ok.given)

  -- ---- all turns

  next_start : (turn start : ℕ) → ((place : ℕ) → let_number repeat (suc turn) place ≡ start + place)
      → (place : ℕ)
      → let_number repeat (suc (suc turn)) place ≡ start + length repeat.body + place
  next_start turn start origin place =
      let this : let_number repeat (suc turn) place
      ≡ repeat.outside + turn * length repeat.body + place
      = ap (λ (t : ℕ). repeat.outside + t * length repeat.body + place)
      (let t : suc turn - 1 ≡ turn = omega arith in t) in
      let next : let_number repeat (suc (suc turn)) place
      ≡ repeat.outside + suc turn * length repeat.body + place
      = ap (λ (t : ℕ). repeat.outside + t * length repeat.body + place)
      (let t : suc (suc turn) - 1 ≡ suc turn = omega arith in t) in
      let product = suc-mul turn (length repeat.body) in
      let now = sym this ∙ origin place in
      next ∙ (ap (λ (n : ℕ). repeat.outside + n + place) product
      ∙ added repeat.outside (turn * length repeat.body) (length repeat.body) place start now)

  pub turns_agree : IsClosedRepeat repeat → (left turn : ℕ) (entering : List ℕ) (start : ℕ)
      → ((place : ℕ) → let_number repeat (suc turn) place ≡ start + place)
      → length entering ≡ length repeat.from
      → ((i : ℕ) (entry : List ℕ × Node)
      → slice_get (nodes_left repeat left (suc turn) entering start) i ≡ Some entry
      → slice_get script.nodes (start + i) ≡ Some entry)
      → (entered : List (Option Collection)) → Means entering entered
      → length entered ≡ length entering
      → Means (gives_left repeat left entering start)
      (turns_left script.functions (let_number repeat) repeat outside left (suc turn) entered)
  turns_agree ok zero turn entering start origin many there entered is same = is
  turns_agree ok (suc left) turn entering start origin many there entered is same =
      let to_now = turn_to repeat entering start in
      let nodes = turn_nodes repeat entering start (suc turn) in
      let later = nodes_left repeat left (suc (suc turn)) (turn_gives repeat entering start)
      (start + length repeat.body) in
      let long = length-map repeat.body (copied_let (suc turn) to_now) in
      let given = length-map repeat.gives to_now in
      turns_agree ok left (suc turn) (turn_gives repeat entering start)
      (start + length repeat.body) (next_start turn start origin) (given ∙ ok.many)
      (λ i entry at.
      let shift : start + length repeat.body + i ≡ start + (length nodes + i) = omega arith in
      let back : length nodes + i - length nodes ≡ i = omega arith in
      ap (slice_get script.nodes) shift
      ∙ there (length nodes + i) entry
      (in_second nodes later (length nodes + i) (omega arith)
      ∙ (ap (slice_get later) back ∙ at)))
      (turn_over script.functions (let_number repeat) repeat outside (suc turn) entered)
      (turn_agrees (suc turn) entering start origin many entered is same ok
      (λ i entry at.
      let inner = of_mapped (copied_let (suc turn) to_now) repeat.body i entry at in
      there i (copied_let (suc turn) to_now entry)
      (in_first nodes later i (within nodes i (copied_let (suc turn) to_now entry) inner) ∙ inner)))
      (length-map repeat.gives
      (made_at (with_lets script.functions (let_number repeat (suc turn)) 0 (lets_of repeat)
      (outside ++ entered)))
      ∙ sym given)
