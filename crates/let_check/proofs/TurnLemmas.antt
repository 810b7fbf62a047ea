-- Turns of a repeat, as they are added one after another.
use Rattle.std.proofs.Common.{◌≡◌, ℕ, zero, suc, ◌+◌, ◌-◌, ◌*◌, ◌<◌, ◌≤◌, List, [], ◌∷◌, ◌++◌}
use Rattle.std.proofs.Common.{length, length-append, sym, ap, ◌∙◌, arith}
use Rattle.std.specs.List.{range_with_len}
use Rattle.std.proofs.Math.Nat.{suc-mul}
use Rattle.std.proofs.lemmas.List.{append_assoc, append-nil, length-map}
use Rattle.operation_check.specs.of_written_types.Named.{Named}
use Rattle.script_program.specs.Script.{Node, State, with_copies}
use Rattle.script_rules.specs.Repeats.{Repeat, copied_let, gives_left, nodes_left, turn_gives}
use Rattle.script_rules.specs.Repeats.{turn_nodes, turn_to}

-- ---- collections more

copies-more : (nodes more : Named Node) (s : State)
    → with_copies more (with_copies nodes s) ≡ with_copies (nodes ++ more) s
copies-more nodes more s = λ i. record s { nodes = append_assoc s.nodes nodes more i }

-- ---- numbers that follow one another

range-more : (start many : ℕ)
    → range_with_len start (suc many) ≡ range_with_len start many ++ (start + many) ∷ []
range-more start zero = ap (λ n. n ∷ []) (omega arith)
range-more start (suc many) =
    ap (λ rest. start ∷ rest)
    (range-more (start + 1) many
    ∙ ap (λ n. range_with_len (start + 1) many ++ n ∷ []) (omega arith))

-- what a turn sees, up to a number and to the next one
pub seen-none : (entering seen : List ℕ) (start : ℕ) → seen ≡ entering
    → seen ≡ entering ++ range_with_len start (start - start)
seen-none entering seen start same =
    let none : start - start ≡ 0 = omega arith in
    same ∙ sym (append-nil entering)
    ∙ ap (λ n. entering ++ range_with_len start n) (sym none)

pub seen-next : (entering seen next : List ℕ) (start number : ℕ) → start ≤ number
    → seen ≡ entering ++ range_with_len start (number - start) → next ≡ seen ++ number ∷ []
    → next ≡ entering ++ range_with_len start (number + 1 - start)
seen-next entering seen next start number from same put =
    let many : number + 1 - start ≡ suc (number - start) = omega (arith, from) in
    let last : start + (number - start) ≡ number = omega (arith, from) in
    put ∙ ap (λ l. l ++ number ∷ []) same
    ∙ append_assoc entering (range_with_len start (number - start)) (number ∷ [])
    ∙ ap (λ n. entering ++ (range_with_len start (number - start) ++ n ∷ [])) (sym last)
    ∙ ap (λ l. entering ++ l) (sym (range-more start (number - start)))
    ∙ ap (λ n. entering ++ range_with_len start n) (sym many)

-- ---- room

-- behind a turn there is room for the others
turn-room : (turns turn body nodes : ℕ) → turn < turns
    → nodes + (turns - turn) * body ≤ 1024
    → (nodes + body ≤ 1024) × (nodes + body + (turns - suc turn) * body ≤ 1024)
turn-room turns turn body nodes below room =
    let next : turns - turn ≡ suc (turns - suc turn) = omega arith in
    let product = ap (λ n. n * body) next ∙ suc-mul (turns - suc turn) body in
    (omega (arith, room, product), omega (arith, room, product))

-- ---- what is left of all turns

-- A turn is added: behind it as many collections stand and as many are left as in front of it.
module _ (repeat : Repeat) (entering : List ℕ) (turn left : ℕ) (s : State) where
  abbrev start : ℕ
  start = length s.nodes

  abbrev body : ℕ
  body = length repeat.body

  turn-length : length (turn_nodes repeat entering start turn) ≡ body
  turn-length = length-map repeat.body (copied_let turn (turn_to repeat entering start))

  turn-copies : (after : State) → after ≡ with_copies (turn_nodes repeat entering start turn) s
      → length after.nodes ≡ start + body
  turn-copies after put =
      ap (λ s. length s.nodes) put
      ∙ length-append s.nodes (turn_nodes repeat entering start turn)
      ∙ ap (λ n. start + n) turn-length

  turn-nodes : (after : State) → after ≡ with_copies (turn_nodes repeat entering start turn) s
      → (given : List ℕ) → given ≡ turn_gives repeat entering start
      → with_copies (nodes_left repeat left (suc turn) given (length after.nodes)) after
      ≡ with_copies (nodes_left repeat (suc left) turn entering start) s
  turn-nodes after put given gives =
      ap (λ n. with_copies (nodes_left repeat left (suc turn) given n) after)
      (turn-copies after put)
      ∙ ap (λ g. with_copies (nodes_left repeat left (suc turn) g (start + body)) after) gives
      ∙ ap (with_copies (nodes_left repeat left (suc turn) (turn_gives repeat entering start)
      (start + body))) put
      ∙ copies-more (turn_nodes repeat entering start turn)
      (nodes_left repeat left (suc turn) (turn_gives repeat entering start) (start + body)) s

  turn-last : (after : State) → after ≡ with_copies (turn_nodes repeat entering start turn) s
      → (given : List ℕ) → given ≡ turn_gives repeat entering start
      → gives_left repeat left given (length after.nodes)
      ≡ gives_left repeat (suc left) entering start
  turn-last after put given gives =
      ap (gives_left repeat left given) (turn-copies after put)
      ∙ ap (λ g. gives_left repeat left g (start + body)) gives

-- The same by the number of turns that are added: the next one is one more.
module _ (repeat : Repeat) (entering : List ℕ) (turn : ℕ) (s after : State) (given : List ℕ)
    (below : turn < repeat.turns)
    (put : after ≡ with_copies (turn_nodes repeat entering (length s.nodes) (turn + 1)) s)
    (gives : given ≡ turn_gives repeat entering (length s.nodes)) where
  abbrev others : ℕ
  others = repeat.turns - (turn + 1)

  one-less : suc others ≡ repeat.turns - turn
  one-less = omega (arith, below)

  next-is : turn + 1 ≡ suc turn
  next-is = omega arith

  pub next-nodes : with_copies (nodes_left repeat others (suc (turn + 1)) given
      (length after.nodes)) after
      ≡ with_copies (nodes_left repeat (repeat.turns - turn) (suc turn) entering
      (length s.nodes)) s
  next-nodes =
      turn-nodes repeat entering (turn + 1) others s after put given gives
      ∙ ap (λ n. with_copies (nodes_left repeat n (turn + 1) entering (length s.nodes)) s) one-less
      ∙ ap (λ n. with_copies (nodes_left repeat (repeat.turns - turn) n entering
      (length s.nodes)) s) next-is

  pub next-last : gives_left repeat others given (length after.nodes)
      ≡ gives_left repeat (repeat.turns - turn) entering (length s.nodes)
  next-last =
      turn-last repeat entering (turn + 1) others s after put given gives
      ∙ ap (λ n. gives_left repeat n entering (length s.nodes)) one-less

  pub next-room : (body : ℕ) → length repeat.body ≡ body
      → length s.nodes + (repeat.turns - turn) * body ≤ 1024
      → length after.nodes + others * body ≤ 1024
  next-room body many room =
      let more : length after.nodes ≡ length s.nodes + length repeat.body =
      turn-copies repeat entering (turn + 1) others s after put in
      let own = turn-room repeat.turns turn body (length s.nodes) below room in
      let same : repeat.turns - suc turn ≡ others = omega arith in
      let left = ap (λ n. n * body) same in
      omega (arith, more, many, own.1, left)
