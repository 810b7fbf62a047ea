-- What a step tells the seat that makes it, and what callers see of a board's seats.
use Rattle.std.specs.Prelude.{◌≡◌, ℕ, ◌+◌, ◌-◌, ◌<◌, ◌≤◌, eqb, List, [], ◌∷◌, ◌++◌, All}
use Rattle.std.specs.Bool.{MatchBool}
use Rattle.atomic_table.specs.Table.{Me, Step}
use Rattle.atomic_table.specs.Seated.{TableId}
use Rattle.claim_board.specs.declared.size.Size.{Size}
use Rattle.claim_board.specs.Protocol.{PassState, pass_begun, drawn, IsOpen}
use Rattle.claim_board.specs.Boards.{Board, Pass, Passes, AreBefore, Saw, HasWon, HasLost}
use Rattle.claim_board.specs.Told.{draw_of}
use Rattle.claim_board.specs.Seats.{View, limit_at, maker_view, pass_view}

-- the pass that a view stands for
abbrev pub first_pass : List PassState → PassState
first_pass [] = pass_begun 0
first_pass (p ∷ ps) = p

abbrev pub pass_in : View → PassState
pass_in v = first_pass v.passes

-- what a step tells the pass that makes it: n is the number found, q what the pass has done then
abbrev pub Drawing : Size → PassState → ℕ → PassState → Type 0
Drawing k p n q =
    ((m : ℕ) × AreBefore m p × (q ≡ drawn (limit_at k) p m n))
    × (n < limit_at k → IsOpen k.tasks k.tries q n) × All (λ x. x < n) p.draws

abbrev pub Looking : Size → PassState → ℕ → ℕ → PassState → Type 0
Looking k p t n q = Saw p q t n × (n ≤ k.tries)

abbrev pub Claiming : Size → PassState → ℕ → ℕ → PassState → Type 0
Claiming k p d n q = MatchBool (eqb n 0) (HasWon p q d) (HasLost p q d n) × (n ≤ k.tries)

-- a seat's view, and the slots that it holds, which are none
abbrev pub Seated : Type 0
Seated = Me (Unit {0}) View

-- a step of a pass leaves a pass in the seat
abbrev pub Steps : Seated → Seated → (Size → PassState → PassState → Type 0) → Type 0
Steps m w then =
    (w ≡ (pass_view m.0.size (pass_in w.0), [])) × then m.0.size (pass_in m.0) (pass_in w.0)

abbrev pub draw_tells : Step (Unit {0}) → Seated → ℕ → Seated → Type 0
draw_tells st m n w = Steps m w (λ k p q. Drawing k p n q)

abbrev pub look_tells : Step (Unit {0}) → Seated → ℕ → Seated → Type 0
look_tells st m n w = Steps m w (λ k p q. Looking k p (st.word - 1) n q)

abbrev pub commit_tells : Step (Unit {0}) → Seated → ℕ → Seated → Type 0
commit_tells st m n w =
    Steps m w (λ k p q. Claiming k p (draw_of k.tasks (st.word - 1) st.second) n q)

-- the maker makes a pass with the number of those made before
abbrev pub make_left : View → View
make_left v = maker_view v.size (v.made + 1) v.passes

abbrev pub make_right : View → View
make_right v = pass_view v.size (pass_begun v.made)

-- the maker takes a pass over, before those that it has
abbrev pub take_over : View → View → View
take_over v w = maker_view v.size v.made (w.passes ++ v.passes)

-- the name of the board over a table: what identifies the table, as numbers
abbrev pub name_of : TableId → List ℕ
name_of z = z.words ∷ z.slots ∷ z.views_name ∷ z.atom ∷ z.block ∷ z.offset ∷ z.slot_names

-- the board over a table
abbrev pub board_of : TableId → Size → Board
board_of z k = record { name = name_of z; tasks = k.tasks; tries = k.tries; crew = k.crew }

-- the pass of a seat
abbrev pub seat_pass : TableId → View → Pass
seat_pass z v = record { board = board_of z v.size; state = pass_in v }

-- the passes that the maker has made
abbrev pub maker_passes : TableId → View → List Pass → Passes
maker_passes z v ms = record { board = board_of z v.size; members = ms }
