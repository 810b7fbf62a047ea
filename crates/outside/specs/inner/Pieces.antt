-- Pieces of bytes, one behind another.
use Rattle.std.specs.Prelude.{ℕ, ◌<◌, ◌≤◌, List, length}
use Rattle.std.specs.List.{flat_map}

-- 1 to 65,536 bytes
abbrev pub IsPiece : List ℕ → Type 0
IsPiece bytes = (0 < length bytes) × (length bytes ≤ 65536)

-- the bytes of all pieces, in order
abbrev pub together : List (List ℕ) → List ℕ
together pieces = flat_map (λ piece. piece) pieces
