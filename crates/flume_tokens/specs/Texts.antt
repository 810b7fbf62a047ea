-- Texts in quotes.
use Rattle.std.specs.Prelude.{ℕ, ◌+◌, List, [], ◌∷◌, ◌++◌, Bool, true, false, ◌==◌, if◌then◌else◌, Option, Some, None}

-- the byte that a backslash and this byte stand for: `\n`, `\t`, `\\`, `\"`
abbrev pub byte_escaped : ℕ → Option ℕ
byte_escaped b =
    if b == 110 then Some 10 else if b == 116 then Some 9 else if b == 92 then Some 92 else
    if b == 34 then Some 34 else None

-- a text's content, and how many bytes it takes up to its closing quote
abbrev pub Closed : Type 0
Closed = Option (List ℕ × ℕ)

-- one more byte is taken, and one more byte of content
abbrev pub one_more_taken : Closed → Closed
one_more_taken None = None
one_more_taken (Some (content, n)) = Some (content, n + 1)

abbrev pub with_byte : Option ℕ → Closed → Closed
with_byte (Some b) (Some (content, n)) = Some (b ∷ content, n + 1)
with_byte _ _ = None

-- The content of a text from after its opening quote on; the test says whether a backslash stands
-- before.
-- Characters other than `"`, `\` and LF stand for themselves, and a text that is not closed on its
-- line is none.
abbrev pub closed_text : Bool → List ℕ → Closed
closed_text _ [] = None
closed_text true (b ∷ bs) = with_byte (byte_escaped b) (closed_text false bs)
closed_text false (b ∷ bs) =
    if b == 34 then Some ([], 1)
    else if b == 10 then None
    else if b == 92 then one_more_taken (closed_text true bs)
    else with_byte (Some b) (closed_text false bs)

-- after this content, of which n bytes were taken
abbrev pub content_ahead : List ℕ → ℕ → Closed → Closed
content_ahead front n None = None
content_ahead front n (Some (content, m)) = Some (front ++ content, n + m)
