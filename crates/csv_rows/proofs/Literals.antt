-- Texts whose records are known.
use Rattle.std.proofs.Common.{◌≡◌, ◌∷◌, [], refl}
use Rattle.std.specs.Prelude.{codes}
use Rattle.csv.proofs.OnLiterals.{csv_on_literals}
use Rattle.csv.specs.Writing.{fields_text, is_blank, row_text}
use Rattle.csv_rows.specs.Records.{records_of}
use Rattle.csv_rows.specs.Text.{plain_writer}

pub empty : records_of [] ≡ []
unfolding csv_on_literals
empty = refl

-- blank lines give no record, and the end of the text needs no line's end
pub blank : records_of (codes "\n\r\nk,v\n\n1,2")
    ≡ (codes "k" ∷ codes "v" ∷ []) ∷ (codes "1" ∷ codes "2" ∷ []) ∷ []
unfolding csv_on_literals
blank = refl

-- a byte order mark is passed over
pub mark : records_of (0xef ∷ 0xbb ∷ 0xbf ∷ codes "k\n") ≡ (codes "k" ∷ []) ∷ []
unfolding csv_on_literals
mark = refl

-- quotes, doubled quotes and line ends inside quotes
pub quotes : records_of (codes "\"a,\"\"b\"\"\n\",c\r\n")
    ≡ (codes "a,\"b\"\n" ∷ codes "c" ∷ []) ∷ []
unfolding csv_on_literals
quotes = refl

-- a CR by itself ends a record
pub lone_cr : records_of (codes "k\r1\r") ≡ (codes "k" ∷ []) ∷ (codes "1" ∷ []) ∷ []
unfolding csv_on_literals
lone_cr = refl

-- a quote inside an unquoted field
pub inner_quote : records_of (codes "a\"b,c") ≡ (codes "a\"b" ∷ codes "c" ∷ []) ∷ []
unfolding csv_on_literals
inner_quote = refl

-- bytes behind a closing quote
pub behind_quote : records_of (codes "\"a\"b,c") ≡ (codes "ab" ∷ codes "c" ∷ []) ∷ []
unfolding csv_on_literals
behind_quote = refl

-- a row that is one empty field
pub one_empty : row_text plain_writer ([] ∷ []) ≡ codes "\"\"\n"
unfolding is_blank fields_text
one_empty = refl
