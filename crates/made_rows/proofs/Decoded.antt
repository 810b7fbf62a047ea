-- The text of a made input is read as its rows.
use Rattle.std.proofs.Common.{◌≡◌, ◌≢◌, ◌∙◌, ◌≤◌, ◌<◌, ◌+◌, ◌^◌, ◌==◌, ◌&&◌, ◌||◌, Bool, true, false, ℕ, zero, suc, pos, List, [], ◌∷◌, ◌++◌, append-nil, append_assoc, codes, length, map, Option, Some, None, refl, sym, ap, subst, arith}
use Rattle.std.specs.Prelude.{Ok, decimal, if◌then◌else◌, nat_lt}
use Rattle.std.specs.Char.{is_ascii_digit}
use Rattle.std.specs.List.{flat_map, list_any, AllByRecursion as Each}
use Rattle.std.specs.Option.{option_map}
use Rattle.std.specs.Str.{all_ascii_digits}
use Rattle.std.proofs.lemmas.Bool.{ne_eqb}
use Rattle.std.proofs.lemmas.Bool.Decides.{nat_tests}
use Rattle.std.proofs.lemmas.Fmt.{decimal_nonempty, digits_decimal, digits_value-decimal}
use Rattle.csv.proofs.OnLiterals.{csv_on_literals}
use Rattle.csv.proofs.RoundTrip.{read-write-many}
use Rattle.csv.specs.Machine.{next_record}
use Rattle.csv.specs.Quoting.{needs_byte}
use Rattle.csv.specs.Reading.{default_config, strip_bom}
use Rattle.csv.specs.Writing.{default_writer, field_text, fields_text, is_blank, row_text}
use Rattle.csv.specs.declared.parser.State.TheVariants as st
use Rattle.csv_rows.proofs.RecordFacts.{records_at-end, records_at-step}
use Rattle.csv_rows.specs.Records.{records_of}
use Rattle.csv_rows.specs.Rows.{rows_from, rows_of, rows_under, row_at}
use Rattle.csv_rows.specs.inner.Readers.{records_at}
use Rattle.flume_value.specs.declared.value.Value.{Value}
use Rattle.int_text.proofs.IntFacts.{lt-to, numeral-to, own}
use Rattle.int_text.specs.Ints.{int_from, int_of_text, is_numeral, number_of}
use Rattle.made_rows.proofs.Columns.{row_columns_are}
use Rattle.made_rows.proofs.Numbers.{numbers_below}
use Rattle.made_rows.specs.Rows.{last_digit, number_line, made_numbers, made_rows, made_text, most_made, numbers_from, pair_line, made_row}
use Rattle.made_rows.specs.Sums.{row_columns, row_type}

-- ---- digits call for no quotes

both : (a b : Bool) → (a && b) ≡ true → (a ≡ true) × (b ≡ true)
both true b h = (refl, h)
both false b h = cc h

digit_range : (b : ℕ) → is_ascii_digit b ≡ true → (48 ≤ b) × (b ≤ 57)
digit_range b digit = grind (arith, nat_tests)

digit_plain : (b : ℕ) → is_ascii_digit b ≡ true → needs_byte default_writer b ≡ false
digit_plain b digit =
    let range = digit_range b digit in
    let comma = ne_eqb b 44 (λ e. omega (arith, range.0, e)) in
    let quote = ne_eqb b 34 (λ e. omega (arith, range.0, e)) in
    let cr = ne_eqb b 13 (λ e. omega (arith, range.0, e)) in
    let lf = ne_eqb b 10 (λ e. omega (arith, range.0, e)) in
    rw (comma, quote, cr, lf) refl

digits_plain : (bs : List ℕ) → all_ascii_digits bs ≡ true
    → list_any (needs_byte default_writer) bs ≡ false
digits_plain [] digits = refl
digits_plain (b ∷ bs) digits =
    let parts = both _ _ digits in
    rw (digit_plain b parts.0, digits_plain bs parts.1) refl

field_plain : (bs : List ℕ) → all_ascii_digits bs ≡ true → field_text default_writer bs ≡ bs
field_plain bs digits = rw (digits_plain bs digits) refl

line_written : (x y : List ℕ) → all_ascii_digits x ≡ true → all_ascii_digits y ≡ true
    → row_text default_writer (x ∷ y ∷ []) ≡ x ++ (codes "," ++ (y ++ codes "\n"))
unfolding is_blank fields_text
line_written x y first second =
    rw (field_plain x first, field_plain y second)
    (append_assoc x (44 ∷ (y ++ [])) (10 ∷ [])
    ∙ ap (λ (t : List ℕ). x ++ (44 ∷ (t ++ 10 ∷ []))) (append-nil y))

-- ---- decimal digits show their number

shown_digits : (n : ℕ) → n < 2 ^ 63 → all_ascii_digits (decimal n) ≡ true
shown_digits n small = digits_decimal own n (omega (arith, small))

no_minus : (b : ℕ) → is_ascii_digit b ≡ true → (b == 45) ≡ false
no_minus b digit =
    let range = digit_range b digit in ne_eqb b 45 (λ e. omega (arith, range.0, e))

int_plain : (bs : List ℕ) → all_ascii_digits bs ≡ true → 0 < length bs
    → int_of_text bs ≡ int_from bs
int_plain [] digits some = absurd (omega arith)
int_plain (b ∷ bs) digits some = rw (no_minus b (both _ _ digits).0) refl

pub int_shown : (n : ℕ) → n < 2 ^ 63 → int_of_text (decimal n) ≡ Some (pos n)
int_shown n small =
    let digits = shown_digits n small in
    let some : 0 < length (decimal n) = decimal_nonempty n (omega (arith, small)) in
    let value : number_of (decimal n) ≡ n = digits_value-decimal own n (omega (arith, small)) in
    int_plain (decimal n) digits some
    ∙ rw (numeral-to (decimal n) digits some, value, lt-to n (2 ^ 63) small) refl

-- ---- the records of lines

abbrev fields_of : ℕ → List (List ℕ)
fields_of n = decimal (last_digit n) ∷ decimal n ∷ []

key_small : (n : ℕ) → n < 2 ^ 63 → last_digit n < 2 ^ 63
key_small n small = omega arith

line_read : (n : ℕ) (tail : List ℕ) → n < 2 ^ 63
    → next_record default_config st.StartRecord [] [] (number_line n ++ tail)
    ≡ Some (fields_of n, st.StartRecord, tail)
line_read n tail small =
    subst (λ (t : List ℕ). next_record default_config st.StartRecord [] [] (t ++ tail)
    ≡ Some (fields_of n, st.StartRecord, tail))
    (line_written (decimal (last_digit n)) (decimal n) (shown_digits (last_digit n)
    (key_small n small))
    (shown_digits n small))
    (read-write-many (decimal (last_digit n)) (decimal n) [] tail)

ends : next_record default_config st.StartRecord [] [] [] ≡ None
unfolding next_record
ends = refl

lines_read : (ns : List ℕ) → Each (λ n. n < 2 ^ 63) ns
    → records_at st.StartRecord (flat_map number_line ns) ≡ map fields_of ns
lines_read [] small = records_at-end st.StartRecord [] ends
lines_read (n ∷ ns) small =
    records_at-step st.StartRecord (number_line n ++ flat_map number_line ns) _
    (line_read n (flat_map number_line ns) small.0)
    ∙ ap (λ (r : List (List (List ℕ))). fields_of n ∷ r) (lines_read ns small.1)

-- ---- and of the header

abbrev names : List (List ℕ)
names = codes "k" ∷ codes "v" ∷ []

header_written : row_text default_writer names ≡ codes "k,v\n"
unfolding csv_on_literals fields_text is_blank
header_written = refl

no_mark : (rest : List ℕ) → strip_bom (codes "k,v\n" ++ rest) ≡ codes "k,v\n" ++ rest
unfolding strip_bom
no_mark rest = refl

header_read : (tail : List ℕ)
    → next_record default_config st.StartRecord [] [] (codes "k,v\n" ++ tail)
    ≡ Some (names, st.StartRecord, tail)
header_read tail =
    subst (λ (t : List ℕ). next_record default_config st.StartRecord [] [] (t ++ tail)
    ≡ Some (names, st.StartRecord, tail)) header_written
    (read-write-many (codes "k") (codes "v") [] tail)

all_read : (ns : List ℕ) → Each (λ n. n < 2 ^ 63) ns
    → records_of (codes "k,v\n" ++ flat_map number_line ns) ≡ names ∷ map fields_of ns
all_read ns small =
    ap (records_at st.StartRecord) (no_mark (flat_map number_line ns))
    ∙ (records_at-step st.StartRecord (codes "k,v\n" ++ flat_map number_line ns) _
    (header_read (flat_map number_line ns))
    ∙ ap (λ (r : List (List (List ℕ))). names ∷ r) (lines_read ns small))

-- ---- the rows of these records

row_decoded : (row n : ℕ) → n < 2 ^ 63 → row_at row row_columns (fields_of n) ≡ Ok (made_row n)
row_decoded row n small =
    rw (int_shown (last_digit n) (key_small n small), int_shown n small) refl

rows_decoded : (row : ℕ) (ns : List ℕ) → Each (λ n. n < 2 ^ 63) ns
    → rows_from row row_columns (map fields_of ns) ≡ Ok (map made_row ns)
rows_decoded row [] small = refl
rows_decoded row (n ∷ ns) small =
    rw (row_decoded row n small.0, rows_decoded (row + 1) ns small.1) refl

pub decoded : (start rows : ℕ) → start ≤ most_made → rows ≤ most_made
    → rows_of (made_text start rows) row_type ≡ Some (Ok (made_rows start rows))
decoded start rows first few =
    let ns = made_numbers start rows in
    let small : Each (λ n. n < 2 ^ 63) ns
    = numbers_below (2 ^ 63) (suc start) rows (omega (arith, first, few)) in
    ap (option_map (λ columns. rows_under columns (records_of (made_text start rows))))
    row_columns_are
    ∙ (ap (λ (r : List (List (List ℕ))). Some (rows_under row_columns r)) (all_read ns small)
    ∙ ap Some (rows_decoded 1 ns small))
