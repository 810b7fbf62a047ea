-- JSON values whose texts are read back: their names stand in order, their numbers are small, and
-- their texts are UTF-8.
use Rattle.std.proofs.Common.{◌≡◌, ℕ, suc, ◌^◌, ◌<◌, ◌≤◌, Bool, true, false, ◌||◌, List, [], ◌∷◌, ◌++◌, map, Some, IsUtf8, decimal, refl, sym, ap, ◌∙◌, arith, append-nil}
use Rattle.std.specs.Prelude.{option_and_then, option_map}
use Rattle.std.proofs.lemmas.Bool.{false≢true}
use Rattle.std.proofs.lemmas.Fmt.{IsAscii-decimal}
use Rattle.std.proofs.lemmas.Str.{IsUtf8-append, IsUtf8-from_ascii, IsUtf8-nil}
use Rattle.json.specs.Json as json
use Rattle.json.specs.Lex.{tokens}
use Rattle.json.specs.Print.{quoted}
use Rattle.json.specs.Token.{Token}
use Rattle.json.specs.Tree as tree
use Rattle.json.proofs.Printed.Decimals.{IsNumber-decimal}
use Rattle.json.proofs.Printed.Tokens.{tokens-print}
use Rattle.json.proofs.Printed.Trees.{ArePrintable-json_tokens, value-json_tokens}
use Rattle.json.proofs.Printed.Utf8.{IsUtf8-are_ascii, IsUtf8-quoted}
use Rattle.serde_json.specs.Data.{Data, null, number, unsigned, string, array, object, Items, no_items, item, Members, no_members, member, put}
use Rattle.serde_json.specs.Read.{max_depth, of_items, of_json, of_members}
use Rattle.serde_json.specs.View.{items_of}
use Rattle.serde_json.specs.Written.{comma_if, compact_text, items_outline, items_text, members_outline, members_text, outline}
use Rattle.serde_json.proofs.Numbers.{number_of-decimal}
use Rattle.serde_json.proofs.Texts.{print-outline}
use Rattle.plan_files.specs.Numbers.{has_number, items_have_number, members_have_number}
use Rattle.plan_files.specs.Reads.{HasValue}
use Rattle.plan_writing.specs.Lists.{numbered_texts, paired}
use Rattle.plan_file_law.proofs.Ended.{line_feed, line_tokens}

-- ---- values

-- The value is read back from its text; numbers may stand in it or not; it is so deep at most.
pub record IsPlain (numbers : Bool) (n : ℕ) (d : Data) : Type 0 where
  pub back : of_json (outline d) ≡ Some d
  pub deep : tree.depth (outline d) ≤ n
  pub printable : tree.HasNumbers (outline d)
  pub utf8 : IsUtf8 (compact_text d)
  pub without : numbers ≡ false → has_number d ≡ false

pub record ArePlain (numbers : Bool) (n : ℕ) (ds : Items) : Type 0 where
  pub back : of_items (items_outline ds) ≡ Some ds
  pub deep : tree.items_depth (items_outline ds) ≤ n
  pub printable : tree.ItemsHaveNumbers (items_outline ds)
  pub utf8 : (later : Bool) → IsUtf8 (items_text later ds)
  pub without : numbers ≡ false → items_have_number ds ≡ false

-- With the members found before, they are all.
pub record HavePlain (numbers : Bool) (n : ℕ) (found ms all : Members) : Type 0 where
  pub back : of_members (members_outline ms) found ≡ Some all
  pub deep : tree.members_depth (members_outline ms) ≤ n
  pub printable : tree.MembersHaveNumbers (members_outline ms)
  pub utf8 : (later : Bool) → IsUtf8 (members_text later ms)
  pub without : numbers ≡ false → members_have_number ms ≡ false

neither : (a b : Bool) → a ≡ false → b ≡ false → (a || b) ≡ false
neither a b p q = rw (p, q) refl

comma : (later : Bool) → IsUtf8 (comma_if later)
comma true = IsUtf8-are_ascii (44 ∷ []) refl
comma false = IsUtf8-nil

one_byte : (x : ℕ) (xs : List ℕ) → IsUtf8 (x ∷ []) → IsUtf8 xs → IsUtf8 (x ∷ xs)
one_byte x xs a b = IsUtf8-append (x ∷ []) xs a b

-- ---- single ones

pub plain_null : (w : Bool) (n : ℕ) → IsPlain w n null
plain_null w n = record {
  back = refl;
  deep = omega arith;
  printable = tt;
  utf8 = IsUtf8-are_ascii (compact_text null) refl;
  without = λ _. refl;
}

pub plain_text : (w : Bool) (n : ℕ) (s : List ℕ) → IsUtf8 s → IsPlain w n (string s)
plain_text w n s u = record {
  back = refl;
  deep = omega arith;
  printable = tt;
  utf8 = IsUtf8-quoted s u;
  without = λ _. refl;
}

pub plain_number : (n k : ℕ) → k < 2 ^ 64 → IsPlain true n (number (unsigned k))
plain_number n k small = record {
  back = ap (option_map number) (number_of-decimal k small);
  deep = omega arith;
  printable = IsNumber-decimal k small;
  utf8 = IsUtf8-from_ascii (decimal k) (IsAscii-decimal k small);
  without = λ e. absurd (false≢true (sym e));
}

pub plain_array : (w : Bool) (n : ℕ) (ds : Items) → ArePlain w n ds → IsPlain w (suc n) (array ds)
plain_array w n ds p = record {
  back = ap (option_map array) p.back;
  deep = let d = p.deep in omega arith;
  printable = p.printable;
  utf8 = one_byte 91 (items_text false ds) (IsUtf8-are_ascii (91 ∷ []) refl) (p.utf8 false);
  without = p.without;
}

pub plain_object : (w : Bool) (n : ℕ) (ms : Members) → HavePlain w n no_members ms ms
    → IsPlain w (suc n) (object ms)
plain_object w n ms p = record {
  back = ap (option_map object) p.back;
  deep = let d = p.deep in omega arith;
  printable = p.printable;
  utf8 = one_byte 123 (members_text false ms) (IsUtf8-are_ascii (123 ∷ []) refl) (p.utf8 false);
  without = p.without;
}

-- ---- members

pub no_more : (w : Bool) (n : ℕ) (all : Members) → HavePlain w n all no_members all
no_more w n all = record {
  back = refl;
  deep = omega arith;
  printable = tt;
  utf8 = λ later. IsUtf8-are_ascii (125 ∷ []) refl;
  without = λ _. refl;
}

pub one_member : (w : Bool) (n : ℕ) (found : Members) (k : List ℕ) (d : Data) (ms all : Members)
    → IsUtf8 k → IsPlain w n d → HavePlain w n (put k d found) ms all
    → HavePlain w n found (member k d ms) all
one_member w n found k d ms all u p rest = record {
  back = ap (option_and_then (λ e. of_members (members_outline ms) (put k e found))) p.back
      ∙ rest.back;
  deep = let a = p.deep in let b = rest.deep in omega arith;
  printable = (p.printable, rest.printable);
  utf8 = λ later.
      IsUtf8-append (comma_if later) (quoted k ++ 58 ∷ (compact_text d ++ members_text true ms))
      (comma later)
      (IsUtf8-append (quoted k) (58 ∷ (compact_text d ++ members_text true ms)) (IsUtf8-quoted k u)
      (one_byte 58 (compact_text d ++ members_text true ms) (IsUtf8-are_ascii (58 ∷ []) refl)
      (IsUtf8-append (compact_text d) (members_text true ms) p.utf8 (rest.utf8 true))));
  without = λ e. neither (has_number d) (members_have_number ms) (p.without e) (rest.without e);
}

-- ---- lists

pub no_item : (w : Bool) (n : ℕ) → ArePlain w n no_items
no_item w n = record {
  back = refl;
  deep = omega arith;
  printable = tt;
  utf8 = λ later. IsUtf8-are_ascii (93 ∷ []) refl;
  without = λ _. refl;
}

pub one_item : (w : Bool) (n : ℕ) (d : Data) (ds : Items) → IsPlain w n d → ArePlain w n ds
    → ArePlain w n (item d ds)
one_item w n d ds p rest = record {
  back = ap (option_and_then (λ e. option_map (item e) (of_items (items_outline ds)))) p.back
      ∙ ap (option_map (item d)) rest.back;
  deep = let a = p.deep in let b = rest.deep in omega arith;
  printable = (p.printable, rest.printable);
  utf8 = λ later.
      IsUtf8-append (comma_if later) (compact_text d ++ items_text true ds) (comma later)
      (IsUtf8-append (compact_text d) (items_text true ds) p.utf8 (rest.utf8 true));
  without = λ e. neither (has_number d) (items_have_number ds) (p.without e) (rest.without e);
}

pub single : (w : Bool) (n : ℕ) (d : Data) → IsPlain w n d → ArePlain w n (item d no_items)
single w n d p = one_item w n d no_items p (no_item w n)

pub mapped : {X : Type 0} (w : Bool) (n : ℕ) (make : X → Data) → ((x : X) → IsPlain w n (make x))
    → (xs : List X) → ArePlain w n (items_of (map make xs))
mapped w n make each [] = no_item w n
mapped w n make each (x ∷ xs) =
    one_item w n (make x) (items_of (map make xs)) (each x) (mapped w n make each xs)

pub counted : {X : Type 0} (w : Bool) (n : ℕ) (make : ℕ → X → Data)
    → ((k : ℕ) (x : X) → IsPlain w n (make k x)) → (k : ℕ) (xs : List X)
    → ArePlain w n (items_of (numbered_texts make k xs))
counted w n make each k [] = no_item w n
counted w n make each k (x ∷ xs) =
    one_item w n (make k x) (items_of (numbered_texts make (suc k) xs)) (each k x)
    (counted w n make each (suc k) xs)

pub matched : {X Y : Type 0} (w : Bool) (n : ℕ) (make : X → Y → Data)
    → ((x : X) (y : Y) → IsPlain w n (make x y)) → (xs : List X) (ys : List Y)
    → ArePlain w n (items_of (paired make xs ys))
matched w n make each [] ys = no_item w n
matched w n make each (x ∷ xs) [] = no_item w n
matched w n make each (x ∷ xs) (y ∷ ys) =
    one_item w n (make x y) (items_of (paired make xs ys)) (each x y)
    (matched w n make each xs ys)

-- ---- the text is read back

-- bytes with the tokens of the value are the value
with_tokens : (w : Bool) (n : ℕ) (d : Data) (bytes : List ℕ) → IsPlain w n d → n ≤ max_depth
    → IsUtf8 bytes → tokens bytes ≡ tree.json_tokens (outline d) → HasValue bytes d
with_tokens w n d bytes p few utf8 same =
    let j : json.Json = outline d in
    let ts : List Token = tree.json_tokens j in
    let deep : tree.depth j ≤ n = p.deep in (
      utf8,
      ap (λ o. option_and_then of_json (option_and_then (λ q. json.if_last q.0 q.1) o))
          (ap (json.value max_depth) (same ∙ sym (append-nil ts))
          ∙ value-json_tokens j max_depth [] (omega arith))
          ∙ p.back,
    )

pub value_back : (w : Bool) (n : ℕ) (d : Data) → IsPlain w n d → n ≤ max_depth
    → HasValue (compact_text d) d
value_back w n d p few =
    let ts : List Token = tree.json_tokens (outline d) in
    with_tokens w n d (compact_text d) p few p.utf8
    (ap tokens (sym (print-outline d))
    ∙ tokens-print ts (ArePrintable-json_tokens (outline d) p.printable))

-- and with a line feed behind it
pub line_back : (w : Bool) (n : ℕ) (d : Data) → IsPlain w n d → n ≤ max_depth
    → HasValue (compact_text d ++ line_feed) d
line_back w n d p few =
    let ts : List Token = tree.json_tokens (outline d) in
    with_tokens w n d (compact_text d ++ line_feed) p few
    (IsUtf8-append (compact_text d) line_feed p.utf8 (IsUtf8-are_ascii line_feed refl))
    (ap (λ xs. tokens (xs ++ line_feed)) (sym (print-outline d))
    ∙ line_tokens ts (ArePrintable-json_tokens (outline d) p.printable))
