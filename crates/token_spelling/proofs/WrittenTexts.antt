-- A text as it is written.
use Rattle.std.proofs.Common.{◌≡◌, ℕ, ◌+◌, ◌<◌, List, [], ◌∷◌, ◌++◌, length, Bool, true, false, ◌==◌, Some, if◌then◌else◌, refl, sym, ap, ◌∙◌, subst, append_assoc, lit≤, arith}
use Rattle.std.specs.Prelude.{IsUtf8}
use Rattle.std.specs.List.{All}
use Rattle.std.proofs.lemmas.Bool.{eqb-true}
use Rattle.std.proofs.lemmas.List.Elements.{All-nil, All-cons, All-append}
use Rattle.std.proofs.lemmas.Str.{IsUtf8-append, IsUtf8-from_ascii}
use Rattle.std.proofs.lemmas.Str.Ascii.{IsAscii-cons, IsAscii-nil}
use Rattle.flume_tokens.specs.Texts.{Closed, closed_text, one_more_taken, with_byte}
use Rattle.flume_tokens.proofs.Utf8Texts.{before, after}
use Rattle.token_spelling.specs.Spelled.{escape, escaped}
use Rattle.token_spelling.proofs.Branches.{second}

abbrev read_as : List ℕ → ℕ → Closed
read_as content n = Some (content, n)

same : (b c : ℕ) (xs : List ℕ) (n m : ℕ) → b ≡ c → n ≡ m → read_as (b ∷ xs) n ≡ read_as (c ∷ xs) m
same b c xs n m e g = ap (λ d. read_as (d ∷ xs) n) e ∙ ap (read_as (c ∷ xs)) g

-- a byte as it is written, by whether it is `"`, `\` or LF
abbrev escape_by : Bool → Bool → Bool → ℕ → List ℕ
escape_by quote backslash feed b =
    if quote then 92 ∷ 34 ∷ [] else if backslash then 92 ∷ 92 ∷ [] else if feed then
    92 ∷ 110 ∷ [] else b ∷ []

-- what is written of a text is read as that text
abbrev IsRead : List ℕ → List ℕ → Type 0
IsRead content rest = closed_text false (escaped content ++ 34 ∷ rest)
    ≡ Some (content, length (escaped content) + 1)

-- those bytes and then a text as it is written are read as that text with one byte in front
abbrev ReadAs : ℕ → List ℕ → List ℕ → List ℕ → Type 0
ReadAs b content rest bs = closed_text false ((bs ++ escaped content) ++ 34 ∷ rest)
    ≡ Some (b ∷ content, length (bs ++ escaped content) + 1)

pub closed : (content rest : List ℕ) → IsRead content rest
closed [] rest = refl
closed (b ∷ content) rest =
    by (b == 34) refl (b == 92) refl (b == 10) refl (closed content rest)
  where
    by : (q : Bool) → (b == 34) ≡ q → (s : Bool) → (b == 92) ≡ s → (n : Bool) → (b == 10) ≡ n
        → IsRead content rest → ReadAs b content rest (escape_by q s n b)
    by true e s f n g h =
        ap (λ r. one_more_taken (with_byte (Some 34) r)) h
        ∙ same 34 b content _ _ (sym (eqb-true b 34 e)) (omega arith)
    by false e true f n g h =
        ap (λ r. one_more_taken (with_byte (Some 92) r)) h
        ∙ same 92 b content _ _ (sym (eqb-true b 92 f)) (omega arith)
    by false e false f true g h =
        ap (λ r. one_more_taken (with_byte (Some 10) r)) h
        ∙ same 10 b content _ _ (sym (eqb-true b 10 g)) (omega arith)
    by false e false f false g h =
        second (b == 34) _ _ e ∙ second (b == 10) _ _ g ∙ second (b == 92) _ _ f
        ∙ ap (with_byte (Some b)) h ∙ same b b content _ _ refl (omega arith)

ascii_pair : (b c : ℕ) → b < 128 → c < 128 → IsUtf8 (b ∷ c ∷ [])
ascii_pair b c h g =
    IsUtf8-from_ascii (b ∷ c ∷ []) (IsAscii-cons b (c ∷ []) h (IsAscii-cons c [] g IsAscii-nil))

abbrev Written : List ℕ → List ℕ → List ℕ → Type 0
Written run bs xs = IsUtf8 (run ++ (xs ++ escaped bs))

-- what is written of UTF-8 is UTF-8, also where a character has begun before
utf8_from : (run bs : List ℕ) → IsUtf8 (run ++ bs) → IsUtf8 (run ++ escaped bs)
utf8_from run [] u = u
utf8_from run (b ∷ bs) u =
    by (b == 34) refl (b == 92) refl (b == 10) refl (λ front v. utf8_from front bs v)
  where
    escape_of : (k c : ℕ) → (b == k) ≡ true → k < 128 → c < 128
        → ((front : List ℕ) → IsUtf8 (front ++ bs) → IsUtf8 (front ++ escaped bs))
        → Written run bs (92 ∷ c ∷ [])
    escape_of k c e h g rest =
        let q = eqb-true b k e in
        let small : b < 128 = omega (arith, q) in
        IsUtf8-append run _ (before run b bs small u)
        (IsUtf8-append (92 ∷ c ∷ []) _ (ascii_pair 92 c (lit≤ tt) g)
        (rest [] (after run b bs small u)))

    by : (q : Bool) → (b == 34) ≡ q → (s : Bool) → (b == 92) ≡ s → (n : Bool) → (b == 10) ≡ n
        → ((front : List ℕ) → IsUtf8 (front ++ bs) → IsUtf8 (front ++ escaped bs))
        → Written run bs (escape_by q s n b)
    by true e s f n g rest = escape_of 34 34 e (lit≤ tt) (lit≤ tt) rest
    by false e true f n g rest = escape_of 92 92 f (lit≤ tt) (lit≤ tt) rest
    by false e false f true g rest = escape_of 10 110 g (lit≤ tt) (lit≤ tt) rest
    by false e false f false g rest =
        subst (λ xs. IsUtf8 xs) (append_assoc run (b ∷ []) (escaped bs))
        (rest (run ++ b ∷ [])
        (subst (λ xs. IsUtf8 xs) (sym (append_assoc run (b ∷ []) bs)) u))

pub utf8_text : (content : List ℕ) → IsUtf8 content → IsUtf8 (escaped content)
utf8_text content u = utf8_from [] content u

-- what is written of a text ends no line
pub inside : (content : List ℕ) → All (λ b. (b == 10) ≡ false) (escaped content)
inside [] = All-nil (λ b. (b == 10) ≡ false)
inside (b ∷ content) =
    All-append (λ b. (b == 10) ≡ false) (escape b) (escaped content)
    (by (b == 34) (b == 92) (b == 10) refl) (inside content)
  where
    pair : (c d : ℕ) → (c == 10) ≡ false → (d == 10) ≡ false
        → All (λ b. (b == 10) ≡ false) (c ∷ d ∷ [])
    pair c d h g =
        All-cons (λ b. (b == 10) ≡ false) c (d ∷ []) h
        (All-cons (λ b. (b == 10) ≡ false) d [] g (All-nil (λ b. (b == 10) ≡ false)))

    by : (q s n : Bool) → (b == 10) ≡ n
        → All (λ b. (b == 10) ≡ false) (escape_by q s n b)
    by true s n g = pair 92 34 refl refl
    by false true n g = pair 92 92 refl refl
    by false false true g = pair 92 110 refl refl
    by false false false g =
        All-cons (λ b. (b == 10) ≡ false) b [] g (All-nil (λ b. (b == 10) ≡ false))
