-- A text that is printed has the same tokens where a line feed stands behind it.
use Rattle.std.proofs.Common.{◌≡◌, ℕ, Bool, true, false, cond, ◌&&◌, List, [], ◌∷◌, ◌++◌, refl, ap, ap₂, sym, ◌∙◌, append_assoc, append-nil, subst}
use Rattle.json.specs.Lex.{Lexeme, between, colon, comma, fresh, lex, punctuate, string_token, token, tokens}
use Rattle.json.specs.Print.{ArePrintable, IsPrintable, begins, ends, escape, print, print_from, quoted, separator, token_text}
use Rattle.json.specs.Token.{Token, begin_object, end_object, begin_array, end_array, key, string, number, boolean, null, bad}
use Rattle.json.specs.Word.{ends_word, word}
use Rattle.json.proofs.Printed.Numbers.{in_word-ended, lex-number}
use Rattle.json.proofs.Printed.Strings.{content-escape, lex-escape}
use Rattle.json.proofs.Printed.Tokens.{tokens-print}

abbrev pub line_feed : List ℕ
line_feed = 10 ∷ []

-- ---- a token and what stands behind it

quoted_read : (s r : List ℕ) → lex between (quoted s ++ r) ≡ token (string s) ∷ lex between r
unfolding lex
quoted_read s r =
    ap (λ l. lex between (34 ∷ l)) (append_assoc (escape s) (34 ∷ []) r)
    ∙ ap₂ (λ o l. token (string_token o) ∷ l) (content-escape s r) (lex-escape s r)

abbrev lexemes_of : Token → List Lexeme
lexemes_of begin_object = token begin_object ∷ []
lexemes_of end_object = token end_object ∷ []
lexemes_of begin_array = token begin_array ∷ []
lexemes_of end_array = token end_array ∷ []
lexemes_of (key s) = token (string s) ∷ (colon ∷ [])
lexemes_of (string s) = token (string s) ∷ []
lexemes_of (number s) = token (number s) ∷ []
lexemes_of (boolean b) = token (boolean b) ∷ []
lexemes_of null = token null ∷ []
lexemes_of bad = []

token_read : (t : Token) (r : List ℕ) → IsPrintable t → (ends t ≡ true → ends_word r ≡ true)
    → lex between (token_text t ++ r) ≡ lexemes_of t ++ lex between r
unfolding lex word
token_read begin_object r h ended = refl
token_read end_object r h ended = refl
token_read begin_array r h ended = refl
token_read end_array r h ended = refl
token_read (key s) r h ended =
    ap (lex between) (append_assoc (quoted s) (58 ∷ []) r) ∙ quoted_read s (58 ∷ r)
token_read (string s) r h ended = quoted_read s r
token_read (number s) r h ended = lex-number s r h (ended refl)
token_read (boolean true) r h ended =
    ap₂ (λ b l. token (cond b (boolean true) bad) ∷ l) (ended refl)
    (in_word-ended r (ended refl))
token_read (boolean false) r h ended =
    ap₂ (λ b l. token (cond b (boolean false) bad) ∷ l) (ended refl)
    (in_word-ended r (ended refl))
token_read null r h ended =
    ap₂ (λ b l. token (cond b null bad) ∷ l) (ended refl) (in_word-ended r (ended refl))
token_read bad r h ended = absurd h

comma_read : (b : Bool) (r : List ℕ)
    → lex between (cond b (44 ∷ []) [] ++ r) ≡ cond b (comma ∷ []) [] ++ lex between r
unfolding lex
comma_read true r = refl
comma_read false r = refl

-- ---- the end of a text

-- behind a value stands a comma, a closing bracket or what ends the text
value_ends : (end : List ℕ) → ends_word end ≡ true → (ts : List Token)
    → ends_word (print_from true ts ++ end) ≡ true
unfolding print_from
value_ends end e [] = e
value_ends end e (begin_object ∷ ts) = refl
value_ends end e _ = refl

value_ends_all : (ts : List Token) → ends_word (print_from true ts) ≡ true
value_ends_all ts =
    subst (λ l. ends_word l ≡ true) (append-nil (print_from true ts)) (value_ends [] refl ts)

front_read : (c : Bool) (t : Token) (r : List ℕ) → IsPrintable t
    → (ends t ≡ true → ends_word r ≡ true) → lex between (separator c t ++ (token_text t ++ r))
    ≡ cond (c && begins t) (comma ∷ []) [] ++ (lexemes_of t ++ lex between r)
front_read c t r h ended =
    comma_read (c && begins t) (token_text t ++ r)
    ∙ ap (λ l. cond (c && begins t) (comma ∷ []) [] ++ l) (token_read t r h ended)

lexed_on : (c : Bool) (ts : List Token) → ArePrintable ts
    → lex between (print_from c ts ++ line_feed) ≡ lex between (print_from c ts)
unfolding lex print_from ArePrintable
lexed_on c [] h = refl
lexed_on c (t ∷ ts) h =
    let rest : List ℕ = print_from (ends t) ts in
    let more : ends t ≡ true → ends_word (rest ++ line_feed) ≡ true =
    λ e. ap (λ b. ends_word (print_from b ts ++ line_feed)) e ∙ value_ends line_feed refl ts in
    let all : ends t ≡ true → ends_word rest ≡ true =
    λ e. ap (λ b. ends_word (print_from b ts)) e ∙ value_ends_all ts in
    ap (lex between)
    (append_assoc (separator c t) (token_text t ++ rest) line_feed
    ∙ ap (λ l. separator c t ++ l) (append_assoc (token_text t) rest line_feed))
    ∙ front_read c t (rest ++ line_feed) h.0 more
    ∙ ap (λ l. cond (c && begins t) (comma ∷ []) [] ++ (lexemes_of t ++ l))
    (lexed_on (ends t) ts h.1)
    ∙ sym (front_read c t rest h.0 all)

-- a line has the tokens of the text on it
pub line_tokens : (ts : List Token) → ArePrintable ts → tokens (print ts ++ line_feed) ≡ ts
line_tokens ts h = ap (punctuate fresh) (lexed_on false ts h) ∙ tokens-print ts h
