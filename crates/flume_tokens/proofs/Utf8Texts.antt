-- Each text of a script is UTF-8: it stands between bytes of ASCII.
use Rattle.std.proofs.Common.{◌≡◌, ℕ, zero, suc, ◌+◌, ◌-◌, ◌≤◌, ◌<◌, length, length-append, nat_lt, take, drop, List, [], ◌∷◌, ◌++◌, Bool, true, false, not, ◌==◌, Option, Some, None, Result, Ok, Err, if◌then◌else◌, refl, sym, ap, ◌∙◌, subst, append_assoc, lit≤, arith}
use Rattle.std.specs.Prelude.{IsUtf8, IsCharBoundary, slice_index}
use Rattle.std.specs.Str.{is_utf8}
use Rattle.std.specs.Str.Lossy.{utf8_valid_len}
use Rattle.std.specs.List.{All}
use Rattle.std.proofs.lemmas.List.Elements.{All-nil, All-cons}
use Rattle.std.proofs.Math.Seq.{take-append_seam, drop-append-add, get_or-append_seam}
use Rattle.std.proofs.lemmas.Bool.{eqb-true}
use Rattle.std.proofs.lemmas.List.{append-nil}
use Rattle.std.specs.Char.{is_ascii_digit, is_ascii_alphabetic}
use Rattle.std.specs.Prelude.{take_while}
use Rattle.flume_tokens.specs.declared.fault.Refusal.TheVariants as refusal
use Rattle.flume_tokens.specs.declared.fault.Refusal.TheVariants.{TooLong, Utf8}
use Rattle.flume_tokens.specs.declared.fault.TokenFault.TheVariants.{Refused}
use Rattle.flume_tokens.specs.declared.piece.Class.TheVariants as class
use Rattle.std.proofs.lemmas.Str.{IsUtf8-append, IsUtf8-take, IsUtf8-drop, IsUtf8-from_ascii, IsUtf8-from_is_utf8, IsUtf8-nil, IsCharBoundary-after_ascii}
use Rattle.std.proofs.lemmas.Str.Ascii.{IsAscii-cons, IsAscii-nil}
use Rattle.flume_tokens.specs.declared.fault.TokenFault.{TokenFault}
use Rattle.flume_tokens.specs.declared.token.Token.{Token}
use Rattle.flume_tokens.specs.declared.token.TokenKind.{TokenKind}
use Rattle.flume_tokens.specs.declared.token.TokenKind.TheVariants as kind
use Rattle.flume_tokens.specs.declared.token.TokenList.{TokenList}
use Rattle.flume_tokens.specs.declared.piece.Piece.{Piece}
use Rattle.flume_tokens.specs.declared.piece.Piece.TheVariants as piece
use Rattle.flume_tokens.specs.declared.keyword.Keyword.{Keyword}
use Rattle.flume_tokens.specs.declared.sign.Sign.{Sign}
use Rattle.flume_tokens.specs.Keywords.{keyword_of}
use Rattle.flume_tokens.specs.Signs.{sign_of}
use Rattle.flume_tokens.specs.Texts.{Closed, closed_text, byte_escaped, one_more_taken, with_byte}
use Rattle.flume_tokens.specs.Pieces.{piece_of, is_blank, is_of_class, word_kind, piece_of_word, digits_piece, quoted_piece, text_piece, sign, sign_piece}
use Rattle.flume_tokens.specs.Tokens.{TokensOrFault, ahead, and_on, tokens_from, line_at, list_of, token_list, tokens_of}
use Rattle.flume_tokens.specs.Utf8.{IsUtf8Text}

-- ---- bytes

-- what stands before a byte of ASCII, and what stands after it
module _ (run : List ℕ) (b : ℕ) (bs : List ℕ) (small : b < 128) (u : IsUtf8 (run ++ b ∷ bs)) where
  here : slice_index (run ++ b ∷ bs) (length run) ≡ b
  here = get_or-append_seam run b bs 0

  inside : length run < length (run ++ b ∷ bs)
  inside = omega (arith, length-append run (b ∷ bs))

  pub before : IsUtf8 run
  before =
      let at : IsCharBoundary (run ++ b ∷ bs) (length run) =
      (omega (arith, inside), λ _ large. absurd (omega (arith, here, large, small))) in
      let P : List ℕ → Type 0 = λ xs. IsUtf8 xs in
      subst P (take-append_seam run (b ∷ bs)) (IsUtf8-take (run ++ b ∷ bs) (length run) u at)

  pub after : IsUtf8 bs
  after =
      let at = IsCharBoundary-after_ascii (run ++ b ∷ bs) (length run) u inside
      (omega (arith, here, small)) in
      let P : List ℕ → Type 0 = λ xs. IsUtf8 xs in
      subst P (drop-append-add run (b ∷ bs) 1) (IsUtf8-drop (run ++ b ∷ bs) (length run + 1) u at)

ascii : (b : ℕ) → b < 128 → IsUtf8 (b ∷ [])
ascii b h = IsUtf8-from_ascii (b ∷ []) (IsAscii-cons b [] h IsAscii-nil)

-- ---- a text

-- what a test leaves where its first branch is another
other : {A : Type 0} (t : Bool) (x y z : A) → (x ≡ z → ⊥) → (if t then x else y) ≡ z → y ≡ z
other true x y z h e = absurd (h e)
other false x y z h e = e

-- the byte that an escape stands for is of ASCII, and so is the byte behind the backslash
record Escape (b c : ℕ) : Type 0 where
  pub behind : b < 128
  pub value : c < 128

is : (k c : ℕ) {b d : ℕ} → (b == k) ≡ true → k < 128 → c < 128 → (let o : Option ℕ = Some c in
    o) ≡ Some d → Escape b d
is k c {b} {d} t h g e =
    let q = eqb-true b k t in
    let r : c ≡ d = cc in
    record { behind = omega (arith, q); value = omega (arith, r) }

escape : (b c : ℕ) → byte_escaped b ≡ Some c → Escape b c
escape b c e = by (b == 110) refl (b == 116) refl (b == 92) refl (b == 34) refl e
  where
    by : (n : Bool) → (b == 110) ≡ n → (t : Bool) → (b == 116) ≡ t → (s : Bool) → (b == 92) ≡ s
        → (q : Bool) → (b == 34) ≡ q
        → (if n then Some 10 else if t then Some 9 else if s then Some 92 else if q then Some 34
        else None) ≡ Some c
        → Escape b c
    by true n t ts s ss q qs e = is 110 10 n (lit≤ tt) (lit≤ tt) e
    by false n true t s ss q qs e = is 116 9 t (lit≤ tt) (lit≤ tt) e
    by false n false t true s q qs e = is 92 92 s (lit≤ tt) (lit≤ tt) e
    by false n false t false s true q e = is 34 34 q (lit≤ tt) (lit≤ tt) e
    by false n false t false s false q e = cc

abbrev IsClosed : Closed → List ℕ → ℕ → Type 0
IsClosed r content n = r ≡ Some (content, n)

abbrev content_of : Closed → List ℕ
content_of None = []
content_of (Some (content, n)) = content

-- one byte of a text, by what follows it: a byte that stands for itself, or an escape
step : (run : List ℕ) (b : ℕ) (bs content : List ℕ) (n : ℕ) → IsUtf8 (run ++ b ∷ bs)
    → ((rest : List ℕ) (m : ℕ) → IsClosed (closed_text false bs) rest m
    → IsUtf8 ((run ++ b ∷ []) ++ rest))
    → ((rest : List ℕ) (m : ℕ) → IsUtf8 bs → IsClosed (closed_text true bs) rest m → IsUtf8 rest)
    → IsClosed (closed_text false (b ∷ bs)) content n → IsUtf8 (run ++ content)
step run b bs content n u plain escaped_ e =
    by (b == 34) refl (b == 10) (b == 92) refl e
  where
    ended : (b == 34) ≡ true → [] ≡ content → IsUtf8 (run ++ content)
    ended q c =
        let k = eqb-true b 34 q in
        let v = before run b bs (omega (arith, k)) u in
        let P : List ℕ → Type 0 = λ xs. IsUtf8 (run ++ xs) in
        let w : IsUtf8 (run ++ []) = subst (λ xs. IsUtf8 xs) (sym (append-nil run)) v in
        subst P c w

    itself : (r : Closed) → closed_text false bs ≡ r → IsClosed (with_byte (Some b) r) content n
        → IsUtf8 (run ++ content)
    itself None c e = cc
    itself (Some (rest, m)) c e =
        let same : b ∷ rest ≡ content = ap content_of e in
        subst (λ xs. IsUtf8 (run ++ xs)) same
        (subst (λ xs. IsUtf8 xs) (append_assoc run (b ∷ []) rest) (plain rest m c))

    behind : (b == 92) ≡ true → (r : Closed) → closed_text true bs ≡ r
        → IsClosed (one_more_taken r) content n → IsUtf8 (run ++ content)
    behind s None c e = cc
    behind s (Some (rest, m)) c e =
        let k = eqb-true b 92 s in
        let small : b < 128 = omega (arith, k) in
        let same : rest ≡ content = ap content_of e in
        subst (λ xs. IsUtf8 (run ++ xs)) same
        (IsUtf8-append run rest (before run b bs small u)
        (escaped_ rest m (after run b bs small u) c))

    by : (q : Bool) → (b == 34) ≡ q → (l s : Bool) → (b == 92) ≡ s
        → IsClosed (if q then Some ([], 1) else if l then None else if s then one_more_taken
        (closed_text true bs) else with_byte (Some b) (closed_text false bs)) content n
        → IsUtf8 (run ++ content)
    by true q l s ss e = ended q (ap content_of e)
    by false q true s ss e = cc
    by false q false true s e = behind s (closed_text true bs) refl e
    by false q false false s e = itself (closed_text false bs) refl e

escape_then : (c : ℕ) (bs rest : List ℕ) (m : ℕ) → IsUtf8 (c ∷ bs)
    → ((xs : List ℕ) (k : ℕ) → IsUtf8 bs → IsClosed (closed_text false bs) xs k → IsUtf8 xs)
    → IsClosed (closed_text true (c ∷ bs)) rest m → IsUtf8 rest
escape_then c bs rest m u behind e = by (byte_escaped c) refl (closed_text false bs) refl e
  where
    by : (o : Option ℕ) → byte_escaped c ≡ o → (r : Closed) → closed_text false bs ≡ r
        → IsClosed (with_byte o r) rest m → IsUtf8 rest
    by None o r q e = cc
    by (Some d) o None q e = cc
    by (Some d) o (Some (xs, k)) q e =
        let s = escape c d o in
        let same : d ∷ xs ≡ rest = ap content_of e in
        subst (λ ys. IsUtf8 ys) same
        (IsUtf8-append (d ∷ []) xs (ascii d s.value) (behind xs k (after [] c bs s.behind u) q))

-- the rest of a text in quotes, after a run of bytes that may end within a character
closed : (run bs content : List ℕ) (n : ℕ) → IsUtf8 (run ++ bs)
    → IsClosed (closed_text false bs) content n
    → IsUtf8 (run ++ content)
closed run [] content n u e = cc
closed run (b ∷ []) content n u e = step run b [] content n u (λ rest m q. cc) (λ rest m v q. cc) e
closed run (b ∷ c ∷ bs) content n u e =
    step run b (c ∷ bs) content n u
    (λ rest m q. closed (run ++ b ∷ []) (c ∷ bs) rest m
    (subst (λ xs. IsUtf8 xs) (sym (append_assoc run (b ∷ []) (c ∷ bs))) u) q)
    (λ rest m v q. escape_then c bs rest m v (λ xs k w r. closed [] bs xs k w r) q) e

-- ---- the pieces of a script

-- a piece that is a text
record Quoted (bs content : List ℕ) : Type 0 where
  pub quote : slice_index bs 0 ≡ 34
  pub n : ℕ
  pub is : closed_text false (drop 1 bs) ≡ Some (content, n)

abbrev text_of_piece : List ℕ → ℕ → Piece
text_of_piece content n = piece.Token (kind.Text content) n

no_word : (bs content : List ℕ) (n : ℕ) → piece_of_word bs ≡ text_of_piece content n → ⊥
no_word bs content n e = by (nat_lt 32 (length w)) (keyword_of w) e
  where
    w : List ℕ
    w = take_while (is_of_class class.Word) bs

    by : (t : Bool) (o : Option Keyword)
        → (if t then piece.Fault refusal.TooLong else piece.Token (word_kind w o) (length w))
        ≡ text_of_piece content n → ⊥
    by true o e = cc
    by false None e = cc
    by false (Some k) e = cc

no_sign : (o : Option Sign) (content : List ℕ) (n : ℕ) → sign_piece o ≡ text_of_piece content n → ⊥
no_sign None content n e = cc
no_sign (Some s) content n e = cc

quoted : (bs content : List ℕ) (n : ℕ) → piece_of bs ≡ text_of_piece content n → Quoted bs content
unfolding piece_of
quoted bs content n e =
    let b = slice_index bs 0 in
    by (b == 34) refl
    (other (b == 35) _ _ _ (λ q. cc)
    (other (is_blank b) _ _ _ (λ q. cc) (other (b == 10) _ _ _ (λ q. cc) e)))
  where
    a_text : (r : Closed) → closed_text false (drop 1 bs) ≡ r → slice_index bs 0 ≡ 34
        → text_piece r ≡ text_of_piece content n → Quoted bs content
    a_text None c q e = cc
    a_text (Some (xs, m)) c q e =
        let same : xs ≡ content = cc in
        record { quote = q; n = m; is = c ∙ ap (λ ys. Some (ys, m)) same }

    plain : (a d : Bool)
        → (if a then piece_of_word bs else if d then digits_piece bs else sign bs)
        ≡ text_of_piece content n → ⊥
    plain true d e = no_word bs content n e
    plain false true e = cc
    plain false false e = no_sign (sign_of bs) content n e

    by : (q : Bool) → (slice_index bs 0 == 34) ≡ q
        → (if q then quoted_piece bs else if is_ascii_alphabetic (slice_index bs 0) then
        piece_of_word bs else if
        is_ascii_digit (slice_index bs 0) then digits_piece bs else sign
        bs) ≡ text_of_piece content n
        → Quoted bs content
    by true q e = a_text (closed_text false (drop 1 bs)) refl (eqb-true (slice_index bs 0) 34 q) e
    by false q e =
        absurd (plain (is_ascii_alphabetic (slice_index bs 0)) (is_ascii_digit (slice_index bs 0))
        e)

-- ---- the tokens

abbrev Sound : Token → Type 0
Sound t = IsUtf8Text t.kind

sound_kind : (front : List ℕ) (b : ℕ) (bs : List ℕ) (k : TokenKind) (n : ℕ)
    → IsUtf8 (front ++ b ∷ bs)
    → piece_of (b ∷ bs) ≡ piece.Token k n → IsUtf8Text k
sound_kind front b bs (kind.Text content) n u e =
    let q = quoted (b ∷ bs) content n e in
    closed [] bs content q.n (after front b bs (omega (arith, q.quote)) u) q.is
sound_kind front b bs (kind.Name x) n u e = tt
sound_kind front b bs (kind.Keyword x) n u e = tt
sound_kind front b bs (kind.Number x) n u e = tt
sound_kind front b bs (kind.Sign x) n u e = tt

-- what is put before sound tokens
put : (t : Token) (r : TokensOrFault) (ts : List Token) → Sound t
    → ((us : List Token) → r ≡ Ok us → All Sound us)
    → ahead (t ∷ []) r ≡ Ok ts → All Sound ts
put t (Err f) ts s h e = cc
put t (Ok us) ts s h e =
    let same : t ∷ us ≡ ts = cc in
    subst (λ (vs : List Token). All Sound vs) same (All-cons Sound t us s (h us refl))

from : (left line : ℕ) (front bs : List ℕ) (ts : List Token) → IsUtf8 (front ++ bs)
    → tokens_from left line bs ≡ Ok ts → All Sound ts
from left line front [] ts u e =
    let same : [] ≡ ts = cc in subst (λ (vs : List Token). All Sound vs) same (All-nil Sound)
from (suc left) line front (b ∷ bs) ts u e =
    from left line (front ++ b ∷ []) bs ts
    (subst (λ xs. IsUtf8 xs) (sym (append_assoc front (b ∷ []) bs)) u) e
from zero line front (b ∷ bs) ts u e =
    by (piece_of (b ∷ bs)) refl
    (λ n m us q. from n m (front ++ b ∷ []) bs us
    (subst (λ xs. IsUtf8 xs) (sym (append_assoc front (b ∷ []) bs)) u) q) e
  where
    by : (p : Piece) → piece_of (b ∷ bs) ≡ p
        → ((n m : ℕ) (us : List Token) → tokens_from n m bs ≡ Ok us → All Sound us)
        → and_on line (λ n m. tokens_from n m bs) p ≡ Ok ts → All Sound ts
    by piece.LineEnd p rest e = rest 0 (line + 1) ts e
    by (piece.Gap n) p rest e = rest (n - 1) line ts e
    by (piece.Fault f) p rest e = cc
    by (piece.Token k n) p rest e =
        put (record { kind = k; line = line }) (tokens_from (n - 1) line bs) ts
        (sound_kind front b bs k n u p)
        (λ us q. rest (n - 1) line us q) e

-- what tests leave of a script's tokens
pub texts : (bs : List ℕ) (list : TokenList) → tokens_of bs ≡ Ok list → All Sound list.items
unfolding tokens_of
texts bs list e = by (nat_lt 65536 (length bs)) (is_utf8 bs) refl e
  where
    of_list : (n : ℕ) (r : TokensOrFault) → ((us : List Token) → r ≡ Ok us → All Sound us)
        → list_of n r ≡ Ok list → All Sound list.items
    of_list n (Err f) h e = cc
    of_list n (Ok us) h e =
        let same : us ≡ list.items = cc in
        subst (λ (vs : List Token). All Sound vs) same (h us refl)

    by : (t u : Bool) → is_utf8 bs ≡ u
        → (if t then Err (Refused 0 TooLong) else if not u then Err
        (Refused (line_at bs (utf8_valid_len bs)) Utf8) else token_list bs) ≡ Ok list
        → All Sound list.items
    by true u q e = cc
    by false false q e = cc
    by false true q e =
        of_list (line_at bs (length bs)) (tokens_from 0 1 bs)
        (λ us r. from 0 1 [] bs us (IsUtf8-from_is_utf8 bs q) r) e
