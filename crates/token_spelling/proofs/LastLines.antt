-- The last line of tokens as they are written.
use Rattle.std.proofs.Common.{◌≡◌, ℕ, zero, suc, ◌+◌, ◌-◌, ◌≤◌, List, [], ◌∷◌, ◌++◌, Some, Ok, length, refl, ap, ◌∙◌, ◌==◌, false, arith}
use Rattle.std.specs.Prelude.{cond}
use Rattle.std.specs.List.{All}
use Rattle.std.proofs.lemmas.List.Elements.{All-nil, All-cons, All-head, All-tail, All-append}
use Rattle.std.proofs.Math.Seq.{take-length}
use Rattle.std.proofs.lemmas.List.Sums.{sum_by-append}
use Rattle.flume_tokens.specs.declared.keyword.Keyword.{Keyword}
use Rattle.flume_tokens.specs.declared.token.Token.{Token}
use Rattle.flume_tokens.specs.declared.token.TokenKind.{TokenKind}
use Rattle.flume_tokens.specs.declared.token.TokenKind.TheVariants as kind
use Rattle.flume_tokens.specs.Keywords.{keyword_of, keyword_spelling}
use Rattle.flume_tokens.specs.Signs.{sign_spelling}
use Rattle.flume_tokens.specs.Tokens.{line_at, list_of, tokens_of}
use Rattle.flume_tokens.proofs.Whole.{cut}
use Rattle.token_spelling.specs.Spelled.{escaped, token_written, line_ends, spelled_from, spelled, line_from, last_line}
use Rattle.token_spelling.specs.Spellable.{IsSpellable, AscendByLine, AreSpellable}
use Rattle.token_spelling.proofs.Bytes.{feeds, feeds_cons, no_feeds, plain_feeds}
use Rattle.token_spelling.proofs.WrittenWords.{keyword_word, sign_plain}
use Rattle.token_spelling.proofs.WrittenTexts.{inside}
use Rattle.token_spelling.proofs.CutAgain.{word_plains, digit_plains, cut_from, spelled_utf8}

feeds_append : (bs ds : List ℕ) → feeds (bs ++ ds) ≡ feeds bs + feeds ds
feeds_append bs ds = sum_by-append (λ b. cond (b == 10) 1 0) bs ds

line_ends_feeds : (n : ℕ) → feeds (line_ends n) ≡ n
line_ends_feeds zero = refl
line_ends_feeds (suc n) =
    let rest = line_ends_feeds n in feeds_cons 10 (line_ends n) ∙ omega (arith, rest)

text_feeds : (content : List ℕ) → feeds (34 ∷ escaped content ++ 34 ∷ []) ≡ 0
text_feeds content =
    no_feeds (34 ∷ escaped content ++ 34 ∷ [])
    (All-cons (λ b. (b == 10) ≡ false) 34 (escaped content ++ 34 ∷ []) refl
    (All-append (λ b. (b == 10) ≡ false) (escaped content) (34 ∷ []) (inside content)
    (All-cons (λ b. (b == 10) ≡ false) 34 [] refl (All-nil (λ b. (b == 10) ≡ false)))))

-- a token ends no line
written_feeds : (k : TokenKind) → IsSpellable k → feeds (token_written k) ≡ 0
written_feeds (kind.Name x) h = plain_feeds x (word_plains x h.word.rest)
written_feeds (kind.Keyword k) h =
    plain_feeds (keyword_spelling k) (word_plains (keyword_spelling k) (keyword_word k).rest)
written_feeds (kind.Number d) h = plain_feeds d (digit_plains d h.rest)
written_feeds (kind.Text x) h = text_feeds x
written_feeds (kind.Sign s) h = plain_feeds (sign_spelling s) (sign_plain s)

spelled_feeds : (line : ℕ) (ts : List Token) → All (λ t. IsSpellable t.kind) ts
    → AscendByLine line ts
    → line + feeds (spelled_from line ts) ≡ line_from line ts
spelled_feeds line [] each lines = omega arith
spelled_feeds line (t ∷ ts) each lines =
    let bs = spelled_from t.line ts in
    let up = line_ends_feeds (t.line - line) in
    let own = written_feeds t.kind (All-head (λ t. IsSpellable t.kind) t ts each) in
    let rest = spelled_feeds t.line ts (All-tail (λ t. IsSpellable t.kind) t ts each) lines.1 in
    let a = feeds_append (line_ends (t.line - line)) (token_written t.kind ++ 32 ∷ bs) in
    let b = feeds_append (token_written t.kind) (32 ∷ bs) in
    let c = feeds_cons 32 bs in
    let here = lines.0 in
    added line t.line _ _ _ _ _ _ _ a b c up own here rest
  where
    added : (line next whole ends token after blank bs last : ℕ) → whole ≡ ends + after
        → after ≡ token + blank → blank ≡ 0 + bs → ends ≡ next - line → token ≡ 0 → line ≤ next
        → next + bs ≡ last → line + whole ≡ last
    added line next whole ends token after blank bs last a b c d e f g = omega arith

-- what is written within the limit is a script of these tokens
pub script : ((k : Keyword) → keyword_of (keyword_spelling k) ≡ Some k) → (ts : List Token)
    → AreSpellable ts → length (spelled ts) ≤ 65536
    → tokens_of (spelled ts) ≡ Ok (record { items = ts; last_line = last_line ts })
script read ts h small =
    cut (spelled ts) small (spelled_utf8 1 ts h.each)
    ∙ ap (list_of (line_at (spelled ts) (length (spelled ts)))) (cut_from read 1 ts h.each h.lines)
    ∙ ap (λ n. Ok (record { items = ts; last_line = n }))
    (ap (λ bs. 1 + feeds bs) (take-length (spelled ts)) ∙ spelled_feeds 1 ts h.each h.lines)
