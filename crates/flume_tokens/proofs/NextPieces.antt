-- What follows a piece.
use Rattle.std.proofs.Common.{◌≡◌, ℕ, zero, suc, ◌+◌, ◌-◌, ◌≤◌, ◌<◌, List, [], ◌∷◌, ◌++◌, Ok, Err, length, drop, refl, sym, ap, ◌∙◌, append_assoc, arith}
use Rattle.std.proofs.lemmas.List.{drop-drop}
use Rattle.std.proofs.Common.{length-drop}
use Rattle.flume_tokens.specs.declared.fault.Refusal.{Refusal}
use Rattle.flume_tokens.specs.declared.fault.TokenFault.TheVariants.{Refused}
use Rattle.flume_tokens.specs.declared.piece.Piece.TheVariants as piece
use Rattle.flume_tokens.specs.declared.token.Token.{Token}
use Rattle.flume_tokens.specs.declared.token.TokenKind.{TokenKind}
use Rattle.flume_tokens.specs.Pieces.{piece_of}
use Rattle.flume_tokens.specs.Tokens.{TokensOrFault, ahead, and_on, tokens_from}

ahead_ahead : (ts us : List Token) (r : TokensOrFault) → ahead ts (ahead us r) ≡ ahead (ts ++ us) r
ahead_ahead ts us (Ok vs) = ap Ok (sym (append_assoc ts us vs))
ahead_ahead ts us (Err e) = refl

-- the bytes that belong to the piece before are passed
skipped : (left line : ℕ) (bs : List ℕ)
    → tokens_from left line bs ≡ tokens_from 0 line (drop left bs)
skipped zero line bs = refl
skipped (suc left) line [] = refl
skipped (suc left) line (b ∷ bs) = skipped left line bs

after_first : (k line : ℕ) (b : ℕ) (bs : List ℕ) → 1 ≤ k
    → tokens_from (k - 1) line bs ≡ tokens_from 0 line (drop k (b ∷ bs))
after_first zero line b bs h = absurd (omega arith)
after_first (suc k) line b bs h = let e : suc k - 1 ≡ k = omega arith in
    ap (λ n. tokens_from n line bs) e ∙ skipped k line bs

pub next_LineEnd : (line : ℕ) (bs : List ℕ) → 0 < length bs → piece.LineEnd ≡ piece_of bs
    → tokens_from 0 line bs ≡ tokens_from 0 (line + 1) (drop 1 bs)
next_LineEnd line [] h e = absurd (omega arith)
next_LineEnd line (b ∷ bs) h e = ap (and_on line (λ left n. tokens_from left n bs)) (sym e)

pub next_Gap : (k line : ℕ) (bs : List ℕ) → 0 < length bs → 1 ≤ k → piece.Gap k ≡ piece_of bs
    → tokens_from 0 line bs ≡ tokens_from 0 line (drop k bs)
next_Gap k line [] h g e = absurd (omega arith)
next_Gap k line (b ∷ bs) h g e = ap (and_on line (λ left n. tokens_from left n bs)) (sym e)
    ∙ after_first k line b bs g

pub next_Token : (kind : TokenKind) (k line : ℕ) (bs : List ℕ) → 0 < length bs → 1 ≤ k
    → piece.Token kind k ≡ piece_of bs
    → tokens_from 0 line bs ≡ ahead (record { kind = kind; line = line } ∷ [])
    (tokens_from 0 line (drop k bs))
next_Token kind k line [] h g e = absurd (omega arith)
next_Token kind k line (b ∷ bs) h g e =
    ap (and_on line (λ left n. tokens_from left n bs)) (sym e)
    ∙ ap (ahead (record { kind = kind; line = line } ∷ [])) (after_first k line b bs g)

next_Fault : (fault : Refusal) (line : ℕ) (bs : List ℕ) → 0 < length bs
    → piece.Fault fault ≡ piece_of bs → tokens_from 0 line bs ≡ Err (Refused line fault)
next_Fault fault line [] h e = absurd (omega arith)
next_Fault fault line (b ∷ bs) h e = ap (and_on line (λ left n. tokens_from left n bs)) (sym e)

-- what is left after the bytes before a place, and after k more
left : (at k : ℕ) (bs : List ℕ) → drop k (drop at bs) ≡ drop (at + k) bs
left at k bs = drop-drop k at bs

some_left : (at : ℕ) (bs : List ℕ) → at < length bs → 0 < length (drop at bs)
some_left at bs h = omega (arith, length-drop at bs)

pub on_LineEnd : (ts : List Token) (at line : ℕ) (bs : List ℕ) (whole : TokensOrFault)
    → at < length bs
    → piece.LineEnd ≡ piece_of (drop at bs)
    → ahead ts (tokens_from 0 line (drop at bs)) ≡ whole
    → ahead ts (tokens_from 0 (line + 1) (drop (at + 1) bs)) ≡ whole
on_LineEnd ts at line bs whole h e w =
    ap (λ xs. ahead ts (tokens_from 0 (line + 1) xs)) (sym (left at 1 bs))
    ∙ ap (ahead ts) (sym (next_LineEnd line (drop at bs) (some_left at bs h) e)) ∙ w

pub on_Gap : (ts : List Token) (at k line : ℕ) (bs : List ℕ) (whole : TokensOrFault)
    → at < length bs → 1 ≤ k
    → piece.Gap k ≡ piece_of (drop at bs)
    → ahead ts (tokens_from 0 line (drop at bs)) ≡ whole
    → ahead ts (tokens_from 0 line (drop (at + k) bs)) ≡ whole
on_Gap ts at k line bs whole h g e w =
    ap (λ xs. ahead ts (tokens_from 0 line xs)) (sym (left at k bs))
    ∙ ap (ahead ts) (sym (next_Gap k line (drop at bs) (some_left at bs h) g e)) ∙ w

pub on_Token : (ts us : List Token) (kind : TokenKind) (at k line : ℕ) (bs : List ℕ)
    (whole : TokensOrFault)
    → at < length bs → 1 ≤ k
    → piece.Token kind k ≡ piece_of (drop at bs)
    → us ≡ ts ++ record { kind = kind; line = line } ∷ []
    → ahead ts (tokens_from 0 line (drop at bs)) ≡ whole
    → ahead us (tokens_from 0 line (drop (at + k) bs)) ≡ whole
on_Token ts us kind at k line bs whole h g e u w =
    let t : List Token = record { kind = kind; line = line } ∷ [] in
    ap (λ xs. ahead xs (tokens_from 0 line (drop (at + k) bs))) u
    ∙ sym (ahead_ahead ts t (tokens_from 0 line (drop (at + k) bs)))
    ∙ ap (λ xs. ahead ts (ahead t (tokens_from 0 line xs))) (sym (left at k bs))
    ∙ ap (ahead ts) (sym (next_Token kind k line (drop at bs) (some_left at bs h) g e)) ∙ w

pub on_Fault : (ts : List Token) (fault : Refusal) (at line : ℕ) (bs : List ℕ)
    (whole : TokensOrFault)
    → at < length bs → piece.Fault fault ≡ piece_of (drop at bs)
    → ahead ts (tokens_from 0 line (drop at bs)) ≡ whole → whole ≡ Err (Refused line fault)
on_Fault ts fault at line bs whole h e w = sym w
    ∙ ap (ahead ts) (next_Fault fault line (drop at bs) (some_left at bs h) e)
