-- Bytes that are written behind others in a room.
use Rattle.std.proofs.Common.{◌≡◌, ℕ, ◌+◌, List, ◌++◌, length, take, ap, ◌∙◌, arith}
use Rattle.std.proofs.Math.Seq.{take-append_seam}
use Rattle.std.proofs.lemmas.List.{length-append}
use Rattle.std.proofs.lemmas.Slice.{take-put_mid}
use borrow.Rule.Slice.PartMut.{put_mid}

seam : (front back rest : List ℕ) (k n : ℕ) → n ≡ length front + length back
    → take n (put_mid (length front) k (front ++ rest) back) ≡ front ++ back
seam front back rest k n e =
    take-put_mid (length front) k (front ++ rest) back n e (omega (arith, length-append front rest))
    ∙ ap (λ bytes. bytes ++ back) (take-append_seam front rest)

-- the room begins with x, and then y is written behind it
pub written : (front back x y rest : List ℕ) (k n : ℕ) → x ≡ front → y ≡ back
    → n ≡ length front + length back
    → take n (put_mid (length front) k (x ++ rest) y) ≡ front ++ back
written front back x y rest k n e f g =
    (λ i. take n (put_mid (length front) k (e i ++ rest) (f i))) ∙ seam front back rest k n g
