-- All of some bytes are read as the value whose canonical bytes they are.
use Rattle.std.proofs.Common.{◌≡◌, ℕ, Bool, true, false, List, [], ◌∷◌, ◌++◌, length, ◌==◌, Option, Some, None, Result, Ok, Err, if◌then◌else◌, refl, sym, ap, ◌∙◌, subst, arith}
use Rattle.std.specs.Prelude.{IfOk, IsErrOf}
use Rattle.std.proofs.lemmas.Bool.{eqb-true}
use Rattle.std.proofs.lemmas.List.{append-nil, nil_from_length}
use Rattle.flume_value.specs.declared.value.Value.{Value}
use Rattle.flume_value.specs.Canonical.{canonical}
use Rattle.flume_value.proofs.ApartLemmas.{canonical-tells}
use Rattle.value_reading.specs.declared.fault.ReadFault.{ReadFault}
use Rattle.value_reading.specs.declared.fault.ReadFault.TheVariants.{NotOne, Memory}
use Rattle.value_reading.specs.Written.{IsCanonical}
use Rattle.value_reading.specs.inner.Reading.{Out, alone, value_at, whole_at}
use Rattle.value_reading.specs.inner.Reads.{Answers}
use Rattle.value_reading.proofs.Digits.{Small}
use Rattle.value_reading.proofs.Taking.{value_takes}
use Rattle.value_reading.proofs.Again.{value_again}

pub only_one : (v w : Value) (bytes : List ℕ) → IsCanonical v bytes → IsCanonical w bytes → v ≡ w
only_one v w bytes p q = canonical-tells v w p.held q.held (sym p.bytes_are ∙ q.bytes_are)

-- nothing is left behind what is alone
alone_some : {A : Type 0} (o : Out A) (v : A) → alone o ≡ Some v → o ≡ Some (v, [])
alone_some None v e = absurd (cc)
alone_some (Some x) v e = tested (length x.1 == 0) refl e
  where
    tested : (t : Bool) → (length x.1 == 0) ≡ t → (if t then Some x.0 else None) ≡ Some v
        → Some x ≡ Some (v, [])
    tested true q e =
        let nil : x.1 ≡ [] = nil_from_length x.1 (eqb-true (length x.1) 0 q) in
        let first : x.0 ≡ v = cc in
        (λ i. Some (first i, nil i))
    tested false q e = absurd (cc)

whole_written : (bytes : List ℕ) (v : Value) → Small bytes → whole_at bytes ≡ Some v
    → IsCanonical v bytes
whole_written bytes v s e =
    let r = value_takes 16 bytes (v, []) s (alone_some (value_at 16 bytes) v e) in
    record {
      bytes_are = r.takes.parts ∙ append-nil (canonical v);
      levels = r.levels;
      held = r.held;
    }

written_whole : (bytes : List ℕ) (v : Value) → IsCanonical v bytes → whole_at bytes ≡ Some v
written_whole bytes v w =
    ap alone (ap (value_at 16) (w.bytes_are ∙ sym (append-nil (canonical v)))
    ∙ value_again 16 v [] w.held w.levels)

pub is_written : (bytes : List ℕ) (r : Result Value ReadFault) → Small bytes
    → Answers (whole_at bytes) r → IfOk r (λ v. IsCanonical v bytes)
is_written bytes (Ok v) s h = whole_written bytes v s h
is_written bytes (Err e) s h = tt

pub none_is : (bytes : List ℕ) (r : Result Value ReadFault) → Answers (whole_at bytes) r
    → IsErrOf r NotOne → (v : Value) → IsCanonical v bytes → ⊥
none_is bytes (Ok w) h e v p = absurd (cc)
none_is bytes (Err NotOne) h e v w =
    let none = h (λ q. cc) in let some = written_whole bytes v w in cc
none_is bytes (Err Memory) h e v w = absurd (cc)

pub is_back : (bytes : List ℕ) (r : Result Value ReadFault) → Answers (whole_at bytes) r
    → (v : Value) → IsCanonical v bytes → IfOk r (λ w. w ≡ v)
is_back bytes (Ok w) h v p = let some = written_whole bytes v p in cc
is_back bytes (Err e) h v p = tt
