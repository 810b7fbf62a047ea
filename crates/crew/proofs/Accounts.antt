-- What hosts gain, one stretch of time after the other.
use Rattle.std.proofs.Common.{ℕ, ◌+◌, ◌≤◌, List, [], ◌∷◌, ◌++◌, append-nil, append_assoc, sym, ap, ◌∙◌, arith}
use Rattle.std.specs.List.{AllZip}
use Rattle.outside.specs.declared.host.At.{At}
use Rattle.outside.specs.Cause.{RoseBy}
use Rattle.crew.specs.declared.drill.Entry.{Entry}
use Rattle.outside.specs.Accounts.{Account, Gains}
use Rattle.crew.specs.Hosts.{Grew, Passed, RefusedPlace, at_place}

-- counts that rise one after the other
pub rises : (a b c m n : ℕ) → a ≤ b → b ≤ c → RoseBy m a b → RoseBy n b c → RoseBy (m + n) a c
rises a b c m n up on h k = omega arith

pub gains_nothing : (a : Account) → Gains a a [] []
gains_nothing a = record {
  later = omega arith;
  told = λ t. (t, sym (append-nil a.passed), sym (append-nil a.downs));
}

pub gains_on : (a b c : Account) (ps qs ds es : List At) → Gains a b ps ds → Gains b c qs es
    → Gains a c (ps ++ qs) (ds ++ es)
gains_on a b c ps qs ds es h k = record {
  later = let up = h.later in let on = k.later in omega arith;
  told = λ t. let y = k.told t in let x = h.told y.0 in (
    x.0,
    y.1 ∙ (ap (λ (l : List At). l ++ qs) x.1 ∙ append_assoc a.passed ps qs),
    y.2 ∙ (ap (λ (l : List At). l ++ es) x.2 ∙ append_assoc a.downs ds es),
  );
}

pub grew_not : (a : Account) → Grew a a
grew_not a = ([], [], gains_nothing a)

pub grew_on : (a b c : Account) → Grew a b → Grew b c → Grew a c
grew_on a b c h k = (h.0 ++ k.0, h.1 ++ k.1, gains_on a b c h.0 k.0 h.1 k.1 h.2 k.2)

-- what was let through or refused stays so
pub passed_later : (a b c : Account) (xs : List At) → Passed a b xs → Grew b c → Passed a c xs
passed_later a b c xs h k t =
    let qs = k.0 in
    let y = k.2.told t in let x = h y.0 in (
      x.0,
      x.1 ++ qs,
      y.1 ∙ (ap (λ (l : List At). l ++ qs) x.2 ∙ (append_assoc a.passed (x.0 ++ (xs ++ x.1)) qs
          ∙ ap (λ (l : List At). a.passed ++ l)
          (append_assoc x.0 (xs ++ x.1) qs
          ∙ ap (λ (l : List At). x.0 ++ l) (append_assoc xs x.1 qs)))),
    )

pub passed_before : (a b c : Account) (xs : List At) → Grew a b → Passed b c xs → Grew b c
    → Passed a c xs
passed_before a b c xs h k g t =
    let ps = h.0 in
    let y = k t in let x = h.2.told (g.2.told t).0 in (
      ps ++ y.0,
      y.1,
      y.2 ∙ (ap (λ (l : List At). l ++ (y.0 ++ (xs ++ y.1))) x.1
          ∙ (append_assoc a.passed ps (y.0 ++ (xs ++ y.1))
          ∙ ap (λ (l : List At). a.passed ++ l) (sym (append_assoc ps y.0 (xs ++ y.1))))),
    )

pub refused_before : (a b c : Account) (e : Entry) → Grew a b → RefusedPlace b c e → Grew b c
    → RefusedPlace a c e
refused_before a b c e h k g t =
    let ds = h.1 in
    let y = k t in let x = h.2.told (g.2.told t).0 in
    let here = at_place e y.2 in (
      ds ++ y.0,
      y.1,
      y.2,
      y.3 ∙ (ap (λ (l : List At). l ++ (y.0 ++ (here ∷ y.1))) x.2
          ∙ (append_assoc a.downs ds (y.0 ++ (here ∷ y.1))
          ∙ ap (λ (l : List At). a.downs ++ l) (sym (append_assoc ds y.0 (here ∷ y.1))))),
    )

-- the same of many hosts
pub all_grew-append : (us vs xs ys : List Account) → AllZip Grew us vs → AllZip Grew xs ys
    → AllZip Grew (us ++ xs) (vs ++ ys)
all_grew-append [] [] xs ys h k = k
all_grew-append [] (v ∷ vs) xs ys h k = absurd h
all_grew-append (u ∷ us) [] xs ys h k = absurd h
all_grew-append (u ∷ us) (v ∷ vs) xs ys h k = (h.0, all_grew-append us vs xs ys h.1 k)

pub all_grew_not : (us : List Account) → AllZip Grew us us
all_grew_not [] = tt
all_grew_not (u ∷ us) = (grew_not u, all_grew_not us)
