-- The slots of records and lists are right where those of their parts are.
use Rattle.std.proofs.Common.{◌≡◌, ℕ, Bool, true, false, ◌&&◌, Ok, Err, List, [], ◌∷◌, ◌++◌, length, arith, refl, sym, ap, ◌∙◌, subst, append-nil, append_assoc}
use Rattle.std.specs.Prelude.{nat_eq}
use Rattle.std.specs.List.{list_all}
use Rattle.std.proofs.lemmas.Bool.{eqb-true}
use Rattle.flume_value.specs.declared.value.Value.{Value}
use Rattle.flume_value.specs.declared.value.Value.TheVariants as value
use Rattle.flume_value.proofs.BoolLemmas.{both_true}
use Rattle.type_table.specs.of_flume_types.declared.types.Ty.{Ty}
use Rattle.type_table.specs.of_flume_types.declared.types.Ty.TheVariants as ty
use Rattle.type_table.specs.of_flume_types.Typing.{types_of}
use Rattle.type_table.proofs.of_flume_types.SameLemmas.{tells_apart, ty_eq-Decides}
use Rattle.flume_grammar.specs.declared.fault.ScriptKind.TheVariants.{Twice, Mistyped}
use Rattle.dofn_eval.specs.declared.expr.Expr.{Expr as Slots}
use Rattle.dofn_eval.specs.declared.expr.Expr.TheVariants as expr
use Rattle.dofn_eval.specs.Outcome.{Outcome, Gives, Traps, Stuck, then}
use Rattle.dofn_eval.specs.Meaning.{part_values, expression_value}
use Rattle.dofn_eval.specs.Typed as typing
use Rattle.dofn_eval.proofs.MeaningLemmas.{value_of-Record, value_of-List}
use Rattle.expression_types.specs.of_written_types.Answer.{Checked, ◌>>=◌, unless}
use Rattle.expression_types.specs.of_written_types.Written.{shallow}
use Rattle.expression_types.specs.Sight.{Newest}
use Rattle.expression_types.specs.Fields.{are_different, typed_fields}
use Rattle.expression_types.specs.Types.{is_same, record_type, list_type}
use Rattle.expression_check.specs.Given.{Thing, Environment, tagged, recorded, list_of_things}
use Rattle.expression_check.specs.Slots.{SlotsAndType, fields, members_slots}
use Rattle.expression_check.specs.Right.{types, bound, IsRight}
use Rattle.expression_types.proofs.TypeLemmas.{shallow_is}
use Rattle.expression_check.proofs.OutcomeLemmas.{Giving, right_made}

-- ---- parts, one after another

abbrev pub AllGiving : Type 0
AllGiving = Environment → List Ty → List Value → Outcome (List Ty × List Value)

abbrev pub AreRight : Newest Ty → List Slots → List Ty → Checked (List Slots × List Ty) →
    Checked (List Ty) → AllGiving → Type 0
AreRight names ks ts (Err f) all given = all ≡ Err f
AreRight names ks ts (Ok found) all given =
    (more : List Slots) × (us : List Ty) × (found ≡ (ks ++ more, ts ++ us)) × (all ≡ Ok us)
    × typing.AllTyped (types names) more us
    × ((vs : List Value) (before : List Ty) (made : List Value)
    → given (bound names vs) before made
    ≡ then (part_values expression_value more vs made) (λ ws. Gives (before ++ us, ws)))

pub no_parts : (names : Newest Ty) (ks : List Slots) (ts : List Ty)
    → AreRight names ks ts (Ok (ks, ts)) (Ok []) (λ env before made. Gives (before, made))
no_parts names ks ts = (
  [],
  [],
  (λ i. (sym (append-nil ks) i, sym (append-nil ts) i)),
  refl,
  typing.all_end,
  λ vs before made. ap (λ us. Gives (us, made)) (sym (append-nil before)),
)

abbrev in_front : Checked Ty → Checked (List Ty) → Checked (List Ty)
in_front type all = type >>= λ t. all >>= λ us. Ok (t ∷ us)

module _ (names : Newest Ty) (ks : List Slots) (ts : List Ty) (x : SlotsAndType)
    (rest : AllGiving) where
  part_goes : (more : List Slots) (us : List Ty) (vs : List Value) (before : List Ty)
      (made : List Value)
      → ((b : List Ty) (m : List Value) → rest (bound names vs) b m
      ≡ then (part_values expression_value more vs m) (λ ws. Gives (b ++ us, ws)))
      → (o : Outcome Value)
      → then (tagged x.1 o) (λ y. rest (bound names vs) (before ++ y.0 ∷ []) (made ++ y.1 ∷ []))
      ≡ then (then o (λ v. part_values expression_value more vs (made ++ v ∷ [])))
      (λ ws. Gives (before ++ x.1 ∷ us, ws))
  part_goes more us vs before made h (Gives v) =
      h (before ++ x.1 ∷ []) (made ++ v ∷ [])
      ∙ ap (λ bs. then (part_values expression_value more vs (made ++ v ∷ []))
      (λ ws. Gives (bs, ws)))
      (append_assoc before (x.1 ∷ []) us)
  part_goes more us vs before made h (Traps k) = refl
  part_goes more us vs before made h Stuck = refl

  part_more : (type : Checked Ty) (given : Giving) (found : Checked (List Slots × List Ty))
      (all : Checked (List Ty)) → IsRight names (Ok x) type given
      → AreRight names (ks ++ x.0 ∷ []) (ts ++ x.1 ∷ []) found all rest
      → AreRight names ks ts found (in_front type all)
      (λ env before made. then (given env) (λ y. rest env (before ++ y.0 ∷ []) (made ++ y.1 ∷ [])))
  part_more type given (Err f) all h r = λ i. in_front (h.0 i) (r i)
  part_more type given (Ok found) all h (more, us, is, has, td, gv) = (
    x.0 ∷ more,
    x.1 ∷ us,
    is ∙ (λ i. (append_assoc ks (x.0 ∷ []) more i, append_assoc ts (x.1 ∷ []) us i)),
    (λ i. in_front (h.0 i) (has i)),
    typing.all_more h.1 td,
    λ vs before made.
        ap (λ o. then o (λ y. rest (bound names vs) (before ++ y.0 ∷ []) (made ++ y.1 ∷ [])))
        (h.2 vs)
        ∙ part_goes more us vs before made (gv vs) (expression_value x.0 vs),
  )

pub parts_more : (names : Newest Ty) (ks : List Slots) (ts : List Ty) (o : Checked SlotsAndType)
    (type : Checked Ty) (given : Giving)
    (found : List Slots → List Ty → Checked (List Slots × List Ty)) (all : Checked (List Ty))
    (rest : AllGiving) → IsRight names o type given
    → ((ks' : List Slots) (ts' : List Ty) → AreRight names ks' ts' (found ks' ts') all rest)
    → AreRight names ks ts (o >>= λ x. found (ks ++ x.0 ∷ []) (ts ++ x.1 ∷ [])) (in_front type all)
    (λ env before made. then (given env) (λ y. rest env (before ++ y.0 ∷ []) (made ++ y.1 ∷ [])))
parts_more names ks ts (Err f) type given found all rest h r = ap (λ o. in_front o all) h
parts_more names ks ts (Ok x) type given found all rest h r =
    part_more names ks ts x rest type given (found (ks ++ x.0 ∷ []) (ts ++ x.1 ∷ [])) all h
    (r (ks ++ x.0 ∷ []) (ts ++ x.1 ∷ []))

-- all values at once
all_made : (t : Ty) (us : List Ty) (o : Outcome (List Value)) (w : List Value → Value)
    (f : List Ty × List Value → Outcome Thing)
    → ((ws : List Value) → f (us, ws) ≡ tagged t (Gives (w ws)))
    → then (then o (λ ws. Gives (us, ws))) f ≡ tagged t (then o (λ ws. Gives (w ws)))
all_made t us (Gives ws) w f h = h ws
all_made t us (Traps k) w f h = refl
all_made t us Stuck w f h = refl

counted : (names : List (List ℕ)) (ts : List Ty) → length names ≡ length ts
    → types_of (typed_fields names ts) ≡ ts
counted [] [] e = refl
counted [] (t ∷ ts) e = cc
counted (name ∷ names) [] e = cc
counted (name ∷ names) (t ∷ ts) e =
    let less : length names ≡ length ts = omega (arith, e) in
    ap (λ us. t ∷ us) (counted names ts less)

record_by : (line : ℕ) (new many : Bool) (names : List (List ℕ)) (ts : List Ty) (t : Ty)
    → nat_eq (length names) (length ts) ≡ many
    → (unless line Twice new >>= λ met. unless line Mistyped many >>= λ also.
    shallow line (ty.Rec (typed_fields names ts))) ≡ Ok t
    → (ty.Rec (typed_fields names ts) ≡ t) × (types_of (typed_fields names ts) ≡ ts)
record_by line true true names ts t test e = (
  shallow_is line (ty.Rec (typed_fields names ts)) t e,
  counted names ts (eqb-true (length names) (length ts) test),
)
record_by line true false names ts t test e = cc
record_by line false many names ts t test e = cc

record_is : (line : ℕ) (names : List (List ℕ)) (ts : List Ty) (t : Ty)
    → record_type line names ts ≡ Ok t
    → (ty.Rec (typed_fields names ts) ≡ t) × (types_of (typed_fields names ts) ≡ ts)
record_is line names ts t e =
    record_by line (are_different names) (nat_eq (length names) (length ts)) names ts t refl e

each_of : (u : Ty) (scope : List Ty) (ks : List Slots) (us : List Ty)
    → list_all (is_same u) us ≡ true → typing.AllTyped scope ks us → typing.EachTyped scope ks u
each_of u scope _ _ e typing.all_end = typing.each_end
each_of u scope _ _ e (typing.all_more {ts = ts} {es = es} {e = k} {t = t} d r) =
    let p = both_true (is_same u t) (list_all (is_same u) ts) e in
    typing.each_more (subst (typing.Typed scope k) (sym (tells_apart u t p.0)) d)
    (each_of u scope es ts p.1 r)

record IsList (ts : List Ty) (t : Ty) : Type 0 where
  member : Ty
  type : ty.List member ≡ t
  each : (scope : List Ty) (ks : List Slots) → typing.AllTyped scope ks ts
      → typing.EachTyped scope ks member
  given : (ws : List Value) → list_of_things (ts, ws) ≡ tagged t (Gives (value.List ws))

list_by : (line : ℕ) (b : Bool) (u : Ty) (us : List Ty) (t : Ty) → list_all (is_same u) us ≡ b
    → (unless line Mistyped b >>= λ met. shallow line (ty.List u)) ≡ Ok t → IsList (u ∷ us) t
list_by line true u us t all e =
    let is = shallow_is line (ty.List u) t e in
    let first : list_all (is_same u) (u ∷ us) ≡ true =
    ap (λ b. b && list_all (is_same u) us) ((ty_eq-Decides u u).1 refl) ∙ all in
    record {
      member = u;
      type = is;
      each = λ scope ks d. each_of u scope ks (u ∷ us) first d;
      given = λ ws. ap (λ w. tagged w (Gives (value.List ws))) is;
    }
list_by line false u us t all e = cc

list_is : (line : ℕ) (ts : List Ty) (t : Ty) → list_type line ts ≡ Ok t → IsList ts t
list_is line [] t e = cc
list_is line (u ∷ us) t e = list_by line (list_all (is_same u) us) u us t refl e

pub right_record : (line : ℕ) (fs : List (List ℕ)) (names : Newest Ty)
    (o : Checked (List Slots × List Ty)) (all : Checked (List Ty)) (given : AllGiving)
    → AreRight names [] [] o all given
    → IsRight names (o >>= λ found. fields line fs found) (all >>= λ ts. record_type line fs ts)
    (λ env. then (given env [] []) (recorded fs))
right_record line fs names (Err f) all given h = ap (λ o. o >>= λ ts. record_type line fs ts) h
right_record line fs names (Ok found) all given (more, us, is, has, td, gv) =
    subst (λ found. IsRight names (fields line fs found) (all >>= λ ts. record_type line fs ts)
    (λ env. then (given env [] []) (recorded fs))) (sym is)
    (right_made names (expr.Record more) (record_type line fs us) _ _
    (ap (λ o. o >>= λ ts. record_type line fs ts) has)
    (λ t e. let p = record_is line fs us t e in (
      subst (typing.Typed (types names) (expr.Record more)) p.0
          (typing.fields (typed_fields fs us)
          (subst (typing.AllTyped (types names) more) (sym p.1) td)),
      λ vs. ap (λ o. then o (recorded fs)) (gv vs [] [])
          ∙ all_made t us (part_values expression_value more vs []) value.Rec _
          (λ ws. ap (λ w. tagged w (Gives (value.Rec ws))) p.0)
          ∙ ap (tagged t) (sym (value_of-Record more vs)),
    )))

pub right_list : (line : ℕ) (names : Newest Ty) (o : Checked (List Slots × List Ty))
    (all : Checked (List Ty)) (given : AllGiving) → AreRight names [] [] o all given
    → IsRight names (o >>= λ found. members_slots line found) (all >>= λ ts. list_type line ts)
    (λ env. then (given env [] []) list_of_things)
right_list line names (Err f) all given h = ap (λ o. o >>= λ ts. list_type line ts) h
right_list line names (Ok found) all given (more, us, is, has, td, gv) =
    subst (λ found. IsRight names (members_slots line found) (all >>= λ ts. list_type line ts)
    (λ env. then (given env [] []) list_of_things)) (sym is)
    (right_made names (expr.List more) (list_type line us) _ _
    (ap (λ o. o >>= λ ts. list_type line ts) has)
    (λ t e. let p = list_is line us t e in (
      subst (typing.Typed (types names) (expr.List more)) p.type
          (typing.members (p.each (types names) more td)),
      λ vs. ap (λ o. then o list_of_things) (gv vs [] [])
          ∙ all_made t us (part_values expression_value more vs []) value.List _ p.given
          ∙ ap (tagged t) (sym (value_of-List more vs)),
    )))
