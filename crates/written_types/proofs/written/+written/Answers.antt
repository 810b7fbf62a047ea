use Rattle.std.proofs.Common.{◌≡◌, ◌+◌, ◌++◌, ◌∷◌, [], ◌⊎◌, ◌≤◌, inl, inr, not, length, map, drop, Ok, sym, ap, ◌∙◌, subst, arith}
use Rattle.std.proofs.lemmas.Bool.{cases_lt}
use Rattle.std.proofs.lemmas.Result.{err_from_is_err_and}
use Rattle.flume_types.specs.declared.types.Ty.TheVariants as ty
use Rattle.flume_grammar.specs.declared.fault.ScriptKind.TheVariants.{Twice}
use Rattle.type_table.specs.declared.shape.Part.{Part}
use Rattle.type_table.specs.Table.{type_at, field_at}
use Rattle.type_table.proofs.TableLemmas.{Extends-twice}
use Rattle.written_types.specs.Answer.{◌>>=◌, Fails, unless}
use Rattle.written_types.specs.Written.{has_field, fields_behind, written}
use Rattle.written_types.proofs.FailsLemmas.{Fails-first, Fails-same}
use Rattle.written_types.proofs.NamedLemmas.{below-push}
use Rattle.written_types.proofs.WrittenLemmas.{written-fields, no-more, name-fails, goes-on, field-more}
use Rattle.written_types.proofs.written.+written.Goals as goal

pub fields-returns-in_err-unused-clause-gives : goal.fields-returns-in_err-unused-clause-gives
fields-returns-in_err-unused-clause-gives t c =
    let p = err_from_is_err_and c.from_residual.result c.from_residual.ensures.1 in
    let line = c.args.line in
    let ts = c.loop-i.known.types in
    let e = c.in_err-unused.field-0.0 in
    let used =
    subst
    (λ parts. Fails e
    (unless line Twice (not (has_field c.index-names-i.result (map (field_at ts) parts)))))
    c.as_slice.ensures (c.in_err-unused.ensures ts) in
    rw (p.1, p.2)
    (Fails-same e _ _ (sym c.loop-i.invariant.gives)
    (name-fails line (map (field_at ts) c.loop-i.fields) c.args.names.now c.args.types.now
    c.args.known.now.names c.loop-i.i c.index-names-i.result c.index-types-i.result
    (omega arith) (omega arith) c.index-names-i.is c.index-types-i.is e used))

pub fields-loop-i-preserved : goal.fields-loop-i-preserved
fields-loop-i-preserved t c =
    let line = c.args.line in
    let ts = c.loop-i.known.types in
    let known = c.args.known.now.names in
    let new = c.written.new.known.types in
    let part : Part = record { name = c.in_ok-name.name; ty = c.in_ok-ty.ty } in
    let is = c.loop-i.invariant in
    let unused =
    subst
    (λ parts.
    unless line Twice (not (has_field c.index-names-i.result (map (field_at ts) parts)))
    ≡ Ok tt)
    c.as_slice.ensures (c.in_ok-unused.ensures ts) in
    let meant : written line c.index-types-i.result known ≡ Ok (type_at new c.in_ok-ty.ty) =
    ap (written line c.index-types-i.result) (sym is.names) ∙ c.in_ok-ty.ensures.gives in
    let grown =
    field-more ts new c.written.ensures.extends c.loop-i.fields c.push.new.self part
    c.in_ok-push.ensures.ok is.within in
    let named =
    ap
    (λ name. map (field_at ts) c.loop-i.fields
    ++ record { name = name; ty = type_at new c.in_ok-ty.ty } ∷ [])
    c.in_ok-name.ensures.made in
    record {
      gives =
          ap
          (λ fields. fields_behind line (written line) fields
          (drop (c.loop-i.i + 1) c.args.names.now) (drop (c.loop-i.i + 1) c.args.types.now)
          known)
          (grown ∙ named)
          ∙ sym
          (goes-on line (map (field_at ts) c.loop-i.fields) c.args.names.now c.args.types.now
          known c.loop-i.i c.index-names-i.result c.index-types-i.result (omega arith)
          (omega arith) c.index-names-i.is c.index-types-i.is (type_at new c.in_ok-ty.ty) unused
          meant)
          ∙ is.gives;
      within =
          below-push (λ (part : Part). part.ty) ts new c.written.ensures.extends c.loop-i.fields
          c.push.new.self part c.in_ok-push.ensures.ok is.within c.in_ok-ty.ensures.within;
      extends = Extends-twice c.args.known.now.types ts new is.extends c.written.ensures.extends;
      names = c.written.ensures.names ∙ is.names;
    }

pub fields-returns-clause-gives : goal.fields-returns-clause-gives
fields-returns-clause-gives t c =
    let out : (length c.args.names.now ≤ c.loop-i.i) ⊎ (length c.args.types.now ≤ c.loop-i.i) =
    elim (cases_lt c.loop-i.i (length c.args.names.now)) [
      | inl lt ↦ inr (omega arith)
      | inr le ↦ inl le
    ] in
    sym c.loop-i.invariant.gives
    ∙ no-more c.args.line (map (field_at c.loop-i.known.types) c.loop-i.fields) c.args.names.now
    c.args.types.now c.args.known.now.names c.loop-i.i out

pub written-returns-in_err-fields-in-Record-clause-gives :
    goal.written-returns-in_err-fields-in-Record-clause-gives
written-returns-in_err-fields-in-Record-clause-gives t c =
    let from = c.from_residual-in_err-fields-in-Record in
    let p = err_from_is_err_and from.result from.ensures.1 in
    let e = c.in_err-fields-in-Record.field-0.0 in
    rw (p.1, p.2)
    (Fails-same e _ _
    (written-fields c.args.line c.args.ty.now c.in-Record.names c.as_slice.result.now
    c.in-Record.types c.as_slice-in-Record.result.now c.args.known.now.names c.in-Record.is
    c.as_slice.ensures c.as_slice-in-Record.ensures)
    (Fails-first e _ _ c.in_err-fields-in-Record.ensures.gives))

pub written-returns-in_ok-id-in-Record-clause-gives :
    goal.written-returns-in_ok-id-in-Record-clause-gives
written-returns-in_ok-id-in-Record-clause-gives t c =
    written-fields c.args.line c.args.ty.now c.in-Record.names c.as_slice.result.now
    c.in-Record.types c.as_slice-in-Record.result.now c.args.known.now.names c.in-Record.is
    c.as_slice.ensures c.as_slice-in-Record.ensures
    ∙ ap (λ fields. fields >>= λ fields. Ok (ty.Rec fields)) c.in_ok-fields-in-Record.ensures.gives
    ∙ ap Ok (sym c.in_ok-id-in-Record.ensures.ok)
