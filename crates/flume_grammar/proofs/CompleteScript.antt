-- Statements and scripts of the grammar are read.
use Rattle.std.proofs.Common.{◌≡◌, ℕ, ◌+◌, ◌≤◌, ◌<◌, length, length-append, List, [], ◌∷◌, ◌++◌, true, false, Option, Ok, refl, arith}
use Rattle.flume_tokens.specs.declared.token.Token.{Token}
use Rattle.flume_tokens.specs.declared.keyword.Keyword.TheVariants as keyword
use Rattle.flume_tokens.specs.declared.sign.Sign.TheVariants as sign
use Rattle.flume_grammar.specs.declared.tree.Body.{Body}
use Rattle.flume_grammar.specs.declared.tree.Form.TheVariants as form
use Rattle.flume_grammar.specs.declared.tree.Statement.{Statement}
use Rattle.flume_grammar.specs.inner.Out.{give, bind, one, next, all_of}
use Rattle.flume_grammar.specs.inner.Reading.{sign_at, keyword_at, text_at, comma_at, is_at_sign, numbered}
use Rattle.flume_grammar.specs.Parts.{Tree}
use Rattle.flume_grammar.specs.inner.Types.{at_comma, whole_type}
use Rattle.flume_grammar.specs.inner.Bodies.{whole_block}
use Rattle.flume_grammar.specs.inner.Statements as s
use Rattle.flume_grammar.specs.Grammar as g
use Rattle.flume_grammar.specs.Terminals.{keyword_token, mark, name_token, text_token}
use Rattle.flume_grammar.specs.Grammar.{IsOptionalNumber, AreMoreTypes, IsBlock, IsStatement, AreStatements, IsScript}
use Rattle.flume_grammar.proofs.Loops.{Reaches, reaches_start, reaches_next, reaches_end}
use Rattle.flume_grammar.proofs.Complete.{went, same_comma, shorter_numbered, shorter_type, complete_whole}
use Rattle.flume_grammar.specs.Limits.{Limits}
use Rattle.flume_grammar.proofs.Fair.{IsFair}
use Rattle.flume_grammar.proofs.CompleteBodies.{shorter_block, complete_whole_block}
use Rattle.flume_grammar.proofs.CompleteLets.{IsSettled, complete_list, complete_operation, complete_plain, complete_repeat, shorter_names, shorter_operation, shorter_repeat}

module _ (limits : Limits) (fair : IsFair limits) where
  -- ---- statements

  -- what stands before a function's body
  before_block : {us vs ws : List Token} {c : Option (List ℕ)} {ss : List Body} {a : ℕ}
      → IsOptionalNumber keyword.Scale us vs c → IsBlock limits vs ws ss a
      → (is_at_sign sign.Comma (next us) ≡ false) × (numbered keyword.Scale us ≡ Ok (c, vs))
  before_block g.absent (g.braces x) = (refl, refl)
  before_block g.present x = (refl, refl)

  complete_more : {ts us : List Token} {types : List Tree} → AreMoreTypes limits ts us types
      → 1 + length types ≤ limits.outputs
      → Reaches at_comma (s.next_type limits) (all_of at_comma (s.next_type limits) [] ts) types us
  complete_more (g.none_ {ts}) h = reaches_start at_comma (s.next_type limits) [] ts
  complete_more (g.some {n} {ts} {us} {vs} {t} {types} x w) h =
      let j = length-append types (t ∷ []) in
      let k = (shorter_type limits fair) w.spelled in
      let step : (s.next_type limits) types (mark sign.Comma n ∷ us) ≡ Ok (types ++ t ∷ [], vs) =
      went (one (comma_at (1 + length types) limits.outputs) (mark sign.Comma n ∷ us)) _ tt us _
      (same_comma (1 + length types) limits.outputs n us (omega (arith, h, j)))
      (went (whole_type limits us) _ t vs _ ((complete_whole limits fair) w) refl) in
      reaches_next at_comma (s.next_type limits) _ types (types ++ t ∷ [])
      (mark sign.Comma n ∷ us) vs (complete_more x (omega (arith, h, j))) refl step
      (omega (arith, k))

  complete_statement : {ts us : List Token} {x : Statement} → IsStatement limits ts us x
      → IsSettled us → s.statement_at limits ts ≡ Ok (x, us)
  complete_statement (g.type_ {x} {n} {m} {k} {ts} {us} {t} w) h =
      went (s.type_form limits (name_token x m ∷ mark sign.Assign k ∷ ts))
      (λ f vs. give (record { line = n; form = f }) vs) (form.Type x t) us _
      (went (whole_type limits ts) (λ z vs. give (form.Type x z) vs) t us _
      ((complete_whole limits fair) w) refl) refl
  complete_statement (g.input {x} {f} {n} {m} {k} {i} {j} {ts} {us} {t} w) h =
      went (s.input_form limits (name_token x m ∷ mark sign.Colon k ∷ ts))
      (λ z vs. give (record { line = n; form = z }) vs) (form.Input x t f) us _
      (went (whole_type limits ts) (λ z ws. bind (one (keyword_at keyword.From) ws)
      (λ _ xs. bind (one text_at xs) (λ y ys. give (form.Input x z y) ys))) t
      (keyword_token keyword.From i ∷ text_token f j ∷ us) _ ((complete_whole limits fair) w)
      refl) refl
  complete_statement (g.fn_ {x} {y} {n} {m} {k} {i} {j} {o} {p} {d} {ts} {us} {vs} {ws} {xs} {ys}
      {s = z} {t} {types} {c} {b = ss} u v w e f q l) h =
      let (no_comma, scale) = before_block f q in
      went
      ((s.function_form limits)
      (name_token x m ∷ mark sign.Open k ∷ name_token y i ∷ mark sign.Colon j ∷ ts))
      (λ e zs. give (record { line = n; form = e }) zs)
      (form.Function (record {
        name = x;
        argument = y;
        takes = z;
        gives = t;
        more = types;
        scale = c;
        body =
            ss;
      })) ys _
      (went (s.signature limits (mark sign.Open k ∷ name_token y i ∷ mark sign.Colon j ∷ ts))
      (λ e zs. bind (numbered keyword.Scale zs)
      (λ f ys. bind (whole_block limits ys)
      (λ r os. give (form.Function (record {
        name = x;
        argument = e.0;
        takes = e.1;
        gives =
            e.2;
        more = e.3;
        scale = f;
        body = r;
      })) os)))
      (y, z, t, types) ws _
      (went (whole_type limits ts) (λ e zs. bind (one (sign_at sign.Close) zs)
      (λ _ ys. bind (one (sign_at sign.Arrow) ys)
      (λ _ os. bind (whole_type limits os) (λ r ns. bind (s.more_types limits ns)
      (λ rs ms. give (y, e, r, rs) ms))))) z
      (mark sign.Close o ∷ mark sign.Arrow p ∷ us) _ ((complete_whole limits fair) u)
      (went (whole_type limits us) (λ r ns. bind (s.more_types limits ns)
      (λ rs ms. give (y, z, r, rs) ms)) t vs _ ((complete_whole limits fair) v)
      (went (s.more_types limits vs) (λ rs ms. give (y, z, t, rs) ms) types ws _
      (reaches_end at_comma (s.next_type limits) _ types ws (complete_more w e) no_comma) refl)))
      (went (numbered keyword.Scale ws) _ c xs _ scale (went (whole_block limits xs) _ ss ys _
      (complete_whole_block limits fair q l) refl))) refl
  complete_statement (g.let_ {xs} {n} {k} {ts} {us} {vs} {o} x w) h =
      went (s.let_form limits ts) (λ f ws. give (record { line = n; form = f }) ws)
      (form.Let xs o) vs _
      (went (s.names ts) _ xs (mark sign.Assign k ∷ us) _ (complete_list x refl)
      (complete_plain limits fair xs o us vs (complete_operation limits fair w h))) refl
  complete_statement (g.repeat {xs} {n} {k} {ts} {us} {vs} {r} x w) h =
      went (s.let_form limits ts) (λ f ws. give (record { line = n; form = f }) ws)
      (form.Repeat xs r) vs _
      (went (s.names ts) _ xs (mark sign.Assign k ∷ us) _ (complete_list x refl)
      (complete_repeat limits fair xs w)) refl
  complete_statement g.output h = refl

  shorter_more : {ts us : List Token} {types : List Tree} → AreMoreTypes limits ts us types
      → length us ≤ length ts
  shorter_more g.none_ = omega arith
  shorter_more (g.some x w) = let h = shorter_more x in
      let i = (shorter_type limits fair) w.spelled in omega (arith, h, i)

  shorter_statement : {ts us : List Token} {x : Statement} → IsStatement limits ts us x
      → length us < length ts
  shorter_statement (g.type_ w) = let h = (shorter_type limits fair) w.spelled in omega (arith, h)
  shorter_statement (g.input w) = let h = (shorter_type limits fair) w.spelled in omega (arith, h)
  shorter_statement (g.fn_ u v w e f q l) =
      let h = (shorter_type limits fair) u.spelled in
      let i = (shorter_type limits fair) v.spelled in
      let j = shorter_more w in
      let k = shorter_numbered f in
      let o = shorter_block limits fair q in
      omega (arith, h, i, j, k, o)
  shorter_statement (g.let_ x w) =
      let h = (shorter_names limits fair) x in
      let i = (shorter_operation limits fair) w in
      omega (arith, h, i)
  shorter_statement (g.repeat x w) =
      let h = (shorter_names limits fair) x in
      let i = (shorter_repeat limits fair) w in
      omega (arith, h, i)
  shorter_statement g.output = omega arith

  statement_begins : {ts us : List Token} {x : Statement} → IsStatement limits ts us x
      → IsSettled ts × ((ss : List Statement) → s.is_more ss ts ≡ true)
  statement_begins (g.type_ w) = ((refl, refl), (λ ss. refl))
  statement_begins (g.input w) = ((refl, refl), (λ ss. refl))
  statement_begins (g.fn_ u v w e f q l) = ((refl, refl), (λ ss. refl))
  statement_begins (g.let_ x w) = ((refl, refl), (λ ss. refl))
  statement_begins (g.repeat x w) = ((refl, refl), (λ ss. refl))
  statement_begins g.output = ((refl, refl), (λ ss. refl))

  complete_statements : {ts us : List Token} {ss : List Statement} → AreStatements limits ts us ss
      → IsSettled us
      → Reaches s.is_more (s.next_statement limits)
      (all_of s.is_more (s.next_statement limits) [] ts) ss us
  complete_statements (g.none_ {ts}) h = reaches_start s.is_more (s.next_statement limits) [] ts
  complete_statements (g.some {ts} {us} {vs} {s = x} {ss} y z) h =
      let (n, m) = statement_begins z in
      let r = complete_statements y n in
      reaches_next s.is_more (s.next_statement limits) _ ss (ss ++ x ∷ []) us vs r (m ss)
      (went (s.statement_at limits us) _ x vs _ (complete_statement z h) refl)
      (shorter_statement z)

  -- a script is read to its end
  pub complete_script : (ts : List Token) (ss : List Statement) → IsScript limits ts ss
      → s.script_at limits ts ≡ Ok (ss, [])
  complete_script ts ss x = reaches_end s.is_more (s.next_statement limits) _ ss []
      (complete_statements x (refl, refl)) refl
