-- What two scripts define, side by side.
use Rattle.std.proofs.Common.{◌≡◌, ℕ, ◌+◌, ◌≤◌, Bool, true, false, List, [], ◌∷◌, ◌++◌, length, Ok, refl, sym, ap, ◌∙◌, subst, arith, length-append}
use Rattle.std.specs.List.{AllByRecursion as Each, AllZip, flat_map}
use Rattle.flume_grammar.specs.declared.tree.Form.{Form}
use Rattle.flume_grammar.specs.declared.tree.Form.TheVariants as form
use Rattle.flume_grammar.specs.declared.tree.Operation.{Operation}
use Rattle.flume_grammar.specs.declared.tree.Repeat.{Repeat}
use Rattle.flume_grammar.specs.declared.tree.Statement.{Statement}
use Rattle.flume_grammar.specs.declared.tree.TurnLet.{TurnLet}
use Rattle.script_keys.specs.Outlines.{called_in, callees, operand_names, outline_of, read_in}
use Rattle.script_keys.specs.Rests.{belongs_by, defines, holds_name, is_defined, is_named, names_before, name_alone, rested_on, with_named}
use Rattle.script_keys.specs.declared.outline.Outline.{Outline}
use Rattle.script_keys.specs.declared.rests.Names.{Names}
use Rattle.script_program.specs.Script.{State, with_statement}
use Rattle.direct_meaning.specs.of_script_rules.Rules as spec
use Rattle.direct_meaning.proofs.of_script_rules.CheckedLemmas.{both, ok-same}
use Rattle.statement_law.specs.Outlined.{outlines_of}
use Rattle.key_meaning.proofs.Adding.{Asked, SameLet}
use Rattle.key_meaning.proofs.Aligning.{Aligned, HasSameFile, away_named, away_names, ended, if_true, kept, kept_defined, left, right_, same_defined, same_names, wider}
use Rattle.key_meaning.proofs.Alike.{IsAlike, Pairs}
use Rattle.key_meaning.proofs.Forms.{SameForm, function_, input_, let_, output_, repeat_, same_form, type_}
use Rattle.key_meaning.proofs.Keeping.{Grown, alike_fewer, each_itself, each_more, has_left, has_right, input_grown, let_grown, type_grown}
use Rattle.key_meaning.proofs.Functions.{function_grown}
use Rattle.key_meaning.proofs.Lists.{along}
use Rattle.key_meaning.proofs.Skipping.{Adds, is_type, keeps_all, keeps_others, rule_adds, still_alike}
use Rattle.key_meaning.proofs.Standing.{or-later}
use Rattle.key_meaning.proofs.Turning.{turning_grown, with_lets}

-- ---- pairs ascend on both sides, and are below two numbers

pub data Rises : Pairs → ℕ → ℕ → Type 0 where
  none : {k l : ℕ} → Rises [] k l
  more : {pairs : Pairs} {k l m n above above_ : ℕ} (j : ℕ) → Rises pairs k l → k ≤ m → l ≤ n
      → m + j ≤ above → n + j ≤ above_ → Rises (pairs ++ along m n j) above above_

pub rises_more : {pairs : Pairs} {k l : ℕ} (m n : ℕ) → Rises pairs k l → k ≤ m → l ≤ n
    → Rises pairs m n
rises_more m n none here there = none
rises_more m n (more {pairs} {k} {l} {m = a} {n = b} {above} {above_} j rises x y p q) here
    there =
    more j rises x y (omega arith) (omega arith)

-- ---- a statement that both have

-- what a let reads and calls is among the names before it
asked_by : (SameFile : List ℕ → Type 0) (names : Names) (by : Operation)
    → Asked SameFile
    (record {
      collections = names.collections ++ operand_names by;
      functions = names.functions ++ callees by;
    }) by
asked_by SameFile names by = (
  each_more (operand_names by) (names.collections ++ operand_names by) (operand_names by)
      (has_right names.collections (operand_names by)) (each_itself (operand_names by)),
  each_more (callees by) (names.functions ++ callees by) (callees by)
      (has_right names.functions (callees by)) (each_itself (callees by)),
)

each_of : (lets : List TurnLet) (all calls : List (List ℕ))
    → ((name : List ℕ) → holds_name (flat_map (λ own. operand_names own.by) lets) name ≡ true
    → holds_name all name ≡ true)
    → ((name : List ℕ) → holds_name (flat_map (λ own. callees own.by) lets) name ≡ true
    → holds_name calls name ≡ true)
    → Each (λ (it : TurnLet). Each (λ name. holds_name all name ≡ true) (operand_names it.by)
    × Each (λ name. holds_name calls name ≡ true) (callees it.by)) lets
each_of [] all calls wide wide_ = tt
each_of (it ∷ lets) all calls wide wide_ =
    let reads = flat_map (λ (own : TurnLet). operand_names own.by) lets in
    let called = flat_map (λ (own : TurnLet). callees own.by) lets in (
      (
        each_more (operand_names it.by) all (operand_names it.by)
            (λ name is. wide name (has_left (operand_names it.by) reads name is))
            (each_itself (operand_names it.by)),
        each_more (callees it.by) calls (callees it.by)
            (λ name is. wide_ name (has_left (callees it.by) called name is))
            (each_itself (callees it.by)),
      ),
      each_of lets all calls
          (λ name is. wide name (has_right (operand_names it.by) reads name is))
          (λ name is. wide_ name (has_right (callees it.by) called name is)),
    )

-- what belongs to a key and is no type defines one of its names
kept_named : (names : Names) (found : Bool) (f : Form)
    → belongs_by names found (outline_of f) ≡ true → is_type f ≡ false
    → is_named names (outline_of f) ≡ true
kept_named names found (form.Type name type) is no_type = cc
kept_named names found _ is no_type = is

-- a type that stands before the collection belongs to its key
type_away : (names : Names) (found : Bool) (f : Form)
    → belongs_by names found (outline_of f) ≡ false → found ≡ true → is_type f ≡ false
type_away names found (form.Type name type) away is = cc
type_away names found _ away is = refl

module _ (SameFile : List ℕ → Type 0) (pairs : Pairs) (s r : State) (types : s.types ≡ r.types)
    (line other : ℕ) (after behind : State) (names : Names) where
  abbrev With : Outline → Type 0
  With it = IsAlike SameFile (names_before names it) pairs s r

  abbrev Grows : Outline → Type 0
  Grows it = Grown SameFile (names_before names it) pairs s r after behind

  let_asked : (own : List (List ℕ)) (by : Operation)
      → is_named names (outline_of (form.Let own by)) ≡ true
      → Asked SameFile (names_before names (outline_of (form.Let own by))) by
  let_asked own by is =
      subst (λ ns. Asked SameFile ns by)
      (sym (if_true (is_named names (outline_of (form.Let own by)))
      (with_named names (outline_of (form.Let own by))) names is))
      (asked_by SameFile names by)

  repeat_names : (own : List (List ℕ)) (w : Repeat)
      → is_named names (outline_of (form.Repeat own w)) ≡ true
      → names_before names (outline_of (form.Repeat own w))
      ≡ with_named names (outline_of (form.Repeat own w))
  repeat_names own w is =
      if_true (is_named names (outline_of (form.Repeat own w)))
      (with_named names (outline_of (form.Repeat own w))) names is

  repeat_by : (own : List (List ℕ)) (w : Repeat) (lets : List TurnLet)
      → AllZip SameLet w.lets lets → is_named names (outline_of (form.Repeat own w)) ≡ true
      → With (outline_of (form.Repeat own w)) → spec.rule_repeat line own w s ≡ Ok after
      → spec.rule_repeat other own (with_lets w lets) r ≡ Ok behind
      → Grows (outline_of (form.Repeat own w))
  repeat_by own w lets same is alike e h =
      let reads = flat_map (λ (own_ : TurnLet). operand_names own_.by) w.lets in
      let before = with_named names (outline_of (form.Repeat own w)) in
      -- what a repeat reads is among these
      let wide = has_right names.collections (read_in w) in
      let among_before = repeat_names own w is in
      subst (λ ns. Grown SameFile ns pairs s r after behind) (sym among_before)
      (turning_grown SameFile before pairs s r
      (subst (λ ns. IsAlike SameFile ns pairs s r) among_before alike) types line other own w lets
      same
      (each_more w.from before.collections w.from
      (λ name among. wide name
      (has_left (w.from ++ reads) w.gives name (has_left w.from reads name among)))
      (each_itself w.from))
      (each_of w.lets before.collections before.functions
      (λ name among. wide name
      (has_left (w.from ++ reads) w.gives name (has_right w.from reads name among)))
      (has_right names.functions (called_in w)))
      (each_more w.gives before.collections w.gives
      (λ name among. wide name (has_right (w.from ++ reads) w.gives name among))
      (each_itself w.gives))
      after behind e h)

  -- by its form, where these names are rested on behind it
  form_grown : {f g : Form} → SameForm f g → HasSameFile SameFile f
      → (is_type f ≡ false → is_named names (outline_of f) ≡ true) → With (outline_of f)
      → spec.rule line f s ≡ Ok after → spec.rule other g r ≡ Ok behind → Grows (outline_of f)
  form_grown (type_ {name} {type}) file is alike e h =
      type_grown SameFile names pairs s r alike types line other name type after behind e h
  form_grown (input_ {name} {type} {file = own}) file is alike e h =
      input_grown SameFile (names_before names (outline_of (form.Input name type own))) pairs s r
      alike types line other name type own file after behind e h
  form_grown (function_ {f} {g} same) file is alike e h =
      function_grown SameFile (names_before names (outline_of (form.Function f))) pairs s r alike
      types line other f g same after behind e h
  form_grown (let_ {names = own} {by}) file is alike e h =
      let_grown SameFile (names_before names (outline_of (form.Let own by))) pairs s r alike
      types line other own by (let_asked own by (is refl)) after behind e h
      ((rule_adds line s after (form.Let own by) e).types refl)
      ((rule_adds other r behind (form.Let own by) h).types refl)
  form_grown (repeat_ {names = own} {w} {lets} same) file is alike e h =
      repeat_by own w lets same (is refl) alike e h
  form_grown (output_ {name} {file = own}) file is alike e h =
      let wrong : false ≡ true = is refl in
      cc

-- ---- all statements

pub record Meets (SameFile : List ℕ → Type 0) (name : List ℕ) (s r : State) : Type 0 where
  pub pairs : Pairs
  pub alike : IsAlike SameFile (name_alone name) pairs s r
  pub rises : Rises pairs (length s.nodes) (length r.nodes)

module _ (SameFile : List ℕ → Type 0) (name : List ℕ) where
  abbrev rested : List Statement → Names
  rested ss = rested_on name (outlines_of ss)

  abbrev is_to_come : List Statement → Bool
  is_to_come ss = is_defined name (outlines_of ss)

  left_counted : (names : Names) (pairs : Pairs) (s r : State) → IsAlike SameFile names pairs s r
      → IsAlike SameFile names pairs (with_statement s) r
  left_counted names pairs s r alike = record {
    collections = alike.collections;
    functions = alike.functions;
    paired = alike.paired;
  }

  right_counted : (names : Names) (pairs : Pairs) (s r : State)
      → IsAlike SameFile names pairs s r → IsAlike SameFile names pairs s (with_statement r)
  right_counted names pairs s r alike = record {
    collections = alike.collections;
    functions = alike.functions;
    paired = alike.paired;
  }

  longer : (form : Form) (s after : State) → Adds form s after
      → length s.nodes ≤ length after.nodes
  longer form s after adds =
      omega (arith, ap length adds.nodes, length-append s.nodes adds.more)

  pub go_on : {ss rs : List Statement} → Aligned SameFile name ss rs → (pairs : Pairs)
      (s r : State) → IsAlike SameFile (rested ss) pairs s r
      → Rises pairs (length s.nodes) (length r.nodes)
      → (is_to_come ss ≡ true → s.types ≡ r.types) → (after behind : State)
      → spec.defined ss s ≡ Ok after → spec.defined rs r ≡ Ok behind
      → Meets SameFile name after behind
  go_on ended pairs s r alike rises types after behind e h =
      subst (λ b. Meets SameFile name after b) (ok-same r behind h)
      (subst (λ a. Meets SameFile name a r) (ok-same s after e)
      (record { pairs = pairs; alike = alike; rises = rises }))
  go_on (left {s = first} {ss} {rs} away others) pairs s r alike rises types after behind e h =
      let it = outline_of first.form in
      let next = both (spec.rule first.line first.form s) _ after e in
      let adds = rule_adds first.line s next.part first.form next.first in
      let unnamed = away_named (rested ss) (is_to_come ss) it away in
      go_on others pairs (with_statement next.part) r
      (left_counted (rested ss) pairs next.part r
      (still_alike SameFile (rested ss) pairs s r next.part r
      (keeps_others (rested ss) first.form s next.part unnamed adds) (keeps_all (rested ss) r)
      (subst (λ ns. IsAlike SameFile ns pairs s r)
      (away_names (rested ss) (is_to_come ss) it away) alike)))
      (rises_more (length next.part.nodes) (length r.nodes) rises
      (longer first.form s next.part adds) (omega arith))
      (λ is. adds.types (type_away (rested ss) (is_to_come ss) first.form away is)
      ∙ types (or-later (defines it name) (is_to_come ss) is))
      after behind next.then h
  go_on (right_ {r = first} {ss} {rs} away others) pairs s r alike rises types after behind e h =
      let it = outline_of first.form in
      let next = both (spec.rule first.line first.form r) _ behind h in
      let adds = rule_adds first.line r next.part first.form next.first in
      let unnamed =
      ap (λ ns. is_named ns it) (same_names SameFile name others)
      ∙ away_named (rested rs) (is_to_come rs) it away in
      go_on others pairs s (with_statement next.part)
      (right_counted (rested ss) pairs s next.part
      (still_alike SameFile (rested ss) pairs s r s next.part (keeps_all (rested ss) s)
      (keeps_others (rested ss) first.form r next.part unnamed adds) alike))
      (rises_more (length s.nodes) (length next.part.nodes) rises (omega arith)
      (longer first.form r next.part adds))
      (λ is. types is
      ∙ sym (adds.types (type_away (rested rs) (is_to_come rs) first.form away
      (sym (same_defined SameFile name others) ∙ is))))
      after behind e next.then
  go_on (kept {s = first} {r = second} {ss} {rs} is same file others) pairs s r alike rises types
      after behind e h =
      let it = outline_of first.form in
      let next = both (spec.rule first.line first.form s) _ after e in
      let next_ = both (spec.rule second.line second.form r) _ behind h in
      let grown =
      form_grown SameFile pairs s r (types (kept_defined name (outlines_of ss) it is)) first.line
      second.line next.part next_.part (rested ss)
      (same_form first.form second.form (ap (λ (x : Statement). x.form) same)) file
      (kept_named (rested ss) (is_to_come ss) first.form is) alike next.first next_.first in
      let all = pairs ++ along (length s.nodes) (length r.nodes) grown.many in
      go_on others all (with_statement next.part) (with_statement next_.part)
      (left_counted (rested ss) all next.part (with_statement next_.part)
      (right_counted (rested ss) all next.part next_.part
      (alike_fewer SameFile (names_before (rested ss) it) (rested ss) all next.part next_.part
      (wider (rested ss) it).collections (wider (rested ss) it).functions grown.alike)))
      (more {m = length s.nodes} {n = length r.nodes} grown.many rises (omega arith)
      (omega arith) (omega (arith, grown.here)) (omega (arith, grown.there)))
      (λ to_come. grown.types) after behind next.then next_.then
